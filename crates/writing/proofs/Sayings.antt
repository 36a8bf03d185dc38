-- Some line gives a rule exactly where its parts are in range, apart, and allowed by the letter.
use Rattle.std.proofs.Common.{◌≡◌, ℕ, zero, suc, length, take, Some, None, Option, MatchOption, ◌*◌, ◌/◌, ◌^◌, ◌<◌, ◌≤◌, Bool, true, false, not, ◌&&◌, ◌||◌, List, [], ◌∷◌, ◌++◌, sym, refl, ap, ◌∙◌, subst, ⊎_elim, zero-mul, arith}
use Rattle.std.specs.List.{AllByRecursion, AllWithin, HoldsAt, slice_get}
use Rattle.std.proofs.lemmas.List.{take_all}
use Rattle.std.proofs.lemmas.Nat.{shr_split, mod_below, pow_pos}
use Rattle.std.proofs.lemmas.Bool.{cases_lt, both_ways, cases_Bool, cases_eq, eqb-true, or_cases, and_parts}
use Rattle.std.proofs.lemmas.Bool.Decides.{nat_tests}
use Rattle.ladders.specs.Sets.{holds}
use Rattle.ladders.proofs.Sets.{none-past}
use Rattle.rules.specs.declared.rule.Effect.TheVariants.{Permit}
use Rattle.rules.specs.declared.rule.Rule.{Rule}
use Rattle.rules.specs.declared.letter.Letter.TheVariants.{Guarded}
use Rattle.rulefile.specs.declared.grammar.Grammar.{Grammar}
use Rattle.rulefile.specs.declared.grammar.Name.{Name}
use Rattle.rulefile.specs.declared.grammar.Name.TheVariants.{Condition, Post}
use Rattle.rulefile.specs.declared.grammar.Item.{Item}
use Rattle.rulefile.specs.Items.{any, same_name, is_post, plain_digit, Within, Follow, Means, Spells}
use Rattle.rulefile.proofs.Readings.{plain-some}
use Rattle.rulefile.proofs.LineLaw.{follow-known}
use Rattle.writing.specs.Written.{written_items, line_of}
use Rattle.writing.specs.Writes.{Sayable}
use Rattle.writing.specs.Steps.{Named, Below, CanSay}
use Rattle.writing.proofs.Orderly.{marked, allowed-from, any_append, written-follows, written-means}

pub same-name : (x y : Name) → same_name x y ≡ true → x ≡ y
same-name (Condition c) (Condition d) h = ap Condition (eqb-true c d h)
same-name (Condition c) (Post p) h = absurd (both_ways false refl h)
same-name (Post p) (Condition c) h = absurd (both_ways false refl h)
same-name (Post p) (Post q) h = ap Post (eqb-true p q h)

-- an item that passes, and that follows others
passing : (g : Grammar) (f : Item → Bool) (before is : List Item) → Follow g before is → any f is ≡ true → (i : Item) × ((f i ≡ true) × (Within g i.name × (i.barred ≡ true → g.letter ≡ Guarded)))
passing g f before [] h e = absurd (both_ways false refl e)
passing g f before (i ∷ is) h e =
    ⊎_elim (λ (p : f i ≡ true). (i, (p, (h.0.within, h.0.bar)))) (λ (p : any f is ≡ true). passing g f (before ++ (i ∷ [])) is h.1 p) (or_cases (f i) (any f is) e)

-- what is named before is not named again
pub named-before : (g : Grammar) (y : Name) (before is : List Item) → Follow g before is → any (λ i. same_name i.name y) before ≡ true → any (λ i. same_name i.name y) is ≡ true → ⊥
named-before g y before [] h e k = both_ways false refl k
named-before g y before (i ∷ is) h e k =
    let longer = any_append (λ j. same_name j.name y) before (i ∷ []) in
    let rest = named-before g y (before ++ (i ∷ [])) is h.1 in
    ⊎_elim
    (λ (p : same_name i.name y ≡ true). let new = subst (λ x. (any (λ j. same_name j.name x) before || (plain_digit i && any plain_digit before)) ≡ false) (same-name i.name y p) h.0.new in grind (arith, nat_tests))
    (λ (p : any (λ i. same_name i.name y) is ≡ true). rest (grind (arith, nat_tests)) p)
    (or_cases (same_name i.name y) (any (λ i. same_name i.name y) is) k)

-- what is named under a test is named
pub tested-named : (b : Item → Bool) (y : Name) (is : List Item) → any (λ i. b i && same_name i.name y) is ≡ true → any (λ i. same_name i.name y) is ≡ true
tested-named b y [] h = h
tested-named b y (i ∷ is) h = let rest = tested-named b y is in grind (arith, nat_tests)

-- a line names nothing both plain and barred
named-once : (g : Grammar) (y : Name) (before is : List Item) → Follow g before is → any (λ i. not i.barred && same_name i.name y) is ≡ true → any (λ i. i.barred && same_name i.name y) is ≡ true → ⊥
named-once g y before [] h p q = both_ways false refl p
named-once g y before (i ∷ is) h p q =
    let longer = any_append (λ j. same_name j.name y) before (i ∷ []) in
    let again = named-before g y (before ++ (i ∷ [])) is h.1 in
    let plain = tested-named (λ i. not i.barred) y is in
    let bars = tested-named (λ i. i.barred) y is in
    let rest = named-once g y (before ++ (i ∷ [])) is h.1 in grind (arith, nat_tests)

-- A floor post other than 0 is named plain.
pub floor-named : (is : List Item) (t : Rule) → Means is t → (t.floor ≡ 0 → ⊥) → any (λ i. not i.barred && is_post t.floor i.name) is ≡ true
floor-named is t m ne =
    ⊎_elim
    (λ (e : any plain_digit is ≡ true). let (p, q) = plain-some is e in subst (λ k. any (λ i. not i.barred && is_post k i.name) is ≡ true) (sym (m.floor p q)) q)
    (λ (e : any plain_digit is ≡ false). absurd (ne (m.ground e)))
    (cases_Bool (any plain_digit is))

module _ (g : Grammar) (t : Rule) (some : 1 ≤ g.posts) (is : List Item) (f : Follow g [] is) (m : Means is t) where
  -- an item that passes a test on bar and name
  found : (b : Item → Bool) (y : Name) → any (λ i. b i && same_name i.name y) is ≡ true → (i : Item) × ((b i ≡ true) × (Within g y × (i.barred ≡ true → g.letter ≡ Guarded)))
  found b y e =
      let (i, (p, (w, k))) = passing g (λ i. b i && same_name i.name y) [] is f e in
      let both = and_parts (b i) (same_name i.name y) p in
      (i, (both.0, (subst (Within g) (same-name i.name y both.1) w, k)))

  barred-found : (y : Name) → any (λ i. i.barred && same_name i.name y) is ≡ true → Within g y × (g.letter ≡ Guarded)
  barred-found y e = let (i, (b, (w, k))) = found (λ i. i.barred) y e in (w, k b)

  pub can-say : (g.letter ≡ Guarded → t.effect ≡ Permit) → CanSay g t
  can-say mark =
      record {
        range =
            record {
              floor =
                  ⊎_elim (λ (e : t.floor ≡ 0). omega arith) (λ ne. (found (λ i. not i.barred) (Post t.floor) (floor-named is t m ne)).1.1.0) (cases_eq t.floor 0);
              needed = λ c h. (found (λ i. not i.barred) (Condition c) (sym (m.needed c) ∙ h)).1.1.0;
              barred = λ c h. (barred-found (Condition c) (sym (m.barred c) ∙ h)).0;
              posts = λ p h. (barred-found (Post p) (sym (m.posts p) ∙ h)).0;
            };
        once =
            record {
              conditions = λ c h. let needed = m.needed c in let bars = m.barred c in let once = named-once g (Condition c) [] is f in grind (arith, nat_tests);
              posts = λ h. let bars = m.posts t.floor in let floor = floor-named is t m (λ z. omega arith) in let once = named-once g (Post t.floor) [] is f in grind (arith, nat_tests);
            };
        allowed =
            allowed-from t g.letter mark (λ c h. (barred-found (Condition c) (sym (m.barred c) ∙ h)).1) (λ p h. (barred-found (Post p) (sym (m.posts p) ∙ h)).1);
      }

pub sayable-can : (g : Grammar) (t : Rule) → 1 ≤ g.posts → Sayable g t → CanSay g t
sayable-can g t some (x, s) = can-say g t some s.items s.follow s.means s.mark

-- The line that is written gives the rule.
pub written-spells : (g : Grammar) (t : Rule) → g.posts ≤ 8 → g.conditions ≤ 9 → CanSay g t → Spells g (line_of t) t
unfolding line_of
written-spells g t few-posts few s =
    record { items = written_items t; bytes = refl; mark = marked t g.letter s.allowed; follow = written-follows g t few-posts few s; means = written-means g t few-posts few s }

pub can-sayable : (g : Grammar) (t : Rule) → g.posts ≤ 8 → g.conditions ≤ 9 → CanSay g t → Sayable g t
can-sayable g t few-posts few s = (line_of t, written-spells g t few-posts few s)

-- Where lines give the rules, each of their items has a letter or digit.
pub all-named : (g : Grammar) → 1 ≤ g.posts → g.posts ≤ 8 → g.conditions ≤ 9 → (ts : List Rule) → AllByRecursion (Sayable g) ts → AllByRecursion Named ts
all-named g some few-posts few [] h = tt
all-named g some few-posts few (t ∷ ts) h =
    (follow-known g [] (written_items t) (written-follows g t few-posts few (sayable-can g t some h.0)), all-named g some few-posts few ts h.1)

-- the members of a set that is shifted out are all below
pub shifted-out : (a k : ℕ) → a / 2 ^ k ≡ 0 → Below a k
shifted-out a k z c h =
    let whole = shr_split a k in
    let none : a / 2 ^ k * 2 ^ k ≡ 0 = ap (λ x. x * 2 ^ k) z ∙ zero-mul (2 ^ k) in
    let low = mod_below a (2 ^ k) (pow_pos k) in
    ⊎_elim (λ (lt : c < k). lt) (λ (le : k ≤ c). absurd (both_ways (holds a c) (none-past a k c (omega arith) le) h)) (cases_lt c k)

-- The first rule that no line gives, by its place.
front-all : (P : Rule → Type 0) (ts : List Rule) (k : ℕ) → AllWithin P ts 0 k → AllByRecursion P (take k ts)
front-all P ts zero h = tt
front-all P [] (suc k) h = tt
front-all P (t ∷ ts) (suc k) h = (h 0 t (omega arith) (omega arith), front-all P ts k (λ j d lo lt. h (suc j) d (omega arith) (omega arith)))

found-at : (P : Rule → Type 0) (ts : List Rule) (k : ℕ) → k < length ts → HoldsAt P ts k → (t : Rule) × ((slice_get ts k ≡ Some t) × P t)
found-at P [] k lt h = absurd (omega arith)
found-at P (t ∷ ts) zero lt h = (t, (refl, h t))
found-at P (t ∷ ts) (suc k) lt h = found-at P ts k (omega arith) h

pub first-unsaid : (g : Grammar) (ts : List Rule) (r : Option ℕ)
    → MatchOption r (AllWithin (Sayable g) ts 0 (length ts)) (λ k. (k < length ts) × HoldsAt (λ t. Sayable g t → ⊥) ts k × AllWithin (Sayable g) ts 0 k)
    → MatchOption r (AllByRecursion (Sayable g) ts) (λ k. AllByRecursion (Sayable g) (take k ts) × ((t : Rule) × ((slice_get ts k ≡ Some t) × (Sayable g t → ⊥))))
first-unsaid g ts None h = subst (AllByRecursion (Sayable g)) (take_all (length ts) ts (omega arith)) (front-all (Sayable g) ts (length ts) h)
first-unsaid g ts (Some k) h = (front-all (Sayable g) ts k h.2, found-at (λ t. Sayable g t → ⊥) ts k h.0 h.1)
