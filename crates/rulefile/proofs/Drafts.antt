-- What a draft holds after the items of a line: by its bits it tells the items that name a thing again, and the rule that they mean.
use Rattle.std.proofs.Common.{◌≡◌, ℕ, ◌^◌, Bool, true, false, not, ◌&&◌, ◌||◌, eqb, List, [], ◌∷◌, ◌++◌, is_some, Some, None, Option, unwrap_or, sym, refl, ap, ◌∙◌, ap₂, ⊎_elim, append_assoc, append-nil}
use mathlib.Core.Bool.{and_comm, or_assoc, or_comm, or-false, or-true}
use lib.Bits.{bit_or}
use Rattle.std.proofs.lemmas.Bool.{eqb-true, or_parts, and_cases, both_ways}
use Rattle.ladders.specs.Sets.{holds}
use Rattle.ladders.proofs.Sets.{or-holds, power-holds, zero-holds}
use Rattle.rules.specs.declared.rule.Effect.{Effect}
use Rattle.rulefile.specs.declared.grammar.Grammar.{Grammar}
use Rattle.rulefile.specs.declared.grammar.Name.{Name}
use Rattle.rulefile.specs.declared.grammar.Name.TheVariants.{Condition, Post}
use Rattle.rulefile.specs.declared.grammar.Item.{Item}
use Rattle.rulefile.specs.declared.draft.Draft.{Draft}
use Rattle.rulefile.specs.Items.{any, same_name, is_condition, is_post, plain_digit, digit, again, item, Fits, Follow, Means}
use Rattle.rulefile.specs.Steps.{fresh, repeats_floor, repeats, with_name, with_item, finished}

-- The draft after the items.
abbrev pub drafted : Draft → List Item → Draft
drafted d [] = d
drafted d (i ∷ is) = drafted (with_item d i) is

-- A thing that each item may add to the draft: it is there after the items where it was there before or an item adds it.
module _ (has : Draft → Bool) (adds : Item → Bool) (step : (d : Draft) (i : Item) → has (with_item d i) ≡ (has d || adds i)) where
  pub gathered : (d : Draft) (is : List Item) → has (drafted d is) ≡ (has d || any adds is)
  gathered d [] = sym (or-false (has d))
  gathered d (i ∷ is) = gathered (with_item d i) is ∙ ap (λ b. b || any adds is) (step d i) ∙ or_assoc (has d) (adds i) (any adds is)

bit-more : (s c d : ℕ) → holds (bit_or s (2 ^ d)) c ≡ (holds s c || eqb d c)
bit-more s c d = or-holds s (2 ^ d) c ∙ ap (λ b. holds s c || b) (power-holds d c)

needs : ℕ → Item → Bool
needs c i = not i.barred && is_condition c i.name

needed-step : (c : ℕ) (d : Draft) (p : Bool) (x : Name) → holds (with_name d p x).needed c ≡ (holds d.needed c || (not p && is_condition c x))
needed-step c d true (Condition k) = sym (or-false (holds d.needed c))
needed-step c d false (Condition k) = bit-more d.needed c k
needed-step c d true (Post q) = sym (or-false (holds d.needed c))
needed-step c d false (Post q) = sym (or-false (holds d.needed c))

barred-step : (c : ℕ) (d : Draft) (p : Bool) (x : Name) → holds (with_name d p x).barred c ≡ (holds d.barred c || (p && is_condition c x))
barred-step c d true (Condition k) = bit-more d.barred c k
barred-step c d false (Condition k) = sym (or-false (holds d.barred c))
barred-step c d true (Post q) = sym (or-false (holds d.barred c))
barred-step c d false (Post q) = sym (or-false (holds d.barred c))

posts-step : (c : ℕ) (d : Draft) (p : Bool) (x : Name) → holds (with_name d p x).barred_posts c ≡ (holds d.barred_posts c || (p && is_post c x))
posts-step c d true (Condition k) = sym (or-false (holds d.barred_posts c))
posts-step c d false (Condition k) = sym (or-false (holds d.barred_posts c))
posts-step c d true (Post q) = bit-more d.barred_posts c q
posts-step c d false (Post q) = sym (or-false (holds d.barred_posts c))

some-step : (d : Draft) (p : Bool) (x : Name) → is_some (with_name d p x).floor ≡ (is_some d.floor || (not p && digit x))
some-step d true (Condition k) = sym (or-false (is_some d.floor))
some-step d false (Condition k) = sym (or-false (is_some d.floor))
some-step d true (Post q) = sym (or-false (is_some d.floor))
some-step d false (Post q) = sym (or-true (is_some d.floor))

pub needed-items : (c : ℕ) (d : Draft) (is : List Item) → holds (drafted d is).needed c ≡ (holds d.needed c || any (λ i. not i.barred && is_condition c i.name) is)
needed-items c = gathered (λ d. holds d.needed c) (λ i. not i.barred && is_condition c i.name) (λ d i. needed-step c d i.barred i.name)

pub barred-items : (c : ℕ) (d : Draft) (is : List Item) → holds (drafted d is).barred c ≡ (holds d.barred c || any (λ i. i.barred && is_condition c i.name) is)
barred-items c = gathered (λ d. holds d.barred c) (λ i. i.barred && is_condition c i.name) (λ d i. barred-step c d i.barred i.name)

pub posts-items : (c : ℕ) (d : Draft) (is : List Item) → holds (drafted d is).barred_posts c ≡ (holds d.barred_posts c || any (λ i. i.barred && is_post c i.name) is)
posts-items c = gathered (λ d. holds d.barred_posts c) (λ i. i.barred && is_post c i.name) (λ d i. posts-step c d i.barred i.name)

pub some-items : (d : Draft) (is : List Item) → is_some (drafted d is).floor ≡ (is_some d.floor || any plain_digit is)
some-items = gathered (λ d. is_some d.floor) plain_digit (λ d i. some-step d i.barred i.name)

-- The floor post p is told.
abbrev floor_is : Option ℕ → ℕ → Bool
floor_is None p = false
floor_is (Some q) p = eqb q p

floor-none : (o : Option ℕ) (p : ℕ) → is_some o ≡ false → floor_is o p ≡ false
floor-none None p e = refl
floor-none (Some q) p e = absurd (both_ways (is_some (Some q)) e refl)

-- One item more that may stand there: a plain digit comes only where no floor was told.
floor-step : (d : Draft) (p : Bool) (x : Name) (k : ℕ) → (is_some d.floor && (not p && digit x)) ≡ false → floor_is (with_name d p x).floor k ≡ (floor_is d.floor k || (not p && is_post k x))
floor-step d true (Condition c) k h = sym (or-false (floor_is d.floor k))
floor-step d false (Condition c) k h = sym (or-false (floor_is d.floor k))
floor-step d true (Post q) k h = sym (or-false (floor_is d.floor k))
floor-step d false (Post q) k h = ap (λ b. b || eqb q k) (sym (floor-none d.floor k (⊎_elim (λ e. e) (λ e. absurd (both_ways true e refl)) (and_cases (is_some d.floor) true h))))

any_push : (f : Item → Bool) (is : List Item) (i : Item) → any f (is ++ (i ∷ [])) ≡ (any f is || f i)
any_push f [] i = or-false (f i)
any_push f (j ∷ is) i = ap (λ b. f j || b) (any_push f is i) ∙ sym (or_assoc (f j) (any f is) (f i))

pub floor-items : (g : Grammar) (before : List Item) (d : Draft) (is : List Item) (k : ℕ) → any plain_digit before ≡ is_some d.floor → Follow g before is → floor_is (drafted d is).floor k ≡ (floor_is d.floor k || any (λ i. not i.barred && is_post k i.name) is)
floor-items g before d [] k same f = sym (or-false (floor_is d.floor k))
floor-items g before d (i ∷ is) k same f =
    let once : (is_some d.floor && plain_digit i) ≡ false = and_comm (is_some d.floor) (plain_digit i) ∙ ap (λ b. plain_digit i && b) (sym same) ∙ (or_parts (any (λ j. same_name j.name i.name) before) (plain_digit i && any plain_digit before) f.0.new).1 in
    floor-items g (before ++ (i ∷ [])) (with_item d i) is k (any_push plain_digit before i ∙ ap (λ b. b || plain_digit i) same ∙ sym (some-step d i.barred i.name)) f.1
    ∙ ap (λ b. b || any (λ j. not j.barred && is_post k j.name) is) (floor-step d i.barred i.name k once)
    ∙ or_assoc (floor_is d.floor k) (not i.barred && is_post k i.name) (any (λ j. not j.barred && is_post k j.name) is)

-- Named plain, or named barred: named.
split : (p s a b : Bool) → ((not p && s) || a) || ((p && s) || b) ≡ (s || (a || b))
split true true a b = or-true a
split true false a b = refl
split false true a b = refl
split false false a b = refl

pub plain-or-barred : (y : Name) (is : List Item) → (any (λ i. not i.barred && same_name i.name y) is || any (λ i. i.barred && same_name i.name y) is) ≡ any (λ i. same_name i.name y) is
plain-or-barred y [] = refl
plain-or-barred y (i ∷ is) =
    split i.barred (same_name i.name y) (any (λ i. not i.barred && same_name i.name y) is) (any (λ i. i.barred && same_name i.name y) is)
    ∙ ap (λ b. same_name i.name y || b) (plain-or-barred y is)

floor-repeats : (o : Option ℕ) (p : Bool) (k : ℕ) → repeats_floor o p k ≡ ((not p && is_some o) || floor_is o k)
floor-repeats None true k = refl
floor-repeats None false k = refl
floor-repeats (Some q) true k = refl
floor-repeats (Some q) false k = refl

turned : (a p b : Bool) → ((a || p) || b) ≡ ((p || b) || a)
turned a p b = or_assoc a p b ∙ or_comm a (p || b)

module _ (g : Grammar) (e : Effect) (is : List Item) (f : Follow g [] is) where
  needed_here : (c : ℕ) → holds (drafted (fresh e) is).needed c ≡ any (λ i. not i.barred && is_condition c i.name) is
  needed_here c = needed-items c (fresh e) is ∙ ap (λ b. b || any (λ i. not i.barred && is_condition c i.name) is) (zero-holds c)

  barred-here : (c : ℕ) → holds (drafted (fresh e) is).barred c ≡ any (λ i. i.barred && is_condition c i.name) is
  barred-here c = barred-items c (fresh e) is ∙ ap (λ b. b || any (λ i. i.barred && is_condition c i.name) is) (zero-holds c)

  posts-here : (c : ℕ) → holds (drafted (fresh e) is).barred_posts c ≡ any (λ i. i.barred && is_post c i.name) is
  posts-here c = posts-items c (fresh e) is ∙ ap (λ b. b || any (λ i. i.barred && is_post c i.name) is) (zero-holds c)

  floor-here : (k : ℕ) → floor_is (drafted (fresh e) is).floor k ≡ any (λ i. not i.barred && is_post k i.name) is
  floor-here k = floor-items g [] (fresh e) is k refl f

  some-here : is_some (drafted (fresh e) is).floor ≡ any plain_digit is
  some-here = some-items (fresh e) is

  -- The draft of a line's items tells which item comes again.
  repeats-name : (p : Bool) (x : Name) → repeats (drafted (fresh e) is) (item p x) ≡ again is (item p x)
  repeats-name p (Condition c) =
      ap₂ (λ a b. a || b) (needed_here c) (barred-here c) ∙ plain-or-barred (Condition c) is ∙ sym (or-false (any (λ j. same_name j.name (Condition c)) is))
      ∙ ap (λ b. any (λ j. same_name j.name (Condition c)) is || b) (no_digit p)
    where
      no_digit : (p : Bool) → false ≡ ((not p && false) && any plain_digit is)
      no_digit true = refl
      no_digit false = refl
  repeats-name p (Post k) =
      let plain : Bool = any (λ i. not i.barred && is_post k i.name) is in
      let bars : Bool = any (λ i. i.barred && is_post k i.name) is in
      ap₂ (λ a b. a || b)
      (floor-repeats (drafted (fresh e) is).floor p k ∙ ap₂ (λ a b. (not p && a) || b) some-here (floor-here k))
      (posts-here k)
      ∙ turned (not p && any plain_digit is) plain bars
      ∙ ap₂ (λ a b. a || b) (plain-or-barred (Post k) is) (a-digit p)
    where
      a-digit : (p : Bool) → (not p && any plain_digit is) ≡ ((not p && true) && any plain_digit is)
      a-digit true = refl
      a-digit false = refl

  pub repeats-again : (i : Item) → repeats (drafted (fresh e) is) i ≡ again is i
  repeats-again i = repeats-name i.barred i.name

  floor-told : (o : Option ℕ) (k : ℕ) → floor_is o k ≡ true → unwrap_or o 0 ≡ k
  floor-told None k h = absurd (both_ways false refl h)
  floor-told (Some q) k h = eqb-true q k h

  floor-untold : (o : Option ℕ) → is_some o ≡ false → unwrap_or o 0 ≡ 0
  floor-untold None h = refl
  floor-untold (Some q) h = absurd (both_ways true h refl)

  -- The rule that the draft ends as is the one that the items mean.
  pub means-drafted : Means is (finished (drafted (fresh e) is))
  means-drafted =
      record {
        needed = needed_here;
        barred = barred-here;
        floor = λ k h. floor-told (drafted (fresh e) is).floor k (floor-here k ∙ h);
        ground = λ h. floor-untold (drafted (fresh e) is).floor (some-here ∙ h);
        posts = posts-here;
      }

effect-kept : (d : Draft) (p : Bool) (x : Name) → (with_name d p x).effect ≡ d.effect
effect-kept d true (Condition c) = refl
effect-kept d false (Condition c) = refl
effect-kept d true (Post p) = refl
effect-kept d false (Post p) = refl

pub drafted-effect : (d : Draft) (is : List Item) → (drafted d is).effect ≡ d.effect
drafted-effect d [] = refl
drafted-effect d (i ∷ is) = drafted-effect (with_item d i) is ∙ effect-kept d i.barred i.name

pub drafted-push : (d : Draft) (is : List Item) (i : Item) → drafted d (is ++ (i ∷ [])) ≡ with_item (drafted d is) i
drafted-push d [] i = refl
drafted-push d (j ∷ is) i = drafted-push (with_item d j) is i

pub follow-push : (g : Grammar) (before is : List Item) (i : Item) → Follow g before is → Fits g (before ++ is) i → Follow g before (is ++ (i ∷ []))
follow-push g before [] i f h = (rw append-nil at h, tt)
follow-push g before (j ∷ is) i f h = (f.0, follow-push g (before ++ (j ∷ [])) is i f.1 (rw append_assoc h))
