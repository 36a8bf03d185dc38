-- The items of a rule in the written order may follow one another, and mean the rule, where a line can give it.
use Rattle.std.proofs.Common.{◌≡◌, ℕ, zero, suc, ◌<◌, ◌≤◌, Bool, true, false, cond, not, ◌&&◌, ◌||◌, eqb, ltb, List, [], ◌∷◌, ◌++◌, Some, None, Option, sym, refl, ap, ◌∙◌, subst, ap₂, ⊎_elim, append_assoc, append-nil, arith}
use mathlib.Core.Bool.{and-false, or-false, or_assoc}
use Rattle.std.specs.Option.{option_to_list}
use Rattle.std.proofs.lemmas.Bool.{both_ways, cases_Bool, cases_eq, ne_eqb, le-ltb, or_from, and_right}
use Rattle.std.proofs.lemmas.Bool.Decides.{nat_tests}
use Rattle.ladders.specs.Sets.{holds}
use Rattle.ladders.proofs.Sets.{zero-holds, no-members}
use Rattle.rules.specs.declared.rule.Effect.TheVariants.{Permit}
use Rattle.rules.specs.declared.rule.Rule.{Rule}
use Rattle.rules.specs.Letters.{Counts}
use Rattle.rules.specs.declared.letter.Letter.{Letter}
use Rattle.rules.specs.declared.letter.Letter.TheVariants.{Guarded, Model}
use Rattle.rules.specs.declared.letter.Model.{Model as Kind}
use Rattle.rulefile.specs.declared.grammar.Grammar.{Grammar}
use Rattle.rulefile.specs.declared.grammar.Name.TheVariants.{Condition, Post}
use Rattle.rulefile.specs.declared.grammar.Item.{Item}
use Rattle.rulefile.specs.Items.{any, same_name, is_condition, is_post, plain_digit, item, Fits, Follow, Means}
use Rattle.writing.specs.Written.{floor_item, post_item, condition_item, rising, written_items}
use Rattle.writing.specs.Steps.{CanSay}

pub any_append : (f : Item → Bool) (xs ys : List Item) → any f (xs ++ ys) ≡ (any f xs || any f ys)
any_append f [] ys = refl
any_append f (x ∷ xs) ys = ap (λ b. f x || b) (any_append f xs ys) ∙ sym (or_assoc (f x) (any f xs) (any f ys))

-- none of the items that h gives passes
any_none : (f : Item → Bool) (h : ℕ → Option Item) (n : ℕ) → ((k : ℕ) → k < n → any f (option_to_list (h k)) ≡ false) → any f (rising h n) ≡ false
unfolding rising
any_none f h zero each = refl
any_none f h (suc n) each =
    any_append f (rising h n) (option_to_list (h n)) ∙ or_from (any f (rising h n)) (any f (option_to_list (h n))) (any_none f h n (λ k lt. each k (omega arith))) (each n (omega arith))

-- the item for c alone may pass
any-one : (f : Item → Bool) (h : ℕ → Option Item) (c : ℕ) (v : Bool) (n : ℕ) → ((k : ℕ) → any f (option_to_list (h k)) ≡ (eqb k c && v)) → any f (rising h n) ≡ (ltb c n && v)
unfolding rising
any-one f h c v zero each = ap (λ b. b && v) (sym (le-ltb c 0 (omega arith)))
any-one f h c v (suc n) each =
    any_append f (rising h n) (option_to_list (h n)) ∙ ap₂ (λ a b. a || b) (any-one f h c v n each) (each n) ∙ last v
  where
    last : (v : Bool) → ((ltb c n && v) || (eqb n c && v)) ≡ (ltb c (suc n) && v)
    last true = grind (arith, nat_tests)
    last false = grind (arith, nat_tests)

pub follow-append : (g : Grammar) (before xs ys : List Item) → Follow g before xs → Follow g (before ++ xs) ys → Follow g before (xs ++ ys)
follow-append g before [] ys f h = subst (λ b. Follow g b ys) (append-nil before) h
follow-append g before (x ∷ xs) ys f h =
    (f.0, follow-append g (before ++ (x ∷ [])) xs ys f.1 (subst (λ b. Follow g b ys) (sym (append_assoc before (x ∷ []) xs)) h))

follow-rising : (g : Grammar) (before : List Item) (h : ℕ → Option Item) (n : ℕ) → ((k : ℕ) → k < n → Follow g (before ++ rising h k) (option_to_list (h k))) → Follow g before (rising h n)
unfolding rising
follow-rising g before h zero each = tt
follow-rising g before h (suc n) each =
    follow-append g before (rising h n) (option_to_list (h n)) (follow-rising g before h n (λ k lt. each k (omega arith))) (each n (omega arith))

-- What the letter allows, by cases.
module _ (t : Rule) where
  none_in : (a c : ℕ) {X : Type 0} → a ≡ 0 → holds a c ≡ true → X
  none_in a c z h = absurd (both_ways (holds a c) (ap (λ x. holds x c) z ∙ zero-holds c) h)

  bars-guarded : (l : Letter) → Counts l t → (c : ℕ) → holds t.barred c ≡ true → l ≡ Guarded
  bars-guarded Guarded a c h = refl
  bars-guarded (Model m) a c h = none_in t.barred c a.0 h

  posts-guarded : (l : Letter) → Counts l t → (p : ℕ) → holds t.barred_posts p ≡ true → l ≡ Guarded
  posts-guarded Guarded a p h = refl
  posts-guarded (Model m) a p h = none_in t.barred_posts p a.1 h

  pub marked : (l : Letter) → Counts l t → l ≡ Guarded → t.effect ≡ Permit
  marked Guarded a e = a
  marked (Model m) a e = absurd (cc)

  empty : (m : Kind) (s : ℕ) → ((c : ℕ) → holds s c ≡ true → Model m ≡ Guarded) → s ≡ 0
  empty m s h =
      no-members s (λ c. ⊎_elim (λ (e : holds s c ≡ true). let g = h c e in absurd (cc)) (λ (e : holds s c ≡ false). e) (cases_Bool (holds s c)))

  pub allowed-from : (l : Letter) → (l ≡ Guarded → t.effect ≡ Permit) → ((c : ℕ) → holds t.barred c ≡ true → l ≡ Guarded) → ((p : ℕ) → holds t.barred_posts p ≡ true → l ≡ Guarded) → Counts l t
  allowed-from Guarded mark bars posts = mark refl
  allowed-from (Model m) mark bars posts = (empty m t.barred bars, empty m t.barred_posts posts)

-- Options by their tests.
one-option : (f : Item → Bool) (b : Bool) (i : Item) → any f (option_to_list (cond b (Some i) None)) ≡ (b && f i)
one-option f true i = or-false (f i)
one-option f false i = refl

two-options : (f : Item → Bool) (a b : Bool) (i j : Item) → any f (option_to_list (cond a (Some i) (cond b (Some j) None))) ≡ ((a && f i) || (not a && (b && f j)))
two-options f true b i j = refl
two-options f false b i j = one-option f b j

-- An item that is written under a test follows those before it where it fits there.
module _ (g : Grammar) (before : List Item) where
  follow-if : (b : Bool) (i : Item) → (b ≡ true → Fits g before i) → Follow g before (option_to_list (cond b (Some i) None))
  follow-if true i h = (h refl, tt)
  follow-if false i h = tt

  follow-unless : (b : Bool) (i : Item) → (b ≡ false → Fits g before i) → Follow g before (option_to_list (cond b None (Some i)))
  follow-unless true i h = tt
  follow-unless false i h = (h refl, tt)

  follow-either : (a b : Bool) (i j : Item) → (a ≡ true → Fits g before i) → (b ≡ true → Fits g before j) → Follow g before (option_to_list (cond a (Some i) (cond b (Some j) None)))
  follow-either true b i j h k = (h refl, tt)
  follow-either false b i j h k = follow-if b j k

-- An item that is written unless a test passes.
unless-option : (f : Item → Bool) (b : Bool) (i : Item) → any f (option_to_list (cond b None (Some i))) ≡ (not b && f i)
unless-option f true i = refl
unless-option f false i = one-option f true i

-- Where the numbers differ, neither is the other's item.
apart-two : (a b : Bool) (k c : ℕ) → (k ≡ c → ⊥) → ((a && eqb k c) || (not a && (b && eqb k c))) ≡ false
apart-two a b k c ne = grind (arith, nat_tests)

module _ (g : Grammar) (t : Rule) (few-posts : g.posts ≤ 8) (few : g.conditions ≤ 9) (s : CanSay g t) where
  floor-follows : Follow g [] (option_to_list (floor_item t))
  floor-follows =
      follow-unless g [] (eqb t.floor 0) (item false (Post t.floor))
      (λ _. record { known = let h = s.range.floor in omega arith; within = s.range.floor; new = refl; bar = λ e. absurd (both_ways false refl e) })

  -- the floor post is no barred post
  floor-new : (k : ℕ) → holds t.barred_posts k ≡ true → any (λ j. same_name j.name (Post k)) (option_to_list (floor_item t)) ≡ false
  floor-new k h =
      let e = unless-option (λ j. same_name j.name (Post k)) (eqb t.floor 0) (item false (Post t.floor)) in
      ⊎_elim (λ (same : t.floor ≡ k). let no = λ (above : 0 < t.floor). both_ways (holds t.barred_posts k) (subst (λ p. holds t.barred_posts p ≡ false) same (s.once.posts above)) h in grind (arith, nat_tests))
      (λ ne. grind (arith, nat_tests))
      (cases_eq t.floor k)

  posts-follow : Follow g (option_to_list (floor_item t)) (rising (post_item t) 8)
  posts-follow =
      follow-rising g (option_to_list (floor_item t)) (post_item t) 8
      (λ k lt.
      follow-if g (option_to_list (floor_item t) ++ rising (post_item t) k) (holds t.barred_posts k) (item true (Post k))
      (λ h. record {
        known = lt;
        within = s.range.posts k h;
        new =
            let both = any_append (λ j. same_name j.name (Post k)) (option_to_list (floor_item t)) (rising (post_item t) k) in
            let floor = floor-new k h in
            let posts = any_none (λ j. same_name j.name (Post k)) (post_item t) k (λ j below. one-option (λ j. same_name j.name (Post k)) (holds t.barred_posts j) (item true (Post j)) ∙ and_right (holds t.barred_posts j) (eqb j k) (ne_eqb j k (λ e. omega arith))) in
            grind (arith, nat_tests);
        bar = λ _. posts-guarded t g.letter s.allowed k h;
      }))

  no-post : (f : Item → Bool) → ((p : ℕ) → f (item true (Post p)) ≡ false) → any f (rising (post_item t) 8) ≡ false
  no-post f none = any_none f (post_item t) 8 (λ p _. one-option f (holds t.barred_posts p) (item true (Post p)) ∙ and_right (holds t.barred_posts p) (f (item true (Post p))) (none p))

  -- no post is a condition
  no-condition : (f : Item → Bool) → ((b : Bool) (p : ℕ) → f (item b (Post p)) ≡ false) → any f (option_to_list (floor_item t) ++ rising (post_item t) 8) ≡ false
  no-condition f none =
      let both = any_append f (option_to_list (floor_item t)) (rising (post_item t) 8) in
      let floor = unless-option f (eqb t.floor 0) (item false (Post t.floor)) in
      let no = none false t.floor in
      let posts = no-post f (none true) in
      grind (arith, nat_tests)

  condition-new : (k : ℕ) → any (λ j. same_name j.name (Condition k)) ((option_to_list (floor_item t) ++ rising (post_item t) 8) ++ rising (condition_item t) k) ≡ false
  condition-new k =
      let both = any_append (λ j. same_name j.name (Condition k)) (option_to_list (floor_item t) ++ rising (post_item t) 8) (rising (condition_item t) k) in
      let posts = no-condition (λ j. same_name j.name (Condition k)) (λ b p. refl) in
      let conditions = any_none (λ j. same_name j.name (Condition k)) (condition_item t) k
      (λ j below. two-options (λ j. same_name j.name (Condition k)) (holds t.needed j) (holds t.barred j) (item false (Condition j)) (item true (Condition j)) ∙ apart-two (holds t.needed j) (holds t.barred j) j k (λ e. omega arith)) in
      grind (arith, nat_tests)

  conditions-follow : Follow g (option_to_list (floor_item t) ++ rising (post_item t) 8) (rising (condition_item t) 9)
  conditions-follow =
      follow-rising g (option_to_list (floor_item t) ++ rising (post_item t) 8) (condition_item t) 9
      (λ k lt.
      let before : List Item = (option_to_list (floor_item t) ++ rising (post_item t) 8) ++ rising (condition_item t) k in
      follow-either g before (holds t.needed k) (holds t.barred k) (item false (Condition k)) (item true (Condition k))
      (λ h. record {
        known = lt;
        within = s.range.needed k h;
        new = let e = condition-new k in grind (arith, nat_tests);
        bar = λ e. absurd (both_ways false refl e);
      })
      (λ h. record {
        known = lt;
        within = s.range.barred k h;
        new = let e = condition-new k in grind (arith, nat_tests);
        bar = λ _. bars-guarded t g.letter s.allowed k h;
      }))

  pub written-follows : Follow g [] (written_items t)
  written-follows =
      follow-append g [] (option_to_list (floor_item t)) (rising (post_item t) 8 ++ rising (condition_item t) 9) floor-follows
      (follow-append g (option_to_list (floor_item t)) (rising (post_item t) 8) (rising (condition_item t) 9) posts-follow conditions-follow)

  -- which items pass, by the three parts
  by_parts : (f : Item → Bool) → any f (written_items t) ≡ (any f (option_to_list (floor_item t)) || (any f (rising (post_item t) 8) || any f (rising (condition_item t) 9)))
  by_parts f =
      any_append f (option_to_list (floor_item t)) (rising (post_item t) 8 ++ rising (condition_item t) 9)
      ∙ ap (λ b. any f (option_to_list (floor_item t)) || b) (any_append f (rising (post_item t) 8) (rising (condition_item t) 9))

  -- where posts do not pass, the conditions tell
  by-conditions : (f : Item → Bool) → ((b : Bool) (p : ℕ) → f (item b (Post p)) ≡ false) → any f (written_items t) ≡ any f (rising (condition_item t) 9)
  by-conditions f none =
      let front = any_append f (option_to_list (floor_item t)) (rising (post_item t) 8) in
      let quiet = no-condition f none in by_parts f ∙ grind (arith, nat_tests)

  -- where conditions do not pass, the posts tell
  by-posts : (f : Item → Bool) → ((b : Bool) (c : ℕ) → f (item b (Condition c)) ≡ false) → any f (written_items t) ≡ (any f (option_to_list (floor_item t)) || any f (rising (post_item t) 8))
  by-posts f none =
      let quiet = any_none f (condition_item t) 9
      (λ c _. two-options f (holds t.needed c) (holds t.barred c) (item false (Condition c)) (item true (Condition c)) ∙ (let p = none false c in let q = none true c in grind (arith, nat_tests))) in
      by_parts f ∙ grind (arith, nat_tests)

  -- a test on c that passes only below m
  below : (m : ℕ) (v : Bool) (c : ℕ) → (v ≡ true → c < m) → v ≡ (ltb c m && v)
  below m true c h = let lt = h refl in grind (arith, nat_tests)
  below m false c h = grind (arith, nat_tests)

  -- a test of k, where k is c
  picked : (f : ℕ → Bool) (k c : ℕ) → (f k && eqb k c) ≡ (eqb k c && f c)
  picked f k c = ⊎_elim (λ (e : k ≡ c). rw e (grind (arith, nat_tests))) (λ ne. grind (arith, nat_tests)) (cases_eq k c)

  needed-means : (c : ℕ) → holds t.needed c ≡ any (λ i. not i.barred && is_condition c i.name) (written_items t)
  needed-means c =
      let f : Item → Bool = λ i. not i.barred && is_condition c i.name in
      below 9 (holds t.needed c) c (λ h. let l = s.range.needed c h in omega arith)
      ∙ sym
      (by-conditions f (λ b _. and-false (not b))
      ∙ any-one f (condition_item t) c (holds t.needed c) 9
      (λ k.
      two-options f (holds t.needed k) (holds t.barred k) (item false (Condition k)) (item true (Condition k))
      ∙ grind (arith, nat_tests)
      ∙ picked (holds t.needed) k c))

  barred-means : (c : ℕ) → holds t.barred c ≡ any (λ i. i.barred && is_condition c i.name) (written_items t)
  barred-means c =
      let f : Item → Bool = λ i. i.barred && is_condition c i.name in
      below 9 (holds t.barred c) c (λ h. let l = s.range.barred c h in omega arith)
      ∙ sym
      (by-conditions f (λ b _. and-false b)
      ∙ any-one f (condition_item t) c (holds t.barred c) 9
      (λ k.
      two-options f (holds t.needed k) (holds t.barred k) (item false (Condition k)) (item true (Condition k))
      ∙ (let once = s.once.conditions k in grind (arith, nat_tests))
      ∙ picked (holds t.barred) k c))

  posts-means : (p : ℕ) → holds t.barred_posts p ≡ any (λ i. i.barred && is_post p i.name) (written_items t)
  posts-means p =
      let f : Item → Bool = λ i. i.barred && is_post p i.name in
      below 8 (holds t.barred_posts p) p (λ h. let l = s.range.posts p h in omega arith)
      ∙ sym
      (by-posts f (λ b _. and-false b)
      ∙ (let floor = unless-option f (eqb t.floor 0) (item false (Post t.floor)) in grind (arith, nat_tests))
      ∙ any-one f (post_item t) p (holds t.barred_posts p) 8
      (λ k. one-option f (holds t.barred_posts k) (item true (Post k)) ∙ picked (holds t.barred_posts) k p))

  -- the plain digit is the floor post's alone
  pub floor-part : (f : Item → Bool) → ((b : Bool) (c : ℕ) → f (item b (Condition c)) ≡ false) → ((p : ℕ) → f (item true (Post p)) ≡ false) → any f (written_items t) ≡ (not (eqb t.floor 0) && f (item false (Post t.floor)))
  floor-part f none bars =
      let floor = unless-option f (eqb t.floor 0) (item false (Post t.floor)) in
      let posts = no-post f bars in
      by-posts f none ∙ grind (arith, nat_tests)

  floor-means : (p : ℕ) → any (λ i. not i.barred && is_post p i.name) (written_items t) ≡ true → t.floor ≡ p
  floor-means p h = let e = floor-part (λ i. not i.barred && is_post p i.name) (λ b _. and-false (not b)) (λ q. refl) in grind (arith, nat_tests)

  ground-means : any plain_digit (written_items t) ≡ false → t.floor ≡ 0
  ground-means h = let e = floor-part plain_digit (λ b _. and-false (not b)) (λ q. refl) in grind (arith, nat_tests)

  pub written-means : Means (written_items t) t
  written-means = record { needed = needed-means; barred = barred-means; floor = floor-means; ground = ground-means; posts = posts-means }
