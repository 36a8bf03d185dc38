-- The items that the members of sets give, lowest first.
use Rattle.std.proofs.Common.{◌≡◌, ℕ, zero, suc, ◌+◌, ◌%◌, ◌^◌, ◌<◌, ◌≤◌, Bool, true, false, cond, not, ◌||◌, eqb, List, [], ◌∷◌, ◌++◌, length, Some, None, Option, bit_and, bit_or, ◌-◌, ◌*◌, ◌/◌, min, sym, refl, ap, ◌∙◌, ap₂, ⊎_elim, append-nil, pow-suc, arith}
use Rattle.std.specs.Bool.{⊤}
use Rattle.std.specs.Int.{w16, bit_at, trailing_zeros}
use Rattle.std.specs.Option.{option_to_list}
use Rattle.std.specs.Iterator.{YieldsFirst, MakesProgress, item_count}
use Rattle.std.proofs.lemmas.Bool.{cases_eq, cases_lt}
use Rattle.std.proofs.lemmas.Bool.Decides.{nat_tests}
use Rattle.std.proofs.Math.Nat.{mod_self}
use Rattle.std.proofs.lemmas.Nat.{and_mask, and_block, mod-pow-add, pow_pos, shr_split}
use Rattle.std.proofs.lemmas.Nat.Bits.{bit_at-zero, bit_at_and, bit_at_cat_low, bit_at_cat_high, bit_at-trailing_zeros, same_from_bits}
use Rattle.ladders.specs.Sets.{holds}
use Rattle.ladders.proofs.Sets.{and-holds, or-holds, ones-hold, none-past, zero-holds}
use Rattle.rules.specs.declared.rule.Rule.{Rule}
use Rattle.rulefile.specs.declared.grammar.Name.TheVariants.{Condition, Post}
use Rattle.rulefile.specs.declared.grammar.Item.{Item}
use Rattle.rulefile.specs.Items.{item}
use Rattle.writing.specs.Written.{floor_item, post_item, condition_item, rising, written_items}
use Rattle.writing.specs.declared.order.Items.{Items}
use Rattle.writing.specs.Steps.{Lowest, bars_post, names_condition, given_by, items_left}

-- numbers that give the same items
rising-same : (f h : ℕ → Option Item) (n : ℕ) → ((k : ℕ) → k < n → f k ≡ h k) → rising f n ≡ rising h n
unfolding rising
rising-same f h zero each = refl
rising-same f h (suc n) each = ap₂ (λ xs o. xs ++ option_to_list o) (rising-same f h n (λ k lt. each k (omega arith))) (each n (omega arith))

-- numbers past m that give none
rising-past : (f : ℕ → Option Item) (m n : ℕ) → ((k : ℕ) → m ≤ k → f k ≡ None) → rising f (n + m) ≡ rising f m
unfolding rising
rising-past f m zero none = ap (rising f) (let e : 0 + m ≡ m = omega arith in e)
rising-past f m (suc n) none =
    ap (rising f) (let e : suc n + m ≡ suc (n + m) = omega arith in e)
    ∙ ap (λ o. rising f (n + m) ++ option_to_list o) (none (n + m) (omega arith)) ∙ append-nil (rising f (n + m)) ∙ rising-past f m n none

rising-none : (f : ℕ → Option Item) (n : ℕ) → ((k : ℕ) → k < n → f k ≡ None) → rising f n ≡ []
unfolding rising
rising-none f zero none = refl
rising-none f (suc n) none = ap₂ (λ xs o. xs ++ option_to_list o) (rising-none f n (λ k lt. none k (omega arith))) (none n (omega arith))

module _ (f : ℕ → Item) where
  abbrev give : ℕ → ℕ → Option Item
  give set k = cond (holds set k) (Some (f k)) None

  -- the empty set gives none
  pub gives-none : given_by f 0 ≡ []
  gives-none = rising-none (λ k. cond (holds 0 k) (Some (f k)) None) 16 (λ k lt. ap (λ b. cond b (Some (f k)) None) (zero-holds k))

  module _ (set set' k : ℕ) (l : Lowest set set' k) where
    none-yet : (n : ℕ) → n ≤ k → rising (give set) n ≡ []
    none-yet n le = rising-none (give set) n (λ j lt. ap (λ b. cond b (Some (f j)) None) (l.least j (omega arith)))

    none-left : (n : ℕ) → n ≤ suc k → rising (give set') n ≡ []
    none-left n le =
        rising-none (give set') n
        (λ j lt.
        ap (λ b. cond b (Some (f j)) None)
        (⊎_elim (λ (e : j ≡ k). ap (holds set') e ∙ l.out) (λ ne. l.others j (let few = l.few in omega arith) ne ∙ l.least j (omega arith)) (cases_eq j k)))

    upto : (n : ℕ) → n ≤ 16 → k < n → rising (give set) n ≡ f k ∷ rising (give set') n
    unfolding rising
    upto zero le lt = absurd (omega arith)
    upto (suc n) le lt =
        ⊎_elim
        (λ (e : n ≡ k).
        ap₂ (λ xs o. xs ++ option_to_list o) (none-yet n (omega arith)) (ap (give set) e ∙ ap (λ b. cond b (Some (f k)) None) l.member)
        ∙ ap (λ xs. f k ∷ xs) (sym (none-left (suc n) (omega arith))))
        (λ ne. ap₂ (λ xs o. xs ++ option_to_list o) (upto n (omega arith) (omega arith)) (ap (λ b. cond b (Some (f n)) None) (sym (l.others n (omega arith) ne))))
        (cases_eq n k)

    -- and another the item of its lowest member first
    pub gives-lowest : given_by f set ≡ f k ∷ given_by f set'
    gives-lowest = upto 16 (omega arith) l.few

-- a set without members below n
low-none : (s n : ℕ) → ((j : ℕ) → j < n → bit_at s j ≡ 0) → s % 2 ^ n ≡ 0
low-none s zero none = omega arith
low-none s (suc n) none =
    ap (λ k. s % 2 ^ k) (let e : suc n ≡ 1 + n = omega arith in e)
    ∙ mod-pow-add s 1 n
    ∙ ap₂ (λ b r. b * 2 ^ n + r) (none n (omega arith)) (low-none s n (λ j lt. none j (omega arith)))
    ∙ (let e : 0 * 2 ^ n + 0 ≡ 0 = omega arith in e)

-- A set whose lowest member is k, and one less: above k both have the same members, and no member is in both up to k.
module _ (s k : ℕ) (one : bit_at s k ≡ 1) (none : (j : ℕ) → j < k → bit_at s j ≡ 0) where
  abbrev above : ℕ
  above = s / 2 ^ (1 + k)

  split : s ≡ above * 2 ^ (1 + k) + 2 ^ k
  split =
      sym (shr_split s (1 + k))
      ∙ ap (λ r. above * 2 ^ (1 + k) + r)
      (mod-pow-add s 1 k ∙ ap₂ (λ b r. b * 2 ^ k + r) one (low-none s k none) ∙ (let e : 1 * 2 ^ k + 0 ≡ 2 ^ k = omega arith in e))

  one-less : s - 1 ≡ above * 2 ^ (1 + k) + (2 ^ k - 1)
  one-less = let e = split in let pos = pow_pos k in omega arith

  in-both : bit_and above above ≡ above
  in-both = same_from_bits (bit_and above above) above (λ i. bit_at_and above above i ∙ (let e : min (bit_at above i) (bit_at above i) ≡ bit_at above i = omega arith in e))

  without : bit_and s (s - 1) ≡ above * 2 ^ (1 + k) + 0
  without =
      let pos = pow_pos k in
      let twice = pow-suc 2 k in
      let e : 1 + k ≡ suc k = omega arith in
      let more = ap (λ n. 2 ^ n) e in
      ap₂ bit_and split one-less
      ∙ and_block (1 + k) above above (2 ^ k) (2 ^ k - 1) (omega arith) (omega arith)
      ∙ ap₂ (λ a r. a * 2 ^ (1 + k) + r) in-both (and_mask (2 ^ k) k ∙ mod_self (2 ^ k))

  kept : (j : ℕ) → k < j → bit_at (bit_and s (s - 1)) j ≡ bit_at s j
  kept j lt =
      let pos = pow_pos k in
      let twice = pow-suc 2 k in
      let e : 1 + k ≡ suc k = omega arith in
      let more = ap (λ n. 2 ^ n) e in
      ap (λ x. bit_at x j) without
      ∙ bit_at_cat_high above (1 + k) 0 j (omega arith) (omega arith)
      ∙ sym (bit_at_cat_high above (1 + k) (2 ^ k) j (omega arith) (omega arith))
      ∙ ap (λ x. bit_at x j) (sym split)

  gone : (j : ℕ) → j ≤ k → bit_at (bit_and s (s - 1)) j ≡ 0
  gone j le = ap (λ x. bit_at x j) without ∙ bit_at_cat_low above (1 + k) 0 j (omega arith) ∙ bit_at-zero j

-- a set that is not empty, by its trailing zeros
pub lowest-of : (s : ℕ) → 0 < s → s < 2 ^ 16 → Lowest s (bit_and s (s - 1)) (trailing_zeros w16 s)
lowest-of s pos small =
    let k = trailing_zeros w16 s in
    let z = bit_at-trailing_zeros w16 s pos small in
    let out = gone s k z.1 z.2 in
    record {
      few = z.0;
      member = ap (λ x. eqb x 1) z.1;
      least = λ j lt. ap (λ x. eqb x 1) (z.2 j lt);
      out = ap (λ x. eqb x 1) (out k (omega arith));
      others = λ j _ ne. ap (λ x. eqb x 1) (⊎_elim (λ (lt : j < k). out j (omega arith) ∙ sym (z.2 j lt)) (λ (le : k ≤ j). kept s k z.1 z.2 j (omega arith)) (cases_lt j k));
    }

-- an item more from the posts, or one from the conditions
pub left-post : (o o' : Option Item) (xs ys zs : List Item) (i : Item) → o ≡ None → o' ≡ None → xs ≡ i ∷ ys → option_to_list o ++ (xs ++ zs) ≡ i ∷ (option_to_list o' ++ (ys ++ zs))
left-post o o' xs ys zs i e e' p = rw (e, e', p)

pub front : (o : Option Item) (xs ys : List Item) → o ≡ None → xs ≡ [] → option_to_list o ++ (xs ++ ys) ≡ ys
front o xs ys e p = rw (e, p)

pub progress : (s t : Items) (r : Option Item) → YieldsFirst items_left s r t → MakesProgress (λ _. ⊤) (item_count items_left) s r t
progress s t None e = record { on = λ _. tt; keeps = tt; rests = λ _. tt }
progress s t (Some i) e = record { on = λ _. (tt, tt, let l = ap length e in omega arith); keeps = tt; rests = λ _. tt }

-- at the start all items are to come
module _ (t : Rule) where
  posts-all : t.barred_posts < 2 ^ 8 → given_by bars_post t.barred_posts ≡ rising (post_item t) 8
  posts-all small =
      rising-past (post_item t) 8 8
      (λ k le. ap (λ b. cond b (Some (item true (Post k))) None) (none-past t.barred_posts 8 k small le))

  named : (k : ℕ) → k < 9 → holds (bit_or t.needed t.barred % 2 ^ 9) k ≡ (holds t.needed k || holds t.barred k)
  named k lt =
      ap (λ s. holds s k) (sym (and_mask (bit_or t.needed t.barred) 9))
      ∙ and-holds (bit_or t.needed t.barred) (2 ^ 9 - 1) k
      ∙ (let all = ones-hold 9 k lt in let either = or-holds t.needed t.barred k in grind (arith, nat_tests))

  either-item : (a b : Bool) (k : ℕ) → cond (a || b) (Some (item (not a) (Condition k))) None ≡ cond a (Some (item false (Condition k))) (cond b (Some (item true (Condition k))) None)
  either-item true b k = refl
  either-item false true k = refl
  either-item false false k = refl

  conditions-all : given_by (names_condition t.needed) (bit_or t.needed t.barred % 2 ^ 9) ≡ rising (condition_item t) 9
  conditions-all =
      let set : ℕ = bit_or t.needed t.barred % 2 ^ 9 in
      rising-past (λ k. cond (holds set k) (Some (item (not (holds t.needed k)) (Condition k))) None) 9 7
      (λ k le. ap (λ b. cond b (Some (item (not (holds t.needed k)) (Condition k))) None) (none-past set 9 k (omega arith) le))
      ∙ rising-same (λ k. cond (holds set k) (Some (item (not (holds t.needed k)) (Condition k))) None) (condition_item t) 9
      (λ k lt. ap (λ b. cond b (Some (item (not (holds t.needed k)) (Condition k))) None) (named k lt) ∙ either-item (holds t.needed k) (holds t.barred k) k)

  pub left-all : (o : Option Item) (posts conditions : ℕ) → t.barred_posts < 2 ^ 8 → posts ≡ t.barred_posts → o ≡ floor_item t → conditions ≡ bit_or t.needed t.barred % 2 ^ 9
      → option_to_list o ++ (given_by bars_post posts ++ given_by (names_condition t.needed) conditions) ≡ written_items t
  left-all o posts conditions small same e f =
      ap₂ (λ o xs. option_to_list o ++ xs) e (ap₂ (λ xs ys. xs ++ ys) (ap (given_by bars_post) same ∙ posts-all small) (ap (given_by (names_condition t.needed)) f ∙ conditions-all))
