-- How many bytes the items of a rule have, by how many members its sets have.
use Rattle.std.proofs.Common.{◌≡◌, ℕ, zero, suc, ◌+◌, ◌*◌, ◌/◌, ◌%◌, ◌^◌, ◌<◌, Bool, true, false, cond, ◌||◌, eqb, ◌++◌, length, Some, None, bit_or, refl, ap, ◌∙◌, arith}
use Rattle.std.specs.Int.Count.{ones}
use Rattle.std.specs.Option.{option_to_list}
use Rattle.std.specs.List.{flat_map}
use Rattle.std.proofs.lemmas.Nat.{ones_cat, mod-pow-add, mod_below, pow_pos}
use Rattle.ladders.specs.Sets.{holds}
use Rattle.ladders.proofs.Sets.{or-holds}
use Rattle.rules.specs.declared.rule.Rule.{Rule}
use Rattle.rulefile.specs.declared.grammar.Name.TheVariants.{Condition, Post}
use Rattle.rulefile.specs.Items.{item, spelled}
use Rattle.writing.specs.Written.{floor_item, post_item, condition_item, rising, line_of}
use Rattle.writing.proofs.Lines.{parted}

-- a single digit is how many ones it has
digit-ones : (b : ℕ) → b < 2 → ones b ≡ cond (eqb b 1) 1 0
unfolding ones
digit-ones zero h = refl
digit-ones (suc zero) h = refl
digit-ones (suc (suc b)) h = absurd (omega arith)

-- the members below n + 1 are those below n, and n where it is one
members-more : (a n : ℕ) → ones (a % 2 ^ suc n) ≡ cond (holds a n) 1 0 + ones (a % 2 ^ n)
members-more a n =
    ap ones (ap (λ k. a % 2 ^ k) (let e : suc n ≡ 1 + n = omega arith in e) ∙ mod-pow-add a 1 n)
    ∙ ones_cat n (a / 2 ^ n % 2 ^ 1) (a % 2 ^ n) (mod_below a (2 ^ n) (pow_pos n))
    ∙ ap (λ k. k + ones (a % 2 ^ n)) (digit-ones (a / 2 ^ n % 2) (mod_below (a / 2 ^ n) 2 (omega arith)))

members-either : (a b n : ℕ) → ones (bit_or a b % 2 ^ suc n) ≡ cond (holds a n || holds b n) 1 0 + ones (bit_or a b % 2 ^ n)
members-either a b n =
    members-more (bit_or a b) n ∙ ap (λ x. cond x 1 0 + ones (bit_or a b % 2 ^ n)) (or-holds a b n)

no-members-below : (a : ℕ) → ones (a % 2 ^ 0) ≡ 0
unfolding ones
no-members-below a = ap ones (let e : a % 1 ≡ 0 = omega arith in e)

-- one item
post-length : (b : Bool) (p : ℕ) → length (flat_map spelled (option_to_list (cond b (Some (item true (Post p))) None))) ≡ 3 * cond b 1 0
post-length true p = refl
post-length false p = refl

condition-length : (a b : Bool) (c : ℕ)
    → length (flat_map spelled (option_to_list (cond a (Some (item false (Condition c))) (cond b (Some (item true (Condition c))) None)))) + cond a 1 0 ≡ 3 * cond (a || b) 1 0
condition-length true b c = refl
condition-length false true c = refl
condition-length false false c = refl

pub floor-length : (t : Rule) → length (flat_map spelled (option_to_list (floor_item t))) ≡ cond (eqb t.floor 0) 0 2
floor-length t = by (eqb t.floor 0)
  where
    by : (b : Bool) → length (flat_map spelled (option_to_list (cond b None (Some (item false (Post t.floor)))))) ≡ cond b 0 2
    by true = refl
    by false = refl

module _ (t : Rule) where
  -- the barred posts below n
  pub posts-length : (n : ℕ) → length (flat_map spelled (rising (post_item t) n)) ≡ 3 * ones (t.barred_posts % 2 ^ n)
  unfolding rising
  posts-length zero = let e = no-members-below t.barred_posts in omega arith
  posts-length (suc n) =
      let rest = posts-length n in
      let both = parted (rising (post_item t) n) (option_to_list (post_item t n)) in
      let one = post-length (holds t.barred_posts n) n in
      let more = members-more t.barred_posts n in omega arith

  -- the conditions below n
  pub conditions-length : (n : ℕ) → length (flat_map spelled (rising (condition_item t) n)) + ones (t.needed % 2 ^ n) ≡ 3 * ones (bit_or t.needed t.barred % 2 ^ n)
  unfolding rising
  conditions-length zero =
      let e = no-members-below t.needed in let f = no-members-below (bit_or t.needed t.barred) in omega arith
  conditions-length (suc n) =
      let rest = conditions-length n in
      let both = parted (rising (condition_item t) n) (option_to_list (condition_item t n)) in
      let one = condition-length (holds t.needed n) (holds t.barred n) n in
      let needed = members-more t.needed n in
      let named = members-either t.needed t.barred n in omega arith

-- a line has its mark and its items
pub line-length : (t : Rule)
    → length (line_of t) ≡ 1 + (length (flat_map spelled (option_to_list (floor_item t))) + (length (flat_map spelled (rising (post_item t) 8)) + length (flat_map spelled (rising (condition_item t) 9))))
unfolding line_of
line-length t =
    let both = parted (rising (post_item t) 8) (rising (condition_item t) 9) in
    let all = parted (option_to_list (floor_item t)) (rising (post_item t) 8 ++ rising (condition_item t) 9) in omega arith
