-- The rows of a ladder are a ladder, and the same one.
use Rattle.std.specs.Prelude.{◌≡◌, ℕ, zero, suc, ◌<◌, ◌≤◌, Bool, true, false, ◌⊎◌, List, refl}
use Rattle.std.proofs.Common.{sym, ap, subst, ◌∙◌, inl, ⊎_elim, arith}
use Rattle.std.proofs.Math.Path.{fun_ext}
use Rattle.std.proofs.lemmas.Bool.{cases_Bool}
use Rattle.std.proofs.lemmas.Bool.Decides.{nat_tests}
use Rattle.ladders.specs.Ladders.{Lawful}
use Rattle.ladders.specs.Rows.{IsRows, rows_at_least, row_posts, count_below}

-- where the numbers that pass are those below k, the count goes up to k and stays there
count-to : (k : ℕ) (f : ℕ → Bool) → ((p : ℕ) → p < k → f p ≡ true) → ((p : ℕ) → k ≤ p → f p ≡ false)
    → (n : ℕ) → ((n ≤ k) × (count_below n f ≡ n)) ⊎ ((k ≤ n) × (count_below n f ≡ k))
unfolding count_below
count-to k f below past zero = inl (omega arith, refl)
count-to k f below past (suc n) =
    let so_far = count-to k f below past n in
    let yes = below n in
    let no = past n in grind arith

module _ {k : ℕ} {f : ℕ → ℕ → Bool} (laws : Lawful k f) where
  -- a number that is no post is at least nothing
  not_within : (p q : ℕ) → ((p < k) × (q < k) → ⊥) → f p q ≡ false
  not_within p q h = ⊎_elim (λ (t : f p q ≡ true). absurd (h (laws.within p q t))) (λ e. e) (cases_Bool (f p q))

  posts-counted : count_below 8 (λ p. f p p) ≡ k
  posts-counted =
      ⊎_elim (λ h. omega (arith, laws.few, h.0, h.1)) (λ h. h.1)
      (count-to k (λ p. f p p) laws.itself (λ p ge. not_within p p (λ h. omega (arith, h.0))) 8)

  module _ (xs : List ℕ) (rows : IsRows f xs) where
    pub rows_same : (p q : ℕ) → rows_at_least xs p q ≡ f p q
    rows_same p q =
        let told = rows.1 p q in
        let posts = laws.within p q in
        let few = laws.few in
        let t = cases_Bool (f p q) in grind (arith, nat_tests)

    same : rows_at_least xs ≡ f
    same = fun_ext (λ p. fun_ext (λ q. rows_same p q))

    pub rows-posts : row_posts xs ≡ k
    rows-posts = ap (λ (r : ℕ → ℕ → Bool). count_below 8 (λ p. r p p)) same ∙ posts-counted

    pub rows-lawful : Lawful (row_posts xs) (rows_at_least xs)
    rows-lawful =
        subst (λ (r : ℕ → ℕ → Bool). Lawful (row_posts xs) r) (sym same) (subst (λ (n : ℕ). Lawful n f) (sym rows-posts) laws)
