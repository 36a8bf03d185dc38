-- The numbers whose flag is up.
use Rattle.std.proofs.Common.{◌≡◌, ℕ, zero, suc, ◌+◌, ◌<◌, ◌≤◌, Bool, true, false, cond, List, [], ◌∷◌, ◌++◌, length, get_or, Decides, sym, ap, ◌∙◌, subst, ⊎_elim, append-nil, arith}
use Rattle.std.specs.List.{filter, range_with_len}
use Rattle.std.proofs.lemmas.List.Elements.{filter-append}
use Rattle.std.proofs.lemmas.Bool.{cases_Bool, false≢true}
use Rattle.expressiveness.specs.Order.{Rising, none, skip, next}
use Rattle.conversion.specs.declared.flags.Flags.{Flags}
use Rattle.conversion.specs.Flags.{flag, raised}

range_more : (a n : ℕ) → range_with_len a (suc n) ≡ range_with_len a n ++ ((a + n) ∷ [])
range_more a zero = ap (λ k. k ∷ []) (let e : a ≡ a + 0 = omega arith in e)
range_more a (suc n) =
    ap (λ xs. a ∷ xs) (range_more (a + 1) n ∙ ap (λ k. range_with_len (a + 1) n ++ (k ∷ [])) (let e : (a + 1) + n ≡ a + suc n = omega arith in e))

-- those of a range that pass a test are few, and of the range
few-more : (b : Bool) (a n : ℕ) (xs : List ℕ) → length xs ≤ n → length (cond b (a ∷ xs) xs) ≤ suc n
few-more true a n xs h = omega arith
few-more false a n xs h = omega arith

below-more : (b : Bool) (a n : ℕ) (xs : List ℕ) → ((i d : ℕ) → i < length xs → get_or xs i d < (a + 1) + n) → (i d : ℕ) → i < length (cond b (a ∷ xs) xs)
    → get_or (cond b (a ∷ xs) xs) i d < a + suc n
below-more true a n xs h zero d lt = omega arith
below-more true a n xs h (suc i) d lt = omega (arith, h i d (omega arith))
below-more false a n xs h i d lt = omega (arith, h i d lt)

module _ (p : ℕ → Bool) where
  passing-few : (a n : ℕ) → length (filter p (range_with_len a n)) ≤ n
  passing-few a zero = omega arith
  passing-few a (suc n) = few-more (p a) a n (filter p (range_with_len (a + 1) n)) (passing-few (a + 1) n)

  passing-below : (a n i d : ℕ) → i < length (filter p (range_with_len a n)) → get_or (filter p (range_with_len a n)) i d < a + n
  passing-below a zero i d h = absurd (omega arith)
  passing-below a (suc n) i d h = below-more (p a) a n (filter p (range_with_len (a + 1) n)) (passing-below (a + 1) n) i d h

module _ (xs : Flags) where
  pub raised-few : (k : ℕ) → length (raised xs k) ≤ k
  raised-few k = passing-few (flag xs) 0 k

  pub raised-below : (k i d : ℕ) → i < length (raised xs k) → get_or (raised xs k) i d < k
  raised-below k i d h = omega (arith, passing-below (flag xs) 0 k i d h)

  raised-more : (k : ℕ) (b : Bool) → flag xs k ≡ b → raised xs (suc k) ≡ raised xs k ++ cond b (k ∷ []) []
  raised-more k b e =
      ap (filter (flag xs)) (range_more 0 k ∙ ap (λ j. range_with_len 0 k ++ (j ∷ [])) (let z : 0 + k ≡ k = omega arith in z))
      ∙ filter-append (flag xs) (range_with_len 0 k) (k ∷ [])
      ∙ ap (λ c. raised xs k ++ cond c (k ∷ []) []) e

  -- flags that tell a property tell the numbers with it
  pub raised-rising : (P : ℕ → Type 0) (n : ℕ) → ((x : ℕ) → x < n → Decides (flag xs x) (P x)) → (k : ℕ) → k ≤ n → Rising P k (raised xs k)
  raised-rising P n tell zero h = none
  raised-rising P n tell (suc k) h =
      let so_far = raised-rising P n tell k (omega arith) in
      ⊎_elim (λ (e : flag xs k ≡ true). subst (Rising P (suc k)) (sym (raised-more k true e)) (next so_far ((tell k (omega arith)).0 e)))
      (λ (e : flag xs k ≡ false).
      subst (Rising P (suc k)) (sym (raised-more k false e ∙ append-nil (raised xs k))) (skip so_far (λ p. false≢true (sym e ∙ (tell k (omega arith)).1 p))))
      (cases_Bool (flag xs k))
