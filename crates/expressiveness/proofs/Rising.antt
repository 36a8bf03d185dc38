-- The numbers with a property, by rising number.
use Rattle.std.proofs.Common.{◌≡◌, ℕ, zero, suc, ◌<◌, List, [], ◌∷◌, ◌++◌, refl, ap, inl, inr, arith}
use mathlib.Core.List.Memᴰ
use mathlib.Core.List.{Memᴰ}
use Rattle.std.proofs.lemmas.Bool.{cases_eq}
use Rattle.expressiveness.specs.Order.{Rising, none, skip, next}

module _ {P : ℕ → Type 0} where
  unfoldable pub rising : ((x : ℕ) → Dec (P x)) → (k : ℕ) → (xs : List ℕ) × Rising P k xs
  rising d zero = ([], none)
  rising d (suc k) = let (xs, l) = rising d k in elim (d k) [ yes p ↦ (xs ++ (k ∷ []), next l p) | no n ↦ (xs, skip l n) ]

  pub rising-one : {k : ℕ} {xs ys : List ℕ} → Rising P k xs → Rising P k ys → xs ≡ ys
  rising-one none none = refl
  rising-one (skip l n) (skip l' n') = rising-one l l'
  rising-one (skip l n) (next l' p) = absurd (n p)
  rising-one (next l p) (skip l' n) = absurd (n p)
  rising-one (next {k} l p) (next l' p') = ap (λ xs. xs ++ (k ∷ [])) (rising-one l l')

  pub rising-in : {k : ℕ} {xs : List ℕ} → Rising P k xs → (x : ℕ) → Memᴰ x xs → (x < k) × P x
  rising-in none x i = absurd (Memᴰ.not-nil i)
  rising-in (skip l n) x i = let (h, p) = rising-in l x i in (omega arith, p)
  rising-in (next {k} {xs} l p) x i = elim (Memᴰ.append_cases xs i) [
    | inl j ↦ let (h, q) = rising-in l x j in (omega arith, q)
    | inr j ↦ let e = Memᴰ.eq_of_singleton j in (omega arith, rw e p)
  ]

  pub in-rising : {k : ℕ} {xs : List ℕ} → Rising P k xs → (x : ℕ) → x < k → P x → Memᴰ x xs
  in-rising none x h p = absurd (omega arith)
  in-rising (skip {k} l n) x h p = elim (cases_eq x k) [ inl e ↦ absurd (n (rw e at p)) | inr ne ↦ in-rising l x (omega arith) p ]
  in-rising (next {k} {xs} l q) x h p = elim (cases_eq x k) [
    | inl e ↦ Memᴰ.append_right xs (Memᴰ.head e)
    | inr ne ↦ Memᴰ.append_left (k ∷ []) (in-rising l x (omega arith) p)
  ]

pub rising-like : {P Q : ℕ → Type 0} → ((x : ℕ) → P x → Q x) → ((x : ℕ) → Q x → P x) → {k : ℕ} {xs : List ℕ} → Rising P k xs → Rising Q k xs
rising-like to from none = none
rising-like to from (skip {k} l n) = skip (rising-like to from l) (λ q. n (from k q))
rising-like to from (next {k} l p) = next (rising-like to from l) (to k p)
