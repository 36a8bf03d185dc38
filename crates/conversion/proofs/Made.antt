-- What an array holds that is made by a function of the place.
use Rattle.std.proofs.Common.{◌≡◌, ℕ, zero, suc, ◌+◌, ◌<◌, ◌≤◌, List, get_or, sym, subst, ⊎_elim, arith}
use Rattle.std.proofs.lemmas.Bool.{cases_eq}
use Rattle.std.specs.Array.{IsFromFnResult, IsFromFnResultFrom}
use denote.Param.Members.{Mut, Called}

-- where a call leaves the function as it is
module _ {F B : Type 0} (g : Mut F (ℕ × Unit {0}) B) (f : F) (ys : List B) (P : ℕ → B → Type 0)
    (calls : (i : ℕ) (y : B) (q : F) → Called g f (i, tt) y q → (q ≡ f) × P i y) where
  made_from : (i n : ℕ) → IsFromFnResultFrom g f ys i n → (k : ℕ) → i ≤ k → k < i + n → (d : B) → P k (get_or ys k d)
  made_from i zero h k le lt d = absurd (omega arith)
  made_from i (suc n) (q, y, at, call, rest) k le lt d =
      let (same, p) = calls i y q call in
      ⊎_elim (λ (e : i ≡ k). subst (λ j. P j (get_or ys j d)) e (subst (P i) (sym (at.1 d)) p))
      (λ ne. made_from (i + 1) n (subst (λ s. IsFromFnResultFrom g s ys (i + 1) n) same rest) k (omega arith) (omega arith) d)
      (cases_eq i k)

  pub made_at : {n : ℕ} → IsFromFnResult g f ys n → (k : ℕ) → k < n → (d : B) → P k (get_or ys k d)
  made_at {n} h k lt d = made_from 0 n h.each k (omega arith) (omega arith) d
