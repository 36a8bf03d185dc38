-- A test at every number below a bound, and what it shows.
use Rattle.std.specs.Prelude.{◌≡◌, ℕ, zero, suc, ◌<◌, Bool, true, ◌&&◌}
use Rattle.std.proofs.Common.{⊎_elim, arith}
use Rattle.std.proofs.lemmas.Bool.{and_parts, cases_eq}

abbrev pub all : ℕ → (ℕ → Bool) → Bool
all zero f = true
all (suc n) f = f n && all n f

pub all-at : (n : ℕ) (f : ℕ → Bool) → all n f ≡ true → (k : ℕ) → k < n → f k ≡ true
all-at zero f t k h = absurd (omega arith)
all-at (suc n) f t k h =
    let parts = and_parts (f n) (all n f) t in
    ⊎_elim (λ (e : k ≡ n). rw e parts.0) (λ (ne : k ≡ n → ⊥). all-at n f parts.1 k (omega arith)) (cases_eq k n)
