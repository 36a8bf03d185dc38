-- Deciding, and the least number with a property.
use Rattle.std.proofs.Common.{◌≡◌, ℕ, zero, suc, ◌<◌, ◌⊎◌, inl, inr, arith}
use Rattle.std.proofs.lemmas.Bool.{cases_eq, cases_order}
use Rattle.expressiveness.specs.Order.{Least}

unfoldable pub dec-like : {P Q : Type 0} → (P → Q) × (Q → P) → Dec P → Dec Q
dec-like e (yes p) = yes (e.0 p)
dec-like e (no n) = no (λ q. n (e.1 q))

unfoldable pub imp? : {P Q : Type 0} → Dec P → Dec Q → Dec (P → Q)
imp? (no n) d = yes (λ p. absurd (n p))
imp? (yes p) (yes q) = yes (λ _. q)
imp? (yes p) (no n) = no (λ f. n (f p))

-- what is decided with yes holds
abbrev pub IsYes : {P : Type 0} → Dec P → Type 0
IsYes (yes p) = Unit {0}
IsYes (no n) = ⊥

abbrev pub from-yes : {P : Type 0} (d : Dec P) → IsYes d → P
from-yes (yes p) t = p
from-yes (no n) t = absurd t

-- what holds of each number below k, and of k, holds of each below suc k
pub below_suc : (P : ℕ → Type 0) (k : ℕ) → ((x : ℕ) → x < k → P x) → P k → (x : ℕ) → x < suc k → P x
below_suc P k f p x h = elim (cases_eq x k) [ inl e ↦ rw e p | inr ne ↦ f x (omega arith) ]

-- the least number below k with P, or none
unfoldable pub first_below : {P : ℕ → Type 0} → ((x : ℕ) → Dec (P x)) → (k : ℕ) → ((x : ℕ) × Least P x) ⊎ ((x : ℕ) → x < k → P x → ⊥)
first_below d zero = inr (λ x h. omega arith)
first_below {P} d (suc k) = step (first_below d k) (d k)
  where
    step : ((x : ℕ) × Least P x) ⊎ ((x : ℕ) → x < k → P x → ⊥) → Dec (P k) → ((x : ℕ) × Least P x) ⊎ ((x : ℕ) → x < suc k → P x → ⊥)
    step (inl h) t = inl h
    step (inr none) (yes p) = inl (k, (p, none))
    step (inr none) (no q) = inr (below_suc (λ x. P x → ⊥) k none q)

-- of a property that only numbers below some number have
module _ {P : ℕ → Type 0} (total : ℕ) (below : (x : ℕ) → P x → x < total) (d : (x : ℕ) → Dec (P x)) where
  unfoldable pub some? : Dec ((x : ℕ) × P x)
  some? = elim (first_below d total) [ inl (x, (p, least)) ↦ yes (x, p) | inr none ↦ no (λ (x, p). none x (below x p) p) ]

  unfoldable pub first : (x : ℕ) → P x → (y : ℕ) × Least P y
  first x p = elim (first_below d total) [ inl h ↦ h | inr none ↦ absurd (none x (below x p) p) ]

pub least-one : {P : ℕ → Type 0} (x y : ℕ) → Least P x → Least P y → x ≡ y
least-one x y (p, f) (q, g) = elim (cases_order x y) [ inl e ↦ e | inr (inl l) ↦ absurd (g x l p) | inr (inr l) ↦ absurd (f y l q) ]

pub least-like : {P Q : ℕ → Type 0} → ((x : ℕ) → P x → Q x) → ((x : ℕ) → Q x → P x) → {x : ℕ} → Least P x → Least Q x
least-like to from {x} (p, least) = (to x p, λ y h q. least y h (from y q))
