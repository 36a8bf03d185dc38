-- Facts of counts, rows, laws and the rank ladder that no proof here needs, for those who build on them.
use Rattle.std.specs.Prelude.{◌≡◌, ℕ, ◌+◌, ◌/◌, ◌^◌, ◌<◌, ◌≤◌, Bool, true, false, cond, not, List, ◌==◌, bit_and, slice_index, refl}
use Rattle.std.proofs.Common.{sym, add-one, arith}
use mathlib.Core.HLevel.{Π_prop, ×_prop, hedberg}
use Rattle.std.proofs.Math.Bool.{Bool-discrete}
use Rattle.std.proofs.Math.Logic.{∥∥₁_elim}
use Rattle.std.proofs.Math.Bridge.{le_prop}
use Rattle.std.proofs.Math.Nat.{ℕ_set}
use Rattle.std.proofs.lemmas.Nat.{and_mask}
use Rattle.std.proofs.lemmas.Bool.Decides.{nat_tests}
use Rattle.ladders.specs.Everywhere.{all, all-at}
use Rattle.ladders.specs.Ladders.{Lawful}
use Rattle.ladders.specs.Rank.{rank_at_least}
use Rattle.ladders.specs.Rows.{rows_at_least, count_below}
use Rattle.ladders.specs.Sets.{holds}

pub Bool-set : IsSet Bool
Bool-set = hedberg Bool-discrete

-- the laws have one proof at most, so that they come out of a ghost field
pub lawful-prop : (k : ℕ) (r : ℕ → ℕ → Bool) → IsProp (Lawful k r)
lawful-prop k r x y = λ i. record {
  some = le_prop x.some y.some i;
  few = le_prop x.few y.few i;
  within = Π_prop (λ p. Π_prop (λ q. Π_prop (λ _. ×_prop le_prop le_prop))) x.within y.within i;
  itself = Π_prop (λ p. Π_prop (λ _. Bool-set (r p p) true)) x.itself y.itself i;
  apart = Π_prop (λ p. Π_prop (λ q. Π_prop (λ _. Π_prop (λ _. ℕ_set p q)))) x.apart y.apart i;
  chain = Π_prop (λ p. Π_prop (λ q. Π_prop (λ s. Π_prop (λ _. Π_prop (λ _. Bool-set (r p s) true))))) x.chain y.chain i;
  lowest = Π_prop (λ p. Π_prop (λ _. Bool-set (r p 0) true)) x.lowest y.lowest i;
}

pub held : {k : ℕ} {r : ℕ → ℕ → Bool} → ∥ Lawful k r ∥₁ → Lawful k r
held {k} {r} h = ∥∥₁_elim h (lawful-prop k r) (λ x. x)

-- no number is below 0
pub count_none : (f : ℕ → Bool) → 0 ≡ count_below 0 f
unfolding count_below
count_none f = refl

-- one number more
pub count-more : (f : ℕ → Bool) (n : ℕ) (t : Bool) → t ≡ f n → count_below n f + cond t 1 0 ≡ count_below (n + 1) f
unfolding count_below
count-more f n t e = rw (e, add-one)

-- below 8 the rows tell
pub within-rows : (xs : List ℕ) (p q : ℕ) → p < 8 → q < 8 → rows_at_least xs p q ≡ holds (slice_index xs p) q
within-rows xs p q hp hq = grind (arith, nat_tests)

-- the test of one bit
pub bit-tells : (xs : List ℕ) (p q : ℕ) → p < 8 → q < 8 → (bit_and (slice_index xs p / 2 ^ q) 1 == 1) ≡ rows_at_least xs p q
bit-tells xs p q hp hq = rw (and_mask (slice_index xs p / 2 ^ q) 1) (sym (within-rows xs p q hp hq))

-- two tests agree
abbrev pub same : Bool → Bool → Bool
same true b = b
same false b = not b

pub same-eq : (a b : Bool) → same a b ≡ true → a ≡ b
same-eq true b t = sym t
same-eq false true t = t
same-eq false false t = refl

pub all_same : (n m : ℕ) (f g : ℕ → ℕ → Bool) → all n (λ p. all m (λ q. same (f p q) (g p q))) ≡ true → (p q : ℕ) → p < n → q < m → f p q ≡ g p q
all_same n m f g t p q hp hq =
    same-eq (f p q) (g p q) (all-at m (λ q. same (f p q) (g p q)) (all-at n (λ p. all m (λ q. same (f p q) (g p q))) t p hp) q hq)

-- what the rank ladder's test tells, and what makes it true
pub rank-parts : (k p q : ℕ) → rank_at_least k p q ≡ true → (p < k) × (q ≤ p)
rank-parts k p q h = grind (arith, nat_tests)

pub rank-from : (k p q : ℕ) → p < k → q ≤ p → rank_at_least k p q ≡ true
rank-from k p q h le = grind (arith, nat_tests)
