-- What is shown by asking of every number that can be a post, and what the test of one bit shows.
use Rattle.std.proofs.Common.{◌≡◌, ℕ, zero, suc, ◌+◌, ◌/◌, ◌%◌, ◌^◌, ◌<◌, ◌≤◌, Bool, true, false, not, ◌&&◌, Decides, sym, refl, ◌∙◌, subst, ⊎_elim, arith}
use Rattle.std.specs.List.{list_any, range_with_len}
use lib.Bits.{bit_and}
use Rattle.std.proofs.lemmas.Nat.{and_mask}
use Rattle.std.proofs.lemmas.Bool.{cases_Bool, cases_eq, eq-eqb, eqb-true, not-true, not_from_false, or_parts}
use Rattle.ladders.specs.Ladders.{Lawful}
use Rattle.ladders.specs.Sets.{holds}
use Rattle.rules.specs.Rules.{Clear}

-- the test of one bit
pub bit-holds : (s p : ℕ) → bit_and (s / 2 ^ p) 1 ≡ 1 → holds s p ≡ true
bit-holds s p e = eq-eqb (s / 2 ^ p % 2) 1 (sym (and_mask (s / 2 ^ p) 1) ∙ e)

pub holds-bit : (s p : ℕ) → holds s p ≡ true → bit_and (s / 2 ^ p) 1 ≡ 1
holds-bit s p e = and_mask (s / 2 ^ p) 1 ∙ eqb-true (s / 2 ^ p % 2) 1 e

-- eight numbers are all that can be posts
pub clear-all : {posts : ℕ} {f : ℕ → ℕ → Bool} → Lawful posts f → (post barred : ℕ) → ((k : ℕ) → k < 8 → holds barred k ≡ true → f post k ≡ false) → Clear f post barred
clear-all {posts} {f} laws post barred below p e =
    let clear = below p in
    let posts = laws.within post p in
    let few = laws.few in
    let cases = cases_Bool (f post p) in grind arith

-- where none of n numbers passes, each of them fails
fails-at : (t : ℕ → Bool) (a n k : ℕ) → list_any t (range_with_len a n) ≡ false → a ≤ k → k < a + n → t k ≡ false
fails-at t a zero k none le lt = absurd (omega arith)
fails-at t a (suc n) k none le lt =
    let parts = or_parts (t a) (list_any t (range_with_len (a + 1) n)) none in
    ⊎_elim (λ (e : a ≡ k). subst (λ j. t j ≡ false) e parts.0) (λ (ne : a ≡ k → ⊥). fails-at t (a + 1) n k parts.1 (omega arith) (omega arith)) (cases_eq a k)

none-passes : (t : ℕ → Bool) (a n : ℕ) → ((k : ℕ) → t k ≡ false) → list_any t (range_with_len a n) ≡ false
none-passes t a zero fails = refl
none-passes t a (suc n) fails = rw (fails a) (none-passes t (a + 1) n fails)

pub clear-tells : {posts : ℕ} {f : ℕ → ℕ → Bool} → Lawful posts f → (post barred : ℕ) → Decides (not (list_any (λ p. holds barred p && f post p) (range_with_len 0 8))) (Clear f post barred)
clear-tells {posts} {f} laws post barred = (
  λ e. clear-all laws post barred (λ k lt has. let no = fails-at (λ p. holds barred p && f post p) 0 8 k (not-true _ e) (omega arith) (omega arith) in grind arith),
  λ clear. not_from_false _ (none-passes (λ p. holds barred p && f post p) 0 8 (λ k. let no = clear k in let cases = cases_Bool (holds barred k) in grind arith)),
)
