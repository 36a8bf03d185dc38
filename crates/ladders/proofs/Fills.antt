-- The row of a post, filled with the posts that pass, one after another.
use Rattle.std.proofs.Common.{◌≡◌, ℕ, zero, suc, ◌+◌, ◌*◌, ◌%◌, ◌^◌, ◌<◌, ◌≤◌, Bool, true, false, cond, ◌&&◌, ◌||◌, eqb, ltb, leb, fold, ap, ◌∙◌, ⊎_elim, arith}
use Rattle.std.specs.List.{range_with_len}
use lib.Bits.{bit_or}
use Rattle.std.proofs.lemmas.Nat.{one_shl}
use Rattle.std.proofs.lemmas.Bool.{cases_Bool}
use Rattle.std.proofs.lemmas.Bool.Decides.{nat_tests}
use Rattle.ladders.specs.Sets.{holds}
use Rattle.ladders.proofs.Sets.{or-holds, power-holds, zero-holds}

-- the set m with the post q besides, where that post passes
abbrev pub put : (ℕ → Bool) → ℕ → ℕ → ℕ
put f m q = cond (f q) (bit_or m ((1 * 2 ^ q) % 2 ^ 8)) m

put-holds : (f : ℕ → Bool) (m q k : ℕ) → q < 8 → holds (put f m q) k ≡ (holds m k || (eqb q k && f q))
put-holds f m q k h =
    ⊎_elim
    (λ (t : f q ≡ true).
    let at = power-holds q k in
    rw t (ap (λ x. holds (bit_or m x) k) (one_shl q 8 h) ∙ or-holds m (2 ^ q) k ∙ grind (arith, nat_tests)))
    (λ (t : f q ≡ false). rw t (grind (arith, nat_tests)))
    (cases_Bool (f q))

-- the n posts from a on
filled-from : (f : ℕ → Bool) (n a m k : ℕ) → a + n ≤ 8 → holds (fold (put f) m (range_with_len a n)) k ≡ (holds m k || ((leb a k && ltb k (a + n)) && f k))
filled-from f zero a m k h = grind (arith, nat_tests)
filled-from f (suc n) a m k h =
    let step = filled-from f n (a + 1) (put f m a) k (omega arith) in
    let one = put-holds f m a k (omega arith) in
    step ∙ grind (arith, nat_tests)

-- eight posts are all that a row can have
pub row-filled : (f : ℕ → Bool) (k : ℕ) → k < 8 → holds (fold (put f) 0 (range_with_len 0 8)) k ≡ f k
row-filled f k h =
    let row = filled-from f 8 0 0 k (omega arith) in
    let none = zero-holds k in
    grind (arith, nat_tests)
