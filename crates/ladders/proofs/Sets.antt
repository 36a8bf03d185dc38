-- Which members a set has: one made by `&`, `|` and `!`, half of one, a single bit, all numbers below a bound, none; and that its members tell a set.
use Rattle.std.proofs.Common.{◌≡◌, ℕ, zero, suc, ◌+◌, ◌-◌, ◌/◌, ◌%◌, ◌^◌, ◌<◌, ◌≤◌, true, false, not, ◌&&◌, ◌||◌, eqb, sym, ap, ◌∙◌, ⊎_elim, arith}
use lib.Bits.{bit_and, bit_or}
use Rattle.std.proofs.lemmas.Nat.{shr-shr}
use Rattle.std.proofs.Math.Nat.{pow-suc}
use Rattle.std.proofs.lemmas.Nat.Bits.{bit_at-lt, bit_at-suc, bit_at_lowest, bit_at_and, bit_at_or, bit_at-pow_same, bit_at-pow_other, bit_at-zero, bit_at_above, bit_at_ones, same_from_bits}
use Rattle.std.proofs.lemmas.Bool.{cases_Bool, cases_eq}
use Rattle.std.proofs.lemmas.Bool.Decides.{nat_tests}
use Rattle.ladders.specs.Sets.{holds}

pub and-holds : (a b c : ℕ) → holds (bit_and a b) c ≡ (holds a c && holds b c)
and-holds a b c =
    let x = bit_at-lt a c in
    let y = bit_at-lt b c in
    ap (λ x. eqb x 1) (bit_at_and a b c) ∙ grind (arith, nat_tests)

pub or-holds : (a b c : ℕ) → holds (bit_or a b) c ≡ (holds a c || holds b c)
or-holds a b c =
    let x = bit_at-lt a c in
    let y = bit_at-lt b c in
    ap (λ x. eqb x 1) (bit_at_or a b c) ∙ grind (arith, nat_tests)

-- half of a set has each member one place down
pub half-holds : (a c : ℕ) → holds (a / 2) c ≡ holds a (c + 1)
half-holds a c = ap (λ x. eqb (x % 2) 1) (shr-shr a 1 c ∙ ap (λ k. a / 2 ^ k) (let e : 1 + c ≡ c + 1 = omega arith in e))

-- at w bits, every bit turned round
pub not-holds-at : (w a d : ℕ) → a < 2 ^ w → d < w → holds ((2 ^ w - 1) - a) d ≡ not (holds a d)
not-holds-at zero a d fits h = absurd (omega arith)
not-holds-at (suc w) a zero fits h =
    let x = bit_at_lowest a in
    let y = bit_at_lowest ((2 ^ suc w - 1) - a) in
    let two = pow-suc 2 w in
    let below = bit_at-lt a 0 in
    grind (arith, nat_tests)
not-holds-at (suc w) a (suc d) fits h =
    let two = pow-suc 2 w in
    let half : ((2 ^ suc w - 1) - a) / 2 ≡ (2 ^ w - 1) - a / 2 = omega arith in
    ap (λ x. eqb x 1) (bit_at-suc ((2 ^ suc w - 1) - a) d)
    ∙ ap (λ x. holds x d) half
    ∙ not-holds-at w (a / 2) d (omega arith) (omega arith)
    ∙ ap (λ x. not (eqb x 1)) (sym (bit_at-suc a d))

-- the same at a width that is told by the bits above c
pub not-holds : (a c j : ℕ) → a < 2 ^ (j + 1 + c) → holds ((2 ^ (j + 1 + c) - 1) - a) c ≡ not (holds a c)
not-holds a c j fits = not-holds-at (j + 1 + c) a c fits (omega arith)

-- one bit holds at its own place alone
pub power-holds : (c d : ℕ) → holds (2 ^ c) d ≡ eqb c d
power-holds c d =
    ⊎_elim
    (λ (e : c ≡ d). rw e (let s = bit_at-pow_same d in grind (arith, nat_tests)))
    (λ (ne : c ≡ d → ⊥). let o = bit_at-pow_other c d (λ e. ne (sym e)) in grind (arith, nat_tests))
    (cases_eq c d)

-- the set of all numbers below k has each of them
pub ones-hold : (k d : ℕ) → d < k → holds (2 ^ k - 1) d ≡ true
ones-hold k d h = ap (λ x. eqb x 1) (bit_at_ones k d h)

pub zero-holds : (c : ℕ) → holds 0 c ≡ false
zero-holds c = ap (λ x. eqb x 1) (bit_at-zero c)

-- sets with the same members are one set
pub bits-same : (a b : ℕ) → ((c : ℕ) → holds a c ≡ holds b c) → a ≡ b
bits-same a b h =
    same_from_bits a b
    (λ c.
    let x = bit_at-lt a c in
    let y = bit_at-lt b c in
    let e = h c in grind (arith, nat_tests))

-- a set without members is 0
pub no-members : (b : ℕ) → ((c : ℕ) → holds b c ≡ false) → b ≡ 0
no-members b h = bits-same b 0 (λ c. h c ∙ sym (zero-holds c))

-- a set of numbers below k has no member from k on
pub none-past : (a k c : ℕ) → a < 2 ^ k → k ≤ c → holds a c ≡ false
none-past a k c h le = ap (λ x. eqb x 1) (bit_at_above a k c h le)

-- and a set whose members are all below k is below 2 ^ k
pub all-below : (a k : ℕ) → ((c : ℕ) → holds a c ≡ true → c < k) → a / 2 ^ k ≡ 0
all-below a k h =
    no-members (a / 2 ^ k)
    (λ c.
    ⊎_elim
    (λ (t : holds (a / 2 ^ k) c ≡ true).
    let l = h (k + c) (ap (λ x. eqb (x % 2) 1) (sym (shr-shr a k c)) ∙ t) in absurd (omega arith))
    (λ (t : holds (a / 2 ^ k) c ≡ false). t)
    (cases_Bool (holds (a / 2 ^ k) c)))

-- sets that have no member in common
pub and_none : (a b : ℕ) → ((c : ℕ) → holds a c ≡ true → holds b c ≡ false) → bit_and a b ≡ 0
and_none a b h =
    no-members (bit_and a b)
    (λ c.
    let apart = h c in
    let both = and-holds a b c in
    let cases = cases_Bool (holds a c) in grind arith)

pub none-and : (a b c : ℕ) → bit_and a b ≡ 0 → holds a c ≡ true → holds b c ≡ false
none-and a b c e t = ap (λ x. x && holds b c) (sym t) ∙ sym (and-holds a b c) ∙ ap (λ x. holds x c) e ∙ zero-holds c
