-- The bits of a number: one of them more, one less, and those below some place.
use Rattle.std.proofs.Common.{◌≡◌, ℕ, ◌+◌, ◌-◌, ◌*◌, ◌/◌, ◌%◌, ◌^◌, ◌<◌, ◌≤◌, true, false, ◌&&◌, ◌||◌, eqb, sym, refl, ap, ◌∙◌, subst, ⊎_elim, add-mul, arith, pow_pos}
use native.Mathlib.Nat.{div-eq_of_lt}
use lib.Bits.{bit_and, bit_or, and_zero_r}
use Rattle.std.proofs.lemmas.Nat.{and_mask, div-add-mod', div-mul-add, mod_below, mod-mul-add, or_disjoint, or_shr, pow_below, shr-shr, shr_split}
use Rattle.std.proofs.lemmas.Bool.{cases_lt, eqb-true, false≢true, ne_eqb}
use Rattle.ladders.specs.Sets.{holds}
use Rattle.ladders.proofs.Sets.{and-holds, and_none, bits-same, ones-hold, or-holds, power-holds}

-- a bit that is missing
lacks : (x c : ℕ) → holds x c ≡ false → bit_and x (2 ^ c) ≡ 0
lacks x c h = and_none x (2 ^ c) (λ d t. power-holds c d ∙ ne_eqb c d (λ e. false≢true (sym h ∙ ap (holds x) e ∙ t)))

-- is put in by a sum
pub added : (x c d : ℕ) → holds x c ≡ false → holds (x + 2 ^ c) d ≡ (holds x d || eqb c d)
added x c d h = ap (λ y. holds y d) (sym (or_disjoint x (2 ^ c) (lacks x c h))) ∙ or-holds x (2 ^ c) d ∙ ap (λ b. holds x d || b) (power-holds c d)

pub added-post : (n x c : ℕ) → c < n → holds x c ≡ false → (x + 2 ^ c) / 2 ^ n ≡ x / 2 ^ n
added-post n x c lt h =
    ap (λ y. y / 2 ^ n) (sym (or_disjoint x (2 ^ c) (lacks x c h)))
    ∙ or_shr x (2 ^ c) n
    ∙ ap (bit_or (x / 2 ^ n)) (div-eq_of_lt (pow_below c n lt))
    ∙ or_disjoint (x / 2 ^ n) 0 (and_zero_r (x / 2 ^ n))
    ∙ omega arith

-- and a number that has it is such a sum
pub lessened : (x c : ℕ) → holds x c ≡ true → (z : ℕ) × ((holds z c ≡ false) × (x ≡ z + 2 ^ c))
lessened x c h =
    let q : ℕ = x / 2 ^ c in
    let low = mod_below x (2 ^ c) (pow_pos c) in
    let odd : q % 2 ≡ 1 = eqb-true (q % 2) 1 h in
    let half : q ≡ q / 2 * 2 + 1 = sym (div-add-mod' q 2) ∙ ap (λ y. q / 2 * 2 + y) odd in
    let even : (q / 2 * 2 + 0) % 2 ≡ 0 = mod-mul-add (q / 2) 2 0 (omega arith) in (
      q / 2 * 2 * 2 ^ c + x % 2 ^ c,
      (
        ap (λ y. eqb (y % 2) 1) (div-mul-add (q / 2 * 2) (2 ^ c) (x % 2 ^ c) low) ∙ ne_eqb (q / 2 * 2 % 2) 1 (λ e. omega arith),
        sym (shr_split x c) ∙ ap (λ y. y * 2 ^ c + x % 2 ^ c) half ∙ omega (arith, add-mul (q / 2 * 2) 1 (2 ^ c)),
      ),
    )

-- the bits of a remainder
pub low-holds : (n x d : ℕ) → d < n → holds (x % 2 ^ n) d ≡ holds x d
low-holds n x d lt =
    ap (λ y. holds y d) (sym (and_mask x n))
    ∙ and-holds x (2 ^ n - 1) d
    ∙ ap (λ b. holds x d && b) (ones-hold n d lt)
    ∙ with-true (holds x d)
  where
    with-true : (b : _) → (b && true) ≡ b
    with-true true = refl
    with-true false = refl

-- numbers with the same quotient and the same bits below it
pub same_number : (n x y : ℕ) → x / 2 ^ n ≡ y / 2 ^ n → ((d : ℕ) → d < n → holds x d ≡ holds y d) → x ≡ y
same_number n x y e h = bits-same x y (λ d. ⊎_elim (h d) (λ (le : n ≤ d). subst (λ k. holds x k ≡ holds y k) (let s : n + (d - n) ≡ d = omega arith in s) (high (d - n))) (cases_lt d n))
  where
    high : (k : ℕ) → holds x (n + k) ≡ holds y (n + k)
    high k = ap (λ z. eqb (z % 2) 1) (sym (shr-shr x n k) ∙ ap (λ z. z / 2 ^ k) e ∙ shr-shr y n k)
