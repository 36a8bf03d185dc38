-- A request packed into one number by shifts, and taken out of it again.
use Rattle.std.proofs.Common.{◌≡◌, ℕ, ◌+◌, ◌-◌, ◌*◌, ◌%◌, ◌^◌, ◌<◌, ◌≤◌, Bool, true, cond, Option, Some, None, is_some, IfSome, sym, refl, ap, ◌∙◌, arith}
use lib.Bits.{bit_and, bit_or}
use Rattle.std.proofs.lemmas.Nat.{and_mask, one_shl, or_shifted, shl_whole}

pub packing : (n post set : ℕ) → n ≤ 9 → post < 2 ^ 8 → set < 2 ^ n → bit_or ((post * 2 ^ n) % 2 ^ 64) set ≡ post * 2 ^ n + set
packing n post set h p s = ap (λ x. bit_or x set) (shl_whole post 8 n 64 p (omega arith)) ∙ or_shifted post n set s

pub masked : (n number : ℕ) → n ≤ 9 → bit_and number ((1 * 2 ^ n) % 2 ^ 64 - 1) ≡ number % 2 ^ n
masked n number h = ap (λ m. bit_and number (m - 1)) (one_shl n 64 (omega arith)) ∙ and_mask number n

-- what is given on a condition, and is that value
pub given : {X : Type 0} (o : Option X) (b : Bool) {P : X → Type 0} (x : X) → is_some o ≡ b → IfSome o P → (b ≡ true → (y : X) → P y → y ≡ x) → o ≡ cond b (Some x) None
given None b x e h same = rw (sym e) refl
given (Some y) b x e h same = ap Some (same (sym e) y h) ∙ rw (sym e) refl
