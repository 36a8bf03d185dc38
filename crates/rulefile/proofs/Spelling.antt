-- The letters and digits of names, and items as text.
use Rattle.std.proofs.Common.{◌≡◌, ℕ, ◌+◌, ◌-◌, Bool, true, false, List, ◌++◌, Some, refl, ap, arith}
use Rattle.std.proofs.lemmas.Bool.Decides.{nat_tests}
use Rattle.rulefile.specs.declared.grammar.Name.{Name}
use Rattle.rulefile.specs.declared.grammar.Name.TheVariants.{Condition, Post}
use Rattle.rulefile.specs.Items.{name_of, byte_of, Known, text}

pub byte-name : (x : Name) → Known x → name_of (byte_of x) ≡ Some x
byte-name (Condition c) h = let e : (97 + c) - 97 ≡ c = omega arith in grind (arith, nat_tests)
byte-name (Post p) h = let e : (48 + p) - 48 ≡ p = omega arith in grind (arith, nat_tests)

pub name-byte : (b : ℕ) (x : Name) → name_of b ≡ Some x → byte_of x ≡ b
name-byte b (Condition c) e = grind (arith, nat_tests)
name-byte b (Post p) e = grind (arith, nat_tests)

pub name-known : (b : ℕ) (x : Name) → name_of b ≡ Some x → Known x
name-known b (Condition c) e = grind (arith, nat_tests)
name-known b (Post p) e = grind (arith, nat_tests)

pub byte-same : (x y : Name) → Known x → Known y → byte_of x ≡ byte_of y → x ≡ y
byte-same x y h k e = let p = byte-name x h in let q = byte-name y k in let r = ap name_of e in cc

pub no-bang : (x : Name) → Known x → byte_of x ≡ 33 → ⊥
no-bang (Condition c) h e = omega arith
no-bang (Post p) h e = omega arith

-- An item's text tells the item, and where it ends.
pub text_same : (p q : Bool) (x y : Name) (xs ys : List ℕ) → Known x → Known y → text p x ++ xs ≡ text q y ++ ys → (p ≡ q) × ((x ≡ y) × (xs ≡ ys))
text_same true true x y xs ys h k e = let b : byte_of x ≡ byte_of y = cc in let t : xs ≡ ys = cc in (refl, (byte-same x y h k b, t))
text_same true false x y xs ys h k e = let b : byte_of y ≡ 33 = cc in absurd (no-bang y k b)
text_same false true x y xs ys h k e = let b : byte_of x ≡ 33 = cc in absurd (no-bang x h b)
text_same false false x y xs ys h k e = let b : byte_of x ≡ byte_of y = cc in let t : xs ≡ ys = cc in (refl, (byte-same x y h k b, t))
