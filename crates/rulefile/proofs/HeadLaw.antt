-- The first line tells its letter and its number of conditions, in one way.
use Rattle.std.proofs.Common.{◌≡◌, ℕ, ◌+◌, ◌-◌, ◌≤◌, eqb, List, [], ◌∷◌, Some, None, Option, sym, refl, ap, subst, ap₂, arith}
use Rattle.std.proofs.lemmas.Bool.{cond_both, eqb-true, eqb-false}
use Rattle.std.proofs.lemmas.Bool.Decides.{nat_tests}
use Rattle.rules.specs.declared.letter.Letter.{Letter}
use Rattle.rules.specs.declared.letter.Letter.TheVariants.{Guarded, Model}
use Rattle.rules.specs.declared.letter.Model.TheVariants.{A, B, C, D}
use Rattle.rules.specs.Letters.{letter_byte}
use Rattle.rulefile.specs.Files.{Head}
use Rattle.rulefile.specs.Steps.{letter_of, digit_of, both, head_of}

letter-told : (l : Letter) → letter_of (letter_byte l) ≡ Some l
letter-told Guarded = refl
letter-told (Model A) = refl
letter-told (Model B) = refl
letter-told (Model C) = refl
letter-told (Model D) = refl

letter-byte : (b : ℕ) (l : Letter) → letter_of b ≡ Some l → b ≡ letter_byte l
letter-byte b Guarded e = grind (arith, nat_tests)
letter-byte b (Model A) e = grind (arith, nat_tests)
letter-byte b (Model B) e = grind (arith, nat_tests)
letter-byte b (Model C) e = grind (arith, nat_tests)
letter-byte b (Model D) e = grind (arith, nat_tests)

digit-told : (n : ℕ) → n ≤ 9 → digit_of (48 + n) ≡ Some n
digit-told n h = let e : (48 + n) - 48 ≡ n = omega arith in grind (arith, nat_tests)

digit-byte : (b n : ℕ) → digit_of b ≡ Some n → (n ≤ 9) × (b ≡ 48 + n)
digit-byte b n e = let p : n ≤ 9 = grind (arith, nat_tests) in let q : b ≡ 48 + n = grind (arith, nat_tests) in (p, q)

-- What an answer says of a first line.
abbrev pub HeadSays : List ℕ → Option (Letter × ℕ) → Type 0
HeadSays x None = (l : Letter) (n : ℕ) → Head x l n → ⊥
HeadSays x (Some v) = Head x v.0 v.1

both_say : (a d : ℕ) (o : Option Letter) (q : Option ℕ) → letter_of a ≡ o → digit_of d ≡ q → HeadSays (a ∷ (32 ∷ (d ∷ []))) (both o q)
both_say a d None q e f =
    λ l n (h, x). let t = letter-told l in let b : letter_byte l ≡ a = cc in let u = ap letter_of b in cc
both_say a d (Some k) None e f =
    λ l n (h, x). let t = digit-told n h in let b : 48 + n ≡ d = cc in let u = ap digit_of b in cc
both_say a d (Some k) (Some m) e f =
    let s = digit-byte d m f in (s.0, ap₂ (λ b c. b ∷ (32 ∷ (c ∷ []))) (letter-byte a k e) s.1)

pub head-says : (x : List ℕ) → HeadSays x (head_of x)
head-says [] = λ l n (h, x). cc
head-says (a ∷ []) = λ l n (h, x). cc
head-says (a ∷ (s ∷ [])) = λ l n (h, x). cc
head-says (a ∷ (s ∷ (d ∷ []))) =
    cond_both (eqb s 32) (both (letter_of a) (digit_of d)) None (HeadSays (a ∷ (s ∷ (d ∷ []))))
    (λ t. subst (λ b. HeadSays (a ∷ (b ∷ (d ∷ []))) (both (letter_of a) (digit_of d))) (sym (eqb-true s 32 t)) (both_say a d (letter_of a) (digit_of d) refl refl))
    (λ t l n h. let e = h.1 in eqb-false s 32 t (cc))
head-says (a ∷ (s ∷ (d ∷ (e ∷ rest)))) = λ l n (h, x). cc

pub head-one : (x : List ℕ) (l l' : Letter) (n n' : ℕ) → Head x l n → Head x l' n' → (l ≡ l') × (n ≡ n')
head-one x l l' n n' (h, e) (h', e') =
    let b : letter_byte l ≡ letter_byte l' = cc in
    let s = letter-told l in
    let t = letter-told l' in
    let u = ap letter_of b in
    let d : 48 + n ≡ 48 + n' = cc in
    let same : l ≡ l' = cc in (same, omega arith)
