-- Every file splits into lines in exactly one way; where its lines lie, and which number each has.
use Rattle.std.proofs.Common.{◌≡◌, ℕ, zero, suc, ◌+◌, ◌-◌, ◌<◌, ◌≤◌, ◌⊎◌, List, [], ◌∷◌, ◌++◌, length, take, drop, Some, sym, refl, ap, ◌∙◌, subst, inl, inr, ⊎_elim, arith, length-append}
use Rattle.std.specs.List.{slice_get}
use Rattle.std.proofs.lemmas.List.{take_at, take_all, drop_all, drop-drop, append_assoc, drop_at}
use Rattle.std.proofs.lemmas.Bool.{cases_eq}
use Rattle.lines.specs.Lines.{Span, span, Unbroken, FirstLine, ended, cut_off, Lines, none, more}

-- A first line, by what ends it.
pub first-cases : {x ys xs : List ℕ} → FirstLine xs x ys → (Unbroken x × (xs ≡ x ++ (10 ∷ ys))) ⊎ (Unbroken x × (0 < length x) × (xs ≡ x) × (ys ≡ []))
first-cases (ended u) = inl (u, refl)
first-cases (cut_off h u) = inr (u, h, refl, refl)

-- Lines, by whether there is one.
pub lines-cases : {k s : ℕ} {xs : List ℕ} {ls : List Span} → Lines k s xs ls → ((xs ≡ []) × (ls ≡ [])) ⊎ ((x : List ℕ) × (ys : List ℕ) × (ms : List Span) × FirstLine xs x ys × Lines (suc k) (s + (length xs - length ys)) ys ms × (ls ≡ span k s x ∷ ms))
lines-cases none = inl (refl, refl)
lines-cases (more f l) = inr (_, _, _, f, l, refl)

-- Where the byte 10 first stands: what comes before it is the same, and what follows it.
same_ended : (x y xs ys : List ℕ) → Unbroken x → Unbroken y → x ++ (10 ∷ xs) ≡ y ++ (10 ∷ ys) → (x ≡ y) × (xs ≡ ys)
same_ended [] [] xs ys u v e = (refl, cc)
same_ended [] (b ∷ y) xs ys u v e = absurd (v.0 (cc))
same_ended (a ∷ x) [] xs ys u v e = absurd (u.0 (cc))
same_ended (a ∷ x) (b ∷ y) xs ys u v e = let r = same_ended x y xs ys u.1 v.1 (cc) in let p = r.0 in let q = r.1 in (cc, q)

-- Bytes of which none ends a line do not hold a byte 10.
unbroken-apart : (x y ys : List ℕ) → Unbroken x → x ≡ y ++ (10 ∷ ys) → ⊥
unbroken-apart [] [] ys u e = cc
unbroken-apart [] (b ∷ y) ys u e = cc
unbroken-apart (a ∷ x) [] ys u e = u.0 (cc)
unbroken-apart (a ∷ x) (b ∷ y) ys u e = unbroken-apart x y ys u.1 (cc)

-- There is at most one first line.
pub first_one : {xs x xs' y ys' : List ℕ} → FirstLine xs x xs' → FirstLine xs y ys' → (x ≡ y) × (xs' ≡ ys')
first_one {xs} {x} {xs'} {y} {ys'} f g =
    ⊎_elim
    (λ a. ⊎_elim
    (λ b. same_ended x y xs' ys' a.0 b.0 (sym a.1 ∙ b.1))
    (λ b. absurd (unbroken-apart y x xs' b.0 (sym b.2 ∙ a.1)))
    (first-cases g))
    (λ a. ⊎_elim
    (λ b. absurd (unbroken-apart x y ys' a.0 (sym a.2 ∙ b.1)))
    (λ b. (sym a.2 ∙ b.2, a.3 ∙ sym b.3))
    (first-cases g))
    (first-cases f)

-- A first line takes at least one byte of the file, and at least one more than itself where anything follows.
pub first-length : {xs x ys : List ℕ} → FirstLine xs x ys → (length x + length ys ≤ length xs) × (length ys < length xs) × (0 < length ys → length x + length ys < length xs)
first-length {xs} {x} {ys} f =
    ⊎_elim
    (λ a. let e : length xs ≡ length x + suc (length ys) = ap length a.1 ∙ length-append x (10 ∷ ys) in (omega arith, omega arith, λ h. omega arith))
    (λ a. let e : length xs ≡ length x = ap length a.2 in let z : length ys ≡ 0 = ap length a.3 in let h : 0 < length x = a.1 in (omega arith, omega arith, λ l. omega arith))
    (first-cases f)

-- A byte that ends no line goes before a first line.
first_more : (b : ℕ) {xs x ys : List ℕ} → (b ≡ 10 → ⊥) → FirstLine xs x ys → FirstLine (b ∷ xs) (b ∷ x) ys
first_more b {xs} {x} {ys} n f =
    ⊎_elim
    (λ a. subst (λ l. FirstLine (b ∷ l) (b ∷ x) ys) (sym a.1) (ended (n, a.0)))
    (λ a. subst (λ l. FirstLine (b ∷ l) (b ∷ x) ys) (sym a.2) (subst (λ l. FirstLine (b ∷ x) (b ∷ x) l) (sym a.3) (cut_off (omega arith) (n, a.0))))
    (first-cases f)

-- Bytes have a first line unless there are none.
pub first_some : (xs : List ℕ) → 0 < length xs → (x : List ℕ) × (ys : List ℕ) × FirstLine xs x ys
first_some [] h = absurd (omega arith)
first_some (b ∷ []) h =
    ⊎_elim
    (λ e. ([], [], subst (λ c. FirstLine (c ∷ []) [] []) (sym e) (ended tt)))
    (λ n. (b ∷ [], [], cut_off (omega arith) (n, tt)))
    (cases_eq b 10)
first_some (b ∷ c ∷ bs) h =
    let r = first_some (c ∷ bs) (omega arith) in
    ⊎_elim
    (λ e. ([], c ∷ bs, subst (λ d. FirstLine (d ∷ c ∷ bs) [] (c ∷ bs)) (sym e) (ended tt)))
    (λ n. (b ∷ r.0, r.1, first_more b n r.2))
    (cases_eq b 10)

-- Where there are no bytes, there is no first line.
pub no-first : {xs x ys : List ℕ} → FirstLine xs x ys → xs ≡ [] → ⊥
no-first f e = let l = (first-length f).1 in let z = ap length e in omega arith

-- There is at most one split.
pub lines-one : (k s : ℕ) (xs : List ℕ) (ls ms : List Span) → Lines k s xs ls → Lines k s xs ms → ls ≡ ms
lines-one k s xs ls ms none q =
    ⊎_elim (λ b. sym b.1) (λ b. absurd (no-first b.3 refl)) (lines-cases q)
lines-one k s xs ns ms (more {x = x} {ys = ys} {ls = ls} f l) q =
    ⊎_elim
    (λ b. absurd (no-first f b.0))
    (λ b.
    let one = first_one f b.3 in
    let rest = lines-one (suc k) (s + (length xs - length ys)) ys ls b.2 l (subst (λ zs. Lines (suc k) (s + (length xs - length zs)) zs b.2) (sym one.1) b.4) in
    ap (λ y. span k s y ∷ ls) one.0 ∙ ap (λ rs. span k s b.0 ∷ rs) rest ∙ sym b.5)
    (lines-cases q)

some-within : (n k s : ℕ) (xs : List ℕ) → length xs ≤ n → (ls : List Span) × Lines k s xs ls
some-within n k s [] h = ([], none)
some-within zero k s (b ∷ bs) h = absurd (omega arith)
some-within (suc n) k s (b ∷ bs) h =
    let r = first_some (b ∷ bs) (omega arith) in
    let l = (first-length r.2).1 in
    let m = some-within n (suc k) (s + (length (b ∷ bs) - length r.1)) r.1 (omega arith) in
    (span k s r.0 ∷ m.0, more r.2 m.1)

-- There is a split.
pub lines-some : (k s : ℕ) (xs : List ℕ) → (ls : List Span) × Lines k s xs ls
lines-some k s xs = some-within (length xs) k s xs (omega arith)

-- Where a line is found, there are bytes.
lines-bytes : (k s : ℕ) (xs : List ℕ) (ls : List Span) (m : ℕ) (sp : Span) → Lines k s xs ls → slice_get ls m ≡ Some sp → 0 < length xs
lines-bytes k s xs ls m sp none e = absurd (cc)
lines-bytes k s xs ns m sp (more f l) e = let h = (first-length f).1 in omega arith

-- The lines are numbered one after another.
pub lines-number : (k s : ℕ) (xs : List ℕ) (ls : List Span) (m : ℕ) (sp : Span) → Lines k s xs ls → slice_get ls m ≡ Some sp → sp.number ≡ k + m
lines-number k s xs ls m sp none e = absurd (cc)
lines-number k s xs ns zero sp (more {x = x} f l) e = let q : span k s x ≡ sp = cc in let n : k ≡ sp.number = ap (λ t. t.number) q in omega arith
lines-number k s xs ns (suc m) sp (more {ys = ys} {ls = ls} f l) e =
    let n = lines-number (suc k) (s + (length xs - length ys)) ys ls m sp l e in omega arith

-- A line lies within the file.
pub lines-within : (k s : ℕ) (xs : List ℕ) (ls : List Span) (m : ℕ) (sp : Span) → Lines k s xs ls → slice_get ls m ≡ Some sp → (s ≤ sp.start) × (sp.start + length sp.bytes ≤ s + length xs)
lines-within k s xs ls m sp none e = absurd (cc)
lines-within k s xs ns zero sp (more {x = x} f l) e =
    let q : span k s x ≡ sp = cc in
    let a : s ≡ sp.start = ap (λ t. t.start) q in
    let b : length x ≡ length sp.bytes = ap (λ t. length t.bytes) q in
    let h = (first-length f).0 in
    (omega arith, omega arith)
lines-within k s xs ns (suc m) sp (more {ys = ys} {ls = ls} f l) e =
    let r = lines-within (suc k) (s + (length xs - length ys)) ys ls m sp l e in
    let a = r.0 in
    let b = r.1 in
    let h = (first-length f).1 in
    (omega arith, omega arith)

-- A line lies with its end wholly before each later line.
pub lines-apart : (k s : ℕ) (xs : List ℕ) (ls : List Span) (m m' : ℕ) (sp sp' : Span) → Lines k s xs ls → m < m' → slice_get ls m ≡ Some sp → slice_get ls m' ≡ Some sp' → sp.start + length sp.bytes < sp'.start
lines-apart k s xs ls m m' sp sp' none lt e e' = absurd (cc)
lines-apart k s xs ns m zero sp sp' (more f l) lt e e' = absurd (omega arith)
lines-apart k s xs ns zero (suc m') sp sp' (more {x = x} {ys = ys} {ls = ls} f l) lt e e' =
    let q : span k s x ≡ sp = cc in
    let a : s ≡ sp.start = ap (λ t. t.start) q in
    let b : length x ≡ length sp.bytes = ap (λ t. length t.bytes) q in
    let w = (lines-within (suc k) (s + (length xs - length ys)) ys ls m' sp' l e').0 in
    let h = (first-length f).2 (lines-bytes (suc k) (s + (length xs - length ys)) ys ls m' sp' l e') in
    omega arith
lines-apart k s xs ns (suc m) (suc m') sp sp' (more {ys = ys} {ls = ls} f l) lt e e' =
    lines-apart (suc k) (s + (length xs - length ys)) ys ls m m' sp sp' l (omega arith) e e'

-- A first line and what follows it are parts of the bytes.
first-parts : {xs x ys : List ℕ} → FirstLine xs x ys → (x ≡ take (length x) xs) × (ys ≡ drop (length xs - length ys) xs)
first-parts {xs} {x} {ys} f =
    ⊎_elim
    (λ a.
    let n : length xs ≡ length x + suc (length ys) = ap length a.1 ∙ length-append x (10 ∷ ys) in
    let m : length (x ++ (10 ∷ [])) ≡ length xs - length ys = length-append x (10 ∷ []) ∙ omega arith in (
      sym (take_at x (10 ∷ ys) (length x) refl) ∙ ap (take (length x)) (sym a.1),
      sym (drop_at (x ++ (10 ∷ [])) ys (length xs - length ys) m) ∙ ap (drop (length xs - length ys)) (append_assoc x (10 ∷ []) ys ∙ sym a.1),
    ))
    (λ a.
    let n : length xs ≡ length x = ap length a.2 in
    let z : length ys ≡ 0 = ap length a.3 in
    (sym a.2 ∙ sym (take_all (length x) xs (omega arith)), a.3 ∙ sym (drop_all (length xs - length ys) xs (omega arith))))
    (first-cases f)

-- A line's bytes are those that the file has from the line's start on.
pub lines-part : (k s : ℕ) (xs : List ℕ) (ls : List Span) (m : ℕ) (sp : Span) → Lines k s xs ls → slice_get ls m ≡ Some sp → sp.bytes ≡ take (length sp.bytes) (drop (sp.start - s) xs)
lines-part k s xs ls m sp none e = absurd (cc)
lines-part k s xs ns zero sp (more {x = x} f l) e =
    let q : span k s x ≡ sp = cc in
    let P : Span → Type 0 = λ t. t.bytes ≡ take (length t.bytes) (drop (t.start - s) xs) in
    let z : 0 ≡ s - s = omega arith in
    subst P q ((first-parts f).0 ∙ ap (λ n. take (length x) (drop n xs)) z)
lines-part k s xs ns (suc m) sp (more {ys = ys} {ls = ls} f l) e =
    let d = length xs - length ys in
    let w = (lines-within (suc k) (s + d) ys ls m sp l e).0 in
    let n : d + (sp.start - (s + d)) ≡ sp.start - s = omega arith in
    lines-part (suc k) (s + d) ys ls m sp l e
    ∙ ap (λ zs. take (length sp.bytes) (drop (sp.start - (s + d)) zs)) (first-parts f).1
    ∙ ap (take (length sp.bytes)) (drop-drop (sp.start - (s + d)) d xs)
    ∙ ap (λ i. take (length sp.bytes) (drop i xs)) n
