-- Which places of a line are not at fault: none within items that may stand there.
use Rattle.std.proofs.Common.{◌≡◌, ℕ, ◌<◌, Bool, true, false, ◌⊎◌, List, [], ◌∷◌, ◌++◌, length, Some, ◌≢◌, sym, refl, ap, ◌∙◌, subst, ap₂, inl, inr, ⊎_elim, append_assoc, append-nil, arith, length-append}
use Rattle.std.specs.List.{flat_map, AllByRecursion}
use Rattle.std.proofs.lemmas.Bool.{both_ways}
use Rattle.rules.specs.declared.letter.Letter.TheVariants.{Guarded}
use Rattle.rulefile.specs.declared.grammar.Grammar.{Grammar}
use Rattle.rulefile.specs.declared.grammar.Name.{Name}
use Rattle.rulefile.specs.declared.grammar.Item.{Item}
use Rattle.rulefile.specs.Faults.{Kind, wrong-head, no-mark, not-due, out_of_range, repeated, not-allowed, no_slot}
use Rattle.rulefile.specs.Items.{name_of, byte_of, Known, item, text, spelled, again, Within, Fits, Follow}
use Rattle.rulefile.specs.Faulty.{Begun, between, spaced, banged, begun, barring, Due, Named, Bang, Amiss}
use Rattle.rulefile.proofs.Spelling.{byte-name, no-bang, text_same}

-- A fault of an item is of one of four kinds.
module _ (g : Grammar) (is : List Item) (part : Begun) (rest : List ℕ) (P : Kind → Type 0) where
  pub by_kind : ((Due part rest → ⊥) → P not-due)
      → ((x : Name) → Named part rest x → (Within g x → ⊥) → P out_of_range)
      → ((x : Name) → Named part rest x → again is (item (barring part) x) ≡ true → P repeated)
      → (Bang part rest → g.letter ≢ Guarded → P not-allowed)
      → (kind : Kind) → Amiss g is part rest kind → P kind
  by_kind due range twice bang wrong-head h = absurd h
  by_kind due range twice bang no-mark h = absurd h
  by_kind due range twice bang not-due h = due h
  by_kind due range twice bang out_of_range (x, (n, w)) = range x n w
  by_kind due range twice bang repeated (x, (n, w)) = twice x n w
  by_kind due range twice bang not-allowed (n, w) = bang n w
  by_kind due range twice bang no_slot h = absurd h

-- What is begun asks for a name where the byte b stands.
abbrev pub Asks : Begun → ℕ → Type 0
Asks between b = ⊥
Asks spaced b = b ≡ 33 → ⊥
Asks banged b = Unit {0}

-- The name x, and no other, and no ! stands first in the rest of the line, and is due there.
pub record NamedHere (part : Begun) (rest : List ℕ) (x : Name) : Type 0 where
  pub due : Due part rest
  pub named : Named part rest x
  pub only : (y : Name) → Named part rest y → x ≡ y
  pub plain : Bang part rest → ⊥

same-name : (b : ℕ) (x y : Name) → name_of b ≡ Some x → name_of b ≡ Some y → x ≡ y
same-name b x y e f = cc

pub named-here : (part : Begun) (b : ℕ) (x : Name) (rest : List ℕ) → Asks part b → name_of b ≡ Some x → NamedHere part (b ∷ rest) x
named-here between b x rest a n = absurd a
named-here spaced b x rest a n = record { due = inr (x, n); named = n; only = λ y m. same-name b x y n m; plain = a }
named-here banged b x rest a n = record { due = (x, n); named = n; only = λ y m. same-name b x y n m; plain = λ h. h }

-- a space between items is not at fault
space-due : (g : Grammar) (is : List Item) (rest : List ℕ) (kind : Kind) → Amiss g is between (32 ∷ rest) kind → ⊥
space-due g is rest = by_kind g is between (32 ∷ rest) (λ _. ⊥) (λ h. h refl) (λ x n w. n) (λ x n w. n) (λ n w. n)

pub bang-named : (x : Name) → name_of 33 ≡ Some x → ⊥
bang-named x e = cc

-- nor is a ! after a space, in a guarded list
bang-due : (g : Grammar) (is : List Item) (rest : List ℕ) (kind : Kind) → g.letter ≡ Guarded → Amiss g is spaced (33 ∷ rest) kind → ⊥
bang-due g is rest kind l = by_kind g is spaced (33 ∷ rest) (λ _. ⊥) (λ h. h (inl refl)) (λ x n w. bang-named x n) (λ x n w. bang-named x n) (λ n w. w l) kind

-- nor is the name of an item that fits
name-due : (g : Grammar) (is : List Item) (part : Begun) (x : Name) (rest : List ℕ) (kind : Kind) → Asks part (byte_of x) → Fits g is (item (barring part) x) → Amiss g is part (byte_of x ∷ rest) kind → ⊥
name-due g is part x rest kind a f =
    let here = named-here part (byte_of x) x rest a (byte-name x f.known) in
    by_kind g is part (byte_of x ∷ rest) (λ _. ⊥)
    (λ h. h here.due)
    (λ y n w. w (subst (Within g) (here.only y n) f.within))
    (λ y n w. both_ways (again is (item (barring part) x)) f.new (rw (sym (here.only y n)) at w))
    (λ n w. here.plain n)
    kind

-- no place in the text of an item that fits is at fault
item-due : (g : Grammar) (is : List Item) (b : Bool) (x : Name) (part : Begun) (rest more : List ℕ) (kind : Kind) → Fits g is (item b x) → text b x ++ more ≡ begun part ++ rest → Amiss g is part rest kind → ⊥
item-due g is true x between rest more kind f e h = space-due g is (33 ∷ (byte_of x ∷ more)) kind (subst (λ r. Amiss g is between r kind) (sym e) h)
item-due g is false x between rest more kind f e h = space-due g is (byte_of x ∷ more) kind (subst (λ r. Amiss g is between r kind) (sym e) h)
item-due g is true x spaced rest more kind f e h =
    let t : 33 ∷ (byte_of x ∷ more) ≡ rest = cc in bang-due g is (byte_of x ∷ more) kind (f.bar refl) (subst (λ r. Amiss g is spaced r kind) (sym t) h)
item-due g is false x spaced rest more kind f e h =
    let t : byte_of x ∷ more ≡ rest = cc in name-due g is spaced x more kind (no-bang x f.known) f (subst (λ r. Amiss g is spaced r kind) (sym t) h)
item-due g is true x banged rest more kind f e h =
    let t : byte_of x ∷ more ≡ rest = cc in name-due g is banged x more kind tt f (subst (λ r. Amiss g is banged r kind) (sym t) h)
item-due g is false x banged rest more kind f e h = let t : byte_of x ≡ 33 = cc in no-bang x f.known t

-- What is begun of an item may be begun: a ! only in a guarded list.
abbrev pub Ready : Grammar → Begun → Type 0
Ready g between = Unit {0}
Ready g spaced = Unit {0}
Ready g banged = g.letter ≡ Guarded

-- Of two ways to begin the rest of a line, the shorter has no fault.
begun_first : (g : Grammar) (is : List Item) (part part' : Begun) (rest rest' : List ℕ) (kind : Kind) → Ready g part → begun part ++ rest ≡ begun part' ++ rest' → Amiss g is part' rest' kind
    → (length (begun part) < length (begun part')) ⊎ ((part ≡ part') × (rest ≡ rest'))
begun_first g is between between rest rest' kind r e h = inr (refl, e)
begun_first g is between spaced rest rest' kind r e h = inl (omega arith)
begun_first g is between banged rest rest' kind r e h = inl (omega arith)
begun_first g is spaced between rest rest' kind r e h = absurd (space-due g is rest kind (subst (λ xs. Amiss g is between xs kind) (sym e) h))
begun_first g is spaced spaced rest rest' kind r e h = let t : rest ≡ rest' = cc in inr (refl, t)
begun_first g is spaced banged rest rest' kind r e h = inl (omega arith)
begun_first g is banged between rest rest' kind r e h = absurd (space-due g is (33 ∷ rest) kind (subst (λ xs. Amiss g is between xs kind) (sym e) h))
begun_first g is banged spaced rest rest' kind r e h =
    let t : 33 ∷ rest ≡ rest' = cc in absurd (bang-due g is rest kind r (subst (λ xs. Amiss g is spaced xs kind) (sym t) h))
begun_first g is banged banged rest rest' kind r e h = let t : rest ≡ rest' = cc in inr (refl, t)

-- What is begun is shorter than any item that begins so.
begun-short : (part : Begun) (b : Bool) (x : Name) (rest more : List ℕ) → Known x → begun part ++ rest ≡ text b x ++ more → length (begun part) < length (text b x)
begun-short between true x rest more k e = omega arith
begun-short between false x rest more k e = omega arith
begun-short spaced true x rest more k e = omega arith
begun-short spaced false x rest more k e = omega arith
begun-short banged true x rest more k e = omega arith
begun-short banged false x rest more k e = let t : byte_of x ≡ 33 = cc in absurd (no-bang x k t)

-- After items that may stand there, the first place that can be at fault is the one after what is begun.
pub first-place : (g : Grammar) (before is : List Item) (part : Begun) (rest : List ℕ) (is' : List Item) (part' : Begun) (rest' : List ℕ) (kind : Kind)
    → Follow g before is → Ready g part → AllByRecursion (λ i. Known i.name) is'
    → flat_map spelled is ++ (begun part ++ rest) ≡ flat_map spelled is' ++ (begun part' ++ rest')
    → Amiss g (before ++ is') part' rest' kind
    → (length (flat_map spelled is ++ begun part) < length (flat_map spelled is' ++ begun part')) ⊎ ((is ≡ is') × ((part ≡ part') × (rest ≡ rest')))
first-place g before [] part rest [] part' rest' kind f r k e h =
    ⊎_elim (λ lt. inl lt) (λ p. inr (refl, p)) (begun_first g (before ++ []) part part' rest rest' kind r e h)
first-place g before [] part rest (i' ∷ is') part' rest' kind f r k e h =
    let short = begun-short part i'.barred i'.name rest (flat_map spelled is' ++ (begun part' ++ rest')) k.0 (e ∙ append_assoc (spelled i') (flat_map spelled is') (begun part' ++ rest')) in
    inl (simp length-append (omega arith))
first-place g before (i ∷ is) part rest [] part' rest' kind f r k e h =
    absurd
    (item-due g before i.barred i.name part' rest' (flat_map spelled is ++ (begun part ++ rest)) kind f.0
    (sym (append_assoc (spelled i) (flat_map spelled is) (begun part ++ rest)) ∙ e) (rw append-nil at h))
first-place g before (i ∷ is) part rest (i' ∷ is') part' rest' kind f r k e h =
    let t =
    text_same i.barred i'.barred i.name i'.name (flat_map spelled is ++ (begun part ++ rest)) (flat_map spelled is' ++ (begun part' ++ rest')) f.0.known k.0
    (sym (append_assoc (spelled i) (flat_map spelled is) (begun part ++ rest)) ∙ e ∙ append_assoc (spelled i') (flat_map spelled is') (begun part' ++ rest')) in
    let same : i ≡ i' = ap₂ item t.0 t.1.0 in
    let longer = ap (λ j. length (spelled j)) same in
    ⊎_elim
    (λ (lt : length (flat_map spelled is ++ begun part) < length (flat_map spelled is' ++ begun part')).
    let l = simp length-append at lt in inl (simp length-append (omega arith)))
    (λ p. inr (ap₂ ◌∷◌ same p.0, p.1))
    (first-place g (before ++ (i ∷ [])) is part rest is' part' rest' kind f.1 r k.1 t.1.1
    (subst (λ js. Amiss g js part' rest' kind) (sym (append_assoc before (i ∷ []) is' ∙ ap (λ j. before ++ (j ∷ is')) same)) h))
