-- What the reader answers of an item is what stands there: an item that fits, or the first place at fault.
use Rattle.std.proofs.Common.{◌≡◌, ℕ, ◌+◌, ◌<◌, ◌≤◌, true, false, eqb, List, [], ◌∷◌, ◌++◌, length, Some, None, Ok, Err, Option, Result, sym, refl, ap, ◌∙◌, subst, inl, inr, add-zero, arith}
use Rattle.std.proofs.lemmas.Bool.{both_ways, cond_both, eqb-true, eqb-false, ltb-true, ltb-false}
use Rattle.lines.specs.declared.reader.Place.{Place}
use Rattle.rules.specs.declared.letter.Letter.{Letter}
use Rattle.rules.specs.declared.letter.Letter.TheVariants.{Guarded, Model}
use Rattle.rulefile.specs.declared.grammar.Grammar.{Grammar}
use Rattle.rulefile.specs.declared.grammar.Name.{Name}
use Rattle.rulefile.specs.declared.grammar.Name.TheVariants.{Condition, Post}
use Rattle.rulefile.specs.declared.grammar.Item.{Item}
use Rattle.rulefile.specs.declared.draft.Draft.{Draft}
use Rattle.rulefile.specs.declared.faults.ItemFault.TheVariants.{NotDue, OutOfRange}
use Rattle.rulefile.specs.declared.faults.LineFault.{LineFault}
use Rattle.rulefile.specs.declared.faults.LineFault.TheVariants.{Item as InItem, Repeated, NotAllowed}
use Rattle.rulefile.specs.Faults.{Kind, not-due, out_of_range, repeated, not-allowed, number, place, line_kind, line_place}
use Rattle.rulefile.specs.Items.{name_of, item, spelled, again, Within, Fits}
use Rattle.rulefile.specs.Faulty.{Begun, between, spaced, banged, begun, barring, Due, Amiss}
use Rattle.rulefile.specs.Steps.{is_guarded, within, known_name, with_rest, item_of, new_item, next_place, after_bang, after_space, item_read, repeats}
use Rattle.rulefile.proofs.Spelling.{name-byte, name-known}
use Rattle.rulefile.proofs.Places.{Ready, Asks, NamedHere, named-here, by_kind, bang-named}

pub guarded-true : (l : Letter) → is_guarded l ≡ true → l ≡ Guarded
guarded-true Guarded h = refl
guarded-true (Model m) h = absurd (both_ways false refl h)

pub guarded-false : (l : Letter) → is_guarded l ≡ false → l ≡ Guarded → ⊥
guarded-false Guarded h e = both_ways true h refl
guarded-false (Model m) h e = cc

within-true : (g : Grammar) (x : Name) → within g x ≡ true → Within g x
within-true g (Condition c) h = ltb-true c g.conditions h
within-true g (Post p) h = ltb-true p g.posts h

within-false : (g : Grammar) (x : Name) → within g x ≡ false → Within g x → ⊥
within-false g (Condition c) h w = let l = ltb-false c g.conditions h in omega arith
within-false g (Post p) h w = let l = ltb-false p g.posts h in omega arith

-- The rest of the line is at fault in the way told, and in none with a lesser number.
pub record Told (g : Grammar) (is : List Item) (part : Begun) (rest : List ℕ) (kind : Kind) : Type 0 where
  pub amiss : Amiss g is part rest kind
  pub least : (kind' : Kind) → Amiss g is part rest kind' → number kind ≤ number kind'

told-due : (g : Grammar) (is : List Item) (part : Begun) (rest : List ℕ) → (Due part rest → ⊥) → Told g is part rest not-due
told-due g is part rest h =
    record {
      amiss = h;
      least = by_kind g is part rest (λ k. 3 ≤ number k) (λ _. omega arith) (λ x n w. omega arith) (λ x n w. omega arith) (λ n w. omega arith);
    }

told-bang : (g : Grammar) (is : List Item) (rest : List ℕ) → (g.letter ≡ Guarded → ⊥) → Told g is spaced (33 ∷ rest) not-allowed
told-bang g is rest l =
    record {
      amiss = (refl, l);
      least =
          by_kind g is spaced (33 ∷ rest) (λ k. 6 ≤ number k) (λ h. absurd (h (inl refl))) (λ x n w. absurd (bang-named x n))
          (λ x n w. absurd (bang-named x n)) (λ n w. omega arith);
    }

no_name : (part : Begun) (b : ℕ) (rest : List ℕ) → Asks part b → name_of b ≡ None → Due part (b ∷ rest) → ⊥
no_name between b rest a n d = a
no_name spaced b rest a n (inl e) = a e
no_name spaced b rest a n (inr (x, e)) = cc
no_name banged b rest a n (x, e) = cc

-- The name x stands where a name is due.
module _ (g : Grammar) (is : List Item) (part : Begun) (rest : List ℕ) (x : Name) (here : NamedHere part rest x) where
  told-range : (Within g x → ⊥) → Told g is part rest out_of_range
  told-range w =
      record {
        amiss = (x, (here.named, w));
        least = by_kind g is part rest (λ k. 4 ≤ number k) (λ h. absurd (h here.due)) (λ y n v. omega arith) (λ y n v. omega arith) (λ n v. omega arith);
      }

  told-again : Within g x → again is (item (barring part) x) ≡ true → Told g is part rest repeated
  told-again w h =
      record {
        amiss = (x, (here.named, h));
        least =
            by_kind g is part rest (λ k. 5 ≤ number k) (λ d. absurd (d here.due)) (λ y n v. absurd (v (subst (Within g) (here.only y n) w)))
            (λ y n v. omega arith) (λ n v. omega arith);
      }

-- What an answer says of the bytes xs that follow the items `is` and what is begun of one more.
abbrev pub Reads : Grammar → List Item → Begun → List ℕ → Place → Result (Item × List ℕ) LineFault → Type 0
Reads g is part xs p (Ok v) = (begun part ++ xs ≡ spelled v.0 ++ v.1) × Fits g is v.0
Reads g is part xs p (Err e) = (line_place e ≡ p) × Told g is part xs (line_kind e)

module _ (g : Grammar) (is : List Item) (d : Draft) (same : (i : Item) → repeats d i ≡ again is i) where
  fitting : (part : Begun) (b : ℕ) (x : Name) (rest : List ℕ) (p : Place) → Ready g part → Asks part b → name_of b ≡ Some x → Within g x → again is (item (barring part) x) ≡ false
      → Reads g is part (b ∷ rest) p (Ok (item (barring part) x, rest))
  fitting between b x rest p r a n w h = absurd a
  fitting spaced b x rest p r a n w h = (
    ap (λ c. 32 ∷ (c ∷ rest)) (sym (name-byte b x n)),
    record { known = name-known b x n; within = w; new = h; bar = λ t. absurd (both_ways false refl t) },
  )
  fitting banged b x rest p r a n w h = (
    ap (λ c. 32 ∷ (33 ∷ (c ∷ rest))) (sym (name-byte b x n)),
    record { known = name-known b x n; within = w; new = h; bar = λ t. r },
  )

  by_name : (part : Begun) (b : ℕ) (o : Option Name) (rest : List ℕ) (p : Place) → Ready g part → Asks part b → name_of b ≡ o
      → Reads g is part (b ∷ rest) p (item_of d (barring part) p (with_rest rest (known_name g o p)))
  by_name part b None rest p r a n = (refl, told-due g is part (b ∷ rest) (no_name part b rest a n))
  by_name part b (Some x) rest p r a n =
      cond_both (within g x) (Ok x) (Err (OutOfRange p)) (λ v. Reads g is part (b ∷ rest) p (item_of d (barring part) p (with_rest rest v)))
      (λ t.
      cond_both (repeats d (item (barring part) x)) (Err (Repeated p)) (Ok (item (barring part) x, rest)) (Reads g is part (b ∷ rest) p)
      (λ h. (refl, told-again g is part (b ∷ rest) x (named-here part b x rest a n) (within-true g x t) (sym (same (item (barring part) x)) ∙ h)))
      (λ h. fitting part b x rest p r a n (within-true g x t) (sym (same (item (barring part) x)) ∙ h)))
      (λ t. (refl, told-range g is part (b ∷ rest) x (named-here part b x rest a n) (within-false g x t)))

  -- What an answer says of the bytes xs, of which the first has the place p, that follow the items.
  abbrev pub ItemSays : List ℕ → Place → Result (Item × List ℕ) LineFault → Type 0
  ItemSays xs p (Ok v) = (xs ≡ spelled v.0 ++ v.1) × Fits g is v.0
  ItemSays xs p (Err e) =
      (part : Begun) × ((rest : List ℕ) × ((xs ≡ begun part ++ rest) × (Ready g part × ((line_place e ≡ place p.line (p.offset + length (begun part))) × Told g is part rest (line_kind e)))))

  says : (part : Begun) (xs ys : List ℕ) (p q : Place) (r : Result (Item × List ℕ) LineFault) → xs ≡ begun part ++ ys → Ready g part
      → q ≡ place p.line (p.offset + length (begun part)) → Reads g is part ys q r → ItemSays xs p r
  says part xs ys p q (Ok v) e rd pl (b, f) = (e ∙ b, f)
  says part xs ys p q (Err x) e rd pl (l, t) = (part, (ys, (e, (rd, (l ∙ pl, t)))))

  two-on : (p : Place) → next_place (next_place p) ≡ place p.line (p.offset + length (begun banged))
  two-on p = ap (place p.line) (omega arith)

  none-on : (p : Place) → p ≡ place p.line (p.offset + 0)
  none-on p = ap (place p.line) (sym (add-zero p.offset))

  banged-says : (rest : List ℕ) (p : Place) → g.letter ≡ Guarded → ItemSays (32 ∷ (33 ∷ rest)) p (new_item g d true rest (next_place (next_place p)))
  banged-says [] p l =
      says banged (32 ∷ (33 ∷ [])) [] p (next_place (next_place p)) (Err (InItem (NotDue (next_place (next_place p))))) refl l (two-on p)
      (refl, told-due g is banged [] (λ x. x))
  banged-says (c ∷ rest) p l =
      says banged (32 ∷ (33 ∷ (c ∷ rest))) (c ∷ rest) p (next_place (next_place p)) (new_item g d true (c ∷ rest) (next_place (next_place p))) refl l (two-on p)
      (by_name banged c (name_of c) rest (next_place (next_place p)) l tt refl)

  bang-says : (rest : List ℕ) (p : Place) → ItemSays (32 ∷ (33 ∷ rest)) p (after_bang g d rest (next_place p))
  bang-says rest p =
      cond_both (is_guarded g.letter) (new_item g d true rest (next_place (next_place p))) (Err (NotAllowed (next_place p))) (ItemSays (32 ∷ (33 ∷ rest)) p)
      (λ t. banged-says rest p (guarded-true g.letter t))
      (λ t.
      says spaced (32 ∷ (33 ∷ rest)) (33 ∷ rest) p (next_place p) (Err (NotAllowed (next_place p))) refl tt refl
      (refl, told-bang g is rest (guarded-false g.letter t)))

  space-says : (rest : List ℕ) (p : Place) → ItemSays (32 ∷ rest) p (after_space g d rest (next_place p))
  space-says [] p = says spaced (32 ∷ []) [] p (next_place p) (Err (InItem (NotDue (next_place p)))) refl tt refl (refl, told-due g is spaced [] (λ x. x))
  space-says (c ∷ rest) p =
      cond_both (eqb c 33) (after_bang g d rest (next_place p)) (new_item g d false (c ∷ rest) (next_place p)) (ItemSays (32 ∷ (c ∷ rest)) p)
      (λ t. subst (λ b. ItemSays (32 ∷ (b ∷ rest)) p (after_bang g d rest (next_place p))) (sym (eqb-true c 33 t)) (bang-says rest p))
      (λ t.
      says spaced (32 ∷ (c ∷ rest)) (c ∷ rest) p (next_place p) (new_item g d false (c ∷ rest) (next_place p)) refl tt refl
      (by_name spaced c (name_of c) rest (next_place p) tt (eqb-false c 33 t) refl))

  -- The answer of the item reader says what stands there.
  pub item-says : (xs : List ℕ) (p : Place) → 0 < length xs → ItemSays xs p (item_read g d xs p)
  item-says [] p h = absurd (omega arith)
  item-says (b ∷ rest) p h =
      cond_both (eqb b 32) (after_space g d rest (next_place p)) (Err (InItem (NotDue p))) (ItemSays (b ∷ rest) p)
      (λ t. subst (λ c. ItemSays (c ∷ rest) p (after_space g d rest (next_place p))) (sym (eqb-true b 32 t)) (space-says rest p))
      (λ t.
      says between (b ∷ rest) (b ∷ rest) p p (Err (InItem (NotDue p))) refl tt (none-on p)
      (refl, told-due g is between (b ∷ rest) (eqb-false b 32 t)))
