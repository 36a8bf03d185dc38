-- What the reader answers of a whole line is what the line says.
use Rattle.std.proofs.Common.{◌≡◌, ℕ, suc, ◌+◌, ◌<◌, ◌≤◌, Bool, true, false, cond, eqb, List, [], ◌∷◌, ◌++◌, length, ◌≢◌, Some, None, Ok, Err, Option, Result, sym, refl, ap, ◌∙◌, subst, ap₂, inl, inr, ⊎_elim, append_assoc, append-nil, add-zero, arith, length-append}
use Rattle.std.specs.List.{flat_map, AllByRecursion}
use Rattle.std.proofs.lemmas.List.{nil_from_length, flat_map_more}
use Rattle.std.proofs.lemmas.Bool.{both_ways, cond_both, eqb-true, eqb-false}
use Rattle.lines.specs.declared.reader.Line.{Line as ReadLine}
use Rattle.lines.specs.declared.reader.Place.{Place}
use Rattle.rules.specs.declared.rule.Effect.{Effect}
use Rattle.rules.specs.declared.rule.Effect.TheVariants.{Permit, Deny}
use Rattle.rules.specs.declared.rule.Rule.{Rule}
use Rattle.rules.specs.declared.letter.Letter.TheVariants.{Guarded}
use Rattle.rulefile.specs.declared.grammar.Grammar.{Grammar}
use Rattle.rulefile.specs.declared.grammar.Item.{Item}
use Rattle.rulefile.specs.declared.draft.Draft.{Draft}
use Rattle.rulefile.specs.declared.items.ItemReader.{ItemReader}
use Rattle.rulefile.specs.declared.faults.FileFault.{FileFault}
use Rattle.rulefile.specs.declared.faults.LineFault.{LineFault}
use Rattle.rulefile.specs.declared.faults.LineFault.TheVariants.{NoMark, NotAllowed}
use Rattle.rulefile.specs.declared.faults.FileFault.TheVariants.{Line, NoSlot}
use Rattle.rulefile.specs.Faults.{Kind, wrong-head, no-mark, not-due, out_of_range, repeated, not-allowed, no_slot, number, place, line_kind, line_place, kind_of, place_of}
use Rattle.rulefile.specs.Items.{Known, spelled, again, Follow, mark_of, Means, Spells}
use Rattle.rulefile.specs.Faulty.{Begun, begun, Amiss, InItems, AtMark, FirstFault}
use Rattle.rulefile.specs.RuleLines.{silent}
use Rattle.rulefile.specs.Steps.{fresh, is_guarded, ItemsRead, end, bad, more, with_item, finished, next_place, mark_read, repeats, at, Opened, Unopened}
use Rattle.rulefile.proofs.Drafts.{drafted, repeats-again, means-drafted, drafted-effect, drafted-push, follow-push}
use Rattle.rulefile.proofs.Onward.{item-shorter}
use Rattle.rulefile.proofs.Places.{Ready, first-place}
use Rattle.rulefile.proofs.ItemLaw.{Told, ItemSays, item-says, guarded-true, guarded-false}

-- A rule line's answer as the file's.
abbrev pub in_file : Result Rule LineFault → Result (Option Rule) FileFault
in_file (Ok t) = Ok (Some t)
in_file (Err f) = Err (Line f)

-- The line x, whose first byte has the place p, says r.
abbrev pub LineSays : Grammar → Bool → Place → List ℕ → Result (Option Rule) FileFault → Type 0
LineSays g room p x (Ok None) = silent x ≡ true
LineSays g room p x (Ok (Some t)) = (silent x ≡ false) × ((room ≡ true) × Spells g x t)
LineSays g room p x (Err f) =
    (silent x ≡ false) × ((j : ℕ) × ((place_of f ≡ place p.line (p.offset + j)) × FirstFault g room x j (kind_of f)))

pub follow-known : (g : Grammar) (before is : List Item) → Follow g before is → AllByRecursion (λ i. Known i.name) is
follow-known g before [] f = tt
follow-known g before (i ∷ is) f = (f.0.known, follow-known g (before ++ (i ∷ [])) is f.1)

joined-push : (is : List Item) (i : Item) → flat_map spelled (is ++ (i ∷ [])) ≡ flat_map spelled is ++ spelled i
joined-push is i = sym (flat_map_more spelled [] is i)

-- The first place at fault, among those after the mark.
abbrev FirstInItems : Grammar → List ℕ → ℕ → Kind → Type 0
FirstInItems g x j kind = InItems g x j kind × ((j' : ℕ) (kind' : Kind) → InItems g x j' kind' → (j ≤ j') × (j ≡ j' → number kind ≤ number kind'))

-- The fault that is told after items that may stand there is the first of the line.
first-told : (g : Grammar) (m : ℕ) (is : List Item) (part : Begun) (rest : List ℕ) (kind : Kind) → Follow g [] is → Ready g part → Told g is part rest kind
    → FirstInItems g (m ∷ (flat_map spelled is ++ (begun part ++ rest))) (suc (length (flat_map spelled is ++ begun part))) kind
first-told g m is part rest kind f r t = (
  record { mark = m; items = is; part = part; rest = rest; known = follow-known g [] is f; bytes = refl; place = refl; amiss = t.amiss },
  λ j' kind' w.
      let e : flat_map spelled is ++ (begun part ++ rest) ≡ flat_map spelled w.items ++ (begun w.part ++ w.rest) = let b = w.bytes in cc in
      ⊎_elim
      (λ (lt : length (flat_map spelled is ++ begun part) < length (flat_map spelled w.items ++ begun w.part)). let at = w.place in (omega arith, λ same. absurd (omega arith)))
      (λ (p : (is ≡ w.items) × ((part ≡ w.part) × (rest ≡ w.rest))).
      let here : suc (length (flat_map spelled is ++ begun part)) ≡ j' = ap₂ (λ js b. suc (length (flat_map spelled js ++ begun b))) p.0 p.1.0 ∙ sym w.place in
      (omega arith, λ same. t.least kind' (subst (λ js. Amiss g js part rest kind') (sym p.0) (subst (λ b. Amiss g w.items b rest kind') (sym p.1.0) (subst (λ xs. Amiss g w.items w.part xs kind') (sym p.1.1) w.amiss)))))
      (first-place g [] is part rest w.items w.part w.rest kind' f r w.known e w.amiss),
)

module _ (g : Grammar) (e : Effect) (m : ℕ) (x : List ℕ) (p : Place) where
  -- What an answer says of the line's bytes x after the mark m, whose place is p.
  abbrev Gives : Result Rule LineFault → Type 0
  Gives (Ok t) = (items : List Item) × ((x ≡ flat_map spelled items) × (Follow g [] items × (t ≡ finished (drafted (fresh e) items))))
  Gives (Err f) = (j : ℕ) × ((line_place f ≡ place p.line (p.offset + j)) × FirstInItems g (m ∷ x) j (line_kind f))

  at-fault : (is : List Item) (xs : List ℕ) (q : Place) (f : LineFault) → x ≡ flat_map spelled is ++ xs → Follow g [] is
      → q ≡ place p.line (p.offset + suc (length (flat_map spelled is)))
      → (part : Begun) × ((rest : List ℕ) × ((xs ≡ begun part ++ rest) × (Ready g part × ((line_place f ≡ place q.line (q.offset + length (begun part))) × Told g is part rest (line_kind f)))))
      → Gives (Err f)
  at-fault is xs q f b h at (part, (rest, (c, (r, (l, t))))) =
      let len = length-append (flat_map spelled is) (begun part) in
      let offset : q.offset + length (begun part) ≡ p.offset + suc (length (flat_map spelled is ++ begun part)) = let o = ap (λ a. a.offset) at in omega arith in
      let bytes : m ∷ (flat_map spelled is ++ (begun part ++ rest)) ≡ m ∷ x = ap (λ ys. m ∷ ys) (ap (λ ys. flat_map spelled is ++ ys) (sym c) ∙ sym b) in (
        suc (length (flat_map spelled is ++ begun part)),
        (
          l ∙ ap₂ place (ap (λ a. a.line) at) offset,
          subst (λ ys. FirstInItems g ys (suc (length (flat_map spelled is ++ begun part))) (line_kind f)) bytes (first-told g m is part rest (line_kind f) h r t),
        ),
      )

  items_give : {d : Draft} {xs : List ℕ} {q : Place} {r : Result Rule LineFault} → ItemsRead g d xs q r → (is : List Item) → x ≡ flat_map spelled is ++ xs → Follow g [] is
      → d ≡ drafted (fresh e) is → q ≡ place p.line (p.offset + suc (length (flat_map spelled is))) → Gives r
  items_give {d} {xs} {q} (end h) is b f s at =
      (is, (b ∙ ap (λ ys. flat_map spelled is ++ ys) (nil_from_length xs h) ∙ append-nil (flat_map spelled is), (f, ap finished s)))
  items_give {d} {xs} {q} (bad {e = k} h r) is b f s at =
      let same : (i : Item) → repeats d i ≡ again is i = λ i. ap (λ c. repeats c i) s ∙ repeats-again g e is f i in
      at-fault is xs q k b f at (subst (ItemSays g is d same xs q) r (item-says g is d same xs q h))
  items_give {d} {xs} {q} {r} (more i rest k next) is b f s at =
      let same : (i : Item) → repeats d i ≡ again is i = λ i. ap (λ c. repeats c i) s ∙ repeats-again g e is f i in
      let less = item-shorter g d xs q i rest k in
      let (c, fits) = subst (ItemSays g is d same xs q) k (item-says g is d same xs q (omega arith)) in
      let push = joined-push is i in
      items_give next (is ++ (i ∷ []))
      (b ∙ ap (λ ys. flat_map spelled is ++ ys) c ∙ sym (append_assoc (flat_map spelled is) (spelled i) rest) ∙ ap (λ ys. ys ++ rest) (sym push))
      (follow-push g [] is i f fits) (ap (λ a. with_item a i) s ∙ sym (drafted-push (fresh e) is i))
      (ap₂ place (ap (λ a. a.line) at)
      (let o = ap (λ a. a.offset) at in
      let lc = ap length c ∙ length-append (spelled i) rest in
      let lp = ap length push ∙ length-append (flat_map spelled is) (spelled i) in omega arith))

-- The mark of a line: the effect it stands for, or what is wrong with it.
abbrev MarkSays : Grammar → ℕ → Place → Result Effect LineFault → Type 0
MarkSays g b p (Ok e) = (b ≡ mark_of e) × (g.letter ≡ Guarded → e ≡ Permit)
MarkSays g b p (Err f) =
    (line_place f ≡ p) × ((room : Bool) (rest : List ℕ) → AtMark g room (b ∷ rest) (line_kind f) × ((kind : Kind) → AtMark g room (b ∷ rest) kind → number (line_kind f) ≤ number kind))

-- A fault at a mark is of one of three kinds.
module _ (g : Grammar) (room : Bool) (b : ℕ) (rest : List ℕ) (P : Kind → Type 0) where
  mark-kind : ((b ≢ 43) × (b ≢ 45) → P no-mark) → ((g.letter ≡ Guarded) × (b ≡ 45) → P not-allowed) → (room ≡ false → P no_slot)
      → (kind : Kind) → AtMark g room (b ∷ rest) kind → P kind
  mark-kind wrong deny full wrong-head h = absurd h
  mark-kind wrong deny full no-mark h = wrong h
  mark-kind wrong deny full not-due h = absurd h
  mark-kind wrong deny full out_of_range h = absurd h
  mark-kind wrong deny full repeated h = absurd h
  mark-kind wrong deny full not-allowed h = deny h
  mark-kind wrong deny full no_slot h = full h

pub mark-says : (g : Grammar) (b : ℕ) (p : Place) → MarkSays g b p (mark_read g b p)
mark-says g b p =
    cond_both (eqb b 43) (Ok Permit) (cond (eqb b 45) (cond (is_guarded g.letter) (Err (NotAllowed p)) (Ok Deny)) (Err (NoMark p))) (MarkSays g b p)
    (λ t. (eqb-true b 43 t, λ _. refl))
    (λ t.
    cond_both (eqb b 45) (cond (is_guarded g.letter) (Err (NotAllowed p)) (Ok Deny)) (Err (NoMark p)) (MarkSays g b p)
    (λ u.
    cond_both (is_guarded g.letter) (Err (NotAllowed p)) (Ok Deny) (MarkSays g b p)
    (λ l. (refl, λ room rest. ((guarded-true g.letter l, eqb-true b 45 u), mark-kind g room b rest (λ k. 6 ≤ number k) (λ h. absurd (h.1 (eqb-true b 45 u))) (λ h. omega arith) (λ h. omega arith))))
    (λ l. (eqb-true b 45 u, λ e. absurd (guarded-false g.letter l e))))
    (λ u. (refl, λ room rest. ((eqb-false b 43 t, eqb-false b 45 u), mark-kind g room b rest (λ k. 2 ≤ number k) (λ h. omega arith) (λ h. omega arith) (λ h. omega arith)))))

-- At a mark that may stand there only the want of a slot can be at fault.
pub marked : (g : Grammar) (room : Bool) (b : ℕ) (rest : List ℕ) (e : Effect) (kind : Kind) → b ≡ mark_of e → (g.letter ≡ Guarded → e ≡ Permit) → AtMark g room (b ∷ rest) kind → (room ≡ false) × (number kind ≡ 7)
marked g room b rest e kind m l =
    mark-kind g room b rest (λ k. (room ≡ false) × (number k ≡ 7)) (λ h. absurd (a-mark e m h)) (λ h. let p : mark_of e ≡ 43 = ap mark_of (l h.0) in let q = h.1 in absurd (omega arith))
    (λ h. (h, refl)) kind
  where
    a-mark : (e : Effect) → b ≡ mark_of e → (b ≢ 43) × (b ≢ 45) → ⊥
    a-mark Permit m h = h.0 m
    a-mark Deny m h = h.1 m

module _ (g : Grammar) (room : Bool) (p : Place) (b : ℕ) (rest : List ℕ) (loud : eqb b 35 ≡ false) where
  here : p ≡ place p.line (p.offset + 0)
  here = ap (place p.line) (sym (add-zero p.offset))

  -- A fault at the mark is the first of the line, where none of a lesser number is there.
  first-mark : (kind : Kind) → AtMark g room (b ∷ rest) kind → ((kind' : Kind) → AtMark g room (b ∷ rest) kind' → number kind ≤ number kind') → FirstFault g room (b ∷ rest) 0 kind
  first-mark kind h least = (
    inl (refl, h),
    λ j' kind' w.
        ⊎_elim
        (λ (m : (j' ≡ 0) × AtMark g room (b ∷ rest) kind'). (omega arith, λ _. least kind' m.1))
        (λ (i : InItems g (b ∷ rest) j' kind'). let at = i.place in (omega arith, λ e. absurd (omega arith)))
        w,
  )

  pub wrong-mark : (f : LineFault) → mark_read g b p ≡ Err f → LineSays g room p (b ∷ rest) (Err (Line f))
  wrong-mark f e =
      let (l, t) = subst (MarkSays g b p) e (mark-says g b p) in
      (loud, (0, (l ∙ here, first-mark (line_kind f) (t room rest).0 (t room rest).1)))

  pub slotless : (e : Effect) → mark_read g b p ≡ Ok e → room ≡ false → LineSays g room p (b ∷ rest) (Err (NoSlot p))
  slotless e m r =
      let (c, l) = subst (MarkSays g b p) m (mark-says g b p) in
      (loud, (0, (here, first-mark no_slot r (λ kind h. let n = (marked g room b rest e kind c l h).1 in omega arith))))

  spells : (e : Effect) (t : Rule) (items : List Item) → b ≡ mark_of e → (g.letter ≡ Guarded → e ≡ Permit) → rest ≡ flat_map spelled items → Follow g [] items
      → t ≡ finished (drafted (fresh e) items) → Spells g (b ∷ rest) t
  spells e t items c l x f k =
      let effect : t.effect ≡ e = ap (λ a. a.effect) k ∙ drafted-effect (fresh e) items in
      record {
        items = items;
        bytes = ap₂ ◌∷◌ (c ∙ ap mark_of (sym effect)) x;
        mark = λ guarded. effect ∙ l guarded;
        follow = f;
        means = subst (Means items) (sym k) (means-drafted g e items f);
      }

  concluded : (e : Effect) (r : Result Rule LineFault) → room ≡ true → b ≡ mark_of e → (g.letter ≡ Guarded → e ≡ Permit) → Gives g e b rest p r → LineSays g room p (b ∷ rest) (in_file r)
  concluded e (Ok t) full c l (items, (x, (f, k))) = (loud, (full, spells e t items c l x f k))
  concluded e (Err f) full c l (j, (at, (i, first))) = (
    loud,
    (
      j,
      (
        at,
        (
          inr i,
          λ j' kind' w.
              ⊎_elim
              (λ (m : (j' ≡ 0) × AtMark g room (b ∷ rest) kind'). absurd (both_ways room (marked g room b rest e kind' c l m.1).0 full))
              (first j' kind')
              w,
        ),
      ),
    ),
  )

  -- What the items give, after a mark that may stand there, the line says.
  pub itemed-line : (e : Effect) (r : Result Rule LineFault) → mark_read g b p ≡ Ok e → room ≡ true → ItemsRead g (fresh e) rest (next_place p) r → LineSays g room p (b ∷ rest) (in_file r)
  itemed-line e r m full h =
      let (c, l) = subst (MarkSays g b p) m (mark-says g b p) in concluded e r full c l (items_give g e b rest p h [] refl tt refl refl)

-- What a line says by how it begins.
module _ (g : Grammar) (room : Bool) (l : ReadLine) where
  pub unopened-line : (f : LineFault) → Unopened g l f → LineSays g room l.place l.bytes.now (Err (Line f))
  unopened-line f u = subst (λ xs. LineSays g room l.place xs (Err (Line f))) (sym u.bytes) (wrong-mark g room l.place u.mark u.rest u.loud f u.read)

  module _ (s : ItemReader) (o : Opened g l s) where
    pub slotless-line : room ≡ false → LineSays g room l.place l.bytes.now (Err (NoSlot l.place))
    slotless-line r = subst (λ xs. LineSays g room l.place xs (Err (NoSlot l.place))) (sym o.bytes) (slotless g room l.place o.mark s.rest.now o.loud o.effect o.read r)

    pub opened-line : (r : Result Rule LineFault) → room ≡ true → ItemsRead s.grammar s.draft s.rest.now (at s) r → LineSays g room l.place l.bytes.now (in_file r)
    opened-line r full h =
        subst (λ xs. LineSays g room l.place xs (in_file r)) (sym o.bytes)
        (itemed-line g room l.place o.mark s.rest.now o.loud o.effect r o.read full
        (subst (λ p. ItemsRead g (fresh o.effect) s.rest.now p r) o.place
        (subst (λ d. ItemsRead g d s.rest.now (at s) r) o.draft (subst (λ k. ItemsRead k s.draft s.rest.now (at s) r) o.grammar h))))
