-- A reader goes over the lines of a file one by one.
use Rattle.std.proofs.Common.{◌≡◌, ℕ, suc, ◌+◌, ◌-◌, ◌<◌, ◌≤◌, Bool, true, false, eqb, ◌⊎◌, List, [], ◌∷◌, ◌++◌, length, get_or, take, drop, Some, None, Option, IfSome, ◌≢◌, sym, refl, ap, ◌∙◌, subst, inl, inr, ⊎_elim, arith, length-append, Bor}
use denote.Param.Members.{Mut}
use Rattle.std.specs.Fn.{CalledAt}
use Rattle.std.specs.Iterator.{Yields, Drains, FindsItem}
use Rattle.std.specs.List.{slice_get, AllByRecursion, FoldsTo}
use Rattle.std.specs.Option.{option_map}
use Rattle.std.proofs.lemmas.List.{take-append-drop, append_assoc, drop_more, drop-drop, drop_all, take_all, length-drop, length_push}
use Rattle.std.proofs.lemmas.Option.{slice_get_past, slice_get_read}
use Rattle.std.proofs.Math.Seq.{get_or-append_seam}
use Rattle.std.proofs.lemmas.Bool.{cases_eq, eqb-true, eqb-false}
use Rattle.lines.specs.declared.reader.Line.{Line}
use Rattle.lines.specs.declared.reader.Reader.{Reader}
use Rattle.lines.specs.Handed.{Handed, OneSplit, Stepped, NextLine}
use Rattle.lines.specs.Lines.{Span, span, Unbroken, FirstLine, ended, cut_off, Lines, none, more}
use Rattle.lines.proofs.Split.{first_one, no-first, lines-cases, lines-one, lines-some}

first_ended : (xs : List ℕ) (n : ℕ) → n < length xs → Unbroken (take n xs) → get_or xs n 0 ≡ 10 → FirstLine xs (take n xs) (drop (n + 1) xs)
first_ended xs n h u e =
    subst (λ zs. FirstLine zs (take n xs) (drop (n + 1) xs))
    (ap (λ b. take n xs ++ (b ∷ drop (n + 1) xs)) (sym e) ∙ ap (λ t. take n xs ++ t) (sym (drop_more xs n 0 h)) ∙ take-append-drop n xs)
    (ended u)

first-cut : (xs : List ℕ) (n : ℕ) → 0 < length xs → length xs ≤ n → Unbroken (take n xs) → FirstLine xs (take n xs) []
first-cut xs n pos h u =
    subst (λ zs. FirstLine xs zs []) (sym (take_all n xs h)) (cut_off pos (subst Unbroken (take_all n xs h) u))

-- How n bytes of the rest before its first byte 10 or its end tell where the next line begins.
abbrev pub NextAt : List ℕ → List ℕ → ℕ → ℕ → ℕ → Type 0
NextAt file rest at n next = ((n < length rest) × (next ≡ at + n + 1)) ⊎ ((length rest ≤ n) × (next ≡ length file))

first-at : (file : List ℕ) (at n next : ℕ) → at < length file → Unbroken (take n (drop at file)) → (n < length (drop at file) → get_or (drop at file) n 0 ≡ 10) → NextAt file (drop at file) at n next → FirstLine (drop at file) (take n (drop at file)) (drop next file)
first-at file at n next in' u e way =
    ⊎_elim
    (λ a. subst (λ zs. FirstLine (drop at file) (take n (drop at file)) zs)
    (drop-drop (n + 1) at file ∙ ap (λ m. drop m file) (let q = a.1 in let g : at + (n + 1) ≡ next = omega arith in g))
    (first_ended (drop at file) n a.0 u (e a.0)))
    (λ a. subst (λ zs. FirstLine (drop at file) (take n (drop at file)) zs)
    (sym (drop_all next file (let q = a.1 in omega arith)))
    (first-cut (drop at file) n (let l = length-drop at file in omega arith) a.0 u))
    way

-- From the byte `at`, n bytes come before the first byte 10 or the end of the file: they are the line there, and what follows it begins past its byte 10, if it has one.
pub first_read : (file rest : List ℕ) (at n next : ℕ) → rest ≡ drop at file → at < length file → Unbroken (take n rest) → (n < length rest → get_or rest n 0 ≡ 10) → NextAt file rest at n next → FirstLine (drop at file) (take (n - 0) rest) (drop next file)
first_read file rest at n next e in' =
    let P : List ℕ → Type 0 = λ zs. Unbroken (take n zs) → (n < length zs → get_or zs n 0 ≡ 10) → NextAt file zs at n next → FirstLine (drop at file) (take (n - 0) zs) (drop next file) in
    let z : n ≡ n - 0 = omega arith in
    subst P (sym e) (λ u g w. subst (λ m. FirstLine (drop at file) (take m (drop at file)) (drop next file)) z (first-at file at n next in' u g w))

-- The reader moves on, and stays within the file.
pub moves-on : (file rest : List ℕ) (at n next : ℕ) → rest ≡ drop at file → at < length file → NextAt file rest at n next → (at < next) × (next ≤ length file)
moves-on file rest at n next e in' way =
    let l : length rest ≡ length file - at = ap length e ∙ length-drop at file in
    ⊎_elim
    (λ a. let q = a.1 in let h : n < length rest = a.0 in (omega arith, omega arith))
    (λ a. let q = a.1 in (omega arith, omega arith))
    way

-- Past the end of the file there is no line.
pub lines_end : (file : List ℕ) (k s at : ℕ) → length file ≤ at → Lines k s (drop at file) []
lines_end file k s at end = subst (λ zs. Lines k s zs []) (sym (drop_all at file end)) none

-- The line that the reader hands out, before the lines from where it then stands, gives the lines from where it stood.
pub lines_step : (file : Bor (List ℕ)) (read at : ℕ) (l : Line) (read' at' : ℕ) (ms : List Span) → Stepped file read at l read' at' → Lines (read' + 1) at' (drop at' file.now) ms → Lines (read + 1) at (drop at file.now) (span (read + 1) at l.bytes.now ∷ ms)
lines_step file read at l read' at' ms s rest =
    let counted = s.counted in
    let on = s.onward in
    let in' = s.within in
    let n = length-drop at file.now in
    let m = length-drop at' file.now in
    let number : read' + 1 ≡ suc (read + 1) = omega arith in
    let start : at' ≡ at + (length (drop at file.now) - length (drop at' file.now)) = omega arith in
    more s.first
    (subst (λ i. Lines (suc (read + 1)) i (drop at' file.now) ms) start (subst (λ k. Lines k at' (drop at' file.now) ms) number rest))

-- A reader at the byte `at` has the lines `before` behind it, `read` of them, and the lines `after` yet to read.
pub record Past (file : List ℕ) (read at : ℕ) : Type 0 where
  pub before : List Span
  pub after : List Span
  pub whole : Lines 1 0 file (before ++ after)
  pub rest : Lines (read + 1) at (drop at file) after
  pub count : length before ≡ read

-- At the start no line is behind it.
pub past-none : (file : List ℕ) (read at : ℕ) → read ≡ 0 → at ≡ 0 → Past file read at
past-none file read at r a =
    let ls = lines-some 1 0 file in
    subst (λ n. Past file n at) (sym r) (subst (λ n. Past file 0 n) (sym a) (record { before = []; after = ls.0; whole = ls.1; rest = ls.1; count = refl }))

-- The first of the lines yet to read is the one at the reader's place.
pub past_next : (file x : List ℕ) (read at at' : ℕ) (after : List Span) → FirstLine (drop at file) x (drop at' file) → at < at' → at' ≤ length file → Lines (read + 1) at (drop at file) after → (ms : List Span) × (after ≡ span (read + 1) at x ∷ ms) × Lines (read + 1 + 1) at' (drop at' file) ms
past_next file x read at at' after f on in' l =
    ⊎_elim
    (λ a. absurd (no-first f a.0))
    (λ a.
    let one = first_one f a.3 in
    let ys = ap length one.1 in
    let n = length-drop at file in
    let m = length-drop at' file in
    let number : suc (read + 1) ≡ read + 1 + 1 = omega arith in
    let start : at + (length (drop at file) - length a.1) ≡ at' = omega arith in (
      a.2,
      a.5 ∙ ap (λ y. span (read + 1) at y ∷ a.2) (sym one.0),
      subst (λ k. Lines k at' (drop at' file) a.2) number
          (subst (λ zs. Lines (suc (read + 1)) at' zs a.2) (sym one.1)
          (subst (λ s. Lines (suc (read + 1)) s a.1 a.2) start a.4)),
    ))
    (lines-cases l)

-- The reader goes on by one line.
pub past_more : (file x : List ℕ) (read at read' at' : ℕ) → Past file read at → FirstLine (drop at file) x (drop at' file) → read' ≡ read + 1 → at < at' → at' ≤ length file → Past file read' at'
past_more file x read at read' at' p f r on in' =
    let n = past_next file x read at at' p.after f on in' p.rest in
    let count = p.count in
    subst (λ k. Past file k at') (sym r)
    (record {
      before = p.before ++ (span (read + 1) at x ∷ []);
      after = n.0;
      whole = subst (Lines 1 0 file) (ap (λ t. p.before ++ t) n.1 ∙ sym (append_assoc p.before (span (read + 1) at x ∷ []) n.0)) p.whole;
      rest = n.2;
      count = length_push p.before (span (read + 1) at x) ∙ ap (λ k. k + 1) count;
    })

-- The line at the reader's place is the next line of the file.
pub past-line : (file x : List ℕ) (read at at' : ℕ) → Past file read at → FirstLine (drop at file) x (drop at' file) → at < at' → at' ≤ length file → (ls : List Span) × Lines 1 0 file ls × (slice_get ls read ≡ Some (span (read + 1) at x))
past-line file x read at at' p f on in' =
    let n = past_next file x read at at' p.after f on in' p.rest in (
      p.before ++ p.after,
      p.whole,
      ap (λ t. slice_get (p.before ++ t) read) n.1
          ∙ ap (λ k. slice_get (p.before ++ (span (read + 1) at x ∷ n.0)) k) (sym p.count)
          ∙ slice_get_read (p.before ++ (span (read + 1) at x ∷ n.0)) (length (p.before ++ (span (read + 1) at x ∷ n.0))) (length p.before) (span (read + 1) at x) refl
          (simp length-append (omega arith)) (sym (get_or-append_seam p.before (span (read + 1) at x) n.0 (span (read + 1) at x))),
    )

-- At the end of the file all lines are read.
pub past_all : (file : List ℕ) (read at : ℕ) → Past file read at → length file ≤ at → (ls : List Span) × Lines 1 0 file ls × (length ls ≡ read)
past_all file read at p end =
    let none_left : length p.after ≡ 0 = ⊎_elim (λ a. ap length a.1) (λ a. absurd (no-first a.3 (drop_all at file end))) (lines-cases p.rest) in
    let count = p.count in
    let sum = length-append p.before p.after in
    (p.before ++ p.after, p.whole, omega arith)

-- What a call of the iterator's `next` does.
abbrev pub Turn : Reader → Option Line → Reader → Type 0
Turn s r t = (t.file ≡ s.file) × NextLine s.file s.read s.at r t.read t.at

-- The reader goes on by the line that it hands out.
pub past-step : (s : Reader) (l : Line) (t : Reader) → Past s.file.now s.read s.at → Turn s (Some l) t → Past t.file.now t.read t.at
past-step s l t p (same, h) =
    subst (λ f. Past f.now t.read t.at) (sym same) (past_more s.file.now l.bytes.now s.read s.at t.read t.at p h.first h.counted h.onward h.within)

-- A reader that handed out some lines reads the same file, and has counted them.
pub past-lines : (s : Reader) (xs : List Line) (t : Reader) → Past s.file.now s.read s.at → Yields Turn s xs t → (t.file ≡ s.file) × Past t.file.now t.read t.at × (t.read ≡ s.read + length xs)
past-lines s [] t p y = subst (λ r. (r.file ≡ s.file) × Past r.file.now r.read r.at × (r.read ≡ s.read + 0)) y (refl, p, omega arith)
past-lines s (x ∷ xs) t p (j, h, y) =
    let (same, q, n) = past-lines j xs t (past-step s x j p h) y in let c = h.1.counted in (same ∙ h.0, q, omega arith)

-- Where no line that it handed out has the number k, it has not come to line k.
pub not-yet : (k : ℕ) (s : Reader) (xs : List Line) (t : Reader) → Yields Turn s xs t → AllByRecursion (λ l. l.place.line ≢ k) xs → (0 < k → s.read < k) → 0 < k → t.read < k
not-yet k s [] t y a h = subst (λ r. 0 < k → r.read < k) y h
not-yet k s (x ∷ xs) t (j, (same, n), y) (a, rest) h =
    not-yet k j xs t y rest (λ pos. let l = h pos in let c = n.counted in let m = n.number in omega arith)

-- A new reader has read nothing.
module _ (file : Bor (List ℕ)) (s : Reader) (same : s.file ≡ file) (unread : s.read ≡ 0) (begins : s.at ≡ 0) where
  lines-so-far : (xs : List Line) (t : Reader) → Yields Turn s xs t → (t.file ≡ file) × Past t.file.now t.read t.at × (t.read ≡ length xs)
  lines-so-far xs t y =
      let (e, p, n) = past-lines s xs t (past-none s.file.now s.read s.at unread begins) y in (e ∙ same, p, omega arith)

  -- Where no line before it has the number k, the line that is handed out next is line k if it has that number, and there is no line k if none is left.
  pub hands : (k : ℕ) (xs : List Line) (t : Reader) (r : Option Line) (u : Reader) → Yields Turn s xs t → Turn t r u → AllByRecursion (λ l. l.place.line ≢ k) xs → IfSome r (λ l. l.place.line ≡ k)
      → (ls : List Span) × Lines 1 0 file.now ls × Handed file ls k (option_map (λ l. l.bytes) r)
  hands k xs t None u y h missed hit =
      let (e, p, n) = lines-so-far xs t y in
      let late = not-yet k s xs t y missed (λ pos. omega arith) in
      let (ls, l, count) = past_all t.file.now t.read t.at p h.1.0 in
      let beyond : (k ≡ 0) ⊎ (slice_get ls (k - 1) ≡ None)
      = ⊎_elim (λ z. inl z) (λ z. inr (slice_get_past ls (k - 1) (let m : t.read < k = late (omega arith) in omega arith))) (cases_eq k 0) in
      (ls, subst (λ f. Lines 1 0 f.now ls) e l, beyond)
  hands k xs t (Some l) u y h missed hit =
      let (e, p, n) = lines-so-far xs t y in
      let (ls, lines, here) = past-line t.file.now l.bytes.now t.read t.at u.at p h.1.first h.1.onward h.1.within in
      let number = h.1.number in
      let index : t.read ≡ k - 1 = omega arith in
      let block : l.bytes.ref_ptr.0 ≡ file.ref_ptr.0 = h.1.block ∙ ap (λ f. f.ref_ptr.0) e in
      let byte : l.bytes.ref_ptr.1 ≡ file.ref_ptr.1 + t.at = h.1.byte ∙ ap (λ f. f.ref_ptr.1 + t.at) e in (
        ls,
        subst (λ f. Lines 1 0 f.now ls) e lines,
        (
          span (t.read + 1) t.at l.bytes.now,
          omega arith,
          subst (λ i. slice_get ls i ≡ Some (span (t.read + 1) t.at l.bytes.now)) index here,
          record { bytes = refl; block = block; byte = byte },
        ),
      )

  -- The line that is found by its number is line k.
  pub finds : {F : Type 0} (g : Mut F (Bor Line × Unit {0}) Bool) (f : F) (k : ℕ) (r : Option Line) (u : Reader) → FindsItem Turn g s f r u
      → ((x : Line) (b : Bool) (q : F) → CalledAt g f x b q → (q ≡ f) × (b ≡ eqb x.place.line k))
      → (ls : List Span) × Lines 1 0 file.now ls × Handed file ls k (option_map (λ l. l.bytes) r)
  finds {F} g f k r u (xs, f', (t, y, h), calls, last) says =
      let (kept, missed) = misses xs calls in hands k xs t r u y h missed (hits r last kept)
    where
      misses : (xs : List Line) → FoldsTo (λ p x q. CalledAt g p x false q) f xs f' → (f' ≡ f) × AllByRecursion (λ l. l.place.line ≢ k) xs
      misses [] c = (sym c, tt)
      misses (x ∷ xs) (j, h, c) =
          let (e, b) = says x false j h in
          let (e', rest) = misses xs (subst (λ p. FoldsTo (λ p x q. CalledAt g p x false q) p xs f') e c) in
          (e', (eqb-false x.place.line k (sym b), rest))

      hits : (r : Option Line) → IfSome r (λ x. (h : F) × CalledAt g f' x true h) → f' ≡ f → IfSome r (λ l. l.place.line ≡ k)
      hits None c e = c
      hits (Some x) (h, c) e = eqb-true x.place.line k (sym (says x true h (subst (λ p. CalledAt g p x true h) e c)).1)

  -- All lines that it hands out are all lines of the file.
  pub counts : (xs : List Line) → Drains Turn s xs → (ls : List Span) × Lines 1 0 file.now ls × (length xs ≡ length ls)
  counts xs (u, (t, y, h)) =
      let (e, p, n) = lines-so-far xs t y in
      let (ls, l, count) = past_all t.file.now t.read t.at p h.1.0 in
      (ls, subst (λ f. Lines 1 0 f.now ls) e l, sym n ∙ sym count)

-- A file splits into lines in exactly one way.
pub one_split : (xs : List ℕ) → OneSplit xs
one_split xs = let ls = lines-some 1 0 xs in (ls.0, ls.1, λ ms h. lines-one 1 0 xs ms ls.0 h ls.1)
