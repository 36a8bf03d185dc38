-- Reading the rule lines one after the other: what is read so far, and each way on.
use Rattle.std.proofs.Common.{◌≡◌, ℕ, ◌+◌, ◌<◌, ◌≤◌, ltb, true, List, [], ◌∷◌, ◌++◌, length, take, drop, set, Some, Ok, Err, sym, refl, ap, ◌∙◌, subst, ap₂, append_assoc, append-nil, arith, length-append}
use Rattle.std.specs.List.{slice_get}
use Rattle.std.proofs.lemmas.List.{length_push, take_at}
use Rattle.std.proofs.lemmas.Option.{slice_get_read}
use Rattle.std.proofs.Math.Seq.{get_or-append_seam}
use Rattle.lines.specs.Lines.{Span, span, Lines}
use Rattle.lines.specs.declared.reader.Line.{Line}
use Rattle.lines.specs.declared.reader.Reader.{Reader}
use Rattle.lines.proofs.Past.{past_next, lines_end, Turn}
use Rattle.lines.proofs.Split.{lines-one}
use Rattle.rules.specs.declared.rule.Rule.{Rule}
use Rattle.rules.specs.Filled.{filled}
use Rattle.rules.proofs.Filled.{filled_more}
use Rattle.rulefile.specs.declared.grammar.Grammar.{Grammar}
use Rattle.rulefile.specs.declared.faults.FileFault.{FileFault}
use Rattle.rulefile.specs.Faults.{kind_of, place}
use Rattle.rulefile.specs.Items.{Spells}
use Rattle.rulefile.specs.Faulty.{FirstFault}
use Rattle.rulefile.specs.RuleLines.{silent}
use Rattle.rulefile.specs.Files.{Say, nothing, silence, a-rule}
use Rattle.rulefile.specs.Steps.{Stopped, RestSays}
use Rattle.rulefile.proofs.LineLaw.{LineSays}

say-silence : {g : Grammar} {ls : List Span} {ts : List Rule} (l : Span) → Say g ls ts → silent l.bytes ≡ true → Say g (ls ++ (l ∷ [])) ts
say-silence l nothing h = silence h nothing
say-silence l (silence k s) h = silence k (say-silence l s h)
say-silence l (a-rule k s) h = a-rule k (say-silence l s h)

say-rule : {g : Grammar} {ls : List Span} {ts : List Rule} (l : Span) (t : Rule) → Say g ls ts → Spells g l.bytes t → Say g (ls ++ (l ∷ [])) (ts ++ (t ∷ []))
say-rule l t nothing h = a-rule h nothing
say-rule l t (silence k s) h = silence k (say-rule l t s h)
say-rule l t (a-rule k s) h = a-rule k (say-rule l t s h)

-- Of the lines ls ahead at first, those in `before` are read, and their rules stand in the first slots; the reader s has the others ahead.
pub record Sofar (g : Grammar) (ls : List Span) (slots : List Rule) (s : Reader) (count : ℕ) (held : List Rule) : Type 0 where
  pub before : List Span
  pub ahead : List Span
  pub ts : List Rule
  pub split : ls ≡ before ++ ahead
  pub rest : Lines (s.read + 1) s.at (drop s.at s.file.now) ahead
  pub said : Say g before ts
  pub counted : count ≡ length ts
  pub few : length ts ≤ length slots
  pub holds : held ≡ filled ts slots

pub sofar-none : {g : Grammar} {ls : List Span} {slots : List Rule} (s : Reader) → Lines (s.read + 1) s.at (drop s.at s.file.now) ls → Sofar g ls slots s 0 slots
sofar-none {ls = ls} s h =
    record { before = []; ahead = ls; ts = []; split = refl; rest = h; said = nothing; counted = refl; few = omega arith; holds = refl }

module _ {g : Grammar} {ls : List Span} {slots : List Rule} {s : Reader} where
  pub sofar-all : {count : ℕ} {held : List Rule} → Sofar g ls slots s count held → length s.file.now ≤ s.at → RestSays g ls slots (Ok count) held
  sofar-all f h =
      let none : f.ahead ≡ [] = lines-one (s.read + 1) s.at (drop s.at s.file.now) f.ahead [] f.rest (lines_end s.file.now (s.read + 1) s.at s.at h) in
      let whole : ls ≡ f.before = f.split ∙ ap (λ ms. f.before ++ ms) none ∙ append-nil f.before in
      (f.ts, (subst (λ xs. Say g xs f.ts) (sym whole) f.said, (f.counted, (f.few, f.holds))))

  -- The reader hands out the line l, and goes on as t.
  module _ {count : ℕ} {held : List Rule} (f : Sofar g ls slots s count held) {l : Line} (t : Reader) (step : Turn s (Some l) t) where
    line : Span
    line = span (s.read + 1) s.at l.bytes.now

    -- the line that is next, and the lines after it
    next-line : (ms : List Span) × ((f.ahead ≡ line ∷ ms) × Lines (t.read + 1) t.at (drop t.at t.file.now) ms)
    unfolding line
    next-line =
        let n = step.1 in
        let p = past_next s.file.now l.bytes.now s.read s.at t.at f.ahead n.first n.onward n.within f.rest in
        (p.0, (p.1, subst (λ x. Lines (t.read + 1) t.at (drop t.at x.now) p.0) (sym step.0) (subst (λ k. Lines (k + 1) t.at (drop t.at s.file.now) p.0) (sym n.counted) p.2)))

    whole : ls ≡ f.before ++ (line ∷ next-line.0)
    whole = f.split ∙ ap (λ ms. f.before ++ ms) next-line.1.0

    moved : ls ≡ (f.before ++ (line ∷ [])) ++ next-line.0
    moved = whole ∙ sym (append_assoc f.before (line ∷ []) next-line.0)

    pub sofar-silent : silent l.bytes.now ≡ true → Sofar g ls slots t count held
    unfolding line
    sofar-silent h =
        record {
          before = f.before ++ (line ∷ []);
          ahead = next-line.0;
          ts = f.ts;
          split = moved;
          rest = next-line.1.1;
          said = say-silence line f.said h;
          counted = f.counted;
          few = f.few;
          holds = f.holds;
        }

    pub sofar-rule : (r : Rule) → Spells g l.bytes.now r → count < length slots → Sofar g ls slots t (count + 1) (set held count r)
    unfolding line
    sofar-rule r h room =
        let c = f.counted in
        let full : length f.ts < length slots = omega arith in
        record {
          before = f.before ++ (line ∷ []);
          ahead = next-line.0;
          ts = f.ts ++ (r ∷ []);
          split = moved;
          rest = next-line.1.1;
          said = say-rule line r f.said h;
          counted = ap (λ n. n + 1) c ∙ sym (length_push f.ts r);
          few = let e = length_push f.ts r in omega arith;
          holds = ap₂ (λ xs n. set xs n r) f.holds c ∙ filled_more f.ts slots r full;
        }

    pub sofar-stopped : (e : FileFault) → LineSays g (ltb count (length slots)) l.place l.bytes.now (Err e) → Stopped g ls slots e held
    unfolding line
    sofar-stopped e (loud, (j, (at_place, first))) =
        let n = step.1 in
        record {
          m = length f.before;
          line = line;
          here = ap (λ xs. slice_get xs (length f.before)) whole ∙ slice_get_read (f.before ++ (line ∷ next-line.0)) (length (f.before ++ (line ∷ next-line.0))) (length f.before) line refl (simp length-append (omega arith)) (sym (get_or-append_seam f.before line next-line.0 line));
          loud = loud;
          ts = f.ts;
          says = subst (λ xs. Say g xs f.ts) (sym (ap (take (length f.before)) whole ∙ take_at f.before (line ∷ next-line.0) (length f.before) refl)) f.said;
          few = f.few;
          left = f.holds;
          byte = j;
          place_is = at_place ∙ ap₂ (λ k o. place k (o + j)) n.number n.start;
          first = subst (λ b. FirstFault g b l.bytes.now j (kind_of e)) (ap (λ k. ltb k (length slots)) f.counted) first;
        }
