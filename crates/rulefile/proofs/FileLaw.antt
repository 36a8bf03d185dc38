-- What the reader answers of a whole file is what the file says: the first place at fault, or the one list that it holds.
use Rattle.std.proofs.Common.{◌≡◌, ℕ, zero, suc, ◌+◌, ◌-◌, ◌<◌, ◌≤◌, Bool, true, false, cond, ltb, List, [], ◌∷◌, ◌++◌, length, take, drop, Some, None, Ok, Err, Option, Result, sym, refl, ap, ◌∙◌, subst, ap₂, inl, inr, ⊎_elim, arith, Bor}
use Rattle.std.specs.List.{slice_get, flat_map, AllByRecursion}
use Rattle.std.specs.Option.{option_and_then}
use Rattle.std.proofs.ByRecursion.{All-append}
use Rattle.std.proofs.lemmas.List.{take-take}
use Rattle.std.proofs.lemmas.Bool.{both_ways, cases_order, lt-ltb}
use Rattle.lines.specs.Lines.{Span, span, Unbroken, ended, cut_off, Lines, none, more}
use Rattle.lines.specs.declared.reader.Place.{Place}
use Rattle.lines.proofs.Past.{lines_end, lines_step, Turn}
use Rattle.lines.proofs.Split.{lines-one, lines-some, lines-number, lines-apart}
use Rattle.lines.specs.Handed.{Stepped}
use Rattle.lines.specs.declared.reader.Line.{Line}
use Rattle.lines.specs.declared.reader.Reader.{Reader}
use Rattle.rules.specs.declared.rule.Effect.{Effect}
use Rattle.rules.specs.declared.rule.Effect.TheVariants.{Permit, Deny}
use Rattle.rules.specs.declared.rule.Rule.{Rule}
use Rattle.rules.specs.declared.letter.Letter.{Letter}
use Rattle.rules.specs.declared.letter.Letter.TheVariants.{Guarded, Model}
use Rattle.rules.specs.declared.letter.Model.TheVariants.{A, B, C, D}
use Rattle.rulefile.specs.declared.grammar.Grammar.{Grammar}
use Rattle.rulefile.specs.declared.grammar.Name.{Name}
use Rattle.rulefile.specs.declared.grammar.Name.TheVariants.{Condition, Post}
use Rattle.rulefile.specs.declared.grammar.Item.{Item}
use Rattle.rulefile.specs.declared.grammar.Listing.{Listing}
use Rattle.rulefile.specs.declared.faults.FileFault.{FileFault}
use Rattle.rulefile.specs.declared.faults.FileFault.TheVariants.{WrongHead}
use Rattle.rulefile.specs.Faults.{Kind, wrong-head, no-mark, not-due, out_of_range, repeated, not-allowed, no_slot, number, place, place_of, kind_of}
use Rattle.rulefile.specs.Items.{Known, byte_of, text, spelled, mark_of, Spells}
use Rattle.rulefile.specs.Faulty.{Fault}
use Rattle.rulefile.specs.RuleLines.{silent}
use Rattle.rules.specs.Letters.{letter_byte}
use Rattle.rulefile.specs.Files.{head_line, Head, grammar, Say, nothing, silence, a-rule, ByGrammar, rule_lines, NoHead, Headless, InLine, FaultAt, FirstAt, Answers, OneReading, EveryRule}
use Rattle.rulefile.specs.Steps.{fresh, finished, head_of, Stopped, RestSays}
use Rattle.rulefile.proofs.Drafts.{drafted, means-drafted, drafted-effect}
use Rattle.rulefile.proofs.LineLaw.{follow-known}
use Rattle.rulefile.proofs.HeadLaw.{HeadSays, head-says, head-one}
use Rattle.rulefile.proofs.Readings.{faultless, fault-within, spells-loud, spells_one}

some_one : {X : Type 0} (o : Option X) (x y : X) → o ≡ Some x → o ≡ Some y → x ≡ y
some_one o x y e f = cc

-- As many rules as rule lines.
say-count : {g : Grammar} {ls : List Span} {ts : List Rule} → Say g ls ts → rule_lines ls ≡ length ts
say-count nothing = refl
say-count (silence {l} {ls} h s) = ap (λ b. cond b (rule_lines ls) (suc (rule_lines ls))) h ∙ say-count s
say-count {g} (a-rule {l} {ls} {t} h s) = ap (λ b. cond b (rule_lines ls) (suc (rule_lines ls))) (spells-loud g l.bytes t h) ∙ ap suc (say-count s)

-- A line that is not silent, among lines that say rules, is by the grammar.
say-line : {g : Grammar} {ls : List Span} {ts : List Rule} (m : ℕ) (line : Span) → Say g ls ts → slice_get ls m ≡ Some line → silent line.bytes ≡ false → (t : Rule) × Spells g line.bytes t
say-line m line nothing e h = absurd (cc)
say-line zero line (silence {l} k s) e h = let same : l ≡ line = cc in absurd (both_ways (silent line.bytes) h (ap (λ x. silent x.bytes) (sym same) ∙ k))
say-line {g} zero line (a-rule {l} {ls} {t} k s) e h = let same : l ≡ line = cc in (t, subst (λ x. Spells g x.bytes t) same k)
say-line (suc m) line (silence k s) e h = say-line m line s e h
say-line (suc m) line (a-rule k s) e h = say-line m line s e h

-- A rule line is one more.
rule-lines-less : (ls : List Span) (m : ℕ) (line : Span) → slice_get ls m ≡ Some line → silent line.bytes ≡ false → rule_lines (take m ls) < rule_lines ls
rule-lines-less [] m line e h = absurd (cc)
rule-lines-less (l ∷ ls) zero line e h =
    let same : l ≡ line = cc in
    let loud : silent l.bytes ≡ false = ap (λ x. silent x.bytes) same ∙ h in
    let n = ap (λ b. cond b (rule_lines ls) (suc (rule_lines ls))) loud in omega arith
rule-lines-less (l ∷ ls) (suc m) line e h =
    let less = rule-lines-less ls m line e h in
    cond-less (silent l.bytes) (rule_lines (take m ls)) (rule_lines ls) less
  where
    cond-less : (b : Bool) (x y : ℕ) → x < y → cond b x (suc x) < cond b y (suc y)
    cond-less true x y h = h
    cond-less false x y h = omega arith

nth-take : (ls : List Span) (a m : ℕ) → a < m → slice_get (take m ls) a ≡ slice_get ls a
nth-take [] a zero h = absurd (omega arith)
nth-take [] a (suc m) h = refl
nth-take (l ∷ ls) a zero h = absurd (omega arith)
nth-take (l ∷ ls) zero (suc m) h = refl
nth-take (l ∷ ls) (suc a) (suc m) h = nth-take ls a m (omega arith)

say-moved : {posts n n' : ℕ} {letter letter' : Letter} {ls ls' : List Span} {ts : List Rule} → letter ≡ letter' → n ≡ n' → ls ≡ ls' → Say (grammar letter n posts) ls ts → Say (grammar letter' n' posts) ls' ts
say-moved {posts} {n' = n'} {letter = letter} {letter' = letter'} {ls = ls} {ts = ts} l k r s =
    subst (λ xs. Say (grammar letter' n' posts) xs ts) r (subst (λ a. Say (grammar a n' posts) ls ts) l (subst (λ m. Say (grammar letter m posts) ls ts) k s))

-- The number of a fault is at least 1.
one : (kind : Kind) → 1 ≤ number kind
one wrong-head = omega arith
one no-mark = omega arith
one not-due = omega arith
one out_of_range = omega arith
one repeated = omega arith
one not-allowed = omega arith
one no_slot = omega arith

-- A file without a head.
module _ (posts : ℕ) (file : List ℕ) (slots : List Rule) (h : Headless file) where
  no-grammar : (letter : Letter) (n : ℕ) (ts : List Rule) → ByGrammar posts file letter n ts → ⊥
  no-grammar letter n ts b = subst NoHead (lines-one 1 0 file h.0 (b.first ∷ b.rest) h.1.0 b.lines) h.1.1 letter n b.head

  pub headless : Answers posts file slots (Err WrongHead) slots
  headless = (
    (inl (refl, (refl, h)), λ q kind w. (omega arith, λ e. one kind)),
    (λ letter n ts b few. no-grammar letter n ts b, ([], (inl (refl, refl), refl))),
  )

-- A file with a head, whose other lines are read.
module _ (posts : ℕ) (file : List ℕ) (slots slots' : List Rule) (first : Span) (rest : List Span) (letter : Letter) (n : ℕ) (lines : Lines 1 0 file (first ∷ rest)) (head : Head first.bytes letter n) where
  -- whoever has lines and a head has these
  same_lines : (first' : Span) (rest' : List Span) → Lines 1 0 file (first' ∷ rest') → (first' ≡ first) × (rest' ≡ rest)
  same_lines first' rest' l =
      let e = lines-one 1 0 file (first' ∷ rest') (first ∷ rest) l lines in let a : first' ≡ first = cc in let b : rest' ≡ rest = cc in (a, b)

  same_head : (first' : Span) (rest' : List Span) (letter' : Letter) (n' : ℕ) → Lines 1 0 file (first' ∷ rest') → Head first'.bytes letter' n' → (letter' ≡ letter) × (n' ≡ n)
  same_head first' rest' letter' n' l h =
      head-one first.bytes letter' letter n' n (subst (λ s. Head s.bytes letter' n') (same_lines first' rest' l).0 h) head

  -- Where the lines after the head say rules that have slots, no place is at fault.
  sound : (ts : List Rule) → Say (grammar letter n posts) rest ts → length ts ≤ length slots → (q : Place) (kind : Kind) → FaultAt posts file (length slots) q kind → ⊥
  sound ts says few q kind (inl (w, (at, h))) = subst NoHead (lines-one 1 0 file h.0 (first ∷ rest) h.1.0 lines) h.1.1 letter n head
  sound ts says few q kind (inr i) =
      let r = (same_lines i.first i.rest i.lines).1 in
      let h = same_head i.first i.rest i.letter i.conditions i.lines i.head in
      let theirs : Say (grammar i.letter i.conditions posts) i.rest ts = say-moved (sym h.0) (sym h.1) (sym r) says in
      let (t, sp) = say-line i.before i.line theirs i.here i.loud in
      let less = rule-lines-less i.rest i.before i.line i.here i.loud in
      let count = say-count theirs in
      faultless (grammar i.letter i.conditions posts) (ltb (rule_lines (take i.before i.rest)) (length slots)) i.line.bytes t i.byte kind sp
      (lt-ltb (rule_lines (take i.before i.rest)) (length slots) (omega arith)) i.fault

  pub listed : (count : ℕ) → RestSays (grammar letter n posts) rest slots (Ok count) slots' → Answers posts file slots (Ok (record { letter = letter; conditions = n; rules = count })) slots'
  listed count (ts, (s, (c, (few, left)))) = (
    sound ts s few,
    (ts, (record { first = first; rest = rest; lines = lines; head = head; says = s }, (c, (few, left)))),
  )

  module _ (f : FileFault) (s : Stopped (grammar letter n posts) rest slots f slots') where
    counted : rule_lines (take s.m rest) ≡ length s.ts
    counted = say-count s.says

    fault-here : FaultAt posts file (length slots) (place_of f) (kind_of f)
    fault-here =
        inr
        (record {
          first = first;
          rest = rest;
          letter = letter;
          conditions = n;
          lines = lines;
          head = head;
          before = s.m;
          line = s.line;
          here = s.here;
          loud = s.loud;
          byte = s.byte;
          place_is = s.place_is;
          fault = subst (λ k. Fault (grammar letter n posts) (ltb k (length slots)) s.line.bytes s.byte (kind_of f)) (sym counted) s.first.0;
        })

    -- a line before the one at fault has none
    before-none : (a : ℕ) (line : Span) (j : ℕ) (kind : Kind) → a < s.m → slice_get rest a ≡ Some line → silent line.bytes ≡ false
        → Fault (grammar letter n posts) (ltb (rule_lines (take a rest)) (length slots)) line.bytes j kind → ⊥
    before-none a line j kind lt e loud w =
        let here : slice_get (take s.m rest) a ≡ Some line = nth-take rest a s.m lt ∙ e in
        let (t, sp) = say-line a line s.says here loud in
        let less = rule-lines-less (take s.m rest) a line here loud in
        let cut = ap rule_lines (take-take a s.m rest (omega arith)) in
        let few = s.few in
        let c = counted in
        faultless (grammar letter n posts) (ltb (rule_lines (take a rest)) (length slots)) line.bytes t j kind sp (lt-ltb (rule_lines (take a rest)) (length slots) (omega arith)) w

    compared : (a : ℕ) (line : Span) (j : ℕ) (kind : Kind) (q : Place) → slice_get rest a ≡ Some line → silent line.bytes ≡ false
        → Fault (grammar letter n posts) (ltb (rule_lines (take a rest)) (length slots)) line.bytes j kind → q ≡ place line.number (line.start + j)
        → ((place_of f).offset ≤ q.offset) × ((place_of f).offset ≡ q.offset → number (kind_of f) ≤ number kind)
    compared a line j kind q e loud w at =
        let o = ap (λ p. p.offset) at in
        let p = ap (λ p. p.offset) s.place_is in
        ⊎_elim
        (λ (same : a ≡ s.m).
        let one : line ≡ s.line = some_one (slice_get rest s.m) line s.line (ap (slice_get rest) (sym same) ∙ e) s.here in
        let count : rule_lines (take a rest) ≡ length s.ts = ap (λ k. rule_lines (take k rest)) same ∙ counted in
        let v = subst (λ k. Fault (grammar letter n posts) (ltb k (length slots)) line.bytes j kind) count w in
        let u = s.first.1 j kind (subst (λ x. Fault (grammar letter n posts) (ltb (length s.ts) (length slots)) x.bytes j kind) one v) in
        let start = ap (λ x. x.start) one in
        let le = u.0 in
        (omega arith, λ i. u.1 (omega arith)))
        (λ apart.
        ⊎_elim
        (λ (lt : a < s.m). absurd (before-none a line j kind lt e loud w))
        (λ (gt : s.m < a).
        let far = lines-apart 1 0 file (first ∷ rest) (suc s.m) (suc a) s.line line lines (omega arith) s.here e in
        let within = fault-within (grammar letter n posts) (ltb (length s.ts) (length slots)) s.line.bytes s.byte (kind_of f) s.first.0 in
        (omega arith, λ i. absurd (omega arith)))
        apart)
        (cases_order a s.m)

    first-fault : FirstAt posts file (length slots) (place_of f) (kind_of f)
    first-fault = (
      fault-here,
      λ q kind w.
          ⊎_elim
          (λ (v : (kind ≡ wrong-head) × ((q ≡ place 1 0) × Headless file)).
          absurd (subst NoHead (lines-one 1 0 file v.1.1.0 (first ∷ rest) v.1.1.1.0 lines) v.1.1.1.1 letter n head))
          (λ (i : InLine posts file (length slots) q kind).
          let r = (same_lines i.first i.rest i.lines).1 in
          let h = same_head i.first i.rest i.letter i.conditions i.lines i.head in
          compared i.before i.line i.byte kind q (ap (λ ls. slice_get ls i.before) (sym r) ∙ i.here) i.loud
          (subst (λ ls. Fault (grammar letter n posts) (ltb (rule_lines (take i.before ls)) (length slots)) i.line.bytes i.byte kind) r
          (subst (λ k. Fault (grammar letter k posts) (ltb (rule_lines (take i.before i.rest)) (length slots)) i.line.bytes i.byte kind) h.1
          (subst (λ l. Fault (grammar l i.conditions posts) (ltb (rule_lines (take i.before i.rest)) (length slots)) i.line.bytes i.byte kind) h.0 i.fault)))
          i.place_is)
          w,
    )

    unlisted : (letter' : Letter) (n' : ℕ) (ts : List Rule) → ByGrammar posts file letter' n' ts → length ts ≤ length slots → ⊥
    unlisted letter' n' ts b few =
        let r = (same_lines b.first b.rest b.lines).1 in
        let h = same_head b.first b.rest letter' n' b.lines b.head in
        let says : Say (grammar letter n posts) rest ts = say-moved h.0 h.1 r b.says in
        let (t, sp) = say-line s.m s.line says s.here s.loud in
        let less = rule-lines-less rest s.m s.line s.here s.loud in
        let c = counted in
        let d = say-count says in
        faultless (grammar letter n posts) (ltb (length s.ts) (length slots)) s.line.bytes t s.byte (kind_of f) sp (lt-ltb (length s.ts) (length slots) (omega arith)) s.first.0

    pub refused : Answers posts file slots (Err f) slots'
    refused = (
      first-fault,
      (
        unlisted,
        (
          s.ts,
          (
            inr
                (record {
                  first = first;
                  rest = rest;
                  letter = letter;
                  conditions = n;
                  lines = lines;
                  head = head;
                  before = s.m;
                  number_is = let k = lines-number 1 0 file (first ∷ rest) (suc s.m) s.line lines s.here in let p = ap (λ p. p.line) s.place_is in omega arith;
                  says = s.says;
                }),
            s.left,
          ),
        ),
      ),
    )

say-one : {g : Grammar} {ls : List Span} {ts us : List Rule} → Say g ls ts → Say g ls us → ts ≡ us
say-one nothing nothing = refl
say-one (silence h s) (silence k v) = say-one s v
say-one {g} (silence {l} h s) (a-rule {t = u} k v) = absurd (both_ways (silent l.bytes) (spells-loud g l.bytes u k) h)
say-one {g} (a-rule {l} {t = t} h s) (silence k v) = absurd (both_ways (silent l.bytes) (spells-loud g l.bytes t h) k)
say-one {g} (a-rule {l} {t = t} h s) (a-rule {t = u} k v) = ap₂ ◌∷◌ (spells_one g l.bytes t u h k) (say-one s v)

pub one-reading : (posts : ℕ) (file : List ℕ) → OneReading posts file
one-reading posts file letter letter' n n' ts ts' b c =
    let r = (same_lines posts file [] [] c.first c.rest letter' n' c.lines c.head b.first b.rest b.lines).1 in
    let h = same_head posts file [] [] c.first c.rest letter' n' c.lines c.head b.first b.rest letter n b.lines b.head in
    let says : Say (grammar letter' n' posts) c.rest ts = say-moved h.0 h.1 r b.says in
    (h.0, (h.1, say-one says c.says))

-- No byte of a head, a mark or an item ends a line.
name-unbroken : (x : Name) → Known x → byte_of x ≡ 10 → ⊥
name-unbroken (Condition c) h e = omega arith
name-unbroken (Post p) h e = omega arith

text-unbroken : (b : Bool) (x : Name) → Known x → Unbroken (text b x)
text-unbroken true x h = (λ e. omega arith, (λ e. omega arith, (name-unbroken x h, tt)))
text-unbroken false x h = (λ e. omega arith, (name-unbroken x h, tt))

pub items-unbroken : (is : List Item) → AllByRecursion (λ i. Known i.name) is → Unbroken (flat_map spelled is)
items-unbroken [] h = tt
items-unbroken (i ∷ is) h = All-append (λ b. b ≡ 10 → ⊥) (spelled i) (flat_map spelled is) (text-unbroken i.barred i.name h.0) (items-unbroken is h.1)

pub mark-unbroken : (e : Effect) → mark_of e ≡ 10 → ⊥
mark-unbroken Permit h = omega arith
mark-unbroken Deny h = omega arith

pub letter-unbroken : (l : Letter) → letter_byte l ≡ 10 → ⊥
letter-unbroken Guarded h = omega arith
letter-unbroken (Model A) h = omega arith
letter-unbroken (Model B) h = omega arith
letter-unbroken (Model C) h = omega arith
letter-unbroken (Model D) h = omega arith

pub every-rule : (posts : ℕ) → EveryRule posts
every-rule posts letter n e items few deny follow =
    let t : Rule = finished (drafted (fresh e) items) in
    let effect : t.effect ≡ e = drafted-effect (fresh e) items in
    let x : List ℕ = mark_of e ∷ flat_map spelled items in
    let means = means-drafted (grammar letter n posts) e items follow in (
      t,
      (
        effect,
        (
          means,
          record {
            first = span 1 0 (head_line letter n);
            rest = span 2 (0 + (length (head_line letter n ++ (10 ∷ x)) - length x)) x ∷ [];
            lines = more (ended (letter-unbroken letter, (λ h. omega arith, (λ h. omega arith, tt)))) (more (cut_off (omega arith) (mark-unbroken e, items-unbroken items (follow-known (grammar letter n posts) [] items follow))) none);
            head = (few, refl);
            says =
                a-rule
                (record {
                  items = items;
                  bytes = ap (λ m. mark_of m ∷ flat_map spelled items) (sym effect);
                  mark = λ guarded. effect ∙ deny guarded;
                  follow = follow;
                  means = means;
                })
                nothing;
          },
        ),
      ),
    )

-- What is answered of a file by how many rules its other lines gave.
abbrev pub listing : Letter → ℕ → Result ℕ FileFault → Result Listing FileFault
listing letter n (Ok count) = Ok (record { letter = letter; conditions = n; rules = count })
listing letter n (Err f) = Err f

-- The first line that a new reader hands out is line 1, and the lines ahead of it then are the others.
module _ {file : Bor (List ℕ)} (s t : Reader) (same : s.file ≡ file) (unread : s.read ≡ 0) (begins : s.at ≡ 0) where
  pub others : List Span
  others = (lines-some (t.read + 1) t.at (drop t.at file.now)).0

  pub ahead : Lines (t.read + 1) t.at (drop t.at file.now) others
  unfolding others
  ahead = (lines-some (t.read + 1) t.at (drop t.at file.now)).1

  pub opened : (l : Line) → Turn s (Some l) t → Lines 1 0 file.now (span 1 0 l.bytes.now ∷ others)
  opened l h =
      lines_step file 0 0 l t.read t.at others
      (subst (λ a. Stepped file 0 a l t.read t.at) begins (subst (λ k. Stepped file k s.at l t.read t.at) unread (subst (λ f. Stepped f s.read s.at l t.read t.at) same h.1))) ahead

  -- Without a first line that is a head, the file has none.
  pub no-head : (first : Option Line) (told : Option (Letter × ℕ)) → Turn s first t → told ≡ option_and_then (λ l. head_of l.bytes.now) first → told ≡ None → Headless file.now
  no-head None told h e n = let long = ap (λ f. length f.now) same in let end = h.1.0 in ([], (lines_end file.now 1 0 0 (omega arith), tt))
  no-head (Some l) told h e n = (span 1 0 l.bytes.now ∷ others, (opened l h, subst (HeadSays l.bytes.now) (sym e ∙ n) (head-says l.bytes.now)))

  -- With the head told, what the other lines say is the answer.
  pub answered : (posts k : ℕ) (slots slots' : List Rule) (letter : Letter) (n : ℕ) (first : Option Line) (told : Option (Letter × ℕ)) (r : Result ℕ FileFault) → Turn s first t
      → told ≡ option_and_then (λ l. head_of l.bytes.now) first → told ≡ Some (letter, n) → k ≡ posts
      → ((ls : List Span) → Lines (t.read + 1) t.at (drop t.at t.file.now) ls → RestSays (grammar letter n k) ls slots r slots')
      → Answers posts file.now slots (listing letter n r) slots'
  answered posts k slots slots' letter n None told r h e m count says = absurd (cc)
  answered posts k slots slots' letter n (Some l) told r h e m count says =
      concluded r
      (subst (λ m. RestSays (grammar letter n m) others slots r slots') count
      (says others (subst (λ f. Lines (t.read + 1) t.at (drop t.at f.now) others) (sym (h.0 ∙ same)) ahead)))
    where
      head-told : Head l.bytes.now letter n
      head-told = subst (HeadSays l.bytes.now) (sym e ∙ m) (head-says l.bytes.now)

      concluded : (r : Result ℕ FileFault) → RestSays (grammar letter n posts) others slots r slots' → Answers posts file.now slots (listing letter n r) slots'
      concluded (Ok c) h' = listed posts file.now slots slots' (span 1 0 l.bytes.now) others letter n (opened l h) head-told c h'
      concluded (Err f) h' = refused posts file.now slots slots' (span 1 0 l.bytes.now) others letter n (opened l h) head-told f h'
