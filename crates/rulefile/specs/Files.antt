-- Whole rule files: which are by the grammar, and which places are at fault.
use Rattle.std.specs.Prelude.{◌≡◌, ℕ, suc, ◌+◌, ◌≤◌, true, false, cond, ◌⊎◌, List, [], ◌∷◌, ◌++◌, length, take, Some, Ok, Err, Result, nat_lt}
use Rattle.std.specs.List.{slice_get, flat_map}
use Rattle.lines.specs.Lines.{Span, Lines}
use Rattle.lines.specs.declared.reader.Place.{Place}
use Rattle.rules.specs.declared.rule.Effect.{Effect}
use Rattle.rules.specs.declared.rule.Effect.TheVariants.{Permit}
use Rattle.rules.specs.declared.rule.Rule.{Rule}
use Rattle.rules.specs.declared.letter.Letter.{Letter}
use Rattle.rules.specs.declared.letter.Letter.TheVariants.{Guarded}
pub use Rattle.rules.specs.Filled.{filled}
use Rattle.rules.specs.Letters.{letter_byte}
use Rattle.rulefile.specs.declared.grammar.Grammar.{Grammar}
use Rattle.rulefile.specs.declared.grammar.Item.{Item}
use Rattle.rulefile.specs.declared.grammar.Listing.{Listing}
use Rattle.rulefile.specs.declared.faults.FileFault.{FileFault}
use Rattle.rulefile.specs.Faults.{Kind, wrong-head, number, kind_of, place, place_of}
use Rattle.rulefile.specs.Items.{spelled, Follow, Means, mark_of, Spells}
use Rattle.rulefile.specs.Faulty.{Fault}
use Rattle.rulefile.specs.RuleLines.{silent}

-- The first line: the list's letter, a space, and the number of conditions as a digit.
abbrev pub head_line : Letter → ℕ → List ℕ
head_line letter n = letter_byte letter ∷ (32 ∷ ((48 + n) ∷ []))

abbrev pub Head : List ℕ → Letter → ℕ → Type 0
Head x letter n = (n ≤ 9) × (x ≡ head_line letter n)

abbrev pub grammar : Letter → ℕ → ℕ → Grammar
grammar letter n posts = record { letter = letter; conditions = n; posts = posts }

-- The lines say the rules ts, one for each line that is not silent, in their order.
pub data Say (g : Grammar) : List Span → List Rule → Type 0 where
  nothing : Say g [] []
  silence : {l : Span} {ls : List Span} {ts : List Rule} → silent l.bytes ≡ true → Say g ls ts → Say g (l ∷ ls) ts
  a-rule : {l : Span} {ls : List Span} {t : Rule} {ts : List Rule} → Spells g l.bytes t → Say g ls ts → Say g (l ∷ ls) (t ∷ ts)

-- The file is by the grammar: a list of this letter, with n conditions and the rules ts.
pub record ByGrammar (posts : ℕ) (file : List ℕ) (letter : Letter) (n : ℕ) (ts : List Rule) : Type 0 where
  pub first : Span
  pub rest : List Span
  pub lines : Lines 1 0 file (first ∷ rest)
  pub head : Head first.bytes letter n
  pub says : Say (grammar letter n posts) rest ts

-- How many of the lines are rules.
abbrev pub rule_lines : List Span → ℕ
rule_lines [] = 0
rule_lines (l ∷ ls) = cond (silent l.bytes) (rule_lines ls) (suc (rule_lines ls))

-- There is no first line, or it is not as it should be.
abbrev pub NoHead : List Span → Type 0
NoHead [] = Unit {0}
NoHead (l ∷ ls) = (letter : Letter) (n : ℕ) → Head l.bytes letter n → ⊥

abbrev pub Headless : List ℕ → Type 0
Headless file = (ls : List Span) × (Lines 1 0 file ls × NoHead ls)

-- The place p lies in a rule line, or at its end, and is at fault there.
pub record InLine (posts : ℕ) (file : List ℕ) (slots : ℕ) (p : Place) (kind : Kind) : Type 0 where
  pub first : Span
  pub rest : List Span
  pub letter : Letter
  pub conditions : ℕ
  pub lines : Lines 1 0 file (first ∷ rest)
  pub head : Head first.bytes letter conditions
  pub before : ℕ
  pub line : Span
  pub here : slice_get rest before ≡ Some line
  pub loud : silent line.bytes ≡ false
  pub byte : ℕ
  pub place_is : p ≡ place line.number (line.start + byte)
  pub fault : Fault (grammar letter conditions posts) (nat_lt (rule_lines (take before rest)) slots) line.bytes byte kind

-- The place p of the file, which is read into so many slots, is at fault.
abbrev pub FaultAt : ℕ → List ℕ → ℕ → Place → Kind → Type 0
FaultAt posts file slots p kind = ((kind ≡ wrong-head) × ((p ≡ place 1 0) × Headless file)) ⊎ InLine posts file slots p kind

-- The fault to report: no byte before it is at fault, and at its byte none has a lesser number.
abbrev pub FirstAt : ℕ → List ℕ → ℕ → Place → Kind → Type 0
FirstAt posts file slots p kind =
    FaultAt posts file slots p kind
    × ((q : Place) (kind' : Kind) → FaultAt posts file slots q kind' → (p.offset ≤ q.offset) × (p.offset ≡ q.offset → number kind ≤ number kind'))

-- The rules of the lines after the first and before line k.
pub record SaidBefore (posts : ℕ) (file : List ℕ) (k : ℕ) (ts : List Rule) : Type 0 where
  pub first : Span
  pub rest : List Span
  pub letter : Letter
  pub conditions : ℕ
  pub lines : Lines 1 0 file (first ∷ rest)
  pub head : Head first.bytes letter conditions
  pub before : ℕ
  pub number_is : k ≡ before + 2
  pub says : Say (grammar letter conditions posts) (take before rest) ts

-- What reading the file into the slots answers, and what it leaves in them. A list comes exactly where no place is at fault, which is where
-- the file is by the grammar and its rules are no more than the slots.
abbrev pub Answers : ℕ → List ℕ → List Rule → Result Listing FileFault → List Rule → Type 0
Answers posts file slots (Ok l) slots' =
    ((q : Place) (kind : Kind) → FaultAt posts file (length slots) q kind → ⊥)
    × ((ts : List Rule)
    × (ByGrammar posts file l.letter l.conditions ts
    × ((l.rules ≡ length ts) × ((length ts ≤ length slots) × (slots' ≡ filled ts slots)))))
Answers posts file slots (Err f) slots' =
    FirstAt posts file (length slots) (place_of f) (kind_of f)
    × (((letter : Letter) (n : ℕ) (ts : List Rule) → ByGrammar posts file letter n ts → length ts ≤ length slots → ⊥)
    × ((ts : List Rule)
    × (((((place_of f).line ≡ 1) × (ts ≡ [])) ⊎ SaidBefore posts file (place_of f).line ts) × (slots' ≡ filled ts slots))))

-- Whatever the file, it is by the grammar in one way at most.
abbrev pub OneReading : ℕ → List ℕ → Type 0
OneReading posts file =
    (letter letter' : Letter) (n n' : ℕ) (ts ts' : List Rule) → ByGrammar posts file letter n ts → ByGrammar posts file letter' n' ts'
    → (letter ≡ letter') × ((n ≡ n') × (ts ≡ ts'))

-- Every rule that the items of a line can give stands in a file that is by the grammar.
abbrev pub EveryRule : ℕ → Type 0
EveryRule posts =
    (letter : Letter) (n : ℕ) (e : Effect) (items : List Item) → n ≤ 9 → (letter ≡ Guarded → e ≡ Permit) → Follow (grammar letter n posts) [] items
    → (t : Rule) × ((t.effect ≡ e) × (Means items t × ByGrammar posts (head_line letter n ++ (10 ∷ (mark_of e ∷ flat_map spelled items))) letter n (t ∷ [])))
