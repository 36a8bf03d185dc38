-- What writing a list answers, and what it leaves in the text.
use Rattle.std.specs.Prelude.{◌≡◌, ℕ, ◌<◌, ◌≤◌, ◌⊎◌, List, length, take, Some, Ok, Err, Result}
use Rattle.std.specs.List.{slice_get, AllByRecursion}
use Rattle.rules.specs.declared.rule.Rule.{Rule}
use Rattle.rules.specs.declared.letter.Letter.{Letter}
use Rattle.rulefile.specs.declared.grammar.Grammar.{Grammar}
use Rattle.rulefile.specs.declared.grammar.Listing.{Listing}
use Rattle.rulefile.specs.declared.faults.FileFault.{FileFault}
use Rattle.rulefile.specs.Items.{Spells}
use Rattle.rulefile.specs.Files.{grammar, ByGrammar, filled, Answers, OneReading}
use Rattle.writing.specs.declared.refusal.Unwritten.{Unwritten}
use Rattle.writing.specs.declared.refusal.Unwritten.TheVariants.{NoLine, NoRoom}
use Rattle.writing.specs.Written.{written}

-- Some line of the grammar gives the rule.
abbrev pub Sayable : Grammar → Rule → Type 0
Sayable g t = (x : List ℕ) × Spells g x t

-- A list is lawful where there are at most nine conditions and each of its rules is given by some line.
abbrev pub LawfulList : ℕ → Letter → ℕ → List Rule → Type 0
LawfulList posts letter n ts = (n ≤ 9) × AllByRecursion (Sayable (grammar letter n posts)) ts

-- The file, read back, is the list of this letter, with n conditions and the rules ts: it is that list by the grammar, and no other list;
-- and whatever reading it into slots enough answers and leaves is that list.
pub record ReadBack (posts : ℕ) (file : List ℕ) (letter : Letter) (n : ℕ) (ts : List Rule) : Type 0 where
  pub list : ByGrammar posts file letter n ts
  pub once : OneReading posts file
  pub read : (slots slots' : List Rule) (r : Result Listing FileFault) → length ts ≤ length slots → Answers posts file slots r slots'
      → (r ≡ Ok (record { letter = letter; conditions = n; rules = length ts })) × (slots' ≡ filled ts slots)

-- What stands in the way of writing a list: there are more than nine conditions, which is told as slot 0, or the rule in slot k is the first
-- that no line gives.
abbrev pub FirstUnsaid : ℕ → Letter → ℕ → List Rule → ℕ → Type 0
FirstUnsaid posts letter n ts k =
    ((9 < n) × (k ≡ 0))
    ⊎ ((n ≤ 9) × (AllByRecursion (Sayable (grammar letter n posts)) (take k ts) × ((t : Rule) × ((slice_get ts k ≡ Some t) × (Sayable (grammar letter n posts) t → ⊥)))))

-- A list that is lawful and has room is written at the front of the text, and the other bytes stay. A refusal leaves every byte.
abbrev pub Writes : ℕ → Letter → ℕ → List Rule → List ℕ → Result ℕ Unwritten → List ℕ → Type 0
Writes posts letter n ts text (Ok count) text' =
    LawfulList posts letter n ts
    × ((count ≡ length (written letter n ts))
    × ((count ≤ length text) × ((text' ≡ filled (written letter n ts) text) × ReadBack posts (written letter n ts) letter n ts)))
Writes posts letter n ts text (Err (NoLine k)) text' = FirstUnsaid posts letter n ts k × (text' ≡ text)
Writes posts letter n ts text (Err (NoRoom needed)) text' =
    LawfulList posts letter n ts × ((needed ≡ length (written letter n ts)) × ((length text < needed) × (text' ≡ text)))
