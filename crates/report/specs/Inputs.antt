-- What is answered of an input: at most 32,768 bytes, read as a rule file on the house ladder, which has eight posts, and written again.
use Rattle.std.specs.Prelude.{◌≡◌, ℕ, ◌+◌, ◌<◌, ◌≤◌, List, length, Ok, Err, Result}
use Rattle.rules.specs.declared.letter.Letter.{Letter}
use Rattle.rules.specs.declared.rule.Rule.{Rule}
use Rattle.rulefile.specs.Files.{ByGrammar, Answers, filled}
use Rattle.writing.specs.declared.refusal.Unwritten.TheVariants.{NoLine, NoRoom}
use Rattle.writing.specs.Written.{written}
use Rattle.writing.specs.Writes.{ReadBack}
use Rattle.report.specs.declared.refusal.Refusal.{Refusal}
use Rattle.report.specs.declared.refusal.Refusal.TheVariants.{File, Text, TooLong}

-- The input holds a list of this letter, with n conditions and the rules ts, which then stand in the first slots; the text of the list, read
-- back, is that very list, and has at most one byte more than the input.
pub record Holds (input : List ℕ) (slots slots' : List Rule) (letter : Letter) (n : ℕ) (ts : List Rule) : Type 0 where
  pub short : length input ≤ 32768
  pub list : ByGrammar 8 input letter n ts
  pub few : length ts ≤ length slots
  pub slots-are : slots' ≡ filled ts slots
  pub back : ReadBack 8 (written letter n ts) letter n ts
  pub no_longer : length (written letter n ts) ≤ length input + 1

-- A list that is read is written at the front of the text, or there is too little room for it; that no line gives one of its rules never comes.
abbrev pub Tidied : List ℕ → List Rule → List ℕ → Result ℕ Refusal → List Rule → List ℕ → Type 0
Tidied input slots text (Ok count) slots' text' =
    (letter : Letter) × ((n : ℕ) × ((ts : List Rule)
    × (Holds input slots slots' letter n ts
    × ((count ≡ length (written letter n ts)) × ((count ≤ length text) × (text' ≡ filled (written letter n ts) text))))))
Tidied input slots text (Err (File f)) slots' text' = (length input ≤ 32768) × (Answers 8 input slots (Err f) slots' × (text' ≡ text))
Tidied input slots text (Err (Text (NoLine k))) slots' text' = ⊥
Tidied input slots text (Err (Text (NoRoom needed))) slots' text' =
    (letter : Letter) × ((n : ℕ) × ((ts : List Rule)
    × (Holds input slots slots' letter n ts × ((needed ≡ length (written letter n ts)) × ((length text < needed) × (text' ≡ text))))))
Tidied input slots text (Err TooLong) slots' text' = (32768 < length input) × ((slots' ≡ slots) × (text' ≡ text))
