-- The number and the figure of each refusal of a writing.
use Rattle.std.specs.Prelude.{ℕ}
use Rattle.writing.specs.declared.refusal.Unwritten.{Unwritten}
use Rattle.writing.specs.declared.refusal.Unwritten.TheVariants.{NoLine, NoRoom}

abbrev pub number_of : Unwritten → ℕ
number_of (NoLine slot) = 9
number_of (NoRoom needed) = 8

-- The slot of a rule that no line gives, or how many bytes the text needs.
abbrev pub figure_of : Unwritten → ℕ
figure_of (NoLine slot) = slot
figure_of (NoRoom needed) = needed
