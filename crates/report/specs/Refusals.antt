-- The number and the figures of every refusal of an input.
use Rattle.std.specs.Prelude.{ℕ, List, [], ◌∷◌, ◌++◌, decimal}
use Rattle.std.specs.List.{flat_map}
use Rattle.rulefile.specs.Faults.{number, kind_of, place_of}
use Rattle.writing.specs.Refusals.{number_of as unwritten_number, figure_of}
use Rattle.report.specs.declared.refusal.Refusal.{Refusal}
use Rattle.report.specs.declared.refusal.Refusal.TheVariants.{File, Text, TooLong}

abbrev pub number_of : Refusal → ℕ
number_of (File f) = number (kind_of f)
number_of (Text u) = unwritten_number u
number_of TooLong = 10

-- A fault of the file has its line and its offset, a list that is not written has its one figure, and an input that is too long has none.
abbrev pub figures_of : Refusal → List ℕ
figures_of (File f) = (place_of f).line ∷ ((place_of f).offset ∷ [])
figures_of (Text u) = figure_of u ∷ []
figures_of TooLong = []

-- A refusal as text: its number in digits, and then each figure in digits after a space.
abbrev pub refusal_text : Refusal → List ℕ
refusal_text r = decimal (number_of r) ++ flat_map (λ n. 32 ∷ decimal n) (figures_of r)
