-- The number and the figures of every refusal of a conversion.
use Rattle.std.specs.Prelude.{ℕ, List, [], ◌∷◌}
use Rattle.conversion.specs.declared.refusal.Unconverted.{Unconverted}
use Rattle.conversion.specs.declared.refusal.Unconverted.TheVariants.{Misfit, FewWorkBytes, Gap, Step, FewSlots}

abbrev pub number_of : Unconverted → ℕ
number_of Misfit = 11
number_of (FewWorkBytes requests) = 16
number_of (Gap upper middle lower) = 17
number_of (Step upper lower) = 18
number_of (FewSlots rules) = 19

abbrev pub figures_of : Unconverted → List ℕ
figures_of Misfit = []
figures_of (FewWorkBytes requests) = requests ∷ []
figures_of (Gap upper middle lower) = upper ∷ (middle ∷ (lower ∷ []))
figures_of (Step upper lower) = upper ∷ (lower ∷ [])
figures_of (FewSlots rules) = rules ∷ []
