-- The letters of lists, and which rules count under each.
use Rattle.std.specs.Prelude.{◌≡◌, ℕ}
use Rattle.rules.specs.declared.letter.Letter.{Letter}
use Rattle.rules.specs.declared.letter.Letter.TheVariants.{Guarded, Model}
use Rattle.rules.specs.declared.letter.Model.TheVariants.{A, B, C, D}
use Rattle.rules.specs.declared.rule.Effect.TheVariants.{Permit}
use Rattle.rules.specs.declared.rule.Rule.{Rule}

-- The character of a list's letter: G for a guarded list, or its model's letter.
abbrev pub letter_byte : Letter → ℕ
letter_byte Guarded = 71
letter_byte (Model A) = 65
letter_byte (Model B) = 66
letter_byte (Model C) = 67
letter_byte (Model D) = 68

-- The rule t counts under a letter. In a guarded list permit rules count, and deny rules are passed over. In a list of a model
-- a rule counts that bars nothing: one that bars a condition or a post never applies there, even where what it bars is out of range.
abbrev pub Counts : Letter → Rule → Type 0
Counts Guarded t = t.effect ≡ Permit
Counts (Model m) t = (t.barred ≡ 0) × (t.barred_posts ≡ 0)
