-- Which lines after the first say nothing.
use Rattle.std.specs.Prelude.{ℕ, Bool, true, List, [], ◌∷◌, ◌==◌}

-- An empty line, and one that begins with #, say nothing. Any other line after the first is a rule.
abbrev pub silent : List ℕ → Bool
silent [] = true
silent (b ∷ rest) = b == 35
