-- A set of small numbers, as one number.
use Rattle.std.specs.Prelude.{ℕ, ◌/◌, ◌%◌, ◌^◌, Bool, ◌==◌}

-- Member c of a set is its bit c: the set has c where that bit is 1.
abbrev pub holds : ℕ → ℕ → Bool
holds set c = (set / 2 ^ c % 2) == 1
