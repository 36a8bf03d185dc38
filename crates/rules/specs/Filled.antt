-- What is lent, rule slots or bytes, is filled from the front.
use Rattle.std.specs.Prelude.{List, ◌++◌, length, drop}

-- The first places hold xs, and the others what they held.
abbrev pub filled : {X : Type 0} → List X → List X → List X
filled xs held = xs ++ drop (length xs) held
