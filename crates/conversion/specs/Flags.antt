-- A flag for each request. Only inner functions cite this.
use Rattle.std.specs.Prelude.{◌≡◌, ℕ, Bool, true, false, List, slice_index_or}
use Rattle.std.specs.List.{filter, range_with_len}
use Rattle.conversion.specs.declared.flags.Flags.{Flags}

-- The flag of request r.
abbrev pub flag : Flags → ℕ → Bool
flag flags r = slice_index_or flags.up r false

-- Flag r is up.
abbrev pub Up : Flags → ℕ → Type 0
Up flags r = flag flags r ≡ true

-- The numbers below k whose flag is up, by rising number.
abbrev pub raised : Flags → ℕ → List ℕ
raised flags k = filter (flag flags) (range_with_len 0 k)
