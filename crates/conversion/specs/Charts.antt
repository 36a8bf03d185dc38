-- The chart of a policy, and which of its bytes are led. Only inner functions cite this.
use Rattle.std.specs.Prelude.{◌≡◌, ℕ, ◌<◌, List, map, Decides, slice_index}
use Rattle.std.specs.List.{range_with_len}
use Rattle.policies.specs.Policies.{Meaning}
use Rattle.conversion.specs.declared.flags.Flags.{Flags}
use Rattle.conversion.specs.Flags.{flag}
use Rattle.conversion.specs.Converts.{byte_of}

-- The bytes of the first k requests of a policy.
abbrev pub chart_of : Meaning → ℕ → List ℕ
chart_of p k = map (λ r. byte_of (p.effect r)) (range_with_len 0 k)

-- The flags tell which of the first k bytes are b.
abbrev pub BytesAre : ℕ → List ℕ → ℕ → Flags → Type 0
BytesAre b work k flags = (r : ℕ) → r < k → Decides (flag flags r) (slice_index work r ≡ b)
