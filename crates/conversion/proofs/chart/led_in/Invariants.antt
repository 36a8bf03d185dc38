use Rattle.std.proofs.Common.{◌≡◌, ℕ, ◌≤◌, false}
use Rattle.conversion.specs.Charts.{BytesAre}
use Rattle.conversion.specs.Flags.{flag}
use Rattle.conversion.proofs.chart.led_in.Given as goal

abbrev pub invariant-loop-r : goal.invariant-loop-r
invariant-loop-r l = BytesAre l.byte l.chart l.r l.led × ((k : ℕ) → l.r ≤ k → flag l.led k ≡ false)
