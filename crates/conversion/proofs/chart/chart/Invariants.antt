use Rattle.std.proofs.Common.{◌≡◌, ℕ, ◌<◌, get_or}
use Rattle.conversion.specs.Converts.{byte_of}
use Rattle.conversion.proofs.chart.chart.Given as goal

abbrev pub invariant-loop-r : goal.invariant-loop-r
invariant-loop-r g l = (k : ℕ) → k < l.r → get_or l.work k 0 ≡ byte_of ((g.P.Policy.meaning l.policy).effect k)
