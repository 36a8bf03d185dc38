use Rattle.std.proofs.Common.{◌∷◌, take, decimal}
use Rattle.std.specs.List.{flat_map}
use Rattle.std.specs.Fmt.{HasWritten, IsPlainFormatter}
use Rattle.report.proofs.refusal.RefusalDisplay.fmt.Given as goal

-- the figures so far are written
abbrev pub invariant-loop-figure : goal.invariant-loop-figure
invariant-loop-figure g l =
    IsPlainFormatter l.initial.f
    → HasWritten g.W.Write.write_str_gives l.initial.f (flat_map (λ n. 32 ∷ decimal n) (take l.figure-index l.figure-items)) l.f
