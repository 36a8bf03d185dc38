use Rattle.std.proofs.Common.{ℕ, length, arith}
use Rattle.std.proofs.lemmas.List.FromFn.{fill_by_all}
use Rattle.conversion.specs.Converts.{byte_of}
use Rattle.conversion.proofs.chart.chart.Goals as goal

pub returns : goal.returns
returns g c =
    fill_by_all (λ (k : ℕ). byte_of ((g.P.Policy.meaning c.args.policy.now).effect k)) c.loop-r.work (length c.args.work.now) 0 (omega arith)
    (λ k h. c.loop-r.invariant k (omega arith))
