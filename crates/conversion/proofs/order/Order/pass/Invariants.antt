use Rattle.conversion.specs.Beyond.{Passed}
use Rattle.conversion.proofs.order.Order.pass.Given as goal

abbrev pub invariant-loop-lower : goal.invariant-loop-lower
invariant-loop-lower g l = Passed l.self (goal.F-post g l.step) l.side l.members l.initial.marks l.lower l.marks
