use Rattle.std.proofs.Common.{◌+◌, ◌*◌}
use Rattle.conversion.specs.Beyond.{Sound}
use Rattle.conversion.proofs.Marks.{Full, Posted}
use Rattle.conversion.proofs.order.Order.beyond.Given as goal

abbrev pub invariant-loop-c : goal.invariant-loop-c
invariant-loop-c l = Sound l.self l.side l.members l.marks × Full l.self l.c-counter l.side l.members l.marks

abbrev pub invariant-loop-upper_post : goal.invariant-loop-upper_post
invariant-loop-upper_post l = Posted l.self (l.upper_post-counter * 8) l.side l.members l.marks

abbrev pub invariant-loop-lower_post : goal.invariant-loop-lower_post
invariant-loop-lower_post l = Posted l.self (l.upper_post * 8 + l.lower_post-counter) l.side l.members l.marks
