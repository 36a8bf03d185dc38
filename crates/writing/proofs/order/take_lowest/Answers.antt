use Rattle.std.proofs.Common.{arith}
use Rattle.writing.proofs.Picks.{lowest-of}
use Rattle.writing.proofs.order.take_lowest.Goals as goal

pub returns : goal.returns
returns c = lowest-of c.args.set.now (omega arith) (omega arith)
