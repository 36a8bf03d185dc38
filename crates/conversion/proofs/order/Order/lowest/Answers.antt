use Rattle.conversion.proofs.Shaping.{lowest-tells}
use Rattle.conversion.proofs.order.Order.lowest.Goals as goal

pub returns : goal.returns
returns c = lowest-tells c.args.self.now c.args.members.now c.beyond.result c.not.result c.bitand.result c.beyond.ensures c.not.ensures c.bitand.ensures
