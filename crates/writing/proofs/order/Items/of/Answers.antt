use Rattle.std.proofs.Common.{arith, rules}
use Rattle.writing.proofs.Picks.{left-all}
use Rattle.writing.proofs.order.Items.of.Goals as goal

pub returns : goal.returns
returns c = left-all c.args.rule.now c.floor_item.result c.from.result c.named_conditions.result (omega arith) (search rules) c.floor_item.ensures c.named_conditions.ensures
