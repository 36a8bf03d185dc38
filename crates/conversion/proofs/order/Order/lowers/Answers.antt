use Rattle.conversion.proofs.Shaping.{lowers-tell}
use Rattle.conversion.proofs.order.Order.lowers.Goals as goal

pub returns : goal.returns
returns c = lowers-tell c.args.self.now c.args.led.now c.not.result c.not.ensures c.beyond.result c.bitand.result c.beyond.ensures c.bitand.ensures
