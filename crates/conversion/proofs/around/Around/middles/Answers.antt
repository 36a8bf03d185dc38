use Rattle.conversion.specs.declared.side.Side.TheVariants.{Above, Below}
use Rattle.conversion.proofs.Shaping.{middles-tell}
use Rattle.conversion.proofs.Told.{told}
use Rattle.conversion.proofs.around.Around.middles.Goals as goal

pub returns : goal.returns
returns c =
    let a = c.args.self.now in
    middles-tell a.order.now a.led.now a.above.now a.below.now c.not.result c.bitand.result c.bitand-2.result (told a.order.now a.led.now Above a.above.now a.tells_above)
    (told a.order.now a.led.now Below a.below.now a.tells_below) c.not.ensures c.bitand.ensures c.bitand-2.ensures
