use Rattle.conversion.specs.declared.side.Side.TheVariants.{Above}
use Rattle.conversion.proofs.Shaping.{counters-tell}
use Rattle.conversion.proofs.Told.{told}
use Rattle.conversion.proofs.around.Around.lowest_hopeless.Goals as goal

pub returns : goal.returns
returns c =
    let a = c.args.self.now in
    counters-tell a.order.now a.led.now a.above.now c.not.result c.not-2.result c.bitand.result (told a.order.now a.led.now Above a.above.now a.tells_above) c.not.ensures
    c.not-2.ensures c.bitand.ensures c.lowest.result c.lowest.ensures
