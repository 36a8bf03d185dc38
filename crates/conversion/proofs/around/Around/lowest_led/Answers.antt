use Rattle.conversion.specs.declared.side.Side.TheVariants.{Below}
use Rattle.conversion.proofs.Shaping.{lowest-tells}
use Rattle.conversion.proofs.Told.{told}
use Rattle.conversion.proofs.around.Around.lowest_led.Goals as goal

pub returns : goal.returns
returns c =
    let a = c.args.self.now in
    lowest-tells a.order.now a.led.now a.below.now c.not.result c.bitand.result (told a.order.now a.led.now Below a.below.now a.tells_below) c.not.ensures c.bitand.ensures
