use Rattle.std.proofs.Common.{refl}
use Rattle.conversion.proofs.Shaping.{no_step, step-first, unled-above}
use Rattle.conversion.proofs.order.Order.first_step.Goals as goal

pub returns-in_err-lower : goal.returns-in_err-lower
returns-in_err-lower c =
    rw c.from_residual.ensures (no_step c.args.self.now c.args.led.now c.lowers.result c.lowers.ensures c.in_err-lower.ensures)

pub returns-in_err-upper : goal.returns-in_err-upper
returns-in_err-upper c =
    let (inside, (up, least)) = c.in_ok-lower.ensures in
    let (y, (far, none)) = ((c.lowers.ensures c.in_ok-lower.lower inside).0 up).1 in
    absurd (c.in_err-upper.ensures y far ((unled-above c.args.self.now c.args.led.now c.not-unled.result c.not-unled.ensures c.in_ok-lower.lower y far).1 none))

pub returns : goal.returns
returns c =
    let (inside, least) = c.in_ok-lower.ensures in (
      refl,
      step-first c.args.self.now c.args.led.now c.not-unled.result c.not-unled.ensures c.lowers.result c.lowers.ensures c.in_ok-upper.upper c.in_ok-lower.lower inside least
          c.in_ok-upper.ensures,
    )
