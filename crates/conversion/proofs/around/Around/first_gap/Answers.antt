use Rattle.std.proofs.Common.{refl}
use Rattle.conversion.proofs.Shaping.{gap-first, no_gap}
use Rattle.conversion.proofs.around.Around.first_gap.Goals as goal

pub returns-in_err-middle : goal.returns-in_err-middle
returns-in_err-middle c =
    let a = c.args.self.now in
    rw c.from_residual.ensures (no_gap a.order.now a.led.now c.middles.result c.middles.ensures c.in_err-middle.ensures)

pub returns-in_err-upper : goal.returns-in_err-upper
returns-in_err-upper c =
    let (inside, (up, least)) = c.in_ok-middle.ensures in
    let (y, (far, mem)) = ((c.middles.ensures c.in_ok-middle.middle inside).0 up).1.0 in
    absurd (c.in_err-upper.ensures y far mem)

pub returns-in_err-lower : goal.returns-in_err-lower
returns-in_err-lower c =
    let (inside, (up, least)) = c.in_ok-middle.ensures in
    let (y, (far, mem)) = ((c.middles.ensures c.in_ok-middle.middle inside).0 up).1.1 in
    absurd (c.in_err-lower.ensures y far mem)

pub returns : goal.returns
returns c =
    let a = c.args.self.now in
    let (inside, least) = c.in_ok-middle.ensures in (
      refl,
      gap-first a.order.now a.led.now c.middles.result c.middles.ensures c.in_ok-upper.upper c.in_ok-middle.middle c.in_ok-lower.lower inside least
          c.in_ok-upper.ensures c.in_ok-lower.ensures,
    )
