use Rattle.std.proofs.lemmas.Result.{err_from_is_err_and}
use Rattle.conversion.proofs.Settling.{converts-few-bytes, converts-made, converts-misfit, converts-stopped}
use Rattle.conversion.proofs.converting.convert.Goals as goal

pub returns-in_err-order-clause-converts : goal.returns-in_err-order-clause-converts
returns-in_err-order-clause-converts g c =
    let p = err_from_is_err_and c.from_residual.result c.from_residual.ensures.1 in
    let (misfit, unfit) = c.in_err-order.ensures in
    rw (p.1, p.2, misfit) (converts-misfit (g.met.L.Ladder.lawful c.args.ladder.now) (unfit c.args.model))

pub returns-then-work-order-clause-converts : goal.returns-then-work-order-clause-converts
returns-then-work-order-clause-converts g c = converts-few-bytes (g.met.L.Ladder.lawful c.args.ladder.now) c.in_ok-order.ensures c.if-work-order.true

pub returns-in_err-floors-clause-converts : goal.returns-in_err-floors-clause-converts
returns-in_err-floors-clause-converts g c =
    let p = err_from_is_err_and c.from_residual-in_err-floors.result c.from_residual-in_err-floors.ensures.1 in
    rw (p.1, p.2)
    (converts-stopped (g.met.L.Ladder.lawful c.args.ladder.now) c.in_ok-order.ensures c.if-work-order.false c.led_in-led.result c.chart.ensures c.lead_effect.ensures c.led_in-led.ensures
    c.in_err-floors.field-0.0 c.in_err-floors.ensures)

pub returns-clause-converts : goal.returns-clause-converts
returns-clause-converts g c =
    converts-made (g.met.L.Ladder.lawful c.args.ladder.now) c.in_ok-order.ensures c.if-work-order.false c.led_in-led.result c.chart.ensures c.lead_effect.ensures c.led_in-led.ensures
    c.in_ok-floors.floors c.in_ok-floors.ensures c.list.result c.list.new.slots c.list.ensures
