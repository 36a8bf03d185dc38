use Rattle.std.proofs.Common.{arith}
use Rattle.conversion.proofs.Raised.{raised-few}
use Rattle.conversion.proofs.order.Order.list.Goals as goal

pub overflow_add-rules : goal.overflow_add-rules
overflow_add-rules c =
    let total = c.args.self.now.total in
    omega (arith, raised-few c.args.floors.now.lead total, raised-few c.args.floors.now.counter total, c.count-leads.ensures, c.count-counters.ensures, c.args.self.now.most)
