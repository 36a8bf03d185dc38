use Rattle.std.proofs.Common.{arith}
use Rattle.std.proofs.lemmas.Nat.{one_shl, pow_below}
use Rattle.conversion.proofs.order.Order.with_condition.Goals as goal

pub overflow_cast-lower : goal.overflow_cast-lower
overflow_cast-lower c = omega (arith, c.args.self.now.most, c.requires)

pub overflow_add-lower : goal.overflow_add-lower
overflow_add-lower c =
    let most = c.args.self.now.most in
    let few = c.args.self.now.few in
    omega (arith, one_shl c.args.c 64 (omega arith), pow_below c.args.c 9 (omega arith))
