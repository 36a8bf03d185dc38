use Rattle.std.proofs.Common.{◌+◌, ◌/◌, ◌^◌, eqb, ◌∙◌, ap₂, arith}
use Rattle.std.specs.Bool.{then_some}
use Rattle.std.proofs.lemmas.Nat.{shl_whole}
use Rattle.rules.proofs.Numbers.{masked}
use Rattle.conversion.proofs.order.Order.with_post.Goals as goal

pub returns : goal.returns
returns c =
    let n = c.args.self.now.conditions in
    c.then_some.ensures
    ∙ ap₂ (λ x y. then_some (eqb (c.args.lower / 2 ^ n) c.args.lower_post) (x + y)) (shl_whole c.args.upper_post 3 n 64 c.requires.0 (omega (arith, c.args.self.now.few)))
    (masked n c.args.lower c.args.self.now.few)
