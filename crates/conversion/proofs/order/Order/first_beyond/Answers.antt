use Rattle.std.proofs.Common.{ℕ, rules}
use Rattle.std.proofs.lemmas.Iterator.{first_from_Range}
use Rattle.conversion.specs.Beyond.{Beyond}
use Rattle.conversion.specs.Flags.{Up}
use Rattle.conversion.proofs.Shaping.{first-beyond}
use Rattle.conversion.proofs.order.Order.first_beyond.Goals as goal

pub returns : goal.returns
returns c =
    let Is = λ (y : ℕ). Beyond c.args.self.now c.args.side c.args.x y × Up c.args.members.now y in
    first-beyond c.args.self.now c.args.side c.args.x c.args.members.now c.find.result
    (first_from_Range _ _ _ c.find.result Is (λ y. Is y → ⊥) c.find.ensures.ran (λ y q call. search rules) (λ y q call. (search rules, λ is. search rules)))
