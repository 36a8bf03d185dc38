use Rattle.std.proofs.Common.{◌≡◌, false, ◌∙◌, rules}
use Rattle.std.proofs.lemmas.Bool.{false≢true}
use Rattle.std.proofs.lemmas.Iterator.{first_from_Range}
use Rattle.conversion.specs.Flags.{Up, flag}
use Rattle.conversion.proofs.order.Order.first_up.Goals as goal

pub returns : goal.returns
returns c =
    let flags = c.args.flags.now in
    let first = first_from_Range _ _ _ c.find.result (Up flags) (λ x. Up flags x → ⊥) c.find.ensures.ran (λ x q call. search rules)
    (λ x q call. (search rules, λ up. let e : false ≡ flag flags x = search rules in false≢true (e ∙ up))) in
    search rules
