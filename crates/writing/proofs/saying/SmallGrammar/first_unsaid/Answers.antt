use Rattle.std.proofs.Common.{rules, tests}
use Rattle.std.proofs.lemmas.Iterator.{IsFirst-from_position, YieldsList-from_slice}
use Rattle.writing.specs.Writes.{Sayable}
use Rattle.writing.specs.Steps.{CanSay}
use Rattle.writing.proofs.Sayings.{sayable-can, can-sayable, first-unsaid}
use Rattle.writing.proofs.saying.SmallGrammar.first_unsaid.Goals as goal

pub returns : goal.returns
returns c =
    let g = c.args.self.grammar in
    let few = c.args.self.few in
    first-unsaid g c.args.rules.now c.position.result
    (IsFirst-from_position _ _ c.position.result (λ t. Sayable g t → ⊥) (Sayable g) c.position.ensures.ran (YieldsList-from_slice c.args.rules.now cc)
    (λ x q k. let no : CanSay g x.now → ⊥ = search (rules, tests) in λ s. no (sayable-can g x.now few.1.0 s))
    (λ x q k. (search rules, let can : CanSay g x.now = search (rules, tests) in can-sayable g x.now few.1.1 few.0 can)))
