use Rattle.std.proofs.Common.{length, Result}
use Rattle.rules.specs.declared.rule.Rule.{Rule}
use Rattle.rulefile.specs.declared.faults.LineFault.{LineFault}
use Rattle.rulefile.specs.Steps.{at, Kept, ItemsRead}
use Rattle.rulefile.proofs.items.ItemReader.read_rule.Given as goal

-- what the rest gives, the whole gives
abbrev pub invariant-loop-self : goal.invariant-loop-self
invariant-loop-self l =
    Kept l.initial.self l.self
    × ((r : Result Rule LineFault) → ItemsRead l.self.grammar l.self.draft l.self.rest.now (at l.self) r → ItemsRead l.initial.self.grammar l.initial.self.draft l.initial.self.rest.now (at l.initial.self) r)

abbrev pub decreases-loop-self : goal.decreases-loop-self
decreases-loop-self l = length l.self.rest.now
