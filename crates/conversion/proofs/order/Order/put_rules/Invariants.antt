use Rattle.std.proofs.Common.{◌≡◌, ℕ, ◌<◌, length, get_or}
use Rattle.rules.specs.declared.rule.Rule.{Rule}
use Rattle.expressiveness.specs.Floors.{floor_rule}
use Rattle.conversion.specs.Flags.{raised}
use Rattle.conversion.proofs.order.Order.put_rules.Given as goal

abbrev pub invariant-loop-place : goal.invariant-loop-place
invariant-loop-place l = record {
  can : (goal.iterator-loop-place).can_next l.place-iterator;
  finite : (goal.iterator-loop-place).is_finite l.place-iterator;
  put : (k : ℕ) (d : Rule) → k < length l.yielded → get_or l.slots k d ≡ floor_rule l.self.conditions l.effect (get_or (raised l.floors l.self.total) k 0);
}
