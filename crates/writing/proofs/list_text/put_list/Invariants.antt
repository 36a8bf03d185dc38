use Rattle.std.proofs.Common.{◌≡◌, map, drop}
use Rattle.std.specs.List.{AllByRecursion}
use Rattle.writing.specs.Written.{line_of, lined}
use Rattle.writing.specs.Steps.{Named}
use Rattle.writing.proofs.Overs.{ToCome}
use Rattle.writing.proofs.list_text.put_list.Given as goal

-- the rules to come have names, and their lines are what the text still lacks
abbrev pub invariant-loop-rule : goal.invariant-loop-rule
invariant-loop-rule l =
    AllByRecursion Named (drop l.rule-index l.rules)
    × ToCome l.pen (lined (map line_of (drop l.rule-index l.rules))) 0 l.initial.pen (lined (map line_of l.rules))
    × (l.pen.text.ghost_name ≡ l.initial.pen.text.ghost_name)
