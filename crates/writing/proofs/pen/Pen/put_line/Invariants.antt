use Rattle.std.specs.List.{AllByRecursion, flat_map}
use Rattle.rulefile.specs.Items.{Known, spelled}
use Rattle.writing.specs.Written.{line_of}
use Rattle.writing.specs.Steps.{items_left}
use Rattle.writing.proofs.Overs.{ToCome}
use Rattle.writing.proofs.pen.Pen.put_line.Given as goal

-- the items to come have names, and are what the line still lacks
abbrev pub invariant-loop-item : goal.invariant-loop-item
invariant-loop-item l =
    (goal.iterator-loop-item).can_next l.item-iterator
    × (goal.iterator-loop-item).is_finite l.item-iterator
    × AllByRecursion (λ i. Known i.name) (items_left l.item-iterator)
    × ToCome l.self (flat_map spelled (items_left l.item-iterator)) 1 l.fn.self (line_of l.rule)
