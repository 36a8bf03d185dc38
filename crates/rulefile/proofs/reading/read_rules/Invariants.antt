use Rattle.std.proofs.Common.{◌≡◌, ◌+◌, ◌≤◌, List, length, drop}
use Rattle.lines.specs.Lines.{Span, Lines}
use Rattle.rulefile.proofs.Walk.{Sofar}
use Rattle.rulefile.proofs.reading.read_rules.Given as goal

-- the reader stays on its file, and the rules of the lines read so far stand in the first slots
abbrev pub invariant-loop-line : goal.invariant-loop-line
invariant-loop-line l =
    (l.line-iterator.file ≡ l.fn.lines.file)
    × (l.count ≤ length l.slots)
    × ((ls : List Span) → Lines (l.fn.lines.read + 1) l.fn.lines.at (drop l.fn.lines.at l.fn.lines.file.now) ls → Sofar l.grammar ls l.initial.slots l.line-iterator l.count l.slots)
