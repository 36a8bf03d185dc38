-- The kinds of fault that a rule file can have, the number of each, and the kind and place that each fault of the code stands for.
use Rattle.std.specs.Prelude.{ℕ}
use Rattle.lines.specs.declared.reader.Place.{Place}
use Rattle.rulefile.specs.declared.faults.ItemFault.{ItemFault}
use Rattle.rulefile.specs.declared.faults.ItemFault.TheVariants.{NotDue, OutOfRange}
use Rattle.rulefile.specs.declared.faults.LineFault.{LineFault}
use Rattle.rulefile.specs.declared.faults.LineFault.TheVariants.{Item, NoMark, Repeated, NotAllowed}
use Rattle.rulefile.specs.declared.faults.FileFault.{FileFault}
use Rattle.rulefile.specs.declared.faults.FileFault.TheVariants.{Line, WrongHead, NoSlot}

pub data Kind : Type 0 where
  wrong-head : Kind
  no-mark : Kind
  not-due : Kind
  out_of_range : Kind
  repeated : Kind
  not-allowed : Kind
  no_slot : Kind

abbrev pub number : Kind → ℕ
number wrong-head = 1
number no-mark = 2
number not-due = 3
number out_of_range = 4
number repeated = 5
number not-allowed = 6
number no_slot = 7

abbrev pub place : ℕ → ℕ → Place
place line offset = record { line = line; offset = offset }

abbrev pub item_kind : ItemFault → Kind
item_kind (NotDue p) = not-due
item_kind (OutOfRange p) = out_of_range

abbrev pub line_kind : LineFault → Kind
line_kind (Item f) = item_kind f
line_kind (NoMark p) = no-mark
line_kind (Repeated p) = repeated
line_kind (NotAllowed p) = not-allowed

abbrev pub kind_of : FileFault → Kind
kind_of (Line f) = line_kind f
kind_of WrongHead = wrong-head
kind_of (NoSlot p) = no_slot

abbrev pub item_place : ItemFault → Place
item_place (NotDue p) = p
item_place (OutOfRange p) = p

abbrev pub line_place : LineFault → Place
line_place (Item f) = item_place f
line_place (NoMark p) = p
line_place (Repeated p) = p
line_place (NotAllowed p) = p

-- A wrong first line is reported at its first byte.
abbrev pub place_of : FileFault → Place
place_of (Line f) = line_place f
place_of WrongHead = place 1 0
place_of (NoSlot p) = p
