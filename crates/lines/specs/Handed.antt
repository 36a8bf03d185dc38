-- What the calls of this crate hand out, told by the lines of the file. A line is handed out as a part of the caller's own bytes: where a reference points is its block, `.ref_ptr.0`, and the byte in it, `.ref_ptr.1`.
use Rattle.std.specs.Prelude.{◌≡◌, ℕ, ◌+◌, ◌-◌, ◌<◌, ◌≤◌, ◌⊎◌, List, length, drop, Some, None, Option}
use Rattle.std.specs.Borrow.{Bor}
use Rattle.std.specs.List.{slice_get}
use Rattle.lines.specs.Lines.{Span, FirstLine, Lines}
use Rattle.lines.specs.declared.reader.Line.{Line}

-- The reference x is the line sp of the file: it has its bytes, and lies in the file where the line starts.
pub record PartOf (file : Bor (List ℕ)) (sp : Span) (x : Bor (List ℕ)) : Type 0 where
  pub bytes : x.now ≡ sp.bytes
  pub block : x.ref_ptr.0 ≡ file.ref_ptr.0
  pub byte : x.ref_ptr.1 ≡ file.ref_ptr.1 + sp.start

-- What is handed out as line k, counted from 1, of a file whose lines are ls: that line, or nothing where k is 0 or past the last line.
abbrev pub Handed : Bor (List ℕ) → List Span → ℕ → Option (Bor (List ℕ)) → Type 0
Handed file ls k None = (k ≡ 0) ⊎ (slice_get ls (k - 1) ≡ None)
Handed file ls k (Some x) = (sp : Span) × (0 < k) × (slice_get ls (k - 1) ≡ Some sp) × PartOf file sp x

-- Bytes split into lines in exactly one way.
abbrev pub OneSplit : List ℕ → Type 0
OneSplit xs = (ls : List Span) × Lines 1 0 xs ls × ((ms : List Span) → Lines 1 0 xs ms → ms ≡ ls)

-- The reader had read `read` lines and stood at the byte `at`; it hands out the line l from there, and stands at the byte at' with read' lines read.
pub record Stepped (file : Bor (List ℕ)) (read at : ℕ) (l : Line) (read' at' : ℕ) : Type 0 where
  pub first : FirstLine (drop at file.now) l.bytes.now (drop at' file.now)
  pub number : l.place.line ≡ read + 1
  pub start : l.place.offset ≡ at
  pub counted : read' ≡ read + 1
  pub onward : at < at'
  pub within : at' ≤ length file.now
  pub block : l.bytes.ref_ptr.0 ≡ file.ref_ptr.0
  pub byte : l.bytes.ref_ptr.1 ≡ file.ref_ptr.1 + at

-- What the reader answers from the byte `at` with `read` lines read, and how it moves: at the end of the file it hands out nothing and stays, else it hands out the next line.
abbrev pub NextLine : Bor (List ℕ) → ℕ → ℕ → Option Line → ℕ → ℕ → Type 0
NextLine file read at None read' at' = (length file.now ≤ at) × (read' ≡ read) × (at' ≡ at)
NextLine file read at (Some l) read' at' = Stepped file read at l read' at'
