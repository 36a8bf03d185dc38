-- The lines of a file. A line ends at byte 10; the last one counts with or without it, and an ending byte 10 starts no further line.
use Rattle.std.specs.Prelude.{ℕ, suc, ◌+◌, ◌-◌, ◌<◌, List, [], ◌∷◌, ◌++◌, length, ◌≢◌}
use Rattle.std.specs.List.{AllByRecursion}

-- A line: its number, counted from 1, the offset of its first byte in the file, and its bytes without the end.
pub record Span : Type 0 where
  pub number : ℕ
  pub start : ℕ
  pub bytes : List ℕ

abbrev pub span : ℕ → ℕ → List ℕ → Span
span k s x = record { number = k; start = s; bytes = x }

-- No byte of x ends a line.
abbrev pub Unbroken : List ℕ → Type 0
Unbroken x = AllByRecursion (λ b. b ≢ 10) x

-- The first line of the bytes xs is x, and ys is what follows its end: either byte 10 ends it, or the file does.
pub data FirstLine : List ℕ → List ℕ → List ℕ → Type 0 where
  ended : {x ys : List ℕ} → Unbroken x → FirstLine (x ++ (10 ∷ ys)) x ys
  cut_off : {x : List ℕ} → 0 < length x → Unbroken x → FirstLine x x []

-- The lines of the bytes xs, of which the first line has the number k and the offset s.
pub data Lines : ℕ → ℕ → List ℕ → List Span → Type 0 where
  none : {k s : ℕ} → Lines k s [] []
  more : {k s : ℕ} {xs x ys : List ℕ} {ls : List Span} → FirstLine xs x ys → Lines (suc k) (s + (length xs - length ys)) ys ls → Lines k s xs (span k s x ∷ ls)
