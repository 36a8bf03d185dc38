-- A list that was read is lawful, and what is written of it is the text of that list.
use Rattle.std.proofs.Common.{◌≡◌, ℕ, zero, suc, ◌<◌, ◌≤◌, List, [], ◌∷◌, length, take, drop, Some, Ok, Err, Result, ap, ◌∙◌, subst, ⊎_elim, arith}
use Rattle.std.specs.List.{slice_get, AllByRecursion}
use Rattle.std.proofs.lemmas.List.{take_at}
use Rattle.rules.specs.declared.rule.Rule.{Rule}
use Rattle.rulefile.specs.declared.grammar.Listing.{Listing}
use Rattle.rulefile.specs.Files.{grammar, Answers}
use Rattle.writing.specs.declared.refusal.Unwritten.{Unwritten}
use Rattle.writing.specs.declared.refusal.Unwritten.TheVariants.{NoLine, NoRoom}
use Rattle.writing.specs.Writes.{Sayable, LawfulList, Writes}
use Rattle.writing.proofs.Shorter.{text-shortest}
use Rattle.writing.proofs.Texts.{read-lawful, read_back}
use Rattle.report.specs.declared.refusal.Refusal.{Refusal}
use Rattle.report.specs.declared.refusal.Refusal.TheVariants.{Text}
use Rattle.report.specs.Inputs.{Holds, Tidied}

nth-all : (P : Rule → Type 0) (xs : List Rule) (k : ℕ) (x : Rule) → AllByRecursion P xs → slice_get xs k ≡ Some x → P x
nth-all P [] k x h e = let z : ◌≡◌ {A = ℕ} 0 1 = cc in absurd (omega arith)
nth-all P (y ∷ ys) zero x h e = let s : y ≡ x = cc in subst P s h.0
nth-all P (y ∷ ys) (suc k) x h e = nth-all P ys k x h.1 e

-- What writing answers, as the answer of tidying.
abbrev pub in_tidy : Result ℕ Unwritten → Result ℕ Refusal
in_tidy (Ok count) = Ok count
in_tidy (Err u) = Err (Text u)

module _ (input : List ℕ) (slots slots' : List Rule) (text text' : List ℕ) (short : length input ≤ 32768) (l : Listing) (read : Answers 8 input slots (Ok l) slots') where
  ts : List Rule
  ts = read.1.0

  -- the slots that are written
  taken : take l.rules slots' ≡ ts
  unfolding ts
  taken =
      ap (λ xs. take l.rules xs) read.1.1.1.1.1
      ∙ take_at read.1.0 (drop (length read.1.0) slots) l.rules (let e = read.1.1.1.0 in omega arith)

  lawful : LawfulList 8 l.letter l.conditions ts
  unfolding ts
  lawful = read-lawful read.1.1.0

  held : Holds input slots slots' l.letter l.conditions ts
  unfolding ts
  held =
      record {
        short = short;
        list = read.1.1.0;
        few = read.1.1.1.1.0;
        slots-are = read.1.1.1.1.1;
        back = read_back 8 l.letter l.conditions ts (omega arith) (omega arith) lawful;
        no_longer = text-shortest read.1.1.0;
      }

  answered : (r : Result ℕ Unwritten) → Writes 8 l.letter l.conditions ts text r text' → Tidied input slots text (in_tidy r) slots' text'
  answered (Ok count) (_, (c, (room, (left, _)))) = (l.letter, (l.conditions, (ts, (held, (c, (room, left))))))
  answered (Err (NoLine k)) (first, _) =
      ⊎_elim (λ (many : (9 < l.conditions) × (k ≡ 0)). let few = lawful.0 in let m = many.0 in omega arith)
      (λ h. h.1.1.1.1 (nth-all (Sayable (grammar l.letter l.conditions 8)) ts k h.1.1.0 lawful.1 h.1.1.1.0)) first
  answered (Err (NoRoom needed)) (_, (e, (less, left))) = (l.letter, (l.conditions, (ts, (held, (e, (less, left))))))

  pub tidied : (r : Result ℕ Unwritten) → Writes 8 l.letter l.conditions (take l.rules slots') text r text' → Tidied input slots text (in_tidy r) slots' text'
  tidied r w = answered r (subst (λ us. Writes 8 l.letter l.conditions us text r text') taken w)
