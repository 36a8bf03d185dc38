-- Which places of a rule line are at fault, and how.
use Rattle.std.specs.Prelude.{◌≡◌, ℕ, suc, ◌≤◌, Bool, true, false, ◌⊎◌, List, [], ◌∷◌, ◌++◌, length, Some, ◌≢◌}
use Rattle.std.specs.List.{flat_map, AllByRecursion}
use Rattle.rules.specs.declared.letter.Letter.TheVariants.{Guarded}
use Rattle.rulefile.specs.declared.grammar.Grammar.{Grammar}
use Rattle.rulefile.specs.declared.grammar.Name.{Name}
use Rattle.rulefile.specs.declared.grammar.Item.{Item}
use Rattle.rulefile.specs.Faults.{Kind, wrong-head, no-mark, not-due, out_of_range, repeated, not-allowed, no_slot, number}
use Rattle.rulefile.specs.Items.{name_of, Known, item, spelled, again, Within}

-- What stands of an item before a place: nothing yet, its space, or its space and a !.
pub data Begun : Type 0 where
  between : Begun
  spaced : Begun
  banged : Begun

abbrev pub begun : Begun → List ℕ
begun between = []
begun spaced = 32 ∷ []
begun banged = 32 ∷ (33 ∷ [])

abbrev pub barring : Begun → Bool
barring between = false
barring spaced = false
barring banged = true

-- The rest of the line begins as it may: between items with a space, or there is no more; after a space with a ! or a name; after a ! with a name.
abbrev pub Due : Begun → List ℕ → Type 0
Due between [] = Unit {0}
Due between (b ∷ rest) = b ≡ 32
Due spaced [] = ⊥
Due spaced (b ∷ rest) = (b ≡ 33) ⊎ ((x : Name) × (name_of b ≡ Some x))
Due banged [] = ⊥
Due banged (b ∷ rest) = (x : Name) × (name_of b ≡ Some x)

-- An item's name x stands first in the rest of the line.
abbrev pub Named : Begun → List ℕ → Name → Type 0
Named between rest x = ⊥
Named spaced [] x = ⊥
Named spaced (b ∷ rest) x = name_of b ≡ Some x
Named banged [] x = ⊥
Named banged (b ∷ rest) x = name_of b ≡ Some x

-- A ! stands first in the rest of the line, after an item's space.
abbrev pub Bang : Begun → List ℕ → Type 0
Bang between rest = ⊥
Bang spaced [] = ⊥
Bang spaced (b ∷ rest) = b ≡ 33
Bang banged rest = ⊥

-- After whole items, and what is begun of one more, the first byte of the rest, or the line's end, is at fault.
abbrev pub Amiss : Grammar → List Item → Begun → List ℕ → Kind → Type 0
Amiss g items part rest wrong-head = ⊥
Amiss g items part rest no-mark = ⊥
Amiss g items part rest not-due = Due part rest → ⊥
Amiss g items part rest out_of_range = (x : Name) × (Named part rest x × (Within g x → ⊥))
Amiss g items part rest repeated = (x : Name) × (Named part rest x × (again items (item (barring part) x) ≡ true))
Amiss g items part rest not-allowed = Bang part rest × (g.letter ≢ Guarded)
Amiss g items part rest no_slot = ⊥

-- In the line x, byte j, or the line's end where j is its length, is at fault: before it are the mark, whole items and what is begun of one more.
pub record InItems (g : Grammar) (x : List ℕ) (j : ℕ) (kind : Kind) : Type 0 where
  pub mark : ℕ
  pub items : List Item
  pub part : Begun
  pub rest : List ℕ
  pub known : AllByRecursion (λ i. Known i.name) items
  pub bytes : x ≡ mark ∷ (flat_map spelled items ++ (begun part ++ rest))
  pub place : j ≡ suc (length (flat_map spelled items ++ begun part))
  pub amiss : Amiss g items part rest kind

-- The first byte of the line x is at fault: it is no mark, or a - in a guarded list, or the rule has no slot.
abbrev pub AtMark : Grammar → Bool → List ℕ → Kind → Type 0
AtMark g room [] kind = ⊥
AtMark g room (b ∷ rest) wrong-head = ⊥
AtMark g room (b ∷ rest) no-mark = (b ≢ 43) × (b ≢ 45)
AtMark g room (b ∷ rest) not-due = ⊥
AtMark g room (b ∷ rest) out_of_range = ⊥
AtMark g room (b ∷ rest) repeated = ⊥
AtMark g room (b ∷ rest) not-allowed = (g.letter ≡ Guarded) × (b ≡ 45)
AtMark g room (b ∷ rest) no_slot = room ≡ false

-- Byte j of the rule line x, or its end, is at fault; `room` tells whether a slot is left for its rule.
abbrev pub Fault : Grammar → Bool → List ℕ → ℕ → Kind → Type 0
Fault g room x j kind = ((j ≡ 0) × AtMark g room x kind) ⊎ InItems g x j kind

-- The fault to report: no byte before it is at fault, and at its byte none has a lesser number.
abbrev pub FirstFault : Grammar → Bool → List ℕ → ℕ → Kind → Type 0
FirstFault g room x j kind =
    Fault g room x j kind × ((j' : ℕ) (kind' : Kind) → Fault g room x j' kind' → (j ≤ j') × (j ≡ j' → number kind ≤ number kind'))
