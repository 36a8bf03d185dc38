-- What the inner functions of the reader answer, item by item.
use Rattle.std.specs.Prelude.{◌≡◌, ℕ, ◌+◌, ◌-◌, ◌^◌, ◌<◌, ◌≤◌, Bool, true, false, cond, not, ◌&&◌, ◌||◌, List, [], ◌∷◌, length, take, Some, None, Ok, Err, Option, Result, ◌==◌, bit_or, nat_le, nat_lt}
use Rattle.std.specs.List.{slice_get}
use Rattle.std.specs.Option.{unwrap_or}
use Rattle.ladders.specs.Sets.{holds}
use Rattle.lines.specs.Lines.{Span}
use Rattle.lines.specs.declared.reader.Line.{Line}
use Rattle.lines.specs.declared.reader.Place.{Place}
use Rattle.rules.specs.declared.rule.Effect.{Effect}
use Rattle.rules.specs.declared.rule.Effect.TheVariants.{Permit, Deny}
use Rattle.rules.specs.declared.rule.Rule.{Rule}
use Rattle.rules.specs.Filled.{filled}
use Rattle.rules.specs.declared.letter.Letter.{Letter}
use Rattle.rules.specs.declared.letter.Letter.TheVariants.{Guarded, Model}
use Rattle.rules.specs.declared.letter.Model.TheVariants.{A, B, C, D}
use Rattle.rulefile.specs.declared.grammar.Grammar.{Grammar}
use Rattle.rulefile.specs.declared.grammar.Name.{Name}
use Rattle.rulefile.specs.declared.grammar.Name.TheVariants.{Condition, Post}
use Rattle.rulefile.specs.declared.grammar.Item.{Item}
use Rattle.rulefile.specs.declared.draft.Draft.{Draft}
use Rattle.rulefile.specs.declared.items.ItemReader.{ItemReader}
use Rattle.rulefile.specs.declared.faults.ItemFault.{ItemFault}
use Rattle.rulefile.specs.declared.faults.ItemFault.TheVariants.{NotDue, OutOfRange}
use Rattle.rulefile.specs.declared.faults.LineFault.{LineFault}
use Rattle.rulefile.specs.declared.faults.LineFault.TheVariants.{Item as InItem, NoMark, Repeated, NotAllowed}
use Rattle.rulefile.specs.declared.faults.FileFault.{FileFault}
use Rattle.rulefile.specs.Faults.{kind_of, place, place_of}
use Rattle.rulefile.specs.Items.{name_of, item}
use Rattle.rulefile.specs.Faulty.{FirstFault}
use Rattle.rulefile.specs.RuleLines.{silent}
use Rattle.rulefile.specs.Files.{Say}

abbrev pub fresh : Effect → Draft
fresh e = record { effect = e; needed = 0; barred = 0; floor = None; barred_posts = 0 }

-- the floor so far is told, and the digit p, plain or barred, repeats it
abbrev pub repeats_floor : Option ℕ → Bool → ℕ → Bool
repeats_floor None barred p = false
repeats_floor (Some q) barred p = not barred || q == p

abbrev pub repeats_name : Draft → Bool → Name → Bool
repeats_name d barred (Condition c) = holds d.needed c || holds d.barred c
repeats_name d barred (Post p) = repeats_floor d.floor barred p || holds d.barred_posts p

abbrev pub repeats : Draft → Item → Bool
repeats d i = repeats_name d i.barred i.name

abbrev pub with_name : Draft → Bool → Name → Draft
with_name d true (Condition c) =
    record { effect = d.effect; needed = d.needed; barred = bit_or d.barred (2 ^ c); floor = d.floor; barred_posts = d.barred_posts }
with_name d false (Condition c) =
    record { effect = d.effect; needed = bit_or d.needed (2 ^ c); barred = d.barred; floor = d.floor; barred_posts = d.barred_posts }
with_name d true (Post p) =
    record { effect = d.effect; needed = d.needed; barred = d.barred; floor = d.floor; barred_posts = bit_or d.barred_posts (2 ^ p) }
with_name d false (Post p) =
    record { effect = d.effect; needed = d.needed; barred = d.barred; floor = Some p; barred_posts = d.barred_posts }

abbrev pub with_item : Draft → Item → Draft
with_item d i = with_name d i.barred i.name

abbrev pub finished : Draft → Rule
finished d =
    record { effect = d.effect; needed = d.needed; barred = d.barred; floor = unwrap_or d.floor 0; barred_posts = d.barred_posts }

abbrev pub is_guarded : Letter → Bool
is_guarded Guarded = true
is_guarded (Model m) = false

abbrev pub within : Grammar → Name → Bool
within g (Condition c) = nat_lt c g.conditions
within g (Post p) = nat_lt p g.posts

-- a name, where there is one and it is in range
abbrev pub known_name : Grammar → Option Name → Place → Result Name ItemFault
known_name g None p = Err (NotDue p)
known_name g (Some x) p = cond (within g x) (Ok x) (Err (OutOfRange p))

abbrev pub with_rest : {X E : Type 0} → List ℕ → Result X E → Result (X × List ℕ) E
with_rest rest (Ok x) = Ok (x, rest)
with_rest rest (Err e) = Err e

abbrev pub name_read : Grammar → List ℕ → Place → Result (Name × List ℕ) ItemFault
name_read g [] p = Err (NotDue p)
name_read g (b ∷ rest) p = with_rest rest (known_name g (name_of b) p)

-- the item of a name that was read, unless it repeats another
abbrev pub item_of : Draft → Bool → Place → Result (Name × List ℕ) ItemFault → Result (Item × List ℕ) LineFault
item_of d barred p (Ok v) = cond (repeats d (item barred v.0)) (Err (Repeated p)) (Ok (item barred v.0, v.1))
item_of d barred p (Err e) = Err (InItem e)

abbrev pub new_item : Grammar → Draft → Bool → List ℕ → Place → Result (Item × List ℕ) LineFault
new_item g d barred xs p = item_of d barred p (name_read g xs p)

abbrev pub next_place : Place → Place
next_place p = place p.line (p.offset + 1)

abbrev pub after_bang : Grammar → Draft → List ℕ → Place → Result (Item × List ℕ) LineFault
after_bang g d rest p = cond (is_guarded g.letter) (new_item g d true rest (next_place p)) (Err (NotAllowed p))

abbrev pub after_space : Grammar → Draft → List ℕ → Place → Result (Item × List ℕ) LineFault
after_space g d [] p = Err (InItem (NotDue p))
after_space g d (b ∷ rest) p = cond (b == 33) (after_bang g d rest p) (new_item g d false (b ∷ rest) p)

abbrev pub item_read : Grammar → Draft → List ℕ → Place → Result (Item × List ℕ) LineFault
item_read g d [] p = Err (InItem (NotDue p))
item_read g d (b ∷ rest) p = cond (b == 32) (after_space g d rest (next_place p)) (Err (InItem (NotDue p)))

-- with the draft of the items so far, the bytes from the place p on give r
pub data ItemsRead (g : Grammar) : Draft → List ℕ → Place → Result Rule LineFault → Type 0 where
  end : {d : Draft} {xs : List ℕ} {p : Place} → length xs ≡ 0 → ItemsRead g d xs p (Ok (finished d))
  bad : {d : Draft} {xs : List ℕ} {p : Place} {e : LineFault} → 0 < length xs → item_read g d xs p ≡ Err e → ItemsRead g d xs p (Err e)
  more : {d : Draft} {xs : List ℕ} {p : Place} {r : Result Rule LineFault} (i : Item) (rest : List ℕ) → item_read g d xs p ≡ Ok (i, rest)
      → ItemsRead g (with_item d i) rest (place p.line (p.offset + (length xs - length rest))) r → ItemsRead g d xs p r

-- the place of the first byte that the reader has left
abbrev pub at : ItemReader → Place
at s = place s.line (s.end - length s.rest.now)

-- the reader went on along the same line
pub record Kept (s t : ItemReader) : Type 0 where
  pub grammar : t.grammar ≡ s.grammar
  pub line : t.line ≡ s.line
  pub end : t.end ≡ s.end

-- where an item was read, the reader's draft and rest then
abbrev pub told : ItemReader → Result (Unit {0}) LineFault → Result (Draft × List ℕ) LineFault
told t (Ok u) = Ok (t.draft, t.rest.now)
told t (Err e) = Err e

-- the item that was read joins the draft
abbrev pub taken : Draft → Result (Item × List ℕ) LineFault → Result (Draft × List ℕ) LineFault
taken d (Ok v) = Ok (with_item d v.0, v.1)
taken d (Err e) = Err e

-- the reader s read an item, or found one at fault, as `read` tells, and is then t
pub record ItemTaken (s : ItemReader) (r : Result (Unit {0}) LineFault) (t : ItemReader) (read : Result (Item × List ℕ) LineFault) : Type 0 where
  pub kept : Kept s t
  pub value : told t r ≡ taken s.draft read

-- the effect that a mark stands for
abbrev pub mark_read : Grammar → ℕ → Place → Result Effect LineFault
mark_read g b p =
    cond (b == 43) (Ok Permit) (cond (b == 45) (cond (is_guarded g.letter) (Err (NotAllowed p)) (Ok Deny)) (Err (NoMark p)))

-- the line l begins a rule, and the reader s stands after its mark
pub record Opened (g : Grammar) (l : Line) (s : ItemReader) : Type 0 where
  pub mark : ℕ
  pub effect : Effect
  pub bytes : l.bytes.now ≡ mark ∷ s.rest.now
  pub loud : (mark == 35) ≡ false
  pub read : mark_read g mark l.place ≡ Ok effect
  pub grammar : s.grammar ≡ g
  pub draft : s.draft ≡ fresh effect
  pub place : at s ≡ next_place l.place

-- the line l begins with a wrong mark
pub record Unopened (g : Grammar) (l : Line) (f : LineFault) : Type 0 where
  pub mark : ℕ
  pub rest : List ℕ
  pub bytes : l.bytes.now ≡ mark ∷ rest
  pub loud : (mark == 35) ≡ false
  pub read : mark_read g mark l.place ≡ Err f

-- what the line l says before its items
abbrev pub Begins : Grammar → Line → Result (Option ItemReader) LineFault → Type 0
Begins g l (Ok None) = silent l.bytes.now ≡ true
Begins g l (Ok (Some s)) = Opened g l s
Begins g l (Err f) = Unopened g l f

abbrev pub digit_of : ℕ → Option ℕ
digit_of b = cond (nat_le 48 b && nat_le b 57) (Some (b - 48)) None

abbrev pub letter_of : ℕ → Option Letter
letter_of b =
    cond (b == 71) (Some Guarded)
    (cond (b == 65) (Some (Model A)) (cond (b == 66) (Some (Model B)) (cond (b == 67) (Some (Model C)) (cond (b == 68) (Some (Model D)) None))))

abbrev pub both : Option Letter → Option ℕ → Option (Letter × ℕ)
both None d = None
both (Some l) None = None
both (Some l) (Some n) = Some (l, n)

-- the letter and the digit of a first line
abbrev pub head_of : List ℕ → Option (Letter × ℕ)
head_of [] = None
head_of (a ∷ []) = None
head_of (a ∷ (s ∷ [])) = None
head_of (a ∷ (s ∷ (d ∷ []))) = cond (s == 32) (both (letter_of a) (digit_of d)) None
head_of (a ∷ (s ∷ (d ∷ (e ∷ rest)))) = None

-- the lines ls are read into the slots up to line m, which is at fault
pub record Stopped (g : Grammar) (ls : List Span) (slots : List Rule) (f : FileFault) (slots' : List Rule) : Type 0 where
  pub m : ℕ
  pub line : Span
  pub here : slice_get ls m ≡ Some line
  pub loud : silent line.bytes ≡ false
  pub ts : List Rule
  pub says : Say g (take m ls) ts
  pub few : length ts ≤ length slots
  pub left : slots' ≡ filled ts slots
  pub byte : ℕ
  pub place_is : place_of f ≡ place line.number (line.start + byte)
  pub first : FirstFault g (nat_lt (length ts) (length slots)) line.bytes byte (kind_of f)

-- what the lines ls give, read into the slots
abbrev pub RestSays : Grammar → List Span → List Rule → Result ℕ FileFault → List Rule → Type 0
RestSays g ls slots (Ok count) slots' =
    (ts : List Rule) × (Say g ls ts × ((count ≡ length ts) × ((length ts ≤ length slots) × (slots' ≡ filled ts slots))))
RestSays g ls slots (Err f) slots' = Stopped g ls slots f slots'
