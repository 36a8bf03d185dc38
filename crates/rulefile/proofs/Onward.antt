-- A reader goes on along its line by one item.
use Rattle.std.proofs.Common.{◌≡◌, ℕ, ◌+◌, ◌-◌, ◌<◌, List, [], ◌∷◌, length, Ok, Err, Result, sym, ap, subst, ap₂, arith}
use Rattle.rules.specs.declared.rule.Rule.{Rule}
use Rattle.lines.specs.declared.reader.Place.{Place}
use Rattle.rulefile.specs.declared.grammar.Grammar.{Grammar}
use Rattle.rulefile.specs.declared.grammar.Item.{Item}
use Rattle.rulefile.specs.declared.draft.Draft.{Draft}
use Rattle.rulefile.specs.declared.items.ItemReader.{ItemReader}
use Rattle.rulefile.specs.declared.faults.LineFault.{LineFault}
use Rattle.rulefile.specs.Faults.{place}
use Rattle.rulefile.specs.Steps.{at, ItemTaken, taken, item_read, with_item, ItemsRead, more}

-- the item that was read, and the draft with it
taken-ok : (d d' : Draft) (v : Result (Item × List ℕ) LineFault) (rest : List ℕ) → Ok (d', rest) ≡ taken d v → (i : Item) × ((v ≡ Ok (i, rest)) × (d' ≡ with_item d i))
taken-ok d d' (Ok (i, rest')) rest e =
    let p : ◌≡◌ {A = Draft × List ℕ} (d', rest) (with_item d i, rest') = cc in (i, (ap (λ v. Ok (i, v.1)) (sym p), ap (λ v. v.0) p))
taken-ok d d' (Err f) rest e = absurd (cc)

pub taken-err : (d : Draft) (v : Result (Item × List ℕ) LineFault) (f : LineFault) → Err f ≡ taken d v → v ≡ Err f
taken-err d (Ok v) f e = absurd (cc)
taken-err d (Err h) f e = let same : h ≡ f = cc in ap Err same

-- an item takes at least one byte
pub item-shorter : (g : Grammar) (d : Draft) (xs : List ℕ) (p : Place) (i : Item) (rest : List ℕ) → item_read g d xs p ≡ Ok (i, rest) → length rest < length xs
item-shorter g d [] p i rest e = grind arith
item-shorter g d (a ∷ []) p i rest e = grind arith
item-shorter g d (a ∷ (b ∷ [])) p i rest e = grind arith
item-shorter g d (a ∷ (b ∷ (c ∷ xs))) p i rest e = grind arith

-- What the bytes after an item give, with the item in the draft, the bytes from that item on give.
pub onward : (s t : ItemReader) (u : Unit {0}) (r : Result Rule LineFault) → ItemTaken s (Ok u) t (item_read s.grammar s.draft s.rest.now (at s))
    → ItemsRead t.grammar t.draft t.rest.now (at t) r → ItemsRead s.grammar s.draft s.rest.now (at s) r
onward s t u r taken h =
    let k = taken.kept in
    let (i, (v, d)) = taken-ok s.draft t.draft (item_read s.grammar s.draft s.rest.now (at s)) t.rest.now taken.value in
    let less = item-shorter s.grammar s.draft s.rest.now (at s) i t.rest.now v in
    let within = s.within in
    let end = k.end in
    let offset : t.end - length t.rest.now ≡ (s.end - length s.rest.now) + (length s.rest.now - length t.rest.now) = omega arith in
    more i t.rest.now v
    (subst (λ p. ItemsRead s.grammar (with_item s.draft i) t.rest.now p r) (ap₂ place k.line offset)
    (subst (λ g. ItemsRead g (with_item s.draft i) t.rest.now (at t) r) k.grammar (subst (λ d. ItemsRead t.grammar d t.rest.now (at t) r) d h)))
