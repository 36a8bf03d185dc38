-- The line of a rule by its items.
use Rattle.std.proofs.Common.{◌≡◌, ℕ, zero, suc, ◌+◌, ◌*◌, ◌≤◌, Bool, true, false, List, [], ◌∷◌, ◌++◌, length, Some, None, Option, sym, refl, subst, arith, length-append}
use Rattle.std.proofs.lemmas.Grind.{flat_map-append}
use Rattle.std.specs.Option.{option_to_list}
use Rattle.std.specs.List.{flat_map}
use Rattle.rules.specs.declared.rule.Rule.{Rule}
use Rattle.rulefile.specs.declared.grammar.Name.{Name}
use Rattle.rulefile.specs.declared.grammar.Item.{Item}
use Rattle.rulefile.specs.Items.{text, spelled, mark_of}
use Rattle.writing.specs.Written.{floor_item, post_item, condition_item, rising, written_items, line_of}
use Rattle.writing.specs.Steps.{HasRoom, Puts}
use Rattle.writing.specs.declared.pen.Pen.{Pen}
use Rattle.writing.proofs.Overs.{ToCome, all-to-come, to-come-more, to-come-none}

-- the line is its mark and its items
pub line-is : (t : Rule) → line_of t ≡ mark_of t.effect ∷ flat_map spelled (written_items t)
unfolding line_of
line-is t = refl

-- after the mark, the items are to come
pub items-to-come : (t : Rule) (p q : Pen) (m : ℕ) (is : List Item) → is ≡ written_items t → m ≡ mark_of t.effect → HasRoom p (length (line_of t) + 1) → Puts p (m ∷ []) q
    → ToCome q (flat_map spelled is) 1 p (line_of t)
unfolding line_of
items-to-come t p q m is e f room put =
    subst (λ is. ToCome q (flat_map spelled is) 1 p (line_of t)) (sym e)
    (to-come-more (mark_of t.effect ∷ []) (flat_map spelled (written_items t)) (all-to-come p (line_of t) 1 room) (subst (λ m. Puts p (m ∷ []) q) f put))

-- one item more
pub item-to-come : {p q start : Pen} {n : ℕ} {whole : List ℕ} (i : Item) (is js : List Item) → is ≡ i ∷ js → ToCome p (flat_map spelled is) n start whole → Puts p (spelled i) q
    → ToCome q (flat_map spelled js) n start whole
item-to-come {p} {q} {start} {n} {whole} i is js e t put =
    to-come-more (spelled i) (flat_map spelled js) (subst (λ is. ToCome p (flat_map spelled is) n start whole) e t) put

pub items_to_come_none : {p start : Pen} {n : ℕ} {whole : List ℕ} (is : List Item) → is ≡ [] → ToCome p (flat_map spelled is) n start whole → Puts start whole p
items_to_come_none {p} {start} {n} {whole} is e t = to-come-none (subst (λ is. ToCome p (flat_map spelled is) n start whole) e t)

-- An item has at most three bytes, so a line has few.
pub parted : (is js : List Item) → length (flat_map spelled (is ++ js)) ≡ length (flat_map spelled is) + length (flat_map spelled js)
parted is js = simp (flat_map-append, length-append)

short-option : (o : Option Item) → length (flat_map spelled (option_to_list o)) ≤ 3
short-option None = omega arith
short-option (Some i) = short i.barred i.name
  where
    short : (b : Bool) (x : Name) → length (text b x ++ []) ≤ 3
    short true x = omega arith
    short false x = omega arith

short-rising : (f : ℕ → Option Item) (n : ℕ) → length (flat_map spelled (rising f n)) ≤ 3 * n
unfolding rising
short-rising f zero = omega arith
short-rising f (suc n) =
    let few = short-rising f n in
    let one = short-option (f n) in
    let parts = parted (rising f n) (option_to_list (f n)) in omega arith

pub line-short : (t : Rule) → length (flat_map spelled (written_items t)) ≤ 54
line-short t =
    let floor = short-option (floor_item t) in
    let posts = short-rising (post_item t) 8 in
    let conditions = short-rising (condition_item t) 9 in
    let both = parted (rising (post_item t) 8) (rising (condition_item t) 9) in
    let all = parted (option_to_list (floor_item t)) (rising (post_item t) 8 ++ rising (condition_item t) 9) in omega arith
