-- The text of a list is at most one byte longer than any file that holds the list.
use Rattle.std.proofs.Common.{◌≡◌, ℕ, suc, ◌+◌, ◌≤◌, Bool, true, false, cond, not, ◌&&◌, eqb, List, [], ◌∷◌, ◌++◌, map, length, refl, sym, ap, ◌∙◌, ap₂, subst, ⊎_elim, arith, length-append}
use mathlib.Core.Bool.{and-false}
use Rattle.std.specs.List.{flat_map}
use Rattle.std.proofs.lemmas.Bool.{both_ways, cases_Bool, eq-eqb, or_cases, or_left, or_right, and_parts, not-true}
use Rattle.std.proofs.lemmas.Bool.Decides.{nat_tests}
use Rattle.lines.specs.Lines.{Span, Lines, none, more}
use Rattle.lines.proofs.Split.{lines-cases, first-cases, no-first}
use Rattle.rules.specs.declared.rule.Rule.{Rule}
use Rattle.rules.specs.declared.letter.Letter.{Letter}
use Rattle.rulefile.specs.declared.grammar.Grammar.{Grammar}
use Rattle.rulefile.specs.declared.grammar.Name.{Name}
use Rattle.rulefile.specs.declared.grammar.Name.TheVariants.{Condition, Post}
use Rattle.rulefile.specs.declared.grammar.Item.{Item}
use Rattle.rulefile.specs.Items.{any, same_name, text, spelled, Known, Within, Follow, Means, Spells}
use Rattle.rulefile.specs.Files.{grammar, Say, nothing, silence, a-rule, ByGrammar}
use Rattle.writing.specs.Written.{written_items, line_of, lined, written}
use Rattle.writing.specs.Steps.{CanSay}
use Rattle.writing.proofs.Lines.{line-is}
use Rattle.writing.proofs.Orderly.{any_append, written-follows, written-means, floor-part}
use Rattle.writing.proofs.Sayings.{same-name, named-before, tested-named, floor-named, can-say}

abbrev weight : List Item → ℕ
weight is = length (flat_map spelled is)

abbrev same : Bool → Bool → Bool
same true b = b
same false b = not b

-- an item with this bar and this name
abbrev test : Bool → Name → Item → Bool
test b y i = same b i.barred && same_name i.name y

same-bar : (b c : Bool) → same b c ≡ true → c ≡ b
same-bar true c e = e
same-bar false c e = not-true c e

same-self : (b : Bool) → same b b ≡ true
same-self true = refl
same-self false = refl

name-self : (y : Name) → same_name y y ≡ true
name-self (Condition c) = eq-eqb c c refl
name-self (Post p) = eq-eqb p p refl

-- the items with other names
abbrev others : Name → List Item → List Item
others y [] = []
others y (i ∷ is) = cond (same_name i.name y) (others y is) (i ∷ others y is)

weight-more : (i : Item) (is : List Item) → weight (i ∷ is) ≡ length (spelled i) + weight is
weight-more i is = length-append (spelled i) (flat_map spelled is)

others-weight : (y : Name) (i : Item) (is : List Item) → weight (others y (i ∷ is)) ≤ length (spelled i) + weight (others y is)
others-weight y i is =
    by (same_name i.name y)
  where
    by : (b : Bool) → weight (cond b (others y is) (i ∷ others y is)) ≤ length (spelled i) + weight (others y is)
    by true = omega arith
    by false = let e = weight-more i (others y is) in omega arith

lighter : (y : Name) (is : List Item) → weight (others y is) ≤ weight is
lighter y [] = omega arith
lighter y (i ∷ is) = let one = others-weight y i is in let rest = lighter y is in let e = weight-more i is in omega arith

-- without the items of a name, one of which is there, there is less
without : (b : Bool) (y : Name) (is : List Item) → any (test b y) is ≡ true → weight (others y is) + length (text b y) ≤ weight is
without b y [] e = absurd (both_ways false refl e)
without b y (i ∷ is) e =
    let whole = weight-more i is in
    ⊎_elim
    (λ (p : test b y i ≡ true).
    let both = and_parts (same b i.barred) (same_name i.name y) p in
    let gone : others y (i ∷ is) ≡ others y is = ap (λ b. cond b (others y is) (i ∷ others y is)) both.1 in
    let long : length (spelled i) ≡ length (text b y) = ap₂ (λ b y. length (text b y)) (same-bar b i.barred both.0) (same-name i.name y both.1) in
    let less = lighter y is in
    let left = ap weight gone in omega arith)
    (λ (p : any (test b y) is ≡ true). let rest = without b y is p in let one = others-weight y i is in omega arith)
    (or_cases (test b y i) (any (test b y) is) e)

-- what passes and has another name is still there
still : (f : Item → Bool) (y : Name) (is : List Item) → ((i : Item) → f i ≡ true → same_name i.name y ≡ false) → any f is ≡ true → any f (others y is) ≡ true
still f y [] apart e = e
still f y (i ∷ is) apart e =
    ⊎_elim
    (λ (p : f i ≡ true). ap (λ b. any f (cond b (others y is) (i ∷ others y is))) (apart i p) ∙ or_left (f i) (any f (others y is)) p)
    (λ (p : any f is ≡ true). by (same_name i.name y) (still f y is apart p))
    (or_cases (f i) (any f is) e)
  where
    by : (b : Bool) → any f (others y is) ≡ true → any f (cond b (others y is) (i ∷ others y is)) ≡ true
    by true e = e
    by false e = or_right (f i) (any f (others y is)) e

-- Items that follow one another, each of which is among others, are no longer.
no-longer : (g : Grammar) (before ws is : List Item) → Follow g before ws → ((b : Bool) (y : Name) → any (test b y) ws ≡ true → any (test b y) is ≡ true) → weight ws ≤ weight is
no-longer g before [] is f each = omega arith
no-longer g before (w ∷ ws) is f each =
    let bar = same-self w.barred in
    let name = name-self w.name in
    let here = without w.barred w.name is (each w.barred w.name (grind (arith, nat_tests))) in
    let rest = no-longer g (before ++ (w ∷ [])) ws (others w.name is) f.1
    (λ b y e. still (test b y) w.name is (λ i p. apart b y i p e) (each b y (or_right (test b y w) (any (test b y) ws) e))) in
    let whole = weight-more w ws in omega arith
  where
    -- what is named later has another name
    apart : (b : Bool) (y : Name) (i : Item) → test b y i ≡ true → any (test b y) ws ≡ true → same_name i.name w.name ≡ false
    apart b y i p e =
        let longer = any_append (λ j. same_name j.name w.name) before (w ∷ []) in
        let self = name-self w.name in
        ⊎_elim
        (λ (s : same_name i.name w.name ≡ true).
        let y-is : y ≡ w.name = sym (same-name i.name y (and_parts (same b i.barred) (same_name i.name y) p).1) ∙ same-name i.name w.name s in
        absurd (named-before g w.name (before ++ (w ∷ [])) ws f.1 (grind (arith, nat_tests)) (subst (λ y. any (λ j. same_name j.name y) ws ≡ true) y-is (tested-named (λ j. same b j.barred) y ws e))))
        (λ (s : same_name i.name w.name ≡ false). s)
        (cases_Bool (same_name i.name w.name))

-- Every name with a letter or a digit is in range where there are nine conditions and eight posts.
widest : (g : Grammar) (before is : List Item) → Follow g before is → Follow (grammar g.letter 9 8) before is
widest g before [] f = tt
widest g before (i ∷ is) f =
    (record { known = f.0.known; within = in-range i.name f.0.known; new = f.0.new; bar = f.0.bar }, widest g (before ++ (i ∷ [])) is f.1)
  where
    in-range : (y : Name) → Known y → Within (grammar g.letter 9 8) y
    in-range (Condition c) h = h
    in-range (Post p) h = h

-- The line that is written is no longer than any that gives the rule.
pub line-shortest : (g : Grammar) (x : List ℕ) (t : Rule) → Spells g x t → length (line_of t) ≤ length x
line-shortest g x t s =
    let items = no-longer g9 [] (written_items t) s.items (written-follows g9 t (omega arith) (omega arith) can) among in
    let a = ap length s.bytes in
    let b = ap length (line-is t) in omega arith
  where
    g9 : Grammar
    g9 = grammar g.letter 9 8

    can : CanSay g9 t
    can = can-say g9 t (omega arith) s.items (widest g [] s.items s.follow) s.means s.mark

    wide : Means (written_items t) t
    wide = written-means g9 t (omega arith) (omega arith) can

    among : (b : Bool) (y : Name) → any (test b y) (written_items t) ≡ true → any (test b y) s.items ≡ true
    among true (Condition c) e = sym (s.means.barred c) ∙ wide.barred c ∙ e
    among true (Post p) e = sym (s.means.posts p) ∙ wide.posts p ∙ e
    among false (Condition c) e = sym (s.means.needed c) ∙ wide.needed c ∙ e
    among false (Post p) e =
        let named = (and_parts (not (eqb t.floor 0)) (eqb t.floor p) (sym (floor-part g9 t (omega arith) (omega arith) can (test false (Post p)) (λ b _. and-false (not b)) (λ q. refl)) ∙ e)).0 in
        subst (λ q. any (test false (Post q)) s.items ≡ true) (wide.floor p e) (floor-named s.items t s.means (λ z. both_ways (eqb t.floor 0) (not-true (eqb t.floor 0) named) (eq-eqb t.floor 0 z)))

-- the bytes of lines, each with one that ends it
abbrev ended-length : List Span → ℕ
ended-length [] = 0
ended-length (l ∷ ls) = length l.bytes + 1 + ended-length ls

lines-length : {k s : ℕ} {xs : List ℕ} {ls : List Span} → Lines k s xs ls → ended-length ls ≤ length xs + 1
lines-length none = omega arith
lines-length (more {xs = xs} {x = x} {ys = ys} {ls = ls} f l) =
    ⊎_elim
    (λ a. let e : length xs ≡ length x + suc (length ys) = ap length a.1 ∙ length-append x (10 ∷ ys) in let r = lines-length l in omega arith)
    (λ a.
    let e : length xs ≡ length x = ap length a.2 in
    let last : ls ≡ [] = ⊎_elim (λ b. b.1) (λ b. absurd (no-first b.3 a.3)) (lines-cases l) in
    let z : ended-length ls ≡ 0 = ap ended-length last in omega arith)
    (first-cases f)

said-length : {g : Grammar} {ls : List Span} {ts : List Rule} → Say g ls ts → length (lined (map line_of ts)) ≤ ended-length ls
said-length nothing = omega arith
said-length (silence h s) = let le = said-length s in omega arith
said-length {g} (a-rule {l} {t = t} {ts = ts} h s) =
    let le = said-length s in
    let line = line-shortest g l.bytes t h in
    let e = length-append (line_of t) (10 ∷ lined (map line_of ts)) in omega arith

pub text-shortest : {posts : ℕ} {file : List ℕ} {letter : Letter} {n : ℕ} {ts : List Rule} → ByGrammar posts file letter n ts → length (written letter n ts) ≤ length file + 1
text-shortest b =
    let whole = lines-length b.lines in let rules = said-length b.says in let head = ap length b.head.1 in omega arith
