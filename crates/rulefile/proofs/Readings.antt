-- A line by the grammar has no fault, and gives one rule.
use Rattle.std.proofs.Common.{◌≡◌, ℕ, suc, ◌<◌, ◌≤◌, Bool, true, false, not, ◌&&◌, ◌||◌, eqb, List, [], ◌∷◌, ◌++◌, length, sym, refl, ap, ◌∙◌, subst, ap₂, inl, inr, ⊎_elim, append_assoc, append-nil, arith, length-append}
use mathlib.Core.Bool.{or-true}
use Rattle.std.specs.List.{flat_map, AllByRecursion}
use Rattle.std.proofs.lemmas.Bool.{both_ways, eq-eqb, or_cases, cases_Bool}
use Rattle.ladders.proofs.Sets.{bits-same}
use Rattle.rules.specs.declared.rule.Effect.{Effect}
use Rattle.rules.specs.declared.rule.Effect.TheVariants.{Permit, Deny}
use Rattle.rules.specs.declared.rule.Rule.{Rule}
use Rattle.rulefile.specs.declared.grammar.Grammar.{Grammar}
use Rattle.rulefile.specs.declared.grammar.Name.{Name}
use Rattle.rulefile.specs.declared.grammar.Name.TheVariants.{Condition, Post}
use Rattle.rulefile.specs.declared.grammar.Item.{Item}
use Rattle.rulefile.specs.Faults.{Kind}
use Rattle.rulefile.specs.Items.{Known, item, spelled, any, is_post, digit, plain_digit, Means, mark_of, Spells}
use Rattle.rulefile.specs.Faulty.{between, begun, Amiss, AtMark, Fault}
use Rattle.rulefile.specs.RuleLines.{silent}
use Rattle.rulefile.proofs.Places.{by_kind, first-place}
use Rattle.rulefile.proofs.LineLaw.{follow-known, marked}
use Rattle.rulefile.proofs.Spelling.{text_same}

-- the end of the line between items is not at fault
end-due : (g : Grammar) (is : List Item) (kind : Kind) → Amiss g is between [] kind → ⊥
end-due g is = by_kind g is between [] (λ _. ⊥) (λ h. h tt) (λ x n w. n) (λ x n w. n) (λ n w. n)

pub faultless : (g : Grammar) (room : Bool) (x : List ℕ) (t : Rule) (j : ℕ) (kind : Kind) → Spells g x t → room ≡ true → Fault g room x j kind → ⊥
faultless g room x t j kind s full (inl (z, h)) =
    both_ways room (marked g room (mark_of t.effect) (flat_map spelled s.items) t.effect kind refl s.mark (subst (λ xs. AtMark g room xs kind) s.bytes h)).0 full
faultless g room x t j kind s full (inr w) =
    let b = s.bytes in
    let c = w.bytes in
    let whole : flat_map spelled s.items ≡ flat_map spelled w.items ++ (begun w.part ++ w.rest) = cc in
    let e : flat_map spelled s.items ++ (begun between ++ []) ≡ flat_map spelled w.items ++ (begun w.part ++ w.rest) = append-nil (flat_map spelled s.items) ∙ whole in
    ⊎_elim
    (λ (lt : length (flat_map spelled s.items ++ []) < length (flat_map spelled w.items ++ begun w.part)).
    let l = ap length whole ∙ ap length (sym (append_assoc (flat_map spelled w.items) (begun w.part) w.rest)) ∙ length-append (flat_map spelled w.items ++ begun w.part) w.rest in
    let n = ap length (append-nil (flat_map spelled s.items)) in omega arith)
    (λ (p : (s.items ≡ w.items) × ((between ≡ w.part) × ([] ≡ w.rest))).
    end-due g w.items kind (subst (λ xs. Amiss g w.items between xs kind) (sym p.1.1) (subst (λ a. Amiss g w.items a w.rest kind) (sym p.1.0) w.amiss)))
    (first-place g [] s.items between [] w.items w.part w.rest kind s.follow tt w.known e w.amiss)

-- a place at fault lies in the line, or at its end
pub fault-within : (g : Grammar) (room : Bool) (x : List ℕ) (j : ℕ) (kind : Kind) → Fault g room x j kind → j ≤ length x
fault-within g room x j kind (inl (z, h)) = omega arith
fault-within g room x j kind (inr w) =
    let l = ap length w.bytes ∙ ap (λ xs. suc (length xs)) (sym (append_assoc (flat_map spelled w.items) (begun w.part) w.rest)) in
    let n = length-append (flat_map spelled w.items ++ begun w.part) w.rest in
    let p = w.place in omega arith

pub spells-loud : (g : Grammar) (x : List ℕ) (t : Rule) → Spells g x t → silent x ≡ false
spells-loud g x t s = ap silent s.bytes ∙ loud t.effect
  where
    loud : (e : Effect) → eqb (mark_of e) 35 ≡ false
    loud Permit = refl
    loud Deny = refl

no_text : (b : Bool) (x : Name) (xs : List ℕ) → [] ≡ spelled (item b x) ++ xs → ⊥
no_text true x xs e = cc
no_text false x xs e = cc

joined-one : (is js : List Item) → AllByRecursion (λ i. Known i.name) is → AllByRecursion (λ i. Known i.name) js → flat_map spelled is ≡ flat_map spelled js → is ≡ js
joined-one [] [] h k e = refl
joined-one [] (j ∷ js) h k e = absurd (no_text j.barred j.name (flat_map spelled js) e)
joined-one (i ∷ is) [] h k e = absurd (no_text i.barred i.name (flat_map spelled is) (sym e))
joined-one (i ∷ is) (j ∷ js) h k e =
    let t = text_same i.barred j.barred i.name j.name (flat_map spelled is) (flat_map spelled js) h.0 k.0 e in
    ap₂ ◌∷◌ (ap₂ item t.0 t.1.0) (joined-one is js h.1 k.1 t.1.1)

-- where there is a plain digit, it is some post
pub plain-some : (is : List Item) → any plain_digit is ≡ true → (p : ℕ) × (any (λ i. not i.barred && is_post p i.name) is ≡ true)
plain-some [] h = absurd (both_ways false refl h)
plain-some (i ∷ is) h =
    ⊎_elim
    (λ (e : plain_digit i ≡ true). let (p, q) = named i.barred i.name e in (p, ap (λ b. b || any (λ i. not i.barred && is_post p i.name) is) q))
    (λ (e : any plain_digit is ≡ true). let (p, q) = plain-some is e in (p, ap (λ b. (not i.barred && is_post p i.name) || b) q ∙ or-true (not i.barred && is_post p i.name)))
    (or_cases (plain_digit i) (any plain_digit is) h)
  where
    named : (b : Bool) (x : Name) → (not b && digit x) ≡ true → (p : ℕ) × ((not b && is_post p x) ≡ true)
    named true x e = absurd (both_ways false refl e)
    named false (Condition c) e = absurd (both_ways false refl e)
    named false (Post q) e = (q, eq-eqb q q refl)

floor-one : (is : List Item) (t u : Rule) → Means is t → Means is u → t.floor ≡ u.floor
floor-one is t u m n =
    ⊎_elim
    (λ (e : any plain_digit is ≡ true). let (p, q) = plain-some is e in m.floor p q ∙ sym (n.floor p q))
    (λ (e : any plain_digit is ≡ false). m.ground e ∙ sym (n.ground e))
    (cases_Bool (any plain_digit is))

rule-same : (t u : Rule) → t.effect ≡ u.effect → t.needed ≡ u.needed → t.barred ≡ u.barred → t.floor ≡ u.floor → t.barred_posts ≡ u.barred_posts → t ≡ u
rule-same t u a b c d e =
    ap (λ x. rule x t.needed t.barred t.floor t.barred_posts) a
    ∙ ap (λ x. rule u.effect x t.barred t.floor t.barred_posts) b
    ∙ ap (λ x. rule u.effect u.needed x t.floor t.barred_posts) c
    ∙ ap₂ (rule u.effect u.needed u.barred) d e
  where
    rule : Effect → ℕ → ℕ → ℕ → ℕ → Rule
    rule a b c d e = record { effect = a; needed = b; barred = c; floor = d; barred_posts = e }

mark-effect : (e f : Effect) → mark_of e ≡ mark_of f → e ≡ f
mark-effect Permit Permit h = refl
mark-effect Permit Deny h = absurd (omega arith)
mark-effect Deny Permit h = absurd (omega arith)
mark-effect Deny Deny h = refl

pub spells_one : (g : Grammar) (x : List ℕ) (t u : Rule) → Spells g x t → Spells g x u → t ≡ u
spells_one g x t u s v =
    let b = s.bytes in
    let c = v.bytes in
    let m : mark_of t.effect ≡ mark_of u.effect = cc in
    let e : flat_map spelled s.items ≡ flat_map spelled v.items = cc in
    let same : s.items ≡ v.items = joined-one s.items v.items (follow-known g [] s.items s.follow) (follow-known g [] v.items v.follow) e in
    let n : Means s.items u = subst (λ is. Means is u) (sym same) v.means in
    rule-same t u (mark-effect t.effect u.effect m)
    (bits-same t.needed u.needed (λ k. s.means.needed k ∙ sym (n.needed k)))
    (bits-same t.barred u.barred (λ k. s.means.barred k ∙ sym (n.barred k)))
    (floor-one s.items t u s.means n)
    (bits-same t.barred_posts u.barred_posts (λ k. s.means.posts k ∙ sym (n.posts k)))
