-- The lines of rules one after another.
use Rattle.std.proofs.Common.{◌≡◌, ℕ, ◌+◌, ◌<◌, ◌≤◌, List, [], ◌∷◌, ◌++◌, map, length, get_or, drop, sym, refl, ap, ◌∙◌, ◌*◌, subst, append_assoc, length-append, arith}
use Rattle.std.specs.List.{AllByRecursion, sum_by}
use Rattle.std.proofs.lemmas.List.Sums.{sum_by-cons}
use Rattle.std.proofs.lemmas.List.{at_drop_more, at_drop_all}
use Rattle.rules.specs.declared.rule.Effect.TheVariants.{Permit}
use Rattle.rules.specs.declared.rule.Rule.{Rule}
use Rattle.writing.specs.Written.{line_of, lined}
use Rattle.writing.specs.Steps.{Named, Puts}
use Rattle.writing.specs.declared.pen.Pen.{Pen}
use Rattle.writing.proofs.Lines.{line-is, line-short}
use Rattle.writing.proofs.Overs.{ToCome, to-come-more, to-come-none}

-- how long they are
pub length-lined : (ts : List Rule) → length (lined (map line_of ts)) ≡ sum_by (λ t. length (line_of t) + 1) ts
length-lined [] = refl
length-lined (t ∷ ts) =
    let rest = length-lined ts in
    let both = length-append (line_of t) (10 ∷ lined (map line_of ts)) in
    let sum = sum_by-cons (λ t. length (line_of t) + 1) t ts in omega arith

pub lined-short : (ts : List Rule) → length (lined (map line_of ts)) ≤ length ts * 56
lined-short [] = omega arith
lined-short (t ∷ ts) =
    let rest = lined-short ts in
    let both = length-append (line_of t) (10 ∷ lined (map line_of ts)) in
    let line = ap length (line-is t) in
    let short = line-short t in omega arith

-- what a read past the end would give
abbrev pub blank : Rule
blank = record { effect = Permit; needed = 0; barred = 0; floor = 0; barred_posts = 0 }

-- where some rules are still to be written, one rule more
module _ (ts : List Rule) (k : ℕ) (named : AllByRecursion Named (drop k ts)) {p start : Pen} {n : ℕ} {whole : List ℕ} (t : ToCome p (lined (map line_of (drop k ts))) n start whole) where
  module _ (d : Rule) (h : k < length ts) where
    here : drop k ts ≡ get_or ts k d ∷ drop (k + 1) ts
    here = at_drop_more (λ us. us) ts k d h

    pub named-more : AllByRecursion Named (drop (k + 1) ts)
    named-more = (subst (AllByRecursion Named) here named).1

    pub rules-to-come : {q : Pen} → Puts p (line_of (get_or ts k d) ++ (10 ∷ [])) q → ToCome q (lined (map line_of (drop (k + 1) ts))) n start whole
    rules-to-come put =
        to-come-more (line_of (get_or ts k d) ++ (10 ∷ [])) (lined (map line_of (drop (k + 1) ts)))
        (subst (λ xs. ToCome p xs n start whole) (ap (λ us. lined (map line_of us)) here ∙ sym (append_assoc (line_of (get_or ts k d)) (10 ∷ []) (lined (map line_of (drop (k + 1) ts))))) t) put

  pub rules-put : length ts ≤ k → Puts start whole p
  rules-put h = to-come-none (subst (λ xs. ToCome p xs n start whole) (at_drop_all (λ us. lined (map line_of us)) ts k h) t)
