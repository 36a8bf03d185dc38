use Rattle.std.proofs.Common.{rules, tests, arith, ◌≡◌, ◌^◌, ◌≤◌, ◌∙◌, ℕ, zero, suc, Bool, List, cond, map, sum, refl}
use Rattle.std.specs.List.{range_with_len}
use Rattle.std.proofs.lemmas.Bool.{cases_Bool}
use Rattle.std.proofs.lemmas.Iterator.{YieldsList-from_range, YieldsList-from_map}
use Rattle.std.proofs.lemmas.Iterator.Consumers.{sum_from_yields_List, fits_from_yields_list}
use Rattle.ladders.specs.Rows.{rows_at_least, count_below}
use Rattle.ladders.proofs.ladder_rows.LadderRowsLadder.count.Goals as goal

-- whether a number stands in its own row
abbrev own-row : List ℕ → ℕ → Bool
own-row rows p = rows_at_least rows p p

-- 1 for each number that passes
abbrev ones : (ℕ → Bool) → ℕ → ℕ
ones f p = cond (f p) 1 0

counted : (f : ℕ → Bool) → sum (map (ones f) (range_with_len 0 8)) ≡ count_below 8 f
unfolding count_below
counted f = refl

-- no more pass than there are
at-most : (f : ℕ → Bool) (n : ℕ) → count_below n f ≤ n
unfolding count_below
at-most f zero = omega arith
at-most f (suc n) = let so_far = at-most f n in let t = cases_Bool (f n) in grind arith

pub sum-requires-clause-fits : goal.sum-requires-clause-fits
sum-requires-clause-fits c =
    fits_from_yields_list c.map.result (2 ^ 64)
    (YieldsList-from_map _ (ones (own-row c.args.self.now.rows)) (YieldsList-from_range 0 8 8 c.map.ensures.source refl) c.map.ensures.closure (λ x r q k. search (rules, tests)))
    (omega (arith, counted (own-row c.args.self.now.rows), at-most (own-row c.args.self.now.rows) 8))

pub returns : goal.returns
returns c =
    sum_from_yields_List _ c.sum.result c.sum.ensures.ran
    (YieldsList-from_map _ (ones (own-row c.args.self.now.rows)) (YieldsList-from_range 0 8 8 c.map.ensures.source refl) c.map.ensures.closure (λ x r q k. search (rules, tests)))
    ∙ counted (own-row c.args.self.now.rows)
