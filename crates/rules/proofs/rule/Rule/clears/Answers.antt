use Rattle.std.proofs.Common.{rules, tests, ◌≡◌, ℕ, Bool, true, false, ◌&&◌, ◌||◌, not, List, [], ◌∷◌, filter, ap, ◌∙◌, refl, ⊎_elim}
use Rattle.std.specs.List.{list_any, range_with_len}
use Rattle.std.proofs.lemmas.Bool.{cases_Bool}
use Rattle.std.proofs.lemmas.Bool.Decides.{Decides-at}
use Rattle.std.proofs.lemmas.Iterator.{YieldsList-from_range}
use Rattle.std.proofs.lemmas.Iterator.Consumers.{YieldsList-from_filter}
use Rattle.std.proofs.lemmas.Iterator.Search.{any_from_yields_List}
use Rattle.ladders.specs.Sets.{holds}
use Rattle.rules.proofs.Posts.{clear-tells}
use Rattle.rules.proofs.rule.Rule.clears.Goals as goal

-- some of those that pass the first test pass the second where some number passes both
any-filtered : (f t : ℕ → Bool) (xs : List ℕ) → list_any t (filter f xs) ≡ list_any (λ p. f p && t p) xs
any-filtered f t [] = refl
any-filtered f t (x ∷ xs) =
    ⊎_elim
    (λ (e : f x ≡ true). rw e (ap (λ b. t x || b) (any-filtered f t xs)))
    (λ (e : f x ≡ false). rw e (any-filtered f t xs))
    (cases_Bool (f x))

pub returns : goal.returns
returns g c =
    Decides-at _ _
    (ap not
    (any_from_yields_List (g.L.Ladder.at_least c.args.ladder.now c.args.post) _ _ c.any.result c.any.ensures.ran
    (YieldsList-from_filter _ (holds c.args.self.now.barred_posts) (YieldsList-from_range 0 8 8 c.filter.ensures.source refl) c.filter.ensures.closure (λ x b q k. search (rules, tests)))
    (λ x b q k. search (rules, tests))
    ∙ any-filtered (holds c.args.self.now.barred_posts) (g.L.Ladder.at_least c.args.ladder.now c.args.post) (range_with_len 0 8)))
    (clear-tells (g.met.L.Ladder.lawful c.args.ladder.now) c.args.post c.args.self.now.barred_posts)
