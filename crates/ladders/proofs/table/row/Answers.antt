use Rattle.std.proofs.Common.{rules, tests, ap, ◌∙◌, refl}
use Rattle.std.proofs.lemmas.Iterator.{YieldsList-from_range}
use Rattle.std.proofs.lemmas.Iterator.Consumers.{fold_from_yields_List}
use Rattle.ladders.specs.Sets.{holds}
use Rattle.ladders.proofs.Fills.{put, row-filled}
use Rattle.ladders.proofs.table.row.Goals as goal

pub returns : goal.returns
returns g c q h =
    ap (λ x. holds x q)
    (fold_from_yields_List _ (put (g.L.Ladder.at_least c.args.ladder.now c.args.p)) 0 c.fold.result c.fold.ensures.ran
    (YieldsList-from_range 0 8 8 refl refl)
    (λ a x b q k. search (rules, tests)))
    ∙ row-filled (g.L.Ladder.at_least c.args.ladder.now c.args.p) q h
