use Rattle.std.proofs.Common.{◌≡◌, ap, ◌∙◌, sym, subst}
use Rattle.std.specs.List.{AllByRecursion}
use Rattle.rulefile.specs.Items.{Known}
use Rattle.writing.specs.Written.{written_items}
use Rattle.writing.specs.Steps.{items_left}
use Rattle.writing.proofs.Overs.{puts-then}
use Rattle.writing.proofs.Lines.{items-to-come, item-to-come, items_to_come_none}
use Rattle.writing.proofs.pen.Pen.put_line.Goals as goal

pub loop-item-init : goal.loop-item-init
loop-item-init c =
    let all : items_left c.into_iter-item-iterator.result ≡ written_items c.args.rule.now = ap items_left c.into_iter-item-iterator.ensures.into_iter_gives ∙ c.of-item-items.ensures in
    (tt, tt, subst (AllByRecursion (λ i. Known i.name)) (sym all) c.requires.0, items-to-come c.args.rule.now _ _ _ _ all c.mark_of.ensures c.requires.1 c.put.ensures)

pub loop-item-preserved : goal.loop-item-preserved
loop-item-preserved c =
    let first = c.in-Some.ensures.steps in
    (tt, tt, (subst (AllByRecursion (λ i. Known i.name)) first c.loop-item.invariant.2).1, item-to-come _ _ _ first c.loop-item.invariant.3 c.put_item.ensures)

pub returns : goal.returns
returns c = puts-then (items_to_come_none _ c.in-None.ensures.steps.0 c.loop-item.invariant.3) c.put-2.ensures
