use Rattle.std.proofs.Common.{Ok, Err, rules}
use Rattle.std.proofs.lemmas.Result.{err_from_is_err_and}
use Rattle.rulefile.specs.Steps.{end, bad, finished}
use Rattle.rulefile.proofs.Onward.{onward, taken-err}
use Rattle.rulefile.proofs.items.ItemReader.read_rule.Goals as goal

pub returns-in_err-read_item : goal.returns-in_err-read_item
returns-in_err-read_item c =
    let p = err_from_is_err_and c.from_residual.result c.from_residual.ensures.1 in
    rw (p.1, p.2)
    (c.loop-self.invariant.1 (Err c.in_err-read_item.field-0.0) (bad (search rules) (taken-err c.loop-self.self.draft _ _ c.in_err-read_item.ensures.value)))

pub loop-self-preserved : goal.loop-self-preserved
loop-self-preserved c = (
  search rules,
  λ r h. c.loop-self.invariant.1 r (onward c.loop-self.self c.read_item.new.self _ r c.in_ok-read_item.ensures h),
)

pub returns : goal.returns
returns c = rw c.from.ensures (c.loop-self.invariant.1 (Ok (finished c.loop-self.self.draft)) (end (search rules)))
