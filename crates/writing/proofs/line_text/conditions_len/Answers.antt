use Rattle.std.proofs.Common.{arith, ap}
use Rattle.std.proofs.lemmas.Nat.{and_mask}
use Rattle.std.specs.Int.Count.{ones}
use Rattle.writing.proofs.Counts.{conditions-length}
use Rattle.writing.proofs.line_text.conditions_len.Goals as goal

pub overflow_sub-result-2 : goal.overflow_sub-result-2
overflow_sub-result-2 c =
    let t = c.args.rule.now in
    let plain = ap ones (and_mask t.needed 9) in
    let named = ap ones c.named_conditions.ensures in
    let all = conditions-length t 9 in omega arith

pub returns : goal.returns
returns c =
    let t = c.args.rule.now in
    let plain = ap ones (and_mask t.needed 9) in
    let named = ap ones c.named_conditions.ensures in
    let all = conditions-length t 9 in omega arith
