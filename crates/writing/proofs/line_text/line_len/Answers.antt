use Rattle.std.proofs.Common.{length, ap, arith}
use Rattle.writing.proofs.Lines.{line-is, line-short}
use Rattle.writing.proofs.Counts.{line-length}
use Rattle.writing.proofs.line_text.line_len.Goals as goal

pub overflow_add-result-2 : goal.overflow_add-result-2
overflow_add-result-2 c = let all = line-length c.args.rule.now in let is = ap length (line-is c.args.rule.now) in let few = line-short c.args.rule.now in omega (arith, c.floor_len.ensures, c.posts_len.ensures)

pub overflow_add-result-3 : goal.overflow_add-result-3
overflow_add-result-3 c = let all = line-length c.args.rule.now in let is = ap length (line-is c.args.rule.now) in let few = line-short c.args.rule.now in omega (arith, c.floor_len.ensures, c.posts_len.ensures, c.conditions_len.ensures)

pub returns : goal.returns
returns c = let all = line-length c.args.rule.now in omega (arith, c.floor_len.ensures, c.posts_len.ensures, c.conditions_len.ensures)
