use Rattle.std.proofs.Common.{◌∙◌}
use Rattle.lines.proofs.Past.{counts}
use Rattle.lines.proofs.line_count.Goals as goal

pub returns : goal.returns
returns c =
    let (xs, run, n) = c.count.ensures.ran in
    let (ls, l, e) = counts c.args.file c.new.result c.new.ensures.file c.new.ensures.read c.new.ensures.at xs run in
    (ls, l, n ∙ e)
