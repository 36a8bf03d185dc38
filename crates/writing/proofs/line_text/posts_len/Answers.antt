use Rattle.std.proofs.Common.{◌≡◌, ◌%◌, ◌^◌, arith, ap}
use Rattle.std.specs.Int.Count.{ones}
use Rattle.writing.proofs.Counts.{posts-length}
use Rattle.writing.proofs.line_text.posts_len.Goals as goal

pub returns : goal.returns
returns c =
    let s = c.args.rule.now.barred_posts in
    let small : s % 2 ^ 8 ≡ s = omega arith in
    let same = ap ones small in
    let all = posts-length c.args.rule.now 8 in omega arith
