use Rattle.std.proofs.Common.{◌≡◌, subst, rules, tests}
use Rattle.std.specs.Option.{option_map}
use Rattle.lines.specs.Handed.{Handed}
use Rattle.lines.proofs.Past.{finds, one_split}
use Rattle.lines.proofs.line.Goals as goal

pub returns-clause-handed : goal.returns-clause-handed
returns-clause-handed c =
    let (ls, l, h) = finds c.args.file c.new.result c.new.ensures.file c.new.ensures.read c.new.ensures.at _ _ c.args.k c.find.result c.find.new.self c.find.ensures.ran (λ x b q k. search (rules, tests)) in
    let e : option_map (λ line. line.bytes) c.find.result ≡ c.map.result = search (rules, tests) in
    (ls, l, subst (Handed c.args.file ls c.args.k) e h)

pub returns-clause-split : goal.returns-clause-split
returns-clause-split c = one_split c.args.file.now
