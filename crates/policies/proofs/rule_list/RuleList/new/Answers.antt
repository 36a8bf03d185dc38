use Rattle.std.proofs.Common.{sym, subst}
use Rattle.policies.specs.Lists.{Meant}
use Rattle.policies.specs.Policies.{Meaning}
use Rattle.policies.proofs.Deciding.{list-meant, one-decision, same-meaning}
use Rattle.policies.proofs.rule_list.RuleList.new.Goals as goal

pub returns : goal.returns
returns g c =
    let laws = g.met.L.Ladder.lawful c.args.ladder.now in
    let same = same-meaning c.of.ensures.posts c.of.ensures.same c.args.letter c.args.conditions c.args.rules.now in
    record {
      meant =
          subst
          (λ (m : Meaning). Meant (g.L.Ladder.posts c.args.ladder.now) (g.L.Ladder.at_least c.args.ladder.now) c.args.letter c.args.conditions c.args.rules.now m)
          (sym same) (list-meant laws c.args.letter c.args.conditions c.args.rules.now);
      once = one-decision laws c.args.letter c.args.rules.now;
      computed = same;
    }
