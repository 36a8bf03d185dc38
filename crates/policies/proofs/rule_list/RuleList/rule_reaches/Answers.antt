use Rattle.std.proofs.Common.{◌≡◌, rules}
use Rattle.policies.specs.Lists.{Counts}
use Rattle.policies.proofs.Tells.{rule-applies}
use Rattle.policies.proofs.rule_list.RuleList.rule_reaches.Goals as goal
use Rattle.policies.proofs.rule_list.RuleList.rule_reaches.Goals.{then-eq, else-eq}

pub returns-then-counts : goal.returns-then-counts
returns-then-counts c =
    elim c.if-eq.branch [
      | then-eq w ↦
          let same : c.args.rule.effect ≡ c.args.effect = search rules in
          let count : Counts c.args.self.now.letter c.args.rule = search rules in
          rule-applies c.args.self.now.ladder.lawful c.args.self.now.letter c.args.effect c.args.request c.args.rule c.applies.result same count c.applies.ensures
      | else-eq w ↦ search rules
    ]
