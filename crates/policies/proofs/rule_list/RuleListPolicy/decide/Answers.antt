use Rattle.std.proofs.Common.{◌≡◌, ℕ, sym, ◌∙◌, arith}
use Rattle.ladders.specs.Rows.{row_posts}
use Rattle.policies.proofs.Numbered.{numbered}
use Rattle.policies.proofs.rule_list.RuleListPolicy.decide.Goals as goal

pub returns-in_err-request : goal.returns-in_err-request
returns-in_err-request c =
    let found = numbered (row_posts c.args.self.now.ladder.rows) c.args.self.now.conditions c.args.request c.args.self.now.ladder.lawful.few (omega (arith, c.requests.ensures)) in
    let none = sym c.in_err-request.was ∙ c.numbered.ensures in
    let z : ◌≡◌ {A = ℕ} 0 1 = cc in
    absurd (omega arith)
