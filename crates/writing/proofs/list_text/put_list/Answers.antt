use Rattle.std.proofs.Common.{◌≡◌, ap₂, ◌∙◌, rules}
use Rattle.rulefile.specs.Files.{filled}
use Rattle.writing.specs.Written.{written}
use Rattle.writing.specs.Steps.{over}
use Rattle.writing.proofs.Overs.{puts-then, over-front}
use Rattle.writing.proofs.Lined.{blank, named-more, rules-to-come, rules-put}
use Rattle.writing.proofs.list_text.put_list.Goals as goal

pub loop-rule-preserved : goal.loop-rule-preserved
loop-rule-preserved c =
    let i = c.loop-rule.invariant in (
      named-more c.args.rules.now c.loop-rule.rule-index i.0 i.1 blank c.loop-rule-test.true,
      rules-to-come c.args.rules.now c.loop-rule.rule-index i.0 i.1 blank c.loop-rule-test.true c.put_line.ensures,
      c.put_line.ensures.same ∙ i.2,
    )

pub returns-clause-text : goal.returns-clause-text
returns-clause-text c =
    let all = puts-then c.put_head.ensures (rules-put c.args.rules.now c.loop-rule.rule-index c.loop-rule.invariant.0 c.loop-rule.invariant.1 c.loop-rule-test.false) in
    let name = all.same ∙ c.new-pen.ensures.same in
    let text : c.loop-rule.pen.text.now ≡ filled (written c.args.small.grammar.letter c.args.small.grammar.conditions c.args.rules.now) c.args.text.now =
    all.text ∙ ap₂ (λ ts k. over ts k (written c.args.small.grammar.letter c.args.small.grammar.conditions c.args.rules.now)) c.new-pen.ensures.text c.new-pen.ensures.start ∙ over-front c.args.text.now (written c.args.small.grammar.letter c.args.small.grammar.conditions c.args.rules.now) in
    search rules
