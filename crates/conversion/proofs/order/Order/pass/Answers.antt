use Rattle.std.proofs.Common.{sym, ◌∙◌, inl, inr, arith}
use Rattle.std.proofs.lemmas.Bool.{false≢true}
use Rattle.conversion.proofs.Passes.{ends-inside, passed-more, passed-skip, passed-stay}
use Rattle.conversion.proofs.order.Order.pass.Goals as goal
use Rattle.conversion.proofs.order.Order.pass.Goals.{in-Some+then-has, then-has-via-then-has, then-has-via-else-has+then-has-2, in-Some+else-has+else-has-2, in_default}

pub has-requires : goal.has-requires
has-requires g c =
    let ((marked, source), (upper, lower)) = ends-inside c.args.self.now c.args.side c.in-Some.upper c.loop-lower.lower c.turned-marked.result c.turned-marked.ensures
    (c.requires.up c.loop-lower.lower c.in-Some.upper c.loop-lower-test.true c.in-Some.ensures) in
    omega arith

pub has-requires-else-has : goal.has-requires-else-has
has-requires-else-has g c =
    let ((marked, source), (upper, lower)) = ends-inside c.args.self.now c.args.side c.in-Some.upper c.loop-lower.lower c.turned-marked.result c.turned-marked.ensures
    (c.requires.up c.loop-lower.lower c.in-Some.upper c.loop-lower-test.true c.in-Some.ensures) in
    omega arith

pub raise-requires : goal.raise-requires
raise-requires g c =
    let ((marked, source), (upper, lower)) = ends-inside c.args.self.now c.args.side c.in-Some.upper c.loop-lower.lower c.turned-marked.result c.turned-marked.ensures
    (c.requires.up c.loop-lower.lower c.in-Some.upper c.loop-lower-test.true c.in-Some.ensures) in
    omega arith

pub loop-lower-preserved : goal.loop-lower-preserved
loop-lower-preserved g c =
    elim c.match-step.branch [
      | in-Some+then-has w ↦
          rw w.marks-is
          (passed-more c.loop-lower.invariant w.in-Some.upper w.in-Some.ensures w.turned-marked.result w.turned-marked.ensures
          (c.requires.up c.loop-lower.lower w.in-Some.upper c.loop-lower-test.true w.in-Some.ensures)
          (elim w.then-has.branch [
            | then-has-via-then-has v ↦ inl (sym w.has.ensures ∙ v.if-has.true)
            | then-has-via-else-has+then-has-2 v ↦ inr (sym v.has-else-has.ensures ∙ v.if-has-2.true)
          ])
          w.raise.ensures)
      | in-Some+else-has+else-has-2 w ↦
          rw w.marks-is
          (passed-stay c.loop-lower.invariant w.in-Some.upper w.in-Some.ensures w.turned-marked.result w.turned-marked.ensures
          (λ m. false≢true (sym w.if-has.false ∙ w.has.ensures ∙ m)) (λ m. false≢true (sym w.if-has-2.false ∙ w.has-else-has.ensures ∙ m)))
      | in_default w ↦ rw w.marks-is (passed-skip c.loop-lower.invariant w.in_default.ensures)
    ]
