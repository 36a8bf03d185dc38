use Rattle.std.proofs.Common.{◌≡◌, Some, sym, refl, inl, inr, arith, rules}
use Rattle.conversion.specs.Beyond.{Condition, Posts, upper_of}
use Rattle.conversion.proofs.Links.{link_up}
use Rattle.conversion.proofs.Passes.{full-more, full-none, posted-all, posted-more, posted-skip, sound_none}
use Rattle.conversion.proofs.order.Order.beyond.Goals as goal
use Rattle.conversion.proofs.order.Order.beyond.Goals.{then-upper_post-lower_post+then-at_least, else-upper_post-lower_post, else-upper_post-lower_post-via-then-upper_post-lower_post+else-at_least, else-upper_post-lower_post-via-else-upper_post-lower_post}

pub loop-c-init : goal.loop-c-init
loop-c-init c = (
  sound_none c.args.self.now c.args.side c.args.members.now c.none-marks.result c.none-marks.ensures,
  full-none c.args.self.now c.args.side c.args.members.now c.none-marks.result,
)

pub pass-requires-clause-up : goal.pass-requires-clause-up
pass-requires-clause-up c = λ x y h step.
    let e : Some y ≡ upper_of c.args.self.now.conditions (Condition c.loop-c.c-counter) x = search rules in
    link_up c.args.self.now (Condition c.loop-c.c-counter) c.loop-c-test.true x y h (sym e)

pub loop-c-preserved : goal.loop-c-preserved
loop-c-preserved c = (
  c.pass.ensures.sound c.loop-c.invariant.0,
  full-more c.pass.ensures (Condition c.loop-c.c-counter) c.loop-c-test.true (λ x r step. search rules) refl c.loop-c.invariant.1,
)

pub pass-requires-then-at_least-clause-up : goal.pass-requires-then-at_least-clause-up
pass-requires-then-at_least-clause-up c = λ x y h step.
    let e : Some y ≡ upper_of c.args.self.now.conditions (Posts c.loop-upper_post.upper_post-counter c.loop-lower_post.lower_post-counter) x = search rules in
    link_up c.args.self.now (Posts c.loop-upper_post.upper_post-counter c.loop-lower_post.lower_post-counter) (sym c.if-at_least.ensures, c.if-upper_post-lower_post.true) x y h (sym e)

pub loop-lower_post-preserved : goal.loop-lower_post-preserved
loop-lower_post-preserved c =
    elim c.if-upper_post-lower_post.branch [
      | then-upper_post-lower_post+then-at_least w ↦
          rw w.marks-is
          (posted-more c.args.self.now c.loop-lower_post-test.true c.loop-lower_post.invariant (sym w.if-at_least.ensures, w.if-upper_post-lower_post.true) (λ x r step. search rules) w.pass-then-at_least.ensures)
      | else-upper_post-lower_post w ↦
          rw w.marks-is
          (posted-skip c.args.self.now c.loop-lower_post-test.true c.loop-lower_post.invariant
          (elim w.else-upper_post-lower_post.branch [
            | else-upper_post-lower_post-via-then-upper_post-lower_post+else-at_least v ↦ inr (sym v.if-at_least.ensures)
            | else-upper_post-lower_post-via-else-upper_post-lower_post v ↦ inl v.if-upper_post-lower_post.false
          ]))
    ]

pub returns : goal.returns
returns c = posted-all c.args.self.now c.loop-upper_post.invariant (omega arith)
