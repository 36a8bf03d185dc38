use Rattle.std.proofs.Common.{ltb, length, Ok, Err, sym, ◌∙◌, subst, arith, rules}
use Rattle.std.proofs.lemmas.List.{length-set}
use Rattle.std.proofs.lemmas.Result.{err_from_is_err_and}
use Rattle.std.proofs.lemmas.Bool.{lt-ltb, le-ltb}
use Rattle.rulefile.specs.Steps.{Begins, Opened}
use Rattle.rulefile.proofs.LineLaw.{unopened-line, slotless-line, opened-line}
use Rattle.rulefile.proofs.Walk.{Sofar, sofar-none, sofar-silent, sofar-rule, sofar-stopped, sofar-all}
use Rattle.rulefile.proofs.reading.read_rules.Goals as goal
use Rattle.rulefile.proofs.reading.read_rules.Goals.{In-Some-2}

opened : (c : In-Some-2) → Opened c.args.grammar c.in-Some.line c.in-Some-2.items
opened c = subst (λ o. Begins c.args.grammar c.in-Some.line (Ok o)) c.in-Some-2.is c.in_ok-items.ensures

pub loop-line-init : goal.loop-line-init
loop-line-init c = (
  search rules,
  omega arith,
  λ ls h.
      subst (λ s. Sofar c.args.grammar ls c.args.slots.now s 0 c.args.slots.now) (sym c.into_iter-line-iterator.ensures.into_iter_gives)
      (sofar-none c.args.lines h),
)

pub returns-in_err-items : goal.returns-in_err-items
returns-in_err-items c =
    let p = err_from_is_err_and c.from_residual.result c.from_residual.ensures.1 in
    rw (p.1, p.2)
    (λ ls h.
    sofar-stopped (c.loop-line.invariant.2 ls h) c.next.new.self c.in-Some.ensures.steps _
    (unopened-line c.args.grammar (ltb c.loop-line.count (length c.args.slots.now)) c.in-Some.line c.in_err-items.field-0.0 c.in_err-items.ensures))

pub returns-then-count-slots : goal.returns-then-count-slots
returns-then-count-slots c =
    λ ls h.
    let long = c.loop-line.auto.slots in
    sofar-stopped (c.loop-line.invariant.2 ls h) c.next.new.self c.in-Some.ensures.steps _
    (slotless-line c.args.grammar (ltb c.loop-line.count (length c.args.slots.now)) c.in-Some.line c.in-Some-2.items (opened (goal.at.returns-then-count-slots c).In-Some-2)
    (le-ltb c.loop-line.count (length c.args.slots.now) (omega arith)))

pub returns-in_err-slots : goal.returns-in_err-slots
returns-in_err-slots c =
    let p = err_from_is_err_and c.from_residual-in_err-slots.result c.from_residual-in_err-slots.ensures.1 in
    let long = c.loop-line.auto.slots in
    rw (p.1, p.2)
    (λ ls h.
    sofar-stopped (c.loop-line.invariant.2 ls h) c.next.new.self c.in-Some.ensures.steps _
    (opened-line c.args.grammar (ltb c.loop-line.count (length c.args.slots.now)) c.in-Some.line c.in-Some-2.items (opened (goal.at.returns-in_err-slots c).In-Some-2)
    (Err c.in_err-slots.field-0.0) (lt-ltb c.loop-line.count (length c.args.slots.now) (omega arith)) c.in_err-slots.ensures))

pub loop-line-preserved-in-Some-2 : goal.loop-line-preserved-in-Some-2
loop-line-preserved-in-Some-2 c =
    let long = c.loop-line.auto.slots in
    let says =
    opened-line c.args.grammar (ltb c.loop-line.count (length c.args.slots.now)) c.in-Some.line c.in-Some-2.items (opened (goal.at.loop-line-preserved-in-Some-2 c).In-Some-2)
    (Ok c.in_ok-slots.field-0) (lt-ltb c.loop-line.count (length c.args.slots.now) (omega arith)) c.in_ok-slots.ensures in (
      c.in-Some.ensures.steps.0 ∙ c.loop-line.invariant.0,
      simp length-set (omega arith),
      λ ls h.
          sofar-rule (c.loop-line.invariant.2 ls h) c.next.new.self c.in-Some.ensures.steps
          c.in_ok-slots.field-0 says.1.1 (omega arith),
    )

pub loop-line-preserved : goal.loop-line-preserved
loop-line-preserved c = (
  c.in-Some.ensures.steps.0 ∙ c.loop-line.invariant.0,
  c.loop-line.invariant.1,
  λ ls h.
      sofar-silent (c.loop-line.invariant.2 ls h) c.next.new.self c.in-Some.ensures.steps
      (subst (λ o. Begins c.args.grammar c.in-Some.line (Ok o)) c.in_default.is c.in_ok-items.ensures),
)

pub returns : goal.returns
returns c =
    λ ls h.
    sofar-all (c.loop-line.invariant.2 ls h) c.in-None.ensures.steps.1.0
