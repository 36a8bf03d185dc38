use Rattle.std.proofs.Common.{Ok, Err, refl, arith}
use Rattle.std.proofs.lemmas.Result.{err_from_is_err_and}
use Rattle.rulefile.proofs.FileLaw.{one-reading}
use Rattle.report.proofs.Again.{tidied}
use Rattle.report.proofs.tidying.tidy.Goals as goal

pub returns-then-input-gt-LONGEST : goal.returns-then-input-gt-LONGEST
returns-then-input-gt-LONGEST c = record { answer = (omega arith, (refl, refl)); once = one-reading 8 c.args.input.now }

pub returns-in_err-write : goal.returns-in_err-write
returns-in_err-write c =
    let p = err_from_is_err_and c.from_residual-in_err-write.result c.from_residual-in_err-write.ensures.1 in
    rw (p.1, p.2)
    (record {
      answer =
          tidied c.args.input.now c.args.slots.now c.read.new.slots c.args.text.now c.write.new.text (omega arith) c.in_ok-list.list c.in_ok-list.ensures.answer
          (Err c.in_err-write.field-0.0) c.in_err-write.ensures;
      once = one-reading 8 c.args.input.now;
    })

pub returns : goal.returns
returns c =
    record {
      answer =
          tidied c.args.input.now c.args.slots.now c.read.new.slots c.args.text.now c.write.new.text (omega arith) c.in_ok-list.list c.in_ok-list.ensures.answer
          (Ok c.in_ok-write.field-0) c.in_ok-write.ensures;
      once = one-reading 8 c.args.input.now;
    }
