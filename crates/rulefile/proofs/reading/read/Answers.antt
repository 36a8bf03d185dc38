use Rattle.std.proofs.Common.{◌≡◌, Ok, Err, rules, tests}
use Rattle.std.specs.Option.{option_and_then}
use Rattle.std.proofs.lemmas.Result.{err_from_is_err_and}
use Rattle.rulefile.specs.declared.faults.FileFault.TheVariants.{WrongHead}
use Rattle.rulefile.specs.Steps.{head_of}
use Rattle.rulefile.proofs.FileLaw.{headless, no-head, answered, one-reading, every-rule}
use Rattle.rulefile.proofs.reading.read.Goals as goal

pub returns-in_err-letter : goal.returns-in_err-letter
returns-in_err-letter g c =
    let p = err_from_is_err_and c.from_residual.result c.from_residual.ensures.1 in
    let f = c.in_err-letter.ensures in
    let wrong : c.in_err-letter.field-0.0 ≡ WrongHead = search rules in
    let head : c.and_then.result ≡ option_and_then (λ l. head_of l.bytes.now) c.next.result = search (rules, tests) in
    rw (p.1, p.2, wrong)
    (record {
      answer =
          headless (g.L.Ladder.posts c.args.ladder.now) c.args.file.now c.args.slots.now
          (no-head c.new-lines.result c.next.new.self c.new-lines.ensures.file c.new-lines.ensures.read c.new-lines.ensures.at c.next.result c.and_then.result c.next.ensures.steps head f.ok_part);
      once = one-reading (g.L.Ladder.posts c.args.ladder.now) c.args.file.now;
      lawful = every-rule (g.L.Ladder.posts c.args.ladder.now);
    })

pub returns-in_err-rules : goal.returns-in_err-rules
returns-in_err-rules g c =
    let p = err_from_is_err_and c.from_residual-in_err-rules.result c.from_residual-in_err-rules.ensures.1 in
    let head : c.and_then.result ≡ option_and_then (λ l. head_of l.bytes.now) c.next.result = search (rules, tests) in
    rw (p.1, p.2)
    (record {
      answer =
          answered c.new-lines.result c.next.new.self c.new-lines.ensures.file c.new-lines.ensures.read c.new-lines.ensures.at
          (g.L.Ladder.posts c.args.ladder.now) c.count.result c.args.slots.now c.read_rules.new.slots c.in_ok-letter.letter c.in_ok-letter.conditions c.next.result c.and_then.result (Err c.in_err-rules.field-0.0)
          c.next.ensures.steps head c.in_ok-letter.ensures.ok_part c.count.ensures c.in_err-rules.ensures;
      once = one-reading (g.L.Ladder.posts c.args.ladder.now) c.args.file.now;
      lawful = every-rule (g.L.Ladder.posts c.args.ladder.now);
    })

pub returns : goal.returns
returns g c =
    let head : c.and_then.result ≡ option_and_then (λ l. head_of l.bytes.now) c.next.result = search (rules, tests) in
    record {
      answer =
          answered c.new-lines.result c.next.new.self c.new-lines.ensures.file c.new-lines.ensures.read c.new-lines.ensures.at
          (g.L.Ladder.posts c.args.ladder.now) c.count.result c.args.slots.now c.read_rules.new.slots c.in_ok-letter.letter c.in_ok-letter.conditions c.next.result c.and_then.result (Ok c.in_ok-rules.rules)
          c.next.ensures.steps head c.in_ok-letter.ensures.ok_part c.count.ensures c.in_ok-rules.ensures;
      once = one-reading (g.L.Ladder.posts c.args.ladder.now) c.args.file.now;
      lawful = every-rule (g.L.Ladder.posts c.args.ladder.now);
    }
