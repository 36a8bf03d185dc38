use Rattle.std.proofs.Common.{◌≡◌, ap, subst, arith, rules}
use Rattle.std.specs.List.{AllByRecursion}
use Rattle.rulefile.specs.Files.{grammar, filled}
use Rattle.rulefile.specs.declared.grammar.Grammar.{Grammar}
use Rattle.writing.specs.Written.{written}
use Rattle.writing.specs.Writes.{Sayable, LawfulList}
use Rattle.writing.proofs.Sayings.{all-named}
use Rattle.writing.proofs.Texts.{read_back}
use Rattle.writing.proofs.writer.write.Goals as goal

pub put_list-requires : goal.put_list-requires
put_list-requires g c =
    let few = c.in_ok-small.small.few in
    let e = c.text_len-needed.ensures in
    (all-named c.in_ok-small.small.grammar few.1.0 few.1.1 few.0 c.args.rules.now c.in_default.ensures, omega arith)

pub returns : goal.returns
returns g c =
    let posts = g.L.Ladder.posts c.args.ladder.now in
    let rules' = c.args.rules.now in
    let laws = g.met.L.Ladder.lawful c.args.ladder.now in
    let few = c.in_ok-small.small.few in
    let same : c.in_ok-small.small.grammar ≡ grammar c.args.letter c.args.conditions posts = search rules in
    let n = ap (λ (g : Grammar). g.conditions) same in
    let lawful : LawfulList posts c.args.letter c.args.conditions rules' = (omega arith, subst (λ g. AllByRecursion (Sayable g) rules') same c.in_default.ensures) in
    let count = c.put_list.ensures.count in
    let needed = c.text_len-needed.ensures in (
      lawful,
      (
        count,
        (
          omega arith,
          (
            subst (λ g. c.put_list.new.text ≡ filled (written g.letter g.conditions rules') c.args.text.now) same c.put_list.ensures.text,
            read_back posts c.args.letter c.args.conditions rules' laws.some laws.few lawful,
          ),
        ),
      ),
    )
