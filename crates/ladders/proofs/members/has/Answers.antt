use Rattle.std.proofs.Common.{sym, ◌∙◌, arith}
use Rattle.std.proofs.lemmas.Bool.{le-ltb}
use Rattle.ladders.proofs.Sets.{none-past}
use Rattle.ladders.proofs.members.has.Goals as goal

pub returns-else-from-lt-BITS : goal.returns-else-from-lt-BITS
returns-else-from-lt-BITS c = le-ltb c.from.result 16 (omega arith) ∙ sym (none-past c.args.set 16 c.args.member (omega arith) (omega arith))
