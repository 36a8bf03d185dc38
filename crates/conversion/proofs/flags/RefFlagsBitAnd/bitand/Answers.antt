use Rattle.std.proofs.Common.{rules}
use Rattle.conversion.proofs.flags.RefFlagsBitAnd.bitand.Goals as goal

pub returns : goal.returns
returns c = λ r lt. let h = c.of.ensures r lt in search rules
