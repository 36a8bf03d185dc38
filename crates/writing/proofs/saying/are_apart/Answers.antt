use lib.Bits.{bit_and}
use Rattle.std.proofs.lemmas.Bool.Decides.{Decides-like, Decides-eqb}
use Rattle.ladders.proofs.Sets.{and_none, none-and}
use Rattle.writing.proofs.saying.are_apart.Goals as goal

pub returns : goal.returns
returns c =
    Decides-like _ (λ e d h. none-and c.args.set c.args.other d e h) (and_none c.args.set c.args.other) (Decides-eqb (bit_and c.args.set c.args.other) 0)
