use Rattle.std.proofs.Common.{◌/◌, ◌^◌}
use Rattle.std.proofs.lemmas.Bool.Decides.{Decides-like, Decides-eqb}
use Rattle.ladders.proofs.Sets.{all-below}
use Rattle.writing.proofs.Sayings.{shifted-out}
use Rattle.writing.proofs.saying.is_below.Goals as goal

pub returns : goal.returns
returns c = Decides-like _ (shifted-out c.args.set c.args.n) (all-below c.args.set c.args.n) (Decides-eqb (c.args.set / 2 ^ c.args.n) 0)
