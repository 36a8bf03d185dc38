use Rattle.std.proofs.Common.{◌≤◌, false, replicate, ⊎_elim, arith}
use lib.ListN.{length-replicate, get_or-replicate}
use Rattle.std.proofs.lemmas.List.{get_or_past}
use Rattle.std.proofs.lemmas.Bool.{cases_lt}
use Rattle.conversion.proofs.flags.Flags.none.Goals as goal

pub returns : goal.returns
returns c = λ r.
    ⊎_elim (get_or-replicate 4096 r false false) (λ (past : 4096 ≤ r). get_or_past (replicate 4096 false) r false (omega (arith, length-replicate 4096 false)))
    (cases_lt r 4096)
