use Rattle.ladders.proofs.Copies.{rows_same, rows-posts, rows-lawful}
use Rattle.ladders.proofs.ladder_rows.LadderRows.of.Goals as goal

pub invariant_of-result : goal.invariant_of-result
invariant_of-result g c = record { lawful = rows-lawful (g.met.L.Ladder.lawful c.args.ladder.now) c.rows.result c.rows.ensures }

pub returns : goal.returns
returns g c =
    record {
      posts = rows-posts (g.met.L.Ladder.lawful c.args.ladder.now) c.rows.result c.rows.ensures;
      same = rows_same (g.met.L.Ladder.lawful c.args.ladder.now) c.rows.result c.rows.ensures;
    }
