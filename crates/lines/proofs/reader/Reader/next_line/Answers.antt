use Rattle.std.proofs.Common.{◌-◌, length, take, drop, refl, inl, inr, rules}
use Rattle.std.proofs.lemmas.List.{take_rest}
use Rattle.lines.proofs.Past.{NextAt, first_read, moves-on}
use Rattle.lines.proofs.reader.Reader.next_line.Goals as goal
use Rattle.lines.proofs.reader.Reader.next_line.Goals.{then-len-rest, else-len-rest}

pub returns : goal.returns
returns c =
    let file = c.args.self.now.file.now in
    let at = c.args.self.now.at in
    let rest = take (length file - at) (drop at file) in
    let way : NextAt file rest at c.line_len-len.result c.if-len-rest.self
    = elim c.if-len-rest.branch [ then-len-rest w ↦ inl (w.if-len-rest.true, w.self-is) | else-len-rest w ↦ inr (w.if-len-rest.false, w.self-is) ] in
    let moved = moves-on file rest at c.line_len-len.result c.if-len-rest.self (take_rest file at) c.if-at-file.false way in
    record {
      same = refl;
      next =
          record {
            first = first_read file rest at c.line_len-len.result c.if-len-rest.self (take_rest file at) c.if-at-file.false c.line_len-len.ensures.unbroken c.line_len-len.ensures.end way;
            number = refl;
            start = refl;
            counted = refl;
            onward = moved.0;
            within = moved.1;
            block = refl;
            byte = search rules;
          };
    }
