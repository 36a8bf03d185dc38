use Rattle.std.proofs.Common.{rules, ◌≡◌, ◌*◌, ◌%◌, ◌^◌, ◌∙◌}
use lib.Bits.{bit_or}
use Rattle.std.proofs.lemmas.Bool.{and_parts, leb-true, ltb-true}
use Rattle.rules.proofs.Numbers.{given, packing}
use Rattle.rules.proofs.request.Request.number.Goals as goal

pub returns : goal.returns
returns c = given c.then.result _ _ (c.then.ensures.variant ∙ c.are_conditions.ensures) c.then.ensures.some
    (λ t y k.
    let within = and_parts _ _ t in
    let e : y ≡ bit_or ((c.args.self.now.post * 2 ^ c.args.n) % 2 ^ 64) c.args.self.now.set = search rules in
    e ∙ packing c.args.n c.args.self.now.post c.args.self.now.set (leb-true _ _ within.0) (search rules) (ltb-true _ _ within.1))
