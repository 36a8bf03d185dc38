use Rattle.std.proofs.Common.{rules, tests, ◌≡◌, ◌∙◌, ◌*◌, ◌/◌, ◌^◌, ◌-◌, ◌%◌, ◌&&◌, ℕ, leb, ltb, ap}
use lib.Bits.{bit_and}
use Rattle.std.proofs.lemmas.Bool.{and_parts, leb-true}
use Rattle.rules.specs.declared.request.Request.{Request}
use Rattle.rules.specs.Requests.{request_at}
use Rattle.rules.proofs.Numbers.{given, masked}
use Rattle.rules.proofs.request.Request.numbered.Goals as goal

pub returns : goal.returns
returns c =
    given c.then.result (leb c.args.n 9 && ltb c.args.number (8 * 2 ^ c.args.n)) (request_at c.args.n c.args.number) (search (rules, tests)) c.then.ensures.some
    (λ t y k.
    let within = and_parts _ _ t in
    let e : y ≡ record { post = c.args.number / 2 ^ c.args.n; set = bit_and c.args.number ((1 * 2 ^ c.args.n) % 2 ^ 64 - 1) } = search rules in
    e ∙ ap (λ (x : ℕ). let r : Request = record { post = c.args.number / 2 ^ c.args.n; set = x } in r) (masked c.args.n c.args.number (leb-true _ _ within.0)))
