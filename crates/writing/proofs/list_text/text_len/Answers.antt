use Rattle.std.proofs.Common.{◌≡◌, ◌+◌, length, arith, rules, tests}
use Rattle.std.specs.List.{sum_by}
use Rattle.std.proofs.lemmas.Iterator.{YieldsList-from_map, YieldsList-from_slice}
use Rattle.std.proofs.lemmas.Iterator.Consumers.{YieldsList-at, sum_by_from_yields_List}
use Rattle.writing.specs.Written.{line_of}
use Rattle.writing.proofs.Lined.{length-lined, lined-short}
use Rattle.writing.proofs.list_text.text_len.Goals as goal

lines : (c : goal.After-sum) → c.sum.result ≡ sum_by (λ t. length (line_of t) + 1) c.args.rules.now
lines c =
    sum_by_from_yields_List (λ t. length (line_of t) + 1) c.args.rules.now c.map.result c.sum.result c.sum.ensures.ran
    (YieldsList-from_map _ (λ t. length (line_of t) + 1) (YieldsList-at c.map.ensures.source (YieldsList-from_slice c.args.rules.now cc)) c.map.ensures.closure (λ x r q k. search (rules, tests)))

pub overflow_add-result : goal.overflow_add-result
overflow_add-result c = omega (arith, lines c, length-lined c.args.rules.now, lined-short c.args.rules.now)

pub returns : goal.returns
returns c = omega (arith, lines c, length-lined c.args.rules.now)
