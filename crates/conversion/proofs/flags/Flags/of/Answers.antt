use Rattle.std.proofs.Common.{◌≡◌, ◌<◌, ◌∙◌, false, refl, subst, sym, arith, of_calls}
use Rattle.std.proofs.lemmas.Fn.{serves_by}
use denote.Param.Members.{step_gives, step_stays_lem}
use Rattle.conversion.proofs.Made.{made_at}
use Rattle.conversion.proofs.flags.Flags.of.Goals as goal

pub from_fn-requires : goal.from_fn-requires
from_fn-requires g c = (
  omega arith,
  serves_by _ (λ xs f. f ≡ c.args.test) (λ xs q x v same (r, call). let e : v ≡ q = search (of_calls, step_stays_lem) in e ∙ same) _ _ 0 c.args.test refl
      (λ xs t q x u ys (lt, is, more) same. let inside : x < 4096 = subst (λ k. k < 4096) (sym is) lt in subst (λ f. goal.F-pre g f x) (sym same) (c.requires x inside)),
)

pub returns : goal.returns
returns g c = λ r lt.
    made_at _ _ c.from_fn.result (λ k b. goal.F-post g c.args.test k b) (λ k b q call. (search (of_calls, step_stays_lem), step_gives _ _ _ _ _ (search of_calls) call))
    c.from_fn.ensures.items r lt false
