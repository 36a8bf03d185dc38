use Rattle.std.proofs.Common.{◌≡◌, ap₂, ◌∷◌, Some, None, sym, ap, ◌∙◌, subst, rules}
use Rattle.std.specs.Iterator.{YieldsFirst}
use Rattle.writing.specs.Steps.{bars_post, names_condition, given_by, items_left}
use Rattle.writing.proofs.Picks.{gives-none, gives-lowest, left-post, front, progress}
use Rattle.writing.proofs.order.ItemsIterator.next.Goals as goal

pub returns-in-Some-take_lowest-clause-steps : goal.returns-in-Some-take_lowest-clause-steps
returns-in-Some-take_lowest-clause-steps c =
    let s = c.args.self.now in
    left-post _ _ _ _ (given_by (names_condition s.needed) s.conditions) _ (sym c.take.ensures.value ∙ c.in_default.is) c.take.ensures.after
    (gives-lowest bars_post s.barred_posts c.take_lowest.new.set c.in-Some-take_lowest.p c.in-Some-take_lowest.ensures ∙ ap (λ i. i ∷ given_by bars_post c.take_lowest.new.set) (sym c.item.ensures))

pub returns-in-Some-take_lowest-clause-goes : goal.returns-in-Some-take_lowest-clause-goes
returns-in-Some-take_lowest-clause-goes c =
    let s = c.args.self.now in
    progress s (record { floor = c.take.new.self; barred_posts = c.take_lowest.new.set; conditions = s.conditions; needed = s.needed }) (Some c.item.result) (returns-in-Some-take_lowest-clause-steps c)

pub returns-in_err-c-clause-steps : goal.returns-in_err-c-clause-steps
returns-in_err-c-clause-steps c =
    let s = c.args.self.now in
    let posts = c.in_default-take_lowest.ensures in
    let conditions = c.in_err-c.ensures in
    let none : c.from_residual.result ≡ None = search rules in
    subst (λ r. YieldsFirst items_left s r (record { floor = c.take.new.self; barred_posts = c.take_lowest.new.set; conditions = c.take_lowest-2.new.set; needed = s.needed })) (sym none) (
      front _ _ _ (sym c.take.ensures.value ∙ c.in_default.is) (ap (given_by bars_post) posts.0 ∙ gives-none bars_post) ∙ ap (given_by (names_condition s.needed)) conditions.0 ∙ gives-none (names_condition s.needed),
      front _ _ _ c.take.ensures.after (ap (given_by bars_post) posts.1 ∙ gives-none bars_post) ∙ ap (given_by (names_condition s.needed)) conditions.1 ∙ gives-none (names_condition s.needed),
    )

pub returns-clause-steps : goal.returns-clause-steps
returns-clause-steps c =
    let s = c.args.self.now in
    let posts = c.in_default-take_lowest.ensures in
    let k = c.in_ok-c.c in
    let f = names_condition s.needed in
    let conditions = gives-lowest f s.conditions c.take_lowest-2.new.set k c.in_ok-c.ensures in
    front _ _ _ (sym c.take.ensures.value ∙ c.in_default.is) (ap (given_by bars_post) posts.0 ∙ gives-none bars_post)
    ∙ conditions
    ∙ ap₂ (λ i is. i ∷ is) (let e : f k ≡ c.item-2.result = search rules in e)
    (sym (front _ _ _ c.take.ensures.after (ap (given_by bars_post) posts.1 ∙ gives-none bars_post)))

pub returns-clause-goes : goal.returns-clause-goes
returns-clause-goes c =
    let s = c.args.self.now in
    progress s (record { floor = c.take.new.self; barred_posts = c.take_lowest.new.set; conditions = c.take_lowest-2.new.set; needed = s.needed }) (Some c.item-2.result) (returns-clause-steps c)
