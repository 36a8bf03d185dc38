use Rattle.std.proofs.Common.{◌≡◌, ◌<◌, ◌∙◌, length, get_or, arith, rules, tests}
use Rattle.std.proofs.lemmas.Iterator.Consumers.{YieldsList-end, YieldsList-turn}
use Rattle.std.proofs.lemmas.List.{length_push}
use Rattle.std.proofs.lemmas.List.FromFn.{length-enumerate_from}
use Rattle.expressiveness.specs.Floors.{floor_rule}
use Rattle.conversion.specs.Flags.{flag, raised}
use Rattle.conversion.proofs.Raised.{raised-below}
use Rattle.conversion.proofs.Putting.{each-placed, placed, put-all, put-more}
use Rattle.conversion.proofs.order.Order.put_rules.Goals as goal

-- where an iteration is among the floors
turn : (c : goal.In-Some) → (length c.loop-place.yielded < length (raised c.args.floors.now c.args.self.now.total))
    × ((c.in-Some.place ≡ length c.loop-place.yielded) × (c.in-Some.floor ≡ get_or (raised c.args.floors.now c.args.self.now.total) (length c.loop-place.yielded) 0))
turn c =
    let total = c.args.self.now.total in
    placed (raised c.args.floors.now total) (length c.loop-place.yielded) c.in-Some.place c.in-Some.floor
    (YieldsList-turn
    (each-placed (flag c.args.floors.now) total c.into_iter-place-iterator.ensures.into_iter_gives c.enumerate-place-items.ensures.source c.enumerate-place-items.ensures.count
    c.filter.ensures.source c.filter.ensures.closure (λ x b q k. search (rules, tests)))
    c.loop-place.yielded _ c.loop-place.yielded_by _ _ (c.in-Some.place, c.in-Some.floor) c.in-Some.is c.next.ensures.steps)

pub floor_rule-requires : goal.floor_rule-requires
floor_rule-requires c =
    let (lt, (place, floor)) = turn c in
    rw floor (raised-below c.args.floors.now c.args.self.now.total (length c.loop-place.yielded) 0 lt)

pub bounds-slots-place : goal.bounds-slots-place
bounds-slots-place c = let (lt, (place, floor)) = turn c.before in omega (arith, c.loop-place.auto.slots, c.requires)

pub offset_bounds-slots-place : goal.offset_bounds-slots-place
offset_bounds-slots-place c = let (lt, (place, floor)) = turn c.before in search rules

pub loop-place-preserved : goal.loop-place-preserved
loop-place-preserved c =
    let (lt, (place, floor)) = turn c.before in
    let rule = floor_rule c.args.self.now.conditions c.args.effect in
    record {
      can = rw c.in-Some.is at c.next.ensures.goes.keeps;
      finite = search rules;
      put = rw (length_push, c.floor_rule.ensures, floor, place) (put-more rule (raised c.args.floors.now c.args.self.now.total) (length c.loop-place.yielded) c.loop-place.slots (omega (arith, c.loop-place.auto.slots, c.requires)) c.loop-place.invariant.put);
    }

pub returns : goal.returns
returns c =
    let total = c.args.self.now.total in
    let floors = raised c.args.floors.now total in
    let all = YieldsList-end
    (each-placed (flag c.args.floors.now) total c.into_iter-place-iterator.ensures.into_iter_gives c.enumerate-place-items.ensures.source c.enumerate-place-items.ensures.count
    c.filter.ensures.source c.filter.ensures.closure (λ x b q k. search (rules, tests)))
    c.loop-place.yielded _ c.loop-place.yielded_by _ _ c.in-None.is c.next.ensures.steps in
    let long : length c.loop-place.yielded ≡ length floors = all.1 ∙ length-enumerate_from 0 floors in
    put-all (floor_rule c.args.self.now.conditions c.args.effect) floors c.loop-place.slots (c.loop-place.auto.slots ∙ c.requires)
    (λ k d lt. c.loop-place.invariant.put k d (omega arith))
