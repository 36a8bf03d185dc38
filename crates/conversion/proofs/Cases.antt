-- The worked cases hold: each is computed from the definitions.
use Rattle.std.proofs.Common.{◌≡◌, ℕ, ◌+◌, ◌<◌, ◌≤◌, Bool, true, false, eqb, leb, List, [], length, Ok, Err, Result, sym, refl, ◌∙◌, subst, arith}
use mathlib.Core.Logic.Dec
use native.Mathlib.Decide.{ℕ_discrete, dec_lt}
use Rattle.std.proofs.lemmas.Bool.{cond-true, eqb-true, leb-true}
use Rattle.ladders.specs.Ladders.{Lawful}
use Rattle.ladders.specs.Rank.{rank_at_least}
use Rattle.ladders.specs.Laws.{house-laws, rank-laws}
use Rattle.rules.specs.declared.letter.Letter.TheVariants.{Guarded}
use Rattle.rules.specs.declared.letter.Model.{Model as ModelOf}
use Rattle.rules.specs.declared.letter.Model.TheVariants.{A, B, C, D}
use Rattle.rules.specs.declared.rule.Effect.{Effect}
use Rattle.rules.specs.declared.rule.Rule.{Rule}
use Rattle.rules.specs.Filled.{filled}
use Rattle.rules.specs.Models.{default_overrides}
use Rattle.rules.specs.Requests.{request_at, request_total}
use Rattle.policies.specs.ListMeaning.{list_effect, none_below}
use Rattle.policies.specs.Policies.{Meaning}
use Rattle.policies.proofs.Deciding.{meant-effect}
use Rattle.expressiveness.specs.Order.{FirstGap, FirstStep}
use Rattle.expressiveness.specs.Floors.{Led, Over, list_of}
use Rattle.expressiveness.proofs.Search.{IsYes, dec-like, first, first_below, from-yes, imp?, some?}
use Rattle.expressiveness.proofs.Rising.{rising}
use Rattle.expressiveness.proofs.Ground.{above?, break?, counter-floor?, lead-floor?, led-over?, some-above?, some-below?}
use Rattle.expressiveness.proofs.Told.{first_above, first-gap, first-gap?, first_step, first-step?, gap-at?, step-at?}
use Rattle.expressiveness.proofs.Requests.{ground}
use Rattle.expressiveness.proofs.Lists.{by-effect, effect?, length-list}
use Rattle.expressiveness.proofs.Laws.{defined, here, obstacle?}
use Rattle.expressiveness.proofs.Agreeing.{floors-same, led-same, obstacle-same}
use Rattle.conversion.specs.declared.refusal.Unconverted.{Unconverted}
use Rattle.conversion.specs.declared.refusal.Unconverted.TheVariants.{Gap, Step, FewSlots}
use Rattle.conversion.specs.Converts.{Answers, Defined, Ready, charted}
use Rattle.conversion.specs.Worked.{Holds, Setting, WorkedCases, any_lent, below_chief, both_or_none, crossed, granted, house_only, one_post, refused}
use Rattle.conversion.proofs.Answering.{one_answer}

module _ (s : Setting) (laws : Lawful s.posts s.order) (few : leb s.conditions 9 ≡ true) (rules : List Rule) (m : ModelOf) where
  abbrev posts : ℕ
  posts = s.posts

  abbrev f : ℕ → ℕ → Bool
  f = s.order

  abbrev n : ℕ
  n = s.conditions

  -- what the list decides
  abbrev plan : ℕ → Effect
  plan r = list_effect f Guarded rules (request_at n r)

  -- the policy decides so
  abbrev Planned : Meaning → Type 0
  Planned p = (r : ℕ) → r < request_total posts n → plan r ≡ p.effect r

  -- an answer that is shown to come is the one that comes
  settled : (lent : ℕ → Bool) (answer : Result (ℕ × ℕ) Unconverted) (list : List Rule)
      → ((p : Meaning) → Planned p → (work : List ℕ) (slots : List Rule) → Ready posts f n p m work → lent (length slots) ≡ true
      → Answers posts f n p m work slots answer (charted posts f n p m work) (filled list slots))
      → Holds (record { setting = s; rules = rules; model = m; lent = lent; answer = answer; list = list })
  settled lent answer list comes p meant work work' slots slots' r enough lend a =
      let all : p.requests ≡ request_total posts n = meant.requests ∙ cond-true (leb n 9) (request_total posts n) 0 few in
      let b = comes p (λ r h. meant-effect laws meant r (rw all h)) work slots ((leb-true n 9 few, all), enough) lend in
      let same = one_answer posts f n p m work slots r answer work' (charted posts f n p m work) slots' (filled list slots) a b in
      (same.0, same.1.1)

  -- the floors of the defined list, and the list
  abbrev leads : List ℕ
  leads = (defined posts f n plan m laws).0

  abbrev counters : List ℕ
  counters = (defined posts f n plan m laws).1

  abbrev list : List Rule
  list = list_of n m leads counters

  -- nothing stands in its way
  abbrev Free : Type 0
  Free = IsYes (Dec.not (obstacle? posts f n plan m laws))

  free : Free → (p : Meaning) → Planned p → Defined posts f n p m leads counters
  free t p same =
      record {
        clear = λ o. from-yes (Dec.not (obstacle? posts f n plan m laws)) t (obstacle-same posts f n m (λ r h. sym (same r h)) o);
        floors = floors-same posts f n m same (defined posts f n plan m laws).2;
      }

  grants : Free → Holds (granted s rules m (length leads) (length counters) list)
  grants t =
      settled (leb (length leads + length counters)) (Ok (length leads, length counters)) list
      (λ p same work slots ready lend.
      let room : length list ≤ length slots = omega (arith, length-list n m leads counters, leb-true (length leads + length counters) (length slots) lend) in
      (ready, (leads, (counters, (free t p same, (refl, (refl, (room, (refl, refl)))))))))

  lacks-slots : Free → (k : ℕ) → k < length list → Holds (refused s rules m (eqb k) (FewSlots (length list)))
  lacks-slots t k h =
      settled (eqb k) (Err (FewSlots (length list))) []
      (λ p same work slots ready lend.
      let short : length slots < length list = omega (arith, eqb-true k (length slots) lend) in
      (ready, (leads, (counters, (free t p same, (refl, (short, (refl, refl))))))))

  module _ (over : default_overrides m ≡ true) (t : IsYes (first-gap? (here posts f n plan m laws))) where
    abbrev gap : (upper : ℕ) × (middle : ℕ) × (lower : ℕ) × FirstGap (Over f n) (Led posts f n plan m) upper middle lower
    gap = from-yes (first-gap? (here posts f n plan m laws)) t

    tells-gap : Holds (refused s rules m any_lent (Gap gap.0 gap.1 gap.2))
    tells-gap =
        settled any_lent (Err (Gap gap.0 gap.1 gap.2)) []
        (λ p same work slots ready lend.
        (ready, (over, (subst (λ L. FirstGap (Over f n) L gap.0 gap.1 gap.2) (led-same posts f n m same) gap.3, (refl, refl)))))

  module _ (under : default_overrides m ≡ false) (t : IsYes (first-step? (here posts f n plan m laws))) where
    abbrev step : (upper : ℕ) × (lower : ℕ) × FirstStep (Over f n) (Led posts f n plan m) upper lower
    step = from-yes (first-step? (here posts f n plan m laws)) t

    tells-step : Holds (refused s rules m any_lent (Step step.0 step.1))
    tells-step =
        settled any_lent (Err (Step step.0 step.1)) []
        (λ p same work slots ready lend.
        (ready, (under, (subst (λ L. FirstStep (Over f n) L step.0 step.1) (led-same posts f n m same) step.2, (refl, refl)))))

one : Lawful 1 (rank_at_least 1)
one = rank-laws 1 (omega arith, omega arith)

infixr 20 ◌also◌
◌also◌ : {P Q : Type 0} → P → Q → P × Q
p also q = (p, q)

pub worked_cases : WorkedCases
unfolding none_below here defined obstacle? ground rising lead-floor? counter-floor? led-over? break? some-below? some-above? above? some? first first_below
    dec-like imp? by-effect effect? gap-at? step-at? first_above first-gap first_step first-gap? first-step? Dec.and Dec.not ℕ_discrete dec_lt
worked_cases =
    grants (one_post 3) one refl crossed A tt
    also tells-gap (one_post 3) one refl crossed B refl tt
    also tells-step (one_post 3) one refl crossed C refl tt
    also tells-step (one_post 3) one refl crossed D refl tt
    also lacks-slots (one_post 3) one refl crossed A tt 2 (omega arith)
    also tells-gap (one_post 2) one refl both_or_none A refl tt
    also grants house_only house-laws refl below_chief A tt
    also tells-gap house_only house-laws refl below_chief B refl tt
    also grants (one_post 1) one refl [] A tt
    also grants (one_post 1) one refl [] C tt
    also tt
