-- What converting a policy into a list of a model answers, what it leaves, and what its answers mean.
use Rattle.std.specs.Prelude.{◌≡◌, ℕ, ◌+◌, ◌<◌, ◌≤◌, Bool, true, false, ◌⊎◌, List, map, length, take, Ok, Err, Result}
use Rattle.std.specs.List.{range_with_len}
use Rattle.rules.specs.declared.letter.Model.{Model as ModelOf}
use Rattle.rules.specs.declared.rule.Effect.{Effect}
use Rattle.rules.specs.declared.rule.Effect.TheVariants.{Permit, Deny}
use Rattle.rules.specs.declared.rule.Rule.{Rule}
use Rattle.rules.specs.Filled.{filled}
use Rattle.rules.specs.Models.{default_overrides}
use Rattle.rules.specs.Requests.{request_total}
use Rattle.policies.specs.Policies.{Meaning}
use Rattle.expressiveness.specs.Order.{FirstGap, FirstStep}
use Rattle.expressiveness.specs.Floors.{Alike, Contains, Floors, Led, Obstacle, Over, list_of}
use Rattle.conversion.specs.declared.refusal.Unconverted.{Unconverted}
use Rattle.conversion.specs.declared.refusal.Unconverted.TheVariants.{Misfit, FewWorkBytes, Gap, Step, FewSlots}
use Rattle.conversion.specs.Refusals.{number_of}

-- The byte of a request in a chart: 1 where it is permitted, and 0 where it is denied.
abbrev pub byte_of : Effect → ℕ
byte_of Permit = 1
byte_of Deny = 0

-- The answer shows that no list exists: it is refusal 17, a gap, or 18, a step.
abbrev pub ShowsNone : Result (ℕ × ℕ) Unconverted → Type 0
ShowsNone (Ok counts) = ⊥
ShowsNone (Err e) = (number_of e ≡ 17) ⊎ (number_of e ≡ 18)

-- A policy p is converted into a list of the model m, on a ladder of so many posts ordered by f and with n conditions.
module _ (posts : ℕ) (f : ℕ → ℕ → Bool) (n : ℕ) (p : Meaning) (m : ModelOf) where
  -- It fits: there are at most nine conditions, and the policy has as many requests as the posts and conditions make.
  abbrev pub Fits : Type 0
  Fits = (n ≤ 9) × (p.requests ≡ request_total posts n)

  -- It fits, and there is a work byte for every request.
  abbrev pub Ready : List ℕ → Type 0
  Ready work = Fits × (request_total posts n ≤ length work)

  -- The work bytes as they are left once the policy has been asked: a byte for each request, and the later ones as they were.
  abbrev pub charted : List ℕ → List ℕ
  charted work = filled (map (λ r. byte_of (p.effect r)) (range_with_len 0 (request_total posts n))) work

  -- Nothing stands in the way of a list, and the defined list has these floors.
  pub record Defined (leads counters : List ℕ) : Type 0 where
    pub clear : Obstacle posts f n p.effect m → ⊥
    pub floors : Floors posts f n p.effect m leads counters

  -- Which answer comes, and what is left in the work bytes and the slots. What does not fit, or has too few work bytes, touches nothing.
  -- Every other answer leaves the chart in the work bytes, and only a grant touches the slots: the first hold the defined list.
  abbrev pub Answers : List ℕ → List Rule → Result (ℕ × ℕ) Unconverted → List ℕ → List Rule → Type 0
  Answers work slots (Err Misfit) work' slots' = (Fits → ⊥) × ((work' ≡ work) × (slots' ≡ slots))
  Answers work slots (Err (FewWorkBytes requests)) work' slots' =
      Fits × ((requests ≡ request_total posts n) × ((length work < requests) × ((work' ≡ work) × (slots' ≡ slots))))
  Answers work slots (Err (Gap upper middle lower)) work' slots' =
      Ready work
      × ((default_overrides m ≡ true)
      × (FirstGap (Over f n) (Led posts f n p.effect m) upper middle lower × ((work' ≡ charted work) × (slots' ≡ slots))))
  Answers work slots (Err (Step upper lower)) work' slots' =
      Ready work
      × ((default_overrides m ≡ false) × (FirstStep (Over f n) (Led posts f n p.effect m) upper lower × ((work' ≡ charted work) × (slots' ≡ slots))))
  Answers work slots (Err (FewSlots rules)) work' slots' =
      Ready work
      × ((leads : List ℕ)
      × ((counters : List ℕ)
      × (Defined leads counters
      × ((rules ≡ length (list_of n m leads counters)) × ((length slots < rules) × ((work' ≡ charted work) × (slots' ≡ slots)))))))
  Answers work slots (Ok counts) work' slots' =
      Ready work
      × ((leads : List ℕ)
      × ((counters : List ℕ)
      × (Defined leads counters
      × ((counts.0 ≡ length leads)
      × ((counts.1 ≡ length counters)
      × ((length (list_of n m leads counters) ≤ length slots)
      × ((work' ≡ charted work) × (slots' ≡ filled (list_of n m leads counters) slots))))))))

  -- One answer comes, and one thing is left.
  abbrev pub OneAnswer : List ℕ → List Rule → Type 0
  OneAnswer work slots =
      (r s : Result (ℕ × ℕ) Unconverted) (w v : List ℕ) (ts us : List Rule) → Answers work slots r w ts → Answers work slots s v us → (r ≡ s) × ((w ≡ v) × (ts ≡ us))

  -- What an answer means.
  pub record Law (r : Result (ℕ × ℕ) Unconverted) (slots' : List Rule) : Type 0 where
    -- 17 or 18 comes exactly where no list of the model, of whatever length and records, decides every request as the policy does.
    pub none : ShowsNone r → (ts : List Rule) → Alike posts f n p.effect m ts → ⊥
    pub only : ((ts : List Rule) → Alike posts f n p.effect m ts → ⊥) → ShowsNone r
    -- A granted list, as it stands in the slots, decides every request as the policy does.
    pub granted : (leads counters : ℕ) → r ≡ Ok (leads, counters) → Alike posts f n p.effect m (take (leads + counters) slots')
    -- Every list of the model that decides so has each lead rule of the defined list, and where the default overrides its counter rules
    -- reach nothing that those of the defined list do not reach.
    pub least : (leads counters : List ℕ) → Floors posts f n p.effect m leads counters → (ts : List Rule) → Alike posts f n p.effect m ts
        → Contains posts f n p.effect m ts leads counters

-- What a conversion promises: the answer that comes and what is left, that there is no other, and what it means.
pub record Converts (posts : ℕ) (f : ℕ → ℕ → Bool) (n : ℕ) (p : Meaning) (m : ModelOf) (work : List ℕ) (slots : List Rule) (r : Result (ℕ × ℕ) Unconverted) (work' : List ℕ) (slots' : List Rule) : Type 0 where
  pub answer : Answers posts f n p m work slots r work' slots'
  pub once : OneAnswer posts f n p m work slots
  pub law : Ready posts f n p m work → Law posts f n p m r slots'
