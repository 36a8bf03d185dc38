-- Worked cases of conversion.
use Rattle.std.specs.Prelude.{◌≡◌, ℕ, ◌+◌, ◌≤◌, Bool, true, List, [], ◌∷◌, length, Ok, Err, Result, nat_eq, nat_le}
use Rattle.std.specs.List.{AllByRecursion}
use Rattle.ladders.specs.House.{house_at_least}
use Rattle.ladders.specs.Rank.{rank_at_least}
use Rattle.rules.specs.declared.letter.Letter.TheVariants.{Guarded}
use Rattle.rules.specs.declared.letter.Model.{Model as ModelOf}
use Rattle.rules.specs.declared.letter.Model.TheVariants.{A, B, C, D}
use Rattle.rules.specs.declared.rule.Effect.{Effect}
use Rattle.rules.specs.declared.rule.Effect.TheVariants.{Permit, Deny}
use Rattle.rules.specs.declared.rule.Rule.{Rule}
use Rattle.rules.specs.Filled.{filled}
use Rattle.rules.specs.Requests.{request_total}
use Rattle.policies.specs.Lists.{Meant}
use Rattle.policies.specs.Policies.{Meaning}
use Rattle.conversion.specs.declared.refusal.Unconverted.{Unconverted}
use Rattle.conversion.specs.declared.refusal.Unconverted.TheVariants.{Gap, Step, FewSlots}
use Rattle.conversion.specs.Converts.{Answers}

-- A ladder and a number of conditions.
pub record Setting : Type 0 where
  pub posts : ℕ
  pub order : ℕ → ℕ → Bool
  pub conditions : ℕ

-- A guarded list, a model to convert its policy into, which numbers of slots are lent, the answer, and the rules that then stand in the first slots.
pub record Case : Type 0 where
  pub setting : Setting
  pub rules : List Rule
  pub model : ModelOf
  pub lent : ℕ → Bool
  pub answer : Result (ℕ × ℕ) Unconverted
  pub list : List Rule

-- Whatever policy the list means, that answer comes and that list is left.
abbrev pub Holds : Case → Type 0
Holds c =
    (p : Meaning) → Meant c.setting.posts c.setting.order Guarded c.setting.conditions c.rules p
    → (work work' : List ℕ) (slots slots' : List Rule) (r : Result (ℕ × ℕ) Unconverted)
    → request_total c.setting.posts c.setting.conditions ≤ length work → c.lent (length slots) ≡ true
    → Answers c.setting.posts c.setting.order c.setting.conditions p c.model work slots r work' slots'
    → (r ≡ c.answer) × (slots' ≡ filled c.list slots)

-- One post and n conditions; the house ladder without conditions.
abbrev pub one_post : ℕ → Setting
one_post n = record { posts = 1; order = rank_at_least 1; conditions = n }

abbrev pub house_only : Setting
house_only = record { posts = 8; order = house_at_least; conditions = 0 }

-- A rule of a floor post, a set of needed and a set of barred conditions, and a set of barred posts: condition a and post 0 are 1, b and post 1 are 2,
-- c and post 2 are 4, and so on.
abbrev pub rule_of : Effect → ℕ → ℕ → ℕ → ℕ → Rule
rule_of e floor needed barred posts = record { effect = e; needed = needed; barred = barred; floor = floor; barred_posts = posts }

-- + a !b, + b !c
abbrev pub crossed : List Rule
crossed = rule_of Permit 0 1 2 0 ∷ (rule_of Permit 0 2 4 0 ∷ [])

-- + a b, + !a !b
abbrev pub both_or_none : List Rule
both_or_none = rule_of Permit 0 3 0 0 ∷ (rule_of Permit 0 0 3 0 ∷ [])

-- + 3 !6
abbrev pub below_chief : List Rule
below_chief = rule_of Permit 3 0 0 64 ∷ []

abbrev pub granted : Setting → List Rule → ModelOf → ℕ → ℕ → List Rule → Case
granted s rules m leads counters list = record { setting = s; rules = rules; model = m; lent = nat_le (leads + counters); answer = Ok (leads, counters); list = list }

abbrev pub refused : Setting → List Rule → ModelOf → (ℕ → Bool) → Unconverted → Case
refused s rules m lent e = record { setting = s; rules = rules; model = m; lent = lent; answer = Err e; list = [] }

abbrev pub any_lent : ℕ → Bool
any_lent k = true

abbrev pub worked : List Case
worked =
    granted (one_post 3) crossed A 2 1 (rule_of Permit 0 1 0 0 ∷ (rule_of Permit 0 2 0 0 ∷ (rule_of Deny 0 6 0 0 ∷ [])))
    ∷ (refused (one_post 3) crossed B any_lent (Gap 7 1 0)
    ∷ (refused (one_post 3) crossed C any_lent (Step 7 1)
    ∷ (refused (one_post 3) crossed D any_lent (Step 1 0)
    ∷ (refused (one_post 3) crossed A (nat_eq 2) (FewSlots 3)
    ∷ (refused (one_post 2) both_or_none A any_lent (Gap 3 1 0)
    ∷ (granted house_only below_chief A 1 2 (rule_of Permit 3 0 0 0 ∷ (rule_of Deny 1 0 0 0 ∷ (rule_of Deny 6 0 0 0 ∷ [])))
    ∷ (refused house_only below_chief B any_lent (Gap 6 3 0)
    ∷ (granted (one_post 1) [] A 0 1 (rule_of Deny 0 0 0 0 ∷ [])
    ∷ (granted (one_post 1) [] C 0 0 [] ∷ [])))))))))

-- The table of worked cases holds.
abbrev pub WorkedCases : Type 0
WorkedCases = AllByRecursion Holds worked
