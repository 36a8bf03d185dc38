-- Lists of a model that decide as a policy does, and the defined list among them.
use Rattle.std.specs.Prelude.{◌≡◌, ℕ, ◌<◌, Bool, true, cond, List, ◌++◌, map}
use mathlib.Core.List.{Memᴰ}
use Rattle.rules.specs.declared.letter.Letter.TheVariants.{Model}
use Rattle.rules.specs.declared.letter.Model.{Model as ModelOf}
use Rattle.rules.specs.declared.rule.Effect.{Effect}
use Rattle.rules.specs.declared.rule.Rule.{Rule}
use Rattle.rules.specs.Models.{default, default_overrides, lead}
use Rattle.rules.specs.Requests.{AtOrAbove, request_at, request_total}
use Rattle.policies.specs.Lists.{Applied, ListDecides}
use Rattle.expressiveness.specs.Order.{CounterFloor, Gap, LeadFloor, Rising, Step}

-- Request r is at or above request s, by their numbers with n conditions.
abbrev pub Over : (ℕ → ℕ → Bool) → ℕ → ℕ → ℕ → Type 0
Over f n r s = AtOrAbove f (request_at n r) (request_at n s)

-- The rule t is the floor rule of effect e whose floor is request r: it needs the conditions of r, has its post as floor post, and bars nothing.
pub record IsFloorRule (n : ℕ) (e : Effect) (r : ℕ) (t : Rule) : Type 0 where
  pub effect : t.effect ≡ e
  pub needed : t.needed ≡ (request_at n r).set
  pub floor : t.floor ≡ (request_at n r).post
  pub barred : t.barred ≡ 0
  pub posts : t.barred_posts ≡ 0

-- The list ts has that rule.
abbrev pub HasRule : ℕ → List Rule → Effect → ℕ → Type 0
HasRule n ts e r = (t : Rule) × (Memᴰ t ts × IsFloorRule n e r t)

-- That rule as a record.
abbrev pub floor_rule : ℕ → Effect → ℕ → Rule
floor_rule n e r = record { effect = e; needed = (request_at n r).set; barred = 0; floor = (request_at n r).post; barred_posts = 0 }

-- The list of model m with these floors, lead rules first and then counter rules.
abbrev pub list_of : ℕ → ModelOf → List ℕ → List ℕ → List Rule
list_of n m leads counters = map (floor_rule n (lead m)) leads ++ map (floor_rule n (default m)) counters

-- A policy gives each request an effect, on a ladder of so many posts ordered by f and with n conditions; m is the model asked for.
module _ (posts : ℕ) (f : ℕ → ℕ → Bool) (n : ℕ) (policy : ℕ → Effect) (m : ModelOf) where
  -- The request gets the model's lead effect.
  abbrev pub Led : ℕ → Type 0
  Led r = (r < request_total posts n) × (policy r ≡ lead m)

  -- What stands in the way of a list: a gap where the default overrides, else a step.
  abbrev pub Obstacle : Type 0
  Obstacle =
      cond (default_overrides m)
      ((upper : ℕ) × (middle : ℕ) × (lower : ℕ) × Gap (Over f n) Led upper middle lower)
      ((upper : ℕ) × (lower : ℕ) × Step (Over f n) Led upper lower)

  -- The list ts of model m decides every request as the policy does.
  abbrev pub Alike : List Rule → Type 0
  Alike ts = (r : ℕ) → r < request_total posts n → ListDecides f (Model m) ts (request_at n r) (policy r)

  -- The floors of the defined list, by rising number. Only where the default overrides are there counter floors.
  pub record Floors (leads counters : List ℕ) : Type 0 where
    pub leads-are : Rising (LeadFloor (Over f n) Led) (request_total posts n) leads
    pub counters-are : Rising (λ r. (default_overrides m ≡ true) × CounterFloor (Over f n) Led r) (request_total posts n) counters

  -- The list ts has each lead rule of the list with these floors; where the default overrides, each request that its counter rules reach is
  -- reached by a counter rule of that list.
  pub record Contains (ts : List Rule) (leads counters : List ℕ) : Type 0 where
    pub lead-rules : (r : ℕ) → Memᴰ r leads → HasRule n ts (lead m) r
    pub counter-rules : default_overrides m ≡ true → (r : ℕ) → r < request_total posts n
        → Applied f (Model m) ts (request_at n r) (default m) → Applied f (Model m) (list_of n m leads counters) (request_at n r) (default m)
