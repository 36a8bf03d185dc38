-- What the last steps of a conversion answer. Only inner functions cite this.
use Rattle.std.specs.Prelude.{◌≡◌, ℕ, ◌<◌, ◌≤◌, Bool, List, length, Ok, Err, Result}
use Rattle.rules.specs.declared.letter.Model.{Model as ModelOf}
use Rattle.rules.specs.declared.rule.Rule.{Rule}
use Rattle.rules.specs.Filled.{filled}
use Rattle.policies.specs.Policies.{Meaning}
use Rattle.expressiveness.specs.Floors.{list_of}
use Rattle.conversion.specs.declared.floors.FloorFlags.{FloorFlags}
use Rattle.conversion.specs.declared.order.Order.{Order}
use Rattle.conversion.specs.declared.refusal.Unconverted.{Unconverted}
use Rattle.conversion.specs.declared.refusal.Unconverted.TheVariants.{Misfit, FewSlots}
use Rattle.conversion.specs.Beyond.{IsOrder}
use Rattle.conversion.specs.Converts.{Fits}
use Rattle.conversion.specs.Flags.{raised}

-- The order of the requests, where it fits the policy.
abbrev pub Fitted : ℕ → (ℕ → ℕ → Bool) → ℕ → Meaning → Result Order Unconverted → Type 0
Fitted posts f n p (Ok o) = IsOrder posts f n o × (o.total ≡ p.requests)
Fitted posts f n p (Err e) = (e ≡ Misfit) × ((m : ModelOf) → Fits posts f n p m → ⊥)

-- The list that the flags of its floors make.
abbrev pub flagged_list : Order → ModelOf → FloorFlags → List Rule
flagged_list o m floors = list_of o.conditions m (raised floors.lead o.total) (raised floors.counter o.total)

-- It is written and counted where the slots are enough.
abbrev pub Listed : Order → ModelOf → FloorFlags → List Rule → Result (ℕ × ℕ) Unconverted → List Rule → Type 0
Listed o m floors slots (Ok counts) slots' =
    ((counts.0 ≡ length (raised floors.lead o.total)) × (counts.1 ≡ length (raised floors.counter o.total)))
    × ((length (flagged_list o m floors) ≤ length slots) × (slots' ≡ filled (flagged_list o m floors) slots))
Listed o m floors slots (Err e) slots' = (e ≡ FewSlots (length (flagged_list o m floors))) × ((length slots < length (flagged_list o m floors)) × (slots' ≡ slots))
