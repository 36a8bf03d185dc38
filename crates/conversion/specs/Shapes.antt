-- What stands in the way of a list, and its floors, told from the flags of the led requests. Only inner functions cite this.
use Rattle.std.specs.Prelude.{◌≡◌, ℕ, ◌<◌, Bool, true, false, cond, Ok, Err, Decides, Result}
use Rattle.expressiveness.specs.Order.{CounterFloor, FirstGap, FirstStep, Gap as IsGap, LeadFloor, Least, Step as IsStep}
use Rattle.conversion.specs.declared.flags.Flags.{Flags}
use Rattle.conversion.specs.declared.floors.FloorFlags.{FloorFlags}
use Rattle.conversion.specs.declared.order.Order.{Order}
use Rattle.conversion.specs.declared.side.Side.{Side}
use Rattle.conversion.specs.declared.side.Side.TheVariants.{Above, Below}
use Rattle.conversion.specs.declared.refusal.Unconverted.{Unconverted}
use Rattle.conversion.specs.declared.refusal.Unconverted.TheVariants.{Misfit, FewWorkBytes, Gap, Step, FewSlots}
use Rattle.conversion.specs.Flags.{Up, flag}
use Rattle.conversion.specs.Beyond.{Beyond, OverIn, SomeBeyond}

-- Request r is of the set.
abbrev pub In : Order → Flags → ℕ → Type 0
In o xs r = (r < o.total) × Up xs r

-- The first of a set on one side of x.
abbrev pub FirstBeyond : Order → Side → ℕ → Flags → ℕ → Type 0
FirstBeyond o side x members = Least (λ y. Beyond o side x y × Up members y)

-- The flags tell which requests have the property P.
abbrev pub Flagged : Order → (ℕ → Type 0) → Flags → Type 0
Flagged o P xs = (x : ℕ) → x < o.total → Decides (flag xs x) (P x)

-- x is the middle of a gap.
abbrev pub Middle : Order → Flags → ℕ → Type 0
Middle o led x = (Up led x → ⊥) × (SomeBeyond o Above led x × SomeBeyond o Below led x)

-- x is the lower request of a step.
abbrev pub Lower : Order → Flags → ℕ → Type 0
Lower o led x = Up led x × ((y : ℕ) × (Beyond o Above x y × (In o led y → ⊥)))

abbrev pub AnyGap : Order → Flags → Type 0
AnyGap o led = (upper : ℕ) × (middle : ℕ) × (lower : ℕ) × IsGap (OverIn o) (In o led) upper middle lower

abbrev pub AnyStep : Order → Flags → Type 0
AnyStep o led = (upper : ℕ) × (lower : ℕ) × IsStep (OverIn o) (In o led) upper lower

-- Where the default overrides or not: the floors, and that nothing stands in the way; or the first gap, or the first step.
abbrev pub Shaped : Order → Bool → Flags → Result FloorFlags Unconverted → Type 0
Shaped o w led (Ok floors) =
    (cond w (AnyGap o led) (AnyStep o led) → ⊥)
    × (Flagged o (LeadFloor (OverIn o) (In o led)) floors.lead × Flagged o (λ x. (w ≡ true) × CounterFloor (OverIn o) (In o led) x) floors.counter)
Shaped o w led (Err Misfit) = ⊥
Shaped o w led (Err (FewWorkBytes requests)) = ⊥
Shaped o w led (Err (Gap upper middle lower)) = (w ≡ true) × FirstGap (OverIn o) (In o led) upper middle lower
Shaped o w led (Err (Step upper lower)) = (w ≡ false) × FirstStep (OverIn o) (In o led) upper lower
Shaped o w led (Err (FewSlots rules)) = ⊥
