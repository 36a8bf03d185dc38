-- Gaps, steps and floors, over any order of the requests.
use Rattle.std.specs.Prelude.{ℕ, zero, suc, ◌<◌, List, [], ◌∷◌, ◌++◌, ◌≢◌}

-- x is the least number with the property P.
abbrev pub Least : (ℕ → Type 0) → ℕ → Type 0
Least P x = P x × ((y : ℕ) → y < x → P y → ⊥)

-- The numbers below k with the property P, by rising number.
pub data Rising (P : ℕ → Type 0) : ℕ → List ℕ → Type 0 where
  none : Rising P zero []
  skip : {k : ℕ} {xs : List ℕ} → Rising P k xs → (P k → ⊥) → Rising P (suc k) xs
  next : {k : ℕ} {xs : List ℕ} → Rising P k xs → P k → Rising P (suc k) (xs ++ (k ∷ []))

-- Where x ⊒ y says that x is at or above y,
module _ (◌⊒◌ : ℕ → ℕ → Type 0) where
  infix 40 ◌⊒◌
  -- x is above y: at or above it, and another request.
  abbrev pub Above : ℕ → ℕ → Type 0
  Above x y = (x ⊒ y) × (x ≢ y)

  -- x is a lowest request with the property P: no request below it has it.
  abbrev pub Minimal : (ℕ → Type 0) → ℕ → Type 0
  Minimal P x = P x × ((y : ℕ) → Above x y → P y → ⊥)

  -- and some requests are led, those that get the lead effect:
  module _ (Led : ℕ → Type 0) where
    -- a gap: a middle request that is not led, with a led one above it and a led one below it;
    pub record Gap (upper middle lower : ℕ) : Type 0 where
      pub over : Above upper middle
      pub under : Above middle lower
      pub upper-led : Led upper
      pub middle-not : Led middle → ⊥
      pub lower-led : Led lower

    -- a step: a led request with one above that is not led;
    pub record Step (upper lower : ℕ) : Type 0 where
      pub over : Above upper lower
      pub upper-not : Led upper → ⊥
      pub lower-led : Led lower

    -- a request that can no longer be led: there is no led one at or above it;
    abbrev pub Hopeless : ℕ → Type 0
    Hopeless x = (y : ℕ) → y ⊒ x → Led y → ⊥

    -- a lead floor: a led request with no led one below it;
    abbrev pub LeadFloor : ℕ → Type 0
    LeadFloor = Minimal Led

    -- a counter floor: a request with no led one at or above it, below which each request has one.
    pub record CounterFloor (f : ℕ) : Type 0 where
      pub hopeless : Hopeless f
      pub least : (x : ℕ) → Above f x → (y : ℕ) × ((y ⊒ x) × Led y)

    -- The gap that is told: the least middle, then the least led request above it and the least led one below it.
    pub record FirstGap (upper middle lower : ℕ) : Type 0 where
      pub middle-least : Least (λ x. (u : ℕ) × (l : ℕ) × Gap u x l) middle
      pub upper-least : Least (λ u. Above u middle × Led u) upper
      pub lower-least : Least (λ l. Above middle l × Led l) lower

    -- The step that is told: the least lower request, then the least one above it that is not led.
    pub record FirstStep (upper lower : ℕ) : Type 0 where
      pub lower-least : Least (λ l. (u : ℕ) × Step u l) lower
      pub upper-least : Least (λ u. Above u lower × (Led u → ⊥)) upper
