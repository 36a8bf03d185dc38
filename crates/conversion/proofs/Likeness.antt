-- Sets of requests with the same members have the same gaps, steps and floors.
use Rattle.std.proofs.Common.{ℕ}
use Rattle.expressiveness.specs.Order.{CounterFloor, FirstGap, FirstStep, Gap, LeadFloor, Step}
use Rattle.expressiveness.proofs.Search.{least-like}

module _ {◌⊒◌ : ℕ → ℕ → Type 0} {A B : ℕ → Type 0} (to : (r : ℕ) → A r → B r) (from : (r : ℕ) → B r → A r) where
  pub gap-like : {u x l : ℕ} → Gap ◌⊒◌ A u x l → Gap ◌⊒◌ B u x l
  gap-like {u} {x} {l} g =
      record { over = g.over; under = g.under; upper-led = to u g.upper-led; middle-not = λ b. g.middle-not (from x b); lower-led = to l g.lower-led }

  pub step-like : {u l : ℕ} → Step ◌⊒◌ A u l → Step ◌⊒◌ B u l
  step-like {u} {l} s = record { over = s.over; upper-not = λ b. s.upper-not (from u b); lower-led = to l s.lower-led }

module _ {◌⊒◌ : ℕ → ℕ → Type 0} {A B : ℕ → Type 0} (to : (r : ℕ) → A r → B r) (from : (r : ℕ) → B r → A r) where
  pub first-gap-like : {u x l : ℕ} → FirstGap ◌⊒◌ A u x l → FirstGap ◌⊒◌ B u x l
  first-gap-like g =
      record {
        middle-least = least-like (λ x (u, l, h). (u, l, gap-like to from h)) (λ x (u, l, h). (u, l, gap-like from to h)) g.middle-least;
        upper-least = least-like (λ y (far, a). (far, to y a)) (λ y (far, b). (far, from y b)) g.upper-least;
        lower-least = least-like (λ y (far, a). (far, to y a)) (λ y (far, b). (far, from y b)) g.lower-least;
      }

  pub first-step-like : {u l : ℕ} → FirstStep ◌⊒◌ A u l → FirstStep ◌⊒◌ B u l
  first-step-like s =
      record {
        lower-least = least-like (λ l (u, h). (u, step-like to from h)) (λ l (u, h). (u, step-like from to h)) s.lower-least;
        upper-least = least-like (λ y (far, none). (far, λ b. none (from y b))) (λ y (far, none). (far, λ a. none (to y a))) s.upper-least;
      }

module _ (◌⊒◌ : ℕ → ℕ → Type 0) {A B : ℕ → Type 0} (to : (r : ℕ) → A r → B r) (from : (r : ℕ) → B r → A r) where
  pub lead-floor-like : (f : ℕ) → LeadFloor ◌⊒◌ A f → LeadFloor ◌⊒◌ B f
  lead-floor-like f (a, least) = (to f a, λ y far b. least y far (from y b))

  pub counter-floor-like : (f : ℕ) → CounterFloor ◌⊒◌ A f → CounterFloor ◌⊒◌ B f
  counter-floor-like f h =
      record { hopeless = λ y over b. h.hopeless y over (from y b); least = λ x far. let (y, (over, a)) = h.least x far in (y, (over, to y a)) }
