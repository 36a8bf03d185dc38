-- The gap and the step that are told.
use Rattle.std.proofs.Common.{◌≡◌, ℕ}
use mathlib.Core.Logic.Dec
use Rattle.expressiveness.specs.Order.{Above, FirstGap, FirstStep, Gap, Least, Step}
use Rattle.expressiveness.proofs.Search.{dec-like, first, least-one, some?}
use Rattle.expressiveness.proofs.Ground.{Ground, above?, some-above?, some-below?}

module _ {N : ℕ} {◌⊒◌ : ℕ → ℕ → Type 0} {Led : ℕ → Type 0} (g : Ground N ◌⊒◌ Led) where
  unfoldable pub gap-at? : (x : ℕ) → Dec ((u : ℕ) × (l : ℕ) × Gap ◌⊒◌ Led u x l)
  gap-at? x =
      dec-like (
        λ (n, ((u, (a, p)), (l, (b, q)))). (u, l, record { over = a; under = b; upper-led = p; middle-not = n; lower-led = q }),
        λ (u, l, h). (h.middle-not, ((u, (h.over, h.upper-led)), (l, (h.under, h.lower-led)))),
      )
      (Dec.and (Dec.not (g.led? x)) (Dec.and (some-above? g g.led? x) (some-below? g g.led? x)))

  unfoldable pub step-at? : (l : ℕ) → Dec ((u : ℕ) × Step ◌⊒◌ Led u l)
  step-at? l =
      dec-like (λ (p, (u, (a, n))). (u, record { over = a; upper-not = n; lower-led = p }), λ (u, h). (h.lower-led, (u, (h.over, h.upper-not))))
      (Dec.and (g.led? l) (some-above? g (λ u. Dec.not (g.led? u)) l))

  unfoldable pub first_above : {P : ℕ → Type 0} → ((y : ℕ) → Dec (P y)) → (x y : ℕ) → Above ◌⊒◌ y x × P y → (u : ℕ) × Least (λ u. Above ◌⊒◌ u x × P u) u
  first_above d x = first N (λ y h. (g.within y x h.0.0).0) (λ y. Dec.and (above? g y x) (d y))

  unfoldable pub first-gap : (u x l : ℕ) → Gap ◌⊒◌ Led u x l → (upper : ℕ) × (middle : ℕ) × (lower : ℕ) × FirstGap ◌⊒◌ Led upper middle lower
  first-gap u x l gap =
      let (y, least) = first N (λ y (v, k, h). (g.within y k h.under.0).0) gap-at? x (u, l, gap) in
      let (v, k, h) = least.0 in
      let (a, p) = first_above g.led? y v (h.over, h.upper-led) in
      let (b, q) = first N (λ z i. (g.within y z i.0.0).1) (λ z. Dec.and (above? g y z) (g.led? z)) k (h.under, h.lower-led) in
      (a, y, b, record { middle-least = least; upper-least = p; lower-least = q })

  unfoldable pub first_step : (u l : ℕ) → Step ◌⊒◌ Led u l → (upper : ℕ) × (lower : ℕ) × FirstStep ◌⊒◌ Led upper lower
  first_step u l step =
      let (y, least) = first N (λ y (v, h). (g.within v y h.over.0).1) step-at? l (u, step) in
      let (v, h) = least.0 in
      let (a, p) = first_above (λ z. Dec.not (g.led? z)) y v (h.over, h.upper-not) in
      (a, y, record { lower-least = least; upper-least = p })

  unfoldable pub first-gap? : Dec ((upper : ℕ) × (middle : ℕ) × (lower : ℕ) × FirstGap ◌⊒◌ Led upper middle lower)
  first-gap? =
      dec-like (λ (x, (u, l, h)). first-gap u x l h, λ (u, x, l, h). (x, h.middle-least.0))
      (some? N (λ y (v, k, h). (g.within y k h.under.0).0) gap-at?)

  unfoldable pub first-step? : Dec ((upper : ℕ) × (lower : ℕ) × FirstStep ◌⊒◌ Led upper lower)
  first-step? =
      dec-like (λ (l, (u, h)). first_step u l h, λ (u, l, h). (l, h.lower-least.0))
      (some? N (λ y (v, h). (g.within v y h.over.0).1) step-at?)

-- no other gap or step is told
module _ {◌⊒◌ : ℕ → ℕ → Type 0} {Led : ℕ → Type 0} where
  pub one-gap : (u x l u' x' l' : ℕ) → FirstGap ◌⊒◌ Led u x l → FirstGap ◌⊒◌ Led u' x' l' → (u ≡ u') × (x ≡ x') × (l ≡ l')
  one-gap u x l u' x' l' p q =
      let e = least-one x x' p.middle-least q.middle-least in
      (least-one u u' (rw e at p.upper-least) q.upper-least, e, least-one l l' (rw e at p.lower-least) q.lower-least)

  pub one-step : (u l u' l' : ℕ) → FirstStep ◌⊒◌ Led u l → FirstStep ◌⊒◌ Led u' l' → (u ≡ u') × (l ≡ l')
  one-step u l u' l' p q =
      let e = least-one l l' p.lower-least q.lower-least in (least-one u u' (rw e at p.upper-least) q.upper-least, e)
