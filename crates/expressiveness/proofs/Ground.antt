-- A finite order that is decided, and the led requests in it: lowest requests, and the lists of floor rules over it.
use Rattle.std.proofs.Common.{◌≡◌, ℕ, zero, suc, ◌<◌, Bool, true, refl, inl, inr, arith}
use mathlib.Core.Bool.{Bool-discrete}
use mathlib.Core.Logic.Dec
use native.Mathlib.Decide.{ℕ_discrete}
use Rattle.std.proofs.lemmas.Bool.{cases_eq}
use Rattle.expressiveness.specs.Order.{Above, CounterFloor, LeadFloor}
use Rattle.expressiveness.proofs.Search.{below_suc, dec-like, imp?, some?}

-- the rules with the floors F reach r
abbrev pub Reach : (ℕ → ℕ → Type 0) → (ℕ → Type 0) → ℕ → Type 0
Reach Over F r = (f : ℕ) × (Over r f × F f)

module _ (N : ℕ) (◌⊒◌ : ℕ → ℕ → Type 0) (Led : ℕ → Type 0) where
  infix 40 ◌⊒◌
  pub record Ground : Type 0 where
    pub within : (x y : ℕ) → x ⊒ y → (x < N) × (y < N)
    pub itself : (x : ℕ) → x < N → x ⊒ x
    pub apart : (x y : ℕ) → x ⊒ y → y ⊒ x → x ≡ y
    pub chain : (x y z : ℕ) → x ⊒ y → y ⊒ z → x ⊒ z
    pub over? : (x y : ℕ) → Dec (x ⊒ y)
    pub led? : (x : ℕ) → Dec (Led x)

  -- Lists by the floors of their lead and of their counter rules; w: the default overrides.
  module _ (w : Bool) where
    abbrev pub Leads : (ℕ → Type 0) → (ℕ → Type 0) → ℕ → Type 0
    Leads Lead Counter r = Reach ◌⊒◌ Lead r × (w ≡ true → Reach ◌⊒◌ Counter r → ⊥)

    abbrev pub Agrees : (ℕ → Type 0) → (ℕ → Type 0) → Type 0
    Agrees Lead Counter = (r : ℕ) → r < N → (Led r → Leads Lead Counter r) × (Leads Lead Counter r → Led r)

    abbrev pub Counters : ℕ → Type 0
    Counters f = (w ≡ true) × CounterFloor ◌⊒◌ Led f

    -- a request that is not led, with a led one below it and, where the default overrides, one above
    abbrev pub Break : ℕ → Type 0
    Break x = ((l : ℕ) × (Above ◌⊒◌ x l × Led l)) × ((Led x → ⊥) × (w ≡ true → (u : ℕ) × (Above ◌⊒◌ u x × Led u)))

module _ {N : ℕ} {◌⊒◌ : ℕ → ℕ → Type 0} {Led : ℕ → Type 0} (g : Ground N ◌⊒◌ Led) where
  infix 40 ◌⊒◌
  unfoldable pub above? : (x y : ℕ) → Dec (Above ◌⊒◌ x y)
  above? x y = Dec.and (g.over? x y) (Dec.not (ℕ_discrete x y))

  pub above-chain : (x y z : ℕ) → Above ◌⊒◌ x y → Above ◌⊒◌ y z → Above ◌⊒◌ x z
  above-chain x y z p q = (g.chain x y z p.0 q.0, λ e. p.1 (g.apart x y p.0 (rw e q.0)))

  unfoldable pub some-above? : {P : ℕ → Type 0} → ((y : ℕ) → Dec (P y)) → (x : ℕ) → Dec ((y : ℕ) × (Above ◌⊒◌ y x × P y))
  some-above? d x = some? N (λ y h. (g.within y x h.0.0).0) (λ y. Dec.and (above? y x) (d y))

  unfoldable pub some-below? : {P : ℕ → Type 0} → ((y : ℕ) → Dec (P y)) → (x : ℕ) → Dec ((y : ℕ) × (Above ◌⊒◌ x y × P y))
  some-below? d x = some? N (λ y h. (g.within x y h.0.0).1) (λ y. Dec.and (above? x y) (d y))

  unfoldable pub led-over? : (x : ℕ) → Dec ((y : ℕ) × ((y ⊒ x) × Led y))
  led-over? x = some? N (λ y h. (g.within y x h.0).0) (λ y. Dec.and (g.over? y x) (g.led? y))

  unfoldable pub lead-floor? : (f : ℕ) → Dec (LeadFloor ◌⊒◌ Led f)
  lead-floor? f =
      dec-like (λ (l, n). (l, λ x a k. n (x, (a, k))), λ (l, least). (l, λ (x, (a, k)). least x a k))
      (Dec.and (g.led? f) (Dec.not (some-below? g.led? f)))

  unfoldable pub counter-floor? : (f : ℕ) → Dec (CounterFloor ◌⊒◌ Led f)
  counter-floor? f =
      dec-like (
        λ (u, n). record { hopeless = λ x b l. u (x, (b, l)); least = λ x a. (Dec.not-not (led-over? x)).0 (λ k. n (x, (a, k))) },
        λ h. (λ (x, (b, l)). h.hopeless x b l, λ (x, (a, k)). k (h.least x a)),
      )
      (Dec.and (Dec.not (led-over? f)) (Dec.not (some-below? (λ x. Dec.not (led-over? x)) f)))

  -- at or below a request with P stands one with P and none of them below it
  lowest : {P : ℕ → Type 0} → ((x : ℕ) → Dec (P x)) → (r : ℕ) → r < N → P r → (f : ℕ) × (r ⊒ f) × P f × ((x : ℕ) → Above ◌⊒◌ f x → P x → ⊥)
  lowest {P} d r h p = let (f, a, q, least) = upto N in (f, a, q, λ x b. least x (g.within f x b.0).1 b)
    where
      Min : ℕ → Type 0
      Min k = (f : ℕ) × (r ⊒ f) × P f × ((x : ℕ) → x < k → Above ◌⊒◌ f x → P x → ⊥)

      step : (k : ℕ) (l : Min k) → Dec (Above ◌⊒◌ l.0 k × P k) → Min (suc k)
      step k (f, a, q, least) (yes (b, c)) = (
        k,
        g.chain r f k a b.0,
        c,
        below_suc (λ x. Above ◌⊒◌ k x → P x → ⊥) k (λ x l i. least x l (above-chain f k x b i)) (λ i. absurd (i.1 refl)),
      )
      step k (f, a, q, least) (no n) = (f, a, q, below_suc (λ x. Above ◌⊒◌ f x → P x → ⊥) k least (λ b c. n (b, c)))

      upto : (k : ℕ) → Min k
      upto zero = (r, g.itself r h, p, λ x l. omega arith)
      upto (suc k) = step k (upto k) (Dec.and (above? (upto k).0 k) (d k))

  counter-below : (r : ℕ) → r < N → (((y : ℕ) × ((y ⊒ r) × Led y)) → ⊥) → Reach ◌⊒◌ (CounterFloor ◌⊒◌ Led) r
  counter-below r h none =
      let (f, a, q, least) = lowest (λ x. Dec.not (led-over? x)) r h none in
      (f, (a, record { hopeless = λ x b l. q (x, (b, l)); least = λ x b. (Dec.not-not (led-over? x)).0 (least x b) }))

  module _ (w : Bool) where
    unfoldable pub break? : Dec ((x : ℕ) × Break N ◌⊒◌ Led w x)
    break? = some? N (λ x h. (g.within x h.0.0 h.0.1.0.0).0) (λ x.
        Dec.and (some-below? g.led? x) (Dec.and (Dec.not (g.led? x)) (imp? (Bool-discrete w true) (some-above? g.led? x))))

    pub agrees_like : {L C L' C' : ℕ → Type 0} → ((f : ℕ) → f < N → (L f → L' f) × (L' f → L f)) → ((f : ℕ) → f < N → (C f → C' f) × (C' f → C f))
        → Agrees N ◌⊒◌ Led w L C → Agrees N ◌⊒◌ Led w L' C'
    agrees_like l c same r h = (
      λ led. let (a, k) = (same r h).0 led in (over (λ f i. (l f i).0) a, λ e b. k e (over (λ f i. (c f i).1) b)),
      λ (a, k). (same r h).1 (over (λ f i. (l f i).1) a, λ e b. k e (over (λ f i. (c f i).0) b)),
    )
      where
        over : {F G : ℕ → Type 0} → ((f : ℕ) → f < N → F f → G f) → Reach ◌⊒◌ F r → Reach ◌⊒◌ G r
        over t (f, (a, p)) = (f, (a, t f (g.within r f a).1 p))

    pub no-list : {Lead Counter : ℕ → Type 0} (x : ℕ) → Break N ◌⊒◌ Led w x → Agrees N ◌⊒◌ Led w Lead Counter → ⊥
    no-list x ((l, (a, led)), (unled, up)) same =
        let (f, (b, lead)) = ((same l (g.within x l a.0).1).0 led).0 in
        unled ((same x (g.within x l a.0).0).1 (
          (f, (g.chain x l f a.0 b, lead)),
          λ e (c, (i, counter)).
              let (u, (d, k)) = up e in ((same u (g.within u x d.0).0).0 k).1 e (c, (g.chain u x c d.0 i, counter)),
        ))

    pub has-leads : {Lead Counter : ℕ → Type 0} → Agrees N ◌⊒◌ Led w Lead Counter → (f : ℕ) → f < N → LeadFloor ◌⊒◌ Led f → Lead f
    has-leads same f h floor =
        let ((x, (a, lead)), k) = (same f h).0 floor.0 in
        let i : x < N = (g.within f x a).1 in
        let led : Led x = (same x i).1 ((x, (g.itself x i, lead)), λ e (c, (b, counter)). k e (c, (g.chain f x c a b, counter))) in
        elim (cases_eq f x) [ inl e ↦ rw e lead | inr ne ↦ absurd (floor.1 x (a, ne) led) ]

    pub covers-counters : {Lead Counter : ℕ → Type 0} → Agrees N ◌⊒◌ Led w Lead Counter → w ≡ true → (r : ℕ) → r < N
        → Reach ◌⊒◌ Counter r → Reach ◌⊒◌ (CounterFloor ◌⊒◌ Led) r
    covers-counters same e r h (f, (a, c)) =
        counter-below r h (λ (x, (b, led)). ((same x (g.within x r b).0).0 led).1 e (f, (g.chain x r f b a, c)))

    pub floors-agree : ((x : ℕ) → Break N ◌⊒◌ Led w x → ⊥) → Agrees N ◌⊒◌ Led w (LeadFloor ◌⊒◌ Led) (Counters N ◌⊒◌ Led w)
    floors-agree whole r h = (there, back)
      where
        there : Led r → Leads N ◌⊒◌ Led w (LeadFloor ◌⊒◌ Led) (Counters N ◌⊒◌ Led w) r
        there led =
            let (f, a, q, least) = lowest g.led? r h led in
            ((f, (a, (q, least))), λ e (c, (b, counter)). counter.1.hopeless r b led)

        up : (w ≡ true → Reach ◌⊒◌ (Counters N ◌⊒◌ Led w) r → ⊥) → (Led r → ⊥) → w ≡ true → (u : ℕ) × (Above ◌⊒◌ u r × Led u)
        up k unled e = elim (led-over? r) [
          | yes (u, (a, led)) ↦ (u, ((a, λ d. unled (rw d at led)), led))
          | no none ↦ let (c, (a, counter)) = counter-below r h none in absurd (k e (c, (a, (e, counter))))
        ]

        back : Leads N ◌⊒◌ Led w (LeadFloor ◌⊒◌ Led) (Counters N ◌⊒◌ Led w) r → Led r
        back ((f, (a, floor)), k) = elim (g.led? r) [
          | yes led ↦ led
          | no unled ↦ absurd (whole r ((f, ((a, λ e. unled (rw e floor.0)), floor.0)), (unled, up k unled)))
        ]
