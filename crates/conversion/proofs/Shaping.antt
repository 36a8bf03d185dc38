-- Gaps, steps and floors from what lies above and below.
use Rattle.std.proofs.Common.{◌≡◌, ℕ, ◌<◌, ◌≤◌, Bool, true, false, not, ◌&&◌, ◌⊎◌, Decides, MatchOption, None, Some, Option, ap, ◌∙◌, subst, ap₂, inl, inr, ⊎_elim, arith}
use Rattle.std.proofs.lemmas.Bool.{cases_Bool, cases_eq}
use Rattle.std.proofs.lemmas.Bool.Decides.{Decides-and, Decides-at, Decides-like, Decides-not}
use Rattle.expressiveness.specs.Order.{CounterFloor, FirstGap, FirstStep, Gap, Hopeless, Least, Minimal}
use Rattle.expressiveness.proofs.Search.{least-like}
use Rattle.conversion.specs.declared.flags.Flags.{Flags}
use Rattle.conversion.specs.declared.order.Order.{Order}
use Rattle.conversion.specs.declared.side.Side.{Side}
use Rattle.conversion.specs.declared.side.Side.TheVariants.{Above, Below}
use Rattle.conversion.specs.Flags.{Up, flag}
use Rattle.conversion.specs.Beyond.{Beyond, OverIn, Tells}
use Rattle.conversion.specs.Shapes.{AnyGap, AnyStep, FirstBeyond, Flagged, In, Lower, Middle}
use Rattle.conversion.proofs.Links.{plain}

pub beyond-inside : (o : Order) (side : Side) (x y : ℕ) → Beyond o side x y → (x < o.total) × (y < o.total)
beyond-inside o Above x y h = let (a, b) = (plain o).within y x h.0 in (b, a)
beyond-inside o Below x y h = (plain o).within x y h.0

-- the flags of what is not led
abbrev Unled : Flags → Flags → Type 0
Unled led unled = (k : ℕ) → k < 4096 → flag unled k ≡ not (flag led k)

-- a flag tells of itself
itself : (b : Bool) → Decides b (b ≡ true)
itself b = (λ e. e, λ e. e)

module _ (o : Order) where
  inside : (x : ℕ) → x < o.total → x < 4096
  inside x h = omega (arith, o.most)

  -- the flags of a set less those with some of it below
  pub lowest-tells : (members below rest lows : Flags) → Tells o Below members below → Unled below rest
      → ((k : ℕ) → k < 4096 → flag lows k ≡ (flag members k && flag rest k)) → Flagged o (Minimal (OverIn o) (In o members)) lows
  lowest-tells members below rest lows tells rest-are are x h =
      let m = flag members x in
      let b = flag below x in
      Decides-at (flag lows x) (m && not b) (are x (inside x h) ∙ ap (λ c. m && c) (rest-are x (inside x h)))
      (Decides-like (m && not b) (λ (up, none). ((h, up), λ y far mem. none (y, (far, mem.1))))
      (λ (mem, none). (mem.1, λ (y, (far, up)). none y far ((beyond-inside o Below x y far).1, up)))
      (Decides-and m (not b) (itself m) (Decides-not b (tells.each x h))))

  module _ (led : Flags) where
    -- the middles of gaps
    pub middles-tell : (above below unled pair middles : Flags) → Tells o Above led above → Tells o Below led below → Unled led unled
        → ((k : ℕ) → k < 4096 → flag pair k ≡ (flag above k && flag below k))
        → ((k : ℕ) → k < 4096 → flag middles k ≡ (flag unled k && flag pair k)) → Flagged o (Middle o led) middles
    middles-tell above below unled pair middles tells-above tells-below unled-are pair_is are x h =
        let a = flag above x in
        let b = flag below x in
        Decides-at (flag middles x) (not (flag led x) && (a && b)) (are x (inside x h) ∙ ap₂ (λ p q. p && q) (unled-are x (inside x h)) (pair_is x (inside x h)))
        (Decides-and (not (flag led x)) (a && b) (Decides-not (flag led x) (itself (flag led x)))
        (Decides-and a b (tells-above.each x h) (tells-below.each x h)))

    module _ (middles : Flags) (tell : Flagged o (Middle o led) middles) where
      gap-middle : (u x l : ℕ) → Gap (OverIn o) (In o led) u x l → Up middles x
      gap-middle u x l gap =
          let h = (beyond-inside o Below x l gap.under).0 in
          (tell x h).1 (λ up. gap.middle-not (h, up), ((u, (gap.over, gap.upper-led.1)), (l, (gap.under, gap.lower-led.1))))

      pub no_gap : ((x : ℕ) → x < o.total → Up middles x → ⊥) → AnyGap o led → ⊥
      no_gap none (u, x, l, gap) = none x (beyond-inside o Below x l gap.under).0 (gap-middle u x l gap)

      pub gap-first : (u x l : ℕ) → x < o.total → Least (Up middles) x → FirstBeyond o Above x led u → FirstBeyond o Below x led l
          → FirstGap (OverIn o) (In o led) u x l
      gap-first u x l h (up, least) upper lower =
          record {
            middle-least = (
              (
                u,
                l,
                record {
                  over = upper.0.0;
                  under = lower.0.0;
                  upper-led = ((beyond-inside o Above x u upper.0.0).1, upper.0.1);
                  middle-not = λ mem. ((tell x h).0 up).0 mem.1;
                  lower-led = ((beyond-inside o Below x l lower.0.0).1, lower.0.1);
                },
              ),
              λ y lt (v, k, gap). least y lt (gap-middle v y k gap),
            );
            upper-least = least-like (λ y (far, mem). (far, ((beyond-inside o Above x y far).1, mem))) (λ y (far, mem). (far, mem.1)) upper;
            lower-least = least-like (λ y (far, mem). (far, ((beyond-inside o Below x y far).1, mem))) (λ y (far, mem). (far, mem.1)) lower;
          }

    pub no_step : (lowers : Flags) → Flagged o (Lower o led) lowers → ((x : ℕ) → x < o.total → Up lowers x → ⊥) → AnyStep o led → ⊥
    no_step lowers tell none (u, l, step) =
        none l step.lower-led.0 ((tell l step.lower-led.0).1 (step.lower-led.1, (u, (step.over, step.upper-not))))

    -- what is not led
    module _ (unled : Flags) (are : Unled led unled) where
      unled-tells : (x : ℕ) → x < o.total → Decides (flag unled x) (In o led x → ⊥)
      unled-tells x h =
          Decides-at (flag unled x) (not (flag led x)) (are x (inside x h))
          (Decides-like (not (flag led x)) (λ none mem. none mem.1) (λ none up. none (h, up)) (Decides-not (flag led x) (itself (flag led x))))

      -- above a request
      pub unled-above : (x y : ℕ) → Beyond o Above x y → (Up unled y → In o led y → ⊥) × ((In o led y → ⊥) → Up unled y)
      unled-above x y far = unled-tells y (beyond-inside o Above x y far).1

      -- the lower requests of steps
      pub lowers-tell : (above lowers : Flags) → Tells o Above unled above → ((k : ℕ) → k < 4096 → flag lowers k ≡ (flag led k && flag above k))
          → Flagged o (Lower o led) lowers
      lowers-tell above lowers tells lowers-are x h =
          Decides-at (flag lowers x) (flag led x && flag above x) (lowers-are x (inside x h))
          (Decides-like (flag led x && flag above x) (λ (up, (y, (far, mem))). (up, (y, (far, (unled-above x y far).0 mem))))
          (λ (up, (y, (far, none))). (up, (y, (far, (unled-above x y far).1 none))))
          (Decides-and (flag led x) (flag above x) (itself (flag led x)) (tells.each x h)))

      module _ (lowers : Flags) (tell : Flagged o (Lower o led) lowers) where
        pub step-first : (u l : ℕ) → l < o.total → Least (Up lowers) l → FirstBeyond o Above l unled u → FirstStep (OverIn o) (In o led) u l
        step-first u l h (up, least) upper =
            record {
              lower-least = (
                (u, record { over = upper.0.0; upper-not = (unled-above l u upper.0.0).0 upper.0.1; lower-led = (h, ((tell l h).0 up).0) }),
                λ y lt (v, step). least y lt ((tell y step.lower-led.0).1 (step.lower-led.1, (v, (step.over, step.upper-not)))),
              );
              upper-least = least-like (λ y (far, mem). (far, (unled-above l y far).0 mem)) (λ y (far, mem). (far, (unled-above l y far).1 mem)) upper;
            }

    -- the lowest hopeless requests
    module _ (above unled low hopeless : Flags) (tells-above : Tells o Above led above) (unled-are : Unled led unled) (low-are : Unled above low)
        (hopeless-are : (k : ℕ) → k < 4096 → flag hopeless k ≡ (flag unled k && flag low k)) where
      are : (x : ℕ) → x < o.total → flag hopeless x ≡ (not (flag led x) && not (flag above x))
      are x h = hopeless-are x (inside x h) ∙ ap₂ (λ p q. p && q) (unled-are x (inside x h)) (low-are x (inside x h))

      hopeless-tells : (x : ℕ) → x < o.total → Decides (flag hopeless x) (Hopeless (OverIn o) (In o led) x)
      hopeless-tells x h =
          Decides-at (flag hopeless x) (not (flag led x) && not (flag above x)) (are x h)
          (Decides-like (not (flag led x) && not (flag above x))
          (λ (none, far_none) y over mem. ⊎_elim (λ (e : y ≡ x). none (subst (Up led) e mem.1)) (λ ne. far_none (y, ((over, ne), mem.1))) (cases_eq y x))
          (λ none. (λ up. none x ((plain o).itself x h) (h, up), λ (y, (far, up)). none y far.0 ((beyond-inside o Above x y far).1, up)))
          (Decides-and (not (flag led x)) (not (flag above x)) (Decides-not (flag led x) (itself (flag led x)))
          (Decides-not (flag above x) (tells-above.each x h))))

      -- a request that is not hopeless has a led one at or above it
      hoped : (x : ℕ) → x < o.total → (Up hopeless x → ⊥) → (y : ℕ) × (OverIn o y x × In o led y)
      hoped x h none = by (cases_Bool (flag led x)) (cases_Bool (flag above x))
        where
          by : (flag led x ≡ true) ⊎ (flag led x ≡ false) → (flag above x ≡ true) ⊎ (flag above x ≡ false) → (y : ℕ) × (OverIn o y x × In o led y)
          by (inl up) _ = (x, ((plain o).itself x h, (h, up)))
          by (inr _) (inl far) = let (y, (over, up)) = (tells-above.each x h).0 far in (y, (over.0, ((beyond-inside o Above x y over).1, up)))
          by (inr a) (inr b) = absurd (none (are x h ∙ ap₂ (λ p q. not p && not q) a b))

      pub counters-tell : (lows : Flags) → Flagged o (Minimal (OverIn o) (In o hopeless)) lows → Flagged o (CounterFloor (OverIn o) (In o led)) lows
      counters-tell lows flagged x h =
          Decides-like (flag lows x)
          (λ (mem, none).
          record {
            hopeless = (hopeless-tells x h).0 mem.1;
            least = λ y far. let lt = (beyond-inside o Below x y far).1 in hoped y lt (λ up. none y far (lt, up));
          })
          (λ floor. (
            (h, (hopeless-tells x h).1 floor.hopeless),
            λ y far mem. let (z, (over, led-z)) = floor.least y far in (hopeless-tells y mem.0).0 mem.1 z over led-z,
          ))
          (flagged x h)

-- the first that a search over all requests finds is the first of the set on that side
pub first-beyond : (o : Order) (side : Side) (x : ℕ) (members : Flags) (r : Option ℕ)
    → MatchOption r ((k : ℕ) → 0 ≤ k → k < o.total → Beyond o side x k × Up members k → ⊥)
    (λ i. (0 ≤ i) × (i < o.total) × (Beyond o side x i × Up members i) × ((k : ℕ) → 0 ≤ k → k < i → Beyond o side x k × Up members k → ⊥))
    → MatchOption r ((y : ℕ) → Beyond o side x y → Up members y → ⊥) (FirstBeyond o side x members)
first-beyond o side x members None none = λ y far up. none y (omega arith) (beyond-inside o side x y far).1 (far, up)
first-beyond o side x members (Some i) (_, _, is, least) = (is, λ y lt mem. least y (omega arith) lt mem)
