-- Policies that decide each request alike have the same led requests, so the same obstacles and the same floors.
use Rattle.std.proofs.Common.{◌≡◌, ℕ, ◌<◌, Bool, true, List, ap, subst}
use mathlib.Core.Path.{fun_ext}
use Rattle.rules.specs.declared.letter.Model.{Model as ModelOf}
use Rattle.rules.specs.declared.rule.Effect.{Effect}
use Rattle.rules.specs.Models.{default_overrides, lead}
use Rattle.rules.specs.Requests.{request_total}
use Rattle.expressiveness.specs.Order.{CounterFloor, LeadFloor, Rising}
use Rattle.expressiveness.specs.Floors.{Floors, Led, Obstacle, Over}
use Rattle.expressiveness.proofs.Ground.{Break}
use Rattle.expressiveness.proofs.Laws.{from-break, to-break}

module _ (posts : ℕ) (f : ℕ → ℕ → Bool) (n : ℕ) (m : ModelOf) {a b : ℕ → Effect} (same : (r : ℕ) → r < request_total posts n → a r ≡ b r) where
  abbrev total : ℕ
  total = request_total posts n

  pub led-same : Led posts f n a m ≡ Led posts f n b m
  led-same = fun_ext (λ r. ap (λ (F : r < total → Type 0). (h : r < total) × F h) (fun_ext (λ h. ap (λ e. e ≡ lead m) (same r h))))

  pub obstacle-same : Obstacle posts f n a m → Obstacle posts f n b m
  obstacle-same h =
      from-break posts f n b m (default_overrides m)
      (subst (λ L. (x : ℕ) × Break total (Over f n) L (default_overrides m) x) led-same (to-break posts f n a m (default_overrides m) h))

  pub floors-same : {leads counters : List ℕ} → Floors posts f n a m leads counters → Floors posts f n b m leads counters
  floors-same {leads} {counters} h =
      record {
        leads-are = subst (λ L. Rising (LeadFloor (Over f n) L) total leads) led-same h.leads-are;
        counters-are = subst (λ L. Rising (λ r. (default_overrides m ≡ true) × CounterFloor (Over f n) L r) total counters) led-same h.counters-are;
      }
