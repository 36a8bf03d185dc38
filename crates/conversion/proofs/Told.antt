-- What lies on one side, told by a truncated fact: a search over all requests finds it again.
use Rattle.std.proofs.Common.{ℕ, true}
use mathlib.Core.Logic.Dec
use Rattle.std.proofs.Math.Logic.{∥∥₁_elim}
use Rattle.std.proofs.Math.Bool.{Bool-set, Bool-discrete}
use Rattle.expressiveness.proofs.Ground.{some-above?, some-below?}
use Rattle.conversion.specs.declared.flags.Flags.{Flags}
use Rattle.conversion.specs.declared.order.Order.{Order}
use Rattle.conversion.specs.declared.side.Side.{Side}
use Rattle.conversion.specs.declared.side.Side.TheVariants.{Above, Below}
use Rattle.conversion.specs.Flags.{Up, flag}
use Rattle.conversion.specs.Beyond.{SomeBeyond, Tells}
use Rattle.conversion.proofs.Links.{plain}

module _ (o : Order) (members : Flags) where
  up? : (y : ℕ) → Dec (Up members y)
  up? y = Bool-discrete (flag members y) true

  some? : (side : Side) (x : ℕ) → Dec (SomeBeyond o side members x)
  some? Above x = some-above? (plain o) up? x
  some? Below x = some-below? (plain o) up? x

  pub told : (side : Side) (marks : Flags) → ∥ Tells o side members marks ∥₁ → Tells o side members marks
  told side marks t =
      record {
        each = λ x h. (
          λ up. (Dec.not-not (some? side x)).0 (λ none. ∥∥₁_elim t (λ a b. absurd a) (λ tells. none ((tells.each x h).0 up))),
          λ is. ∥∥₁_elim t (Bool-set _ _) (λ tells. (tells.each x h).1 is),
        );
      }
