-- What a list of a model decides, by the effects of the rules that apply.
use Rattle.std.specs.Prelude.{◌≡◌, Bool, true, false}
use Rattle.rules.specs.declared.letter.Model.{Model}
use Rattle.rules.specs.declared.letter.Model.TheVariants.{A, B, C, D}
use Rattle.rules.specs.declared.rule.Effect.{Effect}
use Rattle.rules.specs.declared.rule.Effect.TheVariants.{Permit, Deny}

-- The other effect.
abbrev pub opposite : Effect → Effect
opposite Permit = Deny
opposite Deny = Permit

-- The effect that decides where no rule applies.
abbrev pub default : Model → Effect
default A = Deny
default B = Permit
default C = Deny
default D = Permit

-- The effect that decides where rules of both effects apply.
abbrev pub override : Model → Effect
override A = Deny
override B = Permit
override C = Permit
override D = Deny

-- The lead effect, which the default is not. Rules of this effect are lead rules, and the others counter rules.
abbrev pub lead : Model → Effect
lead m = opposite (default m)

-- The effect of the default overrides: so in A and B, and not in C and D, where the lead effect does.
abbrev pub default_overrides : Model → Bool
default_overrides A = true
default_overrides B = true
default_overrides C = false
default_overrides D = false

-- The model decides e, where `Applied x` says that a rule of effect x applies: the default where none applies,
-- the effect of those that apply where rules of one effect do, and the overriding effect where rules of both do.
pub record Verdict (m : Model) (Applied : Effect → Type 0) (e : Effect) : Type 0 where
  pub none : ((x : Effect) → Applied x → ⊥) → e ≡ default m
  pub one : (x : Effect) → Applied x → (Applied (opposite x) → ⊥) → e ≡ x
  pub both : ((x : Effect) → Applied x) → e ≡ override m
