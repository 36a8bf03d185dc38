-- What a policy decides, and what charts and contraries do.
use Rattle.std.specs.Prelude.{ℕ, min, cond, List, length, Some, None, Option, ◌==◌, nat_lt, slice_index}
use Rattle.rules.specs.declared.rule.Effect.{Effect}
use Rattle.rules.specs.declared.rule.Effect.TheVariants.{Permit, Deny}
use Rattle.rules.specs.Models.{opposite}

-- What a policy means: how many requests there are, and what is decided of each by its number. Only numbers below that
-- many count: the requests permitted are those of them with the effect Permit.
pub record Meaning : Type 0 where
  pub requests : ℕ
  pub effect : ℕ → Effect

-- The answer to a number: what is decided of that request, or none where there is no such request.
abbrev pub decided : Meaning → ℕ → Option Effect
decided m r = cond (nat_lt r m.requests) (Some (m.effect r)) None

-- A chart has a request for each byte, at most 4096, and permits those whose byte is not 0.
abbrev pub chart_meaning : List ℕ → Meaning
chart_meaning bytes = record { requests = min (length bytes) 4096; effect = λ r. cond (slice_index bytes r == 0) Deny Permit }

-- The contrary of a policy has the same requests, and decides the opposite of each.
abbrev pub contrary : Meaning → Meaning
contrary m = record { requests = m.requests; effect = λ r. opposite (m.effect r) }
