-- What a list decides of a request, by the rules of it that apply.
use Rattle.std.specs.Prelude.{◌≡◌, ℕ, ◌<◌, Bool, cond, List, nat_le}
use mathlib.Core.List.{Memᴰ}
use Rattle.rules.specs.declared.letter.Letter.{Letter}
use Rattle.rules.specs.declared.letter.Letter.TheVariants.{Guarded, Model}
use Rattle.rules.specs.declared.request.Request.{Request}
use Rattle.rules.specs.declared.rule.Effect.{Effect}
use Rattle.rules.specs.declared.rule.Effect.TheVariants.{Permit, Deny}
use Rattle.rules.specs.declared.rule.Rule.{Rule}
use Rattle.rules.specs.Models.{Verdict}
pub use Rattle.rules.specs.Letters.{Counts}
use Rattle.rules.specs.Requests.{request_at, request_total}
use Rattle.rules.specs.Rules.{Applies}
use Rattle.policies.specs.Policies.{Meaning}

-- Of the rules ts, one of effect e counts and applies to the request q, where f tells which post is at least which.
abbrev pub Applied : (ℕ → ℕ → Bool) → Letter → List Rule → Request → Effect → Type 0
Applied f letter ts q e = (t : Rule) × (Memᴰ t ts × ((t.effect ≡ e) × (Counts letter t × Applies f t q)))

-- A guarded list decides e: permit where a permit rule applies, and deny where none does.
pub record GuardedVerdict (Permitted : Type 0) (e : Effect) : Type 0 where
  pub some : Permitted → e ≡ Permit
  pub none : (Permitted → ⊥) → e ≡ Deny

-- The list decides e of the request q.
abbrev pub ListDecides : (ℕ → ℕ → Bool) → Letter → List Rule → Request → Effect → Type 0
ListDecides f Guarded ts q e = GuardedVerdict (Applied f Guarded ts q Permit) e
ListDecides f (Model m) ts q e = Verdict m (Applied f (Model m) ts q) e

-- The list decides one effect of each request, and no other.
abbrev pub OneDecision : (ℕ → ℕ → Bool) → Letter → List Rule → Type 0
OneDecision f letter ts = (q : Request) → (e : Effect) × (ListDecides f letter ts q e × ((d : Effect) → ListDecides f letter ts q d → d ≡ e))

-- How many requests there are on a ladder of so many posts and with n conditions: none with more than 9.
abbrev pub request_count : ℕ → ℕ → ℕ
request_count posts n = cond (nat_le n 9) (request_total posts n) 0

-- What the policy of a list means, on a ladder of so many posts ordered by f and with n conditions: it has the requests of that ladder,
-- and decides of each what the list decides, which is one effect.
pub record Meant (posts : ℕ) (f : ℕ → ℕ → Bool) (letter : Letter) (n : ℕ) (ts : List Rule) (m : Meaning) : Type 0 where
  pub requests : m.requests ≡ request_count posts n
  pub each : (r : ℕ) → r < m.requests → ListDecides f letter ts (request_at n r) (m.effect r)
  pub one : (r : ℕ) → r < m.requests → (e : Effect) → ListDecides f letter ts (request_at n r) e → e ≡ m.effect r
