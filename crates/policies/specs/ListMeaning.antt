-- The computing form of what a list decides: each test tells whether the relation that its comment names holds.
use Rattle.std.specs.Prelude.{ℕ, zero, suc, Bool, true, false, cond, not, ◌&&◌, List, ◌==◌, bit_and}
use Rattle.std.specs.List.{list_any}
use Rattle.ladders.specs.Rows.{row_posts, rows_at_least}
use Rattle.ladders.specs.Sets.{holds}
use Rattle.rules.specs.declared.letter.Letter.{Letter}
use Rattle.rules.specs.declared.letter.Letter.TheVariants.{Guarded, Model}
use Rattle.rules.specs.declared.letter.Model.{Model as ModelOf}
use Rattle.rules.specs.declared.request.Request.{Request}
use Rattle.rules.specs.declared.rule.Effect.{Effect}
use Rattle.rules.specs.declared.rule.Effect.TheVariants.{Permit, Deny}
use Rattle.rules.specs.declared.rule.Rule.{Rule}
use Rattle.rules.specs.Models.{default, override}
use Rattle.rules.specs.Requests.{request_at}
use Rattle.rules.specs.Rules.{bars_nothing}
use Rattle.policies.specs.declared.rule_list.RuleList.{RuleList}
use Rattle.policies.specs.Lists.{request_count}
use Rattle.policies.specs.Policies.{Meaning}

-- Tells whether two effects are the same.
abbrev pub same_effect : Effect → Effect → Bool
same_effect Permit Permit = true
same_effect Permit Deny = false
same_effect Deny Permit = false
same_effect Deny Deny = true

-- Tells `Counts`.
abbrev pub counts : Letter → Rule → Bool
counts Guarded t = same_effect t.effect Permit
counts (Model m) t = bars_nothing t

-- Tells whether no number below n passes.
unfoldable pub none_below : ℕ → (ℕ → Bool) → Bool
none_below zero f = true
none_below (suc n) f = not (f n) && none_below n f

-- Tells `Clear`, since no number from 8 on is a post.
abbrev pub clears : (ℕ → ℕ → Bool) → ℕ → ℕ → Bool
clears f post barred = none_below 8 (λ p. holds barred p && f post p)

-- Tells `Applies`.
abbrev pub applies : (ℕ → ℕ → Bool) → Rule → Request → Bool
applies f t q =
    (bit_and q.set t.needed == t.needed)
    && (bit_and q.set t.barred == 0 && (f q.post t.floor && clears f q.post t.barred_posts))

-- Tells whether the rule t is one of effect e that counts and applies.
abbrev pub rule_reaches : (ℕ → ℕ → Bool) → Letter → Effect → Request → Rule → Bool
rule_reaches f letter e q t = same_effect t.effect e && (counts letter t && applies f t q)

-- Tells `Applied`.
abbrev pub reaches : (ℕ → ℕ → Bool) → Letter → Effect → Request → List Rule → Bool
reaches f letter e q ts = list_any (rule_reaches f letter e q) ts

-- What a model decides, where permit rules apply or not, and deny rules.
abbrev pub verdict : ModelOf → Bool → Bool → Effect
verdict m false false = default m
verdict m true false = Permit
verdict m false true = Deny
verdict m true true = override m

-- The effect that `ListDecides` has for a request.
abbrev pub list_effect : (ℕ → ℕ → Bool) → Letter → List Rule → Request → Effect
list_effect f Guarded ts q = cond (reaches f Guarded Permit q ts) Permit Deny
list_effect f (Model m) ts q = verdict m (reaches f (Model m) Permit q ts) (reaches f (Model m) Deny q ts)

-- What a list means, on a ladder of so many posts ordered by f and with n conditions.
abbrev pub list_meaning : ℕ → (ℕ → ℕ → Bool) → Letter → ℕ → List Rule → Meaning
list_meaning posts f letter n ts = record { requests = request_count posts n; effect = λ r. list_effect f letter ts (request_at n r) }

-- What a list means that keeps its ladder as rows.
abbrev pub meaning_of : RuleList → Meaning
meaning_of l = list_meaning (row_posts l.ladder.rows) (rows_at_least l.ladder.rows) l.letter l.conditions l.rules.now
