-- What a rule says of a request, and the floor of a rule that bars nothing.
use Rattle.std.specs.Prelude.{◌≡◌, ℕ, Bool, true, false, cond, ◌&&◌, Some, None, Option, ◌==◌, bit_and, nat_lt}
use Rattle.ladders.specs.Sets.{holds}
use Rattle.rules.specs.declared.request.Request.{Request}
use Rattle.rules.specs.declared.rule.Rule.{Rule}
use Rattle.rules.specs.Requests.{Includes, are_conditions}

-- The post is at least none of a set of posts, where f tells which post is at least which.
abbrev pub Clear : (ℕ → ℕ → Bool) → ℕ → ℕ → Type 0
Clear f post barred = (p : ℕ) → holds barred p ≡ true → f post p ≡ false

-- The rule t applies to the request q: every needed condition holds and no barred one does,
-- and the post is at least the floor post and at least no barred post.
pub record Applies (f : ℕ → ℕ → Bool) (t : Rule) (q : Request) : Type 0 where
  pub needed : Includes q.set t.needed
  pub barred : bit_and q.set t.barred ≡ 0
  pub floor : f q.post t.floor ≡ true
  pub posts : Clear f q.post t.barred_posts

-- A floor rule bars no condition and no post.
abbrev pub bars_nothing : Rule → Bool
bars_nothing t = t.barred == 0 && t.barred_posts == 0

-- The floor of a floor rule, on a ladder of so many posts and with n conditions: the request of its floor post and its needed set.
-- A rule that bars something has none, nor has one whose floor post is no post or whose needed set has a condition that is none of the n.
abbrev pub floor_of : ℕ → ℕ → Rule → Option Request
floor_of posts n t =
    cond (bars_nothing t && (nat_lt t.floor posts && are_conditions n t.needed)) (Some (record { post = t.floor; set = t.needed })) None
