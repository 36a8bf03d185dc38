-- What is kept while marks are handed on.
use Rattle.std.proofs.Common.{◌≡◌, ℕ, ◌+◌, ◌*◌, ◌/◌, ◌^◌, ◌<◌, ◌≤◌, true, ◌≢◌}
use Rattle.ladders.specs.Rows.{rows_at_least}
use Rattle.ladders.specs.Sets.{holds}
use Rattle.conversion.specs.declared.flags.Flags.{Flags}
use Rattle.conversion.specs.declared.order.Order.{Order}
use Rattle.conversion.specs.declared.side.Side.{Side}
use Rattle.conversion.specs.Flags.{Up}
use Rattle.conversion.specs.Beyond.{Beyond, Condition, Link, Posts, Sound, turned}

-- The link is one of this order.
abbrev pub LinkOf : Order → Link → Type 0
LinkOf o (Condition c) = c < o.conditions
LinkOf o (Posts p q) = (rows_at_least o.ladder.rows p q ≡ true) × (p ≢ q)

-- x has all that y has, has the same post, and the same conditions from c on.
pub record Near (n c x y : ℕ) : Type 0 where
  pub post : x / 2 ^ n ≡ y / 2 ^ n
  pub has : (d : ℕ) → d < n → holds y d ≡ true → holds x d ≡ true
  pub same : (d : ℕ) → c ≤ d → d < n → holds x d ≡ holds y d

abbrev pub NearTo : ℕ → ℕ → Side → ℕ → ℕ → Type 0
NearTo n c side x y = Near n c (turned side x y).0 (turned side x y).1

-- The marks are complete for requests that differ in conditions below c only.
pub record Full (o : Order) (c : ℕ) (side : Side) (members marks : Flags) : Type 0 where
  pub near : (x y : ℕ) → x < o.total → NearTo o.conditions c side x y → (x ≢ y) → Up members y → Up marks x

-- A pair of posts by its place, the upper post first.
abbrev pub pair_of : Order → Side → ℕ → ℕ → ℕ
pair_of o side x y = (turned side x y).0 / 2 ^ o.conditions * 8 + (turned side x y).1 / 2 ^ o.conditions

-- The marks are right, and complete for requests with the same post and for those whose posts are one of the first k pairs.
pub record Posted (o : Order) (k : ℕ) (side : Side) (members marks : Flags) : Type 0 where
  pub sound : Sound o side members marks
  pub full : Full o o.conditions side members marks
  pub pairs : (x y : ℕ) → Beyond o side x y → pair_of o side x y < k → (x / 2 ^ o.conditions ≢ y / 2 ^ o.conditions) → Up members y → Up marks x
