-- What the marking of requests answers: which requests have some of a set on one side. Only inner functions cite this.
use Rattle.std.specs.Prelude.{◌≡◌, ℕ, ◌+◌, ◌*◌, ◌/◌, ◌%◌, ◌^◌, ◌<◌, Bool, not, ◌⊎◌, IfSome, Decides, Option, ◌==◌}
use Rattle.std.specs.Bool.{then_some}
use Rattle.ladders.specs.Rows.{row_posts, rows_at_least}
use Rattle.ladders.specs.Sets.{holds}
use Rattle.expressiveness.specs.Floors.{Over}
use Rattle.conversion.specs.declared.flags.Flags.{Flags}
use Rattle.conversion.specs.declared.order.Order.{Order}
use Rattle.conversion.specs.declared.side.Side.{Side}
use Rattle.conversion.specs.declared.side.Side.TheVariants.{Above, Below}
use Rattle.expressiveness.specs.Order.{Above as IsAbove}
use Rattle.conversion.specs.Flags.{Up, flag}

-- The order of the requests of a ladder and n conditions.
pub record IsOrder (posts : ℕ) (f : ℕ → ℕ → Bool) (n : ℕ) (o : Order) : Type 0 where
  pub conditions : o.conditions ≡ n
  pub posts-are : row_posts o.ladder.rows ≡ posts
  pub same : (p q : ℕ) → rows_at_least o.ladder.rows p q ≡ f p q

-- At or above, in an order.
abbrev pub OverIn : Order → ℕ → ℕ → Type 0
OverIn o = Over (rows_at_least o.ladder.rows) o.conditions

-- Two requests, turned round for the side above. It makes an upper and a lower request of one that is looked from and one on that side of it,
-- and the other way round.
abbrev pub turned : Side → ℕ → ℕ → ℕ × ℕ
turned Above x y = (y, x)
turned Below x y = (x, y)

-- Request y lies on that side of request x.
abbrev pub Beyond : Order → Side → ℕ → ℕ → Type 0
Beyond o side x y = IsAbove (OverIn o) (turned side x y).0 (turned side x y).1

-- Some of a set lies on that side of x.
abbrev pub SomeBeyond : Order → Side → Flags → ℕ → Type 0
SomeBeyond o side members x = (y : ℕ) × (Beyond o side x y × Up members y)

-- The flags tell of each request whether some of a set lies on that side of it.
pub record Tells (o : Order) (side : Side) (members marks : Flags) : Type 0 where
  pub each : (x : ℕ) → x < o.total → Decides (flag marks x) (SomeBeyond o side members x)

-- What makes one request right above another: they differ in one condition, or in their posts alone, the upper and the lower.
pub data Link : Type 0 where
  Condition : ℕ → Link
  Posts : ℕ → ℕ → Link

-- The request right above another by a link: it has one condition more, or another post.
abbrev pub upper_of : ℕ → Link → ℕ → Option ℕ
upper_of n (Condition c) x = then_some (not (holds x c)) (x + 2 ^ c)
upper_of n (Posts p q) x = then_some (x / 2 ^ n == q) (p * 2 ^ n + x % 2 ^ n)

-- Each mark is right.
pub record Sound (o : Order) (side : Side) (members marks : Flags) : Type 0 where
  pub right : (x : ℕ) → Up marks x → SomeBeyond o side members x

-- A pass along steps up from the requests below k: no mark is taken away, right marks stay right, and of two requests that a step links, where the
-- one on that side is of the set or was marked, the other is marked.
pub record Passed (o : Order) (Step : ℕ → Option ℕ → Type 0) (side : Side) (members marks : Flags) (k : ℕ) (marks' : Flags) : Type 0 where
  pub kept : (x : ℕ) → Up marks x → Up marks' x
  pub sound : Sound o side members marks → Sound o side members marks'
  pub made : (lower : ℕ) → lower < k → (r : Option ℕ) × (Step lower r
      × IfSome r (λ upper. let (marked, source) = turned side upper lower in Up members source ⊎ Up marks source → Up marks' marked))
