-- The rank ladder: posts in the order of their numbers.
use Rattle.std.specs.Prelude.{ℕ, min, max, Bool, ◌&&◌, nat_le, nat_lt}

-- How many posts a rank ladder has that is asked for with k: none counts as 1, and more than 8 as 8.
abbrev pub rank_posts : ℕ → ℕ
rank_posts k = max 1 (min 8 k)

-- With so many posts, a post is at least those whose number is not above its own.
abbrev pub rank_at_least : ℕ → ℕ → ℕ → Bool
rank_at_least posts p q = nat_lt p posts && nat_le q p
