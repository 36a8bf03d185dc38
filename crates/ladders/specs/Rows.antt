-- The rows of a ladder: what each post is at least, as a set of posts.
use Rattle.std.specs.Prelude.{◌≡◌, ℕ, zero, suc, ◌+◌, ◌<◌, Bool, cond, ◌&&◌, List, length, nat_lt, slice_index}
use Rattle.ladders.specs.Sets.{holds}

-- There are eight rows, and row p has member q where f says that p is at least q.
abbrev pub IsRows : (ℕ → ℕ → Bool) → List ℕ → Type 0
IsRows f xs = (length xs ≡ 8) × ((p q : ℕ) → p < 8 → q < 8 → holds (slice_index xs p) q ≡ f p q)

-- What eight rows say: p is at least q where both are below 8 and row p has member q.
abbrev pub rows_at_least : List ℕ → ℕ → ℕ → Bool
rows_at_least rows p q = nat_lt p 8 && (nat_lt q 8 && holds (slice_index rows p) q)

-- How many numbers below n pass a test.
unfoldable pub count_below : ℕ → (ℕ → Bool) → ℕ
count_below zero f = 0
count_below (suc n) f = count_below n f + cond (f n) 1 0

-- How many posts eight rows have: the posts are the numbers below 8 that stand in their own row.
abbrev pub row_posts : List ℕ → ℕ
row_posts rows = count_below 8 (λ p. rows_at_least rows p p)
