-- The house ladder: eight posts, and for each the posts that it is at least.
use Rattle.std.specs.Prelude.{ℕ, Bool, false, ◌||◌, List, [], ◌∷◌, ◌==◌, slice_index_or}

-- 0 staff, 1 ground, 2 cabin, 3 first officer, 4 captain, 5 dispatcher, 6 chief pilot, 7 manager.
abbrev pub house : List (List ℕ)
house =
    (0 ∷ []) ∷ ((0 ∷ 1 ∷ []) ∷ ((0 ∷ 2 ∷ []) ∷ ((0 ∷ 3 ∷ []) ∷ ((0 ∷ 2 ∷ 3 ∷ 4 ∷ []) ∷ ((0 ∷ 1 ∷ 5 ∷ []) ∷ ((0 ∷ 2 ∷ 3 ∷ 4 ∷ 6 ∷ []) ∷ ((0 ∷ 1 ∷ 2 ∷ 3 ∷ 4 ∷ 5 ∷ 6 ∷ 7 ∷ []) ∷ [])))))))

-- The list has q.
abbrev pub among : ℕ → List ℕ → Bool
among q [] = false
among q (x ∷ xs) = q == x || among q xs

-- Post p is at least post q where q stands in p's list.
abbrev pub house_at_least : ℕ → ℕ → Bool
house_at_least p q = among q (slice_index_or house p [])
