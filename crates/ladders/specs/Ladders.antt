-- What makes a number of posts and a relation on them a ladder.
use Rattle.std.specs.Prelude.{◌≡◌, ℕ, ◌<◌, ◌≤◌, Bool, true}

-- A ladder has 1 to 8 posts, numbered from 0, and `at_least p q` tells whether post p is at least post q.
-- A number that is no post is at least nothing, and nothing is at least it (`within`).
-- Each post is at least itself, no two different posts are each at least the other (`apart`),
-- at least carries along a chain of posts, and every post is at least post 0 (`lowest`).
pub record Lawful (posts : ℕ) (at_least : ℕ → ℕ → Bool) : Type 0 where
  pub some : 1 ≤ posts
  pub few : posts ≤ 8
  pub within : (p q : ℕ) → at_least p q ≡ true → (p < posts) × (q < posts)
  pub itself : (p : ℕ) → p < posts → at_least p p ≡ true
  pub apart : (p q : ℕ) → at_least p q ≡ true → at_least q p ≡ true → p ≡ q
  pub chain : (p q s : ℕ) → at_least p q ≡ true → at_least q s ≡ true → at_least p s ≡ true
  pub lowest : (p : ℕ) → p < posts → at_least p 0 ≡ true
