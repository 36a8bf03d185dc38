-- Requests and their numbers.
use Rattle.std.specs.Prelude.{◌≡◌, ℕ, ◌+◌, ◌*◌, ◌/◌, ◌%◌, ◌^◌, Bool, true, cond, ◌&&◌, Some, None, Option, bit_and, nat_le, nat_lt}
use Rattle.rules.specs.declared.request.Request.{Request}

-- There are n conditions, at most 9, and at most 8 posts. A request is a post and the set of the conditions that hold,
-- condition a as bit 0; its number is the post times 2 ^ n and the set.

-- With n conditions, the request that a number stands for.
abbrev pub request_at : ℕ → ℕ → Request
request_at n number = record { post = number / 2 ^ n; set = number % 2 ^ n }

-- The request of a number: none with more than 9 conditions, or where the number is past those of the last post.
abbrev pub numbered_of : ℕ → ℕ → Option Request
numbered_of n number = cond (nat_le n 9 && nat_lt number (8 * 2 ^ n)) (Some (request_at n number)) None

-- Tells whether there may be n conditions, and a set has none but those.
abbrev pub are_conditions : ℕ → ℕ → Bool
are_conditions n set = nat_le n 9 && nat_lt set (2 ^ n)

-- The number of a request: none with more than 9 conditions, or where its set has a condition that is none of the n.
abbrev pub number_of : ℕ → Request → Option ℕ
number_of n q = cond (are_conditions n q.set) (Some (q.post * 2 ^ n + q.set)) None

-- How many requests there are on a ladder of so many posts and with n conditions.
abbrev pub request_total : ℕ → ℕ → ℕ
request_total posts n = posts * 2 ^ n

-- That number, as an answer: none with more than 9 conditions.
abbrev pub count_on : ℕ → ℕ → Option ℕ
count_on posts n = cond (nat_le n 9) (Some (request_total posts n)) None

-- The set a has every condition that the set b has.
abbrev pub Includes : ℕ → ℕ → Type 0
Includes a b = bit_and a b ≡ b

-- The request q is at or above the request s, where f tells which post is at least which: its post is at least that of s, and its set has
-- all the conditions of s.
pub record AtOrAbove (f : ℕ → ℕ → Bool) (q s : Request) : Type 0 where
  pub post : f q.post s.post ≡ true
  pub set : Includes q.set s.set
