-- Each request number of a list stands for a request.
use Rattle.std.proofs.Common.{◌≡◌, ℕ, ◌^◌, ◌<◌, ◌≤◌, Some, arith}
use Rattle.std.proofs.lemmas.Nat.{mul-le}
use Rattle.std.proofs.lemmas.Bool.Decides.{nat_tests}
use Rattle.rules.specs.Requests.{request_at, numbered_of}
use Rattle.policies.specs.Lists.{request_count}

pub numbered : (posts n r : ℕ) → posts ≤ 8 → r < request_count posts n → numbered_of n r ≡ Some (request_at n r)
numbered posts n r few h =
    let most = mul-le posts (2 ^ n) 8 (2 ^ n) few in
    grind (arith, nat_tests)
