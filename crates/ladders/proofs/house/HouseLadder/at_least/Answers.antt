-- The rows of bits say what the table says: one test over the 64 pairs.
use Rattle.std.proofs.Common.{◌≡◌, ◌<◌, ◌∙◌, List, ℕ, Bool, [], ◌∷◌, refl, slice_index}
use Rattle.std.proofs.lemmas.Bool.{agree_below, agree_below_at}
use Rattle.ladders.specs.House.{house_at_least}
use Rattle.ladders.specs.Laws.{house-laws}
use Rattle.ladders.specs.Sets.{holds}
use Rattle.ladders.proofs.Copies.{rows_same}
use Rattle.ladders.specs.Everywhere.{all-at}
use Rattle.ladders.proofs.house.HouseLadder.at_least.Goals as goal

abbrev bits : List ℕ
bits = 1 ∷ (3 ∷ (5 ∷ (9 ∷ (29 ∷ (35 ∷ (93 ∷ (255 ∷ [])))))))

abbrev row_has : ℕ → ℕ → Bool
row_has p q = holds (slice_index bits p) q

bits-tell : (p q : ℕ) → p < 8 → q < 8 → row_has p q ≡ house_at_least p q
bits-tell p q hp hq = agree_below_at (row_has p) (house_at_least p) 8 q (all-at 8 (λ k. agree_below (row_has k) (house_at_least k) 8) refl p hp) hq

pub returns : goal.returns
returns c = c.stands.ensures ∙ rows_same house-laws bits (refl, bits-tell) c.args.p c.args.q
