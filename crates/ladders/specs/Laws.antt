-- The laws of a relation on the posts below k, from one test over all of them; those of the rank and of the house ladder.
use Rattle.std.proofs.Common.{rules, arith}
use Rattle.std.specs.Prelude.{◌≡◌, ℕ, ◌<◌, ◌≤◌, Bool, true, false, ◌&&◌, ◌==◌, refl}
use Rattle.std.proofs.lemmas.Bool.{and_parts, and_from, eqb-true, false≢true}
use Rattle.std.proofs.lemmas.Bool.Decides.{nat_tests}
use Rattle.ladders.specs.House.{house_at_least}
use Rattle.ladders.specs.Ladders.{Lawful}
use Rattle.ladders.specs.Rank.{rank_at_least}
use Rattle.ladders.specs.Everywhere.{all, all-at}

abbrev pub implies : Bool → Bool → Bool
implies true b = b
implies false b = true

follows : (a b : Bool) → implies a b ≡ true → a ≡ true → b ≡ true
follows true b t e = t
follows false b t e = absurd (false≢true e)

-- p is at least s where it is at least q and q is at least s
abbrev pub chained : (ℕ → ℕ → Bool) → ℕ → ℕ → ℕ → Bool
chained r p q s = implies (r p q && r q s) (r p s)

-- the laws that speak of p and q, at every further post
abbrev pub paired : ℕ → (ℕ → ℕ → Bool) → ℕ → ℕ → Bool
paired k r p q = implies (r p q && r q p) (p == q) && all k (chained r p q)

-- the test: every law at every post
abbrev pub lawful : ℕ → (ℕ → ℕ → Bool) → Bool
lawful k r = all k (λ p. (r p p && r p 0) && all k (paired k r p))

module _ (k : ℕ) (r : ℕ → ℕ → Bool) (some : 1 ≤ k) (few : k ≤ 8) (inside : (p q : ℕ) → r p q ≡ true → (p < k) × (q < k)) (t : lawful k r ≡ true) where
  at-post : (p : ℕ) → p < k → ((r p p && r p 0) ≡ true) × (all k (paired k r p) ≡ true)
  at-post p h = and_parts (r p p && r p 0) (all k (paired k r p)) (all-at k (λ p. (r p p && r p 0) && all k (paired k r p)) t p h)

  at_pair : (p q : ℕ) → r p q ≡ true → (implies (r p q && r q p) (p == q) ≡ true) × (all k (chained r p q) ≡ true)
  at_pair p q e =
      and_parts (implies (r p q && r q p) (p == q)) (all k (chained r p q))
      (all-at k (paired k r p) (at-post p (inside p q e).0).1 q (inside p q e).1)

  pub laws : Lawful k r
  laws =
      record {
        some = some;
        few = few;
        within = inside;
        itself = λ p h. (and_parts (r p p) (r p 0) (at-post p h).0).0;
        apart = λ p q e f. eqb-true p q (follows (r p q && r q p) (p == q) (at_pair p q e).0 (and_from (r p q) (r q p) e f));
        chain =
            λ p q s e f. follows (r p q && r q s) (r p s) (all-at k (chained r p q) (at_pair p q e).1 s (inside q s f).1) (and_from (r p q) (r q s) e f);
        lowest = λ p h. (and_parts (r p p) (r p 0) (at-post p h).0).1;
      }

-- the rank ladder, from the order of numbers
pub rank-laws : (k : ℕ) → (1 ≤ k) × (k ≤ 8) → Lawful k (rank_at_least k)
rank-laws k few =
    record {
      some = few.0;
      few = few.1;
      within = λ p q h. grind (arith, nat_tests);
      itself = λ p h. grind (arith, nat_tests);
      apart = λ p q h i. grind (arith, nat_tests);
      chain = λ p q s h i. grind (arith, nat_tests);
      lowest = λ p h. grind (arith, nat_tests);
    }

house-inside : (p q : ℕ) → house_at_least p q ≡ true → (p < 8) × (q < 8)
house-inside p q h = search rules

-- the house ladder, by the test over the whole table
pub house-laws : Lawful 8 house_at_least
house-laws = laws 8 house_at_least (omega arith) (omega arith) house-inside refl
