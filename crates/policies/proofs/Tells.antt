-- The tests of a list tell what the relations say.
use Rattle.std.proofs.Common.{◌≡◌, ℕ, ◌<◌, Bool, false, not, ◌&&◌, eqb, ◌⊎◌, List, [], ◌∷◌, Decides, sym, refl, ap, ◌∙◌, subst, inl, inr, ⊎_elim, arith}
use mathlib.Core.List.Memᴰ
use Rattle.std.proofs.lemmas.Bool.{not-true, not_from_false, cases_Bool, false≢true}
use Rattle.std.proofs.lemmas.Bool.Decides.{Decides-and, Decides-below_and, Decides-eqb, Decides-like, Decides-or, same_from_decides}
use Rattle.ladders.specs.Ladders.{Lawful}
use Rattle.ladders.specs.Sets.{holds}
use Rattle.rules.specs.declared.letter.Letter.{Letter}
use Rattle.rules.specs.declared.letter.Letter.TheVariants.{Guarded, Model}
use Rattle.rules.specs.declared.request.Request.{Request}
use Rattle.rules.specs.declared.rule.Effect.{Effect}
use Rattle.rules.specs.declared.rule.Effect.TheVariants.{Permit, Deny}
use Rattle.rules.specs.declared.rule.Rule.{Rule}
use Rattle.rules.specs.Rules.{Applies, Clear}
use Rattle.rules.proofs.Posts.{clear-all}
use Rattle.policies.specs.Lists.{Counts, Applied}
use Rattle.policies.specs.ListMeaning.{same_effect, counts, none_below, clears, applies, rule_reaches, reaches}

same-tells : (x y : Effect) → Decides (same_effect x y) (x ≡ y)
same-tells Permit Permit = (λ _. refl, λ _. refl)
same-tells Permit Deny = (λ t. absurd (false≢true t), λ e. cc)
same-tells Deny Permit = (λ t. absurd (false≢true t), λ e. cc)
same-tells Deny Deny = (λ _. refl, λ _. refl)

counts-tells : (letter : Letter) (t : Rule) → Decides (counts letter t) (Counts letter t)
counts-tells Guarded t = same-tells t.effect Permit
counts-tells (Model m) t = Decides-and (eqb t.barred 0) (eqb t.barred_posts 0) (Decides-eqb t.barred 0) (Decides-eqb t.barred_posts 0)

-- a test that fails
fails-tells : (b : Bool) → Decides (not b) (b ≡ false)
fails-tells b = (not-true b, not_from_false b)

none-tells : (f : ℕ → Bool) (n : ℕ) → Decides (none_below n f) ((k : ℕ) → k < n → f k ≡ false)
unfolding none_below
none-tells f = Decides-below_and (λ k. not (f k)) (λ k. f k ≡ false) (λ n. none_below n f) (λ k. fails-tells (f k)) refl (λ _. refl)

module _ {posts : ℕ} {f : ℕ → ℕ → Bool} (laws : Lawful posts f) where
  clears-tells : (post barred : ℕ) → Decides (clears f post barred) (Clear f post barred)
  clears-tells post barred =
      Decides-like (clears f post barred)
      (λ none. clear-all laws post barred (λ p lt h. let fails = none p lt in grind arith))
      (λ clear p _. let fails = clear p in let cases = cases_Bool (holds barred p) in grind arith)
      (none-tells (λ p. holds barred p && f post p) 8)

  pub applies-tells : (t : Rule) (q : Request) → Decides (applies f t q) (Applies f t q)
  applies-tells t q =
      Decides-like (applies f t q)
      (λ h. record { needed = h.0; barred = h.1.0; floor = h.1.1.0; posts = h.1.1.1 })
      (λ h. (h.needed, (h.barred, (h.floor, h.posts))))
      (Decides-and _ _ (Decides-eqb _ _) (Decides-and _ _ (Decides-eqb _ _) (Decides-and (f q.post t.floor) _ (λ e. e, λ e. e) (clears-tells q.post t.barred_posts))))

  -- the rule t is one of those
  abbrev Here : Letter → Effect → Request → Rule → Type 0
  Here letter e q t = (t.effect ≡ e) × (Counts letter t × Applies f t q)

  here-tells : (letter : Letter) (e : Effect) (q : Request) (t : Rule) → Decides (rule_reaches f letter e q t) (Here letter e q t)
  here-tells letter e q t = Decides-and _ _ (same-tells t.effect e) (Decides-and _ _ (counts-tells letter t) (applies-tells t q))

  pub reaches-tells : (letter : Letter) (e : Effect) (q : Request) (ts : List Rule) → Decides (reaches f letter e q ts) (Applied f letter ts q e)
  reaches-tells letter e q [] = (λ t. absurd (false≢true t), λ h. absurd (Memᴰ.not-nil h.1.0))
  reaches-tells letter e q (t ∷ ts) =
      Decides-like (reaches f letter e q (t ∷ ts)) to from (Decides-or _ _ (here-tells letter e q t) (reaches-tells letter e q ts))
    where
      to : Here letter e q t ⊎ Applied f letter ts q e → Applied f letter (t ∷ ts) q e
      to (inl h) = (t, (Memᴰ.head refl, h))
      to (inr (s, (i, h))) = (s, (Memᴰ.tail i, h))

      from : Applied f letter (t ∷ ts) q e → Here letter e q t ⊎ Applied f letter ts q e
      from (s, (i, h)) = ⊎_elim (λ (same : s ≡ t). inl (subst (Here letter e q) same h)) (λ j. inr (s, (j, h))) (Memᴰ.cases_cons i)

  -- what is left of the tests of one rule, once it has the effect and counts
  pub rule-applies : (letter : Letter) (e : Effect) (q : Request) (t : Rule) (r : Bool) → t.effect ≡ e → Counts letter t → Decides r (Applies f t q) → r ≡ rule_reaches f letter e q t
  rule-applies letter e q t r same count h =
      same_from_decides r (applies f t q) h (applies-tells t q)
      ∙ ap (λ b. b && applies f t q) (sym ((counts-tells letter t).1 count))
      ∙ ap (λ b. b && (counts letter t && applies f t q)) (sym ((same-tells t.effect e).1 same))
