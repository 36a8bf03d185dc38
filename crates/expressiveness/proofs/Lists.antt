-- What a list of a model decides, by the floors of its rules.
use Rattle.std.proofs.Common.{◌≡◌, ℕ, ◌+◌, ◌*◌, ◌^◌, ◌<◌, Bool, true, ◌⊎◌, List, [], ◌∷◌, ◌++◌, map, length, sym, refl, ap, ◌∙◌, subst, inl, inr, arith, length-append, pow_pos}
use mathlib.Core.Bool.{Bool-discrete}
use mathlib.Core.Logic.Dec
use mathlib.Core.List.Memᴰ
use mathlib.Core.List.{Memᴰ}
use native.Mathlib.Decide.{ℕ_discrete}
use lib.Bits.{bit_and, and_le_l, and_zero_r}
use Rattle.std.proofs.lemmas.Nat.{div-mul-add, mod-mul-add, mod_below}
use Rattle.std.proofs.lemmas.List.{length-map}
use Rattle.std.proofs.lemmas.Bool.{false≢true}
use Rattle.ladders.proofs.Sets.{zero-holds}
use Rattle.rules.specs.declared.letter.Letter.TheVariants.{Model}
use Rattle.rules.specs.declared.letter.Model.{Model as ModelOf}
use Rattle.rules.specs.declared.letter.Model.TheVariants.{A, B, C, D}
use Rattle.rules.specs.declared.request.Request.{Request}
use Rattle.rules.specs.declared.rule.Effect.{Effect}
use Rattle.rules.specs.declared.rule.Effect.TheVariants.{Permit, Deny}
use Rattle.rules.specs.declared.rule.Rule.{Rule}
use Rattle.rules.specs.Models.{Verdict, default, default_overrides, lead, opposite, override}
use Rattle.rules.specs.Requests.{Includes, request_at}
use Rattle.rules.specs.Rules.{Applies}
use Rattle.policies.specs.Lists.{Applied, Counts}
use Rattle.expressiveness.specs.Floors.{HasRule, Over, floor_rule, list_of}
use Rattle.expressiveness.proofs.Search.{dec-like}
use Rattle.expressiveness.proofs.Requests.{request-eta}

pub opposite-not : (e : Effect) → opposite e ≡ e → ⊥
opposite-not Permit p = let z : ◌≡◌ {A = ℕ} 0 1 = cc in omega arith
opposite-not Deny p = let z : ◌≡◌ {A = ℕ} 0 1 = cc in omega arith

-- each effect is d or its opposite
unfoldable pub by-effect : (P : Effect → Type 0) (d x : Effect) → P d → P (opposite d) → P x
by-effect P Permit Permit p q = p
by-effect P Permit Deny p q = q
by-effect P Deny Permit p q = q
by-effect P Deny Deny p q = p

unfoldable pub effect? : (x y : Effect) → Dec (x ≡ y)
effect? x y = by-effect (λ z. Dec (x ≡ z)) x y (yes refl) (no (λ p. opposite-not x (sym p)))

opposite-twice : (e : Effect) → opposite (opposite e) ≡ e
opposite-twice e = by-effect (λ x. opposite (opposite x) ≡ x) Permit e refl refl

-- the two kinds of model
overrides : (m : ModelOf) → ((default_overrides m ≡ true) × (override m ≡ default m)) ⊎ ((default_overrides m ≡ true → ⊥) × (override m ≡ lead m))
overrides A = inl (refl, refl)
overrides B = inl (refl, refl)
overrides C = inr (false≢true, refl)
overrides D = inr (false≢true, refl)

-- the lead effect is decided: a lead rule applies, and no counter rule where the default overrides
abbrev pub LeadDecides : (m : ModelOf) (Reached : Effect → Type 0) → Type 0
LeadDecides m Reached = Reached (lead m) × (default_overrides m ≡ true → Reached (default m) → ⊥)

module _ (m : ModelOf) (Reached : Effect → Type 0) (e : Effect) where
  abbrev pub LeadWhere : Type 0
  LeadWhere = (e ≡ lead m → LeadDecides m Reached) × (LeadDecides m Reached → e ≡ lead m)

  not-lead : (LeadDecides m Reached → ⊥) → e ≡ default m → LeadWhere
  not-lead n p = (λ q. absurd (opposite-not (default m) (sym q ∙ p)), λ l. absurd (n l))

  pub verdict-lead : ((x : Effect) → Dec (Reached x)) → Verdict m Reached e → LeadWhere
  verdict-lead d h = go (d (lead m)) (d (default m))
    where
      go : Dec (Reached (lead m)) → Dec (Reached (default m)) → LeadWhere
      go (no n) (no k) = not-lead (λ l. n l.0) (h.none (λ x. by-effect (λ y. Reached y → ⊥) (default m) x k n))
      go (no n) (yes c) = not-lead (λ l. n l.0) (h.one (default m) c n)
      go (yes a) (no k) = (λ _. (a, λ _. k), λ _. h.one (lead m) a (rw opposite-twice k))
      go (yes a) (yes c) =
          let p = h.both (λ x. by-effect Reached (default m) x c a) in
          elim (overrides m) [
            | inl (w, o) ↦ not-lead (λ l. l.1 w c) (p ∙ o)
            | inr (w, o) ↦ (λ _. (a, λ v. absurd (w v)), λ _. p ∙ o)
          ]

  other : (e ≡ lead m → ⊥) → e ≡ default m
  other = by-effect (λ x. (x ≡ lead m → ⊥) → x ≡ default m) (default m) e (λ _. refl) (λ n. absurd (n refl))

  pub lead-verdict : LeadWhere → Verdict m Reached e
  lead-verdict (to, from) =
      record {
        none = λ none. other (λ p. none (lead m) (to p).0);
        one = λ x.
            by-effect (λ y. Reached y → (Reached (opposite y) → ⊥) → e ≡ y) (default m) x (λ c n. other (λ p. n (to p).0))
            (λ a n. from (a, λ _ c. n (rw opposite-twice c)));
        both = λ all.
            elim (overrides m) [
              | inl (w, o) ↦ other (λ p. (to p).1 w (all (default m))) ∙ sym o
              | inr (w, o) ↦ from (all (lead m), λ v. absurd (w v)) ∙ sym o
            ];
      }

some-in? : {P : Rule → Type 0} → ((t : Rule) → Dec (P t)) → (ts : List Rule) → Dec ((t : Rule) × (Memᴰ t ts × P t))
some-in? d [] = no (λ h. Memᴰ.not-nil h.1.0)
some-in? {P} d (t ∷ ts) = step (d t) (some-in? d ts)
  where
    step : Dec (P t) → Dec ((t : Rule) × (Memᴰ t ts × P t)) → Dec ((s : Rule) × (Memᴰ s (t ∷ ts) × P s))
    step (yes p) h = yes (t, (Memᴰ.head refl, p))
    step (no n) (yes (s, (i, p))) = yes (s, (Memᴰ.tail i, p))
    step (no n) (no none) = no (λ (s, (i, p)). elim (Memᴰ.cases_cons i) [ inl e ↦ n (subst P e p) | inr k ↦ none (s, (k, p)) ])

module _ (f : ℕ → ℕ → Bool) (m : ModelOf) where
  -- a floor rule applies exactly at or above its floor post and needed set
  pub applies-floor : (t : Rule) (q : Request) → Counts (Model m) t → Includes q.set t.needed × (f q.post t.floor ≡ true) → Applies f t q
  applies-floor t q (b, c) (i, a) =
      record {
        needed = i;
        barred = rw b (and_zero_r q.set);
        floor = a;
        posts = λ p h. absurd (false≢true (sym (zero-holds p) ∙ (rw c at h)));
      }

  pub reached? : (ts : List Rule) (q : Request) (e : Effect) → Dec (Applied f (Model m) ts q e)
  reached? ts q e =
      some-in?
      (λ t.
      dec-like (λ (p, (b, i)). (p, (b, applies-floor t q b i)), λ (p, (b, h)). (p, (b, (h.needed, h.floor))))
      (Dec.and (effect? t.effect e)
      (Dec.and (Dec.and (ℕ_discrete t.barred 0) (ℕ_discrete t.barred_posts 0))
      (Dec.and (ℕ_discrete (bit_and q.set t.needed) t.needed) (Bool-discrete (f q.post t.floor) true)))))
      ts

  -- a list reaches the requests at or above its floors
  module _ (n : ℕ) (ts : List Rule) (r : ℕ) (e : Effect) where
    abbrev pub ByFloor : Type 0
    ByFloor = (s : ℕ) × (Over f n r s × HasRule n ts e s)

    pub reached-by : Applied f (Model m) ts (request_at n r) e → ByFloor
    reached-by (t, (i, (p, ((b, c), h)))) =
        let s : ℕ = t.floor * 2 ^ n + t.needed in
        let l : t.needed < 2 ^ n = omega (arith, and_le_l (request_at n r).set t.needed, h.needed, mod_below r (2 ^ n) (pow_pos n)) in
        let u : (request_at n s).post ≡ t.floor = div-mul-add t.floor (2 ^ n) t.needed l in
        let v : (request_at n s).set ≡ t.needed = mod-mul-add t.floor (2 ^ n) t.needed l in
        (s, (record { post = rw u h.floor; set = rw v h.needed }, (t, (i, record { effect = p; needed = sym v; floor = sym u; barred = b; posts = c }))))

    pub by-floor : ByFloor → Applied f (Model m) ts (request_at n r) e
    by-floor (s, (over, (t, (i, k)))) =
        (t, (i, (k.effect, ((k.barred, k.posts), applies-floor t (request_at n r) (k.barred, k.posts) (rw k.needed over.set, rw k.floor over.post)))))

-- the floors of the rules of a list that is made of floors
module _ (n : ℕ) where
  pub has-floor : (e : Effect) (r : ℕ) (xs : List ℕ) → Memᴰ r xs → (ts : List Rule) → ((t : Rule) → Memᴰ t (map (floor_rule n e) xs) → Memᴰ t ts)
      → HasRule n ts e r
  has-floor e r xs i ts into =
      (floor_rule n e r, (into (floor_rule n e r) (Memᴰ.map (floor_rule n e) i), record { effect = refl; needed = refl; floor = refl; barred = refl; posts = refl }))

  pub floor-in : (e : Effect) (r : ℕ) (d : Effect) (xs : List ℕ) (c : Effect) (ys : List ℕ) → HasRule n (map (floor_rule n d) xs ++ map (floor_rule n c) ys) e r
      → ((d ≡ e) × Memᴰ r xs) ⊎ ((c ≡ e) × Memᴰ r ys)
  floor-in e r d xs c ys (t, (i, k)) = elim (Memᴰ.append_cases (map (floor_rule n d) xs) i) [ inl j ↦ inl (one d xs j) | inr j ↦ inr (one c ys j) ]
    where
      one : (d : Effect) (xs : List ℕ) → Memᴰ t (map (floor_rule n d) xs) → (d ≡ e) × Memᴰ r xs
      one d xs j =
          let (x, q, p) = Memᴰ.of_map (floor_rule n d) xs j in (
            ap (λ (t : Rule). t.effect) p ∙ k.effect,
            Memᴰ.cast (request-eta n r x (sym k.floor ∙ sym (ap (λ (t : Rule). t.floor) p)) (sym k.needed ∙ sym (ap (λ (t : Rule). t.needed) p))) q,
          )

  pub length-list : (m : ModelOf) (leads counters : List ℕ) → length (list_of n m leads counters) ≡ length leads + length counters
  length-list m leads counters = simp (length-append, length-map)
