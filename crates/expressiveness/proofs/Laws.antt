-- Conversion of a policy into a list of a model, over every ladder.
use Rattle.std.proofs.Common.{◌≡◌, ℕ, ◌<◌, Bool, true, false, cond, List, map, sym, refl, inl, inr}
use mathlib.Core.Bool.{Bool-discrete}
use mathlib.Core.Logic.Dec
use mathlib.Core.List.Memᴰ
use native.Mathlib.Decide.{dec_lt}
use Rattle.std.proofs.lemmas.Bool.{false≢true}
use Rattle.ladders.specs.Ladders.{Lawful}
use Rattle.rules.specs.declared.letter.Letter.TheVariants.{Model}
use Rattle.rules.specs.declared.letter.Model.{Model as ModelOf}
use Rattle.rules.specs.declared.rule.Effect.{Effect}
use Rattle.rules.specs.declared.rule.Rule.{Rule}
use Rattle.rules.specs.Models.{default, default_overrides, lead}
use Rattle.rules.specs.Requests.{request_at, request_total}
use Rattle.policies.specs.Lists.{Applied}
use Rattle.expressiveness.specs.Order.{Gap, LeadFloor, Step}
use Rattle.expressiveness.specs.Floors.{Alike, Contains, Floors, HasRule, Led, Obstacle, Over, floor_rule, list_of}
use Rattle.expressiveness.proofs.Search.{dec-like}
use Rattle.expressiveness.proofs.Ground.{Agrees, Break, Counters, Ground, Leads, agrees_like, break?, counter-floor?, covers-counters, floors-agree, has-leads, lead-floor?, no-list}
use Rattle.expressiveness.proofs.Rising.{in-rising, rising, rising-in, rising-one}
use Rattle.expressiveness.proofs.Requests.{ground}
use Rattle.expressiveness.proofs.Lists.{LeadDecides, by-floor, effect?, floor-in, has-floor, lead-verdict, opposite-not, reached-by, reached?, verdict-lead}

module _ (posts : ℕ) (f : ℕ → ℕ → Bool) (n : ℕ) (policy : ℕ → Effect) (m : ModelOf) where
  abbrev total : ℕ
  total = request_total posts n

  abbrev Leading : ℕ → Type 0
  Leading = Led posts f n policy m

  -- a gap or a step is a break, by the kind of the model
  abbrev GapOrStep : Bool → Type 0
  GapOrStep w = cond w ((u : ℕ) × (x : ℕ) × (l : ℕ) × Gap (Over f n) Leading u x l) ((u : ℕ) × (l : ℕ) × Step (Over f n) Leading u l)

  unfoldable pub to-break : (w : Bool) → GapOrStep w → (x : ℕ) × Break total (Over f n) Leading w x
  to-break true (u, x, l, g) = (x, ((l, (g.under, g.lower-led)), (g.middle-not, λ _. (u, (g.over, g.upper-led)))))
  to-break false (u, l, s) = (u, ((l, (s.over, s.lower-led)), (s.upper-not, λ e. absurd (false≢true e))))

  unfoldable pub from-break : (w : Bool) → (x : ℕ) × Break total (Over f n) Leading w x → GapOrStep w
  from-break true (x, ((l, (a, led)), (unled, up))) =
      let (u, (b, k)) = up refl in (u, x, l, record { over = b; under = a; upper-led = k; middle-not = unled; lower-led = led })
  from-break false (x, ((l, (a, led)), (unled, up))) = (x, l, record { over = a; upper-not = unled; lower-led = led })

  -- a list decides alike where it agrees by its floors
  abbrev Agree : List Rule → Type 0
  Agree ts = Agrees total (Over f n) Leading (default_overrides m) (HasRule n ts (lead m)) (HasRule n ts (default m))

  abbrev LeadsAt : List Rule → ℕ → Type 0
  LeadsAt ts = Leads total (Over f n) Leading (default_overrides m) (HasRule n ts (lead m)) (HasRule n ts (default m))

  to-floors : (ts : List Rule) (r : ℕ) → LeadDecides m (Applied f (Model m) ts (request_at n r)) → LeadsAt ts r
  to-floors ts r (a, k) = (reached-by f m n ts r (lead m) a, λ e c. k e (by-floor f m n ts r (default m) c))

  from-floors : (ts : List Rule) (r : ℕ) → LeadsAt ts r → LeadDecides m (Applied f (Model m) ts (request_at n r))
  from-floors ts r (a, k) = (by-floor f m n ts r (lead m) a, λ e c. k e (reached-by f m n ts r (default m) c))

  agrees : (ts : List Rule) → Alike posts f n policy m ts → Agree ts
  agrees ts same r h =
      let (to, from) = verdict-lead m (Applied f (Model m) ts (request_at n r)) (policy r) (reached? f m ts (request_at n r)) (same r h) in
      (λ led. to-floors ts r (to led.1), λ l. (h, from (from-floors ts r l)))

  alike : (ts : List Rule) → Agree ts → Alike posts f n policy m ts
  alike ts same r h =
      let (to, from) = same r h in
      lead-verdict m (Applied f (Model m) ts (request_at n r)) (policy r) (λ p. from-floors ts r (to (h, p)), λ l. (from (to-floors ts r l)).1)

  -- the floors of the defined list are the floors of its rules
  module _ (ls cs : List ℕ) (floors : Floors posts f n policy m ls cs) where
    has-lead : (r : ℕ) → r < total
        → (LeadFloor (Over f n) Leading r → HasRule n (list_of n m ls cs) (lead m) r) × (HasRule n (list_of n m ls cs) (lead m) r → LeadFloor (Over f n) Leading r)
    has-lead r h = (
      λ p. has-floor n (lead m) r ls (in-rising floors.leads-are r h p) (list_of n m ls cs) (λ t. Memᴰ.append_left (map (floor_rule n (default m)) cs)),
      λ k.
          elim (floor-in n (lead m) r (lead m) ls (default m) cs k) [
            | inl (e, i) ↦ (rising-in floors.leads-are r i).1
            | inr (e, i) ↦ absurd (opposite-not (default m) (sym e))
          ],
    )

    has-counter : (r : ℕ) → r < total
        → (Counters total (Over f n) Leading (default_overrides m) r → HasRule n (list_of n m ls cs) (default m) r)
        × (HasRule n (list_of n m ls cs) (default m) r → Counters total (Over f n) Leading (default_overrides m) r)
    has-counter r h = (
      λ p. has-floor n (default m) r cs (in-rising floors.counters-are r h p) (list_of n m ls cs) (λ t. Memᴰ.append_right (map (floor_rule n (lead m)) ls)),
      λ k.
          elim (floor-in n (default m) r (lead m) ls (default m) cs k) [
            | inl (e, i) ↦ absurd (opposite-not (default m) e)
            | inr (e, i) ↦ (rising-in floors.counters-are r i).1
          ],
    )

  pub one_list : {l c l' c' : List ℕ} → Floors posts f n policy m l c → Floors posts f n policy m l' c' → (l ≡ l') × (c ≡ c')
  one_list p q = (rising-one p.leads-are q.leads-are, rising-one p.counters-are q.counters-are)

  module _ (laws : Lawful posts f) where
    unfoldable pub here : Ground total (Over f n) Leading
    here = ground laws n (λ r. Dec.and (dec_lt r total) (effect? (policy r) (lead m)))

    unfoldable pub obstacle? : Dec (Obstacle posts f n policy m)
    obstacle? = dec-like (from-break (default_overrides m), to-break (default_overrides m)) (break? here (default_overrides m))

    unfoldable pub defined : (leads : List ℕ) × (counters : List ℕ) × Floors posts f n policy m leads counters
    defined =
        let (ls, l) = rising (lead-floor? here) total in
        let (cs, c) = rising (λ r. Dec.and (Bool-discrete (default_overrides m) true) (counter-floor? here r)) total in
        (ls, cs, record { leads-are = l; counters-are = c })

    -- without an obstacle the defined list decides alike
    pub decides-alike : (Obstacle posts f n policy m → ⊥) → (ls cs : List ℕ) → Floors posts f n policy m ls cs → Alike posts f n policy m (list_of n m ls cs)
    decides-alike none ls cs floors =
        alike (list_of n m ls cs)
        (agrees_like here (default_overrides m) (has-lead ls cs floors) (has-counter ls cs floors)
        (floors-agree here (default_overrides m) (λ x b. none (from-break (default_overrides m) (x, b)))))

    -- an obstacle is there exactly where no list decides alike
    pub obstacle-none : Obstacle posts f n policy m → (ts : List Rule) → Alike posts f n policy m ts → ⊥
    obstacle-none obs ts same = let (x, b) = to-break (default_overrides m) obs in no-list here (default_overrides m) x b (agrees ts same)

    pub none-obstacle : ((ts : List Rule) → Alike posts f n policy m ts → ⊥) → Obstacle posts f n policy m
    none-obstacle h = (Dec.not-not obstacle?).0 (λ none. let (l, c, floors) = defined in h (list_of n m l c) (decides-alike none l c floors))

    -- a list that decides alike contains the defined one
    pub contains : (ls cs : List ℕ) → Floors posts f n policy m ls cs → (ts : List Rule) → Alike posts f n policy m ts → Contains posts f n policy m ts ls cs
    contains ls cs floors ts same =
        record {
          lead-rules = λ r i. let (h, floor) = rising-in floors.leads-are r i in has-leads here (default_overrides m) (agrees ts same) r h floor;
          counter-rules = λ e r h c.
              let (s, (a, floor)) = covers-counters here (default_overrides m) (agrees ts same) e r h (reached-by f m n ts r (default m) c) in
              by-floor f m n (list_of n m ls cs) r (default m) (s, (a, (has-counter ls cs floors s (here.within r s a).1).0 (e, floor)));
        }
