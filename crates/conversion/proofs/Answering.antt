-- One answer comes of a conversion, and what it promises follows from that answer alone.
use Rattle.std.proofs.Common.{◌≡◌, ℕ, ◌+◌, ◌<◌, ◌≤◌, Bool, true, false, ◌⊎◌, List, length, take, drop, Ok, Err, Result, sym, refl, ap, ◌∙◌, subst, ap₂, inl, inr, arith}
use lib.Seq.{take-append_seam}
use Rattle.std.proofs.lemmas.Bool.{both_ways}
use Rattle.ladders.specs.Ladders.{Lawful}
use Rattle.rules.specs.declared.letter.Model.{Model as ModelOf}
use Rattle.rules.specs.declared.rule.Rule.{Rule}
use Rattle.rules.specs.Filled.{filled}
use Rattle.rules.specs.Models.{default_overrides}
use Rattle.rules.specs.Requests.{request_total}
use Rattle.policies.specs.Policies.{Meaning}
use Rattle.expressiveness.specs.Order.{FirstGap, FirstStep}
use Rattle.expressiveness.specs.Floors.{Alike, Floors, Led, Obstacle, Over, list_of}
use Rattle.expressiveness.proofs.Lists.{length-list}
use Rattle.expressiveness.proofs.Told.{one-gap, one-step}
use Rattle.expressiveness.proofs.Laws.{contains, decides-alike, none-obstacle, obstacle-none, one_list}
use Rattle.conversion.specs.declared.refusal.Unconverted.{Unconverted}
use Rattle.conversion.specs.declared.refusal.Unconverted.TheVariants.{Misfit, FewWorkBytes, Gap, Step, FewSlots}
use Rattle.conversion.specs.Converts.{Answers, Converts, Fits, OneAnswer, Ready, ShowsNone, charted}

-- what comes: an answer, the work bytes and the slots
abbrev Outcome : Type 0
Outcome = Result (ℕ × ℕ) Unconverted × (List ℕ × List Rule)

-- no two things come that have the property X
abbrev One : (Outcome → Type 0) → Type 0
One X = (x y : Outcome) → X x → X y → x ≡ y

one-is : (o : Outcome) → One (λ x. x ≡ o)
one-is o x y p q = p ∙ sym q

one_of : {P Q : Type 0} {X Y : Outcome → Type 0} → (P → Q → ⊥) → One X → One Y → One (λ x. (P × X x) ⊎ (Q × Y x))
one_of apart f g x y (inl (p, a)) (inl (q, b)) = f x y a b
one_of apart f g x y (inl (p, a)) (inr (q, b)) = absurd (apart p q)
one_of apart f g x y (inr (p, a)) (inl (q, b)) = absurd (apart q p)
one_of apart f g x y (inr (p, a)) (inr (q, b)) = g x y a b

one-with : {I : Type 0} {F : I → Type 0} {X : I → Outcome → Type 0} → ((i j : I) → F i → F j → i ≡ j) → ((i : I) → One (X i)) → One (λ x. (i : I) × (F i × X i x))
one-with {X = X} same one x y (i, (p, a)) (j, (q, b)) = one j x y (subst (λ k. X k x) (same i j p q) a) b

module _ (posts : ℕ) (f : ℕ → ℕ → Bool) (n : ℕ) (p : Meaning) (m : ModelOf) (work : List ℕ) (slots : List Rule) where
  abbrev Answer : Result (ℕ × ℕ) Unconverted → List ℕ → List Rule → Type 0
  Answer = Answers posts f n p m work slots

  abbrev Fit : Type 0
  Fit = Fits posts f n p m

  abbrev Stopped : Type 0
  Stopped = Obstacle posts f n p.effect m

  abbrev Leading : ℕ → Type 0
  Leading = Led posts f n p.effect m

  abbrev total : ℕ
  total = request_total posts n

  abbrev chart : List ℕ
  chart = charted posts f n p m work

  -- where something stands in the way: the gap or the step that is told
  abbrev Told : Outcome → Type 0
  Told x =
      ((default_overrides m ≡ true)
      × ((g : ℕ × (ℕ × ℕ)) × (FirstGap (Over f n) Leading g.0 g.1.0 g.1.1 × (x ≡ (Err (Gap g.0 g.1.0 g.1.1), (chart, slots))))))
      ⊎ ((default_overrides m ≡ false)
      × ((s : ℕ × ℕ) × (FirstStep (Over f n) Leading s.0 s.1 × (x ≡ (Err (Step s.0 s.1), (chart, slots))))))

  -- where nothing does: the defined list, if it fits the slots
  abbrev Made : List ℕ → List ℕ → Outcome → Type 0
  Made leads counters x =
      ((length slots < length (list_of n m leads counters)) × (x ≡ (Err (FewSlots (length (list_of n m leads counters))), (chart, slots))))
      ⊎ ((length (list_of n m leads counters) ≤ length slots)
      × (x ≡ (Ok (length leads, length counters), (chart, filled (list_of n m leads counters) slots))))

  -- what comes, by the questions that lead to it
  abbrev Comes : Outcome → Type 0
  Comes x =
      ((Fit → ⊥) × (x ≡ (Err Misfit, (work, slots))))
      ⊎ (Fit
      × (((length work < total) × (x ≡ (Err (FewWorkBytes total), (work, slots))))
      ⊎ ((total ≤ length work)
      × ((Stopped × Told x)
      ⊎ ((Stopped → ⊥) × ((l : List ℕ × List ℕ) × (Floors posts f n p.effect m l.0 l.1 × Made l.0 l.1 x)))))))

  one-comes : One Comes
  one-comes =
      one_of (λ unfit fits. unfit fits) (one-is _)
      (one_of (λ few enough. omega arith) (one-is _)
      (one_of (λ stopped clear. clear stopped)
      (one_of (λ over under. both_ways (default_overrides m) under over)
      (one-with (λ g h a b. let (u, x, l) = one-gap _ _ _ _ _ _ a b in λ i. (u i, (x i, l i))) (λ g. one-is _))
      (one-with (λ s t a b. let (u, l) = one-step _ _ _ _ a b in λ i. (u i, l i)) (λ s. one-is _)))
      (one-with (λ k l a b. let (u, v) = one_list posts f n p.effect m a b in λ i. (u i, v i)) (λ l. one_of (λ few enough. omega arith) (one-is _) (one-is _)))))

  gap-stops : default_overrides m ≡ true → {u x l : ℕ} → FirstGap (Over f n) Leading u x l → Stopped
  gap-stops e {x = x} h = let (u, l, g) = h.middle-least.0 in rw e (u, x, l, g)

  step-stops : default_overrides m ≡ false → {u l : ℕ} → FirstStep (Over f n) Leading u l → Stopped
  step-stops e {l = l} h = let (u, s) = h.lower-least.0 in rw e (u, l, s)

  comes : (r : Result (ℕ × ℕ) Unconverted) (w : List ℕ) (ts : List Rule) → Answer r w ts → Comes (r, (w, ts))
  comes (Err Misfit) w ts (unfit, (e, g)) = inl (unfit, cc)
  comes (Err (FewWorkBytes k)) w ts (fits, (q, (few, (e, g)))) = inr (fits, inl (omega arith, cc))
  comes (Err (Gap u x l)) w ts ((fits, enough), (over, (gap, (e, g)))) =
      inr (fits, inr (enough, inl (gap-stops over gap, inl (over, ((u, (x, l)), (gap, cc))))))
  comes (Err (Step u l)) w ts ((fits, enough), (under, (step, (e, g)))) =
      inr (fits, inr (enough, inl (step-stops under step, inr (under, ((u, l), (step, cc))))))
  comes (Err (FewSlots k)) w ts ((fits, enough), (ls, (cs, (d, (q, (few, (e, g))))))) =
      inr (fits, inr (enough, inr (d.clear, ((ls, cs), (d.floors, inl (omega arith, cc))))))
  comes (Ok (k, l)) w ts ((fits, enough), (ls, (cs, (d, (a, (b, (room, (e, g)))))))) =
      inr (fits, inr (enough, inr (d.clear, ((ls, cs), (d.floors, inr (room, cc))))))

  pub one_answer : OneAnswer posts f n p m work slots
  one_answer r s w v ts us a b =
      let e = one-comes (r, (w, ts)) (s, (v, us)) (comes r w ts a) (comes s v us b) in (λ i. (e i).0, (λ i. (e i).1.0, λ i. (e i).1.1))

  -- 17 or 18 comes where something stands in the way
  stopped : (r : Result (ℕ × ℕ) Unconverted) (w : List ℕ) (ts : List Rule) → Answer r w ts → ShowsNone r → Stopped
  stopped (Err Misfit) w ts a s = absurd (omega arith)
  stopped (Err (FewWorkBytes k)) w ts a s = absurd (omega arith)
  stopped (Err (Gap u x l)) w ts (ready, (over, (gap, left))) s = gap-stops over gap
  stopped (Err (Step u l)) w ts (ready, (under, (step, left))) s = step-stops under step
  stopped (Err (FewSlots k)) w ts a s = absurd (omega arith)
  stopped (Ok counts) w ts a s = absurd s

  -- and there, of what is ready, nothing else
  shown : (r : Result (ℕ × ℕ) Unconverted) (w : List ℕ) (ts : List Rule) → Answer r w ts → Ready posts f n p m work → Stopped → ShowsNone r
  shown (Err Misfit) w ts (unfit, left) (fits, enough) s = absurd (unfit fits)
  shown (Err (FewWorkBytes k)) w ts (fits, (e, (few, left))) ready s = absurd (omega arith)
  shown (Err (Gap u x l)) w ts a ready s = inl refl
  shown (Err (Step u l)) w ts a ready s = inr refl
  shown (Err (FewSlots k)) w ts (made, (ls, (cs, (d, left)))) ready s = absurd (d.clear s)
  shown (Ok counts) w ts (made, (ls, (cs, (d, left)))) ready s = absurd (d.clear s)

  -- the slots hold the defined list, as far as the counts say
  module _ (laws : Lawful posts f) where
    granted : (r : Result (ℕ × ℕ) Unconverted) (w : List ℕ) (ts : List Rule) → Answer r w ts → (k l : ℕ) → r ≡ Ok (k, l)
        → Alike posts f n p.effect m (take (k + l) ts)
    granted (Err e) w ts a k l q = let z : ◌≡◌ {A = ℕ} 0 1 = cc in absurd (omega arith)
    granted (Ok counts) w ts (ready, (ls, (cs, (d, (a, (b, (room, (e, g)))))))) k l q =
        let list : List Rule = list_of n m ls cs in
        let same : counts ≡ (k, l) = cc in
        let count : k + l ≡ length list = omega (arith, ap (λ (c : ℕ × ℕ). c.0 + c.1) same, length-list n m ls cs) in
        subst (Alike posts f n p.effect m) (sym (ap₂ take count g ∙ take-append_seam list (drop (length list) slots)))
        (decides-alike posts f n p.effect m laws d.clear ls cs d.floors)

pub converts : {posts : ℕ} {f : ℕ → ℕ → Bool} {n : ℕ} {p : Meaning} {m : ModelOf} {work : List ℕ} {slots : List Rule} {r : Result (ℕ × ℕ) Unconverted} {w : List ℕ}
    {ts : List Rule} → Lawful posts f → Answers posts f n p m work slots r w ts → Converts posts f n p m work slots r w ts
converts {posts} {f} {n} {p} {m} {work} {slots} {r} {w} {ts} laws a =
    record {
      answer = a;
      once = one_answer posts f n p m work slots;
      law = λ ready.
          record {
            none = λ s. obstacle-none posts f n p.effect m laws (stopped posts f n p m work slots r w ts a s);
            only = λ h. shown posts f n p m work slots r w ts a ready (none-obstacle posts f n p.effect m laws h);
            granted = granted posts f n p m work slots laws r w ts a;
            least = contains posts f n p.effect m laws;
          };
    }
