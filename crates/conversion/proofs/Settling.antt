-- What a conversion answers, from the order of the requests, the chart in the work bytes, and the floors or what stands in their way.
use Rattle.std.proofs.Common.{◌≡◌, ℕ, ◌<◌, ◌≤◌, Bool, true, false, cond, List, ◌++◌, length, take, drop, get_or, Ok, Err, Result, sym, refl, ap, ◌∙◌, subst, arith}
use mathlib.Core.Path.{fun_ext}
use Rattle.std.proofs.lemmas.List.{length-take-le}
use Rattle.std.proofs.lemmas.List.FromFn.{get_or-map-range_with_len, length-map-range_with_len}
use Rattle.ladders.specs.Ladders.{Lawful}
use Rattle.ladders.specs.Rows.{row_posts, rows_at_least}
use Rattle.rules.specs.declared.letter.Model.{Model}
use Rattle.rules.specs.declared.rule.Effect.{Effect}
use Rattle.rules.specs.declared.rule.Effect.TheVariants.{Permit, Deny}
use Rattle.rules.specs.declared.rule.Rule.{Rule}
use Rattle.rules.specs.Filled.{filled}
use Rattle.rules.specs.Models.{default_overrides, lead}
use Rattle.policies.specs.Policies.{Meaning}
use Rattle.expressiveness.specs.Order.{CounterFloor, Gap as IsGap, LeadFloor, Rising, Step as IsStep}
use Rattle.expressiveness.specs.Floors.{Led, Over}
use Rattle.expressiveness.proofs.Rising.{rising-like}
use Rattle.conversion.specs.declared.flags.Flags.{Flags}
use Rattle.conversion.specs.declared.floors.FloorFlags.{FloorFlags}
use Rattle.conversion.specs.declared.order.Order.{Order}
use Rattle.conversion.specs.declared.refusal.Unconverted.{Unconverted}
use Rattle.conversion.specs.declared.refusal.Unconverted.TheVariants.{Misfit, FewWorkBytes, Gap, Step, FewSlots}
use Rattle.conversion.specs.Beyond.{IsOrder, OverIn}
use Rattle.conversion.specs.Charts.{BytesAre, chart_of}
use Rattle.conversion.specs.Converts.{Answers, Converts, Defined, Fits, Ready, byte_of, charted}
use Rattle.conversion.specs.Flags.{raised}
use Rattle.conversion.specs.Listed.{Listed}
use Rattle.conversion.specs.Shapes.{AnyGap, AnyStep, In, Shaped}
use Rattle.conversion.proofs.Answering.{converts}
use Rattle.conversion.proofs.Likeness.{counter-floor-like, first-gap-like, first-step-like, gap-like, lead-floor-like, step-like}
use Rattle.conversion.proofs.Raised.{raised-rising}

same-byte : (e d : Effect) → byte_of e ≡ byte_of d → e ≡ d
same-byte Permit Permit h = refl
same-byte Permit Deny h = absurd (omega arith)
same-byte Deny Permit h = absurd (omega arith)
same-byte Deny Deny h = refl

-- of a policy that has as many requests as an order
module _ (o : Order) (p : Meaning) (m : Model) (size : o.total ≡ p.requests) (work : List ℕ) (slots : List Rule) where
  abbrev posts : ℕ
  posts = row_posts o.ladder.rows

  abbrev f : ℕ → ℕ → Bool
  f = rows_at_least o.ladder.rows

  abbrev n : ℕ
  n = o.conditions

  abbrev Leading : ℕ → Type 0
  Leading = Led posts f n p.effect m

  -- the work bytes with the chart
  abbrev chart : List ℕ
  chart = filled (chart_of p o.total) work

  fits : Fits posts f n p m
  fits = (o.few, sym size ∙ o.whole)

  few-bytes : length work < o.total → Answers posts f n p m work slots (Err (FewWorkBytes o.total)) work slots
  few-bytes few = (fits, (o.whole, (few, (refl, refl))))

  module _ (room : o.total ≤ length work) (led : Flags) (bytes : BytesAre (byte_of (lead m)) (chart_of p o.total) o.total led) where
    ready : Ready posts f n p m work
    ready = (fits, subst (λ (k : ℕ). k ≤ length work) o.whole room)

    chart-is : chart ≡ charted posts f n p m work
    chart-is = ap (λ (k : ℕ). filled (chart_of p k) work) o.whole

    byte-at : (r : ℕ) → r < o.total → get_or (chart_of p o.total) r 0 ≡ byte_of (p.effect r)
    byte-at r h = get_or-map-range_with_len (λ (k : ℕ). byte_of (p.effect k)) 0 o.total r r 0 h (omega arith)

    -- the flags are those of the requests with the lead effect
    to-leading : (r : ℕ) → In o led r → Leading r
    to-leading r (h, up) = (subst (λ (k : ℕ). r < k) o.whole h, same-byte (p.effect r) (lead m) (sym (byte-at r h) ∙ (bytes r h).0 up))

    from-leading : (r : ℕ) → Leading r → In o led r
    from-leading r (h, e) = let lt = subst (λ (k : ℕ). r < k) (sym o.whole) h in (lt, (bytes r lt).1 (byte-at r lt ∙ ap byte_of e))

    -- something stands in the way
    stopped : (e : Unconverted) → Shaped o (default_overrides m) led (Err e) → Answers posts f n p m work slots (Err e) chart slots
    stopped Misfit h = absurd h
    stopped (FewWorkBytes k) h = absurd h
    stopped (Gap u x l) (over, gap) = (ready, (over, (first-gap-like to-leading from-leading gap, (chart-is, refl))))
    stopped (Step u l) (under, step) = (ready, (under, (first-step-like to-leading from-leading step, (chart-is, refl))))
    stopped (FewSlots k) h = absurd h

    -- nothing does
    from-obstacle : (w : Bool)
        → cond w ((u : ℕ) × (x : ℕ) × (l : ℕ) × IsGap (Over f n) Leading u x l) ((u : ℕ) × (l : ℕ) × IsStep (Over f n) Leading u l)
        → cond w (AnyGap o led) (AnyStep o led)
    from-obstacle true (u, x, l, gap) = (u, x, l, gap-like from-leading to-leading gap)
    from-obstacle false (u, l, step) = (u, l, step-like from-leading to-leading step)

    module _ (floors : FloorFlags) (shaped : Shaped o (default_overrides m) led (Ok floors)) where
      abbrev leads : List ℕ
      leads = raised floors.lead o.total

      abbrev counters : List ℕ
      counters = raised floors.counter o.total

      abbrev IsCounter : (ℕ → Type 0) → ℕ → Type 0
      IsCounter A r = (default_overrides m ≡ true) × CounterFloor (Over f n) A r

      defined : Defined posts f n p m leads counters
      defined =
          record {
            clear = λ obstacle. shaped.0 (from-obstacle (default_overrides m) obstacle);
            floors = record {
              leads-are =
                  subst (λ (k : ℕ). Rising (LeadFloor (Over f n) Leading) k leads) o.whole
                  (rising-like (lead-floor-like (Over f n) to-leading from-leading) (lead-floor-like (Over f n) from-leading to-leading)
                  (raised-rising floors.lead (LeadFloor (OverIn o) (In o led)) o.total shaped.1.0 o.total (omega arith)));
              counters-are =
                  subst (λ (k : ℕ). Rising (IsCounter Leading) k counters) o.whole
                  (rising-like (λ r (e, h). (e, counter-floor-like (Over f n) to-leading from-leading r h)) (λ r (e, h). (e, counter-floor-like (Over f n) from-leading to-leading r h))
                  (raised-rising floors.counter (IsCounter (In o led)) o.total shaped.1.1 o.total (omega arith)));
            };
          }

      made : (r : Result (ℕ × ℕ) Unconverted) (slots' : List Rule) → Listed o m floors slots r slots' → Answers posts f n p m work slots r chart slots'
      made (Ok counts) slots' ((a, b), (fit, put)) = (ready, (leads, (counters, (defined, (a, (b, (fit, (chart-is, put))))))))
      made (Err e) slots' (is, (few, same)) =
          subst (λ (x : Unconverted). Answers posts f n p m work slots (Err x) chart slots') (sym is)
          (ready, (leads, (counters, (defined, (refl, (few, (chart-is, same)))))))

-- what holds of the rows of an order holds of its ladder and conditions
as-ordered : {posts : ℕ} {f : ℕ → ℕ → Bool} {n : ℕ} {o : Order} → IsOrder posts f n o → (P : ℕ → (ℕ → ℕ → Bool) → ℕ → Type 0)
    → P (row_posts o.ladder.rows) (rows_at_least o.ladder.rows) o.conditions → P posts f n
as-ordered {posts} {f} {n} {o} is P h =
    subst (λ (k : ℕ). P posts f k) is.conditions
    (subst (λ (g : ℕ → ℕ → Bool). P posts g o.conditions) (fun_ext (λ x. fun_ext (λ y. is.same x y)))
    (subst (λ (k : ℕ). P k (rows_at_least o.ladder.rows) o.conditions) is.posts-are h))

-- the first work bytes hold the chart, and the flags tell which of them have the lead effect
module _ (o : Order) (p : Meaning) (work : List ℕ) (room : o.total ≤ length work) (bytes : List ℕ) (chart-is : bytes ≡ chart_of p (length (take o.total work))) where
  bytes-are : bytes ≡ chart_of p o.total
  bytes-are = chart-is ∙ ap (chart_of p) (length-take-le o.total work room)

  long : length bytes ≡ o.total
  long = ap length bytes-are ∙ length-map-range_with_len (λ (k : ℕ). byte_of (p.effect k)) 0 o.total

  left-is : filled (chart_of p o.total) work ≡ bytes ++ drop o.total work
  left-is = sym (ap (λ n. bytes ++ drop n work) (sym long) ∙ ap (λ xs. filled xs work) bytes-are)

  charted-bytes : (m : Model) (e : Effect) (led : Flags) → e ≡ lead m → BytesAre (byte_of e) bytes (length bytes) led → BytesAre (byte_of (lead m)) (chart_of p o.total) o.total led
  charted-bytes m e led lead-is told =
      subst (λ (b : ℕ). BytesAre b (chart_of p o.total) o.total led) (ap byte_of lead-is)
      (subst (λ (w : List ℕ). BytesAre (byte_of e) w o.total led) bytes-are (subst (λ (k : ℕ). BytesAre (byte_of e) bytes k led) long told))

module _ {posts : ℕ} {f : ℕ → ℕ → Bool} {n : ℕ} {p : Meaning} {m : Model} {work : List ℕ} {slots : List Rule} (laws : Lawful posts f) where
  pub converts-misfit : (Fits posts f n p m → ⊥) → Converts posts f n p m work slots (Err Misfit) work slots
  converts-misfit unfit = converts laws (unfit, (refl, refl))

  module _ {o : Order} (fitted : IsOrder posts f n o × (o.total ≡ p.requests)) where
    pub converts-few-bytes : length work < o.total → Converts posts f n p m work slots (Err (FewWorkBytes o.total)) work slots
    converts-few-bytes few =
        converts laws (as-ordered fitted.0 (λ q g k. Answers q g k p m work slots (Err (FewWorkBytes o.total)) work slots) (few-bytes o p m fitted.1 work slots few))

    module _ (room : o.total ≤ length work) (led : Flags) {bytes : List ℕ} {e : Effect} (chart-is : bytes ≡ chart_of p (length (take o.total work))) (lead-is : e ≡ lead m)
        (told : BytesAre (byte_of e) bytes (length bytes) led) where
      pub converts-stopped : (x : Unconverted) → Shaped o (default_overrides m) led (Err x) → Converts posts f n p m work slots (Err x) (bytes ++ drop o.total work) slots
      converts-stopped x shaped =
          converts laws (as-ordered fitted.0 (λ q g k. Answers q g k p m work slots (Err x) (bytes ++ drop o.total work) slots)
          (subst (λ (w : List ℕ). Answers (row_posts o.ladder.rows) (rows_at_least o.ladder.rows) o.conditions p m work slots (Err x) w slots)
          (left-is o p work room bytes chart-is)
          (stopped o p m fitted.1 work slots room led (charted-bytes o p work room bytes chart-is m e led lead-is told) x shaped)))

      pub converts-made : (floors : FloorFlags) → Shaped o (default_overrides m) led (Ok floors) → (r : Result (ℕ × ℕ) Unconverted) (slots' : List Rule)
          → Listed o m floors slots r slots' → Converts posts f n p m work slots r (bytes ++ drop o.total work) slots'
      converts-made floors shaped r slots' listed =
          converts laws (as-ordered fitted.0 (λ q g k. Answers q g k p m work slots r (bytes ++ drop o.total work) slots')
          (subst (λ (w : List ℕ). Answers (row_posts o.ladder.rows) (rows_at_least o.ladder.rows) o.conditions p m work slots r w slots')
          (left-is o p work room bytes chart-is)
          (made o p m fitted.1 work slots room led (charted-bytes o p work room bytes chart-is m e led lead-is told) floors shaped r slots' listed)))
