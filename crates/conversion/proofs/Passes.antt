-- Marks handed on, pass by pass, until they tell of every request what lies on one side of it.
use Rattle.std.proofs.Common.{◌≡◌, ℕ, ◌+◌, ◌*◌, ◌/◌, ◌^◌, ◌<◌, ◌≤◌, true, false, ◌||◌, eqb, ◌⊎◌, Some, None, IfSome, Option, sym, refl, ◌∙◌, subst, inl, inr, ⊎_elim, arith}
use Rattle.std.proofs.lemmas.Bool.{cases_eq, eq-eqb, eqb-true, false≢true, or_cases, or_left, or_right}
use Rattle.ladders.specs.Rows.{rows_at_least}
use Rattle.expressiveness.specs.Order.{Above as IsAbove}
use Rattle.expressiveness.proofs.Ground.{above-chain}
use Rattle.conversion.specs.declared.flags.Flags.{Flags}
use Rattle.conversion.specs.declared.order.Order.{Order}
use Rattle.conversion.specs.declared.side.Side.{Side}
use Rattle.conversion.specs.declared.side.Side.TheVariants.{Above, Below}
use Rattle.conversion.specs.Flags.{Up, flag}
use Rattle.conversion.specs.Beyond.{Beyond, Condition, Link, OverIn, Passed, Posts, Sound, Tells, turned, upper_of}
use Rattle.conversion.proofs.Marks.{Full, LinkOf, Posted, pair_of}
use Rattle.conversion.proofs.Links.{Onward, by_condition, by-posts, by-posts-same, link_up, lower_post, near_none, plain, upper_post}

-- one flag put up
module _ (xs ys : Flags) (i : ℕ) (put : (x : ℕ) → flag ys x ≡ (flag xs x || eqb x i)) where
  put-kept : (x : ℕ) → Up xs x → Up ys x
  put-kept x h = put x ∙ or_left (flag xs x) (eqb x i) h

  put-made : Up ys i
  put-made = put i ∙ or_right (flag xs i) (eqb i i) (eq-eqb i i refl)

  put_only : (x : ℕ) → Up ys x → Up xs x ⊎ (x ≡ i)
  put_only x h = ⊎_elim inl (λ e. inr (eqb-true x i e)) (or_cases (flag xs x) (eqb x i) (sym (put x) ∙ h))

-- one side
beyond-chain : (o : Order) (side : Side) (x y z : ℕ) → Beyond o side x y → Beyond o side y z → Beyond o side x z
beyond-chain o Above x y z a b = above-chain (plain o) z y x b a
beyond-chain o Below x y z a b = above-chain (plain o) x y z a b

turned-inside : (o : Order) (side : Side) (x y : ℕ) → x < o.total → y < o.total → ((turned side x y).0 < o.total) × ((turned side x y).1 < o.total)
turned-inside o Above x y a b = (b, a)
turned-inside o Below x y a b = (a, b)

-- both ends of a step up are numbers of requests, turned round or not
pub ends-inside : (o : Order) (side : Side) (upper lower : ℕ) (ends : ℕ × ℕ) → ends ≡ turned side upper lower → IsAbove (OverIn o) upper lower
    → ((ends.0 < 4096) × (ends.1 < 4096)) × ((upper < 4096) × (lower < 4096))
ends-inside o side upper lower ends are h =
    let within = (plain o).within upper lower h.0 in
    let (marked, source) = turned-inside o side upper lower within.0 within.1 in
    (subst (λ (e : ℕ × ℕ). (e.0 < 4096) × (e.1 < 4096)) (sym are) (omega (arith, o.most), omega (arith, o.most)), (omega (arith, o.most), omega (arith, o.most)))

turned-beyond : (o : Order) (side : Side) (upper lower : ℕ) → IsAbove (OverIn o) upper lower → Beyond o side (turned side upper lower).0 (turned side upper lower).1
turned-beyond o Above upper lower h = h
turned-beyond o Below upper lower h = h

-- what is handed on along a step, to marks
abbrev Handed : Side → Flags → Flags → Flags → ℕ → Option ℕ → Type 0
Handed side members marks to lower r = IfSome r (λ upper. Up members (turned side upper lower).1 ⊎ Up marks (turned side upper lower).1 → Up to (turned side upper lower).0)

hand-on : (side : Side) (members marks from to : Flags) → ((x : ℕ) → Up from x → Up to x) → (lower : ℕ) (r : Option ℕ) → Handed side members marks from lower r
    → Handed side members marks to lower r
hand-on side members marks from to kept lower None h = tt
hand-on side members marks from to kept lower (Some upper) h = λ give. kept (turned side upper lower).0 (h give)

-- one step more
step-more : (P : ℕ → Option ℕ → Type 0) (k : ℕ) → ((lower : ℕ) → lower < k → (r : Option ℕ) × P lower r) → (r : Option ℕ) → P k r → (lower : ℕ) → lower < k + 1
    → (r : Option ℕ) × P lower r
step-more P k before r here lower h = ⊎_elim (λ (i : lower ≡ k). rw i (r, here)) (λ ne. before lower (omega arith)) (cases_eq lower k)

module _ {o : Order} {Step : ℕ → Option ℕ → Type 0} {side : Side} {members marks : Flags} where
  pub passed_none : Passed o Step side members marks 0 marks
  passed_none = record { kept = λ x h. h; sound = λ s. s; made = λ lower h. absurd (omega arith) }

  module _ {k : ℕ} {marks' : Flags} (passed : Passed o Step side members marks k marks') where
    pub passed-skip : Step k None → Passed o Step side members marks (k + 1) marks'
    passed-skip step = record { kept = passed.kept; sound = passed.sound; made = step-more (λ l r. Step l r × Handed side members marks marks' l r) k passed.made None (step, tt) }

    -- a step, whose ends are turned round for the side
    module _ (upper : ℕ) (step : Step k (Some upper)) (ends : ℕ × ℕ) (are : ends ≡ turned side upper k) where
      abbrev here : Flags → Type 0
      here to = Up members ends.1 ⊎ Up marks ends.1 → Up to ends.0

      handed-here : (to : Flags) → here to → Handed side members marks to k (Some upper)
      handed-here to h = subst (λ (e : ℕ × ℕ). Up members e.1 ⊎ Up marks e.1 → Up to e.0) are h

      pub passed-stay : (Up members ends.1 → ⊥) → (Up marks' ends.1 → ⊥) → Passed o Step side members marks (k + 1) marks'
      passed-stay none unmarked =
          record {
            kept = passed.kept;
            sound = passed.sound;
            made = step-more (λ l r. Step l r × Handed side members marks marks' l r) k passed.made (Some upper)
                (step, handed-here marks' (λ give. absurd (⊎_elim none (λ m. unmarked (passed.kept ends.1 m)) give)));
          }

      pub passed-more : {marks'' : Flags} → IsAbove (OverIn o) upper k → Up members ends.1 ⊎ Up marks' ends.1
          → ((x : ℕ) → flag marks'' x ≡ (flag marks' x || eqb x ends.0)) → Passed o Step side members marks (k + 1) marks''
      passed-more {marks''} up give put =
          record {
            kept = λ x h. put-kept marks' marks'' ends.0 put x (passed.kept x h);
            sound = λ s. record {
              right = λ x h.
                  ⊎_elim ((passed.sound s).right x)
                  (λ (at : x ≡ ends.0).
                  let next = subst (λ (e : ℕ × ℕ). Beyond o side e.0 e.1) (sym are) (turned-beyond o side upper k up) in
                  ⊎_elim (λ (m : Up members ends.1). (ends.1, (rw at next, m)))
                  (λ (m : Up marks' ends.1). let (y, (far, mem)) = (passed.sound s).right ends.1 m in (y, (beyond-chain o side x ends.1 y (rw at next) far, mem)))
                  give)
                  (put_only marks' marks'' ends.0 put x h);
            };
            made = step-more (λ l r. Step l r × Handed side members marks marks'' l r) k
                (λ l h. let (r, (s, hand)) = passed.made l h in (r, (s, hand-on side members marks marks' marks'' (put-kept marks' marks'' ends.0 put) l r hand)))
                (Some upper) (step, handed-here marks'' (λ _. put-made marks' marks'' ends.0 put));
          }

-- where a link leads on, what lies there has been handed on
module _ {o : Order} {Step : ℕ → Option ℕ → Type 0} {side : Side} {members marks marks' : Flags} (passed : Passed o Step side members marks o.total marks') (link : Link)
    (right : LinkOf o link) (steps : (x : ℕ) (r : Option ℕ) → Step x r → r ≡ upper_of o.conditions link x) where
  onward : (c x y : ℕ) → Full o c side members marks → Onward o c link side x y → Up members y → Up marks' x
  onward c x y full on mem =
      let above = link_up o link right on.lower on.upper on.inside on.link-is in
      let z : ℕ = (turned side on.upper on.lower).1 in
      let inside = (turned-inside o side on.upper on.lower ((plain o).within on.upper on.lower above.0).0 on.inside).1 in
      let (r, (step, hand)) = passed.made on.lower on.inside in
      let here = subst (Handed side members marks marks' on.lower) (steps on.lower r step ∙ on.link-is) hand in
      subst (Up marks') on.from (here (⊎_elim (λ (e : z ≡ y). inl (rw e mem)) (λ ne. inr (full.near z y inside on.on ne mem)) (cases_eq z y)))

  -- conditions
  pub full-more : {c : ℕ} → link ≡ Condition c → Full o c side members marks → Full o (c + 1) side members marks'
  full-more {c} is full =
      let lt : c < o.conditions = subst (LinkOf o) is right in
      record {
        near = λ x y h near ne mem.
            ⊎_elim (λ n. passed.kept x (full.near x y h n ne mem)) (λ on. onward c x y full (rw is on) mem) (by_condition o c lt side x y h near);
      }

pub full-none : (o : Order) (side : Side) (members marks : Flags) → Full o 0 side members marks
full-none o side members marks = record { near = λ x y h near ne mem. absurd (ne (near_none o side x y near)) }

-- posts
module _ (o : Order) where
  below-eight : (p q : ℕ) → rows_at_least o.ladder.rows p q ≡ true → (p < 8) × (q < 8)
  below-eight p q h = let within = o.ladder.lawful.within p q h in let few = o.ladder.lawful.few in (omega arith, omega arith)

  few-posts : (side : Side) (x y : ℕ) → Beyond o side x y
      → (rows_at_least o.ladder.rows (upper_post o side x y) (lower_post o side x y) ≡ true) × ((upper_post o side x y < 8) × (lower_post o side x y < 8))
  few-posts side x y h = (h.0.post, below-eight (upper_post o side x y) (lower_post o side x y) h.0.post)

  posts-apart : (side : Side) (x y : ℕ) → upper_post o side x y ≡ lower_post o side x y → x / 2 ^ o.conditions ≡ y / 2 ^ o.conditions
  posts-apart Above x y e = sym e
  posts-apart Below x y e = e

  -- the pair at a place
  pair-at : (side : Side) (p q x y : ℕ) → q < 8 → Beyond o side x y → pair_of o side x y ≡ p * 8 + q → (upper_post o side x y ≡ p) × (lower_post o side x y ≡ q)
  pair-at side p q x y lt far e = let few = few-posts side x y far in (omega arith, omega arith)

  module _ {side : Side} {members marks : Flags} {p q : ℕ} (lt : q < 8) (posted : Posted o (p * 8 + q) side members marks) where
    pub posted-skip : (p ≡ q) ⊎ (rows_at_least o.ladder.rows p q ≡ false) → Posted o (p * 8 + (q + 1)) side members marks
    posted-skip unlinked =
        record {
          sound = posted.sound;
          full = posted.full;
          pairs = λ x y far pair ne mem.
              ⊎_elim
              (λ (e : pair_of o side x y ≡ p * 8 + q).
              let (u, l) = pair-at side p q x y lt far e in
              let above : rows_at_least o.ladder.rows p q ≡ true = rw (u, l) at (few-posts side x y far).0 in
              absurd (⊎_elim (λ (same : p ≡ q). ne (posts-apart side x y (u ∙ same ∙ sym l))) (λ none. false≢true (sym none ∙ above)) unlinked))
              (λ i. posted.pairs x y far (omega arith) ne mem)
              (cases_eq (pair_of o side x y) (p * 8 + q));
        }

    pub posted-more : {Step : ℕ → Option ℕ → Type 0} {marks' : Flags} → LinkOf o (Posts p q) → ((x : ℕ) (r : Option ℕ) → Step x r → r ≡ upper_of o.conditions (Posts p q) x)
        → Passed o Step side members marks o.total marks' → Posted o (p * 8 + (q + 1)) side members marks'
    posted-more right steps passed =
        record {
          sound = passed.sound posted.sound;
          full = record { near = λ x y h near ne mem. passed.kept x (posted.full.near x y h near ne mem) };
          pairs = λ x y far pair ne mem.
              ⊎_elim
              (λ (e : pair_of o side x y ≡ p * 8 + q).
              let (u, l) = pair-at side p q x y lt far e in
              onward passed (Posts p q) right steps o.conditions x y posted.full (rw (u, l) at (by-posts o side x y far)) mem)
              (λ i. passed.kept x (posted.pairs x y far (omega arith) ne mem))
              (cases_eq (pair_of o side x y) (p * 8 + q));
        }

  -- the marks tell all
  pub posted-all : {side : Side} {members marks : Flags} {k : ℕ} → Posted o k side members marks → 64 ≤ k → Tells o side members marks
  posted-all {side} posted all =
      record {
        each = λ x h. (
          posted.sound.right x,
          λ (y, (far, mem)).
              ⊎_elim (λ e. posted.full.near x y h (by-posts-same o side x y far e) (beyond-apart side x y far) mem)
              (λ ne. posted.pairs x y far (let few = few-posts side x y far in omega arith) ne mem)
              (cases_eq (x / 2 ^ o.conditions) (y / 2 ^ o.conditions)),
        );
      }
    where
      beyond-apart : (side : Side) (x y : ℕ) → Beyond o side x y → x ≡ y → ⊥
      beyond-apart Above x y h e = h.1 (sym e)
      beyond-apart Below x y h e = h.1 e

-- where no flag is up, no mark is wrong
pub sound_none : (o : Order) (side : Side) (members marks : Flags) → ((r : ℕ) → flag marks r ≡ false) → Sound o side members marks
sound_none o side members marks none = record { right = λ x h. absurd (false≢true (sym (none x) ∙ h)) }
