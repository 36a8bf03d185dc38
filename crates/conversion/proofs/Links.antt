-- Links between requests next to one another, and how they lead to all requests on one side.
use Rattle.std.proofs.Common.{◌≡◌, ℕ, ◌+◌, ◌*◌, ◌/◌, ◌%◌, ◌^◌, ◌<◌, ◌≤◌, Bool, true, false, not, ◌||◌, eqb, ◌⊎◌, Some, sym, refl, ap, ◌∙◌, subst, inl, inr, ⊎_elim, arith, pow_pos}
use Rattle.std.specs.Bool.{then_some}
use lib.Bits.{and_self}
use Rattle.std.proofs.lemmas.Nat.{div-mul-add, mod_below, mod-mul-add, shr_split}
use Rattle.std.proofs.lemmas.Bool.{cases_Bool, cases_eq, cases_lt, eq-eqb, eqb-true, false≢true, ne_eqb, or_left, or_right}
use Rattle.ladders.specs.Ladders.{Lawful}
use Rattle.ladders.specs.Rows.{row_posts, rows_at_least}
use Rattle.ladders.specs.Sets.{holds}
use Rattle.ladders.proofs.Sets.{none-past}
use Rattle.expressiveness.specs.Order.{Above as IsAbove}
use Rattle.expressiveness.specs.Floors.{Over}
use Rattle.expressiveness.proofs.Ground.{Ground}
use Rattle.expressiveness.proofs.Requests.{ground, has-includes, includes-has, is-request}
use Rattle.conversion.specs.declared.order.Order.{Order}
use Rattle.conversion.specs.declared.side.Side.{Side}
use Rattle.conversion.specs.declared.side.Side.TheVariants.{Above, Below}
use Rattle.conversion.specs.Beyond.{Beyond, Condition, Link, OverIn, Posts, turned, upper_of}
use Rattle.conversion.proofs.Marks.{LinkOf, Near, NearTo}
use Rattle.conversion.proofs.Bits.{added, added-post, lessened, low-holds, same_number}

-- at or above, by the conditions that hold
pub over-has : {f : ℕ → ℕ → Bool} (n x y : ℕ) → Over f n x y → (d : ℕ) → d < n → holds y d ≡ true → holds x d ≡ true
over-has n x y h d lt t = sym (low-holds n x d lt) ∙ includes-has (x % 2 ^ n) (y % 2 ^ n) h.set d (low-holds n y d lt ∙ t)

pub has-over : (f : ℕ → ℕ → Bool) (n x y : ℕ) → f (x / 2 ^ n) (y / 2 ^ n) ≡ true → ((d : ℕ) → d < n → holds y d ≡ true → holds x d ≡ true) → Over f n x y
has-over f n x y p h =
    record {
      post = p;
      set = has-includes (x % 2 ^ n) (y % 2 ^ n) (λ d t. ⊎_elim (λ (lt : d < n). low-holds n x d lt ∙ h d lt (sym (low-holds n y d lt) ∙ t))
          (λ (le : n ≤ d). absurd (false≢true (sym (none-past (y % 2 ^ n) n d (mod_below y (2 ^ n) (pow_pos n)) le) ∙ t))) (cases_lt d n));
    }

or-none : (b : Bool) → (b || false) ≡ b
or-none true = refl
or-none false = refl

-- what a link has answered
linked : {X : Type 0} (b : Bool) (u v : X) → then_some b u ≡ Some v → (b ≡ true) × (u ≡ v)
linked true u v e = (refl, cc)
linked false u v e = absurd (let z : ◌≡◌ {A = ℕ} 0 1 = cc in omega arith)

lacked : (b : Bool) → not b ≡ true → b ≡ false
lacked true e = absurd (false≢true e)
lacked false e = refl

module _ (o : Order) where
  abbrev f : ℕ → ℕ → Bool
  f = rows_at_least o.ladder.rows

  abbrev n : ℕ
  n = o.conditions

  laws : Lawful (row_posts o.ladder.rows) f
  laws = o.ladder.lawful

  -- the order of the requests, whatever is led in it
  pub requests-are : {Led : ℕ → Type 0} → ((r : ℕ) → Dec (Led r)) → Ground o.total (OverIn o) Led
  requests-are {Led} d = subst (λ (k : ℕ). Ground k (OverIn o) Led) (sym o.whole) (ground laws n d)

  -- of which only the order matters here
  pub plain : Ground o.total (OverIn o) (λ _. Unit {0})
  plain = requests-are (λ _. yes tt)

  -- a link leads up
  pub link_up : (link : Link) → LinkOf o link → (lower upper : ℕ) → lower < o.total → upper_of n link lower ≡ Some upper → IsAbove (OverIn o) upper lower
  link_up (Condition c) lt lower upper h e =
      let (lacks, sum) = linked (not (holds lower c)) (lower + 2 ^ c) upper e in
      let lacking = lacked (holds lower c) lacks in
      let post : upper / 2 ^ n ≡ lower / 2 ^ n = ap (λ z. z / 2 ^ n) (sym sum) ∙ added-post n lower c lt lacking in
      let itself = (plain.itself lower h).post in (
        has-over f n upper lower (rw post itself) (λ d _ t. ap (λ z. holds z d) (sym sum) ∙ added lower c d lacking ∙ or_left (holds lower d) (eqb c d) t),
        λ same. omega (arith, pow_pos c),
      )
  link_up (Posts p q) (above, apart) lower upper h e =
      let (at, sum) = linked (eqb (lower / 2 ^ n) q) (p * 2 ^ n + lower % 2 ^ n) upper e in
      let low = mod_below lower (2 ^ n) (pow_pos n) in
      let post : upper / 2 ^ n ≡ p = ap (λ z. z / 2 ^ n) (sym sum) ∙ div-mul-add p (2 ^ n) (lower % 2 ^ n) low in
      let set : upper % 2 ^ n ≡ lower % 2 ^ n = ap (λ z. z % 2 ^ n) (sym sum) ∙ mod-mul-add p (2 ^ n) (lower % 2 ^ n) low in
      let under : lower / 2 ^ n ≡ q = eqb-true (lower / 2 ^ n) q at in (
        record { post = rw (post, under) above; set = rw set (and_self (lower % 2 ^ n)) },
        λ same. apart (sym post ∙ ap (λ z. z / 2 ^ n) same ∙ under),
      )

  -- requests that are near in no condition are one
  pub near_none : (side : Side) (x y : ℕ) → NearTo n 0 side x y → x ≡ y
  near_none Above x y h = sym (same_number n y x h.post (λ d lt. h.same d (omega arith) lt))
  near_none Below x y h = same_number n x y h.post (λ d lt. h.same d (omega arith) lt)

  -- from x a link leads to z, and on
  pub record Onward (c : ℕ) (link : Link) (side : Side) (x y : ℕ) : Type 0 where
    pub upper : ℕ
    pub lower : ℕ
    pub link-is : upper_of n link lower ≡ Some upper
    pub from : (turned side upper lower).0 ≡ x
    pub inside : lower < o.total
    pub on : NearTo n c side (turned side upper lower).1 y

  -- requests that are near up to c differ in c, or are nearer
  module _ (c : ℕ) (lt : c < n) where
    nearer : (x y : ℕ) → Near n (c + 1) x y → Near n c x y ⊎ ((holds x c ≡ true) × (holds y c ≡ false))
    nearer x y near = by (cases_Bool (holds x c)) (cases_Bool (holds y c))
      where
        agree : holds x c ≡ holds y c → Near n c x y
        agree e =
            record {
              post = near.post;
              has = near.has;
              same = λ d le l. ⊎_elim (λ (i : c ≡ d). subst (λ k. holds x k ≡ holds y k) i e) (λ ne. near.same d (omega arith) l) (cases_eq c d);
            }

        by : (holds x c ≡ true) ⊎ (holds x c ≡ false) → (holds y c ≡ true) ⊎ (holds y c ≡ false) → Near n c x y ⊎ ((holds x c ≡ true) × (holds y c ≡ false))
        by (inl t) (inl s) = inl (agree (t ∙ sym s))
        by (inl t) (inr s) = inr (t, s)
        by (inr t) (inl s) = absurd (false≢true (sym t ∙ near.has c lt s))
        by (inr t) (inr s) = inl (agree (t ∙ sym s))

    -- where z is x but for condition c, which x alone has
    module _ (x z : ℕ) (lacking : holds z c ≡ false) (sum : x ≡ z + 2 ^ c) where
      bits : (d : ℕ) → holds x d ≡ (holds z d || eqb c d)
      bits d = ap (λ w. holds w d) sum ∙ added z c d lacking

      others : (d : ℕ) → (c ≡ d → ⊥) → holds x d ≡ holds z d
      others d ne = bits d ∙ ap (λ b. holds z d || b) (ne_eqb c d ne) ∙ or-none (holds z d)

      same_post : x / 2 ^ n ≡ z / 2 ^ n
      same_post = ap (λ w. w / 2 ^ n) sum ∙ added-post n z c lt lacking

      is-linked : upper_of n (Condition c) z ≡ Some x
      is-linked = ap (λ b. then_some (not b) (z + 2 ^ c)) lacking ∙ ap (λ w. Some w) (sym sum)

      -- what is near to x from below is near to z, and what is near to z from above is near to x
      near-less : (y : ℕ) → Near n (c + 1) x y → holds y c ≡ false → Near n c z y
      near-less y near s =
          record {
            post = sym same_post ∙ near.post;
            has = λ d l k. ⊎_elim (λ (i : c ≡ d). absurd (false≢true (sym s ∙ ap (holds y) i ∙ k))) (λ ne. sym (others d ne) ∙ near.has d l k) (cases_eq c d);
            same = λ d le l.
                ⊎_elim (λ (i : c ≡ d). subst (λ k. holds z k ≡ holds y k) i (lacking ∙ sym s)) (λ ne. sym (others d ne) ∙ near.same d (omega arith) l) (cases_eq c d);
          }

      near-more : (y : ℕ) → Near n (c + 1) y z → holds y c ≡ true → Near n c y x
      near-more y near t =
          record {
            post = near.post ∙ sym same_post;
            has = λ d l k. ⊎_elim (λ (i : c ≡ d). ap (holds y) (sym i) ∙ t) (λ ne. near.has d l (sym (others d ne) ∙ k)) (cases_eq c d);
            same = λ d le l.
                ⊎_elim (λ (i : c ≡ d). subst (λ k. holds y k ≡ holds x k) i (t ∙ sym (bits c ∙ or_right (holds z c) (eqb c c) (eq-eqb c c refl))))
                (λ ne. near.same d (omega arith) l ∙ sym (others d ne)) (cases_eq c d);
          }

    pub by_condition : (side : Side) (x y : ℕ) → x < o.total → NearTo n (c + 1) side x y → NearTo n c side x y ⊎ Onward c (Condition c) side x y
    by_condition Above x y h near =
        ⊎_elim inl
        (λ (t, s). inr (record { upper = x + 2 ^ c; lower = x; link-is = is-linked (x + 2 ^ c) x s refl; from = refl; inside = h; on = near-more (x + 2 ^ c) x s refl y near t }))
        (nearer y x near)
    by_condition Below x y h near =
        ⊎_elim inl
        (λ (t, s).
        let (z, (lacking, sum)) = lessened x c t in
        inr (record { upper = x; lower = z; link-is = is-linked x z lacking sum; from = refl; inside = omega (arith, sum); on = near-less x z lacking sum y near s }))
        (nearer x y near)

  -- the request with the conditions of x and post q
  abbrev at-post : ℕ → ℕ → ℕ
  at-post q x = q * 2 ^ n + x % 2 ^ n

  module _ (q x : ℕ) where
    at-post-post : at-post q x / 2 ^ n ≡ q
    at-post-post = div-mul-add q (2 ^ n) (x % 2 ^ n) (mod_below x (2 ^ n) (pow_pos n))

    at-post-set : at-post q x % 2 ^ n ≡ x % 2 ^ n
    at-post-set = mod-mul-add q (2 ^ n) (x % 2 ^ n) (mod_below x (2 ^ n) (pow_pos n))

    at-post-holds : (d : ℕ) → d < n → holds (at-post q x) d ≡ holds x d
    at-post-holds d lt = sym (low-holds n (at-post q x) d lt) ∙ ap (λ w. holds w d) at-post-set ∙ low-holds n x d lt

  -- requests on one side with the same post are near, and others are reached by way of a link of posts
  pub by-posts-same : (side : Side) (x y : ℕ) → Beyond o side x y → x / 2 ^ n ≡ y / 2 ^ n → NearTo n n side x y
  by-posts-same Above x y h e = record { post = sym e; has = over-has n y x h.0; same = λ d le l. absurd (omega arith) }
  by-posts-same Below x y h e = record { post = e; has = over-has n x y h.0; same = λ d le l. absurd (omega arith) }

  abbrev pub upper_post : Side → ℕ → ℕ → ℕ
  upper_post side x y = (turned side x y).0 / 2 ^ n

  abbrev pub lower_post : Side → ℕ → ℕ → ℕ
  lower_post side x y = (turned side x y).1 / 2 ^ n

  pub by-posts : (side : Side) (x y : ℕ) → Beyond o side x y → Onward n (Posts (upper_post side x y) (lower_post side x y)) side x y
  by-posts Above x y h =
      record {
        upper = at-post (y / 2 ^ n) x;
        lower = x;
        link-is = ap (λ b. then_some b (at-post (y / 2 ^ n) x)) (eq-eqb (x / 2 ^ n) (x / 2 ^ n) refl);
        from = refl;
        inside = (plain.within y x h.0).1;
        on =
            record {
              post = sym (at-post-post (y / 2 ^ n) x);
              has = λ d l t. over-has n y x h.0 d l (sym (at-post-holds (y / 2 ^ n) x d l) ∙ t);
              same = λ d le l. absurd (omega arith);
            };
      }
  by-posts Below x y h =
      let z : ℕ = at-post (y / 2 ^ n) x in
      record {
        upper = x;
        lower = z;
        link-is =
            ap (λ b. then_some b (x / 2 ^ n * 2 ^ n + z % 2 ^ n)) (eq-eqb (z / 2 ^ n) (y / 2 ^ n) (at-post-post (y / 2 ^ n) x))
            ∙ ap (λ w. Some w) (ap (λ w. x / 2 ^ n * 2 ^ n + w) (at-post-set (y / 2 ^ n) x) ∙ shr_split x n);
        from = refl;
        inside =
            let post : z / 2 ^ n < row_posts o.ladder.rows = omega (arith, at-post-post (y / 2 ^ n) x, (laws.within (x / 2 ^ n) (y / 2 ^ n) h.0.post).1) in
            omega (arith, o.whole, is-request (row_posts o.ladder.rows) n z post);
        on =
            record {
              post = at-post-post (y / 2 ^ n) x;
              has = λ d l t. at-post-holds (y / 2 ^ n) x d l ∙ over-has n x y h.0 d l t;
              same = λ d le l. absurd (omega arith);
            };
      }
