-- The requests of a ladder, as a finite order that is decided.
use Rattle.std.proofs.Common.{◌≡◌, ℕ, ◌+◌, ◌*◌, ◌^◌, ◌<◌, Bool, true, false, ◌&&◌, sym, refl, ap, ◌∙◌, ap₂, ⊎_elim, arith, pow_pos}
use mathlib.Core.Bool.{Bool-discrete}
use mathlib.Core.Logic.Dec
use native.Mathlib.Decide.{ℕ_discrete}
use lib.Bits.{bit_and, and_comm, and_self}
use Rattle.std.proofs.lemmas.Nat.{div_below, mod_below, mul-add-lt, shr_split}
use Rattle.std.proofs.lemmas.Bool.{and_parts, and_right, cases_Bool}
use Rattle.ladders.specs.Ladders.{Lawful}
use Rattle.ladders.specs.Sets.{holds}
use Rattle.ladders.proofs.Sets.{and-holds, bits-same}
use Rattle.rules.specs.Requests.{Includes, request_at, request_total}
use Rattle.expressiveness.specs.Floors.{Over}
use Rattle.expressiveness.proofs.Search.{dec-like}
use Rattle.expressiveness.proofs.Ground.{Ground}

-- one set includes another where it has all its members
pub includes-has : (a b : ℕ) → Includes a b → (c : ℕ) → holds b c ≡ true → holds a c ≡ true
includes-has a b e c h = (and_parts (holds a c) (holds b c) (sym (and-holds a b c) ∙ ap (λ x. holds x c) e ∙ h)).0

pub has-includes : (a b : ℕ) → ((c : ℕ) → holds b c ≡ true → holds a c ≡ true) → Includes a b
has-includes a b h =
    bits-same (bit_and a b) b
    (λ c.
    and-holds a b c
    ∙ ⊎_elim
    (λ (t : holds b c ≡ true). ap (λ x. x && holds b c) (h c t))
    (λ (t : holds b c ≡ false). ap (λ x. holds a c && x) t ∙ and_right (holds a c) false refl ∙ sym t)
    (cases_Bool (holds b c)))

pub includes-chain : (a b c : ℕ) → Includes a b → Includes b c → Includes a c
includes-chain a b c p q = has-includes a c (λ d h. includes-has a b p d (includes-has b c q d h))

-- a request is its post and its set
pub request-eta : (n r s : ℕ) → (request_at n r).post ≡ (request_at n s).post → (request_at n r).set ≡ (request_at n s).set → r ≡ s
request-eta n r s p q = sym (shr_split r n) ∙ ap₂ (λ a b. a * 2 ^ n + b) p q ∙ shr_split s n

-- a number whose post is a post is a request
pub is-request : (posts n r : ℕ) → (request_at n r).post < posts → r < request_total posts n
is-request posts n r h =
    omega (arith, shr_split r n, mul-add-lt (request_at n r).post (2 ^ n) (request_at n r).set posts h (mod_below r (2 ^ n) (pow_pos n)))

unfoldable pub ground : {posts : ℕ} {f : ℕ → ℕ → Bool} → Lawful posts f → (n : ℕ) {Led : ℕ → Type 0} → ((r : ℕ) → Dec (Led r))
    → Ground (request_total posts n) (Over f n) Led
ground {posts} {f} laws n d =
    record {
      within = λ r s h. let (a, b) = laws.within _ _ h.post in (is-request posts n r a, is-request posts n s b);
      itself = λ r h. record { post = laws.itself _ (div_below r (2 ^ n) posts (pow_pos n) h); set = and_self (request_at n r).set };
      apart = λ r s h k.
          request-eta n r s (laws.apart _ _ h.post k.post) (sym k.set ∙ and_comm (request_at n s).set (request_at n r).set ∙ h.set);
      chain = λ r s t h k.
          record {
            post = laws.chain _ _ _ h.post k.post;
            set = includes-chain (request_at n r).set (request_at n s).set (request_at n t).set h.set k.set;
          };
      over? = λ r s.
          dec-like (λ (p, i). record { post = p; set = i }, λ h. (h.post, h.set))
          (Dec.and (Bool-discrete (f (request_at n r).post (request_at n s).post) true) (ℕ_discrete (bit_and (request_at n r).set (request_at n s).set) (request_at n s).set));
      led? = d;
    }
