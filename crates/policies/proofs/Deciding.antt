-- The list's effect is what the list decides, and nothing else is.
use Rattle.std.proofs.Common.{◌≡◌, ℕ, ◌<◌, Bool, true, false, cond, List, Decides, refl, ap, ◌∙◌}
use mathlib.Core.Path.{fun_ext}
use Rattle.std.proofs.lemmas.Bool.{false≢true}
use Rattle.ladders.specs.Ladders.{Lawful}
use Rattle.rules.specs.declared.letter.Letter.{Letter}
use Rattle.rules.specs.declared.letter.Letter.TheVariants.{Guarded, Model}
use Rattle.rules.specs.declared.letter.Model.{Model as ModelOf}
use Rattle.rules.specs.declared.request.Request.{Request}
use Rattle.rules.specs.declared.rule.Effect.{Effect}
use Rattle.rules.specs.declared.rule.Effect.TheVariants.{Permit, Deny}
use Rattle.rules.specs.declared.rule.Rule.{Rule}
use Rattle.rules.specs.Models.{Verdict}
use Rattle.rules.specs.Requests.{request_at}
use Rattle.policies.specs.Lists.{GuardedVerdict, ListDecides, Meant, OneDecision}
use Rattle.policies.specs.ListMeaning.{reaches, verdict, list_effect, list_meaning}
use Rattle.policies.specs.Policies.{Meaning}
use Rattle.policies.proofs.Tells.{reaches-tells}

module _ {P : Type 0} where
  untold : Decides false P → P → ⊥
  untold h p = false≢true (h.1 p)

  guards : (b : Bool) → Decides b P → GuardedVerdict P (cond b Permit Deny)
  guards true h = record { some = λ _. refl; none = λ n. absurd (n (h.0 refl)) }
  guards false h = record { some = λ p. absurd (untold h p); none = λ _. refl }

  guards-only : (b : Bool) → Decides b P → (e : Effect) → GuardedVerdict P e → e ≡ cond b Permit Deny
  guards-only true h e g = g.some (h.0 refl)
  guards-only false h e g = g.none (untold h)

module _ (m : ModelOf) (P : Effect → Type 0) where
  both : P Permit → P Deny → (x : Effect) → P x
  both p d Permit = p
  both p d Deny = d

  neither : (P Permit → ⊥) → (P Deny → ⊥) → (x : Effect) → P x → ⊥
  neither p d Permit = p
  neither p d Deny = d

  decides : (p d : Bool) → Decides p (P Permit) → Decides d (P Deny) → Verdict m P (verdict m p d)
  decides true true hp hd =
      record {
        none = λ n. absurd (n Permit (hp.0 refl));
        one = elim [ Permit ↦ λ _ n. absurd (n (hd.0 refl)) | Deny ↦ λ _ n. absurd (n (hp.0 refl)) ];
        both = λ _. refl;
      }
  decides true false hp hd =
      record {
        none = λ n. absurd (n Permit (hp.0 refl));
        one = elim [ Permit ↦ λ _ _. refl | Deny ↦ λ a _. absurd (untold hd a) ];
        both = λ all. absurd (untold hd (all Deny));
      }
  decides false true hp hd =
      record {
        none = λ n. absurd (n Deny (hd.0 refl));
        one = elim [ Permit ↦ λ a _. absurd (untold hp a) | Deny ↦ λ _ _. refl ];
        both = λ all. absurd (untold hp (all Permit));
      }
  decides false false hp hd =
      record {
        none = λ _. refl;
        one = λ x a _. absurd (neither (untold hp) (untold hd) x a);
        both = λ all. absurd (untold hp (all Permit));
      }

  decides-only : (p d : Bool) → Decides p (P Permit) → Decides d (P Deny) → (e : Effect) → Verdict m P e → e ≡ verdict m p d
  decides-only true true hp hd e v = v.both (both (hp.0 refl) (hd.0 refl))
  decides-only true false hp hd e v = v.one Permit (hp.0 refl) (untold hd)
  decides-only false true hp hd e v = v.one Deny (hd.0 refl) (untold hp)
  decides-only false false hp hd e v = v.none (neither (untold hp) (untold hd))

module _ {posts : ℕ} {f : ℕ → ℕ → Bool} (laws : Lawful posts f) (ts : List Rule) (q : Request) where
  effect-decides : (letter : Letter) → ListDecides f letter ts q (list_effect f letter ts q)
  effect-decides Guarded = guards (reaches f Guarded Permit q ts) (reaches-tells laws Guarded Permit q ts)
  effect-decides (Model m) = decides m _ _ _ (reaches-tells laws (Model m) Permit q ts) (reaches-tells laws (Model m) Deny q ts)

  effect-only : (letter : Letter) (e : Effect) → ListDecides f letter ts q e → e ≡ list_effect f letter ts q
  effect-only Guarded = guards-only (reaches f Guarded Permit q ts) (reaches-tells laws Guarded Permit q ts)
  effect-only (Model m) = decides-only m _ _ _ (reaches-tells laws (Model m) Permit q ts) (reaches-tells laws (Model m) Deny q ts)

pub one-decision : {posts : ℕ} {f : ℕ → ℕ → Bool} → Lawful posts f → (letter : Letter) (ts : List Rule) → OneDecision f letter ts
one-decision {f = f} laws letter ts q = (list_effect f letter ts q, (effect-decides laws ts q letter, effect-only laws ts q letter))

-- on the ladder itself
pub list-meant : {posts : ℕ} {f : ℕ → ℕ → Bool} → Lawful posts f → (letter : Letter) (n : ℕ) (ts : List Rule) → Meant posts f letter n ts (list_meaning posts f letter n ts)
list-meant laws letter n ts =
    record {
      requests = refl;
      each = λ r _. effect-decides laws ts (request_at n r) letter;
      one = λ r _. effect-only laws ts (request_at n r) letter;
    }

-- every policy that a list means has the list's effects
pub meant-effect : {posts : ℕ} {f : ℕ → ℕ → Bool} {letter : Letter} {n : ℕ} {ts : List Rule} {m : Meaning} → Lawful posts f → Meant posts f letter n ts m
    → (r : ℕ) → r < m.requests → list_effect f letter ts (request_at n r) ≡ m.effect r
meant-effect {f = f} {letter} {n} {ts} laws meant r h =
    meant.one r h (list_effect f letter ts (request_at n r)) (effect-decides laws ts (request_at n r) letter)

-- on rows that answer as the ladder does
pub same-meaning : {k posts : ℕ} {g f : ℕ → ℕ → Bool} → k ≡ posts → ((p q : ℕ) → g p q ≡ f p q) → (letter : Letter) (n : ℕ) (ts : List Rule)
    → list_meaning k g letter n ts ≡ list_meaning posts f letter n ts
same-meaning {k} {posts} {g} {f} e same letter n ts =
    ap (λ (j : ℕ). list_meaning j g letter n ts) e ∙ ap (λ (h : ℕ → ℕ → Bool). list_meaning posts h letter n ts) (fun_ext (λ p. fun_ext (λ q. same p q)))
