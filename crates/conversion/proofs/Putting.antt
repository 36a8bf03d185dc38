-- Rules put into slots one after the other, for the flags that are up.
use Rattle.std.proofs.Common.{◌≡◌, ℕ, ◌+◌, ◌-◌, ◌<◌, ◌≢◌, Bool, List, map, length, get_or, set, sym, ap, ◌∙◌, ⊎_elim, zero-add, arith, get_or-set_other, get_or-set_same}
use Rattle.std.specs.List.{enumerate_from, filter, range_with_len}
use Rattle.std.specs.Fn.{CalledAt}
use Rattle.std.specs.Iterator.Adapters.{enumerate_count, enumerate_source, enumerate_steps, filter_callee, filter_source, filter_steps}
use Rattle.std.specs.declared.iter.Enumerate.{Enumerate}
use Rattle.std.specs.declared.iter.Filter.{Filter}
use Rattle.std.specs.declared.ops.Range.{Range}
use denote.Param.Members.{Mut}
use denote.Ref.{Bor}
use Rattle.std.proofs.lemmas.Iterator.{YieldsList, YieldsList-from_range}
use Rattle.std.proofs.lemmas.Iterator.Consumers.{YieldsList-at, YieldsList-from_enumerate, YieldsList-from_filter}
use Rattle.std.proofs.iter.Yields.{nat_range_steps}
use Rattle.std.proofs.lemmas.Bool.{cases_eq}
use Rattle.std.proofs.lemmas.List.{get_or-map, get_or_default, length-map, same_lists}
use Rattle.std.proofs.lemmas.List.FromFn.{get_or-enumerate_from, length-enumerate_from}
use Rattle.rules.specs.declared.rule.Rule.{Rule}

-- the numbers below a total that pass a test, each with its place
pub each-placed : {F : Type 0} {g : Mut F (Bor ℕ × Unit {0}) Bool} (test : ℕ → Bool) (total : ℕ) {it s : Enumerate (Filter (Range ℕ) F)} {within : Filter (Range ℕ) F} {f : F}
    → it ≡ s → enumerate_source s ≡ within → enumerate_count s ≡ 0 → filter_source within ≡ record { start = 0; end = total } → filter_callee within ≡ f
    → ((x : ℕ) (b : Bool) (q : F) → CalledAt g f x b q → (q ≡ f) × (b ≡ test x))
    → YieldsList {B = ℕ × ℕ} (enumerate_steps (filter_steps nat_range_steps g)) (λ p. (p.0, p.1)) it (enumerate_from 0 (filter test (range_with_len 0 total)))
each-placed {g = g} test total is source count whole callee calls =
    YieldsList-at is
    (YieldsList-from_enumerate
    (YieldsList-at source (YieldsList-from_filter g test (YieldsList-from_range 0 total total whole (let e : total - 0 ≡ total = omega arith in e)) callee calls)) count)

-- where the n-th of these floors is put, and which it is
pub placed : (floors : List ℕ) (n place floor : ℕ) → (n < length (enumerate_from 0 floors)) × ((place, floor) ≡ get_or (enumerate_from 0 floors) n (place, floor))
    → (n < length floors) × ((place ≡ n) × (floor ≡ get_or floors n 0))
placed floors n place floor (lt, is) =
    let few : n < length floors = omega (arith, length-enumerate_from 0 floors) in
    let same = is ∙ get_or-enumerate_from 0 floors n (place, floor) few in
    (few, (ap (λ (p : ℕ × ℕ). p.0) same ∙ zero-add n, ap (λ (p : ℕ × ℕ). p.1) same ∙ get_or_default floors n floor 0 few))

-- the first n slots hold the rules of the first n floors
module _ (rule : ℕ → Rule) (floors : List ℕ) where
  abbrev pub PutTo : ℕ → List Rule → Type 0
  PutTo n slots = (k : ℕ) (d : Rule) → k < n → get_or slots k d ≡ rule (get_or floors k 0)

  pub put-more : (n : ℕ) (slots : List Rule) → n < length slots → PutTo n slots → PutTo (n + 1) (set slots n (rule (get_or floors n 0)))
  put-more n slots room before k d lt =
      ⊎_elim (λ (e : k ≡ n). rw e (get_or-set_same slots n (rule (get_or floors n 0)) d room)) (λ (ne : k ≢ n). rw get_or-set_other (before k d (omega arith))) (cases_eq k n)

  pub put-all : (slots : List Rule) → length slots ≡ length floors → PutTo (length floors) slots → slots ≡ map rule floors
  put-all slots long put =
      same_lists slots (map rule floors) (long ∙ sym (length-map floors rule))
      (λ k d lt. let few : k < length floors = omega arith in put k d few ∙ sym (get_or-map rule floors k 0 d few))
