-- Places filled from the front, one more and all at once.
use Rattle.std.proofs.Common.{◌≡◌, ℕ, ◌+◌, ◌<◌, List, [], ◌∷◌, ◌++◌, length, get_or, take, drop, set, sym, refl, ap, ◌∙◌, append_assoc}
use Rattle.std.proofs.lemmas.List.{drop_at, drop-drop, drop_more, length-append, length_push, set_at, take_at}
use Rattle.rules.specs.Filled.{filled}

module _ {X : Type 0} (xs held : List X) where
  pub filled_more : (x : X) → length xs < length held → set (filled xs held) (length xs) x ≡ filled (xs ++ (x ∷ [])) held
  filled_more x h =
      ap (λ ys. set (xs ++ ys) (length xs) x) (drop_more held (length xs) x h)
      ∙ set_at xs (get_or held (length xs) x) (drop (length xs + 1) held) x (length xs) refl
      ∙ sym (append_assoc xs (x ∷ []) (drop (length xs + 1) held))
      ∙ ap (λ n. (xs ++ (x ∷ [])) ++ drop n held) (sym (length_push xs x))

  -- the front of what was filled
  pub filled-front : (n : ℕ) → length xs ≡ n → take n (filled xs held) ≡ xs
  filled-front n e = take_at xs (drop (length xs) held) n e

  -- more places filled after the first
  pub filled_on : (ys : List X) → filled (xs ++ ys) (filled xs held) ≡ filled (xs ++ ys) held
  filled_on ys =
      ap (λ zs. (xs ++ ys) ++ zs)
      (ap (λ n. drop n (filled xs held)) (length-append xs ys)
      ∙ sym (drop-drop (length ys) (length xs) (filled xs held))
      ∙ ap (drop (length ys)) (drop_at xs (drop (length xs) held) (length xs) refl)
      ∙ drop-drop (length ys) (length xs) held
      ∙ ap (λ n. drop n held) (sym (length-append xs ys)))
