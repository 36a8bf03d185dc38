-- Bytes written over a text, and more bytes directly after them.
use Rattle.std.proofs.Common.{◌≡◌, ℕ, ◌+◌, ◌-◌, ◌≤◌, List, [], ◌++◌, length, take, drop, refl, sym, ap, ◌∙◌, ap₂, append_assoc, add_assoc, zero-add, arith}
use Rattle.std.proofs.lemmas.List.{length-append, length-drop, length-take-le, take_at, drop_at, drop-drop, take-append-drop}
use Rattle.rulefile.specs.Files.{filled}
use Rattle.writing.specs.declared.pen.Pen.{Pen}
use Rattle.writing.specs.Steps.{over, HasRoom, Puts}

module _ (xs : List ℕ) (at : ℕ) (ys : List ℕ) (h : at + length ys ≤ length xs) where
  -- what stands up to the end of ys
  front : length (take at xs ++ ys) ≡ at + length ys
  front = length-append (take at xs) ys ∙ ap (λ n. n + length ys) (length-take-le at xs (omega arith))

  parted : over xs at ys ≡ (take at xs ++ ys) ++ drop (at + length ys) xs
  parted = sym (append_assoc (take at xs) ys (drop (at + length ys) xs))

  pub length_over : length (over xs at ys) ≡ length xs
  length_over =
      ap length parted ∙ length-append (take at xs ++ ys) (drop (at + length ys) xs) ∙ ap₂ (λ m n. m + n) front (length-drop (at + length ys) xs)
      ∙ (let e : (at + length ys) + (length xs - (at + length ys)) ≡ length xs = omega arith in e)

  pub over-more : (zs : List ℕ) → over (over xs at ys) (at + length ys) zs ≡ over xs at (ys ++ zs)
  over-more zs =
      let n : ℕ = at + length ys in
      let rest : List ℕ = drop (at + length ys) xs in
      ap₂ (λ ps qs. ps ++ (zs ++ qs)) (ap (take n) parted ∙ take_at (take at xs ++ ys) rest n front)
      (sym (drop-drop (length zs) n (over xs at ys)) ∙ ap (drop (length zs)) (ap (drop n) parted ∙ drop_at (take at xs ++ ys) rest n front) ∙ drop-drop (length zs) n xs)
      ∙ append_assoc (take at xs) ys (zs ++ drop (n + length zs) xs)
      ∙ ap (λ ws. take at xs ++ ws) (sym (append_assoc ys zs (drop (n + length zs) xs)))
      ∙ ap (λ k. take at xs ++ ((ys ++ zs) ++ drop k xs)) (add_assoc at (length ys) (length zs) ∙ ap (λ k. at + k) (sym (length-append ys zs)))

-- nothing written
pub over_none : (xs : List ℕ) (at : ℕ) → over xs at [] ≡ xs
over_none xs at = ap (λ k. take at xs ++ drop k xs) (let e : at + 0 ≡ at = omega arith in e) ∙ take-append-drop at xs

-- written from the front on
pub over-front : (xs ys : List ℕ) → over xs 0 ys ≡ filled ys xs
over-front xs ys = ap (λ k. ys ++ drop k xs) (zero-add (length ys))

-- Bytes put by a pen, and more bytes directly after them.
pub puts-then : {p q r : Pen} {xs ys : List ℕ} → Puts p xs q → Puts q ys r → Puts p (xs ++ ys) r
puts-then {p} {q} {r} {xs} {ys} a b =
    let more = length-append xs ys in
    let fits = a.fits in
    let next = a.at in
    let last = b.at in
    let room = b.fits in
    let same = a.size in
    record {
      same = b.same ∙ a.same;
      text = b.text ∙ ap₂ (λ ts k. over ts k ys) a.text a.at ∙ over-more p.text.now p.at xs a.fits ys;
      at = omega arith;
      fits = omega arith;
      size = b.size ∙ a.size;
    }

puts-none : (p : Pen) → HasRoom p 0 → Puts p [] p
puts-none p h = record { same = refl; text = sym (over_none p.text.now p.at); at = omega arith; fits = h; size = refl }

-- The bytes xs are still to come where the pen p stands, with room for n bytes after them; once they are put, `whole` stands where the pen
-- `start` stood.
pub record ToCome (p : Pen) (xs : List ℕ) (n : ℕ) (start : Pen) (whole : List ℕ) : Type 0 where
  pub room : HasRoom p (length xs + n)
  pub puts : (last : Pen) → Puts p xs last → Puts start whole last

pub all-to-come : (start : Pen) (xs : List ℕ) (n : ℕ) → HasRoom start (length xs + n) → ToCome start xs n start xs
all-to-come start xs n h = record { room = h; puts = λ _ h. h }

pub to-come-more : {p q start : Pen} {n : ℕ} {whole : List ℕ} (xs ys : List ℕ) → ToCome p (xs ++ ys) n start whole → Puts p xs q → ToCome q ys n start whole
to-come-more xs ys t h =
    let more = length-append xs ys in
    let room = t.room in
    let next = h.at in
    let same = h.size in
    record { room = omega arith; puts = λ last k. t.puts last (puts-then h k) }

pub to-come-none : {p start : Pen} {n : ℕ} {whole : List ℕ} → ToCome p [] n start whole → Puts start whole p
to-come-none {p} t = let room = t.room in t.puts p (puts-none p (omega arith))
