-- The text of a lawful list, read back, is the list.
use Rattle.std.proofs.Common.{◌≡◌, ℕ, suc, ◌+◌, ◌-◌, ◌≤◌, List, [], ◌∷◌, ◌++◌, map, length, Ok, Err, Result, sym, refl, ap, ◌∙◌, subst, ap₂, arith}
use Rattle.std.specs.List.{AllByRecursion}
use Rattle.lines.specs.Lines.{Span, span, Unbroken, ended, Lines, none, more}
use Rattle.rules.specs.declared.rule.Rule.{Rule}
use Rattle.rules.specs.declared.letter.Letter.{Letter}
use Rattle.rulefile.specs.declared.grammar.Grammar.{Grammar}
use Rattle.rulefile.specs.declared.grammar.Listing.{Listing}
use Rattle.rulefile.specs.declared.faults.FileFault.{FileFault}
use Rattle.rulefile.specs.Items.{Spells}
use Rattle.rulefile.specs.Files.{head_line, grammar, Say, nothing, silence, a-rule, ByGrammar, filled, Answers}
use Rattle.rulefile.proofs.FileLaw.{items-unbroken, mark-unbroken, letter-unbroken, one-reading}
use Rattle.rulefile.proofs.LineLaw.{follow-known}
use Rattle.writing.specs.Written.{line_of, lined, written}
use Rattle.writing.specs.Writes.{Sayable, LawfulList, ReadBack}
use Rattle.writing.proofs.Sayings.{sayable-can, written-spells}

spelled-unbroken : (g : Grammar) (x : List ℕ) (t : Rule) → Spells g x t → Unbroken x
spelled-unbroken g x t s = subst Unbroken (sym s.bytes) (mark-unbroken t.effect, items-unbroken s.items (follow-known g [] s.items s.follow))

-- the lines of the rules, of which the first has the number k and the offset s
rules-written : (g : Grammar) → 1 ≤ g.posts → g.posts ≤ 8 → g.conditions ≤ 9 → (k s : ℕ) (ts : List Rule) → AllByRecursion (Sayable g) ts
    → (ls : List Span) × (Lines k s (lined (map line_of ts)) ls × Say g ls ts)
rules-written g some few-posts few k s [] h = ([], (none, nothing))
rules-written g some few-posts few k s (t ∷ ts) (h, hs) =
    let text : List ℕ = lined (map line_of ts) in
    let line = written-spells g t few-posts few (sayable-can g t some h) in
    let r = rules-written g some few-posts few (suc k) (s + (length (line_of t ++ (10 ∷ text)) - length text)) ts hs in
    (span k s (line_of t) ∷ r.0, (more (ended (spelled-unbroken g (line_of t) t line)) r.1.0, a-rule line r.1.1))

module _ (posts : ℕ) (letter : Letter) (n : ℕ) (ts : List Rule) (some : 1 ≤ posts) (few-posts : posts ≤ 8) (lawful : LawfulList posts letter n ts) where
  by-grammar : ByGrammar posts (written letter n ts) letter n ts
  by-grammar =
      let text : List ℕ = lined (map line_of ts) in
      let r = rules-written (grammar letter n posts) some few-posts lawful.0 2 (0 + (length (head_line letter n ++ (10 ∷ text)) - length text)) ts lawful.1 in
      record {
        first = span 1 0 (head_line letter n);
        rest = r.0;
        lines = more (ended (letter-unbroken letter, (λ h. omega arith, (λ h. omega arith, tt)))) r.1.0;
        head = (lawful.0, refl);
        says = r.1.1;
      }

  back-again : (slots slots' : List Rule) (r : Result Listing FileFault) → length ts ≤ length slots → Answers posts (written letter n ts) slots r slots'
      → (r ≡ Ok (record { letter = letter; conditions = n; rules = length ts })) × (slots' ≡ filled ts slots)
  back-again slots slots' (Ok l) few (_, (us, (b, (count, (_, left))))) =
      let one = one-reading posts (written letter n ts) l.letter letter l.conditions n us ts b by-grammar in
      let same : Listing → Listing → Type 0 = λ a b. a ≡ b in
      let told : same l (record { letter = letter; conditions = n; rules = length ts }) =
      ap₂ (λ a b. let x : Listing = record { letter = a; conditions = b; rules = l.rules } in x) one.0 one.1.0
      ∙ ap (λ c. let x : Listing = record { letter = letter; conditions = n; rules = c } in x) (count ∙ ap length one.1.1) in
      (ap Ok told, left ∙ ap (λ xs. filled xs slots) one.1.1)
  back-again slots slots' (Err f) few (_, (unread, _)) = absurd (unread letter n ts by-grammar few)

  pub read_back : ReadBack posts (written letter n ts) letter n ts
  read_back = record { list = by-grammar; once = one-reading posts (written letter n ts); read = back-again }

-- Each rule that lines say is given by some line.
said-sayable : {g : Grammar} {ls : List Span} {ts : List Rule} → Say g ls ts → AllByRecursion (Sayable g) ts
said-sayable nothing = tt
said-sayable (silence h s) = said-sayable s
said-sayable (a-rule {l} h s) = ((l.bytes, h), said-sayable s)

-- A list that is read is lawful.
pub read-lawful : {posts : ℕ} {file : List ℕ} {letter : Letter} {n : ℕ} {ts : List Rule} → ByGrammar posts file letter n ts → LawfulList posts letter n ts
read-lawful b = (b.head.0, said-sayable b.says)
