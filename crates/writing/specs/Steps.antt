-- What the inner functions of writing answer, step by step. No public contract cites it.
use Rattle.std.specs.Prelude.{◌≡◌, ℕ, ◌+◌, ◌<◌, ◌≤◌, true, false, cond, not, List, ◌++◌, length, take, drop, Some, None}
use Rattle.std.specs.List.{AllByRecursion}
use Rattle.std.specs.Option.{option_to_list}
use Rattle.ladders.specs.Sets.{holds}
use Rattle.rules.specs.declared.rule.Rule.{Rule}
use Rattle.rules.specs.Letters.{Counts}
use Rattle.rulefile.specs.declared.grammar.Grammar.{Grammar}
use Rattle.rulefile.specs.declared.grammar.Item.{Item}
use Rattle.rulefile.specs.declared.grammar.Name.TheVariants.{Condition, Post}
use Rattle.rulefile.specs.Items.{Known, item}
use Rattle.writing.specs.Written.{rising, written_items}
use Rattle.writing.specs.declared.order.Items.{Items}
use Rattle.writing.specs.declared.pen.Pen.{Pen}

-- the members of a set are below n
abbrev pub Below : ℕ → ℕ → Type 0
Below set n = (c : ℕ) → holds set c ≡ true → c < n

-- no member of a set is one of the other
abbrev pub Apart : ℕ → ℕ → Type 0
Apart set other = (c : ℕ) → holds set c ≡ true → holds other c ≡ false

-- a rule names only what there is
pub record InRange (g : Grammar) (t : Rule) : Type 0 where
  pub floor : t.floor < g.posts
  pub needed : Below t.needed g.conditions
  pub barred : Below t.barred g.conditions
  pub posts : Below t.barred_posts g.posts

-- it names nothing twice
pub record NamesOnce (t : Rule) : Type 0 where
  pub conditions : Apart t.needed t.barred
  pub posts : 0 < t.floor → holds t.barred_posts t.floor ≡ false

-- and counts under its letter, so some line can give it
pub record CanSay (g : Grammar) (t : Rule) : Type 0 where
  pub range : InRange g t
  pub once : NamesOnce t
  pub allowed : Counts g.letter t

-- k is the lowest member of the set, and set' is the set without it
pub record Lowest (set set' k : ℕ) : Type 0 where
  pub few : k < 16
  pub member : holds set k ≡ true
  pub least : (j : ℕ) → j < k → holds set j ≡ false
  pub out : holds set' k ≡ false
  pub others : (j : ℕ) → j < 16 → (j ≡ k → ⊥) → holds set' j ≡ holds set j

-- a barred post, and a condition that is written plain where it is needed
abbrev pub bars_post : ℕ → Item
bars_post p = item true (Post p)

abbrev pub names_condition : ℕ → ℕ → Item
names_condition needed c = item (not (holds needed c)) (Condition c)

-- the items that f gives for the members of a set of 16 bits
abbrev pub given_by : (ℕ → Item) → ℕ → List Item
given_by f set = rising (λ k. cond (holds set k) (Some (f k)) None) 16

-- the items of a rule that are still to come
abbrev pub items_left : Items → List Item
items_left s =
    option_to_list s.floor ++ (given_by bars_post s.barred_posts ++ given_by (names_condition s.needed) s.conditions)

-- the bytes ys written over xs from the place `at` on
abbrev pub over : List ℕ → ℕ → List ℕ → List ℕ
over xs at ys = take at xs ++ (ys ++ drop (at + length ys) xs)

-- each item of the rule has a letter or digit
abbrev pub Named : Rule → Type 0
Named t = AllByRecursion (λ i. Known i.name) (written_items t)

-- there is room for n bytes where the pen stands
abbrev pub HasRoom : Pen → ℕ → Type 0
HasRoom p n = p.at + n ≤ length p.text.now

-- the bytes xs are written where the pen p stood, and q stands after them, over the same text
pub record Puts (p : Pen) (xs : List ℕ) (q : Pen) : Type 0 where
  pub same : q.text.ghost_name ≡ p.text.ghost_name
  pub text : q.text.now ≡ over p.text.now p.at xs
  pub at : q.at ≡ p.at + length xs
  pub fits : HasRoom p (length xs)
  pub size : length q.text.now ≡ length p.text.now
