-- Rule lines by the grammar: a mark, then items to the end of the line, and the rule that they give.
use Rattle.std.specs.Prelude.{◌≡◌, ℕ, ◌+◌, ◌-◌, ◌<◌, Bool, true, false, cond, not, ◌&&◌, ◌||◌, List, [], ◌∷◌, ◌++◌, Some, None, Option, ◌==◌, nat_le}
use Rattle.std.specs.List.{flat_map}
use Rattle.ladders.specs.Sets.{holds}
use Rattle.rules.specs.declared.rule.Effect.{Effect}
use Rattle.rules.specs.declared.rule.Effect.TheVariants.{Permit, Deny}
use Rattle.rules.specs.declared.rule.Rule.{Rule}
use Rattle.rules.specs.declared.letter.Letter.TheVariants.{Guarded}
use Rattle.rulefile.specs.declared.grammar.Grammar.{Grammar}
use Rattle.rulefile.specs.declared.grammar.Name.{Name}
use Rattle.rulefile.specs.declared.grammar.Name.TheVariants.{Condition, Post}
use Rattle.rulefile.specs.declared.grammar.Item.{Item}

-- What a byte names: a condition by its letter, a to i, or a post by its digit, 0 to 7.
abbrev pub name_of : ℕ → Option Name
name_of b =
    cond (nat_le 97 b && nat_le b 105) (Some (Condition (b - 97))) (cond (nat_le 48 b && nat_le b 55) (Some (Post (b - 48))) None)

-- The letter or digit of a name.
abbrev pub byte_of : Name → ℕ
byte_of (Condition c) = 97 + c
byte_of (Post p) = 48 + p

-- There is a letter or digit for the name.
abbrev pub Known : Name → Type 0
Known (Condition c) = c < 9
Known (Post p) = p < 8

abbrev pub item : Bool → Name → Item
item barred name = record { barred = barred; name = name }

-- An item as text: a space, a ! where it bars, and the letter or digit.
abbrev pub text : Bool → Name → List ℕ
text true x = 32 ∷ (33 ∷ (byte_of x ∷ []))
text false x = 32 ∷ (byte_of x ∷ [])

abbrev pub spelled : Item → List ℕ
spelled i = text i.barred i.name

abbrev pub any : (Item → Bool) → List Item → Bool
any f [] = false
any f (i ∷ is) = f i || any f is

abbrev pub same_name : Name → Name → Bool
same_name (Condition c) (Condition d) = c == d
same_name (Condition c) (Post p) = false
same_name (Post p) (Condition c) = false
same_name (Post p) (Post q) = p == q

abbrev pub is_condition : ℕ → Name → Bool
is_condition c x = same_name x (Condition c)

abbrev pub is_post : ℕ → Name → Bool
is_post p x = same_name x (Post p)

abbrev pub digit : Name → Bool
digit (Condition c) = false
digit (Post p) = true

-- A plain digit gives the floor post.
abbrev pub plain_digit : Item → Bool
plain_digit i = not i.barred && digit i.name

-- The item names what an item before it names, or is a second plain digit.
abbrev pub again : List Item → Item → Bool
again before i = any (λ j. same_name j.name i.name) before || (plain_digit i && any plain_digit before)

-- The name is one of the conditions or posts that there are.
abbrev pub Within : Grammar → Name → Type 0
Within g (Condition c) = c < g.conditions
Within g (Post p) = p < g.posts

-- The item may follow the items before it.
pub record Fits (g : Grammar) (before : List Item) (i : Item) : Type 0 where
  pub known : Known i.name
  pub within : Within g i.name
  pub new : again before i ≡ false
  pub bar : i.barred ≡ true → g.letter ≡ Guarded

-- The items may follow those before them, one after the other.
abbrev pub Follow : Grammar → List Item → List Item → Type 0
Follow g before [] = Unit {0}
Follow g before (i ∷ is) = Fits g before i × Follow g (before ++ (i ∷ [])) is

-- The rule that the items of a line give: a plain letter is needed, a plain digit is the floor post, which is 0 where there is none,
-- and a ! makes either barred.
pub record Means (is : List Item) (t : Rule) : Type 0 where
  pub needed : (c : ℕ) → holds t.needed c ≡ any (λ i. not i.barred && is_condition c i.name) is
  pub barred : (c : ℕ) → holds t.barred c ≡ any (λ i. i.barred && is_condition c i.name) is
  pub floor : (p : ℕ) → any (λ i. not i.barred && is_post p i.name) is ≡ true → t.floor ≡ p
  pub ground : any plain_digit is ≡ false → t.floor ≡ 0
  pub posts : (p : ℕ) → holds t.barred_posts p ≡ any (λ i. i.barred && is_post p i.name) is

abbrev pub mark_of : Effect → ℕ
mark_of Permit = 43
mark_of Deny = 45

-- The line x is by the grammar, and gives the rule t.
pub record Spells (g : Grammar) (x : List ℕ) (t : Rule) : Type 0 where
  pub items : List Item
  pub bytes : x ≡ mark_of t.effect ∷ flat_map spelled items
  pub mark : g.letter ≡ Guarded → t.effect ≡ Permit
  pub follow : Follow g [] items
  pub means : Means items t
