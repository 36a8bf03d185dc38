-- The text of a list: its first line, then a line for each rule, each line with byte 10.
use Rattle.std.specs.Prelude.{ℕ, zero, suc, true, false, cond, List, [], ◌∷◌, ◌++◌, map, Some, None, Option, ◌==◌}
use Rattle.std.specs.Option.{option_to_list}
use Rattle.std.specs.List.{flat_map}
use Rattle.ladders.specs.Sets.{holds}
use Rattle.rules.specs.declared.rule.Rule.{Rule}
use Rattle.rules.specs.declared.letter.Letter.{Letter}
use Rattle.rulefile.specs.declared.grammar.Name.TheVariants.{Condition, Post}
use Rattle.rulefile.specs.declared.grammar.Item.{Item}
use Rattle.rulefile.specs.Items.{item, spelled, mark_of}
use Rattle.rulefile.specs.Files.{head_line}

-- The floor post is written unless it is 0.
abbrev pub floor_item : Rule → Option Item
floor_item t = cond (t.floor == 0) None (Some (item false (Post t.floor)))

-- Post p is written where it is barred.
abbrev pub post_item : Rule → ℕ → Option Item
post_item t p = cond (holds t.barred_posts p) (Some (item true (Post p))) None

-- Condition c is written plain where it is needed, and with a ! where it is barred.
abbrev pub condition_item : Rule → ℕ → Option Item
condition_item t c =
    cond (holds t.needed c) (Some (item false (Condition c))) (cond (holds t.barred c) (Some (item true (Condition c))) None)

-- The items that f gives for 0, 1 and so on, for k numbers.
unfoldable pub rising : (ℕ → Option Item) → ℕ → List Item
rising f zero = []
rising f (suc k) = rising f k ++ option_to_list (f k)

-- The items of a rule in the order in which they are written: the floor post, the barred posts by rising number, and the conditions by
-- letter, needed and barred mixed. There are at most eight posts and nine conditions.
abbrev pub written_items : Rule → List Item
written_items t = option_to_list (floor_item t) ++ (rising (post_item t) 8 ++ rising (condition_item t) 9)

-- The line of a rule.
unfoldable pub line_of : Rule → List ℕ
line_of t = mark_of t.effect ∷ flat_map spelled (written_items t)

-- The lines, each with byte 10 after it.
abbrev pub lined : List (List ℕ) → List ℕ
lined [] = []
lined (x ∷ xs) = x ++ (10 ∷ lined xs)

-- The text of a list of this letter, with n conditions and the rules ts.
abbrev pub written : Letter → ℕ → List Rule → List ℕ
written letter n ts = lined (head_line letter n ∷ map line_of ts)
