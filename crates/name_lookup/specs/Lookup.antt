-- Where a text stands among the names of a table (02, A3).
use Rattle.std.specs.Prelude.{ℕ, ◌+◌, Bool, false, ◌||◌, List, [], ◌∷◌, Ok}
use Rattle.words.specs.Words.{bit}
use Rattle.types.specs.declared.refusal.Refusal.TheVariants as refusal
use Rattle.types.specs.Out.{Out, required}
use Rattle.types.specs.Same.{same_numbers}
use Rattle.types.specs.Order.{is_less}
use Rattle.names.specs.Table.{Name, name_order, names_of}
use Rattle.name_lookup.specs.declared.Position.{Position}

-- is one of the names the text, byte for byte?
unfoldable pub has_name : List Name → Name → Bool
unfolding same_numbers
has_name [] x = false
has_name (n ∷ ns) x = same_numbers n x || has_name ns x

-- how many of the names come before the text, in the table's order?
unfoldable pub names_before : List Name → Name → ℕ
unfolding name_order
names_before [] x = 0
names_before (n ∷ ns) x = bit (is_less (name_order n x)) + names_before ns x

-- both, of any text, also one that can be no name. In a table, whose names rise, the name that is the text has so many before it as its
-- number says (Theorems, FindsExactly)
unfoldable pub position : List Name → Name → Position
unfolding has_name names_before
position ns x = record { found = has_name ns x; place = names_before ns x }

-- the text's position among the names of the table; 1 where the table breaks a rule (01, "Who can cause which number")
unfoldable pub find_reply : List ℕ → Name → Out Position
unfolding required names_of position
find_reply t x = required refusal.BadTable (names_of t) (λ (ns : List Name). Ok (position ns x))
