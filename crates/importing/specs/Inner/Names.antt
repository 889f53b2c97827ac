-- Names in the words of nodes, and the map that says which numbers they have in the target's table.
use Rattle.std.specs.Prelude.{ℕ, zero, suc, ◌+◌, ◌-◌, ◌<◌, ◌≤◌, ◌≡◌, Bool, true, ◌&&◌, List, length, get_or}
use Rattle.std.proofs.Math.Option.{Option, none, some}
use Rattle.words.specs.Words.{field_word, field_optional, field_name, child}
use Rattle.types.specs.Node.{Node, tag, names, encode, formed}
use Rattle.types.specs.Arena.{Arena, at}
use Rattle.types.specs.Memory.{Holds}
use Rattle.types.specs.declared.Counters.{Counters}
use Rattle.bits.specs.Bits.{has}
use Rattle.importing.specs.Import.{lacks_one}

-- an entry of the map: 0 for none, else the number and one
abbrev pub entry : ℕ → Option ℕ
entry zero = none
entry (suc p) = some p

-- the numbers that the map has
abbrev pub by_map : List ℕ → ℕ → Option ℕ
by_map ks k = entry (get_or ks k 0)

-- all numbers are those of names in a table of so many, and stand as the names do
pub record Numbering (f : ℕ → Option ℕ) (table : ℕ) : Type 0 where
  pub few : table ≤ 4096
  pub low : (k p : ℕ) → f k ≡ some p → p < table
  pub rises : (i j p q : ℕ) → i < j → f i ≡ some p → f j ≡ some q → p < q

-- a field word with the number that the map has for its name
unfoldable pub renamed_word : List ℕ → ℕ → ℕ
unfolding field_word field_optional field_name child
renamed_word ks w = field_word (field_optional w) (get_or ks (field_name w) 0 - 1) (child w)

-- the map has a number for the name of a field word
pub record Known (ks : List ℕ) (w : ℕ) : Type 0 where
  pub long : length ks ≡ 4096
  pub some : 0 < get_or ks (field_name w) 0
  pub few : get_or ks (field_name w) 0 ≤ 4096

-- so it has for each of the first `count` words behind the head of a node
pub record Renaming (ks : List ℕ) (count : ℕ) (ws : List ℕ) : Type 0 where
  pub size : length ws ≡ 66
  pub few : count ≤ 65
  pub known : (j : ℕ) → j < count → Known ks (get_or ws (j + 1) 0)

-- these have the numbers of the map, and all other words stay
pub record Renames (ks : List ℕ) (count : ℕ) (ws ws' : List ℕ) : Type 0 where
  pub size : length ws' ≡ 66
  pub head : get_or ws' 0 0 ≡ get_or ws 0 0
  pub each : (j : ℕ) → j < count → get_or ws' (j + 1) 0 ≡ renamed_word ks (get_or ws (j + 1) 0)
  pub rest : (j : ℕ) → count ≤ j → get_or ws' (j + 1) 0 ≡ get_or ws (j + 1) 0

-- r says whether the map lacks a name of the node with these words
pub record LacksOwn (ks ws : List ℕ) (r : Bool) : Type 0 where
  pub is : (x : Node) → formed x ≡ true → ws ≡ encode x → r ≡ lacks_one (by_map ks) (names (tag x))

-- the same of node n, if the set has it
pub record LacksMet (w s : List ℕ) (c : Counters) (n : ℕ) (met ks : List ℕ) (r : Bool) : Type 0 where
  pub is : (table : ℕ) (a : Arena) → Holds table w s c a → r ≡ (has met n && lacks_one (by_map ks) (names (tag (at a n))))
