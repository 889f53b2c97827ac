-- What the functions that compare two nodes' own data answer. Of names they are lent a map (`Inner` of `name_matching`).
use Rattle.std.specs.Prelude.{ℕ, ◌+◌, ◌≡◌, Bool, true, false, ◌&&◌, List, [], ◌∷◌, length, get_or, eqb}
use Rattle.std.specs.Bool.{beq}
use Rattle.words.specs.Words.{field_optional, field_name}
use Rattle.types.specs.Same.{same}
use Rattle.types.specs.Node.{Node, tag, children, encode, formed, names, below}
use Rattle.names.specs.Table.{Name}
use Rattle.equal.specs.Equal.{label_of, label_dec}
use Rattle.name_matching.specs.Inner.{Matches}

-- have two field words the same mark, and names that are one by the map?
unfoldable pub same_field : List ℕ → ℕ → ℕ → Bool
unfolding field_optional field_name
same_field ks v w = beq (field_optional v) (field_optional w) && eqb (get_or ks (field_name v) 0) (field_name w + 1)

-- have as many field words, each with the one beside it?
unfoldable pub same_fields : List ℕ → List ℕ → List ℕ → Bool
unfolding same_field
same_fields ks [] [] = true
same_fields ks [] (w ∷ f) = false
same_fields ks (v ∷ e) [] = false
same_fields ks (v ∷ e) (w ∷ f) = same_field ks v w && same_fields ks e f

-- have the two nodes the same label, and as many children?
unfoldable pub same_data : List Name → Node → List Name → Node → Bool
unfolding same label_dec
same_data ns x ms y = same label_dec (label_of ns (tag x)) (label_of ms (tag y)) && eqb (length (children x)) (length (children y))

-- a formed node whose names are of these
pub record Named (ns : List Name) (x : Node) : Type 0 where
  pub formed_so : formed x ≡ true
  pub inside : below (length ns) (names (tag x)) ≡ true

-- r says so of the words of any two nodes
pub record SameData (ks v w : List ℕ) (r : Bool) : Type 0 where
  pub is : (ns ms : List Name) → Matches ns ms ks → (x y : Node) → Named ns x → Named ms y → v ≡ encode x → w ≡ encode y
      → r ≡ same_data ns x ms y
