-- What the functions that check a fix, and read its values, ask and answer.
use Rattle.std.specs.Prelude.{Option, Some, None, ℕ, suc, ◌≤◌, ◌<◌, ◌≡◌, Bool, true, false, not, ◌&&◌, List, [], ◌∷◌, ◌++◌, length, get_or, take, drop, eqb, ltb, leb}
use Rattle.std.proofs.Math.Option.{none, some}
use Rattle.words.specs.Words.{field_optional, field_name, field_zero, head_count, child}
use Rattle.types.specs.Node.{below}
use Rattle.fix_values.specs.Values.{encode, guess, is_value}
use Rattle.fix_values.specs.Fix.{Fix, value_at, fix_of}

-- the sentences on a field word, read off its fields: optional and zero are 0, the name is one of the table's from `low` on, the child is
-- an earlier value
unfoldable pub field_good : ℕ → ℕ → ℕ → ℕ → Bool
unfolding field_optional field_name field_zero child
field_good table values low w =
    (not (field_optional w) && eqb (field_zero w) 0)
    && ((leb low (field_name w) && ltb (field_name w) table) && ltb (child w) values)

-- the same of each, where each name is above the one before
unfoldable pub fields_good : ℕ → ℕ → ℕ → List ℕ → Bool
unfolding field_good field_name
fields_good table values low [] = true
fields_good table values low (w ∷ ws) = field_good table values low w && fields_good table values (suc (field_name w)) ws

-- a body under a head of this kind
unfoldable pub body_good : ℕ → ℕ → ℕ → List ℕ → Bool
unfolding below fields_good
body_good table values k b = elim (eqb k 6) [
  | true ↦ below values b
  | false ↦ elim (eqb k 7) [ true ↦ fields_good table values 0 b | false ↦ ltb k 6 && eqb (length b) 0 ]
]

-- there is a word at this place, and fewer values than a fix may have come before it
pub record Behind (ws : List ℕ) (at values : ℕ) : Type 0 where
  pub inside : at < length ws
  pub few : values < 1024

-- how many words the value at a place takes, from its head
abbrev pub span : List ℕ → ℕ → ℕ
span ws at = suc (head_count (get_or ws at 0))

-- r is how many words the value at this place takes, or `None` where none stands there
pub record NextValue (table values : ℕ) (ws : List ℕ) (at : ℕ) (r : Option ℕ) : Type 0 where
  pub found : (n : ℕ) → r ≡ Some n → (n ≡ span ws at) × ((n ≤ length (drop at ws)) × (is_value table values (take (span ws at) (drop at ws)) ≡ true))
  pub missing : r ≡ None → is_value table values (take (span ws at) (drop at ws)) ≡ false

-- a list of places, for as many values as a fix may have
pub record Unplaced (ps : List ℕ) : Type 0 where
  pub long : length ps ≡ 1024

-- value v of the fix f stands at its place in the words, with those of the values after it, and its words give it back
pub record Placed (ws ps : List ℕ) (f : Fix) (v : ℕ) : Type 0 where
  pub rest : List ℕ
  pub is : drop (get_or ps v 0) ws ≡ encode (value_at f v) ++ rest
  pub back : guess (encode (value_at f v)) ≡ value_at f v

-- the words hold the fix f, which has so many values, each at its place
pub record FixIn (table : ℕ) (ws ps : List ℕ) (count : ℕ) (f : Fix) : Type 0 where
  pub is : fix_of table ws ≡ some f
  pub counted : count ≡ length f
  pub long : length ps ≡ 1024
  pub placed : (v : ℕ) → v < count → Placed ws ps f v

-- r is how many values the words hold, or 0 where they hold no fix
pub record Checks (table : ℕ) (ws ps : List ℕ) (r : ℕ) : Type 0 where
  pub long : length ps ≡ 1024
  pub broken : r ≡ 0 → fix_of table ws ≡ none
  pub fix : (r ≡ 0 → ⊥) → (f : Fix) × FixIn table ws ps r f

-- the words hold a fix that has a value v
pub record InFix (ws ps : List ℕ) (count v : ℕ) : Type 0 where
  pub table : ℕ
  pub view : Fix
  pub holds : FixIn table ws ps count view
  pub inside : v < count

-- r is that value's words
pub record ValueAt (ws ps : List ℕ) (count v : ℕ) (r : List ℕ) : Type 0 where
  pub is : (table : ℕ) (f : Fix) → FixIn table ws ps count f → r ≡ encode (value_at f v)
