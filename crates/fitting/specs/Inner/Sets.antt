-- Whether a set fits a set type, by the field words of both.
use Rattle.std.specs.Prelude.{ℕ, ◌<◌, ◌≤◌, ◌≡◌, Bool, true, ◌&&◌, List, map, length, get_or, eqb, ltb}
use Rattle.words.specs.Words.{field_name, child}
use Rattle.types.specs.Node.{field_of, rising}
use Rattle.fitting.specs.Fits.{Test, none_missing, field_test, fields_pass}
use Rattle.fitting.specs.Inner.Rows.{pair, HasPair}
use Rattle.fitting.specs.declared.sets.Other.{Other}
use Rattle.fitting.specs.declared.sets.Other.TheVariants as other

-- the enum's cases: the test of the dynamic type's node; whether the set is open
abbrev pub other_of : List ℕ → ℕ → Other → Test
other_of ps width (other.Type n) v = pair ps width n v
other_of ps width (other.Open o) v = o

-- r is the first place from one on whose field has a name from this one on
pub record Seeks (ws : List ℕ) (from name r : ℕ) : Type 0 where
  pub later : from ≤ r
  pub inside : r ≤ length ws
  pub passed : (i : ℕ) → from ≤ i → i < r → field_name (get_or ws i 0) < name
  pub here : r < length ws → name ≤ field_name (get_or ws r 0)

-- there are rows for what the field words, or the dynamic type, ask of value v
pub record CanAsk (fs ps : List ℕ) (width : ℕ) (o : Other) (v : ℕ) : Type 0 where
  pub fields : (i : ℕ) → i < length fs → HasPair ps width (child (get_or fs i 0)) v
  pub dynamic : (n : ℕ) → o ≡ other.Type n → HasPair ps width n v

-- the same of all values of a set's field words
pub record CanAskAll (fs vs ps : List ℕ) (width : ℕ) (o : Other) : Type 0 where
  pub each : (j : ℕ) → j < length vs → CanAsk fs ps width o (child (get_or vs j 0))

-- field words whose names rise
pub record Risen (ws : List ℕ) : Type 0 where
  pub is : rising (map field_name ws) ≡ true

-- field words of a type and of a value, with rows for what is asked
pub record Asks (fs vs ps : List ℕ) (width : ℕ) (o : Other) : Type 0 where
  pub type_rises : Risen fs
  pub value_rises : Risen vs
  pub can : CanAskAll fs vs ps width o

-- what the field of this name must pass
abbrev pub test_of : List ℕ → List ℕ → ℕ → Other → ℕ → Test
test_of fs ps width o = field_test (map field_of fs) (map (pair ps width) (map child fs)) (other_of ps width o)

-- the fields before place i have names below this one, and from there on none has
pub record Stands (fs : List ℕ) (i name : ℕ) : Type 0 where
  pub before : (k : ℕ) → k < i → field_name (get_or fs k 0) < name
  pub here : i < length fs → name ≤ field_name (get_or fs i 0)

-- r says whether value v passes as the field of this name, which would stand at place i
pub record FieldTakes (fs : List ℕ) (i name : ℕ) (ps : List ℕ) (width : ℕ) (o : Other) (v : ℕ) (r : Bool) : Type 0 where
  pub is : Risen fs → Stands fs i name → r ≡ test_of fs ps width o name v

-- both name lists rise
pub record BothRise (fs vs : List ℕ) : Type 0 where
  pub first : Risen fs
  pub second : Risen vs

-- there is a pair for the dynamic type, where there is one
pub record OtherAsks (ps : List ℕ) (width : ℕ) (o : Other) (v : ℕ) : Type 0 where
  pub dynamic : (n : ℕ) → o ≡ other.Type n → HasPair ps width n v

-- has the field at place i this name?
unfoldable pub named_at : List ℕ → ℕ → ℕ → Bool
unfolding field_name
named_at ws i name = ltb i (length ws) && eqb (field_name (get_or ws i 0)) name

-- does a set with the field words vs fit a set type with the field words fs?
unfoldable pub words_take : List ℕ → List ℕ → List ℕ → ℕ → Other → Bool
unfolding none_missing field_test fields_pass field_name child pair
words_take fs vs ps width o =
    none_missing (map field_of fs) (map field_name vs) && fields_pass (test_of fs ps width o) (map field_name vs) (map child vs)
