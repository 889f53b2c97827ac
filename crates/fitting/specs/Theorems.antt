-- What is shown of these definitions beyond the contracts.
use Rattle.std.specs.Prelude.{ℕ, ◌<◌, ◌≡◌, Bool, true, false, not, length, get_or, set, drop}
use mathlib.Core.List.{List, map, Memᴰ as Mem}
use Rattle.types.specs.Node.{Polarity, positive, negative, Field, field, attrset, named, members, neg, form, tag, children, field_names}
use Rattle.types.specs.Arena.{Arena, at, sound}
use Rattle.fix_values.specs.Values as values
use Rattle.fix_values.specs.Values.{Value, value, shape}
use Rattle.fix_values.specs.Fix.{Fix, value_at}
use Rattle.fitting.specs.Fits.{Test, first, among, set_takes, takes}
use Rattle.fitting.specs.Worked.{Case, worked}

-- ---- nodes
-- `Neg` takes exactly what its inner type doesn't
abbrev pub NegOpposite : Type 0
NegOpposite =
    (f : Fix) (table : ℕ) (a : Arena) → sound table a ≡ true → (n : ℕ) → tag (at a n) ≡ neg → (v : ℕ)
    → takes f a n v ≡ not (takes f a (get_or (children (at a n)) 0 0) v)

-- `Named` is its inner type
abbrev pub NamedInner : Type 0
NamedInner =
    (f : Fix) (table : ℕ) (a : Arena) → sound table a ≡ true → (k n : ℕ) → tag (at a n) ≡ form (named k) → (v : ℕ)
    → takes f a n v ≡ takes f a (get_or (children (at a n)) 0 0) v

-- a union needs one member to fit, an intersection all: of one member both are that member
abbrev pub OneMember : Type 0
OneMember =
    (f : Fix) (table : ℕ) (a : Arena) → sound table a ≡ true → (k : Polarity) (n : ℕ) → tag (at a n) ≡ members k
    → length (children (at a n)) ≡ 1 → (v : ℕ) → takes f a n v ≡ takes f a (get_or (children (at a n)) 0 0) v

-- and of the same members, in any order and however often, two of a kind take the same
abbrev pub SameMembers : Type 0
SameMembers =
    (f : Fix) (table : ℕ) (a : Arena) → sound table a ≡ true → (k : Polarity) (m n : ℕ) → tag (at a m) ≡ members k
    → tag (at a n) ≡ members k
    → ((c : ℕ) → Mem c (children (at a m)) → Mem c (children (at a n)))
    → ((c : ℕ) → Mem c (children (at a n)) → Mem c (children (at a m))) → (v : ℕ) → takes f a m v ≡ takes f a n v

-- ---- sets
-- a set needs every field that isn't optional: what the type of an optional field takes isn't asked where the value has no such field
abbrev pub OptionalNotAsked : Type 0
OptionalNotAsked =
    (fs : List Field) (d o : Bool) (ts : List Test) (i n : ℕ) → i < length fs → get_or fs i (field false 0) ≡ field true n
    → (ns cs : List ℕ) → among n ns ≡ false
    → (t : Test) → set_takes fs d o (set ts i t) (value (values.set ns) cs) ≡ set_takes fs d o ts (value (values.set ns) cs)

-- any other field must fit the dynamic type if there is one, else the set must be open: a closed set without a dynamic type takes no value
-- that has another field
abbrev pub ClosedTakesNoOther : Type 0
ClosedTakesNoOther =
    (fs : List Field) (ts : List Test) (ns cs : List ℕ) → length ns ≡ length cs
    → (m : ℕ) → among m ns ≡ true → among m (field_names fs) ≡ false → set_takes fs false false ts (value (values.set ns) cs) ≡ false

-- and a set with a dynamic type none that has another field, here the field i, which doesn't fit it, open or not
pub record DynamicTakesNoOther : Type 0 where
  pub must : (fs : List Field) (o : Bool) (ts : List Test) (ns cs : List ℕ) → length ns ≡ length cs
      → (i : ℕ) → i < length ns → among (get_or ns i 0) (field_names fs) ≡ false → first (drop (length fs) ts) (get_or cs i 0) ≡ false
      → set_takes fs true o ts (value (values.set ns) cs) ≡ false
  pub open_or_not : (fs : List Field) (ts : List Test) (u : Value) → set_takes fs true true ts u ≡ set_takes fs true false ts u

-- ---- a field that a type demands
-- node m demands a field of the name n: it is a set type with such a field that isn't optional; a union all of whose members demand it; an
-- intersection with a member that does; or a `Named` whose inner type does
pub data Demands (a : Arena) (n : ℕ) : ℕ → Type 0 where
  in_set : {m : ℕ} (fs : List Field) (d o : Bool) → tag (at a m) ≡ form (attrset fs d o) → Mem (field false n) fs → Demands a n m
  in_union : {m : ℕ} → tag (at a m) ≡ members positive → ((c : ℕ) → Mem c (children (at a m)) → Demands a n c) → Demands a n m
  in_intersection : {m : ℕ} → tag (at a m) ≡ members negative → (c : ℕ) → Mem c (children (at a m)) → Demands a n c → Demands a n m
  in_named : {m : ℕ} (k : ℕ) → tag (at a m) ≡ form (named k) → Demands a n (get_or (children (at a m)) 0 0) → Demands a n m

-- a set needs every field that isn't optional, and list and set types take only lists and sets: a node that demands a field takes no value
-- without it, whether a set or another
abbrev pub NoFixWithout : Type 0
NoFixWithout =
    (table : ℕ) (a : Arena) → sound table a ≡ true → (n m : ℕ) → Demands a n m
    → (f : Fix) (v : ℕ) → among n (values.names (shape (value_at f v))) ≡ false → takes f a m v ≡ false

-- every case is as it says
abbrev pub WorkedSo : Type 0
WorkedSo = map (λ (c : Case). c.gives) worked ≡ map (λ (c : Case). c.says) worked
