-- What is shown of these definitions beyond the contracts. A statement with parameters holds for all of them.
use Rattle.std.specs.Prelude.{ℕ, ◌<◌, ◌≡◌, List, [], length, get_or, take, drop, Ok}
use Rattle.std.proofs.Math.Option.{some}
use Rattle.types.specs.Order.{order, TotalOrder}
use Rattle.names.specs.Table.{Name, name_order, IsTable, names_of}
use Rattle.names.specs.Reply.{name_reply}
use Rattle.names.specs.declared.Stretch.{Stretch}

-- `names_of` gives the names of a table (01, "Words of the arena")
abbrev pub IsNamesOf : List ℕ → List Name → Type 0
IsNamesOf t ns = IsTable t ns → names_of t ≡ some ns

-- and of nothing else
abbrev pub NamesOfIs : Type 0
NamesOfIs = (t : List ℕ) (ns : List Name) → names_of t ≡ some ns → IsTable t ns

-- bytes are the table of at most one list of names
abbrev pub UniqueNames : List ℕ → List Name → List Name → Type 0
UniqueNames t ns ms = IsTable t ns → IsTable t ms → ns ≡ ms

-- of two names one comes before the other, or they are the same bytes (01, "Words of the arena"; 02, A3)
abbrev pub NameOrderTotal : Type 0
NameOrderTotal = TotalOrder name_order

-- the numbers of names stand as the names do, so that node order may compare numbers
abbrev pub NumberOrder : Type 0
NumberOrder =
    (t : List ℕ) (ns : List Name) → names_of t ≡ some ns → (i j : ℕ) → i < length ns → j < length ns
    → name_order (get_or ns i []) (get_or ns j []) ≡ order i j

-- the bytes of this stretch are the text of the name with this number, which the table has
pub record IsText (t : List ℕ) (number : ℕ) (q : Stretch) : Type 0 where
  pub names : List Name
  pub is : names_of t ≡ some names
  pub there : number < length names
  pub text : take q.length (drop q.start t) ≡ get_or names number []

-- what `name_stretch` answers is that text (01, "A name's text is given back as that stretch of the table")
abbrev pub StretchIsText : Type 0
StretchIsText = (t : List ℕ) (number : ℕ) (q : Stretch) → name_reply t number ≡ Ok q → IsText t number q
