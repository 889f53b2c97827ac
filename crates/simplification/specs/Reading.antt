-- What a type means under a reading (01, "A reading").
use Prim.Native.Nat.{ℕ, zero, suc, ◌≤◌, Fin}
use Rattle.std.specs.Prelude.{Bool, true, false, not, ◌&&◌, ◌||◌, List, [], ◌∷◌}
use Rattle.std.specs.Bool.{beq}
use Rattle.std.proofs.Common.{arith}
use Rattle.types.specs.Same.{same}
use Rattle.types.specs.Node.{Polarity, positive, negative, Form, Tag, members, bound, var, neg, form, form_dec}
use Rattle.types.specs.Arena.{Arena, fold}

-- a set of marks, of which there are k
abbrev pub Set : ℕ → Type 0
Set k = Fin k → Bool

-- a node's own data (kind, code, names, flags), its children's sets, and its set
pub record Entry (k : ℕ) : Type 0 where
  pub own : Form
  pub children : List (Set k)
  pub value : Set k

-- how many marks there are, the variables' sets, and a finite list of entries
pub record Reading : Type 0 where
  pub marks : ℕ
  pub vars : ℕ → Set marks
  pub entries : List (Entry marks)

-- have the two sets the same of the first n marks?
unfoldable pub same_marks : (k n : ℕ) → n ≤ k → Set k → Set k → Bool
same_marks k zero l x y = true
same_marks k (suc n) l x y = beq (x (n, l)) (y (n, l)) && same_marks k n (omega arith) x y

-- are they the same sets, one by one?
unfoldable pub same_sets : (k : ℕ) → List (Set k) → List (Set k) → Bool
unfolding same_marks
same_sets k [] [] = true
same_sets k [] (y ∷ ys) = false
same_sets k (x ∷ xs) [] = false
same_sets k (x ∷ xs) (y ∷ ys) = same_marks k k (omega arith) x y && same_sets k xs ys

-- the value of the first entry that matches, and without one the empty set
unfoldable pub look_up : (k : ℕ) → List (Entry k) → Form → List (Set k) → Set k
unfolding same form_dec same_sets
look_up k [] f ss m = false
look_up k (e ∷ es) f ss m =
    elim (same form_dec e.own f && same_sets k e.children ss) [ true ↦ e.value m | false ↦ look_up k es f ss m ]

-- is a mark in the set of `never`, or of `any`?
abbrev pub in_bound : Polarity → Bool
in_bound positive = false
in_bound negative = true

-- is a mark in the union, or in the intersection, of two sets, from whether it is in each?
abbrev pub combine : Polarity → Bool → Bool → Bool
combine positive x y = x || y
combine negative x y = x && y

-- is it in that of a list of sets?
unfoldable pub in_members : {k : ℕ} → Polarity → List (Set k) → Set k
in_members k [] m = in_bound k
in_members k (x ∷ xs) m = combine k (x m) (in_members k xs m)

-- is it among the marks that the first child's set hasn't?
abbrev pub in_neg : {k : ℕ} → List (Set k) → Set k
in_neg [] m = true
in_neg (x ∷ xs) m = not (x m)

-- a node's set, from its children's
abbrev pub set_node : (r : Reading) → Tag → List (Set r.marks) → Set r.marks
set_node r (members k) xs = in_members k xs
set_node r (bound k) xs = λ m. in_bound k
set_node r (var v) xs = r.vars v
set_node r neg xs = in_neg xs
set_node r (form f) xs = look_up r.marks r.entries f xs

-- the set of the type of node n
unfoldable pub set_of : (r : Reading) → Arena → ℕ → Set r.marks
unfolding fold in_members look_up
set_of r = fold (set_node r)
