-- The worked types of document 01 for `simplify`: what each becomes, and in how many passes.
use Rattle.std.specs.Prelude.{ℕ, zero, suc, ◌+◌, List, [], ◌∷◌, reverse, length, Ok, Err}
use Rattle.types.specs.declared.refusal.Refusal.{Refusal}
use Rattle.types.specs.Out.{Out}
use Rattle.types.specs.Node.{Polarity, positive, negative, primitive, lambda, members, bound, var, form, Node, node}
use Rattle.types.specs.Arena.{at}
use Rattle.types.specs.Places.{opposite}
use Rattle.simplification.specs.Passes.{AfterPasses, simplify}

-- the root's node, and the passes made
pub data Answer : Type 0 where
  answer : Node → ℕ → Answer
  refused : Refusal → Answer

abbrev pub answer_of : Out AfterPasses → Answer
answer_of (Ok q) = answer (at q.arena q.root) (length q.taken)
answer_of (Err e) = refused e

-- what `simplify` gives, with all memory lent, and what it should give
pub record Case : Type 0 where
  pub gives : Answer
  pub says : Answer

-- the nodes from node 0 on, and the root's number
abbrev pub becomes : List Node → ℕ → Node → ℕ → Case
becomes nodes root x n = record { gives = answer_of (simplify 16384 4096 root (reverse nodes)); says = answer x n }

abbrev pub a : Node
a = node (var 0) []

abbrev pub b : Node
b = node (var 1) []

abbrev pub int : Node
int = node (form (primitive 2)) []

abbrev pub never : Node
never = node (bound positive) []

abbrev pub any : Node
any = node (bound negative) []

abbrev pub pair_of : Polarity → ℕ → ℕ → Node
pair_of k m n = node (members k) (m ∷ n ∷ [])

abbrev pub U : ℕ → ℕ → Node
U = pair_of positive

abbrev pub I : ℕ → ℕ → Node
I = pair_of negative

abbrev pub F : ℕ → ℕ → Node
F m n = node (form lambda) (m ∷ n ∷ [])

-- n steps of the ladder, the first of the kind k, from the pair m, m + 1
abbrev pub steps : Polarity → ℕ → ℕ → List Node
steps k m zero = []
steps k m (suc n) = pair_of k m (1 + m) ∷ pair_of k (1 + m) m ∷ steps (opposite k) (2 + m) n

-- the first of its last pair is node 2n
abbrev pub ladder : ℕ → List Node
ladder n = a ∷ b ∷ steps positive 0 n

-- (01, "Worked types"). It gives the passes of one type only; two is the least there can be, since a second pass always follows the first
abbrev pub worked : List Case
worked =
    becomes (a ∷ int ∷ U 0 1 ∷ []) 2 int 2
    ∷ becomes (a ∷ int ∷ U 0 1 ∷ F 0 2 ∷ []) 3 (F 0 2) 2
    ∷ becomes (a ∷ b ∷ U 0 1 ∷ []) 2 a 2
    ∷ becomes (a ∷ never ∷ U 0 1 ∷ []) 2 a 2
    ∷ becomes (never ∷ a ∷ U 0 1 ∷ []) 2 never 2
    ∷ becomes (int ∷ any ∷ a ∷ I 1 2 ∷ U 0 3 ∷ []) 4 any 2
    ∷ becomes (a ∷ b ∷ int ∷ U 0 1 ∷ I 3 2 ∷ []) 4 int 3
    ∷ becomes (ladder 6) 12 a 6
    ∷ becomes (ladder 7) 14 (U 0 1) 6
    ∷ []
