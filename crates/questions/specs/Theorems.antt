-- What is shown of these definitions beyond the contracts. A statement with parameters holds for all of them.
use Rattle.std.specs.Prelude.{ℕ, ◌<◌, ◌≡◌, Bool, true, false, List, length, Ok}
use Rattle.types.specs.Node.{Polarity}
use Rattle.types.specs.Arena.{Arena, at, sound}
use Rattle.types.specs.Places.{Place}
use Rattle.node_reading.specs.Nodes.{is_var}
use Rattle.questions.specs.Vars.{has_var, Walk}
use Rattle.types.specs.declared.Counters.{Counters}
use Rattle.walks.specs.Asked.{ask_reply}
use Rattle.questions.specs.Named.{unwrap_named}

-- a variable to which a path leads from node n, past what is passed over
pub record Var (skip : Bool) (a : Arena) (n : ℕ) : Type 0 where
  pub node : ℕ
  pub path : Walk skip a n node
  pub var : is_var (at a node) ≡ true

-- where a question about variables answers yes there is one (01, "arena")
abbrev pub VarWalk : Type 0
VarWalk = (skip : Bool) (table : ℕ) (a : Arena) → sound table a ≡ true → (n : ℕ) → n < length a → has_var skip a n ≡ true → Var skip a n

-- and where there is one it answers yes
abbrev pub WalkVar : Bool → ℕ → Arena → ℕ → ℕ → Type 0
WalkVar skip table a n u =
    sound table a ≡ true → Walk skip a n u → n < length a → is_var (at a u) ≡ true → has_var skip a n ≡ true

-- where nothing is passed over such a path leads to a place, from either sign
abbrev pub WalkPlace : Arena → ℕ → ℕ → Type 0
WalkPlace a n u = Walk false a n u → (s : Polarity) → (p : Polarity) × Place a n s u p

-- and to every place
abbrev pub PlaceWalk : Arena → ℕ → ℕ → Polarity → Polarity → Type 0
PlaceWalk a n u s p = Place a n s u p → Walk false a n u

-- what a root stands for is a node of its arena, and what `unwrap_named` answers one of the lent nodes (01, "arena")
pub record UnwrapsToNode : Type 0 where
  pub stands : (a : Arena) (root : ℕ) → root < length a → unwrap_named a root < length a
  pub answers : (t w s : List ℕ) (c : Counters) (root n : ℕ) → ask_reply unwrap_named t w s c root ≡ Ok n → n < c.nodes
