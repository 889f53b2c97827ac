-- What the functions that write the pieces of a node ask of its words.
use Rattle.std.specs.Prelude.{ℕ, ◌≡◌, true, List}
use Rattle.types.specs.Node.{Node, encode, formed}

-- the words of a node that is formed
pub record IsFormed (ws : List ℕ) : Type 0 where
  pub view : Node
  pub words : ws ≡ encode view
  pub good : formed view ≡ true
