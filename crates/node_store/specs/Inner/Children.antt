-- The children in the words of a node.
use Rattle.std.specs.Prelude.{ℕ, ◌≡◌, List, map}
use Rattle.words.specs.Words.{child}
use Rattle.types.specs.Fault.{children_in}

-- the words b hold the children in a node's words, one each
pub record ChildWords (ws b : List ℕ) : Type 0 where
  pub is : map child b ≡ children_in ws
