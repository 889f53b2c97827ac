-- Whether a node has a variable, from its words and a set of those that have one: what the functions answer.
use Rattle.std.specs.Prelude.{ℕ, ◌≡◌, Bool, ◌||◌, List, map, length, get_or}
use Rattle.words.specs.Words.{head_kind}
use Rattle.types.specs.Fault.{children_in}
use Rattle.bits.specs.Bits.{has}
use Rattle.walks.specs.Reach.{some_of}
use Rattle.questions.specs.Vars.{kind_has}

-- has a node a variable, from its words, where f says which children have one?
unfoldable pub words_have : Bool → (ℕ → Bool) → List ℕ → Bool
unfolding some_of head_kind children_in
words_have skip f ws = kind_has skip (head_kind (get_or ws 0 0)) (map f (children_in ws))

-- t is the set s, and n is in it if b says so
pub record Learned (b : Bool) (n : ℕ) (s t : List ℕ) : Type 0 where
  pub long : length t ≡ length s
  pub new : has t n ≡ (b || has s n)
  pub old : (m : ℕ) → (m ≡ n → ⊥) → has t m ≡ has s m
