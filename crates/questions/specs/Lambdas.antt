-- Do two lambdas of a type take the same variable? (01, "arena": each lambda node counts once)
use Rattle.std.specs.Prelude.{ℕ, zero, suc, Bool, false, ◌&&◌, ◌||◌, length, get_or}
use Rattle.types.specs.Same.{same}
use Rattle.types.specs.Kind as kinds
use Rattle.types.specs.Node.{children, node_dec}
use Rattle.types.specs.Arena.{Arena, at}
use Rattle.walks.specs.Reach.{reaches}
use Rattle.node_reading.specs.Nodes.{of_kind, is_var}

-- the number of what the lambda n takes: its first child
abbrev pub param_of : Arena → ℕ → ℕ
param_of a n = get_or (children (at a n)) 0 0

-- is node n a lambda that takes a variable?
abbrev pub takes_var : Arena → ℕ → Bool
takes_var a n = of_kind kinds.lambda (at a n) && is_var (at a (param_of a n))

-- do both nodes take a variable, and the same?
unfoldable pub same_var : Arena → ℕ → ℕ → Bool
unfolding same node_dec at
same_var a m n = (takes_var a m && takes_var a n) && same node_dec (at a (param_of a m)) (at a (param_of a n))

-- does a number below n pass?
unfoldable pub some_below : (ℕ → Bool) → ℕ → Bool
some_below f zero = false
some_below f (suc n) = f n || some_below f n

-- two different nodes in the set take the same variable
unfoldable pub shared_in : (ℕ → Bool) → Arena → Bool
unfolding some_below same_var
shared_in f a = some_below (λ (n : ℕ). some_below (λ (m : ℕ). (f m && f n) && same_var a m n) n) (length a)

-- two different nodes with a place in the type of the root do
unfoldable pub has_shared_tyvar_across_lambda_params : Arena → ℕ → Bool
unfolding shared_in reaches
has_shared_tyvar_across_lambda_params a root = shared_in (reaches a root) a
