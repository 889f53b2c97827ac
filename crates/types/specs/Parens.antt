-- Which kinds of node are printed in parentheses inside another (document 002): each place has those of the one before, and one more.
use Rattle.std.specs.Prelude.{ℕ, Bool, ◌||◌, eqb}
use Rattle.types.specs.Kind.{disc, lambda, union, intersection}

-- a lambda as a member of a union
unfoldable pub parens_in_union_member : ℕ → Bool
parens_in_union_member k = eqb k (disc lambda)

-- a union too as a member of an intersection
unfoldable pub parens_in_intersection_member : ℕ → Bool
unfolding parens_in_union_member
parens_in_intersection_member k = parens_in_union_member k || eqb k (disc union)

-- an intersection too as a lambda's param
unfoldable pub parens_in_lambda_param : ℕ → Bool
unfolding parens_in_intersection_member
parens_in_lambda_param k = parens_in_intersection_member k || eqb k (disc intersection)

-- the same kinds under `~`
unfoldable pub parens_in_neg : ℕ → Bool
unfolding parens_in_lambda_param
parens_in_neg k = parens_in_lambda_param k
