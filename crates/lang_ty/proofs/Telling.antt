-- An answer whose value is told in another way: what a call of `map` gives.
use mathlib.Core.Path.{◌≡◌, ap}
use Rattle.std.specs.Prelude.{Ok, Err, IsOkAnd, MatchResult}
use Rattle.types.specs.Out.{Out, ◌>>=◌}
use Rattle.lang_ty.specs.Told.{told_as}

module _ {A B : Type 0} (g : A → B) where
  pub mapped : (o : Out A) {q : Out B} → MatchResult o (λ x. IsOkAnd q (λ r. r ≡ g x)) (λ e. q ≡ Err e) → q ≡ told_as g o
  unfolding ◌>>=◌
  mapped (Ok x) {q = Ok r} h = ap {B = Out B} Ok h
  mapped (Ok x) {q = Err e} h = absurd h
  mapped (Err e) h = h
