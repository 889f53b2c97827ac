-- What is told of calls that change an arena.
use Rattle.std.specs.Prelude.{ℕ, ◌≡◌, List}
use Rattle.types.specs.declared.Counters.{Counters}
use Rattle.simplify.specs.Simplify.{Answer, simplify_reply, Fulfilled}
use Rattle.lang_ty.specs.Told.{told_arena, tell_arena}

-- the reply of `simplify`; and where 0 is answered, demand 3, undivided, from the given root to the returned one
pub record TellsSimplified (t w s : List ℕ) (c : Counters) (root : ℕ) (old : Answer) (r : ℕ) (x : Answer) (d : Counters)
    (w' s' : List ℕ) : Type 0 where
  pub answer : told_arena r x d w' s' ≡ tell_arena old (simplify_reply t w s c root)
  pub fulfilled : r ≡ 0 → Fulfilled w s c root x.root d w' s'
