-- What the function that tells an answer promises.
use Rattle.std.specs.Prelude.{ℕ, ◌≡◌, List}
use Rattle.types.specs.Out.{Out}
use Rattle.types.specs.declared.Counters.{Counters}
use Rattle.node_store.specs.Intern.{left}
use Rattle.lang_ty.specs.Told.{told_arena, tell_arena}

-- an answer that stands for a reply is told as that reply, whatever memory it leaves
pub record TellsWorked (c : Counters) (answer : Out (ℕ × Counters)) (old r root : ℕ) (d : Counters) : Type 0 where
  pub is : (w s : List ℕ) → told_arena r root d w s ≡ tell_arena old (left c answer w s)
