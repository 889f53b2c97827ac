-- The shared order of refusals, case by case.
use Prim.Native.Nat.{ℕ, ◌<◌, ◌≤◌}
use mathlib.Core.Path.{◌≡◌}
use mathlib.Core.List.{List}
use mathlib.Core.Option.{Option, none, some}
use lib.ListN.{length}
use borrow.Author.Tests.{lt-ltb, le-ltb}
use Rattle.std.specs.Prelude.{Err}
use Rattle.types.specs.declared.refusal.Refusal.TheVariants as refusal
use Rattle.types.specs.Out.{Out, required}
use Rattle.types.specs.Arena.{Arena}
use Rattle.types.specs.Memory.{Holds}
use Rattle.types.specs.Reply.{tabled, judged, rooted}
use Rattle.types.specs.declared.Counters.{Counters}
use Rattle.types.proofs.Memories.{arena_of_holds, unsound}

module _ {A N : Type 0} (f : N → Out A) where
  pub tabled_no : (o : Option N) → o ≡ none → tabled o f ≡ Err refusal.BadTable
  unfolding tabled
  tabled_no o e = rw (e, required)

  pub tabled_yes : (o : Option N) (n : N) → o ≡ some n → tabled o f ≡ f n
  unfolding tabled
  tabled_yes o n e = rw (e, required)

module _ {A : Type 0} (table : ℕ) (w s : List ℕ) (c : Counters) (f : Arena → Out A) where
  pub judged_no : ((a : Arena) → Holds table w s c a → ⊥) → judged table w s c f ≡ Err refusal.UnsoundArena
  unfolding judged
  judged_no h = rw (unsound h)

  pub judged_yes : (a : Arena) → Holds table w s c a → judged table w s c f ≡ f a
  unfolding judged
  judged_yes a h = rw (arena_of_holds h)

module _ {A : Type 0} (root : ℕ) (f : Arena → Out A) (a : Arena) where
  pub rooted_no : length a ≤ root → rooted root f a ≡ Err refusal.NoSuchRoot
  unfolding rooted
  rooted_no h = rw (rooted, le-ltb root (length a) h)

  pub rooted_yes : root < length a → rooted root f a ≡ f a
  unfolding rooted
  rooted_yes h = rw (rooted, lt-ltb root (length a) h)
