-- What the functions below a call open to a host answer.
use Rattle.std.specs.Prelude.{ℕ, ◌<◌, ◌≡◌, List, length, Ok, Err}
use Rattle.types.specs.declared.refusal.Refusal.{Refusal}
use Rattle.types.specs.Out.{Out}
use Rattle.types.specs.Arena.{Arena, Ext}
use Rattle.types.specs.Memory.{Holds}
use Rattle.types.specs.Reply.{reply_of, rooted}
use Rattle.types.specs.declared.Counters.{Counters}
use Rattle.node_store.specs.Intern.{left}
use Rattle.recursion.specs.Inner.Work.{Stands}
use Rattle.recursion.specs.Hosted.{Work}

-- an outcome, from memory that held a: finished, it holds what grew from a; refused, a still stands in it
pub data LeadsOnce (table : ℕ) (a : Arena) (w s : List ℕ) : Out (ℕ × Counters) → Out (ℕ × Arena) → Type 0 where
  done : {m : ℕ} {d : Counters} {b : Arena} → Holds table w s d b → Ext a b → m < length b
      → LeadsOnce table a w s (Ok (m, d)) (Ok (m, b))
  stop : {e : Refusal} → Stands w s a → LeadsOnce table a w s (Err e) (Err e)

-- the outcome is that of the work, in any arena that memory held
pub record Works (f : Work) (w s : List ℕ) (c : Counters) (root : ℕ) (w' s' : List ℕ) (r : Out (ℕ × Counters)) : Type 0 where
  pub is : (table : ℕ) (a : Arena) → Holds table w s c a → LeadsOnce table a w' s' r (f (length w) (length s) root a)

-- the reply in a sound arena
pub record WorksLent (f : Work) (w s : List ℕ) (c : Counters) (root : ℕ) (w' s' : List ℕ) (r : Out (ℕ × Counters)) : Type 0 where
  pub is : (table : ℕ) (a : Arena) → Holds table w s c a → left c r w' s' ≡ reply_of w s c (rooted root (f (length w) (length s) root) a)
