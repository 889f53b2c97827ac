-- What the functions below the call ask and answer.
use Rattle.std.specs.Prelude.{ℕ, ◌+◌, ◌<◌, ◌≤◌, ◌≡◌, List, length, Ok, Err}
use Rattle.types.specs.declared.refusal.Refusal.{Refusal}
use Rattle.types.specs.Out.{Out}
use Rattle.types.specs.Arena.{Arena, Ext}
use Rattle.types.specs.Memory.{Holds}
use Rattle.types.specs.Reply.{reply_of, rooted}
use Rattle.types.specs.declared.Counters.{Counters}
use Rattle.node_store.specs.Inner.Stored.{InRange}
use Rattle.simplification.specs.Passes.{AfterPasses, passes, simplify}
use Rattle.recursion.specs.Inner.Work.{Stands}
use Rattle.simplify.specs.declared.Simplified.{Simplified}
use Rattle.simplify.specs.Simplify.{answered, left, Fulfilled}

-- an outcome of the passes, from memory that held a, with so many passes before
pub data LeadsTo (table : ℕ) (a : Arena) (made : ℕ) (w s : List ℕ) : Out Simplified → Out AfterPasses → Type 0 where
  done : {q : AfterPasses} {k : ℕ} {d : Counters} → Holds table w s d q.arena → Ext a q.arena → q.root < length q.arena
      → k ≡ made + length q.taken → LeadsTo table a made w s (Ok (record { root = q.root; passes = k; counters = d })) (Ok q)
  stop : {e : Refusal} → Stands w s a → LeadsTo table a made w s (Err e) (Err e)

-- the root is there, and the passes can be counted
pub record PassRoom (w s : List ℕ) (c : Counters) (root most made : ℕ) : Type 0 where
  pub range : InRange w s c root
  pub few : most + made ≤ 4096

pub record MorePasses (w s : List ℕ) (c : Counters) (root most made : ℕ) (w' s' : List ℕ) (r : Out Simplified) : Type 0 where
  pub is : (table : ℕ) (a : Arena) → Holds table w s c a → LeadsTo table a made w' s' r (passes (length w) (length s) most root a)

pub record Simplifies (w s : List ℕ) (c : Counters) (root : ℕ) (w' s' : List ℕ) (r : Out Simplified) : Type 0 where
  pub is : (table : ℕ) (a : Arena) → Holds table w s c a → LeadsTo table a 0 w' s' r (simplify (length w) (length s) root a)

-- the reply in a sound arena, and the promise where it is finished
pub record SimplifiesLent (w s : List ℕ) (c : Counters) (root : ℕ) (w' s' : List ℕ) (r : Out Simplified) : Type 0 where
  pub is : (table : ℕ) (a : Arena) → Holds table w s c a
      → left c r w' s' ≡ reply_of w s c (rooted root (λ (b : Arena). answered (simplify (length w) (length s) root b)) a)
  pub fulfilled : (q : Simplified) → r ≡ Ok q → Fulfilled w s c root q.root q.counters w' s'
