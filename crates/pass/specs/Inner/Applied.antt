-- What the functions of the recursion ask and answer.
use Rattle.std.specs.Prelude.{ℕ, ◌<◌, ◌≤◌, ◌≡◌, Bool, true, List, length, get_or, take, Ok, Err}
use Rattle.types.specs.declared.refusal.Refusal.{Refusal}
use Rattle.types.specs.Out.{Out}
use Rattle.types.specs.Node.{Polarity, members, tag, children, below}
use Rattle.types.specs.Arena.{Arena, at, Ext}
use Rattle.types.specs.Memory.{Holds}
use Rattle.types.specs.declared.Counters.{Counters}
use Rattle.node_store.specs.Inner.Stored.{Lent}
use Rattle.recursion.specs.Jobs.{each}
use Rattle.recursion.specs.Inner.Work.{Stands}
use Rattle.simplification.specs.Pass.{no_variable, apply}
use Rattle.rebuilding.specs.Inner.Children.{setting, Agrees}
use Rattle.pass.specs.Inner.Caches.{Caches}

-- an outcome, from memory that held a: finished, it holds what grew from a, and the caches are right there; refused, a still stands in it
pub data Leads (table : ℕ) (a : Arena) (R : ℕ → Bool) (w s dropped kept : List ℕ) : Out (ℕ × Counters) → Out (ℕ × Arena) → Type 0 where
  done : {m : ℕ} {d : Counters} {b : Arena} → Holds table w s d b → Ext a b → m < length b → Caches (length w) (length s) R b dropped kept
      → Leads table a R w s dropped kept (Ok (m, d)) (Ok (m, b))
  stop : {e : Refusal} → Stands w s a → Leads table a R w s dropped kept (Err e) (Err e)

-- memory holds an arena with a node n, the set has the nodes of the variables R below it, and the caches are right
pub record Ready (w s : List ℕ) (c : Counters) (n : ℕ) (removable dropped kept : List ℕ) : Type 0 where
  pub table : ℕ
  pub view : Arena
  pub variables : ℕ → Bool
  pub holds : Holds table w s c view
  pub inside : n < c.nodes
  pub agrees : Agrees removable variables view n
  pub caches : Caches (length w) (length s) variables view dropped kept

-- the outcome is the definition's, for any arena and variables of which that is so
pub record Applies (w s : List ℕ) (c : Counters) (n : ℕ) (removable : List ℕ) (keep : Bool) (dropped kept w' s' dropped' kept' : List ℕ)
    (r : Out (ℕ × Counters)) : Type 0 where
  pub is : (table : ℕ) (a : Arena) (R : ℕ → Bool) → Holds table w s c a → Agrees removable R a n
      → Caches (length w) (length s) R a dropped kept
      → Leads table a R w' s' dropped' kept' r (apply (length w) (length s) a n (setting keep R) a)

-- memory holds an arena with a member list at node n
pub record ListAt (w s : List ℕ) (c : Counters) (n : ℕ) : Type 0 where
  pub lent : Lent w s c
  pub inside : n < c.nodes
  pub side : Polarity
  pub tag_is : tag (at lent.view n) ≡ members side

-- r is its first member
pub record FirstMember (w s : List ℕ) (c : Counters) (n r : ℕ) : Type 0 where
  pub is : (table : ℕ) (a : Arena) → Holds table w s c a → r ≡ get_or (children (at a n)) 0 0

-- the outcome is what the first member of the list n becomes where no variable is removable
pub record AppliesFirst (w s : List ℕ) (c : Counters) (n : ℕ) (removable dropped kept w' s' dropped' kept' : List ℕ) (r : Out (ℕ × Counters)) : Type 0 where
  pub is : (table : ℕ) (a : Arena) (R : ℕ → Bool) → Holds table w s c a → Agrees removable R a n
      → Caches (length w) (length s) R a dropped kept
      → Leads table a R w' s' dropped' kept' r (apply (length w) (length s) a (get_or (children (at a n)) 0 0) no_variable a)

-- the first `count` items are below n
pub record EachReady (w s : List ℕ) (c : Counters) (n : ℕ) (items : List ℕ) (count : ℕ) (removable dropped kept : List ℕ) : Type 0 where
  pub ready : Ready w s c n removable dropped kept
  pub long : length items ≡ 65
  pub few : count ≤ 65
  pub low : below n (take count items) ≡ true

-- an outcome for several nodes: finished, the items are what they became
pub data LeadsEach (table : ℕ) (a : Arena) (R : ℕ → Bool) (w s dropped kept items : List ℕ) (count : ℕ) : Out Counters → Out
    (List ℕ × Arena) → Type 0 where
  went : {d : Counters} {b : Arena} {ms : List ℕ} → Holds table w s d b → Ext a b → Caches (length w) (length s) R b dropped kept
      → length items ≡ 65 → take count items ≡ ms → length ms ≡ count → below (length b) ms ≡ true
      → LeadsEach table a R w s dropped kept items count (Ok d) (Ok (ms, b))
  stop : {e : Refusal} → Stands w s a → LeadsEach table a R w s dropped kept items count (Err e) (Err e)

pub record AppliesEach (w s : List ℕ) (c : Counters) (n : ℕ) (items : List ℕ) (count : ℕ) (removable : List ℕ) (keep : Bool)
    (dropped kept w' s' items' dropped' kept' : List ℕ) (r : Out Counters) : Type 0 where
  pub is : (table : ℕ) (a : Arena) (R : ℕ → Bool) → Holds table w s c a → Agrees removable R a n
      → Caches (length w) (length s) R a dropped kept
      → LeadsEach table a R w' s' dropped' kept' items' count r
      (each (λ (x : ℕ). apply (length w) (length s) a x (setting keep R)) (take count items) a)
