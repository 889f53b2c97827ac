-- A recursion at work in lent memory: what its functions ask and answer.
use Rattle.std.specs.Prelude.{ℕ, ◌-◌, ◌<◌, ◌≤◌, ◌≡◌, true, List, ◌++◌, length, take, replicate, Ok, Err}
use Rattle.types.specs.declared.refusal.Refusal.{Refusal}
use Rattle.types.specs.Out.{Out}
use Rattle.types.specs.Node.{below}
use Rattle.types.specs.Arena.{Arena, Ext}
use Rattle.types.specs.Memory.{flat, heads, Holds}
use Rattle.types.specs.declared.Counters.{Counters}
use Rattle.node_filter.specs.Inner.Filter.{CoversLent}
use Rattle.recursion.specs.Jobs.{Job, each}
use Rattle.recursion.specs.Inner.Cache.{Cache}

-- what is done with each node of a source, in so many lent words and starts
abbrev pub Recursion : Type 0
Recursion = ℕ → ℕ → Arena → ℕ → Job

-- how the source stands to the arena at work, under a table of so many names
abbrev pub Relation : Type 1
Relation = ℕ → Arena → Arena → Type 0

-- work in place: the arena grew from the source
abbrev pub Grown : Relation
Grown table u a = Ext u a

-- what stood in memory still stands, whatever follows it
pub record Stands (w s : List ℕ) (a : Arena) : Type 0 where
  pub words : take (length (flat a)) w ≡ flat a
  pub starts : take (length a) s ≡ heads a

-- an outcome, from memory that held a: finished, it holds what grew from a, and the cache is right there; refused, a still stands in it
pub data Leads (table : ℕ) (a : Arena) (f : ℕ → Job) (count : ℕ) (w s entries : List ℕ) : Out (ℕ × Counters) → Out (ℕ × Arena) → Type 0 where
  done : {m : ℕ} {d : Counters} {b : Arena} → Holds table w s d b → Ext a b → m < length b → Cache f count b entries
      → Leads table a f count w s entries (Ok (m, d)) (Ok (m, b))
  stop : {e : Refusal} → Stands w s a → Leads table a f count w s entries (Err e) (Err e)

-- memory holds an arena, a source with a node n stands to it as B says, and the cache is right
pub record Ready (F : Recursion) (B : Relation) (w s : List ℕ) (c : Counters) (n : ℕ) (entries : List ℕ) : Type 0 where
  pub table : ℕ
  pub source : Arena
  pub view : Arena
  pub holds : Holds table w s c view
  pub beside : B table source view
  pub inside : n < length source
  pub cache : Cache (F (length w) (length s) source) (length source) view entries

-- the outcome is the definition's, for any source and arena of which that is so
pub record Does (F : Recursion) (B : Relation) (w s : List ℕ) (c : Counters) (n : ℕ) (entries w' s' entries' : List ℕ)
    (r : Out (ℕ × Counters)) : Type 0 where
  pub is : (table : ℕ) (u a : Arena) → Holds table w s c a → B table u a → n < length u
      → Cache (F (length w) (length s) u) (length u) a entries
      → Leads table a (F (length w) (length s) u) (length u) w' s' entries' r (F (length w) (length s) u n a)

-- the first `count` items are below n
pub record EachReady (F : Recursion) (B : Relation) (w s : List ℕ) (c : Counters) (n : ℕ) (items : List ℕ) (count : ℕ)
    (entries : List ℕ) : Type 0 where
  pub ready : Ready F B w s c n entries
  pub long : length items ≡ 65
  pub few : count ≤ 65
  pub low : below n (take count items) ≡ true

-- an outcome for several nodes: finished, the items are what they became
pub data LeadsEach (table : ℕ) (a : Arena) (f : ℕ → Job) (size : ℕ) (w s entries items : List ℕ) (count : ℕ) : Out Counters → Out
    (List ℕ × Arena) → Type 0 where
  went : {d : Counters} {b : Arena} {ms : List ℕ} → Holds table w s d b → Ext a b → Cache f size b entries → length items ≡ 65
      → take count items ≡ ms → length ms ≡ count → below (length b) ms ≡ true
      → LeadsEach table a f size w s entries items count (Ok d) (Ok (ms, b))
  stop : {e : Refusal} → Stands w s a → LeadsEach table a f size w s entries items count (Err e) (Err e)

pub record DoesEach (F : Recursion) (B : Relation) (w s : List ℕ) (c : Counters) (n : ℕ) (items : List ℕ) (count : ℕ)
    (entries w' s' items' entries' : List ℕ) (r : Out Counters) : Type 0 where
  pub is : (table : ℕ) (u a : Arena) → Holds table w s c a → B table u a → n < length u
      → Cache (F (length w) (length s) u) (length u) a entries
      → LeadsEach table a (F (length w) (length s) u) (length u) w' s' entries' items' count r
      (each (F (length w) (length s) u) (take count items) a)

-- the bits of every node that memory holds after a run are set in the filter, unless that was refused
pub record CoversRun (w s : List ℕ) (r : Out Counters) (filter : List ℕ) : Type 0 where
  pub is : (d : Counters) → r ≡ Ok d → CoversLent w s d filter

-- the words before the place stay, and the others are zero
pub record TakesBack (w : List ℕ) (from : ℕ) (w' : List ℕ) : Type 0 where
  pub is : w' ≡ take from w ++ replicate (length w - from) 0

-- the words and starts of the counted nodes stay, and the others are zero
pub record TakesBackNodes (w s : List ℕ) (c : Counters) (w' s' : List ℕ) : Type 0 where
  pub words : TakesBack w c.words w'
  pub starts : TakesBack s c.nodes s'
