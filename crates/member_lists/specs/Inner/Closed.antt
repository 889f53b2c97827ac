-- What becomes of a member list, from its members as simplified: what the function asks and answers.
use Rattle.std.specs.Prelude as std
use Rattle.std.specs.Prelude.{ℕ, ◌≡◌, true, List, length, take, Some, None}
use Rattle.types.specs.Out.{Out}
use Rattle.types.specs.Kind.{disc}
use Rattle.types.specs.Node.{Polarity, members, kind, below}
use Rattle.types.specs.Arena.{Arena}
use Rattle.types.specs.Memory.{Holds}
use Rattle.types.specs.Reply.{reply_of}
use Rattle.types.specs.declared.Counters.{Counters}
use Rattle.node_store.specs.Inner.Stored.{Lent}
use Rattle.node_store.specs.Intern.{left}
use Rattle.node_filter.specs.Inner.Filter.{CoversLent, CoversAfter}
use Rattle.recursion.specs.Jobs.{Job}
use Rattle.simplification.specs.Pass.{gather}

-- memory holds an arena; the kind is that of a member list; the first `count` items are numbers of nodes
pub record Closing (w s : List ℕ) (c : Counters) (kind_number : ℕ) (items : List ℕ) (count : ℕ) : Type 0 where
  pub lent : Lent w s c
  pub side : Polarity
  pub kind_is : kind_number ≡ disc (kind (members side))
  pub long : length items ≡ 65
  pub low : below c.nodes (take count items) ≡ true

-- o is what becomes of the list, and f what its first member does where nothing is left
pub data ClosesTo (w s : List ℕ) (c : Counters) (w' s' : List ℕ) : std.Option (Out (ℕ × Counters)) → Out (ℕ × Arena) → Out (ℕ × Arena) → Type 0 where
  done : {r : Out (ℕ × Counters)} {o f : Out (ℕ × Arena)} → left c r w' s' ≡ reply_of w s c o → ClosesTo w s c w' s' (Some r) o f
  emptied : {o f : Out (ℕ × Arena)} → o ≡ f → w' ≡ w → s' ≡ s → ClosesTo w s c w' s' None o f

pub record Closes (w s : List ℕ) (c : Counters) (kind_number : ℕ) (items : List ℕ) (count : ℕ) (w' s' : List ℕ) (r : std.Option (Out (ℕ × Counters))) : Type 0 where
  pub is : (table : ℕ) (a : Arena) (k : Polarity) (first : Job) → Holds table w s c a → kind_number ≡ disc (kind (members k))
      → ClosesTo w s c w' s' r (gather (length w) (length s) k first (take count items) a) (first a)

-- the bits of every node are set then, unless the list was refused; where nothing is left of it the counters are as they were
pub record CoversClosed (w s : List ℕ) (c : Counters) (r : std.Option (Out (ℕ × Counters))) (filter : List ℕ) : Type 0 where
  pub after : (i : Out (ℕ × Counters)) → r ≡ Some i → CoversAfter w s i filter
  pub empty : r ≡ None → CoversLent w s c filter
