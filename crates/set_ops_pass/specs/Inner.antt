-- What the functions of the recursion ask and answer, besides what every recursion does (`Inner.Work` in `recursion`).
use Rattle.std.specs.Prelude.{ℕ, ◌<◌, ◌≡◌, List, length, get_or}
use Rattle.std.proofs.Math.Option.{none}
use Rattle.types.specs.Kind.{disc}
use Rattle.types.specs.Node.{Polarity, members, tag, kind, children}
use Rattle.types.specs.Arena.{Arena, at}
use Rattle.types.specs.Memory.{Holds}
use Rattle.types.specs.declared.Counters.{Counters}
use Rattle.node_store.specs.Inner.Stored.{InRange}
use Rattle.recursion.specs.Inner.Work.{Ready, Grown}
use Rattle.simplification.specs.Pass.{list_kind}
use Rattle.set_op_lists.specs.SetOps.{normalize}

-- node n is a member list of the kind with this number
pub record ListReady (w s : List ℕ) (c : Counters) (n number : ℕ) (entries : List ℕ) : Type 0 where
  pub ready : Ready normalize Grown w s c n entries
  pub side : Polarity
  pub tag_is : tag (at ready.view n) ≡ members side
  pub kind_is : number ≡ disc (kind (members side))

-- node n is no member list
pub record OtherReady (w s : List ℕ) (c : Counters) (n : ℕ) (entries : List ℕ) : Type 0 where
  pub ready : Ready normalize Grown w s c n entries
  pub other : list_kind (tag (at ready.view n)) ≡ none

-- r is how many children node n has
pub record MemberCount (w s : List ℕ) (c : Counters) (n r : ℕ) : Type 0 where
  pub is : (table : ℕ) (a : Arena) → Holds table w s c a → r ≡ length (children (at a n))

-- memory holds an arena with a node n that has a child i
pub record MemberThere (w s : List ℕ) (c : Counters) (n i : ℕ) : Type 0 where
  pub range : InRange w s c n
  pub inside : i < length (children (at range.lent.view n))

-- r is that child
pub record MemberAt (w s : List ℕ) (c : Counters) (n i r : ℕ) : Type 0 where
  pub is : (table : ℕ) (a : Arena) → Holds table w s c a → r ≡ get_or (children (at a n)) i 0
