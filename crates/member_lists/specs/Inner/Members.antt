-- A member list as it grows and as it is closed (01, "simplify" and "Forms of the Rust that can't be kept"): what the functions ask and
-- answer. `number` is that of the kind of list.
use Rattle.std.specs.Prelude as std
use Rattle.std.specs.Prelude.{ℕ, ◌+◌, ◌≤◌, ◌<◌, ◌≡◌, true, false, ◌||◌, length, take, eqb, Ok, Err, Some, None}
use mathlib.Core.List.{List, ◌∷◌, flat_map, Memᴰ as Mem}
use Rattle.types.specs.Out.{Out, ◌>>=◌}
use Rattle.types.specs.Kind.{disc}
use Rattle.types.specs.Node.{Polarity, members, bound, node, tag, kind, below}
use Rattle.types.specs.Arena.{Arena, at}
use Rattle.types.specs.Places.{opposite}
use Rattle.types.specs.Memory.{Holds}
use Rattle.types.specs.Reply.{reply_of}
use Rattle.types.specs.declared.Counters.{Counters}
use Rattle.node_store.specs.Inner.Stored.{Lent, InRange}
use Rattle.node_store.specs.Intern.{intern, left}
use Rattle.bits.specs.Bits.{has, count_below}
use Rattle.recursion.specs.Jobs.{Job}
use Rattle.simplification.specs.Pass.{one_of, is_decided, splice, first_copies, member_list, close}
use Rattle.member_lists.specs.Inner.Closed.{ClosesTo}

-- ---- the bounds of a kind of list
-- r is the kind of its neutral element
pub record NeutralOf (number r : ℕ) : Type 0 where
  pub is : (k : Polarity) → number ≡ disc (kind (members k)) → r ≡ disc (kind (bound k))

-- r is the kind of the bound that decides it
pub record DecidingOf (number r : ℕ) : Type 0 where
  pub is : (k : Polarity) → number ≡ disc (kind (members k)) → r ≡ disc (kind (bound (opposite k)))

-- ---- a list that grows
-- 64 items, of which the first `count` are the list
pub record Room (items : List ℕ) (count : ℕ) : Type 0 where
  pub long : length items ≡ 64
  pub few : count ≤ 64

-- the bits set are exactly those of the members of the list, and as many as the list is long, of any number of nodes that they are below
-- (02, A6)
pub record BitsOf (list met : List ℕ) : Type 0 where
  pub long : length met ≡ 64
  pub exactly : (m : ℕ) → has met m ≡ one_of (eqb m) list
  pub many : (nodes : ℕ) → below nodes list ≡ true → count_below (has met) nodes ≡ length list

-- a list of the first `count` items, and the bits of its members
pub record Growing (items : List ℕ) (count : ℕ) (met : List ℕ) : Type 0 where
  pub room : Room items count
  pub bits : BitsOf (take count items) met

-- and a number that has a bit
pub record Adding (items : List ℕ) (count : ℕ) (met : List ℕ) (n : ℕ) : Type 0 where
  pub growing : Growing items count met
  pub inside : n < 4096

-- the list is as long as the answer says
abbrev pub grown_out : List ℕ → Out ℕ → Out (List ℕ)
grown_out items (Ok n) = Ok (take n items)
grown_out items (Err e) = Err e

-- the list after what is new was appended to it, each number unless it was there; the bits set are then those that were and those of all
-- that is new, whether it was appended or was there
pub record Grows (items : List ℕ) (count : ℕ) (met new items' met' : List ℕ) (r : Out ℕ) : Type 0 where
  pub growing : (n : ℕ) → r ≡ Ok n → Growing items' n met'
  pub bits : (n : ℕ) → r ≡ Ok n → (m : ℕ) → has met' m ≡ (has met m || one_of (eqb m) new)
  pub is : grown_out items' r ≡ first_copies (take count items) new

-- memory holds an arena with a node n, which is to go to the list
pub record Splicing (w s : List ℕ) (c : Counters) (n : ℕ) (items : List ℕ) (count : ℕ) (met : List ℕ) : Type 0 where
  pub range : InRange w s c n
  pub growing : Growing items count met

-- memory holds an arena, whose nodes the members are; the kind is that of a member list
pub record Gathering (w s : List ℕ) (c : Counters) (number : ℕ) (ms : List ℕ) : Type 0 where
  pub lent : Lent w s c
  pub side : Polarity
  pub kind_is : number ≡ disc (kind (members side))
  pub low : below c.nodes ms ≡ true

-- and there are 64 items for the list, and no bit is set yet
pub record Flattening (w s : List ℕ) (c : Counters) (number : ℕ) (ms items met : List ℕ) : Type 0 where
  pub gathering : Gathering w s c number ms
  pub growing : Growing items 0 met

-- what the members bring was appended
pub record Flattens (w s : List ℕ) (c : Counters) (number : ℕ) (ms items : List ℕ) (count : ℕ) (met items' met' : List ℕ)
    (r : Out ℕ) : Type 0 where
  pub is : (table : ℕ) (a : Arena) (k : Polarity) → Holds table w s c a → number ≡ disc (kind (members k))
      → Grows items count met (flat_map (λ (m : ℕ). splice k m (at a m)) ms) items' met' r

-- ---- a list that is closed
-- r is a member that decides the list, or says that there is none
pub record Decides (w s : List ℕ) (c : Counters) (number : ℕ) (ms : List ℕ) (r : std.Option ℕ) : Type 0 where
  pub by : (n : ℕ) → r ≡ Some n → (table : ℕ) (a : Arena) (k : Polarity) → Holds table w s c a → number ≡ disc (kind (members k))
      → Mem n ms × (tag (at a n) ≡ bound (opposite k))
  pub not : r ≡ None → (table : ℕ) (a : Arena) (k : Polarity) → Holds table w s c a → number ≡ disc (kind (members k))
      → is_decided k a ms ≡ false

-- r begins with the words of a node: its head, then the list
pub record NodeWords (head : ℕ) (items : List ℕ) (count : ℕ) (r : List ℕ) : Type 0 where
  pub is : take (count + 1) r ≡ head ∷ take count items
  pub long : length r ≡ 65

-- memory holds an arena, whose nodes the first `count` items are; the kind is that of a member list
pub record Listing (w s : List ℕ) (c : Counters) (number : ℕ) (items : List ℕ) (count : ℕ) : Type 0 where
  pub gathering : Gathering w s c number (take count items)
  pub room : Room items count

-- and the list has a member
pub record Filled (w s : List ℕ) (c : Counters) (number : ℕ) (items : List ℕ) (count : ℕ) : Type 0 where
  pub listing : Listing w s c number items count
  pub some : 0 < count

-- the answer, and memory after, are those of interning the list
pub record InternsList (w s : List ℕ) (c : Counters) (number : ℕ) (items : List ℕ) (count : ℕ) (w' s' : List ℕ)
    (r : Out (ℕ × Counters)) : Type 0 where
  pub is : (table : ℕ) (a : Arena) (k : Polarity) → Holds table w s c a → number ≡ disc (kind (members k))
      → left c r w' s' ≡ reply_of w s c (intern (length w) (length s) (node (members k) (take count items)) a)

-- the answer, and memory after, are those of what stands for the list
pub record Finishes (w s : List ℕ) (c : Counters) (number : ℕ) (items : List ℕ) (count : ℕ) (w' s' : List ℕ) (r : std.Option (Out (ℕ × Counters))) : Type 0 where
  pub is : (table : ℕ) (a : Arena) (k : Polarity) (first : Job) → Holds table w s c a → number ≡ disc (kind (members k))
      → ClosesTo w s c w' s' r (close (length w) (length s) k first (take count items) a) (first a)

-- the answer, and memory after, are those of what stands for the list that the members make
pub record ClosesOpen (w s : List ℕ) (c : Counters) (number : ℕ) (ms w' s' : List ℕ) (r : std.Option (Out (ℕ × Counters))) : Type 0 where
  pub is : (table : ℕ) (a : Arena) (k : Polarity) (first : Job) → Holds table w s c a → number ≡ disc (kind (members k))
      → ClosesTo w s c w' s' r (member_list k a ms >>= λ (l : List ℕ). close (length w) (length s) k first l a) (first a)
