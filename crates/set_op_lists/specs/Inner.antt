-- What the functions for a member list ask and answer. `number` is that of the kind of list.
use Rattle.std.specs.Prelude.{ℕ, ◌≡◌, List, length, take, Ok, Err}
use Rattle.types.specs.declared.refusal.Refusal.{Refusal}
use Rattle.types.specs.Out.{Out}
use Rattle.types.specs.Kind.{disc}
use Rattle.types.specs.Node.{Polarity, members, kind}
use Rattle.types.specs.Arena.{Arena, at}
use Rattle.types.specs.Memory.{Holds}
use Rattle.types.specs.Reply.{reply_of}
use Rattle.types.specs.declared.Counters.{Counters}
use Rattle.node_store.specs.Inner.Stored.{InRange}
use Rattle.node_store.specs.Intern.{left}
use Rattle.simplification.specs.Pass.{first_copies}
use Rattle.member_lists.specs.Inner.Members.{Growing, Grows}
use Rattle.member_sorting.specs.Sort.{sort}
use Rattle.set_op_lists.specs.SetOps.{brings, stand_for}

-- what the node m brings was appended
pub record Appends (w s : List ℕ) (c : Counters) (number m : ℕ) (items : List ℕ) (count : ℕ) (met items' met' : List ℕ)
    (r : Out ℕ) : Type 0 where
  pub is : (table : ℕ) (a : Arena) (k : Polarity) → Holds table w s c a → number ≡ disc (kind (members k))
      → Grows items count met (brings k m (at a m)) items' met' r

-- a member's outcome, and room for what it brings to a list: if it is a node, memory holds an arena with that node
pub record Bringing (w s : List ℕ) (r : Out (ℕ × Counters)) (number : ℕ) (items : List ℕ) (count : ℕ) (met : List ℕ) : Type 0 where
  pub side : Polarity
  pub kind_is : number ≡ disc (kind (members side))
  pub range : (m : ℕ) (d : Counters) → r ≡ Ok (m, d) → InRange w s d m
  pub growing : Growing items count met

-- the enum's cases: the list is as long as it says
abbrev pub brought_out : List ℕ → Out (ℕ × Counters) → Out (List ℕ)
brought_out items (Ok (n, d)) = Ok (take n items)
brought_out items (Err e) = Err e

-- what the node m brings was appended, and the counters are as after it
pub record BringsNode (w s : List ℕ) (c : Counters) (number m : ℕ) (items : List ℕ) (count : ℕ) (items' met' : List ℕ)
    (b : Out (ℕ × Counters)) : Type 0 where
  pub growing : (n : ℕ) (d : Counters) → b ≡ Ok (n, d) → Growing items' n met'
  pub counters : (n : ℕ) (d : Counters) → b ≡ Ok (n, d) → c ≡ d
  pub is : (table : ℕ) (a : Arena) (k : Polarity) → Holds table w s c a → number ≡ disc (kind (members k))
      → brought_out items' b ≡ first_copies (take count items) (brings k m (at a m))

-- a refusal is passed on, a node brings what it has
pub record Brings (w s : List ℕ) (r : Out (ℕ × Counters)) (number : ℕ) (items : List ℕ) (count : ℕ) (items' met' : List ℕ)
    (b : Out (ℕ × Counters)) : Type 0 where
  pub refused : (e : Refusal) → r ≡ Err e → b ≡ Err e
  pub node : (m : ℕ) (d : Counters) → r ≡ Ok (m, d) → BringsNode w s d number m items count items' met' b

-- the answer, and memory after, are those of what stands for the sorted list
pub record StandsFor (w s : List ℕ) (c : Counters) (number : ℕ) (items : List ℕ) (count : ℕ) (w' s' : List ℕ) (r : Out (ℕ × Counters)) : Type 0 where
  pub is : (table : ℕ) (a : Arena) (k : Polarity) → Holds table w s c a → number ≡ disc (kind (members k))
      → left c r w' s' ≡ reply_of w s c (stand_for (length w) (length s) k (sort a (take count items)) a)
