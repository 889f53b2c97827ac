-- A node with other children is interned, and one with its own is there already.
use Prim.Native.Nat.{ℕ, ◌+◌, ◌<◌, ◌≤◌}
use mathlib.Core.Path.{◌≡◌, refl, sym, ap, ◌∙◌, subst}
use mathlib.Core.Bool.{Bool, true, false}
use mathlib.Core.List.{List, [], map}
use native.Mathlib.Omega.{arith}
use native.Mathlib.Decide.{dec_lt}
use lib.ListN.{length, take, replicate, length-replicate}
use lib.Seq.{length-take-le}
use mir.Syntax.{w64}
use mir.Val.{Fits}
use Rattle.std.specs.Prelude.{Ok}
use Rattle.words.specs.Words.{child}
use Rattle.types.specs.Out.{Out}
use Rattle.types.specs.Same.{same_numbers}
use Rattle.types.specs.Node.{Node, node, tag, children, encode, below, well, IsNode}
use Rattle.types.specs.Arena.{Arena, at}
use Rattle.types.specs.Fault.{children_in}
use Rattle.types.specs.Memory.{Holds}
use Rattle.types.specs.Reply.{reply_of}
use Rattle.types.specs.declared.Counters.{Counters}
use Rattle.types.proofs.Tests.{true_false, numbers_true, numbers_if}
use Rattle.types.proofs.Lists.{below_more}
use Rattle.types.proofs.Nodes.{nil}
use Rattle.types.proofs.Sound.{at_well}
use Rattle.types.proofs.Addresses.{start_room}
use Rattle.node_store.specs.Inner.Stored.{InRange, NodeAt}
use Rattle.node_store.specs.Inner.Added.{Fresh, Interns}
use Rattle.node_store.proofs.Additions.{finished}
use Rattle.recursion.proofs.Interning.{node_is, well_again, intern_there}
use Rattle.node_store.specs.Inner.Children.{ChildWords}
use Rattle.node_store.proofs.Offspring as offspring
use Rattle.rebuilding.specs.Inner.Rebuilt.{AsMany, OneEach, Exchanging, Exchanged, Rebuilding, Rebuilds}
use Rattle.rebuilding.proofs.Copying.{children_read}
use Rattle.rebuilding.proofs.Exchanging.{length_given}
use Rattle.rebuilding.proofs.Given.{given_many, given_count, given_words}

module _ {w s : List ℕ} {c : Counters} {n : ℕ} {items : List ℕ} {count : ℕ} (B : Rebuilding w s c n items count) {i : ℕ} (e : i ≡ n) {ws : List ℕ} (M : NodeAt w s c i ws) where
  here : InRange w s c n
  here = record { lent = B.lent; inside = B.inside }

  N : NodeAt w s c n ws
  N = rw e at M

  -- in any arena that memory holds
  module _ {table : ℕ} {a : Arena} (H : Holds table w s c a) where
    inside_a : n < length a
    inside_a = omega (arith, B.inside, H.nodes)

    read : children_in ws ≡ children (at a n)
    read = children_read here N H

  pub as_many : AsMany ws items count
  unfolding here
  as_many = given_many here N items count B.long B.count_is

  pub length_fits : Fits w64 (count + 1)
  length_fits = omega (arith, as_many.few)

  pub one_each : {b : List ℕ} → ChildWords ws b → OneEach b items count
  one_each D = record { long = B.long; few = as_many.few; count_is = omega (arith, as_many.count_is, offspring.as_many D) }

  module _ {b : List ℕ} (D : ChildWords ws b) {r : Bool} (p : r ≡ same_numbers (map child b) (take count items)) where
    q : r ≡ same_numbers (children_in ws) (take count items)
    q = p ∙ ap (λ (cs : List ℕ). same_numbers cs (take count items)) D.is

    -- with its own children
    pub unchanged : r ≡ true → Rebuilds w s c n items count w s (Ok (n, c))
    unfolding reply_of
    unchanged y = record {
      is = λ table a H.
          let x : at a n ≡ node (tag (at a n)) (take count items)
          = node_is (at a n) refl ∙ ap (node (tag (at a n))) (sym (read H) ∙ numbers_true (children_in ws) (take count items) (sym q ∙ y)) in
          finished a (length w) (length s) refl H.nodes H.total H.words H.starts
          ∙ sym (ap (reply_of w s c) (intern_there (length w) (length s) table (node (tag (at a n)) (take count items)) a H.good n (record { inside = inside_a H; is = x })));
    }

    -- something differs, so there is something
    pub some_item : r ≡ false → 0 < count
    some_item y = go (dec_lt 0 count)
      where
        go : Dec (0 < count) → 0 < count
        go (yes l) = l
        go (no l) =
            let a : children_in ws ≡ [] = nil (children_in ws) (omega (arith, l, as_many.count_is)) in
            let b : take count items ≡ [] = nil (take count items) (omega (arith, l, length_given as_many)) in
            absurd (true_false (sym (numbers_if (children_in ws) (take count items) (a ∙ sym b)) ∙ sym q ∙ y))

  few_nodes : c.nodes ≤ 4096
  few_nodes = let H = B.lent.holds in omega (arith, start_room H, H.few_starts)

  -- with others
  module _ (p : 0 < count) where
    pub exchanging : Exchanging ws items count (replicate 66 0)
    exchanging = record { as_many = as_many; some = p; low = below_more c.nodes 4096 (take count items) few_nodes B.low; size = length-replicate {A = ℕ} 66 0 }

    module _ {new : List ℕ} (X : Exchanged ws items count new) where
      pub prefix_in : count + 1 ≤ length new
      prefix_in = omega (arith, X.size, as_many.few)

      pub prefix_length : count + 1 ≡ length (take (count + 1) new)
      prefix_length = sym (length-take-le (count + 1) new prefix_in)

      -- the words are those of the node with these children, which may be added
      is_node : {table : ℕ} {a : Arena} → Holds table w s c a → IsNode table (length a) (take (count + 1) new) (node (tag (at a n)) (take count items))
      is_node {table} {a} H = go (at a n) (at_well table a H.good n (inside_a H)) (given_count here N as_many H) (given_words here N as_many H p X)
        where
          low : below (length a) (take count items) ≡ true
          low = subst (λ (k : ℕ). below k (take count items) ≡ true) H.nodes B.low

          go : (x : Node) → well table n x ≡ true → count ≡ length (children x) → take (count + 1) new ≡ encode (node (tag x) (take count items)) → IsNode table (length a) (take (count + 1) new) (node (tag x) (take count items))
          go (node t cs) g k v = record {
            words = v;
            good = well_again table (length a) (omega (arith, few_nodes, H.nodes)) n t cs (take count items) g (length_given as_many ∙ k) low;
          }

      pub fresh : Fresh w s c (take (count + 1) new)
      fresh = record { table = B.lent.table; view = B.lent.view; holds = B.lent.holds; node = node (tag (at B.lent.view n)) (take count items); is = is_node B.lent.holds }

      pub rebuilt : {w' s' : List ℕ} {o : Out (ℕ × Counters)} → Interns w s c (take (count + 1) new) w' s' o → Rebuilds w s c n items count w' s' o
      rebuilt I = record { is = λ table a H. I.is table a (node (tag (at a n)) (take count items)) H (is_node H) }
