-- The words made are those of the source's node with the given children, which may be added to the target.
use Rattle.types.specs.Out.{Out}
use Prim.Native.Nat.{ℕ, ◌+◌, ◌<◌, ◌≤◌}
use mathlib.Core.Path.{◌≡◌, refl, sym, ap, ◌∙◌, subst}
use mathlib.Core.Bool.{true}
use mathlib.Core.List.{List}
use native.Mathlib.Omega.{arith}
use lib.ListN.{length, take, replicate, length-replicate}
use lib.Seq.{length-take-le}
use mir.Syntax.{w64}
use mir.Val.{Fits}
use Rattle.types.specs.Node.{Node, node, tag, children, encode, below, well, IsNode}
use Rattle.types.specs.Arena.{Arena, at, find}
use Rattle.types.specs.Fault.{children_in}
use Rattle.types.specs.Memory.{Holds}
use Rattle.types.specs.declared.Counters.{Counters}
use Rattle.types.proofs.Lists.{below_more}
use Rattle.types.proofs.Nodes.{nil, encode_injective}
use Rattle.types.proofs.Sound.{at_well}
use Rattle.types.proofs.Addresses.{start_room}
use Rattle.types.proofs.Decodes.{well_parts}
use Rattle.types.proofs.Memories.{unique}
use Rattle.node_store.specs.Inner.Stored.{InRange, NodeAt}
use Rattle.node_store.specs.Inner.Added.{Fresh, Absent, Interns}
use Rattle.recursion.proofs.Interning.{node_is, well_again}
use Rattle.rebuilding.specs.Inner.Rebuilt.{AsMany, Exchanging, Exchanged}
use Rattle.rebuilding.proofs.Copying.{children_read}
use Rattle.rebuilding.proofs.Exchanging.{length_given}
use Rattle.rebuilding.proofs.Given.{given_many, given_words}
use Rattle.copying.specs.Inner.{CopyReady, CopyNew, Copies}

module _ {w s : List ℕ} {c : Counters} {n : ℕ} {items : List ℕ} {count : ℕ} {tw ts : List ℕ} {d : Counters} (R : CopyReady w s c n items count tw ts d) where
  copy_range : InRange w s c n
  copy_range = record { lent = record { table = R.table; view = R.source; holds = R.from }; inside = R.inside }

  pub copy_here : {i : ℕ} → i ≡ n → InRange w s c i
  copy_here e = subst (InRange w s c) (sym e) copy_range

  few_nodes : d.nodes ≤ 4096
  few_nodes = let H = R.to in omega (arith, start_room H, H.few_starts)

  module _ {i : ℕ} (e : i ≡ n) {ws : List ℕ} (M : NodeAt w s c i ws) where
    N : NodeAt w s c n ws
    N = rw e at M

    -- in any source that memory holds
    module _ {table : ℕ} {u : Arena} (H : Holds table w s c u) where
      inside_u : n < length u
      inside_u = omega (arith, R.inside, H.nodes)

      read : children_in ws ≡ children (at u n)
      read = children_read copy_range N H

    pub copy_many : AsMany ws items count
    unfolding copy_range
    copy_many = given_many copy_range N items count R.long R.count_is

    pub copy_fits : Fits w64 (count + 1)
    copy_fits = omega (arith, copy_many.few)

    -- what has the words of the source's node with these children may be added
    module _ {table : ℕ} {u a : Arena} (H : Holds table w s c u) (K : Holds table tw ts d a) where
      may_add : {ws' : List ℕ} → ws' ≡ encode (node (tag (at u n)) (take count items)) → IsNode table (length a) ws' (node (tag (at u n)) (take count items))
      may_add {ws'} q = go (at u n) q (at_well table u H.good n (inside_u H)) (copy_many.count_is ∙ ap length (read H))
        where
          low : below (length a) (take count items) ≡ true
          low = subst (λ (k : ℕ). below k (take count items) ≡ true) K.nodes R.low

          go : (x : Node) → ws' ≡ encode (node (tag x) (take count items)) → well table n x ≡ true → count ≡ length (children x) → IsNode table (length a) ws' (node (tag x) (take count items))
          go (node t cs) q g k = record { words = q; good = well_again table (length a) (omega (arith, few_nodes, K.nodes)) n t cs (take count items) g (length_given copy_many ∙ k) low }

    -- and isn't found there
    not_there : CopyNew w s c n items count tw ts d → {ws' : List ℕ} → ws' ≡ encode (node (tag (at R.source n)) (take count items)) → Absent tw ts d ws'
    not_there F {ws'} q =
        let x = node (tag (at R.source n)) (take count items) in
        let W = well_parts R.table (length R.target) x (may_add R.from R.to q).good in
        record {
          is = record {
            is = λ t a y K p v. sym
                ((λ i. find (encode_injective y x p W.formed_so (sym v ∙ q) i) (unique K R.to i)) ∙ F.is R.table R.source R.target R.from R.to);
          };
        }

    -- ---- a node without children has its own words
    module _ (z : count ≡ 0) where
      leaf_words : {table : ℕ} {u : Arena} → Holds table w s c u → ws ≡ encode (node (tag (at u n)) (take count items))
      leaf_words {table} {u} H =
          let p = nil (children (at u n)) (omega (arith, z, copy_many.count_is, ap length (read H))) in
          let q = nil (take count items) (omega (arith, z, length_given copy_many)) in
          N.is table u H ∙ ap encode (node_is (at u n) refl ∙ ap (node (tag (at u n))) (p ∙ sym q))

      pub leaf_fresh : Fresh tw ts d ws
      leaf_fresh = record { table = R.table; view = R.target; holds = R.to; node = node (tag (at R.source n)) (take count items); is = may_add R.from R.to (leaf_words R.from) }

      pub leaf_absent : CopyNew w s c n items count tw ts d → Absent tw ts d ws
      leaf_absent F = not_there F (leaf_words R.from)

      pub leaf_copied : {tw' ts' : List ℕ} {o : Out (ℕ × Counters)} → Interns tw ts d ws tw' ts' o → Copies w s c n items count tw ts d tw' ts' o
      leaf_copied I = record { is = λ table u a H K. I.is table a (node (tag (at u n)) (take count items)) K (may_add H K (leaf_words H)) }

    -- ---- of another the children are exchanged
    module _ (f : count ≡ 0 → ⊥) where
      some : 0 < count
      some = omega (arith, f)

      pub copy_exchanging : Exchanging ws items count (replicate 66 0)
      copy_exchanging = record { as_many = copy_many; some = some; low = below_more d.nodes 4096 (take count items) few_nodes R.low; size = length-replicate {A = ℕ} 66 0 }

      module _ {new : List ℕ} (X : Exchanged ws items count new) where
        pub copy_prefix : count + 1 ≤ length new
        copy_prefix = omega (arith, X.size, copy_many.few)

        pub copy_length : count + 1 ≡ length (take (count + 1) new)
        copy_length = sym (length-take-le (count + 1) new copy_prefix)

        new_words : {table : ℕ} {u : Arena} → Holds table w s c u → take (count + 1) new ≡ encode (node (tag (at u n)) (take count items))
        new_words H = given_words copy_range N copy_many H some X

        pub copy_fresh : Fresh tw ts d (take (count + 1) new)
        copy_fresh = record { table = R.table; view = R.target; holds = R.to; node = node (tag (at R.source n)) (take count items); is = may_add R.from R.to (new_words R.from) }

        pub copy_absent : CopyNew w s c n items count tw ts d → Absent tw ts d (take (count + 1) new)
        copy_absent F = not_there F (new_words R.from)

        pub copied : {tw' ts' : List ℕ} {o : Out (ℕ × Counters)} → Interns tw ts d (take (count + 1) new) tw' ts' o → Copies w s c n items count tw ts d tw' ts' o
        copied I = record { is = λ table u a H K. I.is table a (node (tag (at u n)) (take count items)) K (may_add H K (new_words H)) }
