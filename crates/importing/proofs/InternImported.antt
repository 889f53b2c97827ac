-- The words made are those of the source's node with the given children and the target's names, which may be interned in the target.
use Prim.Native.Nat.{ℕ, ◌+◌, ◌<◌, ◌≤◌}
use mathlib.Core.Path.{◌≡◌, sym, ap, ap₂, ◌∙◌, subst}
use mathlib.Core.Bool.{true, false}
use mathlib.Core.List.{List, []}
use native.Mathlib.Omega.{arith}
use lib.ListN.{length, get_or, take, replicate, length-replicate}
use lib.Seq.{length-take-le}
use mir.Syntax.{w64}
use mir.Val.{Fits}
use Rattle.words.specs.Words.{head_kind, head_dynamic}
use Rattle.types.specs.Out.{Out}
use Rattle.types.specs.Node.{Tag, Node, node, tag, data_of, children, names, head_of, encode, encode_in, below, formed, well, IsNode}
use Rattle.types.specs.Arena.{Arena, at}
use Rattle.types.specs.Memory.{Holds}
use Rattle.types.specs.declared.Counters.{Counters}
use Rattle.types.proofs.Lists.{below_more}
use Rattle.types.proofs.Nodes.{nil, formed_parts, encode_kind, encode_dynamic}
use Rattle.types.proofs.Sound.{at_well, at_formed}
use Rattle.types.proofs.Addresses.{start_room}
use Rattle.node_order.specs.WordsOrder.{field_count}
use Rattle.node_order.specs.Inner.{FieldCount}
use Rattle.node_store.specs.Inner.Stored.{InRange, NodeAt}
use Rattle.node_store.specs.Inner.Added.{Fresh, Interns}
use Rattle.recursion.proofs.Interning.{well_again}
use Rattle.rebuilding.specs.Inner.Rebuilt.{AsMany, Exchanging, Exchanged}
use Rattle.rebuilding.proofs.Exchanging.{length_given}
use Rattle.rebuilding.proofs.Given.{given_many, given_count, given_words}
use Rattle.importing.specs.Import.{renamed, lacks_one}
use Rattle.importing.specs.Inner.Names.{by_map, Renaming, Renames}
use Rattle.importing.specs.Inner.Nodes.{Foreign, Complete, ImportReady, Imports}
use Rattle.importing.proofs.Renaming.{renamed_well}
use Rattle.importing.proofs.Caching.{lacks_none}
use Rattle.importing.proofs.Searching.{node_there}
use Rattle.importing.proofs.Words.{fields_count, may_rename, renamed_encode, leaf_renamed}

module _ {ks w s : List ℕ} {c : Counters} {n : ℕ} {items : List ℕ} {count : ℕ} {tw ts : List ℕ} {d : Counters} (R : ImportReady ks w s c n items count tw ts d) where
  import_range : InRange w s c n
  import_range = record { lent = record { table = R.beside.own; view = R.source; holds = R.beside.holds }; inside = R.inside }

  pub import_here : {i : ℕ} → i ≡ n → InRange w s c i
  import_here e = subst (InRange w s c) (sym e) import_range

  few_nodes : d.nodes ≤ 4096
  few_nodes = let H = R.to in omega (arith, start_room H, H.few_starts)

  es : List ℕ
  es = take count items

  module _ {i : ℕ} (e : i ≡ n) {ws : List ℕ} (M : NodeAt w s c i ws) where
    N : NodeAt w s c n ws
    N = rw e at M

    -- in any source that memory holds
    module _ {own : ℕ} {u : Arena} (H : Holds own w s c u) where
      inside_u : n < length u
      inside_u = omega (arith, R.inside, H.nodes)

    pub import_many : AsMany ws items count
    unfolding import_range
    import_many = given_many import_range N items count R.long R.count_is

    pub import_head : 0 < length ws
    import_head = node_there import_range N

    pub import_few : count ≤ 65
    import_few = import_many.few

    pub import_fits : Fits w64 (count + 1)
    import_fits = omega (arith, import_many.few)

    count_kids : {own : ℕ} {u : Arena} → Holds own w s c u → count ≡ length (children (at u n))
    count_kids H = given_count import_range N import_many H

    -- what has the words of the node with these children and the target's names may be interned
    module _ (K : Complete ks w s c n) where
      named : {own : ℕ} {u : Arena} → Holds own w s c u → lacks_one (by_map ks) (names (tag (at u n))) ≡ false
      named {own} {u} H = lacks_none (by_map ks) own u H.good n (inside_u H) (K.is own u H)

      module _ {table : ℕ} {u a : Arena} (Q : Foreign ks w s c table u a) (T : Holds table tw ts d a) where
        may_add : {ws' : List ℕ} → ws' ≡ encode (node (renamed (by_map ks) (tag (at u n))) es) → IsNode table (length a) ws' (node (renamed (by_map ks) (tag (at u n))) es)
        unfolding es
        may_add {ws'} q = go (at u n) q (at_well Q.own u Q.holds.good n (inside_u Q.holds)) (count_kids Q.holds) (named Q.holds)
          where
            low : below (length a) es ≡ true
            low = subst (λ (k : ℕ). below k es ≡ true) T.nodes R.low

            go : (x : Node) → ws' ≡ encode (node (renamed (by_map ks) (tag x)) es) → well Q.own n x ≡ true → count ≡ length (children x) → lacks_one (by_map ks) (names (tag x)) ≡ false
                → IsNode table (length a) ws' (node (renamed (by_map ks) (tag x)) es)
            go (node t cs) q g k z = record {
              words = q;
              good = renamed_well (by_map ks) Q.numbering Q.own (length a) t es (well_again Q.own (length a) (omega (arith, few_nodes, T.nodes)) n t cs es g (length_given import_many ∙ k) low) z;
            }

      imports_by : {ws' : List ℕ} → ((own : ℕ) (u : Arena) → Holds own w s c u → ws' ≡ encode (node (renamed (by_map ks) (tag (at u n))) es)) → Fresh tw ts d ws'
      imports_by f = record { table = R.table; view = R.target; holds = R.to; node = node (renamed (by_map ks) (tag (at R.source n))) es; is = may_add R.beside R.to (f R.beside.own R.source R.beside.holds) }

      imported_by : {ws' : List ℕ} → ((own : ℕ) (u : Arena) → Holds own w s c u → ws' ≡ encode (node (renamed (by_map ks) (tag (at u n))) es)) → {tw' ts' : List ℕ} {o : Out (ℕ × Counters)} → Interns tw ts d ws' tw' ts' o
          → Imports ks w s c n items count tw ts d tw' ts' o
      unfolding es
      imported_by f I = record { is = λ table u a Q T. I.is table a (node (renamed (by_map ks) (tag (at u n))) es) T (may_add Q T (f Q.own u Q.holds)) }

      -- ---- a node without children has its own words
      module _ (z : count ≡ 0) where
        leaf_words : (own : ℕ) (u : Arena) → Holds own w s c u → ws ≡ encode (node (renamed (by_map ks) (tag (at u n))) es)
        unfolding es
        leaf_words own u H = N.is own u H ∙ ap encode (go (at u n) (at_formed own u H.good n (inside_u H)) (count_kids H))
          where
            none : es ≡ []
            none = nil es (omega (arith, z, length_given import_many))

            go : (x : Node) → formed x ≡ true → count ≡ length (children x) → x ≡ node (renamed (by_map ks) (tag x)) es
            go (node t cs) g k = ap₂ node (sym (leaf_renamed ks t cs (formed_parts t cs g) (omega (arith, z, k)))) (nil cs (omega (arith, z, k)) ∙ sym none)

        pub leaf_fresh : Fresh tw ts d ws
        leaf_fresh = imports_by leaf_words

        pub leaf_imported : {tw' ts' : List ℕ} {o : Out (ℕ × Counters)} → Interns tw ts d ws tw' ts' o → Imports ks w s c n items count tw ts d tw' ts' o
        leaf_imported = imported_by leaf_words

      -- ---- of another the children are exchanged, and then the fields renamed
      module _ (f : count ≡ 0 → ⊥) where
        some : 0 < count
        some = omega (arith, f)

        pub import_exchanging : Exchanging ws items count (replicate 66 0)
        import_exchanging = record { as_many = import_many; some = some; low = below_more d.nodes 4096 (take count items) few_nodes R.low; size = length-replicate {A = ℕ} 66 0 }

        module _ {new : List ℕ} (X : Exchanged ws items count new) {m : ℕ} (C : FieldCount (get_or ws 0 0) count m) where
          exchanged : {own : ℕ} {u : Arena} → Holds own w s c u → take (count + 1) new ≡ encode (node (tag (at u n)) es)
          unfolding es
          exchanged H = given_words import_range N import_many H some X

          few_items : below 4096 es ≡ true
          unfolding es
          few_items = below_more d.nodes 4096 es few_nodes R.low

          -- how many fields there are
          fields_are : (t : Tag) (cs : List ℕ) → ws ≡ encode (node t cs) → formed (node t cs) ≡ true → count ≡ length cs → m ≡ length (data_of t).fields
          unfolding encode_in
          fields_are t cs v g k =
              let h : get_or ws 0 0 ≡ head_of (node t cs) = ap (λ (z : List ℕ). get_or z 0 0) v in
              C.value ∙ ap₂ (λ (z i : ℕ). field_count (head_kind z) (head_dynamic z) i) h k
              ∙ (λ i. field_count (encode_kind (node t cs) g i) (encode_dynamic (node t cs) g i) (length cs))
              ∙ fields_count t cs (formed_parts t cs g)

          pub import_renaming : Renaming ks m new
          unfolding es
          import_renaming =
              let H = R.beside.holds in
              go (at R.source n) (N.is R.beside.own R.source H) (at_formed R.beside.own R.source H.good n (inside_u H)) (count_kids H) (named H) (exchanged H)
            where
              go : (x : Node) → ws ≡ encode x → formed x ≡ true → count ≡ length (children x) → lacks_one (by_map ks) (names (tag x)) ≡ false → take (count + 1) new ≡ encode (node (tag x) es) → Renaming ks m new
              go (node t cs) v g k z E =
                  may_rename ks t cs (formed_parts t cs g) es (length_given import_many ∙ k) few_items (omega (arith, some, k)) (sym (length_given import_many)) import_many.few new X.size E R.beside.numbering R.beside.long z (fields_are t cs v g k)

          module _ {new' : List ℕ} (Z : Renames ks m new new') where
            pub import_prefix : count + 1 ≤ length new'
            import_prefix = omega (arith, Z.size, import_many.few)

            pub import_length : count + 1 ≡ length (take (count + 1) new')
            import_length = sym (length-take-le (count + 1) new' import_prefix)

            new_words : (own : ℕ) (u : Arena) → Holds own w s c u → take (count + 1) new' ≡ encode (node (renamed (by_map ks) (tag (at u n))) es)
            unfolding es
            new_words own u H = go (at u n) (N.is own u H) (at_formed own u H.good n (inside_u H)) (count_kids H) (exchanged H)
              where
                go : (x : Node) → ws ≡ encode x → formed x ≡ true → count ≡ length (children x) → take (count + 1) new ≡ encode (node (tag x) es) → take (count + 1) new' ≡ encode (node (renamed (by_map ks) (tag x)) es)
                go (node t cs) v g k E =
                    renamed_encode ks t cs (formed_parts t cs g) es (length_given import_many ∙ k) few_items (omega (arith, some, k)) (sym (length_given import_many)) import_many.few new X.size E (fields_are t cs v g k) Z

            pub import_fresh : Fresh tw ts d (take (count + 1) new')
            import_fresh = imports_by new_words

            pub imported : {tw' ts' : List ℕ} {o : Out (ℕ × Counters)} → Interns tw ts d (take (count + 1) new') tw' ts' o → Imports ks w s c n items count tw ts d tw' ts' o
            imported = imported_by new_words
