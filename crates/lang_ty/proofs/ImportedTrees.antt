-- The import of one type in arenas: what a finished one leaves has the tree of the type, under both tables; a type that the target holds is found, and nothing is added; and a type that lacks no name is never refused by 12.
use Prim.Native.Nat.{ℕ, zero, suc, ◌<◌, ◌≤◌}
use mathlib.Core.Path.{◌≡◌, refl, sym, ap, ap₂, ◌∙◌, subst}
use mathlib.Core.Bool.{true, false, ◌||◌}
use mathlib.Core.List.Memᴰ.{head}
use mathlib.Core.List.Memᴰ.{tail}
use mathlib.Core.List.{List, [], ◌∷◌, map, Memᴰ as Mem}
use mathlib.Core.Option.{Option, none, some}
use native.Mathlib.Omega.{arith}
use lib.ListN.{length, get_or, length-map}
use borrow.Author.Tests.{lt-ltb}
use Rattle.std.specs.Prelude.{Ok}
use Rattle.types.specs.Kind.{disc}
use Rattle.types.specs.Node.{Field, field, Tag, Node, node, tag, children, kind, data_of, field_names, names, below, well}
use Rattle.types.specs.Arena.{Arena, at, find, absent, sound, Ext, here}
use Rattle.types.proofs.Tests.{true_false, neither, not_true, both}
use Rattle.types.proofs.Lists.{below_cons, below_more}
use Rattle.types.proofs.Nodes.{cons}
use Rattle.types.proofs.Growth.{ext_trans, ext_length, at_new, at_grow}
use Rattle.types.proofs.Sound.{at_well, child_lower, children_below, map_below, ext_fold, sound_more, find_at}
use Rattle.names.specs.Table.{Name, names_of}
use Rattle.node_store.specs.Intern.{has_room, intern}
use Rattle.node_store.proofs.Additions.{intern_stored}
use Rattle.node_store.proofs.Interning.{done}
use Rattle.walks.specs.Reach.{some_of}
use Rattle.walks.proofs.Reaching.{in_some}
use Rattle.recursion.specs.Jobs.{each, rebuild}
use Rattle.recursion.proofs.Members.{index_of}
use Rattle.recursion.proofs.Answers.{ok_same, bind_parts, bind_ok}
use Rattle.recursion.proofs.Interning.{node_is, well_again, Interned, interned}
use Rattle.copying.proofs.Rooms.{done_roomy}
use Rattle.equal.specs.Equal.{Tree, label, spelling, over, spell, label_of, tree}
use Rattle.equal.proofs.OnePartner.{over_parts, tree_at, one_partner, named_at}
use Rattle.importing.specs.Import.{number_in, renamed_field, renamed, lacks_one, lacks, import_node}
use Rattle.importing.proofs.Renaming.{there, kind_renamed, data_renamed, renamed_well}
use Rattle.importing.proofs.Caching.{lacks_at, lacks_none, import_at}
use Rattle.importing.proofs.Tables.{number_of, number_text, tables_numbering}
use Rattle.lang_ty.specs.Numbered.{Numbered}
use Rattle.lang_ty.proofs.Numbers.{NumberedJob, rebuild_numbered}

-- ---- a node of a sound arena
module _ (own : ℕ) (u : Arena) (g : sound own u ≡ true) (n : ℕ) (l : n < length u) where
  member_lower : (c : ℕ) → Mem c (children (at u n)) → c < n
  member_lower c m = let i = index_of m in omega (arith, i.is, child_lower own u g n l i.index i.inside)

  node_well : well own n (node (tag (at u n)) (children (at u n))) ≡ true
  node_well = subst (λ (x : Node). well own n x ≡ true) (node_is (at u n) refl) (at_well own u g n l)

  module _ (f : ℕ → Option ℕ) (e : lacks f u n ≡ false) where
    -- a type that lacks no name has no child that does
    child_complete : (c : ℕ) → Mem c (children (at u n)) → lacks f u c ≡ false
    child_complete c m =
        let i = index_of m in
        let q = (neither (lacks_one f (names (tag (at u n)))) _ (sym (lacks_at f own u g n l) ∙ e)).1 in
        not_true (lacks f u c) (λ x. true_false (sym (in_some (lacks f u) (children (at u n)) i.index i.inside (ap (lacks f u) i.is ∙ x)) ∙ q))

-- ---- the import of a type that lacks no name is never refused by 12
module _ (f : ℕ → Option ℕ) (words starts own : ℕ) (u : Arena) (g : sound own u ≡ true) where
  pub complete_numbered : (j n : ℕ) → n < j → n < length u → lacks f u n ≡ false → NumberedJob (import_node f words starts u n)
  complete_numbered zero n k l e a = absurd (omega arith)
  complete_numbered (suc j) n k l e a =
      subst Numbered (sym (import_at f words starts own u g n l (lacks_none f own u g n l e) a))
      (rebuild_numbered words starts (renamed f (tag (at u n))) (children (at u n)) (λ c m. let h = member_lower own u g n l c m in complete_numbered j c (omega arith) (omega arith) (child_complete own u g n l f e c m)) a)

tree_later : (ns : List Name) (a b : Arena) → Ext a b → (n : ℕ) → n < length a → tree ns b n ≡ tree ns a n
unfolding tree
tree_later ns a b = ext_fold (λ (t : Tag) (ts : List Tree). over (label_of ns t) ts) a b

-- ---- labels under two tables
module _ (t : List ℕ) (ns : List Name) (p : names_of t ≡ some ns) (tt : List ℕ) (ms : List Name) (q : names_of tt ≡ some ms) where
  abbrev pub number : ℕ → Option ℕ
  number = number_in ns ms

  -- a name that isn't lacking has the same text under its number
  spelt : (fs : List Field) → lacks_one number (field_names fs) ≡ false → map (spell ms) (map (renamed_field number) fs) ≡ map (spell ns) fs
  unfolding lacks_one
  spelt [] e = refl
  spelt (field o k ∷ fs) e =
      let n = neither (absent (number k)) (lacks_one number (field_names fs)) e in
      cons (ap (spelling o) (number_text ns tt ms q k _ (there (number k) n.0)).text) (spelt fs n.1)

  label_renamed : (x : Tag) → lacks_one number (names x) ≡ false → label_of ms (renamed number x) ≡ label_of ns x
  label_renamed x e =
      let d = data_renamed number x in
      (λ i. label (disc (kind_renamed number x i)) (d i).numbers (map (spell ms) (d i).fields) (d i).dynamic (d i).opened)
      ∙ (λ i. label (disc (kind x)) (data_of x).numbers (spelt (data_of x).fields e i) (data_of x).dynamic (data_of x).opened)

  -- names with the texts of names of the target aren't lacking
  none_lacking : (fs gs : List Field) → below (length ms) (field_names gs) ≡ true → map (spell ns) fs ≡ map (spell ms) gs → lacks_one number (field_names fs) ≡ false
  unfolding lacks_one
  none_lacking [] gs b e = refl
  none_lacking (field o k ∷ fs) [] b e = let z : ◌≡◌ {A = ℕ} 0 1 = cc in absurd (omega arith)
  none_lacking (field o k ∷ fs) (field c j ∷ gs) b e =
      let x = below_cons (length ms) j (field_names gs) b in
      let y : get_or ns k [] ≡ get_or ms j [] = cc in
      let z : map (spell ns) fs ≡ map (spell ms) gs = cc in
      ap₂ ◌||◌ (ap absent (number_of ns tt ms q k j (record { there = x.0; text = sym y }))) (none_lacking fs gs x.1 z)

  named_alike : (x y : Tag) → below (length ms) (names y) ≡ true → label_of ns x ≡ label_of ms y → lacks_one number (names x) ≡ false
  named_alike x y b e = let z : map (spell ns) (data_of x).fields ≡ map (spell ms) (data_of y).fields = cc in none_lacking (data_of x).fields (data_of y).fields b z

  module _ (words starts : ℕ) (u : Arena) (g : sound (length ns) u ≡ true) where
    renamed_so : (n : ℕ) → n < length u → lacks_one number (names (tag (at u n))) ≡ false → well (length ms) n (node (renamed number (tag (at u n))) (children (at u n))) ≡ true
    renamed_so n l e = renamed_well number (tables_numbering t ns p tt ms q) (length ns) n (tag (at u n)) (children (at u n)) (node_well (length ns) u g n l) e

    -- ---- a finished import: the target has grown, and the number has the tree of the node
    pub record Ran (n : ℕ) (a : Arena) (m : ℕ) (b : Arena) : Type 0 where
      pub ext : Ext a b
      pub good : sound (length ms) b ≡ true
      pub inside : m < length b
      pub same : tree ms b m ≡ tree ns u n
      pub room : has_room words starts a ≡ true → has_room words starts b ≡ true

    -- of several nodes in turn
    record RanAll (cs : List ℕ) (a : Arena) (ks : List ℕ) (b : Arena) : Type 0 where
      pub ext : Ext a b
      pub good : sound (length ms) b ≡ true
      pub count : length ks ≡ length cs
      pub low : below (length b) ks ≡ true
      pub same : map (tree ms b) ks ≡ map (tree ns u) cs
      pub room : has_room words starts a ≡ true → has_room words starts b ≡ true

    abbrev pub Runs : ℕ → Type 0
    Runs c = (a : Arena) (m : ℕ) (b : Arena) → sound (length ms) a ≡ true → import_node number words starts u c a ≡ Ok (m, b) → Ran c a m b

    ran_none : {a : Arena} → sound (length ms) a ≡ true → RanAll [] a [] a
    unfolding below
    ran_none h = record { ext = here; good = h; count = refl; low = refl; same = refl; room = λ r. r }

    ran_more : {c m : ℕ} {cs ks : List ℕ} {a d b : Arena} → Ran c a m d → RanAll cs d ks b → RanAll (c ∷ cs) a (m ∷ ks) b
    unfolding below
    ran_more {m = m} {d = d} {b = b} R S = record {
      ext = ext_trans R.ext S.ext;
      good = S.good;
      count = ap suc S.count;
      low = both (lt-ltb m (length b) (omega (arith, R.inside, ext_length d b S.ext))) S.low;
      same = cons (tree_later ms d b S.ext m R.inside ∙ R.same) S.same;
      room = λ r. S.room (R.room r);
    }

    each_ran : (cs : List ℕ) → ((c : ℕ) → Mem c cs → Runs c) → (a : Arena) (ks : List ℕ) (b : Arena) → sound (length ms) a ≡ true → each (import_node number words starts u) cs a ≡ Ok (ks, b) → RanAll cs a ks b
    unfolding each
    each_ran [] h a ks b s e = subst (λ (v : List ℕ × Arena). RanAll [] a v.0 v.1) (ok_same e) (ran_none s)
    each_ran (c ∷ cs) h a ks b s e =
        let x = bind_parts (import_node number words starts u c a) _ e in
        let y = bind_parts (each (import_node number words starts u) cs x.0.1) _ x.2 in
        let R = h c (head refl) a x.0.0 x.0.1 s x.1 in
        let S = each_ran cs (λ d i. h d (tail i)) x.0.1 y.0.0 y.0.1 R.good y.1 in
        subst (λ (v : List ℕ × Arena). RanAll (c ∷ cs) a v.0 v.1) (ok_same y.2) (ran_more R S)

    -- the node, once its children are imported
    made : starts ≤ 4096 → (n : ℕ) → n < length u → lacks_one number (names (tag (at u n))) ≡ false → {a d : Arena} {ks : List ℕ} → RanAll (children (at u n)) a ks d → (m : ℕ) (b : Arena)
        → intern words starts (node (renamed number (tag (at u n))) ks) d ≡ Ok (m, b) → Ran n a m b
    made few n l e {a} {d} {ks} S m b i = record { ext = ext_trans S.ext J.ext; good = J.good; inside = J.is.inside; same = same; room = λ r. done_roomy (S.room r) (done words starts x d m b i) }
      where
        x : Node
        x = node (renamed number (tag (at u n))) ks

        J : Interned (length ms) x d m b
        J = interned words starts (length ms) few x d S.good m b (λ k. well_again (length ms) (length d) k n (renamed number (tag (at u n))) (children (at u n)) ks (renamed_so n l e) S.count S.low) i

        same : tree ms b m ≡ tree ns u n
        same =
            tree_at ms (length ms) b J.good m J.is.inside
            ∙ ap (λ (y : Node). over (label_of ms (tag y)) (map (tree ms b) (children y))) J.is.is
            ∙ ap₂ over (label_renamed (tag (at u n)) e) (map_below (tree ms b) (tree ms d) (length d) ks S.low (tree_later ms d b J.ext) ∙ S.same)
            ∙ sym (tree_at ns (length ns) u g n l)

    pub runs : starts ≤ 4096 → (j n : ℕ) → n < j → n < length u → lacks number u n ≡ false → Runs n
    unfolding rebuild
    runs few zero n k l e a m b s i = absurd (omega arith)
    runs few (suc j) n k l e a m b s i =
        let o = lacks_none number (length ns) u g n l e in
        let x = bind_parts (each (import_node number words starts u) (children (at u n)) a) _ (sym (import_at number words starts (length ns) u g n l o a) ∙ i) in
        let h : (c : ℕ) → Mem c (children (at u n)) → Runs c = λ c v. let low = member_lower (length ns) u g n l c v in runs few j c (omega arith) (omega arith) (child_complete (length ns) u g n l number e c v) in
        made few n l o (each_ran (children (at u n)) h a x.0.0 x.0.1 s x.1) m b x.2

    -- ---- a type that the target holds
    module _ (b : Arena) (s : sound (length ms) b ≡ true) (few_nodes : length b ≤ 4096) where
      -- nodes with one label and the same children are one
      one_node : (a : Arena) → sound (length ms) a ≡ true → (i j : ℕ) → i < length a → j < length a → label_of ms (tag (at a i)) ≡ label_of ms (tag (at a j)) → children (at a i) ≡ children (at a j) → i ≡ j
      one_node a h i j k l x y =
          one_partner tt ms q a h i j k l (tree_at ms (length ms) a h i k ∙ (λ z. over (x z) (map (tree ms a) (y z))) ∙ sym (tree_at ms (length ms) a h j l))

      -- so a node with the label and the children of node k is found there
      found_alike : (k : ℕ) → k < length b → (x : Tag) → well (length ms) (length b) (node x (children (at b k))) ≡ true → label_of ms x ≡ label_of ms (tag (at b k)) → find (node x (children (at b k))) b ≡ some k
      found_alike k l x w e = go (find y b) refl
        where
          y : Node
          y = node x (children (at b k))

          go : (o : Option ℕ) → find y b ≡ o → o ≡ some k
          go (some j) r =
              let z = find_at y b j r in
              ap some (one_node b s j k z.0 l (ap (λ (v : Node). label_of ms (tag v)) z.1 ∙ e) (ap children z.1))
          go none r =
              let h = sound_more (length ms) y b w (ap absent r) s in
              let new = at_new y b in
              let old = at_grow y b k l in
              let i = one_node (y ∷ b) h (length b) k (omega arith) (omega arith) (ap (λ (v : Node). label_of ms (tag v)) new ∙ e ∙ ap (λ (v : Node). label_of ms (tag v)) (sym old)) (ap children new ∙ ap children (sym old)) in
              absurd (omega (arith, i, l))

      abbrev pub IsThere : ℕ → ℕ → Type 0
      IsThere n k = (lacks number u n ≡ false) × (import_node number words starts u n b ≡ Ok (k, b))

      each_there : (cs ds : List ℕ) → below (length b) ds ≡ true → map (tree ns u) cs ≡ map (tree ms b) ds → ((c : ℕ) → Mem c cs → (k : ℕ) → k < length b → tree ns u c ≡ tree ms b k → IsThere c k)
          → (some_of (map (lacks number u) cs) ≡ false) × (each (import_node number words starts u) cs b ≡ Ok (ds, b))
      unfolding some_of each
      each_there [] [] w e h = (refl, refl)
      each_there [] (d ∷ ds) w e h = let z : ◌≡◌ {A = ℕ} 0 1 = cc in absurd (omega arith)
      each_there (c ∷ cs) [] w e h = let z : ◌≡◌ {A = ℕ} 0 1 = cc in absurd (omega arith)
      each_there (c ∷ cs) (d ∷ ds) w e h =
          let x = below_cons (length b) d ds w in
          let y : tree ns u c ≡ tree ms b d = cc in
          let z : map (tree ns u) cs ≡ map (tree ms b) ds = cc in
          let T = h c (head refl) d x.0 y in
          let R = each_there cs ds x.1 z (λ i v. h i (tail v)) in
          (ap₂ ◌||◌ T.0 R.0, bind_ok (import_node number words starts u c b) (d, b) _ T.1 ∙ bind_ok (each (import_node number words starts u) cs b) (ds, b) _ R.1)

      pub is_there : (j n : ℕ) → n < j → n < length u → (k : ℕ) → k < length b → tree ns u n ≡ tree ms b k → IsThere n k
      unfolding rebuild
      is_there zero n i l k m e = absurd (omega arith)
      is_there (suc j) n i l k m e =
          let v = over_parts _ _ _ _ (sym (tree_at ns (length ns) u g n l) ∙ e ∙ tree_at ms (length ms) b s k m) in
          let o = named_alike (tag (at u n)) (tag (at b k)) (named_at ms b s k m).inside v.0 in
          let low = below_more k (length b) (children (at b k)) (omega arith) (children_below (length ms) b s k m) in
          let A = each_there (children (at u n)) (children (at b k)) low v.1 (λ c r d h x. let y = member_lower (length ns) u g n l c r in is_there j c (omega arith) (omega arith) d h x) in
          let count : length (children (at b k)) ≡ length (children (at u n)) = sym (length-map (children (at b k)) (tree ms b)) ∙ ap length (sym v.1) ∙ length-map (children (at u n)) (tree ns u) in
          let w = well_again (length ms) (length b) few_nodes n (renamed number (tag (at u n))) (children (at u n)) (children (at b k)) (renamed_so n l o) count low in
          let F = found_alike k m (renamed number (tag (at u n))) w (label_renamed (tag (at u n)) o ∙ v.0) in (
            lacks_at number (length ns) u g n l ∙ ap₂ ◌||◌ o A.0,
            import_at number words starts (length ns) u g n l o b ∙ bind_ok (each (import_node number words starts u) (children (at u n)) b) (children (at b k), b) (λ r. intern words starts (node (renamed number (tag (at u n))) r.0) r.1) A.1 ∙ intern_stored words starts (node (renamed number (tag (at u n))) (children (at b k))) b k F,
          )
