-- The variables of a renumbered type are those of the type, place by place, each by its place in the list.
use Prim.Native.Nat.{ℕ, zero, suc, ◌<◌, ◌≤◌}
use mathlib.Core.Path.{◌≡◌, refl, sym, ap, ◌∙◌, subst}
use mathlib.Core.Bool.{true}
use mathlib.Core.List.Memᴰ.{head}
use mathlib.Core.List.Memᴰ.{tail}
use mathlib.Core.List.{List, [], ◌∷◌, ◌++◌, map, flatten, map-append, Memᴰ as Mem}
use native.Mathlib.Omega.{arith}
use native.Mathlib.Decide.{ℕ_discrete}
use lib.ListN.{length}
use Rattle.std.specs.Prelude.{Ok}
use Rattle.types.specs.Kind.{disc}
use Rattle.types.specs.Node.{Node, node, tag, kind, children, well}
use Rattle.types.specs.Arena.{Arena, at, sound, Ext}
use Rattle.types.proofs.Growth.{ext_trans}
use Rattle.types.proofs.Sound.{at_well, child_lower, map_below, ext_fold}
use Rattle.free_vars.specs.FreeVars.{node_vars, occurrences}
use Rattle.free_vars.proofs.Occurrences.{kind_var}
use Rattle.free_vars.proofs.Occurrences as occurring
use Rattle.recursion.specs.Jobs.{each, rebuild}
use Rattle.recursion.proofs.Answers.{ok_same, bind_parts}
use Rattle.recursion.proofs.Members.{index_of}
use Rattle.recursion.proofs.Interning.{node_is, well_again, Interned, interned}
use Rattle.recursion.specs.Theorems.{Steady, AllThere}
use Rattle.recursion.proofs.Steady.{each_steady}
use Rattle.renumbering.specs.Renumbered.{index, var_node, renumbered}
use Rattle.renumbering.proofs.Indexing.{index_few}
use Rattle.renumbering.proofs.VarNodes.{var_well}
use Rattle.renumbering.proofs.Renumbering.{at_var, at_other, renumbered_steady}
use Rattle.renumbering.proofs.Working.{no_var}

-- a grown arena has the same variables at the places of an old node
grown : {a b : Arena} → Ext a b → (n : ℕ) → n < length a → occurrences b n ≡ occurrences a n
unfolding occurrences
grown {a} {b} e n l = ext_fold node_vars a b e n l

module _ (vars : List ℕ) (words starts table : ℕ) (few : starts ≤ 4096) (short : length vars ≤ 4096) (u : Arena) (g : sound table u ≡ true) where
  abbrev Reads : ℕ → Type 0
  Reads c = (a b : Arena) (m : ℕ) → Ext u a → sound table a ≡ true → renumbered vars words starts u c a ≡ Ok (m, b) → occurrences b m ≡ map (index vars) (occurrences u c)

  each_finished : (cs : List ℕ) → ((c : ℕ) → Mem c cs → c < length u) → Steady table u (AllThere (length cs)) (each (renumbered vars words starts u) cs)
  each_finished cs low = each_steady table (renumbered vars words starts u) cs u (λ c i. renumbered_steady vars words starts table few short u g c (low c i))

  each_reads : (cs : List ℕ) → ((c : ℕ) → Mem c cs → c < length u) → ((c : ℕ) → Mem c cs → Reads c) → (a b : Arena) (ms : List ℕ) → Ext u a → sound table a ≡ true → each (renumbered vars words starts u) cs a ≡ Ok (ms, b)
      → flatten (map (occurrences b) ms) ≡ map (index vars) (flatten (map (occurrences u) cs))
  unfolding each flatten
  each_reads [] low h a b ms x k e = subst (λ (v : List ℕ × Arena). flatten (map (occurrences v.1) v.0) ≡ []) (ok_same e) refl
  each_reads (c ∷ cs) low h a b ms x k e =
      let p = bind_parts (renumbered vars words starts u c a) _ e in
      let q = bind_parts (each (renumbered vars words starts u) cs p.0.1) _ p.2 in
      let F = (renumbered_steady vars words starts table few short u g c (low c (head refl))).is a p.0.1 p.0.0 x k p.1 in
      let y = ext_trans x F.ext in
      let G = (each_finished cs (λ d i. low d (tail i))).is p.0.1 q.0.1 q.0.0 y F.good q.1 in
      let first = grown G.ext p.0.0 F.inside ∙ h c (head refl) a p.0.1 p.0.0 x k p.1 in
      let rest = each_reads cs (λ d i. low d (tail i)) (λ d i. h d (tail i)) p.0.1 q.0.1 q.0.0 y F.good q.1 in
      subst (λ (v : List ℕ × Arena). flatten (map (occurrences v.1) v.0) ≡ map (index vars) (flatten (map (occurrences u) (c ∷ cs)))) (ok_same q.2)
      ((λ i. first i ++ rest i) ∙ sym (map-append (index vars) (occurrences u c) (flatten (map (occurrences u) cs))))

  -- ---- at one node
  module _ (n : ℕ) (l : n < length u) where
    low : (c : ℕ) → Mem c (children (at u n)) → c < n
    low c i = let x = index_of i in omega (arith, x.is, child_lower table u g n l x.index x.inside)

    inside : (c : ℕ) → Mem c (children (at u n)) → c < length u
    inside c i = omega (arith, low c i, l)

    module _ (a b : Arena) (m : ℕ) (x : Ext u a) (h : sound table a ≡ true) (e : renumbered vars words starts u n a ≡ Ok (m, b)) where
      reads_var : disc (kind (tag (at u n))) ≡ 3 → occurrences b m ≡ map (index vars) (occurrences u n)
      reads_var q =
          let T = kind_var (tag (at u n)) q in
          let v = index vars T.number in
          let J = interned words starts table few (var_node v) a h m b (λ k. var_well table (length a) v (omega (arith, short, index_few vars T.number))) (sym (at_var vars words starts table u g n l a T.number T.is) ∙ e) in
          occurring.at_var table b J.good v (record { node = m; low = J.is.inside; is = ap tag J.is.is })
          ∙ sym (ap (map (index vars)) (occurring.at_var table u g T.number (record { node = n; low = l; is = T.is })))

      reads_other : (disc (kind (tag (at u n))) ≡ 3 → ⊥) → ((c : ℕ) → Mem c (children (at u n)) → Reads c) → occurrences b m ≡ map (index vars) (occurrences u n)
      unfolding rebuild
      reads_other f r =
          let cs = children (at u n) in
          let p = bind_parts (each (renumbered vars words starts u) cs a) _ (sym (at_other vars words starts table u g n l a (no_var (tag (at u n)) f)) ∙ e) in
          let ms = p.0.0 in
          let d = p.0.1 in
          let E = (each_finished cs inside).is a d ms x h p.1 in
          let w : well table n (node (tag (at u n)) cs) ≡ true = subst (λ (y : Node). well table n y ≡ true) (node_is (at u n) refl) (at_well table u g n l) in
          let J : Interned table (node (tag (at u n)) ms) d m b = interned words starts table few (node (tag (at u n)) ms) d E.good m b (λ k. well_again table (length d) k n (tag (at u n)) cs ms w E.inside.count E.inside.low) p.2 in
          let y = J.is.is in
          occurring.at_other table b J.good m J.is.inside (λ z. f (sym (ap (λ (o : Node). disc (kind (tag o))) y) ∙ z))
          ∙ ap (λ (o : Node). flatten (map (occurrences b) (children o))) y
          ∙ ap flatten (map_below (occurrences b) (occurrences d) (length d) ms E.inside.low (λ c k. grown J.ext c k))
          ∙ each_reads cs inside r a d ms x h p.1
          ∙ sym (ap (map (index vars)) (occurring.at_other table u g n l f))

  reads : (j n : ℕ) → n < j → n < length u → Reads n
  reads zero n k l a b m x h e = absurd (omega arith)
  reads (suc j) n k l a b m x h e = go (ℕ_discrete (disc (kind (tag (at u n)))) 3) (reads j)
    where
      go : Dec (disc (kind (tag (at u n))) ≡ 3) → ((c : ℕ) → c < j → c < length u → Reads c) → occurrences b m ≡ map (index vars) (occurrences u n)
      go (yes q) f = reads_var n l a b m x h e q
      go (no q) f = reads_other n l a b m x h e q (λ c i. f c (omega (arith, low n l c i, k)) (inside n l c i))

  pub renumbered_occurrences : (n : ℕ) → n < length u → Reads n
  renumbered_occurrences n = reads (suc n) n (omega arith)
