-- From nodes to their children and back: nodes with equal trees have the same labels and children with equal trees beside one another, and conversely.
use Prim.Native.Nat.{ℕ, zero, suc, ◌<◌, zero-le, suc-le-suc}
use mathlib.Core.Path.{◌≡◌, refl, sym, ap, ap₂, ◌∙◌}
use mathlib.Core.Bool.{true}
use mathlib.Core.List.{List, [], ◌∷◌, map}
use native.Mathlib.Omega.{arith}
use native.Mathlib.Nat.{le_of_suc-le-suc}
use lib.ListN.{length, get_or, length-map}
use Rattle.types.specs.Node.{tag, children}
use Rattle.types.specs.Arena.{Arena, at, sound}
use Rattle.types.specs.declared.Counters.{Counters}
use Rattle.types.proofs.Nodes.{cons}
use Rattle.types.proofs.Addresses.{start_room}
use Rattle.names.specs.Table.{Name}
use Rattle.equal.specs.Equal.{Tree, over, label_of, tree}
use Rattle.soundness.specs.Inner.Sides.{Side}
use Rattle.equal.specs.Inner.Pairs.{Beside}
use Rattle.equal.proofs.OnePartner.{over_parts, tree_at}
use Rattle.equal.proofs.SameNodes.{Alike}

-- ---- two lists of trees
beside_trees : (f g : ℕ → Tree) (cs ds : List ℕ) → map f cs ≡ map g ds → (i : ℕ) → i < length cs → f (get_or cs i 0) ≡ g (get_or ds i 0)
beside_trees f g [] ds e i l = absurd (omega arith)
beside_trees f g (c ∷ cs) [] e i l = let z : ◌≡◌ {A = ℕ} 0 1 = cc in absurd (omega arith)
beside_trees f g (c ∷ cs) (d ∷ ds) e zero l = cc
beside_trees f g (c ∷ cs) (d ∷ ds) e (suc i) l = let r : map f cs ≡ map g ds = cc in beside_trees f g cs ds r i (le_of_suc-le-suc l)

trees_beside : (f g : ℕ → Tree) (cs ds : List ℕ) → length cs ≡ length ds → ((i : ℕ) → i < length cs → f (get_or cs i 0) ≡ g (get_or ds i 0)) → map f cs ≡ map g ds
trees_beside f g [] [] e h = refl
trees_beside f g [] (d ∷ ds) e h = absurd (omega arith)
trees_beside f g (c ∷ cs) [] e h = absurd (omega arith)
trees_beside f g (c ∷ cs) (d ∷ ds) e h = cons (h 0 (suc-le-suc zero-le)) (trees_beside f g cs ds (omega arith) (λ i l. h (suc i) (suc-le-suc l)))

-- ---- two nodes
module _ (ns : List Name) (table : ℕ) (a : Arena) (h : sound table a ≡ true) (ms : List Name) (other : ℕ) (b : Arena) (k : sound other b ≡ true) (n p : ℕ) (i : n < length a) (j : p < length b) where
  parts : tree ns a n ≡ tree ms b p → (label_of ns (tag (at a n)) ≡ label_of ms (tag (at b p))) × (map (tree ns a) (children (at a n)) ≡ map (tree ms b) (children (at b p)))
  parts e = over_parts _ _ _ _ (sym (tree_at ns table a h n i) ∙ e ∙ tree_at ms other b k p j)

  pub trees_alike : tree ns a n ≡ tree ms b p → Alike ns ms (at a n) (at b p)
  trees_alike e = record {
    labels = (parts e).0;
    counts = sym (length-map (children (at a n)) (tree ns a)) ∙ ap length (parts e).1 ∙ length-map (children (at b p)) (tree ms b);
  }

  pub child_trees : tree ns a n ≡ tree ms b p → (c d : ℕ) → Beside (children (at a n)) (children (at b p)) c d → tree ns a c ≡ tree ms b d
  child_trees e c d B =
      ap (tree ns a) B.left ∙ beside_trees (tree ns a) (tree ms b) (children (at a n)) (children (at b p)) (parts e).1 B.index B.inside ∙ ap (tree ms b) (sym B.right)

  pub alike_trees : Alike ns ms (at a n) (at b p) → ((c d : ℕ) → Beside (children (at a n)) (children (at b p)) c d → tree ns a c ≡ tree ms b d) → tree ns a n ≡ tree ms b p
  alike_trees A f =
      tree_at ns table a h n i
      ∙ ap₂ over A.labels (trees_beside (tree ns a) (tree ms b) (children (at a n)) (children (at b p)) A.counts (λ x l. f _ _ (record { index = x; inside = l; left = refl; right = refl })))
      ∙ sym (tree_at ms other b k p j)

-- ---- the nodes of a side are at most 4,096
pub side_small : {t w s : List ℕ} {c : Counters} {n : ℕ} → Side t w s c → n < c.nodes → n < 4096
side_small S l = let H = S.holds in omega (arith, l, start_room H, H.few_starts)
