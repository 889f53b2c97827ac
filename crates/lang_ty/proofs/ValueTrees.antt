-- The tree of a value of a fix, from its children's trees: values that are added keep the trees of those before them.
use Prim.Native.Nat.{ℕ, suc, ◌<◌}
use mathlib.Core.Path.{◌≡◌, refl, sym, ap, ◌∙◌}
use mathlib.Core.Bool.{Bool, true, false}
use mathlib.Core.List.{List, [], ◌∷◌, map}
use native.Mathlib.Omega.{arith}
use lib.ListN.{length}
use lib.Dec.{eqb}
use borrow.Author.Tests.{eqb-false, ne_eqb}
use Rattle.types.specs.Node.{below}
use Rattle.types.proofs.Tests.{and_true}
use Rattle.types.proofs.Lists.{below_more}
use Rattle.types.proofs.Sound.{map_below}
use Rattle.names.specs.Table.{Name}
use Rattle.equal.specs.Equal.{over}
use Rattle.fix_values.specs.Values.{Value, value, shape, children, names, matched, well}
use Rattle.fix_values.specs.Fix.{Fix, value_at, good}
use Rattle.fix_values.proofs.ValueWords.{well_parts}
use Rattle.lang_ty.specs.FixTrees.{value_label, value_tree}

-- what is known of the value y, which is value v of f
pub record Known (ns : List Name) (f : Fix) (v : ℕ) (y : Value) : Type 0 where
  pub tree : value_tree ns f v ≡ over (value_label ns (shape y)) (map (value_tree ns f) (children y))
  pub matches : matched (shape y) (length (children y)) ≡ true
  pub low : below (length f) (children y) ≡ true
  pub inside : below (length ns) (names (shape y)) ≡ true

module _ (ns : List Name) where
  tree_grow : (x : Value) (f : Fix) (c : ℕ) → c < length f → value_tree ns (x ∷ f) c ≡ value_tree ns f c
  unfolding value_tree
  tree_grow x f c l = rw (value_tree, ne_eqb c (length f) (λ e. omega arith))

  trees_grow : (x : Value) (f : Fix) (cs : List ℕ) → below (length f) cs ≡ true → map (value_tree ns f) cs ≡ map (value_tree ns (x ∷ f)) cs
  trees_grow x f cs l = map_below (value_tree ns f) (value_tree ns (x ∷ f)) (length f) cs l (λ c k. sym (tree_grow x f c k))

  known_new : (x : Value) (f : Fix) (v : ℕ) → eqb v (length f) ≡ true → well (length ns) (length f) x ≡ true → Known ns (x ∷ f) v x
  unfolding value_tree
  known_new (value s cs) f v e w =
      let W = well_parts (length ns) (length f) s cs w in
      record {
        tree = rw (value_tree, e) (ap (over (value_label ns s)) (trees_grow (value s cs) f cs W.linked));
        matches = W.matches;
        low = below_more (length f) (suc (length f)) cs (omega arith) W.linked;
        inside = W.named;
      }

  known_old : (x : Value) (f : Fix) (v : ℕ) (y : Value) → eqb v (length f) ≡ false → Known ns f v y → Known ns (x ∷ f) v y
  unfolding value_tree
  known_old x f v y e K = record {
    tree = rw (value_tree, e) (K.tree ∙ ap (over (value_label ns (shape y))) (trees_grow x f (children y) K.low));
    matches = K.matches;
    low = below_more (length f) (suc (length f)) (children y) (omega arith) K.low;
    inside = K.inside;
  }

  pub known : (f : Fix) → good (length ns) f ≡ true → (v : ℕ) → v < length f → Known ns f v (value_at f v)
  unfolding value_at good
  known [] g v l = absurd (omega arith)
  known (x ∷ f) g v l = let p = and_true (well (length ns) (length f) x) (good (length ns) f) g in go (eqb v (length f)) refl p.0 (known f p.1 v)
    where
      go : (b : Bool) → eqb v (length f) ≡ b → well (length ns) (length f) x ≡ true → (v < length f → Known ns f v (value_at f v)) → Known ns (x ∷ f) v (elim b as (λ _. Value) [ true ↦ x | false ↦ value_at f v ])
      go true e w h = known_new x f v e w
      go false e w h = known_old x f v (value_at f v) e (h (let z : v ≡ length f → ⊥ = eqb-false v (length f) e in omega arith))
