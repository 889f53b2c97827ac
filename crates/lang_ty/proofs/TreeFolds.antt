-- What is computed at two nodes with one tree, from their tags and from what is computed at their children, is related if it is so at any two tags of one label: by the numbers of the nodes, which fall.
use Prim.Native.Nat.{ℕ, zero, suc, ◌<◌}
use mathlib.Core.Path.{◌≡◌, refl, sym, ◌∙◌, subst₂}
use mathlib.Core.Bool.{true}
use mathlib.Core.List.{List, [], ◌∷◌, map}
use native.Mathlib.Omega.{arith}
use lib.ListN.{length}
use Rattle.types.specs.Node.{Tag, tag, children, names, below}
use Rattle.types.specs.Arena.{Arena, at, fold, sound}
use Rattle.types.proofs.Lists.{below_cons}
use Rattle.types.proofs.Nodes.{cons}
use Rattle.types.proofs.Sound.{children_below, fold_at}
use Rattle.names.specs.Table.{Name}
use Rattle.equal.specs.Equal.{label_of, tree}
use Rattle.equal.proofs.OnePartner.{over_parts, tree_at, named_at}

-- ---- two lists of one length, related item by item
pub data Pairs {A B : Type 0} (R : A → B → Type 0) : List A → List B → Type 0 where
  end : Pairs R [] []
  next : {x : A} {y : B} {xs : List A} {ys : List B} → R x y → Pairs R xs ys → Pairs R (x ∷ xs) (y ∷ ys)

pub pairs_equal : {A : Type 0} {xs ys : List A} → Pairs ◌≡◌ xs ys → xs ≡ ys
pairs_equal end = refl
pairs_equal (next e P) = cons e (pairs_equal P)

-- each of two numbers is below a bound, and they have the same value
pub record Same {T : Type 0} (F G : ℕ → T) (p q i j : ℕ) : Type 0 where
  pub left : i < p
  pub right : j < q
  pub is : F i ≡ G j

pub paired : {T : Type 0} (F G : ℕ → T) (p q : ℕ) (xs ys : List ℕ) → below p xs ≡ true → below q ys ≡ true → map F xs ≡ map G ys → Pairs (Same F G p q) xs ys
paired F G p q [] [] h k e = end
paired F G p q [] (y ∷ ys) h k e = let z : ◌≡◌ {A = ℕ} 0 1 = cc in absurd (omega arith)
paired F G p q (x ∷ xs) [] h k e = let z : ◌≡◌ {A = ℕ} 0 1 = cc in absurd (omega arith)
paired F G p q (x ∷ xs) (y ∷ ys) h k e =
    let l = below_cons p x xs h in
    let r = below_cons q y ys k in
    let v : F x ≡ G y = cc in
    let w : map F xs ≡ map G ys = cc in
    next (record { left = l.0; right = r.0; is = v }) (paired F G p q xs ys l.1 r.1 w)

mapped : {X Y : Type 0} {Q : ℕ → ℕ → Type 0} {xs ys : List ℕ} (R : X → Y → Type 0) (F : ℕ → X) (G : ℕ → Y) → ((i j : ℕ) → Q i j → R (F i) (G j)) → Pairs Q xs ys → Pairs R (map F xs) (map G ys)
mapped R F G h end = end
mapped R F G h (next {x = x} {y = y} q P) = next (h x y q) (mapped R F G h P)

-- ---- two tags of one label, each with names of its table
pub record SameTags (ns ms : List Name) (t u : Tag) : Type 0 where
  pub left : below (length ns) (names t) ≡ true
  pub right : below (length ms) (names u) ≡ true
  pub is : label_of ns t ≡ label_of ms u

module _ (ns ms : List Name) {X Y : Type 0} (R : X → Y → Type 0) (F : Tag → List X → X) (G : Tag → List Y → Y) (step : (t u : Tag) → SameTags ns ms t u → (xs : List X) (ys : List Y) → Pairs R xs ys → R (F t xs) (G u ys)) (a b : Arena) (g : sound (length ns) a ≡ true) (h : sound (length ms) b ≡ true) where
  by_number : (j n m : ℕ) → n < j → n < length a → m < length b → tree ns a n ≡ tree ms b m → R (fold F a n) (fold G b m)
  by_number zero n m i k l e = absurd (omega arith)
  by_number (suc j) n m i k l e =
      let v = over_parts _ _ _ _ (sym (tree_at ns (length ns) a g n k) ∙ e ∙ tree_at ms (length ms) b h m l) in
      let P = paired (tree ns a) (tree ms b) n m (children (at a n)) (children (at b m)) (children_below (length ns) a g n k) (children_below (length ms) b h m l) v.1 in
      let T : SameTags ns ms (tag (at a n)) (tag (at b m)) = record { left = (named_at ns a g n k).inside; right = (named_at ms b h m l).inside; is = v.0 } in
      subst₂ R (sym (fold_at F (length ns) a g n k)) (sym (fold_at G (length ms) b h m l))
      (step _ _ T _ _ (mapped R (fold F a) (fold G b) (λ c d S. by_number j c d (omega (arith, S.left)) (omega (arith, S.left)) (omega (arith, S.right)) S.is) P))

  pub folds_related : (n m : ℕ) → n < length a → m < length b → tree ns a n ≡ tree ms b m → R (fold F a n) (fold G b m)
  folds_related n m = by_number (suc n) n m (omega arith)
