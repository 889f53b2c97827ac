-- A sound arena: its parts, its nodes, and where a node is found.
use Prim.Native.Nat.{ℕ, ◌<◌}
use mathlib.Core.Path.{◌≡◌, refl, sym, ap, ◌∙◌}
use mathlib.Core.Bool.{Bool, true, false}
use mathlib.Core.List.{List, [], ◌∷◌, map}
use mathlib.Core.Option.{Option, some}
use native.Mathlib.Omega.{arith}
use lib.ListN.{length}
use lib.Dec.{eqb}
use borrow.Author.Tests.{eqb-true, eqb-false}
use Rattle.types.specs.Same.{same}
use Rattle.types.specs.Node.{Tag, Node, node, tag, children, node_dec, below, formed, linked, well, bound, positive}
use Rattle.types.specs.Arena.{Arena, at, fold, find, absent, sound, Ext, here, more}
use Rattle.types.specs.Theorems.{ExtFold, FoldAt, ChildLower, FindAt, AtFind}
use Rattle.types.proofs.Tests.{true_false, and_true, both, same_true, same_if}
use Rattle.types.proofs.Lists.{below_at, below_cons}
use Rattle.types.proofs.Decodes.{well_parts}
use Rattle.types.proofs.Growth.{at_grow, at_new, ext_tail, ext_rec, before, rec_at}

module _ (table : ℕ) (x : Node) (s : Arena) where
  module _ (h : sound table (x ∷ s) ≡ true) where
    pub sound_well : well table (length s) x ≡ true
    unfolding sound
    sound_well = (and_true (well table (length s) x) _ h).0

    pub sound_fresh : absent (find x s) ≡ true
    unfolding sound
    sound_fresh = (and_true (absent (find x s)) _ (and_true (well table (length s) x) _ h).1).0

    pub sound_tail : sound table s ≡ true
    unfolding sound
    sound_tail = (and_true (absent (find x s)) _ (and_true (well table (length s) x) _ h).1).1

  pub sound_more : well table (length s) x ≡ true → absent (find x s) ≡ true → sound table s ≡ true → sound table (x ∷ s) ≡ true
  unfolding sound
  sound_more p q r = both p (both q r)

pub sound_ext : (table : ℕ) {b a : Arena} → Ext b a → sound table a ≡ true → sound table b ≡ true
sound_ext table here h = h
sound_ext table (more {a = d} x e) h = sound_ext table e (sound_tail table x d h)

-- ---- the nodes of a sound arena
linked_children : (table n : ℕ) (x : Node) → linked table n x ≡ true → below n (children x) ≡ true
unfolding linked
linked_children table n (node t cs) e = (and_true (below n cs) _ e).0

module _ (table : ℕ) (a : Arena) (h : sound table a ≡ true) (n : ℕ) (l : n < length a) where
  pub at_well : well table n (at a n) ≡ true
  at_well = let B = before a n l in rw B.count at (sound_well table (at a n) B.older (sound_ext table B.ext h))

  pub at_formed : formed (at a n) ≡ true
  at_formed = (well_parts table n (at a n) at_well).formed_so

  -- each child has a lower number
  pub children_below : below n (children (at a n)) ≡ true
  children_below = linked_children table n (at a n) (well_parts table n (at a n) at_well).linked_so

pub child_lower : ChildLower
child_lower table a h n l = below_at n (children (at a n)) (children_below table a h n l)

-- ---- the value of a node, from its children's
pub map_below {ℓ} : {Y : Type ℓ} (f g : ℕ → Y) (n : ℕ) (cs : List ℕ) → below n cs ≡ true → ((c : ℕ) → c < n → f c ≡ g c) → map f cs ≡ map g cs
map_below f g n [] e h = refl
map_below f g n (c ∷ cs) e h = let p = below_cons n c cs e in λ i. h c p.0 i ∷ map_below f g n cs p.1 h i

pub fold_at {ℓ} : {Y : Type ℓ} (value : Tag → List Y → Y) → FoldAt value
unfolding fold
fold_at value table a h n l =
    let B = before a n l in
    let old : (c : ℕ) → c < n → fold value B.older c ≡ fold value a c = λ c k. sym (ext_rec (λ s x f. value (tag x) (map f (children x))) (value (bound positive) []) B.older a (ext_tail B.ext) c (omega (arith, B.count))) in
    rec_at (λ s x f. value (tag x) (map f (children x))) (value (bound positive) []) a n l ∙ ap (value (tag (at a n))) (map_below (fold value B.older) (fold value a) n (children (at a n)) (children_below table a h n l) old)

pub ext_fold {ℓ} : {Y : Type ℓ} (value : Tag → List Y → Y) → ExtFold value
unfolding fold
ext_fold value = ext_rec (λ s x f. value (tag x) (map f (children x))) (value (bound positive) [])

-- ---- what is found is there
pub find_at : FindAt
unfolding find
find_at x [] n e = let z : ◌≡◌ {A = ℕ} 0 1 = cc in absurd (omega arith)
find_at x (y ∷ s) n e = go (same node_dec x y) refl e (find_at x s n)
  where
    go : (b : Bool) → same node_dec x y ≡ b → elim b as (λ _. Option ℕ) [ true ↦ some (length s) | false ↦ find x s ] ≡ some n → (find x s ≡ some n → (n < length s) × (at s n ≡ x)) → (n < length (y ∷ s)) × (at (y ∷ s) n ≡ x)
    go true q p f = let k : length s ≡ n = cc in (omega arith, ap (at (y ∷ s)) (sym k) ∙ at_new y s ∙ sym (same_true node_dec x y q))
    go false q p f = let r = f p in (let l = r.0 in omega arith, at_grow y s n r.0 ∙ r.1)

-- and what is there is found: in a sound arena a node has one number
pub at_find : AtFind
unfolding find
at_find table [] h n l = absurd (omega arith)
at_find table (y ∷ s) h n l = go (eqb n (length s)) refl (at_find table s (sound_tail table y s h) n)
  where
    old : (k : n < length s) → find (at s n) s ≡ some n → (b : Bool) → same node_dec (at s n) y ≡ b → elim b as (λ _. Option ℕ) [ true ↦ some (length s) | false ↦ find (at s n) s ] ≡ some n
    old k f true q = absurd (true_false (sym (sound_fresh table y s h) ∙ ap (λ (x : Node). absent (find x s)) (sym (same_true node_dec (at s n) y q)) ∙ ap absent f))
    old k f false q = f

    go : (b : Bool) → eqb n (length s) ≡ b → (n < length s → find (at s n) s ≡ some n) → find (at (y ∷ s) n) (y ∷ s) ≡ some n
    go true e f =
        let q : n ≡ length s = eqb-true n (length s) e in
        ap (λ (x : Node). find x (y ∷ s)) (ap (at (y ∷ s)) q ∙ at_new y s) ∙ rw (find, same_if node_dec y y refl) (ap some (sym q))
    go false e f =
        let k : n < length s = let z : n ≡ length s → ⊥ = eqb-false n (length s) e in omega arith in
        ap (λ (x : Node). find x (y ∷ s)) (at_grow y s n k) ∙ old k (f k) (same node_dec (at s n) y) refl
