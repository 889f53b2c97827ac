-- Copies: a node of one arena and a node of another with the same tag, whose children are copies in turn. Whatever is read off the tags has the same value at both,
-- each node with a place below the one has a copy with a place of the same sign below the other, and a node has one copy.
use Prim.Native.Nat.{ℕ, ◌<◌}
use mathlib.Core.Path.{◌≡◌, refl, sym, ap, ◌∙◌, subst}
use mathlib.Core.Bool.{true}
use mathlib.Core.List.{List}
use mathlib.Core.Option.{some}
use native.Mathlib.Omega.{arith}
use lib.ListN.{length, get_or}
use lib.Seq.{ext_get_or}
use Rattle.types.specs.Node.{Polarity, Tag, Node, node, tag, children}
use Rattle.types.specs.Arena.{Arena, at, fold, find, sound, Ext}
use Rattle.types.specs.Places.{child_sign, Place, self, down}
use Rattle.types.proofs.Growth.{ext_length, ext_at}
use Rattle.types.proofs.Lists.{map_each}
use Rattle.types.proofs.Sound.{child_lower, fold_at, at_find}
use Rattle.recursion.proofs.Interning.{node_is, At}
use Rattle.copying.specs.Theorems.{CopyOf, copied, CopyAt}

pub copy_inside : {u b : Arena} {n m : ℕ} → CopyOf u b n m → m < length b
copy_inside (copied k l t q f) = l

-- a node with the tag and the children's copies
pub copy_made : {u b : Arena} {n m : ℕ} {ms : List ℕ} → n < length u → At b m (node (tag (at u n)) ms) → length ms ≡ length (children (at u n))
    → ((i : ℕ) → i < length (children (at u n)) → CopyOf u b (get_or (children (at u n)) i 0) (get_or ms i 0)) → CopyOf u b n m
copy_made {u} {b} {n} {m} {ms} k I q f =
    copied k I.inside (ap tag I.is) (ap (λ (x : Node). length (children x)) I.is ∙ q)
    (λ i l. subst (λ (x : Node). CopyOf u b (get_or (children (at u n)) i 0) (get_or (children x) i 0)) (sym I.is) (f i l))

pub copy_later : {u b d : Arena} {n m : ℕ} → Ext b d → CopyOf u b n m → CopyOf u d n m
copy_later {u} {b} {d} e (copied {n = n} {m = m} k l t q f) =
    let x = ext_at b d e m l in
    copied {m = m} k (omega (arith, l, ext_length b d e)) (ap tag x ∙ t) (ap (λ (y : Node). length (children y)) x ∙ q)
    (λ i j. subst (λ (y : Node). CopyOf u d (get_or (children (at u n)) i 0) (get_or (children y) i 0)) (sym x) (copy_later e (f i j)))

-- a copy among the old nodes was one before the arena grew
pub copy_older : (table : ℕ) {u a b : Arena} {n m : ℕ} → sound table b ≡ true → Ext a b → CopyOf u b n m → m < length a → CopyOf u a n m
copy_older table {u} {a} {b} g e (copied {n = n} {m = m} k l t q f) h =
    let x = ext_at a b e m h in
    copied {m = m} k h (ap tag (sym x) ∙ t) (ap (λ (y : Node). length (children y)) (sym x) ∙ q)
    (λ i j.
    let low = child_lower table b g m l i (omega (arith, j, q)) in
    subst (λ (y : Node). CopyOf u a (get_or (children (at u n)) i 0) (get_or (children y) i 0)) x (copy_older table g e (f i j) (omega (arith, low, h))))

-- ---- one copy a node, and one node a copy: a sound arena has no two equal nodes
pub copy_turned : {u b : Arena} {n m : ℕ} → CopyOf u b n m → CopyOf b u m n
copy_turned (copied {n = n} {m = m} k l t q f) = copied {n = m} {m = n} l k (sym t) (sym q) (λ i j. copy_turned (f i (omega (arith, j, q))))

module _ (table : ℕ) where
  pub copy_one : {u b : Arena} {n k m : ℕ} → sound table b ≡ true → CopyOf u b n k → CopyOf u b n m → k ≡ m
  copy_one {u} {b} g (copied {n = n} {m = k} i l t q f) (copied {m = m} j h r p d) =
      let cs = ext_get_or 0 (children (at b k)) (children (at b m)) (q ∙ sym p) (λ c x. copy_one g (f c (omega (arith, x, q))) (d c (omega (arith, x, q)))) in
      let ts = t ∙ sym r in
      let e : at b k ≡ at b m = node_is (at b k) refl ∙ (λ c. node (ts c) (cs c)) ∙ sym (node_is (at b m) refl) in
      let z : some k ≡ some m = sym (at_find table b g k l) ∙ ap (λ (x : Node). find x b) e ∙ at_find table b g m h in
      cc

  pub copy_injective : {u b : Arena} {n k m : ℕ} → sound table u ≡ true → CopyOf u b n m → CopyOf u b k m → n ≡ k
  copy_injective g C D = copy_one g (copy_turned C) (copy_turned D)

-- ---- what is read off the tags
module _ {ℓ} {Y : Type ℓ} where
  -- a copy has the value of the node
  module _ (value : Tag → List Y → Y) (table : ℕ) (u b : Arena) (g : sound table u ≡ true) (h : sound table b ≡ true) where
    pub copy_fold : {n m : ℕ} → CopyOf u b n m → fold value b m ≡ fold value u n
    copy_fold (copied {n = n} {m = m} k l t q f) =
        let r = map_each (fold value b) (fold value u) (children (at b m)) (children (at u n)) q (λ i j. copy_fold (f i j)) in
        fold_at value table b h m l ∙ (λ i. value (t i) (r i)) ∙ sym (fold_at value table u g n k)

-- ---- places
pub copy_place : {u b : Arena} {n m c : ℕ} {s p : Polarity} → CopyOf u b n m → Place u n s c p → CopyAt u b m s c p
copy_place {m = m} C self = record { number = m; place = self; copy = C }
copy_place {b = b} {c = c} {s = s} {p = p} (copied {n = n} {m = m} k l t q f) (down i j r) =
    let D = copy_place (f i j) r in
    record {
      number = D.number;
      place = down {n = m} i (omega (arith, j, q)) (subst (λ (x : Tag). Place b (get_or (children (at b m)) i 0) (child_sign x i s) D.number p) (sym t) D.place);
      copy = D.copy;
    }
