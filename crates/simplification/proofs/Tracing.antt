-- Every place of a simplified type comes from a place of the given one, with the same sign and the same tag.
use Prim.Native.Nat.{ℕ, ◌<◌}
use mathlib.Core.Path.{◌≡◌, refl, sym, ap, ◌∙◌, subst}
use mathlib.Core.Bool.{Bool}
use mathlib.Core.List.Memᴰ.{head}
use mathlib.Core.List.{List, [], ◌∷◌, Memᴰ as Mem}
use native.Mathlib.Nat.{not-suc-le-zero}
use lib.ListN.{length, get_or}
use Rattle.std.specs.Prelude.{Ok}
use Rattle.types.specs.Node.{Polarity, Tag, members, bound, Node, node, tag, children}
use Rattle.types.specs.Arena.{Arena, at}
use Rattle.types.specs.Places.{opposite, child_sign, Place, self, down}
use Rattle.types.proofs.Walks.{step}
use Rattle.recursion.proofs.Interning.{node_is}
use Rattle.recursion.proofs.Members.{index_of, member_at, each_member}
use Rattle.simplification.specs.Pass.{remaining, member_list}
use Rattle.simplification.proofs.Members.{remaining_from, decided_by, Brought, itself, spliced}
use Rattle.simplification.proofs.Copies.{listed}
use Rattle.simplification.proofs.Becoming.{Stands, decided, single, several, Becomes, other, list, emptied}

-- where the place of u came from, in the type of c
pub record Origin (a : Arena) (c : ℕ) (s : Polarity) (u : ℕ) (p : Polarity) : Type 0 where
  pub number : ℕ
  pub place : Place a c s number p
  pub same : tag (at a number) ≡ tag (at a u)

-- a step down from a node that is known
pub step_back : (a : Arena) (n : ℕ) (x : Node) → at a n ≡ x → (s : Polarity) {u : ℕ} {p : Polarity} (i : ℕ) → i < length (children (at a n)) → Place a (get_or (children (at a n)) i 0) (child_sign (tag (at a n)) i s) u p
    → (i < length (children x)) × Place a (get_or (children x) i 0) (child_sign (tag x) i s) u p
step_back a n x e s {u} {p} i l q = subst (λ (x : Node). (i < length (children x)) × Place a (get_or (children x) i 0) (child_sign (tag x) i s) u p) e (l, q)

module _ (a : Arena) where
  abbrev pub Traced : ℕ → ℕ → Type 0
  Traced c m = (s : Polarity) (u : ℕ) (p : Polarity) → Place a m s u p → Origin a c s u p

  -- a step to a member of a list
  pub list_step : (n : ℕ) (k : Polarity) (ds : List ℕ) → at a n ≡ node (members k) ds → {d u : ℕ} {s p : Polarity} → Mem d ds → Place a d s u p → Place a n s u p
  unfolding child_sign
  list_step n k ds e {d} {u} {s} {p} i q = let j = index_of i in step a n (node (members k) ds) e j.index j.inside (subst (λ (c : ℕ). Place a c s u p) (sym j.is) q)

  from_member : (c : ℕ) (k : Polarity) (ds : List ℕ) → at a c ≡ node (members k) ds → (d : ℕ) → Mem d ds → (m : ℕ) → Traced d m → Traced c m
  from_member c k ds e d i m f s u p q = let O = f s u p q in record { number = O.number; place = list_step c k ds e i O.place; same = O.same }

  -- a node that is rebuilt from what its children became
  rebuilt : {t : Tag} (ds es : List ℕ) (c m : ℕ) → at a c ≡ node t ds → at a m ≡ node t es → length es ≡ length ds → ((i : ℕ) → i < length ds → Traced (get_or ds i 0) (get_or es i 0)) → Traced c m
  rebuilt ds es c m hc hm q f s u p self = record { number = c; place = self; same = ap tag hc ∙ sym (ap tag hm) }
  rebuilt {t} ds es c m hc hm q f s u p (down i l r) =
      let d = step_back a m (node t es) hm s i l r in
      let k : i < length ds = subst (λ (j : ℕ). i < j) q d.0 in
      let O = f i k (child_sign t i s) u p d.1 in
      record { number = O.number; place = step a c (node t ds) hc i k O.place; same = O.same }

  module _ (c : ℕ) (k : Polarity) (es : List ℕ) (h : (e : ℕ) → Mem e es → Traced c e) where
    brought : (l : List ℕ) → member_list k a es ≡ Ok l → (x : ℕ) → Mem x l → Traced c x
    brought l e x i = let q = (listed k a es l e).from x i in go q.0 (h q.0 q.1) q.2
      where
        go : (m : ℕ) → Traced c m → Brought k m (at a m) x → Traced c x
        go m f (itself r u v) = subst (Traced c) (sym r) f
        go m f (spliced r j) = λ s u p q. f s u p (list_step m k (children (at a m)) (node_is (at a m) r) j q)

    stood : (ds : List ℕ) (m : ℕ) → at a c ≡ node (members k) ds → Stands a k es m → Traced c m
    unfolding child_sign
    stood ds m hc (decided e im) s u p self =
        let q = decided_by k a es e in
        let O = h q.0 q.1 s q.0 s self in
        record { number = O.number; place = O.place; same = O.same ∙ q.2 ∙ sym (ap tag im.is) }
    stood ds m hc (decided e im) s u p (down i l q) = let d = step_back a m (node (bound (opposite k)) []) im.is s i l q in absurd (not-suc-le-zero d.0)
    stood ds m hc (single e f l) s u p q = brought (m ∷ []) f m (head refl) s u p q
    stood ds m hc (several e f im) s u p self = record { number = c; place = self; same = ap tag hc ∙ sym (ap tag im.is) }
    stood ds m hc (several {x = x} {y = y} {zs = zs} e f im) s u p (down i l q) =
        let d = step_back a m (node (members k) (x ∷ y ∷ zs)) im.is s i l q in brought (x ∷ y ∷ zs) f (get_or (x ∷ y ∷ zs) i 0) (member_at (x ∷ y ∷ zs) i d.0) s u p d.1

  -- what the members that remain became
  remained : (R : ℕ → Bool) (c : ℕ) (k : Polarity) (ds es : List ℕ) → at a c ≡ node (members k) ds → length es ≡ length (remaining R a ds)
      → ((i : ℕ) → i < length (remaining R a ds) → Traced (get_or (remaining R a ds) i 0) (get_or es i 0)) → (e : ℕ) → Mem e es → Traced c e
  remained R c k ds es hc q f = each_member (Traced c) (length (remaining R a ds)) es q (λ i l.
      from_member c k ds hc (get_or (remaining R a ds) i 0) (remaining_from R a ds _ (member_at (remaining R a ds) i l)) (get_or es i 0) (f i l))

  pub traced : {R : ℕ → Bool} {c m : ℕ} → Becomes a R c m → Traced c m
  traced {R} {c} {m} (other ds es ic n q sub im) = rebuilt ds es c m ic.is im.is q (λ i l. traced (sub i l))
  traced {R} {c} {m} (list k ds es ic q sub end) = stood c k es (remained R c k ds es ic.is q (λ i l. traced (sub i l))) ds m ic.is end
  traced {R} {c} {m} (emptied k ds es ic p q sub e f first) = from_member c k ds ic.is (get_or ds 0 0) (member_at ds 0 p) m (traced first)
