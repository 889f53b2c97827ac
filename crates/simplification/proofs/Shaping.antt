-- Every list in a simplified type has its shape: what is brought to a list is neither a list of its kind nor a bound.
use Prim.Native.Nat.{ℕ}
use mathlib.Core.Path.{◌≡◌, refl, sym, ap, ◌∙◌, subst}
use mathlib.Core.Bool.{Bool, false}
use mathlib.Core.List.Memᴰ.{head}
use mathlib.Core.List.{List, [], ◌∷◌, Memᴰ as Mem}
use mathlib.Core.Logic.{◌⊎◌, inl, inr}
use mathlib.Core.Option.{Option, none, some}
use native.Mathlib.Omega.{arith}
use lib.ListN.{get_or}
use Rattle.std.specs.Prelude.{Ok}
use Rattle.types.specs.Node.{Polarity, positive, negative, Tag, members, bound, node, tag, children}
use Rattle.types.specs.Arena.{Arena, at}
use Rattle.types.specs.Places.{opposite, child_sign, Place, self, down}
use Rattle.types.proofs.Tests.{true_false}
use Rattle.recursion.proofs.Interning.{node_is}
use Rattle.recursion.proofs.Members.{index_of, member_at, each_member}
use Rattle.simplification.specs.Pass.{is_decided, member_list, list_kind}
use Rattle.simplification.specs.Demand.{Shaped}
use Rattle.simplification.proofs.Members.{decided_if, Brought, itself, spliced}
use Rattle.simplification.proofs.Copies.{listed}
use Rattle.simplification.proofs.Becoming.{Stands, decided, single, several, Becomes, other, list, emptied}
use Rattle.simplification.proofs.Tracing.{step_back, list_step}

either_side : (j k : Polarity) → (j ≡ k) ⊎ (j ≡ opposite k)
either_side positive positive = inl refl
either_side positive negative = inr refl
either_side negative positive = inr refl
either_side negative negative = inl refl

no_list : {t : Tag} {k : Polarity} → list_kind t ≡ none → t ≡ members k → ⊥
no_list {t} {k} n e = let q : ◌≡◌ {A = Option Polarity} none (some k) = sym n ∙ ap list_kind e in let z : ◌≡◌ {A = ℕ} 0 1 = cc in omega arith

module _ (a : Arena) where
  -- all lists in the type of m, at whichever sign
  abbrev pub InShape : ℕ → Type 0
  InShape m = (s : Polarity) (u : ℕ) (p : Polarity) → Place a m s u p → (k : Polarity) → tag (at a u) ≡ members k → Shaped a k (children (at a u))

  -- x may be a member of a list of kind k
  record Member (k : Polarity) (x : ℕ) : Type 0 where
    pub no_own_kind : tag (at a x) ≡ members k → ⊥
    pub no_bound : (j : Polarity) → tag (at a x) ≡ bound j → ⊥
    pub shape : InShape x

  -- a node that is no list has the shape if its children have it
  rebuilt : {t : Tag} (es : List ℕ) (m : ℕ) → list_kind t ≡ none → at a m ≡ node t es → ((e : ℕ) → Mem e es → InShape e) → InShape m
  rebuilt es m n hm f s u p self k e = absurd (no_list n (sym (ap tag hm) ∙ e))
  rebuilt {t} es m n hm f s u p (down i l q) k e =
      let d = step_back a m (node t es) hm s i l q in f (get_or es i 0) (member_at es i d.0) (child_sign t i s) u p d.1 k e

  module _ (k : Polarity) (es : List ℕ) (open_so : is_decided k a es ≡ false) (h : (e : ℕ) → Mem e es → InShape e) where
    brought : (l : List ℕ) → member_list k a es ≡ Ok l → (x : ℕ) → Mem x l → Member k x
    brought l e x i = let q = (listed k a es l e).from x i in go q.0 q.1 q.2
      where
        go : (m : ℕ) → Mem m es → Brought k m (at a m) x → Member k x
        go m i (itself r u v) = subst (Member k) (sym r) (record { no_own_kind = u; no_bound = λ j e. side j e (either_side j k); shape = h m i })
          where
            side : (j : Polarity) → tag (at a m) ≡ bound j → (j ≡ k) ⊎ (j ≡ opposite k) → ⊥
            side j e (inl q) = v (e ∙ ap bound q)
            side j e (inr q) = true_false (sym (decided_if k a es m i (e ∙ ap bound q)) ∙ open_so)
        go m i (spliced r y) =
            let S = h m i positive m positive self k r in
            let j = index_of y in
            subst (Member k) j.is (record {
              no_own_kind = S.no_own_kind j.index j.inside;
              no_bound = S.no_bound j.index j.inside;
              shape = λ s u p q. h m i s u p (list_step a m k (children (at a m)) (node_is (at a m) r) (member_at (children (at a m)) j.index j.inside) q);
            })

    several_shaped : (x y : ℕ) (zs : List ℕ) → member_list k a es ≡ Ok (x ∷ y ∷ zs) → Shaped a k (x ∷ y ∷ zs)
    several_shaped x y zs e = record {
      two = omega arith;
      different = (listed k a es (x ∷ y ∷ zs) e).different;
      no_own_kind = λ i l. (brought (x ∷ y ∷ zs) e (get_or (x ∷ y ∷ zs) i 0) (member_at (x ∷ y ∷ zs) i l)).no_own_kind;
      no_bound = λ i l. (brought (x ∷ y ∷ zs) e (get_or (x ∷ y ∷ zs) i 0) (member_at (x ∷ y ∷ zs) i l)).no_bound;
    }

  stood : (k : Polarity) (es : List ℕ) (m : ℕ) → ((e : ℕ) → Mem e es → InShape e) → Stands a k es m → InShape m
  unfolding child_sign
  stood k es m h (decided e im) s u p q = rebuilt [] m refl im.is (λ d i. absurd (let j = index_of i in let z = j.inside in omega arith)) s u p q
  stood k es m h (single e f l) s u p q = (brought k es e h (m ∷ []) f m (head refl)).shape s u p q
  stood k es m h (several {x = x} {y = y} {zs = zs} e f im) s u p self =
      λ j r. let same : k ≡ j = (let z : members k ≡ members j = sym (ap tag im.is) ∙ r in cc) in
      subst (λ (c : List ℕ). Shaped a j c) (sym (ap children im.is)) (subst (λ (i : Polarity). Shaped a i (x ∷ y ∷ zs)) same (several_shaped k es e h x y zs f))
  stood k es m h (several {x = x} {y = y} {zs = zs} e f im) s u p (down i l q) =
      let d = step_back a m (node (members k) (x ∷ y ∷ zs)) im.is s i l q in (brought k es e h (x ∷ y ∷ zs) f (get_or (x ∷ y ∷ zs) i 0) (member_at (x ∷ y ∷ zs) i d.0)).shape s u p d.1

  pub in_shape : {R : ℕ → Bool} {c m : ℕ} → Becomes a R c m → InShape m
  in_shape {R} {c} {m} (other ds es ic n q sub im) = rebuilt es m n im.is (each_member InShape _ es q (λ i l. in_shape (sub i l)))
  in_shape {R} {c} {m} (list k ds es ic q sub end) = stood k es m (each_member InShape _ es q (λ i l. in_shape (sub i l))) end
  in_shape (emptied k ds es ic p q sub e f first) = in_shape first
