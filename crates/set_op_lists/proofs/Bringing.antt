-- What a normalized member brings, by its kind, and the same from its outcome.
use Prim.Native.Nat.{ℕ, ◌<◌}
use mathlib.Core.Path.{◌≡◌, sym, ap, ◌∙◌, subst}
use mathlib.Core.List.{List, [], ◌∷◌}
use native.Mathlib.Omega.{arith}
use lib.ListN.{length}
use Rattle.std.specs.Prelude.{Ok, Err}
use Rattle.types.specs.declared.refusal.Refusal.{Refusal}
use Rattle.types.specs.Out.{Out}
use Rattle.types.specs.Kind.{disc}
use Rattle.types.specs.Node.{Polarity, members, Node, tag, kind, children, encode}
use Rattle.types.specs.Arena.{Arena, at}
use Rattle.types.specs.Fault.{children_in}
use Rattle.types.specs.Memory.{Holds}
use Rattle.types.specs.declared.Counters.{Counters}
use Rattle.types.proofs.Refusals.{ok_pair}
use Rattle.types.proofs.Faults.{children_encode}
use Rattle.types.proofs.Sound.{at_formed}
use Rattle.node_store.specs.Inner.Stored.{NodeAt}
use Rattle.node_reading.specs.Inner.{KindAt}
use Rattle.simplification.proofs.Answers.{same_tag_if, same_tag_not}
use Rattle.member_lists.specs.Inner.Members.{grown_out, Grows, Splicing}
use Rattle.member_lists.proofs.BoundKinds.{list_told}
use Rattle.set_op_lists.specs.SetOps.{brings}
use Rattle.set_op_lists.specs.Inner.{Appends, Bringing, BringsNode, Brings}

-- ---- one node
module _ (k : Polarity) (m : ℕ) (x : Node) where
  pub brings_list : tag x ≡ members k → brings k m x ≡ children x
  unfolding brings
  brings_list e = rw (brings, same_tag_if _ _ e)

  pub brings_other : (tag x ≡ members k → ⊥) → brings k m x ≡ m ∷ []
  unfolding brings
  brings_other f = rw (brings, same_tag_not _ _ f)

own_kind : {w s : List ℕ} {c : Counters} {m n own : ℕ} → n ≡ m → KindAt w s c n own → {table : ℕ} {a : Arena} → Holds table w s c a → own ≡ disc (kind (tag (at a m)))
own_kind e K {table} {a} H = K.is table a H ∙ ap (λ (i : ℕ). disc (kind (tag (at a i)))) e

module _ {w s : List ℕ} {c : Counters} {m : ℕ} {items : List ℕ} {count : ℕ} {met : List ℕ} (S : Splicing w s c m items count met) {n own : ℕ} (e : n ≡ m) (K : KindAt w s c n own) where
  pub appends_members : {number : ℕ} → own ≡ number → {ws items' met' : List ℕ} {r : Out ℕ} → NodeAt w s c n ws → Grows items count met (children_in ws) items' met' r → Appends w s c number m items count met items' met' r
  appends_members {number} q {ws} {items'} {met'} {r} N G = record {
    is = λ table a k H p.
        let t : tag (at a m) ≡ members k = list_told (tag (at a m)) k (sym (own_kind e K H) ∙ q ∙ p) in
        let l : m < length a = omega (arith, S.range.inside, H.nodes) in
        let z : children_in ws ≡ brings k m (at a m)
        = ap children_in (N.is table a H ∙ ap (λ (i : ℕ). encode (at a i)) e) ∙ children_encode (at a m) (at_formed table a H.good m l) ∙ sym (brings_list k m (at a m) t) in
        subst (λ (xs : List ℕ). Grows items count met xs items' met' r) z G;
  }

  pub appends_itself : {number : ℕ} → (own ≡ number → ⊥) → {items' met' : List ℕ} {r : Out ℕ} → Grows items count met (m ∷ []) items' met' r → Appends w s c number m items count met items' met' r
  appends_itself {number} f {items'} {met'} {r} G = record {
    is = λ table a k H p. subst (λ (xs : List ℕ). Grows items count met xs items' met' r) (sym (brings_other k m (at a m) (λ t. f (own_kind e K H ∙ ap (λ u. disc (kind u)) t ∙ sym p)))) G;
  }

-- ---- an outcome
module _ {w s : List ℕ} {r : Out (ℕ × Counters)} {number : ℕ} {items : List ℕ} {count : ℕ} {met : List ℕ} (B : Bringing w s r number items count met) where
  pub passes_on : {e : Refusal} → r ≡ Err e → Brings w s r number items count items met (Err e)
  passes_on {e} q = record {
    refused = λ x p. let z : e ≡ x = cc in ap Err z;
    node = λ m d p. let z : ◌≡◌ {A = ℕ} 0 1 = cc in absurd (omega arith);
  }

  module _ {m : ℕ} {d : Counters} (q : r ≡ Ok (m, d)) where
    pub bring_ready : Splicing w s d m items count met
    bring_ready = record { range = B.range m d q; growing = B.growing }

    module _ {items' met' : List ℕ} {g : Out ℕ} (A : Appends w s d number m items count met items' met' g) where
      -- for the one node that it is
      as_node : {b : Out (ℕ × Counters)} → BringsNode w s d number m items count items' met' b → Brings w s r number items count items' met' b
      as_node {b} N = record {
        refused = λ x p. let z : ◌≡◌ {A = ℕ} 0 1 = cc in absurd (omega arith);
        node = λ i f p.
            let (x, y) = ok_pair (sym q ∙ p) in
            subst (λ (j : ℕ). BringsNode w s f number j items count items' met' b) x (subst (λ (h : Counters). BringsNode w s h number m items count items' met' b) y N);
      }

      grows : Grows items count met (brings B.side m (at (B.range m d q).lent.view m)) items' met' g
      grows = let L = (B.range m d q).lent in A.is L.table L.view B.side L.holds B.kind_is

      pub brings_more : {n : ℕ} → g ≡ Ok n → Brings w s r number items count items' met' (Ok (n, d))
      brings_more {n} p = as_node (record {
        growing = λ i f z. grows.growing i (p ∙ ap Ok (ok_pair z).0);
        counters = λ i f z. (ok_pair z).1;
        is = λ table a k H u. ap (grown_out items') (sym p) ∙ (A.is table a k H u).is;
      })

      pub brings_full : {e : Refusal} → g ≡ Err e → Brings w s r number items count items' met' (Err e)
      brings_full p = as_node (record {
        growing = λ i f z. let x : ◌≡◌ {A = ℕ} 0 1 = cc in absurd (omega arith);
        counters = λ i f z. let x : ◌≡◌ {A = ℕ} 0 1 = cc in absurd (omega arith);
        is = λ table a k H u. ap (grown_out items') (sym p) ∙ (A.is table a k H u).is;
      })
