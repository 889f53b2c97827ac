-- A search from the newest node to the oldest.
use Prim.Native.Nat.{ℕ, ◌-◌, ◌<◌, ◌≤◌}
use mathlib.Core.Path.{◌≡◌, refl, sym, ap, ◌∙◌, subst}
use mathlib.Core.Bool.{Bool, true, false}
use mathlib.Core.List.{List, [], ◌∷◌}
use mathlib.Core.Option.{Option, none, some}
use native.Mathlib.Omega.{arith}
use lib.ListN.{length, get_or}
use Rattle.std.specs.Prelude.{Some, None}
use Rattle.words.specs.Words.{child}
use Rattle.types.specs.Node.{Node, encode, formed, children}
use Rattle.types.specs.Arena.{Arena, at, find, Ext, here}
use Rattle.types.specs.Fault.{children_in}
use Rattle.types.specs.Memory.{Holds}
use Rattle.types.specs.declared.Counters.{Counters}
use Rattle.types.proofs.Growth.{ext_tail, ext_at, at_new}
use Rattle.types.proofs.Faults.{children_encode}
use Rattle.types.proofs.Sound.{find_at, child_lower}
use Rattle.node_store.specs.Inner.Children.{ChildWords}
use Rattle.node_store.specs.Inner.Stored.{IsThere, Later, kept, taken, AfterChildren, Searched, FoundIn}
use Rattle.node_store.proofs.Offspring.{as_many, child_is}

-- ---- a number after the children
module _ {ws : List ℕ} where
  pub after_none : AfterChildren ws 0
  after_none = record { child = λ h. absurd (omega arith) }

  pub after_more : {low i m r : ℕ} {b : List ℕ} → AfterChildren ws low → ChildWords ws b → i < length b → m ≡ child (get_or b i 0) → Later low m r → AfterChildren ws r
  after_more F B h e (kept q) = subst (AfterChildren ws) (sym q) F
  after_more {i = i} F B h e (taken q) = record { child = λ k. record { index = i; inside = omega (arith, as_many B, h); is = omega (arith, child_is B i e, q) } }

-- the nodes not yet looked at: x is among them or nowhere
pub record Rest (a : Arena) (x : Node) (i : ℕ) : Type 0 where
  pub older : Arena
  pub count : length older ≡ i
  pub ext : Ext older a
  pub same : find x a ≡ find x older

record Last (a : Arena) (x : Node) (i : ℕ) : Type 0 where
  pub older : Arena
  pub count : length older ≡ i
  pub ext : Ext older a
  pub same : find x a ≡ find x (at a i ∷ older)

last : {a : Arena} {x : Node} {i : ℕ} → Rest a x i → 0 < i → Last a x (i - 1)
last {a} {x} {i} R h = go R.older R.count R.ext R.same
  where
    go : (b : Arena) → length b ≡ i → Ext b a → find x a ≡ find x b → Last a x (i - 1)
    go [] c e f = absurd (omega arith)
    go (y ∷ b) c e f =
        let k : length b ≡ i - 1 = omega arith in
        let q : at a (i - 1) ≡ y = ap (at a) (sym k) ∙ ext_at (y ∷ b) a e (length b) (omega arith) ∙ at_new y b in
        record { older = b; count = k; ext = ext_tail e; same = f ∙ ap (λ (z : Node). find x (z ∷ b)) (sym q) }

pub record Seeks (w s : List ℕ) (c : Counters) (ws : List ℕ) (i : ℕ) : Type 0 where
  pub sought : Searched w s c ws
  pub high : i ≤ c.nodes
  pub rest : (table : ℕ) (a : Arena) (x : Node) → Holds table w s c a → formed x ≡ true → ws ≡ encode x → Rest a x i

module _ {w s : List ℕ} {c : Counters} {ws : List ℕ} where
  pub seek_start : Searched w s c ws → Seeks w s c ws c.nodes
  seek_start L = record { sought = L; high = omega arith; rest = λ t a x H p e. record { older = a; count = sym H.nodes; ext = here; same = refl } }

  module _ {i : ℕ} (S : Seeks w s c ws i) where
    -- the nodes not looked at have too low numbers for the words
    pub seek_done : {low : ℕ} → AfterChildren ws low → i ≤ low → FoundIn w s c ws None
    seek_done F h = record { is = λ t a x H p e. go t a x H p e (find x (S.rest t a x H p e).older) refl }
      where
        go : (t : ℕ) (a : Arena) (x : Node) (H : Holds t w s c a) (p : formed x ≡ true) (e : ws ≡ encode x) (o : Option ℕ) → find x (S.rest t a x H p e).older ≡ o → none ≡ find x a
        go t a x H p e none f = sym ((S.rest t a x H p e).same ∙ f)
        go t a x H p e (some n) f =
            let R = S.rest t a x H p e in
            let q = find_at x R.older n f in
            let at_n : at a n ≡ x = ext_at R.older a R.ext n q.0 ∙ q.1 in
            let U = F.child (omega (arith, q.0, R.count, h)) in
            let same : children_in ws ≡ children (at a n) = ap children_in e ∙ children_encode x p ∙ ap children (sym at_n) in
            let l : n < length a = omega (arith, q.0, R.count, S.high, H.nodes) in
            let k = child_lower t a H.good n l U.index (subst (λ (cs : List ℕ). U.index < length cs) same U.inside) in
            absurd (omega (arith, k, ap (λ (cs : List ℕ). get_or cs U.index 0) same, U.is, q.0, R.count, h))

    module _ {low : ℕ} (h : low < i) where
      module _ {b : Bool} (N : IsThere w s c (i - 1) ws b) where
        pub seek_more : b ≡ false → Seeks w s c ws (i - 1)
        unfolding find
        seek_more f = record {
          sought = S.sought;
          high = omega (arith, h, S.high);
          rest = λ t a x H p q.
              let L = last (S.rest t a x H p q) (omega (arith, h)) in
              record { older = L.older; count = L.count; ext = L.ext; same = L.same ∙ rw (find, sym (N.is t a x H p q) ∙ f) };
        }

        pub seek_hit : b ≡ true → FoundIn w s c ws (Some (i - 1))
        unfolding find
        seek_hit f = record { is = λ t a x H p q. let L = last (S.rest t a x H p q) (omega (arith, h)) in sym (L.same ∙ rw (find, sym (N.is t a x H p q) ∙ f) (ap some L.count)) }
