-- The way down from a named type: each step keeps what the root stands for.
use Prim.Native.Nat.{ℕ, ◌<◌}
use mathlib.Core.Path.{◌≡◌, sym, ap, ◌∙◌, subst}
use mathlib.Core.Bool.{true, false}
use mathlib.Core.List.{List}
use native.Mathlib.Omega.{arith}
use lib.ListN.{length, get_or}
use lib.Dec.{eqb}
use borrow.Author.Tests.{eqb-true}
use Rattle.types.specs.Kind as kinds
use Rattle.types.specs.Kind.{disc}
use Rattle.types.specs.Node.{tag, kind, children, Node}
use Rattle.types.specs.Arena.{Arena, at}
use Rattle.types.specs.Memory.{Holds}
use Rattle.types.specs.declared.Counters.{Counters}
use Rattle.types.proofs.Tests.{not_true}
use Rattle.types.proofs.Growth.{before, ext_tail, ext_rec, rec_at}
use Rattle.node_store.specs.Inner.Stored.{Lent, InRange}
use Rattle.walks.specs.Inner.Asked.{Says}
use Rattle.node_reading.specs.Nodes.{of_kind}
use Rattle.node_reading.specs.Inner.{KindAt, ParentAt, FirstChild}
use Rattle.questions.specs.Named.{unwrap_named}
use Rattle.node_reading.proofs.NodeReads.{first_lower, first_range}

-- ---- one step down
module _ (table : ℕ) (a : Arena) (n : ℕ) (l : n < length a) where
  unwrap_at : unwrap_named a n ≡ elim (of_kind kinds.named (at a n)) as (λ _. ℕ) [ true ↦ unwrap_named (before a n l).older (get_or (children (at a n)) 0 0) | false ↦ length (before a n l).older ]
  unfolding unwrap_named
  unwrap_at = rec_at (λ (s : Arena) (x : Node) (f : ℕ → ℕ). elim (of_kind kinds.named x) [ true ↦ f (get_or (children x) 0 0) | false ↦ length s ]) 0 a n l

  unwrap_older : (k : ℕ) → k < n → unwrap_named a k ≡ unwrap_named (before a n l).older k
  unfolding unwrap_named
  unwrap_older k h = let B = before a n l in ext_rec (λ (s : Arena) (x : Node) (f : ℕ → ℕ). elim (of_kind kinds.named x) [ true ↦ f (get_or (children x) 0 0) | false ↦ length s ]) 0 B.older a (ext_tail B.ext) k (omega (arith, h, B.count))

  unwrap_self : of_kind kinds.named (at a n) ≡ false → n ≡ unwrap_named a n
  unwrap_self e = sym (unwrap_at ∙ rw e (before a n l).count)

  unwrap_down : of_kind kinds.named (at a n) ≡ true → get_or (children (at a n)) 0 0 < n → unwrap_named a (get_or (children (at a n)) 0 0) ≡ unwrap_named a n
  unwrap_down e h = unwrap_older _ h ∙ sym (unwrap_at ∙ rw e)

-- ---- the loop
pub record Down (w s : List ℕ) (c : Counters) (root n k : ℕ) : Type 0 where
  pub lent : Lent w s c
  pub inside : n < c.nodes
  pub kind : KindAt w s c n k
  pub same : (table : ℕ) (a : Arena) → Holds table w s c a → unwrap_named a n ≡ unwrap_named a root

module _ {w s : List ℕ} {c : Counters} {root : ℕ} where
  module _ {n k : ℕ} (D : Down w s c root n k) where
    pub down_parent : k ≡ 9 → ParentAt w s c n
    down_parent e = record { lent = D.lent; inside = D.inside; number = k; kind = D.kind; parent = rw e }

    within_down : {table : ℕ} {a : Arena} → Holds table w s c a → n < length a
    within_down H = subst (λ (x : ℕ). n < x) H.nodes D.inside

    nine : k ≡ 9 → {table : ℕ} {a : Arena} → Holds table w s c a → of_kind kinds.named (at a n) ≡ true
    nine e {table} {a} H = ap (λ (x : ℕ). eqb x 9) (sym (D.kind.is table a H) ∙ e)

    pub down_less : k ≡ 9 → {m : ℕ} → FirstChild w s c n m → m < n
    down_less e F = let H = D.lent.holds in subst (λ (x : ℕ). x < n) (sym (F.is _ D.lent.view H)) (first_lower (down_parent e) H)

    pub down_range : k ≡ 9 → {m : ℕ} → FirstChild w s c n m → InRange w s c m
    down_range e = first_range (down_parent e)

    pub down_more : k ≡ 9 → {m j : ℕ} → FirstChild w s c n m → KindAt w s c m j → Down w s c root m j
    down_more e {m} F K = record {
      lent = D.lent;
      inside = (down_range e F).inside;
      kind = K;
      same = λ table a H. ap (unwrap_named a) (F.is table a H) ∙ unwrap_down table a n (within_down H) (nine e H) (first_lower (down_parent e) H) ∙ D.same table a H;
    }

    pub down_done : (k ≡ 9 → ⊥) → Says unwrap_named w s c root n
    down_done f = record {
      is = λ table a H.
          let k = D.kind.is table a H in
          unwrap_self table a n (within_down H) (not_true _ (λ q. f (k ∙ eqb-true (disc (kind (tag (at a n)))) 9 q))) ∙ D.same table a H;
    }
