-- The members of a list: those that remain, the one that decides it, what each brings.
use Prim.Native.Nat.{ℕ}
use mathlib.Core.Path.{◌≡◌, refl, sym, ap, ◌∙◌}
use mathlib.Core.Bool.{Bool, true, false}
use mathlib.Core.List.Memᴰ.{head}
use mathlib.Core.List.Memᴰ.{not-nil}
use mathlib.Core.List.Memᴰ.{tail}
use mathlib.Core.List.{List, [], ◌∷◌, Memᴰ as Mem}
use Rattle.types.specs.Node.{Polarity, members, bound, Node, tag, children}
use Rattle.types.specs.Arena.{Arena, at}
use Rattle.types.specs.Places.{opposite}
use Rattle.types.proofs.Tests.{true_false}
use Rattle.simplification.specs.Seen.{same_tag}
use Rattle.simplification.specs.Pass.{is_removable, remaining, is_decided, splice}
use Rattle.simplification.proofs.Answers.{same_tag_true, same_tag_if, same_tag_false, same_tag_not, one_true, one_if}

-- ---- members that remain
module _ (R : ℕ → Bool) (a : Arena) where
  pub remaining_from : (cs : List ℕ) (x : ℕ) → Mem x (remaining R a cs) → Mem x cs
  unfolding remaining
  remaining_from [] x h = h
  remaining_from (c ∷ cs) x h = go (is_removable R a c) h (remaining_from cs x)
    where
      go : (b : Bool) → Mem x (elim b as (λ _. List ℕ) [ true ↦ remaining R a cs | false ↦ c ∷ remaining R a cs ]) → (Mem x (remaining R a cs) → Mem x cs) → Mem x (c ∷ cs)
      go true h f = tail (f h)
      go false (head e) f = head e
      go false (tail h) f = tail (f h)

  pub remaining_onto : (cs : List ℕ) (x : ℕ) → Mem x cs → is_removable R a x ≡ false → Mem x (remaining R a cs)
  unfolding remaining
  remaining_onto [] x h e = elim h [ ]
  remaining_onto (c ∷ cs) x h e = go (is_removable R a c) refl h (λ k. remaining_onto cs x k e)
    where
      go : (b : Bool) → is_removable R a c ≡ b → Mem x (c ∷ cs) → (Mem x cs → Mem x (remaining R a cs)) → Mem x (elim b as (λ _. List ℕ) [ true ↦ remaining R a cs | false ↦ c ∷ remaining R a cs ])
      go true q (head p) f = absurd (true_false (sym q ∙ ap (is_removable R a) (sym p) ∙ e))
      go true q (tail h) f = f h
      go false q (head p) f = head p
      go false q (tail h) f = tail (f h)

-- ---- the bound that decides a list
module _ (k : Polarity) (a : Arena) where
  pub decided_by : (ms : List ℕ) → is_decided k a ms ≡ true → (m : ℕ) × Mem m ms × (tag (at a m) ≡ bound (opposite k))
  unfolding is_decided
  decided_by ms e = let r = one_true (λ (m : ℕ). same_tag (tag (at a m)) (bound (opposite k))) ms e in (r.0, r.1, same_tag_true _ _ r.2)

  pub decided_if : (ms : List ℕ) (m : ℕ) → Mem m ms → tag (at a m) ≡ bound (opposite k) → is_decided k a ms ≡ true
  unfolding is_decided
  decided_if ms m h e = one_if (λ (m : ℕ). same_tag (tag (at a m)) (bound (opposite k))) ms m h (same_tag_if _ _ e)

-- ---- what the member m, the node x, brings to a list of kind k: itself, or one of its own
module _ (k : Polarity) (m : ℕ) (x : Node) where
  pub data Brought (y : ℕ) : Type 0 where
    itself : y ≡ m → (tag x ≡ members k → ⊥) → (tag x ≡ bound k → ⊥) → Brought y
    spliced : tag x ≡ members k → Mem y (children x) → Brought y

  pub splice_from : (y : ℕ) → Mem y (splice k m x) → Brought y
  unfolding splice
  splice_from y h = go (same_tag (tag x) (members k)) refl (same_tag (tag x) (bound k)) refl h
    where
      go : (b : Bool) → same_tag (tag x) (members k) ≡ b → (d : Bool) → same_tag (tag x) (bound k) ≡ d
          → Mem y (elim b as (λ _. List ℕ) [ true ↦ children x | false ↦ elim d as (λ _. List ℕ) [ true ↦ [] | false ↦ m ∷ [] ] ]) → Brought y
      go true p d q h = spliced (same_tag_true _ _ p) h
      go false p true q h = absurd (not-nil h)
      go false p false q (head e) = itself e (same_tag_false _ _ p) (same_tag_false _ _ q)
      go false p false q (tail h) = absurd (not-nil h)

  pub splice_onto : (y : ℕ) → Brought y → Mem y (splice k m x)
  unfolding splice
  splice_onto y (spliced p h) = rw (splice, same_tag_if _ _ p) h
  splice_onto y (itself e p q) = rw (splice, same_tag_not _ _ p, same_tag_not _ _ q) (head e)
