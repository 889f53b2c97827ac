-- The words of a node, split into head and body, and a body into its field words and the others.
use Prim.Native.Nat.{ℕ, ◌-◌}
use mathlib.Core.Path.{◌≡◌, refl, sym, ap, ap₂, ◌∙◌}
use mathlib.Core.List.{List, [], ◌∷◌}
use native.Mathlib.Omega.{arith}
use lib.ListN.{length, get_or, take, drop, length-drop}
use lib.Seq.{take_all, length-take-le}
use Rattle.std.specs.declared.cmp.Ordering.{Ordering}
use Rattle.node_order.specs.NodeOrder.{keys_order}
use Rattle.node_order.specs.Inner.{FieldCount}
use Rattle.node_order.specs.WordsOrder.{part_keys, body_keys, words_order}

module _ {h m : ℕ} (b : List ℕ) (F : FieldCount h (length b) m) where
  pub fields_taken : m ≡ length (take m b)
  fields_taken = sym (length-take-le m b F.within)

  parts_of : part_keys h (take m b) (take (length b - m) (drop m b)) ≡ body_keys h b
  unfolding body_keys
  parts_of =
      ap (part_keys h (take m b)) (take_all (length b - m) (drop m b) (omega (arith, length-drop m b)))
      ∙ ap (λ (i : ℕ). part_keys h (take i b) (drop i b)) F.value

pub bodies_told : {g h m n : ℕ} (a b : List ℕ) {o : Ordering} → FieldCount g (length a) m → FieldCount h (length b) n
    → o ≡ keys_order (part_keys g (take m a) (take (length a - m) (drop m a))) (part_keys h (take n b) (take (length b - n) (drop n b)))
    → o ≡ keys_order (body_keys g a) (body_keys h b)
bodies_told a b F G e = e ∙ ap₂ keys_order (parts_of a F) (parts_of b G)

pub no_head : (l : List ℕ) → length l ≡ 0 → 0 ≡ get_or l 0 0
no_head [] e = refl
no_head (w ∷ l) e = absurd (omega arith)

pub body_lent : (l : List ℕ) → take (length l - 1) (drop 1 l) ≡ drop 1 l
body_lent l = take_all (length l - 1) (drop 1 l) (omega (arith, length-drop 1 l))

pub nodes_told : {g h : ℕ} {s t : List ℕ} (a b : List ℕ) {o : Ordering} → g ≡ get_or a 0 0 → h ≡ get_or b 0 0 → s ≡ drop 1 a → t ≡ drop 1 b → o ≡ keys_order (body_keys g s) (body_keys h t) → o ≡ words_order a b
unfolding words_order
nodes_told a b p q u v e = e ∙ (λ i. keys_order (body_keys (p i) (u i)) (body_keys (q i) (v i)))
