-- Two nodes are compared part after part: each decides where those before leave it open.
use Prim.Native.Nat.{ℕ}
use mathlib.Core.Path.{◌≡◌, refl, ap, ap₂, ◌∙◌}
use mathlib.Core.Bool.{Bool, true, false}
use mathlib.Core.List.{List, [], ◌∷◌, map}
use Rattle.std.specs.Ordering.{nat_cmp, bool_cmp}
use Rattle.std.specs.Cmp.Lexicographic.{slice_cmp}
use Rattle.words.specs.Words.{bit, head_kind, head_open, field_name, child}
use Rattle.types.specs.Order.{order, lexicographic, ordering_then}
use Rattle.std.specs.declared.cmp.Ordering.{Ordering}
use Rattle.std.specs.declared.cmp.Ordering.TheVariants.{Less, Equal, Greater}
use Rattle.node_order.specs.NodeOrder.{keys_order, entry_order}
use Rattle.node_order.specs.WordsOrder.{entry_of, part_keys}
use Rattle.node_order.specs.Inner.{field_order, optional_order}
use Rattle.types.proofs.Orders.{cmp_order, cmp_lexicographic}

-- ---- a field by its name, then its child
pub field_told : (v w : ℕ) {m n : ℕ} {o r : Ordering} → r ≡ ordering_then o (nat_cmp (child v) (child w)) → o ≡ nat_cmp m n → m ≡ field_name v → n ≡ field_name w → r ≡ field_order v w
unfolding field_order
field_told v w e f p q = e ∙ ap₂ ordering_then (f ∙ ap₂ nat_cmp p q ∙ cmp_order (field_name v) (field_name w)) (cmp_order (child v) (child w))

-- ---- a node by its kind, its fields, its other words, whether it is open, its optional names
lexicographic_fields : (e f : List ℕ) → lexicographic field_order e f ≡ lexicographic entry_order (map entry_of e) (map entry_of f)
unfolding lexicographic field_order
lexicographic_fields [] [] = refl
lexicographic_fields [] (w ∷ f) = refl
lexicographic_fields (v ∷ e) [] = refl
lexicographic_fields (v ∷ e) (w ∷ f) = ap (ordering_then (field_order v w)) (lexicographic_fields e f)

then_assoc : (o p q : Ordering) → ordering_then (ordering_then o p) q ≡ ordering_then o (ordering_then p q)
unfolding ordering_then
then_assoc Less p q = refl
then_assoc Equal p q = refl
then_assoc Greater p q = refl

cmp_bits : (a b : Bool) → bool_cmp a b ≡ order (bit a) (bit b)
unfolding order
cmp_bits true true = refl
cmp_bits true false = refl
cmp_bits false true = refl
cmp_bits false false = refl

-- key after key, each beside those before
pub keys_told : (g h : ℕ) (e f s t : List ℕ) {k l : ℕ} {r k₃ k₂ k₁ k₀ : Ordering}
    → k₀ ≡ nat_cmp k l
    → k ≡ head_kind g
    → l ≡ head_kind h
    → k₁ ≡ ordering_then k₀ (lexicographic field_order e f)
    → k₂ ≡ ordering_then k₁ (slice_cmp nat_cmp s t)
    → k₃ ≡ ordering_then k₂ (bool_cmp (head_open g) (head_open h))
    → r ≡ ordering_then k₃ (optional_order e f)
    → r ≡ keys_order (part_keys g e s) (part_keys h f t)
unfolding keys_order part_keys optional_order
keys_told g h e f s t n i j p q u w =
    rw w (rw u (rw q (rw p (rw n (rw (i, j) (rw (cmp_order (head_kind g) (head_kind h), cmp_lexicographic s t, cmp_bits (head_open g) (head_open h), lexicographic_fields e f) (simp then_assoc refl)))))))
