-- How many field words a body has, test after test.
use Prim.Native.Nat.{ℕ, ◌-◌}
use mathlib.Core.Path.{◌≡◌, sym, ◌∙◌}
use mathlib.Core.Bool.{Bool}
use mir.Val.{bool_byte}
use native.Mathlib.Omega.{arith}
use borrow.Author.Tests.{eq-eqb, ne_eqb}
use Rattle.words.specs.Words.{bit, head_kind, head_dynamic}
use Rattle.types.specs.Kind.{disc, attr_set, named}
use Rattle.node_order.specs.WordsOrder.{field_count}
use Rattle.node_order.specs.Inner.{FieldCount}
use Rattle.node_order.proofs.Answers.{bit_of}

module _ (h n : ℕ) {k : ℕ} (e : k ≡ head_kind h) where
  pub count_named : k ≡ disc named → FieldCount h n n
  unfolding field_count
  count_named f = record { value = rw (field_count, eq-eqb (head_kind h) (disc named) (sym e ∙ f)); within = omega arith }

  module _ (f : k ≡ disc named → ⊥) where
    pub count_none : (k ≡ disc attr_set → ⊥) → FieldCount h n 0
    unfolding field_count
    count_none g = record { value = rw (field_count, ne_eqb (head_kind h) (disc named) (λ p. f (e ∙ p))) (rw (ne_eqb (head_kind h) (disc attr_set) (λ p. g (e ∙ p)))); within = omega arith }

  pub count_set : {d : Bool} {x r : ℕ} → k ≡ disc attr_set → d ≡ head_dynamic h → x ≡ bool_byte d → r ≡ n - x → FieldCount h n r
  unfolding field_count
  count_set {d} f p q t =
      let e' : field_count (head_kind h) (head_dynamic h) n ≡ n - bit d = rw (field_count, ne_eqb (head_kind h) (disc named) (λ m. omega (arith, e, f, m))) (rw (eq-eqb (head_kind h) (disc attr_set) (sym e ∙ f), p)) in
      let b = q ∙ bit_of d in
      record { value = omega (arith, e', b); within = omega arith }
