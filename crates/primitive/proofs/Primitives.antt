-- The text of a code: that of the arm which has it, and none for a number that no arm has.
use Prim.Native.Nat.{ℕ, suc, ◌≤◌}
use mathlib.Core.Path.{◌≡◌, ap, ◌∙◌, sym}
use mathlib.Core.List.{[]}
use native.Mathlib.Omega.{arith}
use lib.ListN.{get_or-eq_default}
use Rattle.types.specs.declared.short_text.ShortText.{ShortText}
use Rattle.types.specs.Short.{short_text}
use Rattle.primitive.specs.Primitive.{primitive_texts, primitive_text}

pub text_of : {t : ShortText} {k n : ℕ} → k ≡ n → t ≡ short_text (primitive_text n) → t ≡ short_text (primitive_text k)
text_of e p = p ∙ ap (λ (i : ℕ). short_text (primitive_text i)) (sym e)

past : {n k : ℕ} → n ≤ k → (k ≡ n → ⊥) → suc n ≤ k
past h e = omega (arith, h, e)

pub no_text : {t : ShortText} {k : ℕ}
    → (k ≡ 0 → ⊥) → (k ≡ 1 → ⊥) → (k ≡ 2 → ⊥) → (k ≡ 3 → ⊥) → (k ≡ 4 → ⊥) → (k ≡ 5 → ⊥) → (k ≡ 6 → ⊥) → (k ≡ 7 → ⊥)
    → t ≡ short_text [] → t ≡ short_text (primitive_text k)
unfolding primitive_text
no_text {k = k} n₀ n₁ n₂ n₃ n₄ n₅ n₆ n₇ e =
    let h : 8 ≤ k = past (past (past (past (past (past (past (past (omega arith) n₀) n₁) n₂) n₃) n₄) n₅) n₆) n₇ in
    e ∙ ap short_text (sym (get_or-eq_default primitive_texts [] h))
