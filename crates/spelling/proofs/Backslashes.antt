-- Whether a backslash stands before byte i of a name is read off that byte and the next.
use Prim.Native.Nat.{ℕ, suc, ◌+◌, ◌<◌}
use mathlib.Core.Path.{◌≡◌, refl, sym, ap, ◌∙◌}
use mathlib.Core.Bool.{Bool, true, false, ◌&&◌, ◌||◌}
use mathlib.Core.List.{List, ◌∷◌}
use native.Mathlib.Omega.{arith}
use native.Mathlib.Numerals.{add-one}
use lib.ListN.{length, get_or, drop, drop_of_length-le}
use lib.Seq.{drop-cons}
use lib.Dec.{eqb}
use borrow.Author.Tests.{ne_eqb}
use Rattle.spelling.specs.Spelling.{braced, backslashed}

module _ (n : List ℕ) (i : ℕ) (h : i < length n) where
  -- the test at byte i, for what it is there and for what follows
  at_byte : {b : ℕ} {bs : List ℕ} → get_or n i 0 ≡ b → drop (suc i) n ≡ bs → backslashed (drop i n) ≡ (eqb b 34 || (eqb b 92 || (eqb b 36 && braced bs)))
  unfolding backslashed
  at_byte e f = ap backslashed (drop-cons n i 0 h ∙ (λ j. e j ∷ f j))

  pub dollar_last : get_or n i 0 ≡ 36 → i + 1 ≡ length n → false ≡ backslashed (drop i n)
  unfolding braced
  dollar_last e l = sym (at_byte e (drop_of_length-le n {i = suc i} (omega arith)))

  pub dollar_next : get_or n i 0 ≡ 36 → (i + 1 ≡ length n → ⊥) → eqb (get_or n (i + 1) 0) 123 ≡ backslashed (drop i n)
  unfolding braced
  dollar_next e l = sym (at_byte e (drop-cons n (suc i) 0 (omega arith)) ∙ ap (λ (k : ℕ). eqb (get_or n k 0) 123) (sym (add-one i)))

  pub other_byte : (get_or n i 0 ≡ 36 → ⊥) → (eqb (get_or n i 0) 34 || eqb (get_or n i 0) 92) ≡ backslashed (drop i n)
  other_byte f = go (eqb (get_or n i 0) 34) (eqb (get_or n i 0) 92) ∙ sym (at_byte refl refl)
    where
      none : (eqb (get_or n i 0) 36 && braced (drop (suc i) n)) ≡ false
      none = ap (λ (x : Bool). x && braced (drop (suc i) n)) (ne_eqb (get_or n i 0) 36 f)

      go : (p q : Bool) → (p || q) ≡ (p || (q || (eqb (get_or n i 0) 36 && braced (drop (suc i) n))))
      go true q = refl
      go false true = refl
      go false false = sym none
