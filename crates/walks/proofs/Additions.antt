-- One number put into the set of its sign; the sign of a child.
use Prim.Native.Nat.{ℕ, zero, suc}
use mathlib.Core.Path.{◌≡◌, refl, sym, ap, ◌∙◌}
use mathlib.Core.Bool.{Bool, true, false, not, ◌&&◌, ◌||◌}
use mathlib.Core.List.{List}
use mathlib.Core.Logic.{◌⊎◌, inl, inr}
use native.Mathlib.Decide.{ℕ_discrete}
use lib.Dec.{eqb, eqb-suc-zero}
use Rattle.types.specs.Kind.{disc}
use Rattle.types.specs.Node.{positive, negative, Tag, members, bound, var, neg, form, primitive, list, lambda, attrset, named, kind}
use Rattle.types.specs.Places.{opposite, child_sign}
use Rattle.bits.specs.Bits.{has, Put}
use Rattle.walks.specs.Inner.Signs.{sign_of, turned, flag_after}

-- ---- a number more in one set
module _ {x y : List ℕ} {n : ℕ} (P : Put x n y) where
  pub put_kept : (u : ℕ) → has x u ≡ true → has y u ≡ true
  put_kept u h = go (ℕ_discrete u n)
    where
      go : Dec (u ≡ n) → has y u ≡ true
      go (yes e) = ap (has y) e ∙ P.new
      go (no f) = P.old u f ∙ h

  pub put_only : (u : ℕ) → has y u ≡ true → (has x u ≡ true) ⊎ (u ≡ n)
  put_only u h = go (ℕ_discrete u n)
    where
      go : Dec (u ≡ n) → (has x u ≡ true) ⊎ (u ≡ n)
      go (yes e) = inr e
      go (no f) = inl (sym (P.old u f) ∙ h)

-- with the sign known
told : {A B C : Type 0} → B → A ⊎ C → A ⊎ (B × C)
told b (inl a) = inl a
told b (inr c) = inr (b, c)

-- ---- the sign of a child
pub turned_is : (k i : ℕ) → (eqb k 10 || (eqb k 5 && eqb i 0)) ≡ turned k i
unfolding turned
turned_is k i = refl

keep : (b : Bool) → sign_of (flag_after b false) ≡ sign_of b
unfolding flag_after
keep true = refl
keep false = refl

turn : (b : Bool) → sign_of (flag_after b true) ≡ opposite (sign_of b)
unfolding flag_after
turn true = refl
turn false = refl

pub flag_sign : (t : Tag) (i : ℕ) (b : Bool) → sign_of (flag_after b (turned (disc (kind t)) i)) ≡ child_sign t i (sign_of b)
unfolding turned child_sign
flag_sign (members positive) i b = keep b
flag_sign (members negative) i b = keep b
flag_sign (bound positive) i b = keep b
flag_sign (bound negative) i b = keep b
flag_sign (var v) i b = keep b
flag_sign neg i b = turn b
flag_sign (form (primitive c)) i b = keep b
flag_sign (form list) i b = keep b
flag_sign (form lambda) zero b = turn b
flag_sign (form lambda) (suc i) b = rw (eqb-suc-zero i) (keep b)
flag_sign (form (attrset fs d o)) i b = keep b
flag_sign (form (named n)) i b = keep b

-- ---- what the code does with a flag
pub flag_turned : (b : Bool) {t : Bool} → t ≡ true → not b ≡ flag_after b t
unfolding flag_after
flag_turned true e = rw e
flag_turned false e = rw e

pub flag_kept : (b : Bool) {t : Bool} → t ≡ false → b ≡ flag_after b t
unfolding flag_after
flag_kept true e = rw e
flag_kept false e = rw e
