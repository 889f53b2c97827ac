-- The three answers, as the code tells them apart.
use Prim.Native.Nat.{ℕ}
use mathlib.Core.Path.{◌≡◌, refl, sym, ◌∙◌}
use mathlib.Core.Bool.{Bool, true, false}
use mir.Val.{bool_byte}
use native.Mathlib.Omega.{arith}
use Rattle.std.specs.Ordering.{is_ne, MatchOrdering}
use Rattle.words.specs.Words.{bit}
use Rattle.types.specs.Order.{ordering_then}
use Rattle.std.specs.declared.cmp.Ordering.{Ordering}
use Rattle.std.specs.declared.cmp.Ordering.TheVariants.{Less, Equal, Greater}

first : (o p : Ordering) {q : Bool} → q ≡ is_ne o → q ≡ true → ordering_then o p ≡ o
unfolding ordering_then
first Less p e f = refl
first Equal p e f = let z : ◌≡◌ {A = ℕ} 0 1 = cc in absurd (omega arith)
first Greater p e f = refl

settled : (o p : Ordering) {q : Bool} → q ≡ is_ne o → q ≡ false → ordering_then o p ≡ p
unfolding ordering_then
settled Less p e f = let z : ◌≡◌ {A = ℕ} 0 1 = cc in absurd (omega arith)
settled Equal p e f = refl
settled Greater p e f = let z : ◌≡◌ {A = ℕ} 0 1 = cc in absurd (omega arith)

module _ {w : Ordering} (o p : Ordering) (e : w ≡ ordering_then o p) {q : Bool} (n : q ≡ is_ne o) where
  -- an answer that leaves nothing open is the whole answer
  pub told : q ≡ true → o ≡ w
  told u = sym (e ∙ first o p n u)

  -- one that leaves all open lets the next one answer
  pub passed : q ≡ false → w ≡ p
  passed z = e ∙ settled o p n z

-- what `then_with` answers, where its closure answers p
pub then_run : {P : Type 0} (o : Ordering) {p r : Ordering} → MatchOrdering o (r ≡ Less) P (r ≡ Greater) → (P → r ≡ p) → r ≡ ordering_then o p
unfolding ordering_then
then_run Less m f = m
then_run Equal m f = f m
then_run Greater m f = m

-- a flag as one bit
pub bit_of : (b : Bool) → bool_byte b ≡ bit b
bit_of true = refl
bit_of false = refl
