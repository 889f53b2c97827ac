-- Numbers of 16 and 32 bits, as std makes them of their bytes.
use Prim.Native.Nat.{ℕ, ◌+◌, ◌*◌, ◌<◌, ◌≤◌, ◌^◌}
use mathlib.Core.Path.{◌≡◌, ap, ◌∙◌}
use mathlib.Core.List.{List, [], ◌∷◌}
use mir.Syntax.{w16, w32}
use native.Mathlib.Omega.{arith}
use lib.ListN.{length, get_or, take, drop, length-drop}
use lib.Seq.{get_or-drop}
use Rattle.std.specs.Int.{from_be_bytes}
use Rattle.sheet_reading.specs.Sheet.{value_after, value}
use Rattle.sheet_reading.specs.Inner.Steps.{Inside, ShortAt, WordAt}

two : (l : List ℕ) → 2 ≤ length l → value (take 2 l) ≡ get_or l 0 0 * 256 + get_or l 1 0
unfolding value_after
two [] h = absurd (omega arith)
two (a ∷ []) h = absurd (omega arith)
two (a ∷ b ∷ l) h = omega arith

four : (l : List ℕ) → 4 ≤ length l → value (take 4 l) ≡ get_or l 0 0 * 16777216 + get_or l 1 0 * 65536 + get_or l 2 0 * 256 + get_or l 3 0
unfolding value_after
four [] h = absurd (omega arith)
four (a ∷ []) h = absurd (omega arith)
four (a ∷ b ∷ []) h = absurd (omega arith)
four (a ∷ b ∷ c ∷ []) h = absurd (omega arith)
four (a ∷ b ∷ c ∷ d ∷ l) h = omega arith

module _ (bytes : List ℕ) (at : ℕ) where
  behind : (i : ℕ) → get_or (drop at bytes) i 0 ≡ get_or bytes (at + i) 0
  behind i = get_or-drop at bytes i 0

  first : get_or (drop at bytes) 0 0 ≡ get_or bytes at 0
  first = behind 0 ∙ ap (λ (i : ℕ). get_or bytes i 0) (omega arith)

module _ {bytes : List ℕ} {at r : ℕ} where
  pub short_is : {k : ℕ} → Inside bytes at 2 → k ≡ from_be_bytes w16 (get_or bytes at 0 ∷ get_or bytes (at + 1) 0 ∷ []) → k < 65536 → r ≡ k → ShortAt bytes at r
  short_is I e h f = record { is = let z = two (drop at bytes) (omega (arith, length-drop at bytes, I.fits)) in omega (arith, e, f, z, first bytes at, behind bytes at 1); small = omega (arith, f, h) }

  pub word_is : Inside bytes at 4 → r ≡ from_be_bytes w32 (get_or bytes at 0 ∷ get_or bytes (at + 1) 0 ∷ get_or bytes (at + 2) 0 ∷ get_or bytes (at + 3) 0 ∷ []) → r < 2 ^ 32 → WordAt bytes at r
  word_is I e h = record { is = let z = four (drop at bytes) (omega (arith, length-drop at bytes, I.fits)) in omega (arith, e, z, first bytes at, behind bytes at 1, behind bytes at 2, behind bytes at 3); small = h }
