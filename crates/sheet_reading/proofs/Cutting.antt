-- The bytes that may be read are the first of the input; what lies within the first bytes of a list is the list's.
use Prim.Native.Nat.{ℕ, ◌+◌, ◌≤◌, min}
use mathlib.Core.Path.{◌≡◌, sym, ap, ◌∙◌}
use mathlib.Core.List.{List}
use native.Mathlib.Omega.{arith}
use native.Mathlib.Decide.{dec_le}
use lib.ListN.{length, take, drop, length-drop, take-append-drop}
use lib.Seq.{take_all, take-append-le, drop-append-le}
use Rattle.sheet_reading.specs.Inner.Reading.{Readable}

module _ (l : List ℕ) {n : ℕ} (e : n ≡ min (length l) 65536) where
  pub cut : Readable l (take n l)
  cut = record { is = go (dec_le (length l) 65536) }
    where
      go : Dec (length l ≤ 65536) → take n l ≡ take 65536 l
      go (yes h) = take_all n l (omega arith) ∙ sym (take_all 65536 l h)
      go (no h) = let f : n ≡ 65536 = omega arith in ap (λ (k : ℕ). take k l) f

pub within : (m : ℕ) (l : List ℕ) (at k : ℕ) → at + k ≤ length (take m l) → take k (drop at l) ≡ take k (drop at (take m l))
within m l at k h =
    ap (λ (u : List ℕ). take k (drop at u)) (sym (take-append-drop m l))
    ∙ ap (take k) (drop-append-le at (take m l) (drop m l) (omega arith))
    ∙ take-append-le k (drop at (take m l)) (drop m l) (omega (arith, length-drop at (take m l)))
