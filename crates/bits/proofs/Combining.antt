-- Two sets combined word by word, by either operation.
use Prim.Native.Nat.{ℕ, ◌+◌, ◌*◌, ◌/◌, ◌%◌, ◌≤◌, ◌<◌}
use mathlib.Core.Path.{◌≡◌, ap, ◌∙◌, subst}
use mathlib.Core.Bool.{Bool}
use mathlib.Core.List.{List}
use native.Mathlib.Decide.{ℕ_discrete}
use native.Mathlib.Omega.{arith}
use lib.ListN.{length, get_or, set, replicate, length-set, length-replicate, get_or-eq_default}
use lib.Seq.{get_or-set_same, get_or-set_other}
use Rattle.bits.specs.Bits.{bit, has, Combined, either, either_word}
use Rattle.bits.specs.Inner.{EachWord}
use Rattle.bits.specs.Theorems.{CombinedRow}
use Rattle.bits.proofs.Halves.{bit_either, zero_bit}

-- ---- rows of any length
pub combined_row : CombinedRow
unfolding has
combined_row e s t r each = record {
  is = λ n l. ap (λ (x : ℕ). bit x (n % 64)) (each (n / 64) (omega arith)) ∙ bit_either e (get_or s (n / 64) 0) (get_or t (n / 64) 0) (n % 64);
  beyond = λ n l. ap (λ (x : ℕ). bit x (n % 64)) (get_or-eq_default r 0 (omega arith)) ∙ zero_bit (n % 64);
}

-- ---- the words passed are combined
pub record Combining (answers : ℕ → ℕ → ℕ → Type 0) (s t r : List ℕ) (i : ℕ) : Type 0 where
  pub long : length r ≡ 64
  pub turn : i ≤ 64
  pub each : (j : ℕ) → j < i → answers (get_or s j 0) (get_or t j 0) (get_or r j 0)

module _ (R : ℕ → ℕ → ℕ → Type 0) {s t : List ℕ} where
  pub combining_start : Combining R s t (replicate 64 0) 0
  combining_start = record { long = length-replicate {A = ℕ} 64 0; turn = omega arith; each = λ j h. absurd (omega arith) }

  module _ {r : List ℕ} {i : ℕ} (C : Combining R s t r i) where
    pub combining_more : {x : ℕ} → i < 64 → R (get_or s i 0) (get_or t i 0) x → Combining R s t (set r i x) (i + 1)
    combining_more {x} h q = record {
      long = length-set r i x ∙ C.long;
      turn = omega arith;
      each = λ j l. go j l (ℕ_discrete j i);
    }
      where
        go : (j : ℕ) → j < i + 1 → Dec (j ≡ i) → R (get_or s j 0) (get_or t j 0) (get_or (set r i x) j 0)
        go j l (yes p) = rw p (rw (get_or-set_same r i x 0 (omega (arith, C.long))) q)
        go j l (no f) = rw (get_or-set_other r i j x 0 f) (C.each j (omega arith))

    pub combining_done : 64 ≤ i → EachWord R s t r
    combining_done h = record { long = C.long; each = λ j l. C.each j (omega arith) }

pub combined : (e : Bool) {s t r : List ℕ} → length r ≡ 64 → ((i : ℕ) → i < 64 → get_or r i 0 ≡ either_word e (get_or s i 0) (get_or t i 0)) → Combined (either e) 4096 s t r
combined e {s} {t} {r} long each =
    let size : length r * 64 ≡ 4096 = omega (arith, long) in
    subst (λ (k : ℕ). Combined (either e) k s t r) size (combined_row e s t r (λ j l. each j (omega (arith, long))))
