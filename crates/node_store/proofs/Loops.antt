-- Loops over words: two stretches agree; words are written one by one.
use Prim.Native.Nat.{ℕ, ◌+◌, ◌<◌, ◌≤◌}
use mathlib.Core.Path.{◌≡◌, refl, sym, ap, ◌∙◌}
use mathlib.Core.Bool.{true, false}
use mathlib.Core.List.{List}
use native.Mathlib.Omega.{arith}
use native.Mathlib.Numerals.{add-one}
use lib.ListN.{length, get_or, set, length-set}
use lib.Seq.{ext_get_or, paste, paste-zero, paste-suc}
use borrow.Author.Count.{below_more}
use Rattle.types.specs.Same.{same_numbers}
use Rattle.types.proofs.Tests.{numbers_if, numbers_not}
use Rattle.node_store.specs.Inner.Added.{Room, Pasted}

-- ---- the same words so far
pub record Agree (a b : List ℕ) (i : ℕ) : Type 0 where
  pub long : length a ≡ length b
  pub high : i ≤ length a
  pub each : (j : ℕ) → j < i → get_or a j 0 ≡ get_or b j 0

pub agree_length : (a b : List ℕ) → (length a ≡ length b → ⊥) → false ≡ same_numbers a b
agree_length a b f = sym (numbers_not a b (λ e. f (ap length e)))

module _ {a b : List ℕ} where
  pub agree_start : length a ≡ length b → Agree a b 0
  agree_start e = record { long = e; high = omega arith; each = λ j h. absurd (omega arith) }

  module _ {i : ℕ} (A : Agree a b i) where
    pub agree_more : i < length a → get_or a i 0 ≡ get_or b i 0 → Agree a b (i + 1)
    agree_more h e = record { long = A.long; high = omega arith; each = below_more _ _ A.each e }

    pub agree_fails : i < length a → (get_or a i 0 ≡ get_or b i 0 → ⊥) → false ≡ same_numbers a b
    agree_fails h f = sym (numbers_not a b (λ e. f (ap (λ (l : List ℕ). get_or l i 0) e)))

    pub agree_done : length a ≤ i → true ≡ same_numbers a b
    agree_done h = sym (numbers_if a b (ext_get_or 0 a b A.long (λ j l. A.each j (omega arith))))

-- ---- i words written so far
pub record Writes (w : List ℕ) (at : ℕ) (ws w' : List ℕ) (i : ℕ) : Type 0 where
  pub room : at + length ws ≤ length w
  pub high : i ≤ length ws
  pub long : length w' ≡ length w
  pub is : w' ≡ paste w at ws i

module _ {w ws : List ℕ} {at : ℕ} where
  pub writes_start : Room w at ws → Writes w at ws w 0
  writes_start R = record { room = R.fits; high = omega arith; long = refl; is = paste-zero w at ws }

  pub writes_more : {w' : List ℕ} {i : ℕ} → Writes w at ws w' i → i < length ws → Writes w at ws (set w' (at + i) (get_or ws i 0)) (i + 1)
  writes_more {w'} {i} W h = record {
    room = W.room;
    high = omega arith;
    long = length-set w' (at + i) (get_or ws i 0) ∙ W.long;
    is = ap (λ (l : List ℕ). set l (at + i) (get_or ws i 0)) W.is ∙ paste-suc w at ws i 0 (omega (arith, W.room)) h ∙ ap (paste w at ws) (sym (add-one i));
  }

  pub writes_done : {w' : List ℕ} {i : ℕ} → Writes w at ws w' i → length ws ≤ i → Pasted w at ws w'
  writes_done {i = i} W h = let e : i ≡ length ws = omega (arith, W.high) in record { is = W.is ∙ ap (paste w at ws) e }
