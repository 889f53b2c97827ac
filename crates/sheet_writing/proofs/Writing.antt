-- Pieces written one behind another, and what is answered once they are.
use Prim.Native.Nat.{ℕ, ◌+◌, ◌*◌, ◌/◌, ◌%◌, ◌<◌, ◌≤◌, min}
use mathlib.Core.Path.{◌≡◌, refl, sym, ap, ◌∙◌, subst}
use mathlib.Core.Bool.{Bool, true, false, not}
use mathlib.Core.List.{List, [], ◌∷◌, ◌++◌, append-nil}
use native.Mathlib.Omega.{arith}
use native.Mathlib.Numerals.{add-one}
use lib.ListN.{length, get_or, take, drop, length-append}
use lib.Seq.{take-suc, take_all, take-length}
use lib.Dec.{leb}
use borrow.Author.Tests.{le-leb, lt-leb, leb-true, leb-false, not-true, not-false}
use mir.Syntax.{w32}
use Rattle.std.specs.Prelude.{Ok, Err}
use Rattle.std.specs.Int.{byte_at, to_be_bytes}
use Rattle.types.specs.declared.refusal.Refusal.TheVariants as refusal
use Rattle.appending.specs.Inner.{Writes}
use Rattle.appending.proofs.Appending.{writes_nothing, writes_then, writes_three}
use Rattle.display.specs.Reply.{reply}
use Rattle.sheet_writing.specs.Bytes.{number_bytes, words_bytes, opening_bytes}
use Rattle.sheet_writing.specs.Reply.{fitting, reply_of}
use Rattle.sheet_writing.specs.Inner.{FitsBytes, WritesParts}
use Rattle.sheet_writing.proofs.Numbers.{length_words, words_join}

-- ---- numbers, from their bytes
module _ {b : List ℕ} {count : ℕ} {b' : List ℕ} {e : ℕ} where
  as_written : {x y : List ℕ} → x ≡ y → Writes b count x b' e → Writes b count y b' e
  as_written p W = subst (λ (x : List ℕ). Writes b count x b' e) p W

  pub opening_written : (m n r : ℕ) {p₁ p₂ p₃ p₄ p₅ p₆ : ℕ} → p₁ ≡ m / 256 % 256 → p₂ ≡ m % 256 → p₃ ≡ n / 256 % 256 → p₄ ≡ n % 256 → p₅ ≡ r / 256 % 256 → p₆ ≡ r % 256
      → Writes b count (p₁ ∷ p₂ ∷ p₃ ∷ p₄ ∷ p₅ ∷ p₆ ∷ []) b' e → Writes b count (opening_bytes m n r) b' e
  unfolding opening_bytes number_bytes
  opening_written m n r q₁ q₂ q₃ q₄ q₅ q₆ = as_written (λ i. q₁ i ∷ q₂ i ∷ q₃ i ∷ q₄ i ∷ q₅ i ∷ q₆ i ∷ [])

  pub word_written : (word : ℕ) {piece : List ℕ} → piece ≡ to_be_bytes w32 word → Writes b count piece b' e → Writes b count (number_bytes 4 word) b' e
  unfolding number_bytes
  word_written word q =
      let r₁ : byte_at 3 word ≡ word / 256 / 256 / 256 % 256 = omega arith in
      let r₂ : byte_at 2 word ≡ word / 256 / 256 % 256 = omega arith in
      let r₃ : byte_at 1 word ≡ word / 256 % 256 = omega arith in
      as_written (q ∙ (λ i. r₁ i ∷ r₂ i ∷ r₃ i ∷ word % 256 ∷ []))

-- ---- i words are written
pub record Turn (ws b : List ℕ) (count : ℕ) (b' : List ℕ) (end i : ℕ) : Type 0 where
  pub high : i ≤ length ws
  pub done : Writes b count (words_bytes (take i ws)) b' end
  pub long : length b' ≡ length b

module _ {ws b : List ℕ} {count : ℕ} where
  pub turn_start : Turn ws b count b count 0
  unfolding words_bytes
  turn_start = record { high = omega arith; done = writes_nothing refl; long = refl }

  module _ {b' : List ℕ} {end i : ℕ} (T : Turn ws b count b' end i) where
    pub turn_more : i < length ws → {b₂ : List ℕ} {e : ℕ} → Writes b' end (number_bytes 4 (get_or ws i 0)) b₂ e → Turn ws b count b₂ e (i + 1)
    unfolding words_bytes
    turn_more h W = record {
      high = omega arith;
      done = as_written
          (ap (λ (l : List ℕ). words_bytes (take i ws) ++ l) (sym (append-nil (number_bytes 4 (get_or ws i 0))))
          ∙ sym (words_join (take i ws) (get_or ws i 0 ∷ []))
          ∙ ap words_bytes (sym (take-suc ws i 0 h) ∙ ap (λ (j : ℕ). take j ws) (sym (add-one i))))
          (writes_then T.done W);
      long = W.long ∙ T.long;
    }

    pub turn_done : length ws ≤ i → Writes b count (words_bytes ws) b' end
    turn_done h = as_written (ap words_bytes (take_all i ws h)) T.done

-- ---- the length of a sheet, and its limits
module _ {table words lent : ℕ} where
  pub over_table : 65536 < table → FitsBytes table words lent false
  over_table h = record { is = sym (lt-leb (6 + table + 4 * words) (min lent 65536) (omega arith)) }

  pub over_words : 65536 < words → FitsBytes table words lent false
  over_words h = record { is = sym (lt-leb (6 + table + 4 * words) (min lent 65536) (omega arith)) }

  pub over_limit : 65536 < 6 + table + 4 * words → FitsBytes table words lent false
  over_limit h = record { is = sym (lt-leb (6 + table + 4 * words) (min lent 65536) (omega arith)) }

  pub within_limit : 6 + table + 4 * words ≤ 65536 → FitsBytes table words lent (leb (6 + table + 4 * words) lent)
  within_limit h = record { is = go (leb (6 + table + 4 * words) lent) refl }
    where
      go : (t : Bool) → leb (6 + table + 4 * words) lent ≡ t → t ≡ leb (6 + table + 4 * words) (min lent 65536)
      go true e = sym (le-leb (6 + table + 4 * words) (min lent 65536) (omega (arith, leb-true (6 + table + 4 * words) lent e)))
      go false e = sym (lt-leb (6 + table + 4 * words) (min lent 65536) (omega (arith, leb-false (6 + table + 4 * words) lent e)))

-- ---- all three parts
module _ (t ws : List ℕ) (names nodes root : ℕ) (b : List ℕ) {f : Bool} (F : FitsBytes (length t) (length ws) (length b) f) where
  abbrev whole : List ℕ
  whole = opening_bytes names nodes root ++ t ++ words_bytes ws

  size : length whole ≡ 6 + length t + 4 * length ws
  unfolding opening_bytes number_bytes
  size = length-append (opening_bytes names nodes root ++ t) (words_bytes ws) ∙ omega (arith, length-append (opening_bytes names nodes root) t, length_words ws)

  told : leb (length whole) (min (length b) 65536) ≡ f
  told = ap (λ (n : ℕ). leb n (min (length b) 65536)) size ∙ sym F.is

  pub parts_nine : not f ≡ true → WritesParts t ws names nodes root b b (Err refusal.TextTooLong)
  unfolding fitting reply_of
  parts_nine h = record { is = sym (rw (fitting, told, not-true f h)) }

  pub parts_written : not f ≡ false → {x : ℕ} → x ≡ root → {b₁ : List ℕ} {m : ℕ} {b₂ : List ℕ} {n : ℕ} {b₃ : List ℕ} {e : ℕ}
      → Writes b 0 (opening_bytes names nodes x) b₁ m → Writes b₁ m t b₂ n → Writes b₂ n (words_bytes ws) b₃ e → WritesParts t ws names nodes root b b₃ (Ok e)
  unfolding fitting reply_of
  parts_written h p W U X =
      let A = writes_three (as_written (ap (opening_bytes names nodes) p) W) U X in
      let l : 0 + length whole ≤ length b = omega (arith, leb-true (length whole) (min (length b) 65536) (told ∙ not-false f h)) in
      let z : 0 + length whole ≡ length whole = omega arith in
      let put = A.put l ∙ (λ i. take-length whole i ++ drop (z i) b) in
      let end = A.fits l ∙ z in
      record { is = (λ i. reply (Ok (end i)) (put i)) ∙ sym (rw (fitting, told, not-false f h)) }
