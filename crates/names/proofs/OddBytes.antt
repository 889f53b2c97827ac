-- The odd bytes, counted one by one: those passed are counted, and a name without any is printable.
use Prim.Native.Nat.{ℕ, ◌+◌, ◌<◌, ◌≤◌}
use mathlib.Core.Path.{◌≡◌, refl, sym, ap, ◌∙◌}
use mathlib.Core.Bool.{Bool, true, false, ◌||◌, ◌&&◌}
use mathlib.Core.List.{List, [], ◌∷◌, ◌++◌}
use native.Mathlib.Omega.{arith}
use native.Mathlib.Numerals.{add-one}
use mir.Syntax.{w32}
use mir.Val.{Fits, bool_byte}
use lib.ListN.{length, get_or, drop, drop_of_length-le}
use lib.Seq.{drop-cons}
use lib.Dec.{ltb, leb}
use borrow.Author.Tests.{le-leb, leb-true, le-ltb, ltb-false}
use Rattle.words.specs.Words.{bit}
use Rattle.types.proofs.Tests.{and_true, both}
use Rattle.names.specs.Table.{all_printable}
use Rattle.names.specs.Inner.{odd, odd_bytes}

-- ---- one byte
bit_byte : (b : Bool) → bool_byte b ≡ bit b
bit_byte true = refl
bit_byte false = refl

pub odd_told : (b : ℕ) → bool_byte (ltb b 32 || ltb 126 b) ≡ odd b
unfolding odd
odd_told b = bit_byte (ltb b 32 || ltb 126 b)

bit_small : (b : Bool) → bit b ≤ 1
bit_small true = omega arith
bit_small false = omega arith

pub odd_small : (b : ℕ) → odd b ≤ 1
unfolding odd
odd_small b = bit_small (ltb b 32 || ltb 126 b)

printable_odd : (b : ℕ) → 32 ≤ b → b ≤ 126 → odd b ≡ 0
unfolding odd
printable_odd b h l = rw (le-ltb b 32 h, le-ltb 126 b l)

odd_printable : (b : ℕ) → odd b ≡ 0 → (32 ≤ b) × (b ≤ 126)
unfolding odd
odd_printable b e = go (ltb b 32) (ltb 126 b) refl refl e
  where
    go : (x y : Bool) → ltb b 32 ≡ x → ltb 126 b ≡ y → bit (x || y) ≡ 0 → (32 ≤ b) × (b ≤ 126)
    go true y p q r = absurd (omega (arith, r))
    go false true p q r = absurd (omega (arith, r))
    go false false p q r = (ltb-false b 32 p, ltb-false 126 b q)

-- ---- as many as there are
pub printable_none : (bs : List ℕ) → all_printable bs ≡ true → odd_bytes bs ≡ 0
unfolding all_printable odd_bytes
printable_none [] e = refl
printable_none (b ∷ bs) e =
    let p = and_true (leb 32 b) (leb b 126 && all_printable bs) e in
    let q = and_true (leb b 126) (all_printable bs) p.1 in
    omega (arith, printable_odd b (leb-true _ _ p.0) (leb-true _ _ q.0), printable_none bs q.1)

pub none_printable : (bs : List ℕ) → odd_bytes bs ≡ 0 → all_printable bs ≡ true
unfolding all_printable odd_bytes
none_printable [] e = refl
none_printable (b ∷ bs) e =
    let p = odd_printable b (omega (arith, e)) in
    both (le-leb 32 b p.0) (both (le-leb b 126 p.1) (none_printable bs (omega (arith, e))))

pub odd_append : (n bs : List ℕ) → odd_bytes (n ++ bs) ≡ odd_bytes n + odd_bytes bs
unfolding odd_bytes
odd_append [] bs = omega arith
odd_append (b ∷ n) bs = omega (arith, odd_append n bs)

-- ---- the loop
pub record Counted (bs : List ℕ) (n i : ℕ) : Type 0 where
  pub high : i ≤ length bs
  pub low : n ≤ i
  pub rest : odd_bytes bs ≡ n + odd_bytes (drop i bs)

module _ {bs : List ℕ} where
  module _ {n i : ℕ} (C : Counted bs n i) where
    module _ (h : i < length bs) {x : ℕ} (e : x ≡ odd (get_or bs i 0)) where
      pub count_fits : length bs ≤ 65536 → Fits w32 (n + x)
      count_fits l = omega (arith, odd_small (get_or bs i 0), C.low, h, e)

      pub count_more : Counted bs (n + x) (i + 1)
      unfolding odd_bytes
      count_more =
          let q : odd_bytes (drop i bs) ≡ odd (get_or bs i 0) + odd_bytes (drop (i + 1) bs) = ap odd_bytes (drop-cons bs i 0 h) ∙ ap (λ (k : ℕ). odd (get_or bs i 0) + odd_bytes (drop k bs)) (sym (add-one i)) in
          record { high = omega arith; low = omega (arith, odd_small (get_or bs i 0), C.low, e); rest = omega (arith, C.rest, q, e) }

    pub count_done : length bs ≤ i → n ≡ odd_bytes bs
    unfolding odd_bytes
    count_done h = let q : odd_bytes (drop i bs) ≡ 0 = ap odd_bytes (drop_of_length-le bs h) in omega (arith, C.rest, q)
