-- Numbers and words in bytes, and read again.
use Prim.Native.Nat.{ℕ, zero, suc, ◌+◌, ◌*◌, ◌/◌, ◌%◌, ◌^◌, ◌<◌}
use mathlib.Core.Path.{◌≡◌, refl, sym, ap, ap₂, ◌∙◌}
use mathlib.Core.Bool.{true}
use mathlib.Core.List.{List, [], ◌∷◌, ◌++◌, append_assoc, append-nil}
use native.Mathlib.Omega.{arith}
use native.Mathlib.Nat.{pow-suc}
use lib.ListN.{length, take, drop, length-append, length-drop, take-append-drop}
use lib.Seq.{take_at, drop_at, append_snoc, length-take-le}
use Rattle.types.specs.Node.{below}
use Rattle.types.proofs.Tests.{both}
use Rattle.types.proofs.Lists.{below_cons}
use borrow.Author.Tests.{lt-ltb}
use Rattle.sheet_reading.specs.Sheet.{value_after, value, words}
use Rattle.sheet_writing.specs.Bytes.{number_bytes, words_bytes}

-- ---- numbers below n, in two lists
pub below_join : (n : ℕ) (s t : List ℕ) → below n s ≡ true → below n t ≡ true → below n (s ++ t) ≡ true
unfolding below
below_join n [] t p q = q
below_join n (c ∷ s) t p q = let r = below_cons n c s p in both (lt-ltb c n r.0) (below_join n s t r.1 q)

pub below_parts : (n : ℕ) (s t : List ℕ) → below n (s ++ t) ≡ true → (below n s ≡ true) × (below n t ≡ true)
unfolding below
below_parts n [] t e = (refl, e)
below_parts n (c ∷ s) t e = let r = below_cons n c (s ++ t) e in let p = below_parts n s t r.1 in (both (lt-ltb c n r.0) p.0, p.1)

module _ (n k : ℕ) (s : List ℕ) (e : below n s ≡ true) where
  parts : (below n (take k s) ≡ true) × (below n (drop k s) ≡ true)
  parts = below_parts n (take k s) (drop k s) (rw (take-append-drop k s) e)

  pub below_take : below n (take k s) ≡ true
  below_take = parts.0

  pub below_drop : below n (drop k s) ≡ true
  below_drop = parts.1

-- ---- one number
pub length_number : (k n : ℕ) → length (number_bytes k n) ≡ k
unfolding number_bytes
length_number zero n = refl
length_number (suc k) n = length-append (number_bytes k (n / 256)) (n % 256 ∷ []) ∙ omega (arith, length_number k (n / 256))

value_more : (bs : List ℕ) (n b : ℕ) → value_after n (bs ++ (b ∷ [])) ≡ value_after n bs * 256 + b
unfolding value_after
value_more [] n b = refl
value_more (c ∷ bs) n b = value_more bs (n * 256 + c) b

pub number_back : (k n : ℕ) → n < 256 ^ k → value (number_bytes k n) ≡ n
unfolding number_bytes value_after
number_back zero n h = omega arith
number_back (suc k) n h =
    let l : n / 256 < 256 ^ k = omega (arith, pow-suc 256 k) in
    value_more (number_bytes k (n / 256)) 0 (n % 256) ∙ omega (arith, number_back k (n / 256) l)

-- behind a number of k bytes
bytes_after : (bs : List ℕ) (k n : ℕ) → below 256 bs ≡ true → number_bytes (length bs + k) (value_after n bs) ≡ number_bytes k n ++ bs
unfolding number_bytes value_after
bytes_after [] k n e = let z : 0 + k ≡ k = omega arith in ap (λ (j : ℕ). number_bytes j n) z ∙ sym (append-nil (number_bytes k n))
bytes_after (b ∷ bs) k n e =
    let r = below_cons 256 b bs e in
    let z : suc (length bs) + k ≡ length bs + suc k = omega arith in
    let p : (n * 256 + b) / 256 ≡ n = omega (arith, r.0) in
    let q : (n * 256 + b) % 256 ≡ b = omega (arith, r.0) in
    ap (λ (j : ℕ). number_bytes j (value_after (n * 256 + b) bs)) z ∙ bytes_after bs (suc k) (n * 256 + b) r.1
    ∙ (λ i. number_bytes k (p i) ++ (q i ∷ []) ++ bs) ∙ append_snoc (number_bytes k n) b bs

pub bytes_back : (bs : List ℕ) → below 256 bs ≡ true → number_bytes (length bs) (value bs) ≡ bs
unfolding number_bytes
bytes_back bs e = let z : length bs ≡ length bs + 0 = omega arith in ap (λ (k : ℕ). number_bytes k (value bs)) z ∙ bytes_after bs 0 0 e

-- ---- words
pub length_words : (ws : List ℕ) → length (words_bytes ws) ≡ 4 * length ws
unfolding words_bytes
length_words [] = refl
length_words (w ∷ ws) = length-append (number_bytes 4 w) (words_bytes ws) ∙ omega (arith, length_number 4 w, length_words ws)

pub words_join : (v w : List ℕ) → words_bytes (v ++ w) ≡ words_bytes v ++ words_bytes w
unfolding words_bytes
words_join [] w = refl
words_join (x ∷ v) w = ap (λ (l : List ℕ). number_bytes 4 x ++ l) (words_join v w) ∙ sym (append_assoc (number_bytes 4 x) (words_bytes v) (words_bytes w))

pub words_back : (ws : List ℕ) → below (2 ^ 32) ws ≡ true → words (length ws) (words_bytes ws) ≡ ws
unfolding words words_bytes
words_back [] e = refl
words_back (w ∷ ws) e =
    let p = below_cons (2 ^ 32) w ws e in
    ap₂ ◌∷◌
    (ap value (take_at (number_bytes 4 w) (words_bytes ws) 4 (length_number 4 w)) ∙ number_back 4 w p.0)
    (ap (words (length ws)) (drop_at (number_bytes 4 w) (words_bytes ws) 4 (length_number 4 w)) ∙ words_back ws p.1)

pub words_again : (k : ℕ) (bs : List ℕ) → length bs ≡ 4 * k → below 256 bs ≡ true → words_bytes (words k bs) ≡ bs
unfolding words words_bytes
words_again zero [] l e = refl
words_again zero (b ∷ bs) l e = absurd (omega arith)
words_again (suc k) bs l e =
    let four : length (take 4 bs) ≡ 4 = length-take-le 4 bs (omega arith) in
    ap₂ ◌++◌
    (ap (λ (n : ℕ). number_bytes n (value (take 4 bs))) (sym four) ∙ bytes_back (take 4 bs) (below_take 256 4 bs e))
    (words_again k (drop 4 bs) (omega (arith, length-drop 4 bs)) (below_drop 256 4 bs e))
    ∙ take-append-drop 4 bs
