-- What `Writes` says: of nothing, of one text behind another, of the loop that copies bytes.
use Prim.Native.Nat.{ℕ, zero, suc, ◌+◌, ◌-◌, ◌<◌, ◌≤◌}
use mathlib.Core.Path.{◌≡◌, refl, sym, ap, ◌∙◌, subst}
use mathlib.Core.Bool.{Bool, true, false}
use mathlib.Core.List.{List, [], ◌++◌, append_assoc}
use native.Mathlib.Omega.{arith}
use native.Mathlib.Decide.{dec_le}
use native.Mathlib.Numerals.{add-one}
use lib.ListN.{length, get_or, take, drop, set, length-set, length-append}
use lib.Seq.{paste, paste-zero, paste-suc, take-paste, drop-paste, drop-drop, take-length}
use Rattle.appending.specs.Parts.{when, between}
use Rattle.appending.specs.Inner.{Writes}

-- ---- no bytes, and no room
module _ {b : List ℕ} {c : ℕ} where
  pub writes_nothing : {x : List ℕ} → x ≡ [] → Writes b c x b c
  writes_nothing e = subst (λ (x : List ℕ). Writes b c x b c) (sym e) (record {
    long = refl;
    put = λ h. paste-zero b c [];
    fits = λ h. omega arith;
    full = λ h. omega arith;
  })

  pub writes_over : {x : List ℕ} → length b < c → Writes b c x b c
  writes_over l = record { long = refl; put = λ h. absurd (omega arith); fits = λ h. absurd (omega arith); full = λ h. l }

  pub writes_full : {x : List ℕ} → c ≤ length b → length b - c < length x → Writes b c x b (length b + 1)
  writes_full k l = record { long = refl; put = λ h. absurd (omega arith); fits = λ h. absurd (omega arith); full = λ h. omega arith }

-- ---- one text behind another
paste_twice : (b x y : List ℕ) (c : ℕ) → c ≤ length b → paste (paste b c x (length x)) (c + length x) y (length y) ≡ paste b c (x ++ y) (length (x ++ y))
paste_twice b x y c h =
    let n = length x in
    let m = length y in
    (λ i. take-paste b c x n h (omega arith) i ++ take-length y i ++ sym (drop-drop m (c + n) (paste b c x n)) i)
    ∙ (λ i. (take c b ++ take-length x i) ++ y ++ drop m (drop-paste b c x n h (omega arith) i))
    ∙ ap (λ (l : List ℕ). (take c b ++ x) ++ y ++ l) (drop-drop m (c + n) b)
    ∙ ap (λ (l : List ℕ). l ++ drop (c + n + m) b) (append_assoc (take c b) x y)
    ∙ (λ i. take c b ++ sym (take-length (x ++ y)) i ++ drop (more i) b)
  where
    more : c + length x + length y ≡ c + length (x ++ y)
    more = omega (arith, length-append x y)

pub writes_then : {b : List ℕ} {c : ℕ} {x b₁ : List ℕ} {m : ℕ} {y b₂ : List ℕ} {e : ℕ} → Writes b c x b₁ m → Writes b₁ m y b₂ e → Writes b c (x ++ y) b₂ e
writes_then {b} {c} {x} {b₁} {m} {y} {b₂} {e} W U = record {
  long = U.long ∙ W.long;
  put = λ h.
      let f : c + length x ≤ length b = omega (arith, length-append x y) in
      U.put (again h)
      ∙ (λ i. paste (W.put f i) (W.fits f i) y (length y)) ∙ paste_twice b x y c (omega arith);
  fits = λ h. let f : c + length x ≤ length b = omega (arith, length-append x y) in
      let p = W.fits f in let q = U.fits (again h) in omega (arith, p, q, length-append x y);
  full = λ h. over h (dec_le (c + length x) (length b));
}
  where
    again : c + length (x ++ y) ≤ length b → m + length y ≤ length b₁
    again h =
        let f : c + length x ≤ length b = omega (arith, length-append x y) in
        let p = W.fits f in
        let l = W.long in omega (arith, p, l, length-append x y, h)

    over : length b < c + length (x ++ y) → Dec (c + length x ≤ length b) → length b < e
    over h (yes f) =
        let p = W.fits f in
        let l = W.long in
        let k : length b₁ < m + length y = omega (arith, p, l, length-append x y, h) in
        let r = U.full k in omega (arith, l, r)
    over h (no f) =
        let p : length b < m = W.full (omega (arith, f)) in
        let l = W.long in
        let r = U.full (omega (arith, l, p)) in omega (arith, l, r)

pub writes_three : {b : List ℕ} {c : ℕ} {x b₁ : List ℕ} {m : ℕ} {y b₂ : List ℕ} {n : ℕ} {z b₃ : List ℕ} {e : ℕ}
    → Writes b c x b₁ m → Writes b₁ m y b₂ n → Writes b₂ n z b₃ e → Writes b c (x ++ y ++ z) b₃ e
writes_three W U X = writes_then (writes_then W U) X

-- ---- under a condition; behind the first child
module _ {b : List ℕ} {c : ℕ} (x : List ℕ) (so : Bool) where
  pub writes_when : so ≡ true → {b' : List ℕ} {e : ℕ} → Writes b c x b' e → Writes b c (when so x) b' e
  unfolding when
  writes_when p W = rw p W

  pub writes_unless : so ≡ false → Writes b c (when so x) b c
  unfolding when
  writes_unless p = writes_nothing (ap (λ (s : Bool). when s x) p)

later : (x : List ℕ) (i : ℕ) → (i ≡ 0 → ⊥) → x ≡ between x i
unfolding between
later x zero f = absurd (f refl)
later x (suc i) f = refl

module _ {b : List ℕ} {c : ℕ} (x : List ℕ) (i : ℕ) where
  pub writes_first : i ≡ 0 → Writes b c (between x i) b c
  unfolding between
  writes_first p = writes_nothing (ap (between x) p)

  pub writes_later : (i ≡ 0 → ⊥) → {b' : List ℕ} {e : ℕ} → Writes b c x b' e → Writes b c (between x i) b' e
  writes_later f {b'} {e} W = subst (λ (y : List ℕ). Writes b c y b' e) (later x i f) W

-- ---- i bytes copied so far
pub record Copying (b : List ℕ) (c : ℕ) (x b' : List ℕ) (i : ℕ) : Type 0 where
  pub room : c + length x ≤ length b
  pub high : i ≤ length x
  pub long : length b' ≡ length b
  pub is : b' ≡ paste b c x i

module _ {b x : List ℕ} {c : ℕ} where
  pub copying_start : c ≤ length b → length x ≤ length b - c → Copying b c x b 0
  copying_start h k = record { room = omega arith; high = omega arith; long = refl; is = paste-zero b c x }

  pub copying_more : {b' : List ℕ} {i : ℕ} → Copying b c x b' i → i < length x → Copying b c x (set b' (c + i) (get_or x i 0)) (i + 1)
  copying_more {b'} {i} C h = record {
    room = C.room;
    high = omega arith;
    long = length-set b' (c + i) (get_or x i 0) ∙ C.long;
    is = ap (λ (l : List ℕ). set l (c + i) (get_or x i 0)) C.is ∙ paste-suc b c x i 0 (omega (arith, C.room)) h ∙ ap (paste b c x) (sym (add-one i));
  }

  pub copying_done : {b' : List ℕ} {i : ℕ} → Copying b c x b' i → length x ≤ i → Writes b c x b' (c + length x)
  copying_done {i = i} C h =
      let e : i ≡ length x = omega (arith, C.high) in
      record { long = C.long; put = λ k. C.is ∙ ap (paste b c x) e; fits = λ k. refl; full = λ k. absurd (omega (arith, C.room)) }
