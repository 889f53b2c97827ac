-- Identifiers, byte by byte: once all bytes passed go on with it, the rest decides.
use Prim.Native.Nat.{ℕ}
use mathlib.Core.Path.{◌≡◌, refl, sym, ap, ◌∙◌}
use mathlib.Core.Bool.{Bool, true, false, not, ◌&&◌, ◌||◌, or_assoc}
use mathlib.Core.List.{List, [], ◌∷◌}
use native.Mathlib.Omega.{arith}
use lib.ListN.{length}
use lib.Dec.{leb, eqb}
use Rattle.std.specs.List.{list_all}
use Rattle.std.specs.Char.{is_ascii_alphabetic, is_ascii_digit}
use Rattle.spelling.specs.Spelling.{letter, begins, continues, all_continue, identifier, reserved, plain}

-- ---- one byte
pub letter_told : (b : ℕ) → is_ascii_alphabetic b ≡ letter b
unfolding letter
letter_told b = go (leb 65 b && leb b 90) (leb 97 b && leb b 122)
  where
    go : (x y : Bool) → (x || y) ≡ (y || x)
    go true true = refl
    go true false = refl
    go false true = refl
    go false false = refl

pub begins_told : (b : ℕ) {r : Bool} → r ≡ letter b → (r || eqb b 95) ≡ begins b
unfolding begins
begins_told b e = ap (λ (x : Bool). x || eqb b 95) e

pub continues_told : (b : ℕ) {r d : Bool} → r ≡ begins b → d ≡ is_ascii_digit b → (((r || d) || eqb b 39) || eqb b 45) ≡ continues b
unfolding continues
continues_told b {r} {d} e q =
    or_assoc (r || d) (eqb b 39) (eqb b 45) ∙ or_assoc r d (eqb b 39 || eqb b 45) ∙ (λ i. e i || (q i || (eqb b 39 || eqb b 45)))

-- ---- all bytes
all_told : (bs : List ℕ) → list_all continues bs ≡ all_continue bs
unfolding all_continue
all_told [] = refl
all_told (b ∷ bs) = ap (λ (x : Bool). continues b && x) (all_told bs)

pub identifier_none : (n : List ℕ) → length n ≡ 0 → false ≡ identifier n
unfolding identifier
identifier_none [] e = refl
identifier_none (b ∷ n) e = absurd (omega arith)

module _ {n : List ℕ} {b : ℕ} {bs : List ℕ} (s : n ≡ b ∷ bs) {r : Bool} (e : r ≡ begins b) where
  first_told : identifier n ≡ (r && all_continue bs)
  unfolding identifier
  first_told = ap identifier s ∙ ap (λ (x : Bool). x && all_continue bs) (sym e)

  pub first_not : r ≡ false → r ≡ identifier n
  first_not f = f ∙ sym (first_told ∙ ap (λ (x : Bool). x && all_continue bs) f)

  pub first_then : r ≡ true → {x : Bool} → x ≡ list_all continues bs → x ≡ identifier n
  first_then t q = q ∙ all_told bs ∙ sym (first_told ∙ ap (λ (x : Bool). x && all_continue bs) t)

-- ---- plain names
module _ (n : List ℕ) {r : Bool} (e : r ≡ identifier n) where
  pub plain_not : r ≡ false → r ≡ plain n
  unfolding plain
  plain_not f = f ∙ sym (ap (λ (x : Bool). x && not (reserved n)) (sym e ∙ f))

  pub plain_unless : r ≡ true → {s : Bool} → s ≡ reserved n → not s ≡ plain n
  unfolding plain
  plain_unless t q = ap not q ∙ sym (ap (λ (x : Bool). x && not (reserved n)) (sym e ∙ t))
