-- The digits of a number of 32 bits fit a short text, and its bytes are those digits.
use Prim.Native.Nat.{ℕ, ◌^◌, ◌<◌, ◌≤◌}
use mathlib.Core.Path.{◌≡◌, ap, ◌∙◌, subst}
use mathlib.Core.List.{List, []}
use native.Mathlib.Omega.{arith}
use lib.ListN.{length, length-append}
use Rattle.types.specs.Decimal.{decimal}
use Rattle.types.specs.Short.{short_text}
use Rattle.types.specs.Inner.{text, appended, Room}
use Rattle.types.specs.declared.short_text.ShortText.{ShortText}
use Rattle.types.proofs.Decimals.{decimal_length}
use Rattle.types.proofs.Shorts.{text_short, appended_short, room_of}
use Rattle.appending.specs.Inner.{Writes}

pub few_digits : (n : ℕ) → n < 2 ^ 32 → length (decimal n) ≤ 10
few_digits n h = decimal_length 9 n (omega arith)

module _ {u : ShortText} (empty : u ≡ short_text []) (n : ℕ) where
  pub room_digits : n < 2 ^ 32 → Room u (length (decimal n))
  room_digits h = room_of [] empty (omega (arith, few_digits n h))

  module _ {t : ShortText} (e : t ≡ appended u (decimal n)) where
    short : t ≡ short_text (decimal n)
    short = e ∙ appended_short [] (decimal n) empty

    pub digits_inside : n < 2 ^ 32 → t.len ≤ length t.bytes
    unfolding short_text
    digits_inside h = rw (short, length-append) (omega (arith, few_digits n h))

    pub digits_written : {b : List ℕ} {c : ℕ} {b' : List ℕ} {r : ℕ} → Writes b c (text t) b' r → Writes b c (decimal n) b' r
    digits_written {b} {c} {b'} {r} W = subst (λ (x : List ℕ). Writes b c x b' r) (ap text short ∙ text_short (decimal n)) W
