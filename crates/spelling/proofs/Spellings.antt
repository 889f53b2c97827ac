-- A name as the manual writes it, by whether it is plain: a plain one is printed alike either way, and any takes at most twice its bytes and the
-- quotes, since each byte becomes one or two.
use Prim.Native.Nat.{ℕ, ◌+◌, ◌*◌, ◌≤◌}
use mathlib.Core.Path.{◌≡◌, refl}
use mathlib.Core.Bool.{Bool, true, false}
use mathlib.Core.List.{List, [], ◌∷◌}
use native.Mathlib.Omega.{arith}
use lib.ListN.{length, length-append}
use Rattle.names.specs.Table.{Name}
use Rattle.spelling.specs.Spelling.{plain, backslashed, escaped_byte, escaped, quoted, nix_name, spelled}
use Rattle.spelling.specs.Theorems.{PlainAlike, SpelledLength}

pub nix_name_is : (n : Name) {t : Bool} → plain n ≡ t → nix_name n ≡ elim t as (λ _. List ℕ) [ true ↦ n | false ↦ quoted n ]
unfolding nix_name
nix_name_is n e = rw (e, nix_name)

pub plain_alike : PlainAlike
unfolding spelled
plain_alike n e = nix_name_is n e

byte_length : (t : Bool) (b : ℕ) → length (escaped_byte t b) ≤ 2
unfolding escaped_byte
byte_length true b = omega arith
byte_length false b = omega arith

escaped_length : (n : Name) → length (escaped n) ≤ 2 * length n
unfolding escaped
escaped_length [] = omega arith
escaped_length (b ∷ bs) =
    let t = backslashed (b ∷ bs) in omega (arith, length-append (escaped_byte t b) (escaped bs), byte_length t b, escaped_length bs)

quoted_length : (n : Name) → length (quoted n) ≤ 2 * length n + 2
unfolding quoted
quoted_length n = omega (arith, length-append (escaped n) (34 ∷ []), escaped_length n)

pub spelled_length : SpelledLength
spelled_length n = go (plain n) refl
  where
    go : (t : Bool) → plain n ≡ t → length (nix_name n) ≤ 2 * length n + 2
    go true e = rw (nix_name_is n e) (omega arith)
    go false e = rw (nix_name_is n e) (quoted_length n)
