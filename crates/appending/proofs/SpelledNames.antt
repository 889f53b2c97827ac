-- A name as it is spelled: in quotes it is written byte by byte, each behind a backslash or not.
use Prim.Native.Nat.{ℕ, ◌+◌, ◌-◌, ◌<◌, ◌≤◌}
use mathlib.Core.Path.{◌≡◌, refl, sym, ap, ◌∙◌, subst}
use mathlib.Core.Bool.{Bool, true, false}
use mathlib.Core.List.{List, [], ◌∷◌, ◌++◌, append_assoc, append-nil}
use native.Mathlib.Omega.{arith}
use native.Mathlib.Numerals.{add-one}
use lib.ListN.{length, get_or, take, drop, drop_of_length-le}
use lib.Seq.{drop-cons}
use Rattle.names.specs.Table.{Name}
use Rattle.spelling.specs.Spelling.{plain, backslashed, escaped_byte, escaped, quoted, nix_name, spelled}
use Rattle.spelling.specs.declared.Spelling.{Spelling}
use Rattle.spelling.proofs.Spellings.{nix_name_is}
use Rattle.appending.specs.Parts.{when}
use Rattle.appending.specs.Inner.{Writes}
use Rattle.appending.proofs.Appending.{writes_nothing, writes_then}

-- ---- one byte
escaped_is : (so : Bool) (b : ℕ) → when so (92 ∷ []) ++ (b ∷ []) ≡ escaped_byte so b
unfolding when escaped_byte
escaped_is true b = refl
escaped_is false b = refl

pub byte_written : (n : List ℕ) (i : ℕ) → i < length n → {so : Bool} → so ≡ backslashed (drop i n)
    → {b : List ℕ} {c : ℕ} {b₁ : List ℕ} {m : ℕ} → Writes b c (when so (92 ∷ [])) b₁ m → {b₂ : List ℕ} {k : ℕ} → Writes b₁ m (take (i + 1 - i) (drop i n)) b₂ k
    → Writes b c (escaped_byte (backslashed (drop i n)) (get_or n i 0)) b₂ k
byte_written n i h {so} e {b} {c} W {b₂} {k} U = subst (λ (x : List ℕ). Writes b c x b₂ k) is (writes_then W U)
  where
    single : i + 1 - i ≡ 1
    single = omega arith

    is : when so (92 ∷ []) ++ take (i + 1 - i) (drop i n) ≡ escaped_byte (backslashed (drop i n)) (get_or n i 0)
    is = (λ j. when so (92 ∷ []) ++ take (single j) (drop-cons n i 0 h j)) ∙ escaped_is so (get_or n i 0) ∙ ap (λ (x : Bool). escaped_byte x (get_or n i 0)) e

-- ---- the loop over the bytes of a name, from the bytes b₀ and their count
pub record Escaping (n b₀ : List ℕ) (end₀ : ℕ) (b : List ℕ) (end i : ℕ) : Type 0 where
  pub high : i ≤ length n
  pub so_far : List ℕ
  pub written : Writes b₀ end₀ so_far b end
  pub left : so_far ++ escaped (drop i n) ≡ escaped n

module _ {n : List ℕ} where
  pub escaping_start : {b : List ℕ} {end : ℕ} → Escaping n b end b end 0
  escaping_start = record { high = omega arith; so_far = []; written = writes_nothing refl; left = refl }

  module _ {b₀ : List ℕ} {end₀ : ℕ} {b : List ℕ} {end i : ℕ} (E : Escaping n b₀ end₀ b end i) where
    pub escaping_more : i < length n → {b₁ : List ℕ} {m : ℕ} → Writes b end (escaped_byte (backslashed (drop i n)) (get_or n i 0)) b₁ m → Escaping n b₀ end₀ b₁ m (i + 1)
    unfolding escaped
    escaping_more h W = record {
      high = omega arith;
      so_far = E.so_far ++ piece;
      written = writes_then E.written W;
      left = append_assoc E.so_far piece (escaped (drop (i + 1) n)) ∙ ap (λ (l : List ℕ). E.so_far ++ l) next ∙ E.left;
    }
      where
        piece : List ℕ
        piece = escaped_byte (backslashed (drop i n)) (get_or n i 0)

        -- byte i and those after it
        next : piece ++ escaped (drop (i + 1) n) ≡ escaped (drop i n)
        next =
            let d = drop-cons n i 0 h in
            (λ j. escaped_byte (backslashed (d j)) (get_or n i 0) ++ escaped (drop (add-one i j) n)) ∙ sym (ap escaped d)

    pub escaping_done : length n ≤ i → Writes b₀ end₀ (escaped n) b end
    unfolding escaped
    escaping_done h =
        let all : E.so_far ≡ escaped n = sym (append-nil E.so_far) ∙ ap (λ (l : List ℕ). E.so_far ++ escaped l) (sym (drop_of_length-le n h)) ∙ E.left in
        subst (λ (x : List ℕ). Writes b₀ end₀ x b end) all E.written

-- ---- the name as it is spelled, told by a test and by the spelling
pub nix_written : (t : Bool) (n : Name) {r : Bool} → r ≡ plain n → r ≡ t
    → {b : List ℕ} {c : ℕ} {b' : List ℕ} {end : ℕ} → Writes b c (elim t as (λ _. List ℕ) [ true ↦ n | false ↦ quoted n ]) b' end → Writes b c (nix_name n) b' end
nix_written t n e q {b} {c} {b'} {end} W = subst (λ (x : List ℕ). Writes b c x b' end) (sym (nix_name_is n (sym e ∙ q))) W

pub spelled_written : (so : Spelling) (n : Name) {sp : Spelling} → sp ≡ so
    → {b : List ℕ} {c : ℕ} {b' : List ℕ} {end : ℕ} → Writes b c (spelled so n) b' end → Writes b c (spelled sp n) b' end
spelled_written so n q {b} {c} {b'} {end} W = subst (λ (x : Spelling). Writes b c (spelled x n) b' end) (sym q) W
