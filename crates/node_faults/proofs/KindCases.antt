-- The numbers up to 10 are those of the kinds, and no others are.
use Prim.Native.Nat.{ℕ, zero, suc, ◌<◌, ◌≤◌, zero-le, suc-le-suc}
use mathlib.Core.Path.{◌≡◌, refl}
use mathlib.Core.List.{List, [], ◌∷◌}
use mathlib.Core.Option.{Option, none, some}
use native.Mathlib.Omega.{arith}
use lib.ListN.{length, get_elem?}
use Rattle.types.specs.Kind.{Kind, kinds, disc, kind_of}
use Rattle.types.proofs.KindNumbers.{disc_small, disc_kind_of}

pub no_kind : (k : ℕ) → 10 < k → kind_of k ≡ none
no_kind k h = go (kind_of k) refl
  where
    go : (x : Option Kind) → kind_of k ≡ x → x ≡ none
    go none e = refl
    go (some j) e = absurd (omega (arith, disc_small j, disc_kind_of k j e))

past : (l : List Kind) (i : ℕ) → get_elem? l i ≡ none → length l ≤ i
past [] i e = zero-le
past (j ∷ l) zero e = let z : ◌≡◌ {A = ℕ} 0 1 = cc in absurd (omega arith)
past (j ∷ l) (suc i) e = suc-le-suc (past l i e)

pub record IsKind (k : ℕ) : Type 0 where
  pub kind : Kind
  pub found : kind_of k ≡ some kind
  pub is : k ≡ disc kind

pub is_kind : (k : ℕ) → k ≤ 10 → IsKind k
unfolding kind_of
is_kind k h = go (kind_of k) refl
  where
    go : (x : Option Kind) → kind_of k ≡ x → IsKind k
    go none e = absurd (omega (arith, past kinds k e))
    go (some j) e = record { kind = j; found = e; is = disc_kind_of k j e }
