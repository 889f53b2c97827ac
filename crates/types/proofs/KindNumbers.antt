-- A kind and its number say the same.
use Prim.Native.Nat.{ℕ, zero, suc, ◌+◌, ◌≤◌}
use mathlib.Core.Path.{◌≡◌, refl, ap}
use mathlib.Core.List.{List, [], ◌∷◌}
use mathlib.Core.Option.{some}
use native.Mathlib.Omega.{arith}
use lib.ListN.{get_elem?}
use Rattle.types.specs.Kind.{Kind, kinds, bottom, top, primitive, ty_var, list, lambda, attr_set, union, intersection, named, neg, disc, kind_of}
use Rattle.types.specs.Theorems.{KindOfDisc, DiscKindOf}

pub kind_of_disc : KindOfDisc
unfolding kind_of
kind_of_disc bottom = refl
kind_of_disc top = refl
kind_of_disc primitive = refl
kind_of_disc ty_var = refl
kind_of_disc list = refl
kind_of_disc lambda = refl
kind_of_disc attr_set = refl
kind_of_disc union = refl
kind_of_disc intersection = refl
kind_of_disc named = refl
kind_of_disc neg = refl

pub disc_small : (k : Kind) → disc k ≤ 10
disc_small bottom = omega arith
disc_small top = omega arith
disc_small primitive = omega arith
disc_small ty_var = omega arith
disc_small list = omega arith
disc_small lambda = omega arith
disc_small attr_set = omega arith
disc_small union = omega arith
disc_small intersection = omega arith
disc_small named = omega arith
disc_small neg = omega arith

-- the list of kinds is in the order of their numbers
abbrev Ordered : ℕ → List Kind → Type 0
Ordered i [] = Unit
Ordered i (k ∷ ks) = (i ≡ disc k) × Ordered (suc i) ks

ordered_at : (i : ℕ) (ks : List Kind) → Ordered i ks → (n : ℕ) (k : Kind) → get_elem? ks n ≡ some k → n + i ≡ disc k
ordered_at i [] o n k e = let z : ◌≡◌ {A = ℕ} 0 1 = cc in absurd (omega arith)
ordered_at i (j ∷ ks) o zero k e = let q : j ≡ k = cc in omega (arith, o.0, ap disc q)
ordered_at i (j ∷ ks) o (suc n) k e = omega (arith, ordered_at (suc i) ks o.1 n k e)

pub disc_kind_of : DiscKindOf
unfolding kind_of
disc_kind_of n k e =
    omega (arith, ordered_at 0 kinds (refl, (refl, (refl, (refl, (refl, (refl, (refl, (refl, (refl, (refl, (refl, tt))))))))))) n k e)
