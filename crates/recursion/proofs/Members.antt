-- The members of a list of numbers, by their index.
use Prim.Native.Nat.{ℕ, zero, suc, ◌<◌, zero-le, suc-le-suc}
use mathlib.Core.Path.{◌≡◌, refl, sym, subst}
use mathlib.Core.Bool.{true}
use mathlib.Core.List.Memᴰ.{head}
use mathlib.Core.List.Memᴰ.{tail}
use mathlib.Core.List.{List, [], ◌∷◌, Memᴰ as Mem}
use native.Mathlib.Omega.{arith}
use native.Mathlib.Nat.{le_of_suc-le-suc, not-suc-le-zero}
use lib.ListN.{length, get_or}
use Rattle.types.specs.Node.{below}
use Rattle.types.proofs.Lists.{below_by}

pub record Index (x : ℕ) (cs : List ℕ) : Type 0 where
  pub index : ℕ
  pub inside : index < length cs
  pub is : get_or cs index 0 ≡ x

pub index_of : {x : ℕ} {cs : List ℕ} → Mem x cs → Index x cs
index_of (head e) = record { index = 0; inside = suc-le-suc zero-le; is = sym e }
index_of (tail h) = let q = index_of h in record { index = suc q.index; inside = suc-le-suc q.inside; is = q.is }

pub member_at : (cs : List ℕ) (i : ℕ) → i < length cs → Mem (get_or cs i 0) cs
member_at [] i l = absurd (not-suc-le-zero l)
member_at (c ∷ cs) zero l = head refl
member_at (c ∷ cs) (suc i) l = tail (member_at cs i (le_of_suc-le-suc l))

-- what holds at each index holds of each member
pub each_member : (P : ℕ → Type 0) (n : ℕ) (cs : List ℕ) → length cs ≡ n → ((i : ℕ) → i < n → P (get_or cs i 0)) → (c : ℕ) → Mem c cs → P c
each_member P n cs q f c h = let j = index_of h in subst P j.is (f j.index (omega (arith, j.inside)))

pub member_below : (n : ℕ) (cs : List ℕ) → ((c : ℕ) → Mem c cs → c < n) → below n cs ≡ true
member_below n cs f = below_by n cs (λ j l. f (get_or cs j 0) (member_at cs j l))
