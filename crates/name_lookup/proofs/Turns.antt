-- A number below 2^most is halved at most so often, and what is at most its half once less.
use Prim.Native.Nat.{ℕ, zero, suc, ◌/◌, ◌^◌, ◌<◌, ◌≤◌}
use mathlib.Core.Path.{◌≡◌, refl, sym, ap, ◌∙◌}
use mathlib.Core.Bool.{Bool, true, false}
use native.Mathlib.Omega.{arith}
use native.Mathlib.Nat.{pow-zero, pow-suc, mul_comm}
use lib.Dec.{eqb}
use borrow.Author.Tests.{eq-eqb, ne_eqb}
use Rattle.name_lookup.specs.Turns.{halvings}
use Rattle.name_lookup.specs.Theorems.{ThirteenTurns}

module _ (most n : ℕ) where
  halved : {b : Bool} → eqb n 0 ≡ b → halvings (suc most) n ≡ elim b [ true ↦ 0 | false ↦ suc (halvings most (n / 2)) ]
  unfolding halvings
  halved e = ap (λ (b : Bool). elim b [ true ↦ 0 | false ↦ suc (halvings most (n / 2)) ]) e

  none_left : n ≡ 0 → halvings (suc most) n ≡ 0
  none_left e = halved (eq-eqb n 0 e)

  some_left : 0 < n → halvings (suc most) n ≡ suc (halvings most (n / 2))
  some_left h = halved (ne_eqb n 0 (λ e. omega arith))

-- zero or not
by_zero : {P : Type 0} (n : ℕ) → (n ≡ 0 → P) → (0 < n → P) → P
by_zero zero f g = f refl
by_zero (suc n) f g = g (omega arith)

capped : (most n : ℕ) → halvings most n ≤ most
unfolding halvings
capped zero n = omega arith
capped (suc most) n =
    let r = capped most (n / 2) in
    by_zero n (λ e. omega (arith, none_left most n e)) (λ h. omega (arith, some_left most n h))

rises_with : (most m n : ℕ) → m ≤ n → halvings most m ≤ halvings most n
unfolding halvings
rises_with zero m n h = omega arith
rises_with (suc most) m n h =
    let r = rises_with most (m / 2) (n / 2) (omega arith) in
    by_zero m (λ e. omega (arith, none_left most m e)) (λ k. omega (arith, some_left most m k, some_left most n (omega arith)))

enough : (most n : ℕ) → n < 2 ^ most → halvings (suc most) n ≡ halvings most n
unfolding halvings
enough zero n h = none_left 0 n (omega (arith, pow-zero 2))
enough (suc most) n h =
    let r = enough most (n / 2) in
    by_zero n
    (λ e. none_left (suc most) n e ∙ sym (none_left most n e))
    (λ k. some_left (suc most) n k ∙ ap suc (r (omega (arith, pow-suc 2 most, mul_comm (2 ^ most) 2))) ∙ sym (some_left most n k))

turn : (most m n : ℕ) → 0 < n → n < 2 ^ suc most → m ≤ n / 2 → halvings (suc most) m < halvings (suc most) n
turn most m n h k l =
    omega (arith, some_left most n h, enough most m (omega (arith, pow-suc 2 most, mul_comm (2 ^ most) 2)), rises_with most m (n / 2) l)

pub thirteen_turns : ThirteenTurns
thirteen_turns = record { most = capped 13; less = λ m n h k l. turn 12 m n h (omega arith) l }
