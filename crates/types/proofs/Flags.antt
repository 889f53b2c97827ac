-- What `||` and `&&` come to on each way through the code: the flag that settles them, or the last one.
use Prim.Native.Nat.{ℕ}
use mathlib.Core.Path.{◌≡◌}
use mathlib.Core.Bool.{Bool, true, false, ◌||◌, ◌&&◌}
use lib.Dec.{eqb}
use borrow.Author.Tests.{eq-eqb, ne_eqb}

-- ---- after a call whose answer is the first part
pub called_or : {r p : Bool} (q : Bool) → r ≡ p → r ≡ true → r ≡ (p || q)
called_or q e t = rw (← e, t)

pub called_or_next : {r p s q : Bool} → r ≡ p → r ≡ false → s ≡ q → s ≡ (p || q)
called_or_next e f h = rw (← e, f, h)

-- ---- after a comparison
pub compared_or : (x k : ℕ) (q : Bool) → x ≡ k → eqb x k ≡ (eqb x k || q)
compared_or x k q e = rw (eq-eqb x k e)

pub compared_or_next : (x k : ℕ) {s q : Bool} → (x ≡ k → ⊥) → s ≡ q → s ≡ (eqb x k || q)
compared_or_next x k f h = rw (ne_eqb x k f, h)

pub compared_and : (x k : ℕ) (q : Bool) → (x ≡ k → ⊥) → eqb x k ≡ (eqb x k && q)
compared_and x k q f = rw (ne_eqb x k f)

pub compared_and_next : (x k : ℕ) {s q : Bool} → x ≡ k → s ≡ q → s ≡ (eqb x k && q)
compared_and_next x k e h = rw (eq-eqb x k e, h)

pub ruleset flags = (called_or, called_or_next, compared_or, compared_or_next, compared_and, compared_and_next)
