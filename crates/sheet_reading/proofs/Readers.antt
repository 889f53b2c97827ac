-- Readers step by step: where there are bytes enough, what they say and the place after them; and an outcome taken apart.
use Prim.Native.Nat.{ℕ, ◌<◌, ◌≤◌}
use mathlib.Core.Path.{◌≡◌, sym, ap, subst}
use mathlib.Core.List.{List}
use native.Mathlib.Omega.{arith}
use lib.ListN.{length, take, drop}
use borrow.Author.Tests.{le-leb, lt-leb}
use Rattle.std.specs.Prelude.{Ok, Err}
use Rattle.types.specs.declared.refusal.Refusal.{Refusal}
use Rattle.types.specs.declared.refusal.Refusal.TheVariants as refusal
use Rattle.types.specs.Out.{Out}
use Rattle.sheet_reading.specs.Sheet.{several, value, number}
use Rattle.sheet_reading.specs.Inner.Steps.{Reads, to, stop}

-- two equal answers have equal values
pub same_value : {A : Type 0} {u v : A} → Path (Out A) (Ok u) (Ok v) → u ≡ v
same_value p = cc

-- no answer is a refusal
pub never_refused : {A : Type 0} {o : Out A} {u : A} {e : Refusal} → o ≡ Ok u → o ≡ Err e → ⊥
never_refused p q = let z : ◌≡◌ {A = ℕ} 0 1 = cc in omega arith

module _ (k : ℕ) (bs : List ℕ) where
  pub several_yes : k ≤ length bs → several k bs ≡ Ok (take k bs, drop k bs)
  unfolding several
  several_yes h = rw (several, le-leb k (length bs) h)

  pub several_no : length bs < k → several k bs ≡ Err refusal.MalformedSheet
  unfolding several
  several_no h = rw (several, lt-leb k (length bs) h)

  pub number_yes : k ≤ length bs → number k bs ≡ Ok (value (take k bs), drop k bs)
  unfolding number
  number_yes h = rw (number, several_yes h)

  pub number_no : length bs < k → number k bs ≡ Err refusal.MalformedSheet
  unfolding number
  number_no h = rw (number, several_no h)

-- ---- an outcome
pub record Got {A : Type 0} (bytes : List ℕ) (from : ℕ) (o : Out (A × List ℕ)) (e : ℕ) : Type 0 where
  pub says : A
  pub is : o ≡ Ok (says, drop e bytes)
  pub low : from ≤ e
  pub high : e ≤ length bytes

module _ {A : Type 0} {bytes : List ℕ} {from : ℕ} where
  pub got : {o : Out (A × List ℕ)} {r : Out ℕ} {e : ℕ} → Reads bytes from r o → r ≡ Ok e → Got bytes from o e
  got {e = e} (to {e = f} {v = v} l h) p =
      let q : f ≡ e = cc in
      record { says = v; is = ap (λ (i : ℕ). Ok (v, drop i bytes)) q; low = omega (arith, l, q); high = omega (arith, h, q) }
  got stop p = let z : ◌≡◌ {A = ℕ} 0 1 = cc in absurd (omega arith)

  pub refused : {o : Out (A × List ℕ)} {r : Out ℕ} {e : Refusal} → Reads bytes from r o → r ≡ Err e → o ≡ Err e
  refused (to l h) p = let z : ◌≡◌ {A = ℕ} 0 1 = cc in absurd (omega arith)
  refused {e = e} (stop {e = f}) p = let q : f ≡ e = cc in ap Err q

  pub reads_to : {o : Out (A × List ℕ)} {e : ℕ} {v : A} → o ≡ Ok (v, drop e bytes) → from ≤ e → e ≤ length bytes → Reads bytes from (Ok e) o
  reads_to {e = e} p l h = subst (Reads bytes from (Ok e)) (sym p) (to l h)

  pub reads_stop : {o : Out (A × List ℕ)} {e : Refusal} → o ≡ Err e → Reads bytes from (Err e) o
  reads_stop {e = e} p = subst (Reads bytes from (Err e)) (sym p) stop
