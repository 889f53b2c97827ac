-- A refusal that goes up under another type, and a check that isn't refused.
use Prim.Native.Nat.{◌≤◌}
use native.Mathlib.Omega.{arith}
use mathlib.Core.Path.{◌≡◌, refl, sym, ap, ◌∙◌}
use Rattle.std.specs.Prelude.{true, false, Result, Ok, Err, is_ok, is_err, IsErrAnd}
use Rattle.types.specs.declared.refusal.Refusal.{Refusal}
use Rattle.types.specs.declared.refusal.Refusal.TheVariants as refusal
use Rattle.types.specs.Refusal.{number_of}
use Rattle.types.specs.Out.{Out, checked}
use Rattle.types.proofs.Tests.{true_false}

-- what a `?` answers is the refusal that it was given
pub passed : {A E : Type 0} (r : Result A E) (e : E) → IsErrAnd r (λ d. d ≡ e) → r ≡ Err e
passed (Ok x) e h = absurd h
passed (Err d) e h = ap (λ e. Err e) h

-- a check that isn't refused, told by its tests
pub is_ok_unit : {E : Type 0} (r : Result (Unit {0}) E) → is_ok r ≡ true → r ≡ Ok tt
is_ok_unit (Ok tt) e = refl
is_ok_unit (Err d) e = absurd (true_false (sym e))

pub no_err_unit : {E : Type 0} (r : Result (Unit {0}) E) → is_err r ≡ false → r ≡ Ok tt
no_err_unit (Ok tt) e = refl
no_err_unit (Err d) e = absurd (true_false e)

-- a refusal that goes up is what the call is to answer
pub passed_on : {A E : Type 0} {r x : Result A E} {e : E} → IsErrAnd r (λ d. d ≡ e) → Err e ≡ x → r ≡ x
passed_on {r = r} {e = e} h p = passed r e h ∙ p

-- two answers of two parts are equal in both
pub ok_pair : {A B E : Type 0} {a c : A} {b d : B} → ◌≡◌ {A = Result (A × B) E} (Ok (a, b)) (Ok (c, d)) → (a ≡ c) × (b ≡ d)
ok_pair {A} {B} {a = a} {c = c} {b = b} {d = d} e = let q : ◌≡◌ {A = A × B} (a, b) (c, d) = cc in (ap (λ v. v.0) q, ap (λ v. v.1) q)

-- a refusal, told of the answer without its value
pub checked_err : {A : Type 0} (o : Out A) {e : Refusal} → Err e ≡ checked o → o ≡ Err e
checked_err (Ok x) q = absurd (true_false (ap is_err q))
checked_err {A} (Err d) {e} q = let k : d ≡ e = cc in ap {B = Out A} Err k

-- the number of a refusal is small
pub number_few : (e : Refusal) → number_of e ≤ 14
number_few refusal.BadTable = omega arith
number_few refusal.UnsoundArena = omega arith
number_few refusal.MalformedNode = omega arith
number_few refusal.OutOfRange = omega arith
number_few refusal.UnorderedFields = omega arith
number_few refusal.NoSuchRoot = omega arith
number_few refusal.NoRoom = omega arith
number_few refusal.TooManyMembers = omega arith
number_few refusal.TextTooLong = omega arith
number_few refusal.MalformedSheet = omega arith
number_few refusal.OldSheetRefused = omega arith
number_few refusal.NameAbsent = omega arith
number_few refusal.MalformedFix = omega arith
number_few refusal.HasVariable = omega arith
