-- What a call may answer.
use Rattle.std.specs.Prelude.{ℕ, Result, Ok, Err, Some, None}
use Rattle.std.specs.Prelude as std
use Rattle.std.proofs.Math.Option.{Option, none, some}
use Rattle.types.specs.declared.refusal.Refusal.{Refusal}
use Rattle.types.specs.Refusal.{number_of}

-- a value, or a refusal (01, "Who can cause which number")
abbrev pub Out : Type 0 → Type 0
Out A = Result A Refusal

-- what a function of the code found
abbrev pub option_of : {A : Type 0} → std.Option A → Option A
option_of None = none
option_of (Some a) = some a

-- what must be there before a call goes on: without it the call is refused
unfoldable pub required : {A B : Type 0} → Refusal → Option A → (A → Out B) → Out B
required e none f = Err e
required e (some a) f = f a

-- the number of a refusal, and 0 for a value
abbrev pub number : {A : Type 0} → Out A → ℕ
number (Ok a) = 0
number (Err e) = number_of e

-- an answer without its value: whether a call is refused, and why
abbrev pub checked : {A : Type 0} → Out A → Out (Unit {0})
checked (Ok a) = Ok tt
checked (Err e) = Err e

-- the next step of a call, unless it is refused
infixl 20 ◌>>=◌
unfoldable pub ◌>>=◌ : {A B : Type 0} → Out A → (A → Out B) → Out B
Ok a >>= f = f a
Err e >>= f = Err e
