-- 0 means success and a refusal has a number from 1 to 10, or 11 from `convert_sheet` alone, or 12 from `import_from_arena` alone, or 13 or
-- 14 from `fits` alone, so that a host can rely on what it is told.
use Rattle.std.specs.Prelude.{ℕ, ◌<◌, ◌≤◌, ◌≡◌, Ok, Err}
use Rattle.types.specs.declared.refusal.Refusal.{Refusal}
use Rattle.types.specs.declared.refusal.Refusal.TheVariants.{OldSheetRefused, NameAbsent, MalformedFix, HasVariable}
use Rattle.types.specs.Refusal.{number_of}
use Rattle.types.specs.Out.{Out}
use Rattle.types.specs.Reply.{Reply, reply}
use Rattle.display.specs.Reply.{Reply as DisplayReply, reply as display-told}

-- an answer of which the number is 0 exactly if it is a value: a refusal has one from 1 to 10
pub data Numbered {A : Type 0} : Out A → Type 0 where
  value : (x : A) → Numbered (Ok x)
  refusal : {e : Refusal} → 0 < number_of e → number_of e ≤ 10 → Numbered (Err e)

-- an answer of `convert_sheet`: a value, or refused by 11
pub data Converted {A : Type 0} : Out A → Type 0 where
  done : (x : A) → Converted (Ok x)
  eleven : Converted (Err OldSheetRefused)

-- an answer of `import_from_arena`: as those of other calls, or refused by 12
pub data Imported {A : Type 0} : Out A → Type 0 where
  numbered : {o : Out A} → Numbered o → Imported o
  twelve : Imported (Err NameAbsent)

-- an answer of `fits`: as those of other calls, or refused by 13 or 14
pub data Fitted {A : Type 0} : Out A → Type 0 where
  numbered : {o : Out A} → Numbered o → Fitted o
  thirteen : Fitted (Err MalformedFix)
  fourteen : Fitted (Err HasVariable)

-- a host that is told the number r, with x where the result is lent, knows of the answer o that it was told: r is 0 exactly if o is a
-- value, and then x is that value; and r is at most this number
pub record ZeroIsValue {A : Type 0} (highest r : ℕ) (x : A) (o : Out A) : Type 0 where
  pub zero : r ≡ 0 → o ≡ Ok x
  pub value : (y : A) → o ≡ Ok y → r ≡ 0
  pub most : r ≤ highest

-- the answer in a reply
abbrev pub answer_of : {A : Type 0} → Reply A → Out A
answer_of (reply o c w s) = o

abbrev pub length_of : DisplayReply → Out ℕ
length_of (display-told o b) = o
