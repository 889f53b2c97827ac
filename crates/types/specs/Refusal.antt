-- The number of each refusal (01, "Who can cause which number").
use Rattle.std.specs.Prelude.{ℕ}
use Rattle.types.specs.declared.refusal.Refusal.{Refusal}
use Rattle.types.specs.declared.refusal.Refusal.TheVariants as refusal

abbrev pub number_of : Refusal → ℕ
number_of refusal.BadTable = 1
number_of refusal.UnsoundArena = 2
number_of refusal.MalformedNode = 3
number_of refusal.OutOfRange = 4
number_of refusal.UnorderedFields = 5
number_of refusal.NoSuchRoot = 6
number_of refusal.NoRoom = 7
number_of refusal.TooManyMembers = 8
number_of refusal.TextTooLong = 9
number_of refusal.MalformedSheet = 10
number_of refusal.OldSheetRefused = 11
number_of refusal.NameAbsent = 12
number_of refusal.MalformedFix = 13
number_of refusal.HasVariable = 14
