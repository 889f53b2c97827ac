-- What a call of the C interface answers and leaves, from what the call of that name is defined to answer: a number, which is 0 or that of
-- a refusal, and lent memory.
use Rattle.std.specs.Prelude.{ℕ, List, Ok, Err}
use Rattle.words.specs.Words.{bit}
use Rattle.types.specs.Out.{Out, number, ◌>>=◌}
use Rattle.types.specs.Reply.{Reply, reply}
use Rattle.display.specs.Reply as text
use Rattle.types.specs.declared.Counters.{Counters}
use Rattle.std.specs.declared.cmp.Ordering.{Ordering}
use Rattle.std.specs.declared.cmp.Ordering.TheVariants as ordering
use Rattle.name_lookup.specs.declared.Position.{Position}

-- what stands where a result is lent: a refusal leaves what stood there
abbrev pub or_left : {A : Type 0} → A → Out A → A
or_left old (Ok x) = x
or_left old (Err e) = old

-- the number, and the lent result
pub data Told (A : Type 0) : Type 0 where
  told : ℕ → A → Told A

abbrev pub tell : {A : Type 0} → A → Out A → Told A
tell old o = told (number o) (or_left old o)

-- the same of a call that is lent an arena to change: also the counters, and all lent words and starts
pub data ToldArena (A : Type 0) : Type 0 where
  told_arena : ℕ → A → Counters → List ℕ → List ℕ → ToldArena A

abbrev pub tell_arena : {A : Type 0} → A → Reply A → ToldArena A
tell_arena old (reply o c w s) = told_arena (number o) (or_left old o) c w s

-- the same of `display`, `display_nix` and `write_sheet`, which are lent bytes: also all of them
pub data ToldText : Type 0 where
  told_text : ℕ → ℕ → List ℕ → ToldText

abbrev pub tell_text : ℕ → text.Reply → ToldText
tell_text old (text.reply o b) = told_text (number o) (or_left old o) b

-- the same of `convert_sheet`, which is lent bytes and no other result
abbrev pub tell_converted : text.Reply → Told (List ℕ)
tell_converted (text.reply o b) = told (number o) b

-- an order as a number: that of the header (host/lang_ty.h). A yes or no is 1 or 0, by `bit` of `words`
abbrev pub order_number : Ordering → ℕ
order_number ordering.Less = 0
order_number ordering.Equal = 1
order_number ordering.Greater = 2

-- an answer told in another way
abbrev pub told_as : {A B : Type 0} → (A → B) → Out A → Out B
told_as f o = o >>= λ x. Ok (f x)

-- as a number
abbrev pub as_number : {A : Type 0} → (A → ℕ) → Out A → Out ℕ
as_number f o = told_as f o

-- where a text stands, in the two numbers of the header (host/lang_ty.h): 1 and the number of the name that is the text, or 0 and
-- how many names come before it
pub record FoundPlace : Type 0 where
  pub found : ℕ
  pub place : ℕ

abbrev pub in_numbers : Position → FoundPlace
in_numbers p = record { found = bit p.found; place = p.place }
