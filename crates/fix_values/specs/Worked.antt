-- Words and the fix that they hold, if they hold one.
use Rattle.std.specs.Prelude.{ℕ, ◌+◌, ◌^◌, true, false, List, [], ◌∷◌, reverse}
use Rattle.std.proofs.Math.Option.{Option, none, some}
use Rattle.words.specs.Words.{head_word, field_word}
use Rattle.fix_values.specs.Values.{Value, value, plain, list, set}
use Rattle.fix_values.specs.Fix.{Fix, fix_of}

-- what the definition gives, and what it should give
pub record Case : Type 0 where
  pub gives : Option Fix
  pub says : Option Fix

-- words under a table of three names, and the fix's values from value 0 on
abbrev holds : List ℕ → List Value → Case
holds ws vs = record { gives = fix_of 3 ws; says = some (reverse vs) }

abbrev broken : List ℕ → Case
broken ws = record { gives = fix_of 3 ws; says = none }

-- the head of a value of this kind
abbrev head : ℕ → ℕ → ℕ
head k n = head_word k false false n

-- a field of this name, with the value 0
abbrev at_0 : ℕ → ℕ
at_0 n = field_word false n 0

abbrev pub worked : List Case
worked =
    -- one value; a list with an earlier one twice; a set, and a value that nothing leads to
    holds (head 0 0 ∷ []) (value (plain 0) [] ∷ [])
    ∷ holds (head 2 0 ∷ head 6 2 ∷ 0 ∷ 0 ∷ []) (value (plain 2) [] ∷ value list (0 ∷ 0 ∷ []) ∷ [])
    ∷ holds (head 2 0 ∷ head 5 0 ∷ head 7 2 ∷ at_0 0 ∷ at_0 2 ∷ [])
    (value (plain 2) [] ∷ value (plain 5) [] ∷ value (set (0 ∷ 2 ∷ [])) (0 ∷ 0 ∷ []) ∷ [])
    -- no words; kind 8; a zero bit set; a null with a count
    ∷ broken []
    ∷ broken (head 8 0 ∷ [])
    ∷ broken ((head 0 0 + 2 ^ 16) ∷ [])
    ∷ broken (head 0 1 ∷ 0 ∷ [])
    -- a list cut short; a child that isn't earlier; a child word with a zero bit set
    ∷ broken (head 2 0 ∷ head 6 2 ∷ 0 ∷ [])
    ∷ broken (head 6 1 ∷ 0 ∷ [])
    ∷ broken (head 2 0 ∷ head 6 1 ∷ (2 ^ 12) ∷ [])
    -- an optional field; a zero bit set; a name that the table lacks; a name twice
    ∷ broken (head 2 0 ∷ head 7 1 ∷ field_word true 0 0 ∷ [])
    ∷ broken (head 2 0 ∷ head 7 1 ∷ (at_0 0 + 2 ^ 12) ∷ [])
    ∷ broken (head 2 0 ∷ head 7 1 ∷ at_0 3 ∷ [])
    ∷ broken (head 2 0 ∷ head 7 2 ∷ at_0 1 ∷ at_0 1 ∷ [])
    ∷ []
