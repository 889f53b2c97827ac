-- Small types and their texts: those that 01 has with a star, one for each rule of printing, and two that the two spellings tell apart.
use Rattle.std.specs.Prelude.{ℕ, ◌-◌, true, false, List, [], ◌∷◌, ◌++◌, length}
use Prim.Native.String.{String}
use Rattle.types.specs.Bytes.{bytes}
use Rattle.primitive.specs.Primitive.{null, number}
use Rattle.types.specs.Node.{positive, negative, field, primitive, list, lambda, attrset, named, members, bound, var, neg, form, node}
use Rattle.types.specs.Arena.{Arena}
use Rattle.names.specs.Table.{Name}
use Rattle.spelling.specs.declared.Spelling.TheVariants as spelling
use Rattle.text_writing.specs.Text.{type_text}

-- what the definition gives, and what it should give
pub record Case : Type 0 where
  pub gives : List ℕ
  pub says : List ℕ

-- the names of the cases
abbrev names : List Name
names = bytes "p" ∷ bytes "q" ∷ []

-- the variables a, b and c are the nodes 0, 1 and 2
abbrev letters : Arena
letters = node (var 2) [] ∷ node (var 1) [] ∷ node (var 0) [] ∷ []

-- the newest node of an arena is printed so
abbrev prints : Arena → String → Case
prints a t = record { gives = type_text spelling.Bare names a (length a - 1); says = bytes t }

-- names that the manual writes in quotes, and one that it doesn't; bare they stand in this order
abbrev quotable : List Name
quotable = bytes "$${" ∷ bytes "or" ∷ bytes "or1" ∷ bytes "roll angle" ∷ []

-- the newest node of an arena is printed so, with these names as the table or as the manual has them
abbrev prints_both : Arena → String → String → List Case
prints_both a t u =
    record { gives = type_text spelling.Bare quotable a (length a - 1); says = bytes t }
    ∷ record { gives = type_text spelling.Nix quotable a (length a - 1); says = bytes u }
    ∷ []

-- (02, A1): fields in the order of their bare names, and a named type
abbrev spelled_both : List Case
spelled_both =
    prints_both
    (node (form (attrset (field false 0 ∷ field true 1 ∷ field false 2 ∷ field false 3 ∷ []) false false)) (0 ∷ 1 ∷ 2 ∷ 0 ∷ []) ∷ letters)
    "{ $${: a, or?: b, or1: c, roll angle: a }"
    "{ \"$\\${\": a, \"or\"?: b, or1: c, \"roll angle\": a }"
    ++ prints_both (node (form list) (3 ∷ []) ∷ node (form (named 3)) (0 ∷ []) ∷ letters) "[roll angle]" "[\"roll angle\"]"

abbrev pub worked : List Case
worked =
    -- (01, "Worked types")
    prints (node (form (attrset [] false false)) [] ∷ []) "{  }"
    ∷ prints (node (form (attrset [] false true)) [] ∷ []) "{ ... }"
    ∷ prints (node (var 25) [] ∷ []) "z"
    ∷ prints (node (var 26) [] ∷ []) "a1"
    ∷ prints (node (var 4294967295) [] ∷ []) "?"
    -- nodes without children
    ∷ prints (node (bound positive) [] ∷ []) "never"
    ∷ prints (node (bound negative) [] ∷ []) "any"
    ∷ prints (node (form (primitive null)) [] ∷ []) "null"
    ∷ prints (node (form (primitive number)) [] ∷ []) "number"
    -- a list; a named type, whose child isn't printed
    ∷ prints (node (form list) (0 ∷ []) ∷ letters) "[a]"
    ∷ prints (node (form (named 1)) (0 ∷ []) ∷ letters) "q"
    -- lambdas
    ∷ prints (node (form lambda) (3 ∷ 2 ∷ []) ∷ node (form lambda) (0 ∷ 1 ∷ []) ∷ letters) "(a -> b) -> c"
    ∷ prints (node (form lambda) (0 ∷ 3 ∷ []) ∷ node (form lambda) (1 ∷ 2 ∷ []) ∷ letters) "a -> b -> c"
    ∷ prints (node (form lambda) (3 ∷ 2 ∷ []) ∷ node (members positive) (0 ∷ 1 ∷ []) ∷ letters) "(a | b) -> c"
    ∷ prints (node (form lambda) (3 ∷ 2 ∷ []) ∷ node (members negative) (0 ∷ 1 ∷ []) ∷ letters) "(a & b) -> c"
    -- unions and intersections
    ∷ prints (node (members positive) (0 ∷ []) ∷ letters) "a"
    ∷ prints (node (members positive) (3 ∷ 2 ∷ []) ∷ node (form lambda) (0 ∷ 1 ∷ []) ∷ letters) "(a -> b) | c"
    ∷ prints (node (members positive) (2 ∷ 3 ∷ []) ∷ node (members negative) (0 ∷ 1 ∷ []) ∷ letters) "c | a & b"
    ∷ prints (node (members positive) (3 ∷ 2 ∷ []) ∷ node (members positive) (0 ∷ 1 ∷ []) ∷ letters) "a | b | c"
    ∷ prints (node (members negative) (2 ∷ 3 ∷ []) ∷ node (members positive) (0 ∷ 1 ∷ []) ∷ letters) "c & (a | b)"
    ∷ prints (node (members negative) (3 ∷ 2 ∷ []) ∷ node (form lambda) (0 ∷ 1 ∷ []) ∷ letters) "(a -> b) & c"
    -- `Neg`
    ∷ prints (node neg (0 ∷ []) ∷ letters) "~a"
    ∷ prints (node neg (3 ∷ []) ∷ node (members positive) (0 ∷ 1 ∷ []) ∷ letters) "~(a | b)"
    ∷ prints (node neg (3 ∷ []) ∷ node neg (0 ∷ []) ∷ letters) "~~a"
    -- sets
    ∷ prints (node (form (attrset (field false 0 ∷ []) false false)) (3 ∷ []) ∷ node (form lambda) (0 ∷ 1 ∷ []) ∷ letters) "{ p: a -> b }"
    ∷ prints (node (form (attrset [] true false)) (0 ∷ []) ∷ letters) "{ _: a }"
    ∷ prints (node (form (attrset (field false 0 ∷ field true 1 ∷ []) true true)) (0 ∷ 1 ∷ 2 ∷ []) ∷ letters) "{ p: a, q?: b, _: c, ... }"
    ∷ spelled_both
