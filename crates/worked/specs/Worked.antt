-- The worked types of document 01 that are to be proved (those with a star), words for each of its sentences on a node, and names with
-- their spellings (02, A1).
use Rattle.std.specs.Prelude.{ℕ, Bool, true, false, List, [], ◌∷◌, replicate, Ok}
use Prim.Native.String.{String}
use Rattle.std.proofs.Math.Option.{Option, none, some}
use Rattle.words.specs.Words.{bit}
use Rattle.types.specs.Bytes.{bytes}
use Rattle.types.specs.Out.{Out, number}
use Rattle.types.specs.Tyvar.{tyvar_name}
use Rattle.types.specs.Node.{positive, field, primitive, lambda, attrset, members, var, form, Node, node, decode}
use Rattle.types.specs.Fault.{fault}
use Rattle.types.specs.Arena.{Arena, sound}
use Rattle.types.specs.Memory.{arena_of}
use Rattle.names.specs.Table.{Name}
use Rattle.spelling.specs.Reading.{Read}
use Rattle.questions.specs.Lambdas.{has_shared_tyvar_across_lambda_params}
use Rattle.simplification.specs.Worked as simplify
use Rattle.display.specs.Worked as display
use Rattle.set_op_lists.specs.SetOps.{normalize_set_ops}

-- what the definitions give, and what 01 says
pub record Case : Type 0 where
  pub gives : List ℕ
  pub says : List ℕ

-- a variable is printed so
abbrev prints : ℕ → String → Case
prints v t = record { gives = tyvar_name v; says = bytes t }

-- (01, "Worked types")
abbrev pub worked : List Case
worked = prints 25 "z" ∷ prints 26 "a1" ∷ prints 4294967294 "u165191049" ∷ prints 4294967295 "?" ∷ []

-- words that are to be a node after three others, under a table of two names; `decode` and the sentences agree on the number, 0 for none
abbrev judges : List ℕ → ℕ → Case
judges ws n = record { gives = number (decode 2 3 ws) ∷ number (fault 2 3 ws) ∷ []; says = n ∷ n ∷ [] }

-- what 01 says of a node's words ("Words of the arena"; a field word: 02, A2), a sentence at a time
abbrev pub judged : List Case
judged =
    -- every kind once, with flags and fields at their limits
    judges (0x00000000 ∷ []) 0
    ∷ judges (0x10000000 ∷ []) 0
    ∷ judges (0x20000001 ∷ 7 ∷ []) 0
    ∷ judges (0x30000001 ∷ 0xffffffff ∷ []) 0
    ∷ judges (0x40000001 ∷ 2 ∷ []) 0
    ∷ judges (0x50000002 ∷ 0 ∷ 1 ∷ []) 0
    ∷ judges (0x60000000 ∷ []) 0
    ∷ judges (0x6c000003 ∷ 0x80000000 ∷ 0x00008002 ∷ 1 ∷ []) 0
    ∷ judges (0x70000040 ∷ replicate 64 0) 0
    ∷ judges (0x80000002 ∷ 1 ∷ 1 ∷ []) 0
    ∷ judges (0x90000001 ∷ 0x00008002 ∷ []) 0
    ∷ judges (0xa0000001 ∷ 0 ∷ []) 0
    -- an empty node; a kind above 10
    ∷ judges [] 3
    ∷ judges (0xb0000000 ∷ []) 3
    -- a count that doesn't fit the kind, or the words that follow
    ∷ judges (0x00000001 ∷ 0 ∷ []) 3
    ∷ judges (0x20000000 ∷ []) 3
    ∷ judges (0x50000001 ∷ 0 ∷ []) 3
    ∷ judges (0x64000000 ∷ []) 3
    ∷ judges (0x70000000 ∷ []) 3
    ∷ judges (0x70000041 ∷ replicate 65 0) 3
    ∷ judges (0x64000042 ∷ replicate 66 0) 3
    ∷ judges (0x40000001 ∷ []) 3
    ∷ judges (0x40000001 ∷ 0 ∷ 0 ∷ []) 3
    -- a code above 7; open or dynamic outside a set; `Named` with optional 1
    ∷ judges (0x20000001 ∷ 8 ∷ []) 3
    ∷ judges (0x48000001 ∷ 0 ∷ []) 3
    ∷ judges (0x44000001 ∷ 0 ∷ []) 3
    ∷ judges (0x90000001 ∷ 0x80000000 ∷ []) 3
    -- a zero field that isn't zero: of a head, a child word, a field word, a set's last word
    ∷ judges (0x40010001 ∷ 0 ∷ []) 3
    ∷ judges (0x40000001 ∷ 0x1000 ∷ []) 3
    ∷ judges (0x60000001 ∷ 0x1000 ∷ []) 3
    ∷ judges (0x60000001 ∷ 0x2000 ∷ []) 3
    ∷ judges (0x60000001 ∷ 0x4000 ∷ []) 3
    ∷ judges (0x64000001 ∷ 0x00008000 ∷ []) 3
    -- a child not below the count; a name not in the table
    ∷ judges (0x40000001 ∷ 3 ∷ []) 4
    ∷ judges (0x60000001 ∷ 0x00000003 ∷ []) 4
    ∷ judges (0x60000001 ∷ 0x00010000 ∷ []) 4
    ∷ judges (0x90000001 ∷ 0x00010000 ∷ []) 4
    ∷ judges (0x60000001 ∷ 0x7fff8000 ∷ []) 4
    -- names that don't rise
    ∷ judges (0x60000002 ∷ 0x00008000 ∷ 0x00000000 ∷ []) 5
    ∷ judges (0x60000002 ∷ 0x00000000 ∷ 0x80000000 ∷ []) 5
    -- any 3 before any 4, and that before 5
    ∷ judges (0x70000002 ∷ 3 ∷ 0x1000 ∷ []) 3
    ∷ judges (0x60000002 ∷ 0x00008000 ∷ 0x00000003 ∷ []) 4
    ∷ []

-- the arena of 01's sheet: a, int, and their union
abbrev pub sheet : Arena
sheet = node (members positive) (0 ∷ 1 ∷ []) ∷ node (form (primitive 2)) [] ∷ node (var 0) [] ∷ []

-- what eight lent words, four lent starts and counters hold, where these are the words of node 1
abbrev pub held : ℕ → ℕ → Option Arena
held h v = arena_of 0 (0x30000001 ∷ 0 ∷ h ∷ v ∷ 0x70000002 ∷ 0 ∷ 1 ∷ 0 ∷ []) (0 ∷ 2 ∷ 4 ∷ 0 ∷ []) (record { nodes = 3; words = 7 })

-- the closed set whose fields are the names 0 and 1 of a table of two, p and q, with these children
abbrev pair : ℕ → ℕ → Node
pair p q = node (form (attrset (field false 0 ∷ field false 1 ∷ []) false false)) (p ∷ q ∷ [])

-- F[a, int] and F[a, bool] as nodes 3 and 4, after a, int and bool
abbrev lambdas : Arena
lambdas =
    node (form lambda) (0 ∷ 2 ∷ []) ∷ node (form lambda) (0 ∷ 1 ∷ []) ∷ node (form (primitive 1)) [] ∷ node (form (primitive 2)) []
    ∷ node (var 0) [] ∷ []

-- an arena is sound, and two lambdas in the type of its root take the same variable, or not
abbrev shares : Arena → ℕ → Bool → Case
shares a root b = record { gives = bit (sound 2 a) ∷ bit (has_shared_tyvar_across_lambda_params a root) ∷ []; says = 1 ∷ bit b ∷ [] }

-- both fields the one lambda, and a lambda each (01, "Worked types")
abbrev pub shared : List Case
shared = shares (pair 3 3 ∷ lambdas) 5 false ∷ shares (pair 3 4 ∷ lambdas) 5 true ∷ []

-- what `simplify` makes of 01's types, both ladders among them: the root's node and the passes made. The cases stand with its definitions,
-- whose must-fail edits need them
abbrev pub simplified : List simplify.Case
simplified = simplify.worked

-- what `normalize_set_ops` gives, with all memory lent, and what it should give: the root's number, and the arena after
pub record Normalized : Type 0 where
  pub gives : Out (ℕ × Arena)
  pub says : Out (ℕ × Arena)

-- U[int, null, U[null, bool]] as node 4, after int, null, bool and U[null, bool]
abbrev nested : Arena
nested =
    node (members positive) (0 ∷ 1 ∷ 3 ∷ []) ∷ node (members positive) (1 ∷ 2 ∷ []) ∷ node (form (primitive 1)) []
    ∷ node (form (primitive 0)) [] ∷ node (form (primitive 2)) [] ∷ []

-- it becomes the union of null, bool and int, in this order, which is added as node 5 (01, "Worked types")
abbrev pub normalized : List Normalized
normalized = record { gives = normalize_set_ops 16384 4096 4 nested; says = Ok (5, node (members positive) (1 ∷ 2 ∷ 0 ∷ []) ∷ nested) } ∷ []

-- the empty sets among the types that are printed, and one for each rule of printing
abbrev pub printed : List display.Case
printed = display.worked

-- a name, and how the manual writes it
pub record Spelled : Type 0 where
  pub name : Name
  pub says : List ℕ

abbrev spells : String → String → Spelled
spells n t = record { name = bytes n; says = bytes t }

-- (02, A1)
abbrev pub spellings : List Spelled
spellings =
    -- identifiers
    spells "rec1" "rec1"
    ∷ spells "_" "_"
    ∷ spells "a'b-c" "a'b-c"
    -- the reserved words
    ∷ spells "or" "\"or\""
    ∷ spells "assert" "\"assert\""
    ∷ spells "else" "\"else\""
    ∷ spells "if" "\"if\""
    ∷ spells "in" "\"in\""
    ∷ spells "inherit" "\"inherit\""
    ∷ spells "let" "\"let\""
    ∷ spells "rec" "\"rec\""
    ∷ spells "then" "\"then\""
    ∷ spells "with" "\"with\""
    -- no identifiers
    ∷ spells "roll angle" "\"roll angle\""
    ∷ spells "9a" "\"9a\""
    ∷ spells "-a" "\"-a\""
    -- with a backslash in quotes, or with a `$` that has none
    ∷ spells "say \"hi\"" "\"say \\\"hi\\\"\""
    ∷ spells "a\\b" "\"a\\\\b\""
    ∷ spells "${x}" "\"\\${x}\""
    ∷ spells "$x" "\"$x\""
    ∷ spells "$${" "\"$\\${\""
    ∷ spells "\\${" "\"\\\\\\${\""
    ∷ []

-- a text, and the name that the manual reads at its front
pub record Reads : Type 0 where
  pub text : List ℕ
  pub says : Option Read

abbrev reads : String → String → String → Reads
reads t n r = record { text = bytes t; says = some (record { name = bytes n; rest = bytes r }) }

abbrev reads_none : String → Reads
reads_none t = record { text = bytes t; says = none }

-- texts that aren't the spelling of a name alone, by the manual's identifiers and strings
abbrev pub readings : List Reads
readings =
    -- a name ends where it can't go on, a string at its quote
    reads "roll?: float" "roll" "?: float"
    ∷ reads "\"or\": int" "or" ": int"
    -- control characters; a backslash that wasn't needed; two dollars
    ∷ reads "\"\\n\\r\\t\"" "\n\r\t" ""
    ∷ reads "\"\\a\\$\"" "a$" ""
    ∷ reads "\"$${\"" "$${" ""
    -- a reserved word; no identifier; an interpolation; a string without end, and one whose quote has a backslash
    ∷ reads_none "or"
    ∷ reads_none "9a"
    ∷ reads_none "\"${x}\""
    ∷ reads_none "\"$$${x}\""
    ∷ reads_none "\"a"
    ∷ reads_none "\"a\\\""
    ∷ []
