-- Texts sought in small tables, and where each stands.
use Rattle.std.specs.Prelude.{ℕ, Bool, true, false, List, [], ◌∷◌, map, Ok, Err}
use Prim.Native.String.{String}
use Rattle.types.specs.declared.refusal.Refusal.TheVariants as refusal
use Rattle.types.specs.Out.{Out}
use Rattle.types.specs.Bytes.{bytes}
use Rattle.names.specs.Table.{table}
use Rattle.name_lookup.specs.Lookup.{find_reply}
use Rattle.name_lookup.specs.declared.Position.{Position}

-- what the definition gives, and what it should give
pub record Case : Type 0 where
  pub gives : Out Position
  pub says : Out Position

-- the names of a table, and the bytes of a text; whether one is found, and its place
abbrev sought : List String → List ℕ → Bool → ℕ → Case
sought ns x f k = record { gives = find_reply (table (map bytes ns)) x; says = Ok (record { found = f; place = k }) }

-- three names of which each begins with the one before
abbrev angle : String → Bool → ℕ → Case
angle x = sought ("rol" ∷ "roll" ∷ "roll angle" ∷ []) (bytes x)

abbrev pub worked : List Case
worked =
    sought [] [] false 0
    ∷ sought [] (bytes "roll") false 0
    -- the first, the middle and the last name
    ∷ angle "rol" true 0
    ∷ angle "roll" true 1
    ∷ angle "roll angle" true 2
    -- before all, between, behind all; a text with which a name begins, and one that begins with a name, is no name
    ∷ angle "" false 0
    ∷ angle "pitch" false 0
    ∷ angle "ro" false 0
    ∷ angle "roll " false 2
    ∷ angle "roll angles" false 3
    ∷ angle "yaw" false 3
    -- texts that can be no name
    ∷ sought ("a" ∷ "b" ∷ []) (97 ∷ 0 ∷ []) false 1
    ∷ sought ("a" ∷ "b" ∷ []) (200 ∷ []) false 2
    -- the longer of two names comes first, since length bytes aren't compared
    ∷ sought ("aa" ∷ "b" ∷ []) (bytes "aa") true 0
    ∷ sought ("aa" ∷ "b" ∷ []) (bytes "b") true 1
    -- a table whose names don't rise
    ∷ record { gives = find_reply (1 ∷ 98 ∷ 1 ∷ 97 ∷ []) (bytes "a"); says = Err refusal.BadTable }
    ∷ []
