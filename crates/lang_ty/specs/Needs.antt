-- Whether `normalize_replacing_unknown` has something to do (the Rust's `needs_var_normalization`).
use Rattle.std.specs.Prelude.{ℕ, Bool, true, false, ◌||◌, List, [], ◌∷◌}
use Rattle.types.specs.Arena.{Arena, at}
use Rattle.node_reading.specs.Nodes.{is_var}
use Rattle.free_vars.specs.FreeVars.{free_type_vars}

-- is something listed?
abbrev pub some_listed : List ℕ → Bool
some_listed [] = false
some_listed (v ∷ vs) = true

-- the root is a variable, or `free_type_vars` lists one
unfoldable pub needs_var_normalization : Arena → ℕ → Bool
unfolding at free_type_vars
needs_var_normalization a root = is_var (at a root) || some_listed (free_type_vars a root)
