-- The bytes of a sheet (01, "A sheet and its line").
use Rattle.std.specs.Prelude.{ℕ, zero, suc, ◌/◌, ◌%◌, List, [], ◌∷◌, ◌++◌, length}
use Rattle.words.specs.declared.Layout.{Layout}
use Rattle.words.specs.declared.Layout.TheVariants as layout
use Rattle.types.specs.Memory.{flat_in, flat}
use Rattle.names.specs.Table.{table}
use Rattle.sheet_reading.specs.Sheet.{Sheet}

-- a number in so many bytes, the most significant first
unfoldable pub number_bytes : ℕ → ℕ → List ℕ
number_bytes zero n = []
number_bytes (suc k) n = number_bytes k (n / 256) ++ (n % 256 ∷ [])

-- words of 32 bits, one after another
unfoldable pub words_bytes : List ℕ → List ℕ
unfolding number_bytes
words_bytes [] = []
words_bytes (w ∷ ws) = number_bytes 4 w ++ words_bytes ws

-- name count, node count and root, 16 bits each
unfoldable pub opening_bytes : ℕ → ℕ → ℕ → List ℕ
unfolding number_bytes
opening_bytes names nodes root = number_bytes 2 names ++ number_bytes 2 nodes ++ number_bytes 2 root

-- then the table, then the words of the nodes, in a layout (02, A2), from node 0 on
unfoldable pub sheet_bytes_in : Layout → Sheet → List ℕ
unfolding opening_bytes table words_bytes flat_in
sheet_bytes_in l sh =
    opening_bytes (length sh.names) (length sh.arena) sh.root ++ table sh.names ++ words_bytes (flat_in l sh.arena)

-- in today's
unfoldable pub sheet_bytes : Sheet → List ℕ
unfolding sheet_bytes_in flat
sheet_bytes = sheet_bytes_in layout.New
