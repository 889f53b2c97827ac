-- What the calls on a name table answer.
use Rattle.std.specs.Prelude.{ℕ, ◌+◌, true, false, List, [], length, get_or, take, ltb, Ok, Err}
use Rattle.types.specs.declared.refusal.Refusal.TheVariants as refusal
use Rattle.types.specs.Out.{Out, required}
use Rattle.names.specs.Table.{Name, table, names_of}
use Rattle.names.specs.declared.Stretch.{Stretch}

-- how many names the table has; 1 where it breaks a rule (01, "Who can cause which number")
unfoldable pub table_reply : List ℕ → Out ℕ
unfolding required names_of
table_reply t = required refusal.BadTable (names_of t) (λ (ns : List Name). Ok (length ns))

-- the stretch of name k in a table of these names (01, "Words of the arena"): it starts behind the names before it and its own length byte
unfoldable pub stretch : List Name → ℕ → Stretch
unfolding table
stretch ns k = record { start = length (table (take k ns)) + 1; length = length (get_or ns k []) }

-- the stretch of the name with this number; 1 where the table breaks a rule, 4 where it has no such name (01, "Who can cause which number")
unfoldable pub name_reply : List ℕ → ℕ → Out Stretch
unfolding required names_of stretch
name_reply t k = required refusal.BadTable (names_of t) (λ (ns : List Name). elim (ltb k (length ns)) [ false ↦ Err refusal.OutOfRange | true ↦ Ok (stretch ns k) ])
