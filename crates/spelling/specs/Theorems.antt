-- What is shown of these definitions beyond the contracts.
use Rattle.std.specs.Prelude.{ℕ, ◌+◌, ◌*◌, ◌≤◌, ◌≡◌, true, false, List, [], ◌++◌, length}
use Rattle.std.proofs.Math.Option.{some}
use Rattle.names.specs.Table.{Name}
use Rattle.spelling.specs.Spelling.{plain, nix_name, spelled}
use Rattle.spelling.specs.Reading.{read_name, goes_on}
use Rattle.spelling.specs.declared.Spelling.TheVariants as spelling

-- what is printed as the manual writes it reads back (02, A1: it is pasted into Nix); of any bytes, so of every name of a table
pub record ReadsBack : Type 0 where
  -- the name, all of it, and nothing more
  pub whole : (n : Name) → read_name (nix_name n) ≡ some (record { name = n; rest = [] })
  -- the same before other bytes, with which no identifier goes on
  pub in_front : (n : Name) (r : List ℕ) → goes_on r ≡ false → read_name (nix_name n ++ r) ≡ some (record { name = n; rest = r })
  -- two names with one spelling are one name
  pub one_name : (m n : Name) → nix_name m ≡ nix_name n → m ≡ n

-- a plain name is printed alike either way
abbrev pub PlainAlike : Type 0
PlainAlike = (n : Name) → plain n ≡ true → spelled spelling.Nix n ≡ spelled spelling.Bare n

-- a name takes at most twice its bytes and the quotes, so 130 where it has 64
abbrev pub SpelledLength : Type 0
SpelledLength = (n : Name) → length (nix_name n) ≤ 2 * length n + 2
