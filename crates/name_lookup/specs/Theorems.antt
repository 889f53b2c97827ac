-- What is shown of these definitions beyond the contracts.
use Rattle.std.specs.Prelude.{ℕ, ◌/◌, ◌<◌, ◌≤◌, ◌≡◌, true, false, List, [], ◌∷◌, ◌++◌, map, length, get_or, take, drop, Ok}
use Rattle.std.proofs.Math.Option.{some}
use Rattle.std.specs.declared.cmp.Ordering.TheVariants.{Less, Greater}
use Rattle.names.specs.Table.{Name, name_order, names_of, rising}
use Rattle.name_lookup.specs.Lookup.{find_reply}
use Rattle.name_lookup.specs.Turns.{halvings}
use Rattle.name_lookup.specs.Worked.{Case, worked}

-- the table has a name with this number, and it is the text
pub record IsName (ns : List Name) (x : Name) (k : ℕ) : Type 0 where
  pub there : k < length ns
  pub text : get_or ns k [] ≡ x

-- this many names come before the text, and all others after it
pub record Between (ns : List Name) (x : Name) (k : ℕ) : Type 0 where
  pub most : k ≤ length ns
  pub before : (j : ℕ) → j < k → name_order (get_or ns j []) x ≡ Less
  pub after : (j : ℕ) → k ≤ j → j < length ns → name_order (get_or ns j []) x ≡ Greater

-- the answer of a search for this text in a table of these names: it is found with number k exactly where name k is the text, and told to
-- be absent with k names before it exactly where it stands between these and the others
pub record Answers (t : List ℕ) (ns : List Name) (x : Name) : Type 0 where
  pub finds : (k : ℕ) → IsName ns x k → find_reply t x ≡ Ok (record { found = true; place = k })
  pub found : (k : ℕ) → find_reply t x ≡ Ok (record { found = true; place = k }) → IsName ns x k
  pub misses : (k : ℕ) → Between ns x k → find_reply t x ≡ Ok (record { found = false; place = k })
  pub missed : (k : ℕ) → find_reply t x ≡ Ok (record { found = false; place = k }) → Between ns x k

-- so of every table and every text (02, A3)
abbrev pub FindsExactly : Type 0
FindsExactly = (t : List ℕ) (ns : List Name) → names_of t ≡ some ns → (x : Name) → Answers t ns x

-- where the text is absent, the names still rise with it put there, so that a host knows where it would go
abbrev pub PutRises : Type 0
PutRises =
    (t : List ℕ) (ns : List Name) → names_of t ≡ some ns → (x : Name) (k : ℕ) → Between ns x k
    → rising (take k ns ++ x ∷ drop k ns) ≡ true

-- the measure of a search is at most 13, and of what is left after a turn, at most half of the names, it is less: so at most thirteen of
-- 4,096 names are compared (issue 21)
pub record ThirteenTurns : Type 0 where
  pub most : (n : ℕ) → halvings 13 n ≤ 13
  pub less : (m n : ℕ) → 0 < n → n ≤ 4096 → m ≤ n / 2 → halvings 13 m < halvings 13 n

-- the worked texts stand as they should
abbrev pub WorkedSo : Type 0
WorkedSo = map (λ (c : Case). c.gives) worked ≡ map (λ (c : Case). c.says) worked
