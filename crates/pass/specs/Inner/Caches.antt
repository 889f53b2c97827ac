-- The two caches of a pass (01, "Forms of the Rust that can't be kept"): one entry for each node and each removal setting.
use Rattle.std.specs.Prelude.{ℕ, suc, ◌<◌, ◌≡◌, Bool, true, false, List, length, get_or, Ok}
use Rattle.types.specs.Arena.{Arena}
use Rattle.simplification.specs.Pass.{apply}
use Rattle.rebuilding.specs.Inner.Children.{setting}

-- the cache of a setting, of two
abbrev pub entries : Bool → List ℕ → List ℕ → List ℕ
entries true dropped kept = kept
entries false dropped kept = dropped

-- node n of the arena becomes node m, and nothing is added then
pub record Hit (lw ls : ℕ) (R : ℕ → Bool) (a : Arena) (n m : ℕ) : Type 0 where
  pub inside : n < length a
  pub is : apply lw ls a n R a ≡ Ok (m, a)
  pub low : m < length a

-- what the caches hold is so in the arena a, for the removable variables R
pub record Caches (lw ls : ℕ) (R : ℕ → Bool) (a : Arena) (dropped kept : List ℕ) : Type 0 where
  pub long : (keep : Bool) → length (entries keep dropped kept) ≡ 4096
  pub hit : (keep : Bool) (n m : ℕ) → get_or (entries keep dropped kept) n 0 ≡ suc m → Hit lw ls (setting keep R) a n m

-- there is an entry for n, and m can be written
pub record CacheRoom (dropped kept : List ℕ) (n m : ℕ) : Type 0 where
  pub long : (keep : Bool) → length (entries keep dropped kept) ≡ 4096
  pub low : n < 4096
  pub small : m < 4096

-- the entry for n of the setting says m, and nothing else changes
pub record Remembers (keep : Bool) (n m : ℕ) (dropped kept dropped' kept' : List ℕ) : Type 0 where
  pub long : (k : Bool) → length (entries k dropped' kept') ≡ length (entries k dropped kept)
  pub new : get_or (entries keep dropped' kept') n 0 ≡ suc m
  pub old : (k : Bool) (j : ℕ) → ((k ≡ keep) × (j ≡ n) → ⊥) → get_or (entries k dropped' kept') j 0 ≡ get_or (entries k dropped kept) j 0
