-- The cache of a recursion (01, "Forms of the Rust that can't be kept"): one entry for each of 4,096 nodes, 0 for nothing yet, else a
-- node's number and one.
use Rattle.std.specs.Prelude.{ℕ, suc, ◌<◌, ◌≡◌, List, length, get_or, set, Ok}
use Rattle.types.specs.Arena.{Arena}
use Rattle.recursion.specs.Jobs.{Job}

-- the job f of node n, one of so many, answers node m of the arena, and nothing is added then
pub record Hit (f : ℕ → Job) (count : ℕ) (a : Arena) (n m : ℕ) : Type 0 where
  pub inside : n < count
  pub is : f n a ≡ Ok (m, a)
  pub low : m < length a

-- every entry is so in the arena a
pub record Cache (f : ℕ → Job) (count : ℕ) (a : Arena) (entries : List ℕ) : Type 0 where
  pub long : length entries ≡ 4096
  pub hit : (n m : ℕ) → get_or entries n 0 ≡ suc m → Hit f count a n m

-- there is an entry for n, and m can be written
pub record CacheRoom (entries : List ℕ) (n m : ℕ) : Type 0 where
  pub long : length entries ≡ 4096
  pub low : n < 4096
  pub small : m < 4096

-- the entry for n says m, and nothing else changes
pub record Remembers (n m : ℕ) (entries entries' : List ℕ) : Type 0 where
  pub is : entries' ≡ set entries n (suc m)
