-- A filter over the nodes of an arena, and what the functions on it ask and answer.
use Rattle.std.specs.Prelude.{ℕ, ◌<◌, ◌≡◌, Bool, true, List, length, Result, Ok}
use Rattle.bits.specs.Bits.{has}
use Rattle.types.specs.Node.{encode}
use Rattle.types.specs.Arena.{Arena, at}
use Rattle.types.specs.Memory.{Holds}
use Rattle.types.specs.declared.refusal.Refusal.{Refusal}
use Rattle.types.specs.declared.Counters.{Counters}
use Rattle.node_filter.specs.Inner.Hash.{hash_of, bit_of}

-- the three bits of a hash are set
pub record HasBits (filter : List ℕ) (h : ℕ) : Type 0 where
  pub first : has filter (bit_of 1 h) ≡ true
  pub second : has filter (bit_of 64 h) ≡ true
  pub third : has filter (bit_of 4096 h) ≡ true

-- r is true where they are
pub record MayHave (filter : List ℕ) (h : ℕ) (r : Bool) : Type 0 where
  pub is : HasBits filter h → r ≡ true

-- they are set in the second filter, and what was set stays so
pub record Sets (filter : List ℕ) (h : ℕ) (filter' : List ℕ) : Type 0 where
  pub long : length filter' ≡ length filter
  pub new : HasBits filter' h
  pub old : (n : ℕ) → has filter n ≡ true → has filter' n ≡ true

-- the bits of every node of an arena are set
pub record Covers (filter : List ℕ) (a : Arena) : Type 0 where
  pub long : length filter ≡ 2048
  pub each : (i : ℕ) → i < length a → HasBits filter (hash_of (encode (at a i)))

-- those of the arena that memory holds
pub record CoversLent (w s : List ℕ) (c : Counters) (filter : List ℕ) : Type 0 where
  pub long : length filter ≡ 2048
  pub is : (table : ℕ) (a : Arena) → Holds table w s c a → Covers filter a

-- the same with the counters of an answer, unless that is a refusal
pub record CoversAfter (w s : List ℕ) (r : Result (ℕ × Counters) Refusal) (filter : List ℕ) : Type 0 where
  pub is : (n : ℕ) (d : Counters) → r ≡ Ok (n, d) → CoversLent w s d filter
