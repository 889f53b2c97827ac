-- Demand 3: what `simplify` promises of the type it returns (01, "How far the contracts go").
use Prim.Native.Nat.{ℕ, ◌<◌, ◌≤◌, Fin}
use Rattle.std.specs.Prelude.{◌≡◌, length, get_or}
use mathlib.Core.List.{List, Memᴰ}
use Rattle.types.specs.Node.{Polarity, members, bound, tag, children}
use Rattle.types.specs.Arena.{Arena, at}
use Rattle.types.specs.Places.{Reachable, Polar, Occurs}
use Rattle.simplification.specs.Removal.{OccursOnly}
use Rattle.simplification.specs.Passes.{Taken, AfterPasses}
use Rattle.simplification.specs.Reading.{Reading, in_bound, set_of}

-- the reading is empty on each variable that some pass sees only at positive places, and full on each that some pass sees only at negative
-- ones
pub record ReadingFits (r : Reading) (taken : List Taken) : Type 0 where
  pub as_seen : (t : Taken) → Memᴰ t taken → (v : ℕ) (p : Polarity) → OccursOnly t.arena t.root v p → (m : Fin r.marks)
      → r.vars v m ≡ in_bound p

-- a list of kind k with these members is as a simplified one should be: two members or more, all different, none of its own kind, none
-- `never` or `any`
pub record Shaped (a : Arena) (k : Polarity) (ms : List ℕ) : Type 0 where
  pub two : 2 ≤ length ms
  pub different : (i j : ℕ) → i < j → j < length ms → get_or ms i 0 ≡ get_or ms j 0 → ⊥
  pub no_own_kind : (i : ℕ) → i < length ms → tag (at a (get_or ms i 0)) ≡ members k → ⊥
  pub no_bound : (i : ℕ) → i < length ms → (j : Polarity) → tag (at a (get_or ms i 0)) ≡ bound j → ⊥

-- from the given type, that of the root in the arena a, to the returned one: if the given type is in the polar form, both have the same set
-- under every reading that fits;
-- in any case each list with a place in the returned type has its shape, and each variable there stands in the given type, at a place of
-- the same sign
pub record Demand (a : Arena) (root : ℕ) (q : AfterPasses) : Type 0 where
  pub meaning_kept : Polar a root → (r : Reading) → ReadingFits r q.taken → set_of r a root ≡ set_of r q.arena q.root
  pub shape : (u : ℕ) (k : Polarity) → Reachable q.arena q.root u → tag (at q.arena u) ≡ members k
      → Shaped q.arena k (children (at q.arena u))
  pub no_new_variable : (v : ℕ) (p : Polarity) → Occurs q.arena q.root v p → Occurs a root v p
