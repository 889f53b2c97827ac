-- What the functions below `import_from_arena` ask and answer.
use Rattle.std.specs.Prelude.{ℕ, ◌<◌, ◌≡◌, List, length}
use Rattle.types.specs.Out.{Out}
use Rattle.types.specs.Arena.{Arena}
use Rattle.types.specs.Memory.{Holds}
use Rattle.types.specs.Reply.{reply_of, rooted}
use Rattle.types.specs.declared.Counters.{Counters}
use Rattle.names.specs.Table.{Name}
use Rattle.soundness.specs.Lent.{lent_to}
use Rattle.soundness.specs.Inner.Sides.{Side}
use Rattle.node_store.specs.Intern.{left}
use Rattle.recursion.specs.Inner.Hosted.{LeadsOnce}
use Rattle.importing.specs.Import.{number_in, import_node, import_from_arena}
use Rattle.importing.specs.Inner.Names.{by_map}
use Rattle.importing.specs.Inner.Nodes.{Foreign, Complete}

-- what becomes of a root, in the arena of a target of this memory
abbrev pub imports : List Name → List Name → List ℕ → List ℕ → ℕ → Arena → Arena → Out (ℕ × Arena)
imports ns ms tw ts root b u = import_from_arena (number_in ns ms) (length tw) (length ts) u root b

-- a source that has the root, a target, and a map that lacks no name of the root's type
pub record RunReady (ks w s : List ℕ) (c : Counters) (root : ℕ) (tw ts : List ℕ) (d : Counters) : Type 0 where
  pub table : ℕ
  pub source : Arena
  pub target : Arena
  pub beside : Foreign ks w s c table source target
  pub to : Holds table tw ts d target
  pub inside : root < length source
  pub complete : Complete ks w s c root

-- the outcome is that of the recursion
pub record Runs (ks w s : List ℕ) (c : Counters) (root : ℕ) (tw ts : List ℕ) (d : Counters) (tw' ts' : List ℕ)
    (r : Out (ℕ × Counters)) : Type 0 where
  pub is : (table : ℕ) (u a : Arena) → Foreign ks w s c table u a → Holds table tw ts d a → root < length u
      → LeadsOnce table a tw' ts' r (import_node (by_map ks) (length tw) (length ts) u root a)

-- a source and a target
pub record Sides (t w s : List ℕ) (c : Counters) (tt tw ts : List ℕ) (d : Counters) : Type 0 where
  pub source : Side t w s c
  pub target : Side tt tw ts d

-- the outcome is the definition's, for a root that is there
pub record ImportsIn (t w s : List ℕ) (c : Counters) (root : ℕ) (tt tw ts : List ℕ) (d : Counters) (tw' ts' : List ℕ)
    (r : Out (ℕ × Counters)) : Type 0 where
  pub is : (S : Side t w s c) (T : Side tt tw ts d)
      → LeadsOnce (length T.names) T.view tw' ts' r (imports S.names T.names tw ts root T.view S.view)

-- the reply, after 1 and 2 of both
pub record ImportsLent (t w s : List ℕ) (c : Counters) (root : ℕ) (tt tw ts : List ℕ) (d : Counters) (tw' ts' : List ℕ)
    (r : Out (ℕ × Counters)) : Type 0 where
  pub is : (S : Side t w s c) (T : Side tt tw ts d)
      → left d r tw' ts' ≡ reply_of tw ts d (rooted root (imports S.names T.names tw ts root T.view) S.view)

-- the reply, after 1 and 2 of the source
pub record ImportsJudged (t w s : List ℕ) (c : Counters) (root : ℕ) (tt tw ts : List ℕ) (d : Counters) (tw' ts' : List ℕ)
    (r : Out (ℕ × Counters)) : Type 0 where
  pub is : (S : Side t w s c)
      → left d r tw' ts' ≡ reply_of tw ts d (lent_to tt tw ts d (λ (ms : List Name) (b : Arena).
      rooted root (imports S.names ms tw ts root b) S.view))
