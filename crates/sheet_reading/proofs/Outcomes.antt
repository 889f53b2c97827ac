-- What `read_sheet` answered, taken apart: a sheet whose table lies in the input and whose arena lies in memory, or a refusal.
use Prim.Native.Nat.{ℕ, ◌-◌, ◌<◌, ◌≤◌}
use mathlib.Core.Path.{◌≡◌, refl, ap, subst}
use mathlib.Core.List.{List}
use native.Mathlib.Omega.{arith}
use lib.ListN.{length, take, drop}
use Rattle.std.specs.Prelude.{Ok, Err}
use Rattle.types.specs.declared.refusal.Refusal.{Refusal}
use Rattle.types.specs.Out.{Out}
use Rattle.types.specs.Memory.{Holds}
use Rattle.types.specs.declared.Counters.{Counters}
use Rattle.names.specs.Table.{IsTable}
use Rattle.sheet_reading.specs.Sheet.{Sheet}
use Rattle.sheet_reading.specs.Inner.Reading.{Says, sheet, refused}
use Rattle.sheet_reading.specs.declared.Contents.{Contents}

pub record Read (input w s : List ℕ) (e : ℕ) (c : Counters) (root : ℕ) (o : Out Sheet) : Type 0 where
  pub result : Sheet
  pub is : o ≡ Ok result
  pub low : 6 ≤ e
  pub high : e ≤ length input
  pub table : IsTable (take (e - 6) (drop 6 input)) result.names
  pub holds : Holds (length result.names) w s c result.arena
  pub inside : root < c.nodes
  pub root_is : root ≡ result.root

module _ {input w s : List ℕ} where
  pub read_as : {r : Out Contents} {o : Out Sheet} {p : Contents} → Says input w s r o → r ≡ Ok p → Read input w s p.end p.counters p.root o
  read_as {p = p} (sheet {e = f} {c = d} {sh = sh} l h T H i) q =
      let x : record { end = f; counters = d; root = sh.root } ≡ p = cc in
      subst (λ (y : Contents). Read input w s y.end y.counters y.root (Ok sh)) x
      (record { result = sh; is = refl; low = l; high = h; table = T; holds = H; inside = i; root_is = refl })
  read_as refused q = let z : ◌≡◌ {A = ℕ} 0 1 = cc in absurd (omega arith)

  pub refused_as : {r : Out Contents} {o : Out Sheet} {e : Refusal} → Says input w s r o → r ≡ Err e → o ≡ Err e
  refused_as (sheet l h T H i) q = let z : ◌≡◌ {A = ℕ} 0 1 = cc in absurd (omega arith)
  refused_as {e = e} (refused {n = n}) q = let x : n ≡ e = cc in ap Err x
