-- The cache law of the copy: the children are copied as they were, and then the node is found. The target begins with nothing of the source.
use Prim.Native.Nat.{ℕ, ◌<◌, ◌≤◌}
use mathlib.Core.Path.{◌≡◌}
use mathlib.Core.Bool.{true}
use mathlib.Core.List.{List, []}
use native.Mathlib.Omega.{arith}
use lib.ListN.{length}
use Rattle.std.specs.Prelude.{Err}
use Rattle.types.specs.declared.refusal.Refusal.TheVariants as refusal
use Rattle.types.specs.Node.{tag, children}
use Rattle.types.specs.Arena.{Arena, sound, here}
use Rattle.types.specs.declared.Counters.{Counters}
use Rattle.types.proofs.Addresses.{start_room}
use Rattle.recursion.specs.Jobs.{Job, rebuild}
use Rattle.recursion.specs.Theorems.{Steady, There}
use Rattle.recursion.proofs.Steady.{ext_empty, steady_later, rebuild_steady, step_well, step_child, rec_steady}
use Rattle.recursion.proofs.Leading.{Lawful}
use Rattle.copying.specs.Copy.{copy}
use Rattle.copying.specs.Inner.{Source}

pub copy_steady : (words starts table : ℕ) → starts ≤ 4096 → (u : Arena) → sound table u ≡ true → (n : ℕ) → n < length u → Steady table [] There (copy words starts u n)
unfolding copy
copy_steady words starts table few u g n l =
    rec_steady table table {Y = Job} {I = ℕ} (λ j i. j) (λ s x f. rebuild words starts (tag x) (children x) f) (λ a. Err refusal.NoSuchRoot) (λ s. []) (λ x s. here)
    (λ x s f h k i. rebuild_steady words starts table few [] (length s) (tag x) (children x) f (step_well table x s h) (λ c m. k c (step_child table x s h c m) i))
    u g n l 0

pub copy_lawful : {w s : List ℕ} {c : Counters} → Lawful copy (Source w s c)
copy_lawful = record {
  later = λ Q e. record { holds = Q.holds };
  few = λ Q l. omega (arith, start_room Q.holds, Q.holds.few_starts, Q.holds.nodes);
  steady = λ words starts table few u a Q g n l. steady_later (ext_empty a) (copy_steady words starts table few u Q.holds.good n l);
}
