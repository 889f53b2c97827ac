-- A node that demands a field takes no value without it: from a set type, where the field is missing, the no comes up through unions, intersections and names.
use Prim.Native.Nat.{ℕ, ◌<◌}
use mathlib.Core.Path.{◌≡◌, refl, sym, ◌∙◌}
use mathlib.Core.Bool.{Bool, false, ◌||◌, and-false}
use mathlib.Core.List.Memᴰ.{head}
use mathlib.Core.List.Memᴰ.{tail}
use mathlib.Core.List.{List, Memᴰ as Mem}
use lib.ListN.{length}
use Rattle.types.specs.Node.{positive, negative, Field, field, children}
use Rattle.types.specs.Arena.{Arena, at}
use Rattle.types.proofs.Tests.{true_false, not_true}
use Rattle.fix_values.specs.Values as values
use Rattle.fix_values.specs.Values.{Value, value, shape}
use Rattle.fix_values.specs.Fix.{value_at}
use Rattle.fitting.specs.Fits.{Test, among, none_missing, set_takes, node_takes, takes}
use Rattle.fitting.specs.Theorems.{Demands, in_set, in_union, in_intersection, in_named, NoFixWithout}
use Rattle.fitting.proofs.ByChildren.{inside, taken_at, named_inner, each_shares, shared_by}

pub demands_inside : {a : Arena} {n m : ℕ} → Demands a n m → m < length a
demands_inside {a} {m = m} (in_set fs d o e i) = inside a m e (λ q. cc)
demands_inside {a} {m = m} (in_union e h) = inside a m e (λ q. cc)
demands_inside {a} {m = m} (in_intersection e c i D) = inside a m e (λ q. cc)
demands_inside {a} {m = m} (in_named k e D) = inside a m e (λ q. cc)

-- ---- a set type with the field
missing : {n : ℕ} {fs : List Field} (ns : List ℕ) → Mem (field false n) fs → among n ns ≡ false → none_missing fs ns ≡ false
unfolding none_missing
missing {n} ns (head {x = field o m} e) q =
    let p : o ≡ false = cc in
    let r : m ≡ n = cc in
    rw (p, r, q)
missing ns (tail {x = field o m} i) q = rw (missing ns i q) (and-false (o || among m ns))

set_without : {n : ℕ} {fs : List Field} → Mem (field false n) fs → (d o : Bool) (ts : List Test) (u : Value) → among n (values.names (shape u)) ≡ false → set_takes fs d o ts u ≡ false
unfolding set_takes
set_without i d o ts (value (values.plain k) cs) e = refl
set_without i d o ts (value values.list cs) e = refl
set_without i d o ts (value (values.set ns) cs) e = rw (missing ns i e)

pub no_fix_without : NoFixWithout
unfolding node_takes
no_fix_without table a g n m (in_set fs d o e i) f v q = taken_at f table a g m e (λ q. cc) v ∙ set_without i d o _ (value_at f v) q
no_fix_without table a g n m (in_union e h) f v q =
    taken_at f table a g m e (λ q. cc) v ∙ shared_by f (takes f a) v positive (children (at a m)) (λ c i. no_fix_without table a g n c (h c i) f v q)
no_fix_without table a g n m (in_intersection e c i D) f v q =
    taken_at f table a g m e (λ q. cc) v
    ∙ not_true _ (λ p. true_false (sym (each_shares f (takes f a) v negative i p) ∙ no_fix_without table a g n c D f v q))
no_fix_without table a g n m (in_named k e D) f v q = named_inner f table a g k m e v ∙ no_fix_without table a g n _ D f v q
