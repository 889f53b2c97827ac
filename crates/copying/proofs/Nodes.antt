-- A node worked out: its children are read in the source and copied, then the node is interned with their copies.
use Prim.Native.Nat.{ℕ, ◌+◌, ◌*◌, ◌<◌}
use mathlib.Core.Path.{◌≡◌, sym, ap, ◌∙◌}
use mathlib.Core.List.{List}
use native.Mathlib.Omega.{arith}
use lib.ListN.{length, take}
use lib.Seq.{length-take-le}
use Rattle.std.specs.Prelude.{Ok, Err}
use Rattle.types.specs.declared.refusal.Refusal.{Refusal}
use Rattle.types.specs.Out.{Out}
use Rattle.types.specs.Node.{below}
use Rattle.types.specs.declared.Counters.{Counters}
use Rattle.types.proofs.Sound.{children_below}
use Rattle.node_store.specs.Inner.Stored.{InRange}
use Rattle.recursion.specs.Inner.Work.{Ready, Does, EachReady, DoesEach}
use Rattle.recursion.proofs.Leading.{each_done}
use Rattle.recursion.proofs.Nodes.{Rebuilt, node_refused, node_done}
use Rattle.rebuilding.specs.Inner.Children.{AllChildren}
use Rattle.rebuilding.specs.declared.children.Children.{Children}
use Rattle.copying.specs.Copy.{copy}
use Rattle.copying.specs.Inner.{Source, CopyReady, Copies}
use Rattle.copying.proofs.Caching.{copy_lawful}
use Rattle.copying.proofs.Steps.{copy_at}

module _ {w s : List ℕ} {c : Counters} {tw ts : List ℕ} {d : Counters} {n : ℕ} {entries : List ℕ} (P : Ready copy (Source w s c) tw ts d n entries) where
  pub source_range : InRange w s c n
  source_range = let H = P.beside.holds in record { lent = record { table = P.table; view = P.source; holds = H }; inside = omega (arith, P.inside, H.nodes) }

  pub uncached_falls : {t : ℕ} → 3 * n + 2 ≡ t → 3 * n + 1 < t
  uncached_falls e = omega (arith, e)

  pub each_falls : {t : ℕ} → 3 * n + 1 ≡ t → 3 * n < t
  each_falls e = omega (arith, e)

  module _ {r : Children} (L : AllChildren w s c n r) where
    pub children_ready : EachReady copy (Source w s c) tw ts d n r.items r.count entries
    children_ready =
        let H = P.beside.holds in
        let X = L.is P.table P.source H in
        record { ready = P; long = X.long; few = X.few; low = ap (below n) X.is ∙ children_below P.table P.source H.good n P.inside }

    copy_rebuilt : Rebuilt copy (Source w s c) (λ t. t) tw ts d n r.items r.count
    copy_rebuilt = record {
      kids = λ table u a H Q l. (L.is table u Q.holds).is;
      step = λ table u a H Q l. copy_at (length tw) (length ts) table u Q.holds.good n l;
    }

    module _ {tw' ts' items' entries' : List ℕ} {g : Out Counters} (E : DoesEach copy (Source w s c) tw ts d n r.items r.count entries tw' ts' items' entries' g) where
      pub copy_refused : {x : Refusal} → g ≡ Err x → Does copy (Source w s c) tw ts d n entries tw' ts' entries' (Err x)
      copy_refused p = node_refused copy_lawful copy_rebuilt E p

      module _ {e : Counters} (q : g ≡ Ok e) where
        pub copy_ready : CopyReady w s c n items' r.count tw' ts' e
        copy_ready =
            let H = P.beside.holds in
            let D = each_done (E.is P.table P.source P.view P.holds P.beside P.inside P.cache) q in
            let X = L.is P.table P.source H in
            let y : length (take r.count r.items) ≡ r.count = length-take-le r.count r.items (omega (arith, X.long, X.few)) in
            record {
              table = P.table;
              source = P.source;
              target = D.arena;
              from = H;
              to = D.holds;
              inside = omega (arith, P.inside, H.nodes);
              long = D.long;
              count_is = sym y ∙ ap length X.is;
              low = ap (λ (z : ℕ). below z (take r.count items')) D.holds.nodes ∙ D.low;
            }

        pub copy_done : {tw'' ts'' : List ℕ} {i : Out (ℕ × Counters)} → Copies w s c n items' r.count tw' ts' e tw'' ts'' i
            → length tw' ≡ length tw → length ts' ≡ length ts → length tw'' ≡ length tw' → length ts'' ≡ length ts' → Does copy (Source w s c) tw ts d n entries tw'' ts'' entries' i
        copy_done B lw ls lw' ls' = node_done copy_lawful copy_rebuilt E q (record { is = λ table u a H Q l. B.is table u a Q.holds H }) lw ls lw' ls'
