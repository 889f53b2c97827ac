-- A node worked out: its children are read in the source and imported, then the node is interned with what they became and with its names renamed.
use Prim.Native.Nat.{ℕ, ◌+◌, ◌*◌, ◌<◌}
use mathlib.Core.Path.{◌≡◌, sym, ap, ◌∙◌, subst}
use mathlib.Core.List.{List}
use native.Mathlib.Omega.{arith}
use lib.ListN.{length, get_or, take}
use lib.Seq.{length-take-le, get_or-take}
use Rattle.std.specs.Prelude.{Ok, Err}
use Rattle.types.specs.declared.refusal.Refusal.{Refusal}
use Rattle.types.specs.Out.{Out}
use Rattle.types.specs.Node.{below, tag, names, children}
use Rattle.types.specs.Arena.{at}
use Rattle.types.specs.declared.Counters.{Counters}
use Rattle.types.proofs.Tests.{true_false, neither, not_true}
use Rattle.types.proofs.Sound.{children_below}
use Rattle.node_store.specs.Inner.Stored.{InRange}
use Rattle.walks.proofs.Reaching.{in_some}
use Rattle.recursion.specs.Inner.Work.{Ready, Does, EachReady, DoesEach}
use Rattle.recursion.proofs.Leading.{each_done}
use Rattle.recursion.proofs.Nodes.{Rebuilt, node_refused, node_done}
use Rattle.recursion.proofs.Turns.{Turn, turn_given}
use Rattle.rebuilding.specs.Inner.Children.{AllChildren}
use Rattle.rebuilding.specs.declared.children.Children.{Children}
use Rattle.importing.specs.Import.{renamed, lacks_one, lacks, import_node}
use Rattle.importing.specs.Inner.Names.{by_map}
use Rattle.importing.specs.Inner.Nodes.{Foreign, Complete, AllComplete, ImportReady, Imports}
use Rattle.importing.proofs.Caching.{lacks_at, lacks_none, import_at, import_lawful}

-- an item to come lacks no name
pub turn_complete : {ks w s : List ℕ} {c : Counters} {tw₀ ts₀ : List ℕ} {d₀ : Counters} {n : ℕ} {items₀ : List ℕ} {count : ℕ} {entries₀ tw ts items entries : List ℕ} {last : Counters} {i : ℕ}
    → Turn (import_node (by_map ks)) (Foreign ks w s c) tw₀ ts₀ d₀ n items₀ count entries₀ tw ts items entries last i → AllComplete ks w s c items₀ count → i < count → {x : ℕ} → x ≡ get_or items i 0 → Complete ks w s c x
turn_complete {ks} {w} {s} {c} {i = i} T A h e = subst (Complete ks w s c) (sym (turn_given T h e)) (A.each i h)

module _ {ks w s : List ℕ} {c : Counters} {tw ts : List ℕ} {d : Counters} {n : ℕ} {entries : List ℕ} (P : Ready (import_node (by_map ks)) (Foreign ks w s c) tw ts d n entries) where
  pub source_range : InRange w s c n
  source_range = let H = P.beside.holds in record { lent = record { table = P.beside.own; view = P.source; holds = H }; inside = omega (arith, P.inside, H.nodes) }

  pub uncached_falls : {t : ℕ} → 3 * n + 2 ≡ t → 3 * n + 1 < t
  uncached_falls e = omega (arith, e)

  pub each_falls : {t : ℕ} → 3 * n + 1 ≡ t → 3 * n < t
  each_falls e = omega (arith, e)

  module _ {r : Children} (L : AllChildren w s c n r) where
    pub children_ready : EachReady (import_node (by_map ks)) (Foreign ks w s c) tw ts d n r.items r.count entries
    children_ready =
        let H = P.beside.holds in
        let X = L.is P.beside.own P.source H in
        record { ready = P; long = X.long; few = X.few; low = ap (below n) X.is ∙ children_below P.beside.own P.source H.good n P.inside }

    module _ (K : Complete ks w s c n) where
      -- what a node lacks not, none of its children lacks
      pub children_complete : AllComplete ks w s c r.items r.count
      children_complete = record {
        each = λ i h. record {
          is = λ own u H.
              let k : n < length u = omega (arith, P.inside, P.beside.holds.nodes, H.nodes) in
              let X = L.is own u H in
              let z = (neither (lacks_one (by_map ks) (names (tag (at u n)))) _ (sym (lacks_at (by_map ks) own u H.good n k) ∙ K.is own u H)).1 in
              let y : length (take r.count r.items) ≡ r.count = length-take-le r.count r.items (omega (arith, X.long, X.few)) in
              let l : i < length (children (at u n)) = omega (arith, h, y, ap length X.is) in
              let e : get_or (children (at u n)) i 0 ≡ get_or r.items i 0 = ap (λ (cs : List ℕ). get_or cs i 0) (sym X.is) ∙ get_or-take r.count r.items i 0 h in
              not_true (lacks (by_map ks) u (get_or r.items i 0)) (λ q. true_false (sym (in_some (lacks (by_map ks) u) (children (at u n)) i l (ap (lacks (by_map ks) u) e ∙ q)) ∙ z));
        };
      }

      import_rebuilt : Rebuilt (import_node (by_map ks)) (Foreign ks w s c) (renamed (by_map ks)) tw ts d n r.items r.count
      import_rebuilt = record {
        kids = λ table u a H Q l. (L.is Q.own u Q.holds).is;
        step = λ table u a H Q l.
            import_at (by_map ks) (length tw) (length ts) Q.own u Q.holds.good n l (lacks_none (by_map ks) Q.own u Q.holds.good n l (K.is Q.own u Q.holds));
      }

      module _ {tw' ts' items' entries' : List ℕ} {g : Out Counters} (E : DoesEach (import_node (by_map ks)) (Foreign ks w s c) tw ts d n r.items r.count entries tw' ts' items' entries' g) where
        pub import_refused : {x : Refusal} → g ≡ Err x → Does (import_node (by_map ks)) (Foreign ks w s c) tw ts d n entries tw' ts' entries' (Err x)
        import_refused p = node_refused import_lawful import_rebuilt E p

        module _ {e : Counters} (q : g ≡ Ok e) where
          pub import_ready : ImportReady ks w s c n items' r.count tw' ts' e
          import_ready =
              let H = P.beside.holds in
              let D = each_done (E.is P.table P.source P.view P.holds P.beside P.inside P.cache) q in
              let X = L.is P.beside.own P.source H in
              let y : length (take r.count r.items) ≡ r.count = length-take-le r.count r.items (omega (arith, X.long, X.few)) in
              record {
                table = P.table;
                source = P.source;
                target = D.arena;
                beside = import_lawful.later P.beside D.ext;
                to = D.holds;
                inside = omega (arith, P.inside, H.nodes);
                long = D.long;
                count_is = sym y ∙ ap length X.is;
                low = ap (λ (z : ℕ). below z (take r.count items')) D.holds.nodes ∙ D.low;
              }

          pub import_done : {tw'' ts'' : List ℕ} {i : Out (ℕ × Counters)} → Imports ks w s c n items' r.count tw' ts' e tw'' ts'' i
              → length tw' ≡ length tw → length ts' ≡ length ts → length tw'' ≡ length tw' → length ts'' ≡ length ts' → Does (import_node (by_map ks)) (Foreign ks w s c) tw ts d n entries tw'' ts'' entries' i
          import_done B lw ls lw' ls' = node_done import_lawful import_rebuilt E q (record { is = λ table u a H Q l. B.is table u a Q H }) lw ls lw' ls'
