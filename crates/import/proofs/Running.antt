-- The run: names are matched once, a name that is lacking is 12, and the recursion begins with an empty cache.
use Prim.Native.Nat.{ℕ, ◌<◌}
use mathlib.Core.Path.{◌≡◌, sym, ap, ◌∙◌, subst}
use mathlib.Core.Bool.{Bool, true, false}
use mathlib.Core.List.{List}
use native.Mathlib.Omega.{arith}
use lib.ListN.{length, replicate}
use Rattle.std.specs.Prelude.{Err}
use Rattle.types.specs.Out.{Out}
use Rattle.types.specs.declared.refusal.Refusal.TheVariants as refusal
use Rattle.types.specs.Arena.{Arena}
use Rattle.types.specs.declared.Counters.{Counters}
use Rattle.name_matching.specs.Inner.{Matches, Maps, Blank}
use Rattle.name_matching.proofs.Merging.{blank}
use Rattle.node_store.specs.Inner.Stored.{Lent, InRange}
use Rattle.soundness.specs.Inner.Sides.{Side}
use Rattle.soundness.proofs.Sides.{side_lent}
use Rattle.walks.specs.Inner.Asked.{Says}
use Rattle.recursion.specs.Inner.Work.{Ready, Does}
use Rattle.recursion.specs.Inner.Hosted.{LeadsOnce, stop}
use Rattle.recursion.proofs.Leading.{holds_stands, leads_once}
use Rattle.recursion.proofs.Remembering.{cache_none}
use Rattle.importing.specs.Import.{number_in, lacks, import_node, import_from_arena}
use Rattle.importing.specs.Inner.Names.{by_map}
use Rattle.importing.specs.Inner.Nodes.{Foreign}
use Rattle.importing.proofs.Tables.{map_is, map_numbering}
use Rattle.import.specs.Inner.{imports, RunReady, Runs, Sides, ImportsIn}

-- ---- the recursion
module _ {ks w s : List ℕ} {c : Counters} {root : ℕ} {tw ts : List ℕ} {d : Counters} where
  pub run_target : RunReady ks w s c root tw ts d → Lent tw ts d
  run_target R = record { table = R.table; view = R.target; holds = R.to }

  pub run_ready : RunReady ks w s c root tw ts d → Ready (import_node (by_map ks)) (Foreign ks w s c) tw ts d root (replicate 4096 0)
  run_ready R = record { table = R.table; source = R.source; view = R.target; holds = R.to; beside = R.beside; inside = R.inside; cache = cache_none }

  pub run_made : {tw' ts' entries : List ℕ} {r : Out (ℕ × Counters)} → Does (import_node (by_map ks)) (Foreign ks w s c) tw ts d root (replicate 4096 0) tw' ts' entries r → Runs ks w s c root tw ts d tw' ts' r
  run_made D = record { is = λ table u a Q H l. leads_once (D.is table u a H Q l cache_none) }

-- ---- what precedes it
module _ {t w s : List ℕ} {c : Counters} {tt tw ts : List ℕ} {d : Counters} (P : Sides t w s c tt tw ts d) where
  pub no_names : Blank t tt (replicate 4096 0)
  no_names = blank P.source.is P.target.is

  module _ {ks : List ℕ} (M : Maps t tt ks) where
    matches : (S : Side t w s c) (T : Side tt tw ts d) → Matches S.names T.names ks
    matches S T = M.is S.names T.names S.is T.is

    pub map_long : length ks ≡ 4096
    map_long = (matches P.source P.target).long

    foreign : (S : Side t w s c) (T : Side tt tw ts d) (b : Arena) → Foreign ks w s c (length T.names) S.view b
    foreign S T b = record {
      own = length S.names;
      holds = S.holds;
      long = map_long;
      numbering = map_numbering t S.names S.is tt T.names T.is (matches S T);
    }

    module _ {root i : ℕ} (e : i ≡ root) where
      pub root_range : root < c.nodes → InRange w s c i
      root_range l = record { lent = side_lent P.source; inside = omega (arith, e, l) }

      module _ {b : Bool} (L : Says (lacks (by_map ks)) w s c i b) where
        lacking : (S : Side t w s c) (T : Side tt tw ts d) → b ≡ lacks (number_in S.names T.names) S.view root
        lacking S T = L.is (length S.names) S.view S.holds ∙ (λ j. lacks (map_is t S.names S.is tt T.names T.is (matches S T) j) S.view (e j))

        -- 12, and nothing is stored
        pub lacking_refused : b ≡ true → ImportsIn t w s c root tt tw ts d tw ts (Err refusal.NameAbsent)
        unfolding import_from_arena
        lacking_refused q = record {
          is = λ S T.
              let o : imports S.names T.names tw ts root T.view S.view ≡ Err refusal.NameAbsent = rw (import_from_arena, sym (lacking S T) ∙ q) in
              subst (LeadsOnce (length T.names) T.view tw ts (Err refusal.NameAbsent)) (sym o) (stop (holds_stands T.holds));
        }

        module _ (l : root < c.nodes) (q : b ≡ false) where
          pub named_ready : RunReady ks w s c root tw ts d
          named_ready =
              let S = P.source in
              let T = P.target in
              record {
                table = length T.names;
                source = S.view;
                target = T.view;
                beside = foreign S T T.view;
                to = T.holds;
                inside = omega (arith, l, S.holds.nodes);
                complete = record { is = λ own u H. ap (lacks (by_map ks) u) (sym e) ∙ sym (L.is own u H) ∙ q };
              }

          pub named_done : {tw' ts' : List ℕ} {r : Out (ℕ × Counters)} → Runs ks w s c root tw ts d tw' ts' r → ImportsIn t w s c root tt tw ts d tw' ts' r
          unfolding import_from_arena
          named_done {tw'} {ts'} {r} R = record {
            is = λ S T.
                let o : imports S.names T.names tw ts root T.view S.view ≡ import_node (number_in S.names T.names) (length tw) (length ts) S.view root T.view = rw (import_from_arena, sym (lacking S T) ∙ q) in
                let p = map_is t S.names S.is tt T.names T.is (matches S T) in
                subst (LeadsOnce (length T.names) T.view tw' ts' r)
                ((λ j. import_node (p j) (length tw) (length ts) S.view root T.view) ∙ sym o)
                (R.is (length T.names) S.view T.view (foreign S T T.view) T.holds (omega (arith, l, S.holds.nodes)));
          }
