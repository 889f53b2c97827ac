-- That every copy in the target has an entry, from call to call; so a node without an entry isn't in the target, and is once its answer is remembered.
use Prim.Native.Nat.{ℕ, suc}
use mathlib.Core.Path.{◌≡◌, sym, ap, ◌∙◌, subst}
use mathlib.Core.List.{List}
use native.Mathlib.Omega.{arith}
use native.Mathlib.Decide.{ℕ_discrete}
use lib.ListN.{length, get_or, take, set}
use lib.Seq.{get_or-set_same, get_or-set_other}
use Rattle.std.specs.Prelude.{Ok, Err}
use Rattle.types.specs.declared.refusal.Refusal.{Refusal}
use Rattle.types.specs.Out.{Out}
use Rattle.types.specs.Node.{node, tag, children}
use Rattle.types.specs.Arena.{Arena, at, find}
use Rattle.types.specs.Memory.{Holds}
use Rattle.types.specs.declared.Counters.{Counters}
use Rattle.types.proofs.Refusals.{ok_pair}
use Rattle.types.proofs.Memories.{unique}
use Rattle.recursion.specs.Jobs.{each}
use Rattle.recursion.specs.Inner.Cache.{Remembers}
use Rattle.recursion.specs.Inner.Work.{Ready, Does, DoesEach}
use Rattle.recursion.proofs.Leading.{Done, leads_done, EachDone, each_done}
use Rattle.recursion.proofs.Remembering.{ready_small}
use Rattle.rebuilding.specs.Inner.Children.{AllChildren}
use Rattle.rebuilding.specs.declared.children.Children.{Children}
use Rattle.copying.specs.Copy.{copy}
use Rattle.copying.specs.Theorems.{CopyOf}
use Rattle.copying.specs.Inner.{Source, CopyNew, Copies, AllCached, CachedAfter, CachedOnce, CachedRun}
use Rattle.copying.proofs.Caching.{copy_lawful}
use Rattle.copying.proofs.Nodes.{copy_done}
use Rattle.copying.proofs.Copies.{copy_inside}
use Rattle.copying.proofs.Running.{RanAll, copy_ran, children_ran}
use Rattle.copying.proofs.NewCopies.{none_new, not_found, other_old, copy_ends}

-- ---- answers
module _ {w s : List ℕ} {c : Counters} {tw ts entries : List ℕ} where
  -- a target without a node
  pub none_cached : {d : Counters} → d.nodes ≡ 0 → AllCached w s c tw ts d entries
  none_cached z = record { is = λ table u a H K n m C e. omega (arith, copy_inside C, K.nodes, z) }

  pub cached_same : {m : ℕ} {d : Counters} → AllCached w s c tw ts d entries → CachedAfter w s c tw ts entries (Ok (m, d))
  cached_same {d = d} A = record { is = λ i f e. subst (λ (x : Counters). AllCached w s c tw ts x entries) (ok_pair e).1 A }

  pub cached_refused : {r : Out (ℕ × Counters)} {v : Refusal} → r ≡ Err v → CachedAfter w s c tw ts entries r
  cached_refused q = record { is = λ m d e. let z : ◌≡◌ {A = ℕ} 0 1 = cc in absurd (omega arith) }

  pub once_refused : {n : ℕ} {v : Refusal} → CachedOnce w s c n tw ts entries (Err v)
  once_refused = record { is = λ m d l e M. let z : ◌≡◌ {A = ℕ} 0 1 = cc in absurd (omega arith) }

  pub run_refused : {v : Refusal} → CachedRun w s c tw ts entries (Err v)
  run_refused = record { is = λ d e. let z : ◌≡◌ {A = ℕ} 0 1 = cc in absurd (omega arith) }

  pub run_same : {d : Counters} → AllCached w s c tw ts d entries → CachedRun w s c tw ts entries (Ok d)
  run_same {d} A = record { is = λ f e. let p : d ≡ f = cc in subst (λ (x : Counters). AllCached w s c tw ts x entries) p A }

  pub cached_once : {n m : ℕ} {d : Counters} {entries' : List ℕ} {r : Out (ℕ × Counters)} → CachedOnce w s c n tw ts entries r → r ≡ Ok (m, d) → Remembers n m entries entries' → CachedAfter w s c tw ts entries' (Ok (m, d))
  cached_once {m = m} {d = d} {entries' = l} O q M = record { is = λ i f e. subst (λ (x : Counters). AllCached w s c tw ts x l) (ok_pair e).1 (O.is m d l q M) }

-- ---- a node without an entry, whose children are copied
module _ {w s : List ℕ} {c : Counters} {tw ts : List ℕ} {d : Counters} {n : ℕ} {entries : List ℕ} (P : Ready copy (Source w s c) tw ts d n entries) {r : Children} (L : AllChildren w s c n r)
    {tw' ts' items' entries' : List ℕ} {g : Out Counters} (E : DoesEach copy (Source w s c) tw ts d n r.items r.count entries tw' ts' items' entries' g) {e : Counters} (q : g ≡ Ok e) where
  from : Holds P.table w s c P.source
  from = P.beside.holds

  D : EachDone P.table P.view (copy (length tw) (length ts) P.source) (length P.source) tw' ts' entries' items' r.count e (each (copy (length tw) (length ts) P.source) (take r.count r.items) P.view)
  D = each_done (E.is P.table P.source P.view P.holds P.beside P.inside P.cache) q

  ran : each (copy (length tw) (length ts) P.source) (children (at P.source n)) P.view ≡ Ok (take r.count items', D.arena)
  ran = ap (λ (cs : List ℕ). each (copy (length tw) (length ts) P.source) cs P.view) (sym (L.is P.table P.source from).is) ∙ D.is

  S : RanAll P.table P.source P.view (children (at P.source n)) (take r.count items') D.arena
  S = children_ran (length tw) (length ts) P.table P.holds.few_starts P.source from.good n P.inside P.view (take r.count items') D.arena P.holds.good ran

  pub copy_new : AllCached w s c tw ts d entries → get_or entries n 0 ≡ 0 → CopyNew w s c n items' r.count tw' ts' e
  copy_new A z = record {
    is = λ table u a H K.
        (λ i. find (node (tag (at (unique H from i) n)) (take r.count items')) (unique K D.holds i))
        ∙ not_found P.table from.good P.inside S (none_new P.table from.good P.inside S (λ k C. A.is P.table P.source P.view from P.holds n k C z));
  }

  -- another node with a copy after the node's own had it before
  copy_cached : AllCached w s c tw' ts' e entries' → {tw'' ts'' : List ℕ} {i : Out (ℕ × Counters)} → Does copy (Source w s c) tw ts d n entries tw'' ts'' entries' i → CachedOnce w s c n tw'' ts'' entries' i
  copy_cached A {tw''} {ts''} {i} F = record { is = λ m f l p M. record { is = λ table u b H K j k C z. go m f l p M (unique H from) (unique K (led p).holds) j k C z (ℕ_discrete j n) } }
    where
      led : {m : ℕ} {f : Counters} → i ≡ Ok (m, f) → Done P.table P.view (copy (length tw) (length ts) P.source) (length P.source) tw'' ts'' entries' m f (copy (length tw) (length ts) P.source n P.view)
      led p = leads_done (F.is P.table P.source P.view P.holds P.beside P.inside P.cache) p

      go : (m : ℕ) (f : Counters) (l : List ℕ) (p : i ≡ Ok (m, f)) → Remembers n m entries' l → {u b : Arena} → u ≡ P.source → b ≡ (led p).arena → (j k : ℕ) → CopyOf u b j k → get_or l j 0 ≡ 0 → Dec (j ≡ n) → ⊥
      go m f l p M us bs j k C z (yes x) =
          let y = get_or-set_same entries' n (suc m) 0 (omega (arith, ready_small copy_lawful P, (led p).cache.long)) in
          let v : get_or l j 0 ≡ get_or (set entries' n (suc m)) n 0 = λ h. get_or (M.is h) (x h) 0 in
          omega (arith, z, y, v)
      go m f l p M {u} us bs j k C z (no x) =
          let C' = subst (λ (v : Arena). CopyOf v (led p).arena j k) us (subst (λ (v : Arena). CopyOf u v j k) bs C) in
          let X = copy_ends (length tw) (length ts) P.table P.source from.good n P.inside P.view (take r.count items') D.arena m (led p).arena ran (led p).is in
          let R = copy_ran (length tw) (length ts) P.table P.holds.few_starts P.source from.good n P.inside P.view m (led p).arena P.holds.good (led p).is in
          A.is P.table P.source D.arena from D.holds j k (other_old P.table from.good P.inside S X R x C')
          (sym (get_or-set_other entries' n j (suc m) 0 x) ∙ ap (λ (v : List ℕ). get_or v j 0) (sym M.is) ∙ z)

  -- the two facts of an answer
  pub copy_both : AllCached w s c tw' ts' e entries' → {tw'' ts'' : List ℕ} {i : Out (ℕ × Counters)} → Copies w s c n items' r.count tw' ts' e tw'' ts'' i → length tw' ≡ length tw → length ts' ≡ length ts → length tw'' ≡ length tw' → length ts'' ≡ length ts'
      → Does copy (Source w s c) tw ts d n entries tw'' ts'' entries' i × CachedOnce w s c n tw'' ts'' entries' i
  copy_both A B lw ls lw' ls' = let F = copy_done P L E q B lw ls lw' ls' in (F, copy_cached A F)
