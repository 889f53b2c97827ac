-- The call open to a host: its refusals, what it takes back, and the demand.
use Prim.Native.Nat.{ℕ, ◌<◌, ◌≤◌}
use mathlib.Core.Path.{◌≡◌, refl, sym, ap, ◌∙◌, subst}
use mathlib.Core.List.{List}
use native.Mathlib.Omega.{arith}
use lib.ListN.{length}
use Rattle.std.specs.Prelude.{Ok, Err}
use Rattle.types.specs.declared.refusal.Refusal.{Refusal}
use Rattle.types.specs.declared.refusal.Refusal.TheVariants as refusal
use Rattle.types.specs.Out.{Out, ◌>>=◌}
use Rattle.types.specs.Arena.{Arena}
use Rattle.types.specs.Memory.{Holds}
use Rattle.types.specs.Reply.{reply_of, rooted}
use Rattle.types.specs.declared.Counters.{Counters}
use Rattle.types.proofs.Memories.{unique}
use Rattle.types.proofs.Replies.{rooted_no, rooted_yes}
use Rattle.names.specs.Table.{Name}
use Rattle.node_store.specs.Inner.Stored.{Lent}
use Rattle.soundness.specs.Inner.Sound.{lent_reply}
use Rattle.soundness.proofs.Verdicts.{lent_names, lent_refused, lent_done}
use Rattle.simplification.specs.Passes.{AfterPasses, simplify}
use Rattle.simplification.proofs.Demands.{demand_3}
use Rattle.recursion.specs.Inner.Work.{TakesBackNodes}
use Rattle.recursion.proofs.Leading.{Stopped}
use Rattle.recursion.proofs.Hosts.{held_reply, back_reply}
use Rattle.simplify.specs.Simplify.{Answer, answered, simplify_reply, left, Fulfilled, Promise}
use Rattle.simplify.specs.Inner.{LeadsTo, done, stop, Simplifies, SimplifiesLent}
use Rattle.simplify.specs.declared.Simplified.{Simplified}

-- ---- outcomes taken apart
pub record Finished (table : ℕ) (a : Arena) (w s : List ℕ) (p : Simplified) (o : Out AfterPasses) : Type 0 where
  pub result : AfterPasses
  pub is : o ≡ Ok result
  pub root : p.root ≡ result.root
  pub count : p.passes ≡ length result.taken
  pub holds : Holds table w s p.counters result.arena
  pub low : p.root < length result.arena

module _ {table : ℕ} {a : Arena} {w s : List ℕ} where
  pub finished : {r : Out Simplified} {o : Out AfterPasses} {p : Simplified} → LeadsTo table a 0 w s r o → r ≡ Ok p → Finished table a w s p o
  finished {p = p} (done {q = q} {k = j} {d = f} H E l c) e =
      let x : record { root = q.root; passes = j; counters = f } ≡ p = cc in
      subst (λ (y : Simplified). Finished table a w s y (Ok q)) x (record { result = q; is = refl; root = refl; count = omega (arith, c); holds = H; low = l })
  finished (stop S) e = let z : ◌≡◌ {A = ℕ} 0 1 = cc in absurd (omega arith)

  pub stopped : {r : Out Simplified} {o : Out AfterPasses} {x : Refusal} → LeadsTo table a 0 w s r o → r ≡ Err x → Stopped a w s x o
  stopped (done H E l c) e = let z : ◌≡◌ {A = ℕ} 0 1 = cc in absurd (omega arith)
  stopped {x = x} (stop {e = y} S) e = let p : y ≡ x = cc in record { is = ap Err p; stands = S }

-- ---- 6, and memory as lent
abbrev asks : List ℕ → List ℕ → ℕ → Arena → Out (Answer × Arena)
asks w s root = rooted root (λ (b : Arena). answered (simplify (length w) (length s) root b))

no_type : {w s : List ℕ} {c : Counters} {root : ℕ} {u : Refusal} {w' s' : List ℕ} (q : Simplified) → ◌≡◌ {A = Out Simplified} (Err u) (Ok q) → Fulfilled w s c root q.root q.counters w' s'
no_type q e = let z : ◌≡◌ {A = ℕ} 0 1 = cc in absurd (omega arith)

pub no_root : {w s : List ℕ} {c : Counters} {root x : ℕ} → x ≡ root → c.nodes ≤ x → SimplifiesLent w s c root w s (Err refusal.NoSuchRoot)
unfolding reply_of
no_root {w} {s} {c} {root} e h = record {
  is = λ table a H. sym (ap (reply_of w s c) (rooted_no root (λ (b : Arena). answered (simplify (length w) (length s) root b)) a (omega (arith, e, h, H.nodes))));
  fulfilled = no_type;
}

-- ---- the run
module _ {w s : List ℕ} {c : Counters} {root x : ℕ} (e : x ≡ root) (h : x < c.nodes) where
  inside : {table : ℕ} {a : Arena} → Holds table w s c a → root < length a
  inside H = omega (arith, e, h, H.nodes)

  run_is : {table : ℕ} {a : Arena} → Holds table w s c a → asks w s root a ≡ answered (simplify (length w) (length s) root a)
  run_is {a = a} H = rooted_yes root (λ (b : Arena). answered (simplify (length w) (length s) root b)) a (inside H)

  module _ {w' s' : List ℕ} {r : Out Simplified} (S : Simplifies w s c root w' s' r) where
    module _ {p : Simplified} (q : r ≡ Ok p) where
      pub run_done : Lent w s c → length w' ≡ length w → length s' ≡ length s → SimplifiesLent w s c root w' s' r
      unfolding answered ◌>>=◌
      run_done L lw ls = record {
        is = λ table a H.
            let F = finished (S.is table a H) q in
            ap (λ (z : Out Simplified). left c z w' s') q
            ∙ (λ i. left c (Ok (record { root = F.root i; passes = F.count i; counters = p.counters })) w' s')
            ∙ held_reply w s c lw ls F.holds (record { root = F.result.root; made = length F.result.taken })
            ∙ sym (ap (reply_of w s c) (run_is H ∙ ap answered F.is));
        fulfilled = λ u e.
            let H = L.holds in
            let F = finished (S.is L.table L.view H) e in
            record {
              table = L.table;
              given = L.view;
              held = H;
              result = F.result;
              run = F.is;
              returned = F.root;
              holds = F.holds;
              demand = demand_3 (length w) (length s) L.table H.few_starts root L.view H.good (inside H) F.result F.is;
            };
      }

    pub run_stopped : {u : Refusal} → r ≡ Err u → {w'' s'' : List ℕ} → TakesBackNodes w' s' c w'' s'' → length w' ≡ length w → length s' ≡ length s → SimplifiesLent w s c root w'' s'' (Err u)
    unfolding answered ◌>>=◌
    run_stopped {u} q {w''} {s''} B lw ls = record {
      is = λ table a H.
          let T = stopped (S.is table a H) q in
          back_reply w s c lw ls H T.stands B u ∙ sym (ap (reply_of w s c) (run_is H ∙ ap answered T.is));
      fulfilled = no_type;
    }

-- ---- after the verdict
module _ (t w s : List ℕ) (c : Counters) (root : ℕ) where
  pub host_refused : {e : Refusal} → Err e ≡ lent_reply t w s c → Promise t w s c root w s (Err e)
  unfolding simplify_reply reply_of
  host_refused e = record { answer = ap (reply_of w s c) (lent_refused t w s c (λ (ns : List Name). asks w s root) e); fulfilled = no_type }

  pub host_done : {n : ℕ} {w' s' : List ℕ} {z : Out Simplified} → Ok n ≡ lent_reply t w s c → SimplifiesLent w s c root w' s' z → Promise t w s c root w' s' z
  unfolding simplify_reply
  host_done {n} e I = record {
    answer =
        let L = lent_names t w s c e in
        let o = lent_done t w s c e (asks w s root) {o = asks w s root L.view} (λ k a H. ap (asks w s root) (unique L.holds H)) in
        I.is n L.view L.holds ∙ ap (reply_of w s c) o;
    fulfilled = I.fulfilled;
  }
