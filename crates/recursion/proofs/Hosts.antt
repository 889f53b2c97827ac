-- A call open to a host, over the work: its refusals, and that a refused run is taken back.
use Prim.Native.Nat.{ℕ, ◌-◌, ◌<◌, ◌≤◌}
use mathlib.Core.Path.{◌≡◌, sym, ap, ◌∙◌, subst}
use mathlib.Core.List.{List, ◌++◌}
use native.Mathlib.Omega.{arith}
use lib.ListN.{length, take, replicate}
use Rattle.std.specs.Prelude.{Ok, Err}
use Rattle.types.specs.declared.refusal.Refusal.TheVariants as refusal
use Rattle.types.specs.declared.refusal.Refusal.{Refusal}
use Rattle.types.specs.Out.{Out}
use Rattle.types.specs.Arena.{Arena}
use Rattle.types.specs.Memory.{flat, heads, words_of, starts_of, counters_of, Holds}
use Rattle.types.specs.Reply.{Reply, reply, reply_of, rooted}
use Rattle.types.specs.declared.Counters.{Counters}
use Rattle.types.proofs.Refusals.{ok_pair}
use Rattle.types.proofs.Memories.{unique}
use Rattle.types.proofs.Addresses.{length_heads}
use Rattle.types.proofs.Replies.{rooted_no, rooted_yes}
use Rattle.names.specs.Table.{Name}
use Rattle.soundness.specs.Inner.Sound.{lent_reply}
use Rattle.node_store.specs.Intern.{left}
use Rattle.soundness.proofs.Verdicts.{lent_names, lent_refused, lent_done}
use Rattle.recursion.specs.Inner.Work.{Stands, TakesBackNodes}
use Rattle.recursion.specs.Hosted.{Work, work_reply}
use Rattle.recursion.specs.Inner.Hosted.{LeadsOnce, done, stop, Works, WorksLent}
use Rattle.recursion.proofs.Leading.{Stopped}

-- ---- outcomes taken apart
pub record Finished (table : ℕ) (w s : List ℕ) (n : ℕ) (d : Counters) (o : Out (ℕ × Arena)) : Type 0 where
  pub arena : Arena
  pub is : o ≡ Ok (n, arena)
  pub holds : Holds table w s d arena

module _ {table : ℕ} {a : Arena} {w s : List ℕ} where
  pub finished : {r : Out (ℕ × Counters)} {o : Out (ℕ × Arena)} {n : ℕ} {d : Counters} → LeadsOnce table a w s r o → r ≡ Ok (n, d) → Finished table w s n d o
  finished {n = n} {d = d} (done {m = m} {d = f} {b = b} H E l) e =
      let (x, y) = ok_pair e in
      record { arena = b; is = ap (λ (i : ℕ). Ok (i, b)) x; holds = subst (λ (g : Counters). Holds table w s g b) y H }
  finished (stop S) e = let z : ◌≡◌ {A = ℕ} 0 1 = cc in absurd (omega arith)

  pub stopped : {r : Out (ℕ × Counters)} {o : Out (ℕ × Arena)} {x : Refusal} → LeadsOnce table a w s r o → r ≡ Err x → Stopped a w s x o
  stopped (done H E l) e = let z : ◌≡◌ {A = ℕ} 0 1 = cc in absurd (omega arith)
  stopped {x = x} (stop {e = y} S) e = let p : y ≡ x = cc in record { is = ap Err p; stands = S }

-- ---- what a run leaves in memory of the same length
module _ {A : Type 0} (w s : List ℕ) (c : Counters) {w' s' : List ℕ} (lw : length w' ≡ length w) (ls : length s' ≡ length s) where
  -- finished, it is the reply of the arena that memory holds
  pub held_reply : {table : ℕ} {d : Counters} {b : Arena} → Holds table w' s' d b → (v : A) → reply (Ok v) d w' s' ≡ reply_of w s c (Ok (v, b))
  unfolding reply_of
  held_reply {table} {d} {b} H v =
      let cd : d ≡ counters_of b = λ i. record { nodes = H.nodes i; words = H.total i } in
      let ww : w' ≡ words_of (length w) b = H.words ∙ ap (λ (i : ℕ). words_of i b) lw in
      let ss : s' ≡ starts_of (length s) b = H.starts ∙ ap (λ (i : ℕ). starts_of i b) ls in
      λ i. reply (Ok v) (cd i) (ww i) (ss i)

  -- refused and taken back, memory is as lent
  pub back_reply : {table : ℕ} {a : Arena} {w'' s'' : List ℕ} → Holds table w s c a → Stands w' s' a → TakesBackNodes w' s' c w'' s'' → (u : Refusal) → ◌≡◌ {A = Reply A} (reply (Err u) c w'' s'') (reply_of w s c (Err u))
  unfolding reply_of
  back_reply {table} {a} {w''} {s''} H S B u =
      let ww : w'' ≡ w = B.words.is ∙ (λ i. take (H.total i) w' ++ replicate (lw i - H.total i) 0) ∙ ap (λ (l : List ℕ). l ++ replicate (length w - length (flat a)) 0) S.words ∙ sym H.words in
      let hs : length (heads a) ≡ length a = length_heads a in
      let ss : s'' ≡ s = B.starts.is ∙ (λ i. take (H.nodes i) s' ++ replicate (ls i - H.nodes i) 0) ∙ ap (λ (l : List ℕ). l ++ replicate (length s - length a) 0) S.starts ∙ ap (λ (k : ℕ). heads a ++ replicate (length s - k) 0) (sym hs) ∙ sym H.starts in
      λ i. reply (Err u) c (ww i) (ss i)

-- ---- 6, and the run
module _ {f : Work} {w s : List ℕ} {c : Counters} {root x : ℕ} (e : x ≡ root) where
  pub no_root : c.nodes ≤ x → WorksLent f w s c root w s (Err refusal.NoSuchRoot)
  unfolding reply_of
  no_root h = record { is = λ table a H. sym (ap (reply_of w s c) (rooted_no root (f (length w) (length s) root) a (omega (arith, e, h, H.nodes)))) }

  module _ (h : x < c.nodes) {w' s' : List ℕ} {r : Out (ℕ × Counters)} (S : Works f w s c root w' s' r) where
    run_is : {table : ℕ} {a : Arena} → Holds table w s c a → rooted root (f (length w) (length s) root) a ≡ f (length w) (length s) root a
    run_is {a = a} H = rooted_yes root (f (length w) (length s) root) a (omega (arith, e, h, H.nodes))

    pub run_done : {v : ℕ × Counters} → r ≡ Ok v → length w' ≡ length w → length s' ≡ length s → WorksLent f w s c root w' s' r
    run_done {v} q lw ls = record {
      is = λ table a H.
          let F = finished (S.is table a H) q in
          ap (λ (z : Out (ℕ × Counters)). left c z w' s') q ∙ held_reply w s c lw ls F.holds v.0 ∙ sym (ap (reply_of w s c) (run_is H ∙ F.is));
    }

    pub run_stopped : {u : Refusal} → r ≡ Err u → {w'' s'' : List ℕ} → TakesBackNodes w' s' c w'' s'' → length w' ≡ length w → length s' ≡ length s → WorksLent f w s c root w'' s'' (Err u)
    run_stopped {u} q B lw ls = record {
      is = λ table a H.
          let T = stopped (S.is table a H) q in
          back_reply w s c lw ls H T.stands B u ∙ sym (ap (reply_of w s c) (run_is H ∙ T.is));
    }

-- ---- after 1 and 2
abbrev asks : Work → List ℕ → List ℕ → ℕ → Arena → Out (ℕ × Arena)
asks f w s root = rooted root (f (length w) (length s) root)

module _ (f : Work) (t w s : List ℕ) (c : Counters) (root : ℕ) where
  pub host_refused : {e : Refusal} → Err e ≡ lent_reply t w s c → left c (Err e) w s ≡ work_reply f t w s c root
  unfolding work_reply reply_of
  host_refused e = ap (reply_of w s c) (lent_refused t w s c (λ (ns : List Name). asks f w s root) e)

  pub host_done : {n : ℕ} {w' s' : List ℕ} {z : Out (ℕ × Counters)} → Ok n ≡ lent_reply t w s c → WorksLent f w s c root w' s' z → left c z w' s' ≡ work_reply f t w s c root
  unfolding work_reply
  host_done {n} e I =
      let L = lent_names t w s c e in
      let o = lent_done t w s c e (asks f w s root) {o = asks f w s root L.view} (λ k a H. ap (asks f w s root) (unique L.holds H)) in
      I.is n L.view L.holds ∙ ap (reply_of w s c) o
