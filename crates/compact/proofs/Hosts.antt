-- The refusals in their order: the source's 1 and 2, the target's 2, then 6. They leave the target as lent.
use Prim.Native.Nat.{ℕ, ◌<◌, ◌≤◌}
use mathlib.Core.Path.{◌≡◌, sym, ap, ◌∙◌}
use mathlib.Core.Bool.{true, false}
use mathlib.Core.List.{List}
use native.Mathlib.Omega.{arith}
use lib.ListN.{length}
use lib.Dec.{ltb}
use borrow.Author.Tests.{ltb-false}
use Rattle.std.specs.Prelude.{Ok, Err}
use Rattle.types.specs.declared.refusal.Refusal.{Refusal}
use Rattle.types.specs.declared.refusal.Refusal.TheVariants as refusal
use Rattle.types.specs.Out.{Out}
use Rattle.types.specs.Arena.{Arena}
use Rattle.types.specs.Reply.{rooted}
use Rattle.types.specs.declared.Counters.{Counters}
use Rattle.types.proofs.Tests.{neither}
use Rattle.types.proofs.Memories.{unique}
use Rattle.types.proofs.Replies.{rooted_no, rooted_yes}
use Rattle.names.specs.Table.{Name}
use Rattle.node_store.specs.Inner.Stored.{Lent}
use Rattle.soundness.specs.Inner.Sound.{lent_reply}
use Rattle.soundness.proofs.Verdicts.{lent_names, lent_refused, lent_done}
use Rattle.compact.specs.Compact.{over_limit, limited, source, compacted, compact_reply, left}
use Rattle.compact.specs.Inner.{ClearReady, CompactsCleared, CompactsLent}
use Rattle.compact.specs.declared.Compacted.{Compacted}

-- ---- the target's limits, then 6
module _ {A : Type 0} (tw ts : List ℕ) (o : Out A) where
  over : over_limit tw ts ≡ true → limited tw ts o ≡ Err refusal.UnsoundArena
  unfolding limited
  over h = rw (limited, h)

  within : over_limit tw ts ≡ false → limited tw ts o ≡ o
  unfolding limited
  within h = rw (limited, h)

pub clear_ready : {w s : List ℕ} {c : Counters} {root : ℕ} {tw ts : List ℕ} → Lent w s c → over_limit tw ts ≡ false → {x : ℕ} → x ≡ root → x < c.nodes → ClearReady w s c root tw ts
clear_ready {tw = tw} {ts} L h e l =
    let p = neither (ltb 16384 (length tw)) (ltb 4096 (length ts)) h in
    record { range = record { lent = L; inside = omega (arith, e, l) }; few_words = ltb-false 16384 (length tw) p.0; few_starts = ltb-false 4096 (length ts) p.1 }

module _ {w s : List ℕ} {c : Counters} {root : ℕ} {tw ts : List ℕ} {d : Counters} where
  refused_so : (e : Refusal) → ((u : Arena) → length u ≡ c.nodes → limited tw ts (rooted root Ok u) ≡ Err e) → CompactsLent w s c root tw ts d tw ts (record { answer = Err e; counters = d })
  unfolding compacted
  refused_so e f = record { is = λ table u H. sym (ap (compacted root tw ts d) (f u (sym H.nodes))) }

  pub lent_over : over_limit tw ts ≡ true → CompactsLent w s c root tw ts d tw ts (record { answer = Err refusal.UnsoundArena; counters = d })
  lent_over h = refused_so refusal.UnsoundArena (λ u e. over tw ts (rooted root Ok u) h)

  module _ (h : over_limit tw ts ≡ false) {x : ℕ} (e : x ≡ root) where
    pub no_root : c.nodes ≤ x → CompactsLent w s c root tw ts d tw ts (record { answer = Err refusal.NoSuchRoot; counters = d })
    no_root l = refused_so refusal.NoSuchRoot (λ u q. within tw ts (rooted root Ok u) h ∙ rooted_no root Ok u (omega (arith, e, l, q)))

    pub lent_cleared : x < c.nodes → {tw' ts' : List ℕ} {r : Compacted} → CompactsCleared w s c root tw ts tw' ts' r → CompactsLent w s c root tw ts d tw' ts' r
    unfolding compacted
    lent_cleared l C = record { is = λ table u H. C.is table u H ∙ sym (ap (compacted root tw ts d) (within tw ts (rooted root Ok u) h ∙ rooted_yes root Ok u (omega (arith, e, l, H.nodes)))) }

-- ---- after the verdict
abbrev asks : ℕ → List ℕ → List ℕ → Arena → Out Arena
asks root tw ts u = limited tw ts (rooted root Ok u)

module _ (t w s : List ℕ) (c : Counters) (root : ℕ) (tw ts : List ℕ) (d : Counters) where
  pub host_refused : {e : Refusal} → Err e ≡ lent_reply t w s c → left (record { answer = Err e; counters = d }) tw ts ≡ compact_reply t w s c root tw ts d
  unfolding compact_reply source compacted
  host_refused e = ap (compacted root tw ts d) (lent_refused t w s c (λ (ns : List Name). asks root tw ts) e)

  pub host_done : {n : ℕ} {tw' ts' : List ℕ} {z : Compacted} → Ok n ≡ lent_reply t w s c → CompactsLent w s c root tw ts d tw' ts' z → left z tw' ts' ≡ compact_reply t w s c root tw ts d
  unfolding compact_reply source
  host_done {n} e I =
      let L = lent_names t w s c e in
      let o = lent_done t w s c e (asks root tw ts) {o = asks root tw ts L.view} (λ k a H. ap (asks root tw ts) (unique L.holds H)) in
      I.is n L.view L.holds ∙ ap (compacted root tw ts d) o
