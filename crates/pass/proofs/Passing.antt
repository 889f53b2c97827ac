-- A pass over the type of a root: the set of one-signed nodes has the variables that the definition removes, and empty caches are right.
use Prim.Native.Nat.{ℕ, ◌<◌}
use mathlib.Core.Path.{◌≡◌, refl, sym, ap, ◌∙◌, subst}
use mathlib.Core.Bool.{Bool, true, false, xor}
use mathlib.Core.List.{List}
use native.Mathlib.Omega.{arith}
use lib.ListN.{length, get_or, replicate, length-replicate}
use Rattle.types.specs.Out.{Out}
use Rattle.types.specs.Node.{Polarity, positive, negative, var, tag}
use Rattle.types.specs.Arena.{Arena, at, sound}
use Rattle.types.specs.Memory.{Holds}
use Rattle.types.specs.declared.Counters.{Counters}
use Rattle.types.proofs.Tests.{true_false, same_truth}
use Rattle.bits.specs.Bits.{has}
use Rattle.node_store.specs.Inner.Stored.{InRange}
use Rattle.walks.specs.Removable.{Removable, OneSigned}
use Rattle.walks.specs.Inner.Sets.{OneSignedIn}
use Rattle.walks.proofs.OneSigns.{one_signed_removable}
use Rattle.recursion.specs.Inner.Hosted.{LeadsOnce, done, stop}
use Rattle.recursion.proofs.Remembering.{zero_at}
use Rattle.simplification.specs.Seen.{sees, one_signed}
use Rattle.simplification.specs.Pass.{pass}
use Rattle.simplification.proofs.Seeing.{seen_occurs, one_signed_only, only_one_signed}
use Rattle.rebuilding.specs.Inner.Children.{Agrees}
use Rattle.pass.specs.Inner.Caches.{entries, Caches}
use Rattle.pass.specs.Inner.Applied.{Leads, Ready, Applies}
use Rattle.pass.specs.Inner.Applied as applied
use Rattle.pass.specs.Inner.Once.{SimplifiesOnce}

-- ---- the set has the nodes of the variables that the definition removes
module _ (table : ℕ) (a : Arena) (h : sound table a ≡ true) (root : ℕ) (l : root < length a) (v : ℕ) where
  -- a one-signed variable is seen somewhere
  signed : one_signed a root v ≡ true → Removable a root v
  unfolding one_signed xor
  signed e = go (sees a root positive v positive) refl (sees a root positive v negative) refl e
    where
      only : (p : Polarity) → sees a root positive v p ≡ true → Removable a root v
      only p x = let O = one_signed_only table a h root l v p e (seen_occurs table a h root l v p x) in record { sign = p; seen = O.there; unseen = O.nowhere_else }

      go : (x : Bool) → sees a root positive v positive ≡ x → (y : Bool) → sees a root positive v negative ≡ y → xor x y ≡ true → Removable a root v
      go true f y g q = only positive f
      go false f true g q = only negative g
      go false f false g q = absurd (true_false (sym q))

  removable_signed : Removable a root v → one_signed a root v ≡ true
  removable_signed M = only_one_signed table a h root l v M.sign (record { there = M.seen; nowhere_else = M.unseen })

  has_signed : (r : List ℕ) → ((u : ℕ) → has r u ≡ true → OneSigned a root u) → ((u : ℕ) → OneSigned a root u → has r u ≡ true) → (u : ℕ) → tag (at a u) ≡ var v → has r u ≡ one_signed a root v
  has_signed r f g u e =
      let I = one_signed_removable table a h root u v e in
      same_truth (has r u) (one_signed a root v) (λ x. removable_signed (I.0 (f u x))) (λ x. g u (I.1 (signed x)))

-- ---- the pass
no_entries : (keep : Bool) → entries keep (replicate 4096 0) (replicate 4096 0) ≡ replicate 4096 0
no_entries true = refl
no_entries false = refl

caches_none : {lw ls : ℕ} {R : ℕ → Bool} {a : Arena} → Caches lw ls R a (replicate 4096 0) (replicate 4096 0)
caches_none = record {
  long = λ keep. ap length (no_entries keep) ∙ length-replicate {A = ℕ} 4096 0;
  hit = λ keep n m e. let z = sym (ap (λ (l : List ℕ). get_or l n 0) (no_entries keep) ∙ zero_at 4096 n) ∙ e in absurd (omega (arith, z));
}

module _ {w s : List ℕ} {c : Counters} {root : ℕ} (P : InRange w s c root) {x : ℕ} (e : x ≡ root) {r : List ℕ} (O : OneSignedIn w s c x r) where
  agrees_once : (table : ℕ) (a : Arena) → Holds table w s c a → Agrees r (one_signed a root) a root
  agrees_once table a H =
      let S = O.is table a H in
      let l : root < length a = omega (arith, P.inside, H.nodes) in
      record { is = λ u v j t. has_signed table a H.good root l v r (λ u y. subst (λ (z : ℕ). OneSigned a z u) e (S.sound u y)) (λ u y. S.complete u (subst (λ (z : ℕ). OneSigned a z u) (sym e) y)) u t }

  pub once_ready : Ready w s c root r (replicate 4096 0) (replicate 4096 0)
  once_ready = let L = P.lent in record {
    table = L.table;
    view = L.view;
    variables = one_signed L.view root;
    holds = L.holds;
    inside = P.inside;
    agrees = agrees_once L.table L.view L.holds;
    caches = caches_none;
  }

  pub once_done : {w' s' dropped kept : List ℕ} {i : Out (ℕ × Counters)} → Applies w s c root r false (replicate 4096 0) (replicate 4096 0) w' s' dropped kept i → SimplifiesOnce w s c root w' s' i
  unfolding pass
  once_done {w'} {s'} {dropped} {kept} {i} A = record { is = λ table a H. led (A.is table a (one_signed a root) H (agrees_once table a H) caches_none) }
    where
      led : {table : ℕ} {a : Arena} {R : ℕ → Bool} {j : Out (ℕ × Counters)} {o : Out (ℕ × Arena)} → Leads table a R w' s' dropped kept j o → LeadsOnce table a w' s' j o
      led (applied.done H E l C) = done H E l
      led (applied.stop S) = stop S
