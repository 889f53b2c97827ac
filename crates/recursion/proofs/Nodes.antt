-- A node that is rebuilt: its children in turn, then the node with what they became.
use Prim.Native.Nat.{ℕ, ◌<◌}
use mathlib.Core.Path.{◌≡◌, sym, ap, ◌∙◌, subst}
use mathlib.Core.List.{List}
use lib.ListN.{length, take}
use Rattle.std.specs.Prelude.{Ok, Err}
use Rattle.types.specs.declared.refusal.Refusal.{Refusal}
use Rattle.types.specs.Out.{Out, ◌>>=◌}
use Rattle.types.specs.Node.{Tag, node, tag, children}
use Rattle.types.specs.Arena.{Arena, at, here}
use Rattle.types.specs.Memory.{Holds}
use Rattle.types.specs.Reply.{reply_of}
use Rattle.types.specs.declared.Counters.{Counters}
use Rattle.node_store.specs.Intern.{intern, left}
use Rattle.node_store.proofs.Interning.{done, done_ext}
use Rattle.recursion.specs.Jobs.{Job, each, rebuild}
use Rattle.recursion.specs.Inner.Cache.{Cache}
use Rattle.recursion.specs.Inner.Work.{Recursion, Relation, Leads, Does, DoesEach}
use Rattle.recursion.proofs.Leading.{Lawful, stop_leads, EachDone, each_done, each_stop, reply_leads}

-- the definition rebuilds node n of the source, with what `remade` makes of its tag, and the items are its children
pub record Rebuilt (F : Recursion) (B : Relation) (remade : Tag → Tag) (w s : List ℕ) (c : Counters) (n : ℕ) (items : List ℕ) (count : ℕ) : Type 0 where
  pub kids : (table : ℕ) (u a : Arena) → Holds table w s c a → B table u a → n < length u → take count items ≡ children (at u n)
  pub step : (table : ℕ) (u a : Arena) → Holds table w s c a → B table u a → n < length u → (b : Arena) → F (length w) (length s) u n b ≡ rebuild (length w) (length s) (remade (tag (at u n))) (children (at u n)) (F (length w) (length s) u) b

-- the answer is that of interning the node so
pub record InternsAs (B : Relation) (remade : Tag → Tag) (w s : List ℕ) (c : Counters) (n : ℕ) (items : List ℕ) (count : ℕ) (w' s' : List ℕ) (r : Out (ℕ × Counters)) : Type 0 where
  pub is : (table : ℕ) (u a : Arena) → Holds table w s c a → B table u a → n < length u → left c r w' s' ≡ reply_of w s c (intern (length w) (length s) (node (remade (tag (at u n))) (take count items)) a)

module _ {F : Recursion} {B : Relation} {remade : Tag → Tag} (L : Lawful F B) {w s : List ℕ} {c : Counters} {n : ℕ} {entries items : List ℕ} {count : ℕ} (K : Rebuilt F B remade w s c n items count)
    {w' s' items' entries' : List ℕ} {g : Out Counters} (E : DoesEach F B w s c n items count entries w' s' items' entries' g) where
  -- the run, in one arena
  module _ {table : ℕ} {u a : Arena} (H : Holds table w s c a) (Q : B table u a) (l : n < length u) where
    f : ℕ → Job
    f = F (length w) (length s) u

    whole : f n a ≡ (each f (take count items) a >>= λ (q : List ℕ × Arena). intern (length w) (length s) (node (remade (tag (at u n))) q.0) q.1)
    unfolding rebuild f
    whole = K.step table u a H Q l a ∙ ap (λ (cs : List ℕ). each f cs a >>= λ (q : List ℕ × Arena). intern (length w) (length s) (node (remade (tag (at u n))) q.0) q.1) (sym (K.kids table u a H Q l))

    ended : Cache f (length u) a entries → {d : Counters} → g ≡ Ok d → EachDone table a f (length u) w' s' entries' items' count d (each f (take count items) a)
    unfolding f
    ended C q = each_done (E.is table u a H Q l C) q

  pub node_refused : {v : Refusal} → g ≡ Err v → Does F B w s c n entries w' s' entries' (Err v)
  unfolding ◌>>=◌ f
  node_refused {v} p = record {
    is = λ table u a H Q l C.
        let S = each_stop (E.is table u a H Q l C) p in
        let o = whole H Q l ∙ ap (λ (z : Out (List ℕ × Arena)). z >>= λ (y : List ℕ × Arena). intern (length w) (length s) (node (remade (tag (at u n))) y.0) y.1) S.is in
        stop_leads (record { is = o; stands = S.stands });
  }

  pub node_done : {d : Counters} → g ≡ Ok d → {w'' s'' : List ℕ} {i : Out (ℕ × Counters)} → InternsAs B remade w' s' d n items' count w'' s'' i → length w' ≡ length w → length s' ≡ length s → length w'' ≡ length w' → length s'' ≡ length s'
      → Does F B w s c n entries w'' s'' entries' i
  unfolding ◌>>=◌ f
  node_done q {w''} {s''} {i} A lw ls lw' ls' = record {
    is = λ table u a H Q l C.
        let D = ended H Q l C q in
        let x = node (remade (tag (at u n))) (take count items') in
        let pw = sym lw in
        let ps = sym ls in
        let o : F (length w) (length s) u n a ≡ intern (length w') (length s') x D.arena =
        whole H Q l ∙ ap (λ (z : Out (List ℕ × Arena)). z >>= λ (y : List ℕ × Arena). intern (length w) (length s) (node (remade (tag (at u n))) y.0) y.1) D.is ∙ (λ z. intern (pw z) (ps z) x D.arena) in
        subst (Leads table a (F (length w) (length s) u) (length u) w'' s'' entries' i) (sym o)
        (reply_leads L i (intern (length w') (length s') x D.arena) H.few_starts D.holds D.ext (L.later Q D.ext) D.cache lw' ls'
        (λ m b p.
        let S = (L.steady (length w) (length s) table H.few_starts u a Q H.good n l).is a b m here H.good (o ∙ p) in
        record { ext = done_ext (done (length w') (length s') x D.arena m b p); good = S.good; low = S.inside })
        (A.is table u D.arena D.holds (L.later Q D.ext) l));
  }
