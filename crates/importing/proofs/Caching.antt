-- The recursion at one node, and its cache law: the children are imported as they were, and then the node is found. The target begins with nothing of the source.
use Prim.Native.Nat.{ℕ, ◌<◌, ◌≤◌}
use mathlib.Core.Path.{◌≡◌, refl, sym, ◌∙◌}
use mathlib.Core.Bool.{Bool, true, false, ◌||◌}
use mathlib.Core.List.{List, [], ◌∷◌, Memᴰ as Mem, map}
use mathlib.Core.Option.{Option}
use native.Mathlib.Omega.{arith}
use lib.ListN.{length}
use Rattle.std.specs.Prelude.{Err}
use Rattle.types.specs.declared.refusal.Refusal.TheVariants as refusal
use Rattle.types.specs.Node.{Tag, Node, tag, children, names}
use Rattle.types.specs.Arena.{Arena, at, sound, here}
use Rattle.types.specs.declared.Counters.{Counters}
use Rattle.types.proofs.Tests.{neither}
use Rattle.types.proofs.Addresses.{start_room}
use Rattle.types.proofs.Growth.{before, ext_tail, ext_rec, rec_at}
use Rattle.types.proofs.Sound.{child_lower, fold_at}
use Rattle.walks.specs.Reach.{some_of}
use Rattle.recursion.specs.Jobs.{Job, rebuild}
use Rattle.recursion.specs.Theorems.{Steady, There}
use Rattle.recursion.proofs.Answers.{rebuild_same}
use Rattle.recursion.proofs.Members.{index_of}
use Rattle.recursion.proofs.Steady.{ext_empty, steady_later, steady_as, refusal_steady, rebuild_steady, step_well, step_child, rec_steady}
use Rattle.recursion.proofs.Leading.{Lawful}
use Rattle.importing.specs.Import.{renamed, lacks_one, lacks, import_step, import_node}
use Rattle.importing.specs.Inner.Names.{by_map, Numbering}
use Rattle.importing.specs.Inner.Nodes.{Foreign}
use Rattle.importing.proofs.Renaming.{renamed_well}

module _ (f : ℕ → Option ℕ) where
  -- a node lacks a name of its own, or one of its children does
  pub lacks_at : (own : ℕ) (u : Arena) → sound own u ≡ true → (n : ℕ) → n < length u → lacks f u n ≡ (lacks_one f (names (tag (at u n))) || some_of (map (lacks f u) (children (at u n))))
  unfolding lacks
  lacks_at own u g n l = fold_at (λ (t : Tag) (bs : List Bool). lacks_one f (names t) || some_of bs) own u g n l

  pub lacks_none : (own : ℕ) (u : Arena) → sound own u ≡ true → (n : ℕ) → n < length u → lacks f u n ≡ false → lacks_one f (names (tag (at u n))) ≡ false
  lacks_none own u g n l e = (neither (lacks_one f (names (tag (at u n)))) _ (sym (lacks_at own u g n l) ∙ e)).0

  module _ (words starts : ℕ) where
    step_lacks : (s : Arena) (x : Node) (g : ℕ → Job) (a : Arena) → lacks_one f (names (tag x)) ≡ true → import_step f words starts s x g a ≡ Err refusal.NameAbsent
    unfolding import_step
    step_lacks s x g a e = rw (import_step, e)

    step_named : (s : Arena) (x : Node) (g : ℕ → Job) (a : Arena) → lacks_one f (names (tag x)) ≡ false → import_step f words starts s x g a ≡ rebuild words starts (renamed f (tag x)) (children x) g a
    unfolding import_step
    step_named s x g a e = rw (import_step, e)

    -- ---- at one node
    pub import_at : (own : ℕ) (u : Arena) → sound own u ≡ true → (n : ℕ) → n < length u → lacks_one f (names (tag (at u n))) ≡ false → (b : Arena)
        → import_node f words starts u n b ≡ rebuild words starts (renamed f (tag (at u n))) (children (at u n)) (import_node f words starts u) b
    unfolding import_node
    import_at own u g n l e b =
        let B = before u n l in
        let low : (c : ℕ) → Mem c (children (at u n)) → c < length B.older = λ c k. let j = index_of k in omega (arith, j.is, B.count, child_lower own u g n l j.index j.inside) in
        (λ i. rec_at (import_step f words starts) (λ a. Err refusal.NoSuchRoot) u n l i b)
        ∙ step_named B.older (at u n) (import_node f words starts B.older) b e
        ∙ rebuild_same words starts (renamed f (tag (at u n))) (import_node f words starts B.older) (import_node f words starts u) (children (at u n)) (λ c k. sym (ext_rec (import_step f words starts) (λ a. Err refusal.NoSuchRoot) B.older u (ext_tail B.ext) c (low c k))) b

    -- ---- the cache law
    module _ (own table : ℕ) (N : Numbering f table) (few : starts ≤ 4096) where
      step_steady : (x : Node) (s : Arena) (g : ℕ → Job) → sound own (x ∷ s) ≡ true → ((c : ℕ) → c < length s → Steady table [] There (g c)) → Steady table [] There (import_step f words starts s x g)
      step_steady x s g h k = go (lacks_one f (names (tag x))) refl
        where
          go : (b : Bool) → lacks_one f (names (tag x)) ≡ b → Steady table [] There (import_step f words starts s x g)
          go true e = steady_as (import_step f words starts s x g) (λ a. Err refusal.NameAbsent) (λ a _. step_lacks s x g a e) (refusal_steady refusal.NameAbsent)
          go false e =
              steady_as (import_step f words starts s x g) (rebuild words starts (renamed f (tag x)) (children x) g) (λ a _. step_named s x g a e)
              (rebuild_steady words starts table few [] (length s) (renamed f (tag x)) (children x) g (renamed_well f N own (length s) (tag x) (children x) (step_well own x s h) e) (λ c m. k c (step_child own x s h c m)))

      pub import_steady : (u : Arena) → sound own u ≡ true → (n : ℕ) → n < length u → Steady table [] There (import_node f words starts u n)
      unfolding import_node
      import_steady u g n l = rec_steady own table {Y = Job} {I = ℕ} (λ j i. j) (import_step f words starts) (λ a. Err refusal.NoSuchRoot) (λ s. []) (λ x s. here) (λ x s h e k i. step_steady x s h e (λ c m. k c m i)) u g n l 0

pub import_lawful : {ks w s : List ℕ} {c : Counters} → Lawful (import_node (by_map ks)) (Foreign ks w s c)
import_lawful {ks} = record {
  later = λ Q e. record { own = Q.own; holds = Q.holds; long = Q.long; numbering = Q.numbering };
  few = λ Q l. omega (arith, start_room Q.holds, Q.holds.few_starts, Q.holds.nodes);
  steady = λ words starts table few u a Q g n l. steady_later (ext_empty a) (import_steady (by_map ks) words starts Q.own table Q.numbering few u Q.holds.good n l);
}
