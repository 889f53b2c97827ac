-- The recursion at one node, and that the cache law holds of it: each of its steps is steady.
use Prim.Native.Nat.{ℕ, ◌<◌, ◌≤◌}
use mathlib.Core.Path.{◌≡◌, refl, sym, ap, ◌∙◌}
use mathlib.Core.Bool.{true}
use mathlib.Core.List.{List, ◌∷◌, Memᴰ as Mem}
use mathlib.Core.Option.{Option, none, some}
use native.Mathlib.Omega.{arith}
use lib.ListN.{length}
use Rattle.std.specs.Prelude.{Err}
use Rattle.types.specs.declared.refusal.Refusal.TheVariants as refusal
use Rattle.types.specs.Node.{var, Node, tag, children}
use Rattle.types.specs.Arena.{Arena, at, sound, here, more}
use Rattle.types.proofs.Growth.{ext_tail, ext_trans, ext_length, ext_rec, before, rec_at}
use Rattle.types.proofs.Sound.{sound_ext, child_lower}
use Rattle.node_store.specs.Intern.{intern}
use Rattle.recursion.specs.Jobs.{Job, rebuild}
use Rattle.recursion.proofs.Answers.{rebuild_same}
use Rattle.recursion.proofs.Members.{index_of}
use Rattle.recursion.specs.Theorems.{Steady, There}
use Rattle.recursion.proofs.Steady.{steady_later, steady_as, intern_steady, rebuild_steady, step_well, step_child, rec_steady}
use Rattle.recursion.proofs.Leading.{Lawful}
use Rattle.renumbering.specs.Renumbered.{index, var_number, var_node, renumber_step, renumbered}
use Rattle.renumbering.specs.Inner.{Numbered}
use Rattle.renumbering.proofs.Indexing.{index_few}
use Rattle.renumbering.proofs.VarNodes.{var_well}

module _ (vars : List ℕ) (words starts : ℕ) where
  step_other : (s : Arena) (x : Node) (f : ℕ → Job) (a : Arena) → var_number (tag x) ≡ none → renumber_step vars words starts s x f a ≡ rebuild words starts (tag x) (children x) f a
  unfolding renumber_step
  step_other s x f a e = rw (renumber_step, e)

  step_var : (s : Arena) (x : Node) (f : ℕ → Job) (a : Arena) (v : ℕ) → var_number (tag x) ≡ some v → renumber_step vars words starts s x f a ≡ intern words starts (var_node (index vars v)) a
  unfolding renumber_step
  step_var s x f a v e = rw (renumber_step, e)

  -- ---- at one node
  module _ (table : ℕ) (u : Arena) (g : sound table u ≡ true) (n : ℕ) (l : n < length u) (b : Arena) where
    at_step : renumbered vars words starts u n b ≡ renumber_step vars words starts (before u n l).older (at u n) (renumbered vars words starts (before u n l).older) b
    unfolding renumbered
    at_step = λ i. rec_at (renumber_step vars words starts) (λ a. Err refusal.NoSuchRoot) u n l i b

    pub at_var : (v : ℕ) → tag (at u n) ≡ var v → renumbered vars words starts u n b ≡ intern words starts (var_node (index vars v)) b
    at_var v e = at_step ∙ step_var (before u n l).older (at u n) (renumbered vars words starts (before u n l).older) b v (ap var_number e)

    pub at_other : var_number (tag (at u n)) ≡ none → renumbered vars words starts u n b ≡ rebuild words starts (tag (at u n)) (children (at u n)) (renumbered vars words starts u) b
    unfolding renumbered
    at_other e =
        let B = before u n l in
        let low : (c : ℕ) → Mem c (children (at u n)) → c < length B.older = λ c k. let j = index_of k in omega (arith, j.is, B.count, child_lower table u g n l j.index j.inside) in
        at_step ∙ step_other B.older (at u n) (renumbered vars words starts B.older) b e
        ∙ rebuild_same words starts (tag (at u n)) (renumbered vars words starts B.older) (renumbered vars words starts u) (children (at u n)) (λ c k. sym (ext_rec (renumber_step vars words starts) (λ a. Err refusal.NoSuchRoot) B.older u (ext_tail B.ext) c (low c k))) b

  -- ---- steady
  module _ (table : ℕ) (few : starts ≤ 4096) (short : length vars ≤ 4096) where
    step_steady : (x : Node) (s : Arena) (f : ℕ → Job) → sound table (x ∷ s) ≡ true → ((c : ℕ) → c < length s → (i : Unit {0}) → Steady table s There (f c)) → (i : Unit {0}) → Steady table (x ∷ s) There (renumber_step vars words starts s x f)
    step_steady x s f g h i = go (var_number (tag x)) refl
      where
        go : (o : Option ℕ) → var_number (tag x) ≡ o → Steady table (x ∷ s) There (renumber_step vars words starts s x f)
        go none e =
            steady_as (renumber_step vars words starts s x f) (rebuild words starts (tag x) (children x) f) (λ b y. step_other s x f b e)
            (rebuild_steady words starts table few (x ∷ s) (length s) (tag x) (children x) f (step_well table x s g) (λ c k. steady_later (more x here) (h c (step_child table x s g c k) i)))
        go (some v) e =
            steady_as (renumber_step vars words starts s x f) (intern words starts (var_node (index vars v))) (λ b y. step_var s x f b v e)
            (intern_steady words starts table few (x ∷ s) (var_node (index vars v)) (λ b y k. var_well table (length b) (index vars v) (omega (arith, short, index_few vars v))))

    pub renumbered_steady : (u : Arena) → sound table u ≡ true → (n : ℕ) → n < length u → Steady table u There (renumbered vars words starts u n)
    unfolding renumbered
    renumbered_steady u g n l = rec_steady table table (λ (v : Job) (i : Unit {0}). v) (renumber_step vars words starts) (λ a. Err refusal.NoSuchRoot) (λ (s : Arena). s) (λ x s. more x here) step_steady u g n l tt

pub lawful : {vars : List ℕ} → Lawful (renumbered vars) (Numbered vars)
lawful {vars} = record {
  later = λ N e. record { grown = ext_trans N.grown e; few = N.few };
  few = λ {table} {u} {a} N l. omega (arith, l, ext_length u a N.grown);
  steady = λ words starts table few u a N g n l. steady_later N.grown (renumbered_steady vars words starts table few N.few u (sound_ext table N.grown g) n l);
}
