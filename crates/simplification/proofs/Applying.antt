-- What `apply` does at one node, in the present arena: a grown arena changes nothing in it.
use Prim.Native.Nat.{ℕ, ◌<◌}
use mathlib.Core.Path.{◌≡◌, refl, sym, ap, ◌∙◌}
use mathlib.Core.Bool.{Bool, true, false}
use mathlib.Core.List.{List, [], Memᴰ as Mem}
use mathlib.Core.Option.{Option, none, some}
use native.Mathlib.Omega.{arith}
use lib.ListN.{length, get_or}
use Rattle.std.specs.Prelude.{Err}
use Rattle.types.specs.declared.refusal.Refusal.TheVariants as refusal
use Rattle.types.specs.Out.{Out, ◌>>=◌}
use Rattle.types.specs.Node.{Polarity, Tag, members, bound, var, neg, form, Node, node, tag, children}
use Rattle.types.specs.Arena.{Arena, at, sound, Ext}
use Rattle.types.specs.Places.{opposite}
use Rattle.types.proofs.Growth.{ext_tail, ext_rec, before, rec_at}
use Rattle.types.proofs.Sound.{sound_ext, child_lower}
use Rattle.node_store.specs.Intern.{intern}
use Rattle.recursion.specs.Jobs.{Job, each, rebuild}
use Rattle.recursion.proofs.Answers.{each_same}
use Rattle.recursion.proofs.Members.{index_of, member_at}
use Rattle.simplification.specs.Pass.{no_variable, remaining, is_decided, member_list, close, list_kind, gather, apply_step, apply}
use Rattle.simplification.proofs.Members.{remaining_from}
use Rattle.simplification.proofs.Rebuilding.{has_member}
use Rattle.simplification.proofs.Becoming.{remaining_kept}

-- ---- kinds of list
pub list_kind_some : (t : Tag) (k : Polarity) → list_kind t ≡ some k → t ≡ members k
list_kind_some (members j) k e = cc
list_kind_some (bound j) k e = let z : ◌≡◌ {A = ℕ} 0 1 = cc in absurd (omega arith)
list_kind_some (var v) k e = let z : ◌≡◌ {A = ℕ} 0 1 = cc in absurd (omega arith)
list_kind_some neg k e = let z : ◌≡◌ {A = ℕ} 0 1 = cc in absurd (omega arith)
list_kind_some (form f) k e = let z : ◌≡◌ {A = ℕ} 0 1 = cc in absurd (omega arith)

module _ (words starts : ℕ) where
  -- an old number is simplified alike
  pub apply_kept : (s a : Arena) → Ext s a → (n : ℕ) → n < length s → apply words starts a n ≡ apply words starts s n
  unfolding apply
  apply_kept = ext_rec (apply_step words starts) (λ R a. Err refusal.NoSuchRoot)

  pub step_other : (s : Arena) (x : Node) (f : ℕ → (ℕ → Bool) → Job) (R : ℕ → Bool) (a : Arena) → list_kind (tag x) ≡ none → apply_step words starts s x f R a ≡ rebuild words starts (tag x) (children x) (λ c. f c R) a
  unfolding apply_step
  step_other s x f R a e = rw (apply_step, e)

  pub step_list : (s : Arena) (x : Node) (f : ℕ → (ℕ → Bool) → Job) (R : ℕ → Bool) (a : Arena) (k : Polarity) → list_kind (tag x) ≡ some k
      → apply_step words starts s x f R a ≡ (each (λ c. f c R) (remaining R s (children x)) a >>= λ r. gather words starts k (f (get_or (children x) 0 0) no_variable) r.0 r.1)
  unfolding apply_step
  step_list s x f R a k e = rw (apply_step, e)

  -- a node's job depends on its children's jobs, and on which of them remain
  step_same : (s z : Arena) (x : Node) (f g : ℕ → (ℕ → Bool) → Job) (R : ℕ → Bool) (a : Arena) → ((c : ℕ) → Mem c (children x) → f c ≡ g c) → remaining R s (children x) ≡ remaining R z (children x)
      → ((k : Polarity) → list_kind (tag x) ≡ some k → 0 < length (children x)) → apply_step words starts s x f R a ≡ apply_step words starts z x g R a
  unfolding rebuild
  step_same s z x f g R a h q nonempty = go (list_kind (tag x)) refl
    where
      go : (o : Option Polarity) → list_kind (tag x) ≡ o → apply_step words starts s x f R a ≡ apply_step words starts z x g R a
      go none e =
          step_other s x f R a e
          ∙ ap (λ (o : Out (List ℕ × Arena)). o >>= λ r. intern words starts (node (tag x) r.0) r.1) (each_same (λ c. f c R) (λ c. g c R) (children x) (λ c k i. h c k i R) a)
          ∙ sym (step_other z x g R a e)
      go (some k) e =
          let first = h (get_or (children x) 0 0) (member_at (children x) 0 (nonempty k e)) in
          let jobs : each (λ c. f c R) (remaining R s (children x)) a ≡ each (λ c. g c R) (remaining R z (children x)) a
          = each_same (λ c. f c R) (λ c. g c R) (remaining R s (children x)) (λ c k i. h c (remaining_from R s (children x) c k) i R) a ∙ ap (λ (cs : List ℕ). each (λ c. g c R) cs a) q in
          step_list s x f R a k e ∙ (λ i. jobs i >>= λ r. gather words starts k (first i no_variable) r.0 r.1) ∙ sym (step_list z x g R a k e)

  pub apply_at : (table : ℕ) (a : Arena) → sound table a ≡ true → (n : ℕ) → n < length a → (R : ℕ → Bool) (b : Arena) → apply words starts a n R b ≡ apply_step words starts a (at a n) (apply words starts a) R b
  unfolding apply
  apply_at table a h n l R b =
      let B = before a n l in
      let e = ext_tail B.ext in
      let low : (c : ℕ) → Mem c (children (at a n)) → c < length B.older = λ c k. let j = index_of k in omega (arith, j.is, B.count, child_lower table a h n l j.index j.inside) in
      (λ i. rec_at (apply_step words starts) (λ R a. Err refusal.NoSuchRoot) a n l i R b)
      ∙ step_same B.older a (at a n) (apply words starts B.older) (apply words starts a) R b
      (λ c k. sym (apply_kept B.older a e c (low c k)))
      (sym (remaining_kept table B.older a (sound_ext table e h) e R (children (at a n)) low))
      (λ k q. has_member table a h n l k (list_kind_some (tag (at a n)) k q))

  -- ---- the members gathered
  module _ (k : Polarity) (first : Job) (ms : List ℕ) (a : Arena) where
    pub gather_decided : is_decided k a ms ≡ true → gather words starts k first ms a ≡ intern words starts (node (bound (opposite k)) []) a
    unfolding gather
    gather_decided e = rw (gather, e)

    pub gather_open : is_decided k a ms ≡ false → gather words starts k first ms a ≡ (member_list k a ms >>= λ (l : List ℕ). close words starts k first l a)
    unfolding gather
    gather_open e = rw (gather, e)
