-- A cache changes neither answer nor arena: what `apply` answered once it answers again in every later arena, and it adds nothing then.
-- Each step of `apply` is steady, so the cache law of `recursion` holds of it.
use Prim.Native.Nat.{ℕ, ◌<◌, ◌≤◌}
use mathlib.Core.Path.{◌≡◌, refl, ap, ◌∙◌, subst}
use mathlib.Core.Bool.{Bool, true, false}
use mathlib.Core.List.Memᴰ.{head}
use mathlib.Core.List.{List, [], ◌∷◌, Memᴰ as Mem}
use mathlib.Core.Option.{Option, none, some}
use native.Mathlib.Omega.{arith}
use lib.ListN.{length, get_or}
use Rattle.std.specs.Prelude.{Ok, Err}
use Rattle.types.specs.declared.refusal.Refusal.TheVariants as refusal
use Rattle.types.specs.Out.{Out, ◌>>=◌}
use Rattle.types.specs.Node.{Polarity, Tag, members, bound, Node, node, tag, children, formed}
use Rattle.types.specs.Arena.{Arena, sound, Ext, here, more}
use Rattle.types.specs.Places.{opposite}
use Rattle.types.proofs.Lists.{below_at, below_more}
use Rattle.types.proofs.Decodes.{well_parts}
use Rattle.types.proofs.Growth.{ext_trans, ext_length}
use Rattle.node_store.specs.Intern.{intern}
use Rattle.recursion.specs.Jobs.{Job, each, rebuild}
use Rattle.recursion.proofs.Members.{index_of, member_at, member_below}
use Rattle.recursion.specs.Theorems.{Steady, There}
use Rattle.recursion.proofs.Steady.{steady_later, steady_as, refusal_steady, answer_steady, then_steady, each_steady, intern_steady, rebuild_steady, step_well, step_child, rec_steady}
use Rattle.simplification.specs.Pass.{no_variable, remaining, is_decided, member_list, list_kind, close, gather, apply_step, apply}
use Rattle.simplification.specs.Theorems.{CacheLaw}
use Rattle.simplification.proofs.Members.{remaining_from}
use Rattle.simplification.proofs.Copies.{listed}
use Rattle.simplification.proofs.Becoming.{Inside, brought_inside, decided_kept, listed_kept}
use Rattle.simplification.proofs.Rebuilding.{formed_list, list_well, bound_well}
use Rattle.simplification.proofs.Applying.{list_kind_some, step_other, step_list, apply_kept, gather_decided, gather_open}

module _ (words starts table : ℕ) (few : starts ≤ 4096) where
  -- members that are there, gathered
  module _ (a : Arena) (g : sound table a ≡ true) (k : Polarity) (first : Job) (S : Steady table a There first) (ms : List ℕ) (inside : Inside a ms) where
    close_steady : (l : List ℕ) → member_list k a ms ≡ Ok l → Steady table a There (close words starts k first l)
    unfolding close
    close_steady [] e = S
    close_steady (m ∷ []) e = answer_steady a m (λ b x. omega (arith, brought_inside table a g k ms inside (m ∷ []) e m (head refl), ext_length a b x))
    close_steady (m ∷ n ∷ l) e =
        intern_steady words starts table few a (node (members k) (m ∷ n ∷ l))
        (λ b x f. list_well table (length b) f k (m ∷ n ∷ l) (omega arith) (listed k a ms (m ∷ n ∷ l) e).few
        (below_more (length a) (length b) (m ∷ n ∷ l) (ext_length a b x) (member_below (length a) (m ∷ n ∷ l) (brought_inside table a g k ms inside (m ∷ n ∷ l) e))))

    -- what is gathered in a later arena
    opened : is_decided k a ms ≡ false → {o : Out (List ℕ)} → member_list k a ms ≡ o → (b : Arena) → Ext a b → gather words starts k first ms b ≡ (o >>= λ (l : List ℕ). close words starts k first l b)
    opened d e b x =
        gather_open words starts k first ms b (decided_kept table a b g x k ms inside ∙ d) ∙ ap (λ (o : Out (List ℕ)). o >>= λ (l : List ℕ). close words starts k first l b) (listed_kept table a b g x k ms inside ∙ e)

    open_steady : is_decided k a ms ≡ false → (o : Out (List ℕ)) → member_list k a ms ≡ o → Steady table a There (gather words starts k first ms)
    unfolding ◌>>=◌
    open_steady d (Ok l) e = steady_as (gather words starts k first ms) (close words starts k first l) (opened d e) (close_steady l e)
    open_steady d (Err n) e = steady_as (gather words starts k first ms) (λ (b : Arena). Err n) (opened d e) (refusal_steady n)

    gather_steady : Steady table a There (gather words starts k first ms)
    gather_steady = go (is_decided k a ms) refl
      where
        go : (d : Bool) → is_decided k a ms ≡ d → Steady table a There (gather words starts k first ms)
        go true d =
            steady_as (gather words starts k first ms) (intern words starts (node (bound (opposite k)) [])) (λ b x. gather_decided words starts k first ms b (decided_kept table a b g x k ms inside ∙ d))
            (intern_steady words starts table few a (node (bound (opposite k)) []) (λ b x f. bound_well table (length b) (opposite k)))
        go false d = open_steady d (member_list k a ms) refl

  -- one step
  module _ (x : Node) (s : Arena) (f : ℕ → (ℕ → Bool) → Job) (g : sound table (x ∷ s) ≡ true) (h : (c : ℕ) → c < length s → (R : ℕ → Bool) → Steady table s There (f c R)) (R : ℕ → Bool) where
    child : (R : ℕ → Bool) (c : ℕ) → Mem c (children x) → Steady table (x ∷ s) There (f c R)
    child R c i = steady_later (more x here) (h c (step_child table x s g c i) R)

    step_steady : Steady table (x ∷ s) There (apply_step words starts s x f R)
    step_steady = go (list_kind (tag x)) refl
      where
        go : (o : Option Polarity) → list_kind (tag x) ≡ o → Steady table (x ∷ s) There (apply_step words starts s x f R)
        go none e =
            steady_as (apply_step words starts s x f R) (rebuild words starts (tag x) (children x) (λ c. f c R)) (λ b y. step_other words starts s x f R b e)
            (rebuild_steady words starts table few (x ∷ s) (length s) (tag x) (children x) (λ c. f c R) (step_well table x s g) (child R))
        go (some k) e =
            let first = f (get_or (children x) 0 0) no_variable in
            let S = child no_variable (get_or (children x) 0 0) (member_at (children x) 0 (formed_list k (children x) (subst (λ (t : Tag). formed (node t (children x)) ≡ true) (list_kind_some (tag x) k e) (well_parts table (length s) (node (tag x) (children x)) (step_well table x s g)).formed_so))) in
            steady_as (apply_step words starts s x f R) (λ (b : Arena). each (λ c. f c R) (remaining R s (children x)) b >>= λ (r : List ℕ × Arena). gather words starts k first r.0 r.1) (λ b y. step_list words starts s x f R b k e)
            (then_steady (each (λ c. f c R) (remaining R s (children x))) (gather words starts k first) (each_steady table (λ c. f c R) (remaining R s (children x)) (x ∷ s) (λ c i. child R c (remaining_from R s (children x) c i)))
            (λ ms a y q I. gather_steady a q k first (steady_later y S) ms (λ m i. let j = index_of i in omega (arith, j.is, below_at (length a) ms I.low j.index j.inside))))

  pub apply_steady : (s : Arena) → sound table s ≡ true → (n : ℕ) → n < length s → (R : ℕ → Bool) → Steady table s There (apply words starts s n R)
  unfolding apply
  apply_steady = rec_steady table table (λ (v : (ℕ → Bool) → Job) (R : ℕ → Bool). v R) (apply_step words starts) (λ R a. Err refusal.NoSuchRoot) (λ (s : Arena). s) (λ x s. more x here) step_steady

-- the law: a₀ is an earlier arena, a₁ what was left then, a the present one
pub cache_law : CacheLaw
cache_law words starts table few R a₀ a₁ a n m h l e x g =
    let F = (apply_steady words starts table few a₀ h n l R).is a₀ a₁ m here h e in
    (λ i. apply_kept words starts a₀ a (ext_trans F.ext x) n l i R a) ∙ F.again a x g
