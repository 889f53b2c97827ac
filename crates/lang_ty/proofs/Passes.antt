-- A refusal of `simplify` has a number from 1 to 10: each step of a pass keeps it so, and so do the passes.
use Prim.Native.Nat.{ℕ, zero, suc}
use native.Mathlib.Omega.{arith}
use mathlib.Core.Bool.{Bool}
use mathlib.Core.List.{List, [], ◌∷◌, ◌++◌, flat_map}
use lib.ListN.{length, get_or}
use lib.Dec.{eqb, ltb}
use Rattle.types.specs.Node.{Polarity, members, bound, Node, node, tag, children}
use Rattle.types.specs.Arena.{Arena, at}
use Rattle.types.specs.Places.{opposite}
use Rattle.recursion.specs.Jobs.{Job}
use Rattle.simplification.specs.Seen.{one_signed}
use Rattle.simplification.specs.Pass.{one_of, no_variable, remaining, is_decided, splice, append, first_copies, member_list, list_kind, close, gather, apply_step, apply, pass}
use Rattle.simplification.specs.Passes.{after, unchanged, more_passes, passes, simplify_by, simplify}
use Rattle.lang_ty.specs.Numbered.{Numbered, value, refusal}
use Rattle.lang_ty.proofs.Numbers.{NumberedJob, by_test, by_option, then_numbered, rec_all, intern_numbered, each_numbered, rebuild_numbered}

-- ---- member lists: 8
append_numbered : (m : ℕ) (acc : List ℕ) → Numbered (append m acc)
unfolding append
append_numbered m acc = by_test Numbered (one_of (eqb m) acc) (value acc) (by_test Numbered (ltb (length acc) 64) (value (acc ++ (m ∷ []))) (refusal (omega arith) (omega arith)))

pub first_copies_numbered : (acc ms : List ℕ) → Numbered (first_copies acc ms)
unfolding first_copies
first_copies_numbered acc [] = value acc
first_copies_numbered acc (m ∷ ms) = then_numbered (append_numbered m acc) (λ l. first_copies_numbered l ms)

module _ (words starts : ℕ) where
  close_numbered : (k : Polarity) (first : Job) → NumberedJob first → (l : List ℕ) → NumberedJob (close words starts k first l)
  unfolding close
  close_numbered k first h [] a = h a
  close_numbered k first h (m ∷ []) a = value (m, a)
  close_numbered k first h (m ∷ n ∷ ms) a = intern_numbered words starts (node (members k) (m ∷ n ∷ ms)) a

  gather_numbered : (k : Polarity) (first : Job) → NumberedJob first → (ms : List ℕ) → NumberedJob (gather words starts k first ms)
  unfolding gather member_list
  gather_numbered k first h ms a =
      by_test Numbered (is_decided k a ms) (intern_numbered words starts (node (bound (opposite k)) []) a)
      (then_numbered (first_copies_numbered [] (flat_map (λ (m : ℕ). splice k m (at a m)) ms)) (λ l. close_numbered k first h l a))

  -- ---- a pass, and the passes
  step_numbered : (s : Arena) (x : Node) (f : ℕ → (ℕ → Bool) → Job) → ((n : ℕ) (R : ℕ → Bool) → NumberedJob (f n R)) → (R : ℕ → Bool) → NumberedJob (apply_step words starts s x f R)
  unfolding apply_step
  step_numbered s x f h R a =
      by_option Numbered (list_kind (tag x))
      (λ k. then_numbered (each_numbered (remaining R s (children x)) (λ c _. h c R) a) (λ r. gather_numbered k (f (get_or (children x) 0 0) no_variable) (h (get_or (children x) 0 0) no_variable) r.0 r.1))
      (rebuild_numbered words starts (tag x) (children x) (λ c _. h c R) a)

  pass_numbered : (root : ℕ) → NumberedJob (pass words starts root)
  unfolding pass apply
  pass_numbered root a = rec_all (λ (f : (ℕ → Bool) → Job). (R : ℕ → Bool) → NumberedJob (f R)) (λ R b. refusal (omega arith) (omega arith)) step_numbered a root (one_signed a root) a

  passes_numbered : (n root : ℕ) (a : Arena) → Numbered (passes words starts n root a)
  unfolding passes
  passes_numbered zero root a = value (unchanged root a)
  passes_numbered (suc n) root a =
      then_numbered (pass_numbered root a)
      (λ r. by_test Numbered (eqb r.0 root) (value (after root a (unchanged r.0 r.1))) (then_numbered (passes_numbered n r.0 r.1) (λ q. value (after root a q))))

  pub simplify_numbered : (root : ℕ) (a : Arena) → Numbered (simplify words starts root a)
  unfolding simplify simplify_by
  simplify_numbered root a = then_numbered (pass_numbered root a) (λ r. then_numbered (passes_numbered more_passes r.0 r.1) (λ q. value (after root a q)))
