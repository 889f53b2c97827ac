-- The list with one node more: a marked node adds nothing, a variable that isn't marked is new, and any other node adds what its children add.
use Prim.Native.Nat.{ℕ, ◌+◌, ◌<◌, ◌≤◌}
use mathlib.Core.Path.{◌≡◌, sym, ap, ◌∙◌, subst}
use mathlib.Core.Bool.{true, false}
use mathlib.Core.List.{List, [], ◌∷◌, ◌++◌}
use mathlib.Core.Logic.{◌⊎◌, inl, inr}
use native.Mathlib.Omega.{arith}
use lib.ListN.{length, take, set, length-append}
use lib.Seq.{take_at}
use Rattle.types.specs.Arena.{Arena, sound}
use Rattle.types.proofs.Tests.{true_false, not_true}
use Rattle.types.proofs.Lists.{padded_set}
use Rattle.bits.specs.Bits.{has, Put}
use Rattle.walks.proofs.Additions.{put_kept, put_only}
use Rattle.free_vars.specs.FreeVars.{occurrences, contains, add_all}
use Rattle.free_vars.specs.Inner.{Complete, VarNode, MarkedVar, Listing}
use Rattle.free_vars.proofs.FirstCopies.{contains_left, contains_right, contains_cases, one_contains, add_fresh, distinct_more}
use Rattle.free_vars.proofs.Occurrences.{at_var, one_node}
use Rattle.free_vars.proofs.Counts.{vars_few}

-- the array and its count tell the list
pub shown : {a : Arena} {done vars : List ℕ} {count : ℕ} {l : List ℕ} → Listing a done vars count l → take count vars ≡ l
shown {count = count} {l} L = ap (take count) L.array ∙ take_at l _ count (sym L.counted)

-- ---- one more node marked
module _ (a : Arena) {done done' : List ℕ} {n : ℕ} (P : Put done n done') where
  still : {v : ℕ} → MarkedVar a done v → MarkedVar a done' v
  still M = record { of = M.of; marked = put_kept P M.of.node M.marked }

  closed_put : (l : List ℕ) → ((m : ℕ) → has done m ≡ true → Complete a l m) → Complete a l n → (m : ℕ) → has done' m ≡ true → Complete a l m
  closed_put l f g m h v e = go (put_only P m h)
    where
      go : (has done m ≡ true) ⊎ (m ≡ n) → contains l v ≡ true
      go (inl q) = f m q v e
      go (inr q) = g v (ap (λ (k : ℕ). contains (occurrences a k) v) (sym q) ∙ e)

  -- after its children
  pub marked_last : {vars l : List ℕ} {count : ℕ} → Listing a done vars count l → Complete a l n → Listing a done' vars count l
  marked_last {l = l} L g = record {
    rows = P.long ∙ L.rows;
    array = L.array;
    counted = L.counted;
    once = L.once;
    closed = closed_put l L.closed g;
    marked = λ v e. still (L.marked v e);
  }

-- ---- a variable that isn't marked
module _ (table : ℕ) {a : Arena} (h : sound table a ≡ true) {done vars : List ℕ} {count : ℕ} {l : List ℕ} (L : Listing a done vars count l)
    {v : ℕ} (N : VarNode a v) (unmarked : has done N.node ≡ false) where
  new_var : contains l v ≡ false
  new_var = not_true (contains l v) (λ e.
      let M = L.marked v e in
      true_false (sym M.marked ∙ ap (has done) (one_node table a h v M.of N) ∙ unmarked))

  pub fresh_room : length l < length a
  fresh_room =
      let few = vars_few a (l ++ (v ∷ [])) (distinct_more l v new_var L.once) (λ u e. node_of u (contains_cases l (v ∷ []) u e)) in
      omega (arith, length-append l (v ∷ []))
    where
      node_of : (u : ℕ) → (contains l u ≡ true) ⊎ (contains (v ∷ []) u ≡ true) → VarNode a u
      node_of u (inl q) = (L.marked u q).of
      node_of u (inr q) = subst (VarNode a) (one_contains v u q) N

  pub listed_var : length a ≤ 4096 → {done' : List ℕ} → Put done N.node done' → Listing a done' (set vars count v) (count + 1) (add_all l (occurrences a N.node))
  unfolding add_all
  listed_var few {done'} P = rw (at_var table a h v N, add_fresh l v new_var) (record {
    rows = P.long ∙ L.rows;
    array = (λ i. set (L.array i) (L.counted i) v) ∙ padded_set 4096 l v (omega (arith, fresh_room));
    counted = omega (arith, L.counted, length-append l (v ∷ []));
    once = distinct_more l v new_var L.once;
    closed = closed_put a P (l ++ (v ∷ [])) (λ m q u e. contains_left l (v ∷ []) u (L.closed m q u e)) (λ u e. contains_right l (v ∷ []) u (ap (λ (r : List ℕ). contains r u) (sym (at_var table a h v N)) ∙ e));
    marked = λ u e. go u (contains_cases l (v ∷ []) u e);
  })
    where
      go : (u : ℕ) → (contains l u ≡ true) ⊎ (contains (v ∷ []) u ≡ true) → MarkedVar a done' u
      go u (inl q) = still a P (L.marked u q)
      go u (inr q) = subst (MarkedVar a done') (one_contains v u q) (record { of = N; marked = P.new })
