-- Variables numbered by their places in the list of first visits come in the order 0, 1, .., so the result of a finished call has these.
use Prim.Native.Nat.{ℕ, zero, suc, ◌<◌, ◌≤◌}
use mathlib.Core.Path.{◌≡◌, refl, sym, ap, ◌∙◌, subst}
use mathlib.Core.Bool.{Bool, true, false, ◌||◌}
use mathlib.Core.List.{List, [], ◌∷◌, ◌++◌, map, append-nil, append_assoc}
use mathlib.Core.Logic.{◌⊎◌, inl, inr}
use mathlib.Core.Option.{Option, none, some}
use native.Mathlib.Omega.{arith}
use native.Mathlib.Decide.{ℕ_discrete}
use lib.ListN.{length, length-append}
use lib.Dec.{eqb}
use borrow.Author.Tests.{eq-eqb}
use Rattle.std.specs.Prelude.{Ok}
use Rattle.types.specs.Out.{Out}
use Rattle.types.specs.Node.{tag}
use Rattle.types.specs.Arena.{Arena, at, here}
use Rattle.types.specs.Memory.{Holds}
use Rattle.types.specs.declared.Counters.{Counters}
use Rattle.types.proofs.Tests.{true_false, not_true}
use Rattle.types.proofs.Addresses.{start_room}
use Rattle.node_store.specs.Intern.{intern}
use Rattle.recursion.proofs.Answers.{ok_same}
use Rattle.recursion.proofs.Interning.{interned}
use Rattle.free_vars.specs.FreeVars.{occurrences, contains, add_new, add_all, free_type_vars}
use Rattle.free_vars.proofs.FirstCopies.{contains_left, contains_right, contains_cases, contains_one, one_contains, add_known, add_fresh, all_keeps}
use Rattle.free_vars.proofs.Occurrences.{at_var}
use Rattle.free_vars.proofs.VarPlaces.{listed_few}
use Rattle.renumbering.specs.Renumbered.{index, var_number, var_node}
use Rattle.renumbering.proofs.VarNodes.{var_well}
use Rattle.renumbering.proofs.Reading.{renumbered_occurrences}
use Rattle.types.specs.Tyvar.{unknown}
use Rattle.renumber.specs.Renumber.{by_vars, normalize_vars, normalize}
use Rattle.renumber.specs.Theorems.{numbers_below, replaced, NormalizedInOrder}

-- ---- the numbers below n
numbers_has : (n k : ℕ) → k < n → contains (numbers_below n) k ≡ true
unfolding numbers_below
numbers_has zero k l = absurd (omega arith)
numbers_has (suc n) k l = go (ℕ_discrete k n) (numbers_has n k)
  where
    go : Dec (k ≡ n) → (k < n → contains (numbers_below n) k ≡ true) → contains (numbers_below n ++ (n ∷ [])) k ≡ true
    go (yes e) f = contains_right (numbers_below n) (n ∷ []) k (subst (λ (i : ℕ). contains (n ∷ []) i ≡ true) (sym e) (contains_one n))
    go (no e) f = contains_left (numbers_below n) (n ∷ []) k (f (omega (arith, l, e)))

numbers_only : (n k : ℕ) → contains (numbers_below n) k ≡ true → k < n
unfolding numbers_below contains
numbers_only zero k e = absurd (true_false (sym e))
numbers_only (suc n) k e = go (contains_cases (numbers_below n) (n ∷ []) k e) (numbers_only n k)
  where
    go : (contains (numbers_below n) k ≡ true) ⊎ (contains (n ∷ []) k ≡ true) → (contains (numbers_below n) k ≡ true → k < n) → k < suc n
    go (inl q) f = omega (arith, f q)
    go (inr q) f = omega (arith, one_contains n k q)

next : (n : ℕ) → numbers_below n ++ (n ∷ []) ≡ numbers_below (suc n)
unfolding numbers_below
next n = refl

-- ---- places in a list that grows at its end
index_low : (l : List ℕ) (v : ℕ) → contains l v ≡ true → index l v < length l
unfolding index contains
index_low [] v e = absurd (true_false (sym e))
index_low (x ∷ l) v e = go (eqb x v) e (index_low l v)
  where
    go : (b : Bool) → (b || contains l v) ≡ true → (contains l v ≡ true → index l v < length l) → elim b as (λ _. ℕ) [ true ↦ 0 | false ↦ suc (index l v) ] < length (x ∷ l)
    go true q f = omega arith
    go false q f = omega (arith, f q)

index_kept : (l r : List ℕ) (v : ℕ) → contains l v ≡ true → index (l ++ r) v ≡ index l v
unfolding index contains
index_kept [] r v e = absurd (true_false (sym e))
index_kept (x ∷ l) r v e = go (eqb x v) e (index_kept l r v)
  where
    go : (b : Bool) → (b || contains l v) ≡ true → (contains l v ≡ true → index (l ++ r) v ≡ index l v) → ◌≡◌ {A = ℕ} (elim b as (λ _. ℕ) [ true ↦ 0 | false ↦ suc (index (l ++ r) v) ]) (elim b as (λ _. ℕ) [ true ↦ 0 | false ↦ suc (index l v) ])
    go true q f = refl
    go false q f = ap suc (f q)

index_last : (l : List ℕ) (v : ℕ) → contains l v ≡ false → index (l ++ (v ∷ [])) v ≡ length l
unfolding index contains
index_last [] v e = rw (index, eq-eqb v v refl)
index_last (x ∷ l) v e = go (eqb x v) e (index_last l v)
  where
    go : (b : Bool) → (b || contains l v) ≡ false → (contains l v ≡ false → index (l ++ (v ∷ [])) v ≡ length l) → elim b as (λ _. ℕ) [ true ↦ 0 | false ↦ suc (index (l ++ (v ∷ [])) v) ] ≡ suc (length l)
    go true q f = absurd (true_false q)
    go false q f = ap suc (f q)

-- ---- a list to which variables are added keeps its front
record Longer (l m : List ℕ) : Type 0 where
  pub rest : List ℕ
  pub is : m ≡ l ++ rest

all_longer : (l xs : List ℕ) → Longer l (add_all l xs)
all_longer l xs =
    all_keeps (Longer l) (λ m v f L. record { rest = L.rest ++ (v ∷ []); is = ap (λ (k : List ℕ). k ++ (v ∷ [])) L.is ∙ append_assoc l L.rest (v ∷ []) }) l xs
    (record { rest = []; is = sym (append-nil l) })

-- ---- first visits, by their places, are 0, 1, ..
in_order : (xs l vars : List ℕ) → add_all l xs ≡ vars → add_all (numbers_below (length l)) (map (index vars) xs) ≡ numbers_below (length vars)
unfolding add_all
in_order [] l vars e = ap (λ (v : List ℕ). numbers_below (length v)) e
in_order (x ∷ xs) l vars e = go (contains l x) refl (in_order xs)
  where
    place : (m : List ℕ) → contains m x ≡ true → add_all m xs ≡ vars → index vars x ≡ index m x
    place m c q = let L = all_longer m xs in ap (λ (v : List ℕ). index v x) (sym q ∙ L.is) ∙ index_kept m L.rest x c

    go : (b : Bool) → contains l x ≡ b → ((m vars : List ℕ) → add_all m xs ≡ vars → add_all (numbers_below (length m)) (map (index vars) xs) ≡ numbers_below (length vars))
        → add_all (add_new (numbers_below (length l)) (index vars x)) (map (index vars) xs) ≡ numbers_below (length vars)
    go true c f =
        let q = ap (λ (m : List ℕ). add_all m xs) (sym (add_known l x c)) ∙ e in
        let k : index vars x < length l = omega (arith, place l c q, index_low l x c) in
        ap (λ (m : List ℕ). add_all m (map (index vars) xs)) (add_known (numbers_below (length l)) (index vars x) (numbers_has (length l) (index vars x) k)) ∙ f l vars q
    go false c f =
        let m = l ++ (x ∷ []) in
        let q = ap (λ (m : List ℕ). add_all m xs) (sym (add_fresh l x c)) ∙ e in
        let k : index vars x ≡ length l = place m (contains_right l (x ∷ []) x (contains_one x)) q ∙ index_last l x c in
        let n : suc (length l) ≡ length m = omega (arith, length-append l (x ∷ [])) in
        ap (λ (i : ℕ). add_all (add_new (numbers_below (length l)) i) (map (index vars) xs)) k
        ∙ ap (λ (r : List ℕ). add_all r (map (index vars) xs)) (add_fresh (numbers_below (length l)) (length l) (not_true _ (λ t. let z = numbers_only (length l) (length l) t in omega arith)) ∙ next (length l) ∙ ap numbers_below n)
        ∙ f m vars q

listed : (vars : List ℕ) (a : Arena) (root : ℕ) → free_type_vars a root ≡ vars → (b : Arena) (m : ℕ) → occurrences b m ≡ map (index vars) (occurrences a root) → free_type_vars b m ≡ numbers_below (length vars)
unfolding free_type_vars numbers_below
listed vars a root q b m r = ap (add_all []) r ∙ in_order (occurrences a root) [] vars q

-- ---- a finished call
module _ (table : ℕ) (w s : List ℕ) (c : Counters) (a : Arena) (H : Holds table w s c a) (root : ℕ) (l : root < length a) where
  short : length (free_type_vars a root) ≤ 4096
  short = omega (arith, listed_few table a H.good root l, start_room H, H.few_starts, H.nodes)

  by_list : (vars : List ℕ) → free_type_vars a root ≡ vars → (m : ℕ) (b : Arena) → by_vars (length w) (length s) root vars a ≡ Ok (m, b) → free_type_vars b m ≡ numbers_below (length vars)
  unfolding by_vars numbers_below
  by_list [] q m b e = subst (λ (v : ℕ × Arena). free_type_vars v.1 v.0 ≡ []) (ok_same e) q
  by_list (v ∷ vs) q m b e =
      let r = renumbered_occurrences (v ∷ vs) (length w) (length s) table H.few_starts (subst (λ (k : List ℕ). length k ≤ 4096) q short) a H.good root l a b m here H.good e in
      listed (v ∷ vs) a root q b m r

  normalized : (m : ℕ) (b : Arena) → normalize_vars (length w) (length s) root a ≡ Ok (m, b) → free_type_vars b m ≡ numbers_below (length (free_type_vars a root))
  unfolding normalize_vars
  normalized = by_list (free_type_vars a root) refl

  -- the unknown variable alone
  unknown_alone : (m : ℕ) (b : Arena) → intern (length w) (length s) (var_node unknown) a ≡ Ok (m, b) → free_type_vars b m ≡ unknown ∷ []
  unfolding free_type_vars add_all add_new contains
  unknown_alone m b e =
      let J = interned (length w) (length s) table H.few_starts (var_node unknown) a H.good m b (λ k. var_well table (length a) unknown (omega arith)) e in
      ap (add_all []) (at_var table b J.good unknown (record { node = m; low = J.is.inside; is = ap tag J.is.is }))

  replacing : (o : Option ℕ) (m : ℕ) (b : Arena) → ◌≡◌ {A = Out (ℕ × Arena)} (elim o as (λ _. Out (ℕ × Arena)) [ none ↦ normalize_vars (length w) (length s) root a | some v ↦ intern (length w) (length s) (var_node unknown) a ]) (Ok (m, b)) → free_type_vars b m ≡ replaced o (length (free_type_vars a root))
  unfolding replaced
  replacing none = normalized
  replacing (some v) = unknown_alone

pub normalized_in_order : NormalizedInOrder
unfolding normalize
normalized_in_order table w s c a H root l = record { normalized = normalized table w s c a H root l; replacing = replacing table w s c a H root l (var_number (tag (at a root))) }
