-- The list of free variables with places: it has no variable twice, and a variable exactly if the variable has a place.
use Prim.Native.Nat.{ℕ, zero, suc, ◌<◌, ◌≤◌}
use mathlib.Core.Path.{◌≡◌, refl, sym, ap, ◌∙◌}
use mathlib.Core.Bool.{Bool, true, ◌||◌}
use mathlib.Core.List.{List, [], ◌∷◌, map, flatten}
use mathlib.Core.Logic.{◌⊎◌, inl, inr}
use native.Mathlib.Decide.{ℕ_discrete}
use native.Mathlib.Omega.{arith}
use lib.ListN.{length, get_or}
use Rattle.types.specs.Kind.{disc}
use Rattle.types.specs.Node.{Polarity, positive, var, tag, kind, children}
use Rattle.types.specs.Arena.{Arena, at, sound}
use Rattle.types.specs.Places.{child_sign, Place, self, down}
use Rattle.types.proofs.Tests.{true_false}
use Rattle.types.proofs.Sound.{child_lower}
use Rattle.types.proofs.Walks.{place_lower}
use Rattle.walks.specs.Reach.{some_of}
use Rattle.walks.proofs.Reaching.{some_in, in_some}
use Rattle.free_vars.specs.FreeVars.{occurrences, contains, free_type_vars, distinct}
use Rattle.free_vars.specs.Inner.{VarNode}
use Rattle.free_vars.specs.Theorems.{ListedOnce, VarPlace, ListedPlace, PlaceListed}
use Rattle.free_vars.proofs.FirstCopies.{contains_append, contains_one, one_contains, add_has, add_only, distinct_all}
use Rattle.free_vars.proofs.Occurrences.{kind_var, at_var, var_childless, at_other}
use Rattle.free_vars.proofs.Counts.{vars_few}

-- v is in one of several lists
contains_flatten : (f : ℕ → List ℕ) (cs : List ℕ) (v : ℕ) → contains (flatten (map f cs)) v ≡ some_of (map (λ (c : ℕ). contains (f c) v) cs)
unfolding flatten contains some_of
contains_flatten f [] v = refl
contains_flatten f (c ∷ cs) v = contains_append (f c) (flatten (map f cs)) v ∙ ap (λ (b : Bool). contains (f c) v || b) (contains_flatten f cs v)

-- ---- no variable twice
pub listed_once : ListedOnce
unfolding free_type_vars distinct
listed_once a root = distinct_all [] (occurrences a root) refl

-- ---- a variable is listed exactly if it has a place
module _ (table : ℕ) (a : Arena) (h : sound table a ≡ true) (v : ℕ) where
  -- from a node at a sign to a place of v
  record Led (n : ℕ) (s : Polarity) : Type 0 where
    pub node : ℕ
    pub sign : Polarity
    pub place : Place a n s node sign
    pub is : tag (at a node) ≡ var v

  led_down : (n : ℕ) (s : Polarity) (i : ℕ) → i < length (children (at a n)) → Led (get_or (children (at a n)) i 0) (child_sign (tag (at a n)) i s) → Led n s
  led_down n s i k L = record { node = L.node; sign = L.sign; place = down i k L.place; is = L.is }

  led : (m n : ℕ) → n < m → n < length a → contains (occurrences a n) v ≡ true → (s : Polarity) → Led n s
  led zero n k l e s = absurd (omega arith)
  led (suc m) n k l e s = go (ℕ_discrete (disc (kind (tag (at a n)))) 3) (led m)
    where
      go : Dec (disc (kind (tag (at a n))) ≡ 3) → ((c : ℕ) → c < m → c < length a → contains (occurrences a c) v ≡ true → (t : Polarity) → Led c t) → Led n s
      go (yes q) f =
          let T = kind_var (tag (at a n)) q in
          let x : T.number ≡ v = one_contains T.number v (ap (λ (l : List ℕ). contains l v) (sym (at_var table a h T.number (record { node = n; low = l; is = T.is }))) ∙ e) in
          record { node = n; sign = s; place = self; is = T.is ∙ ap var x }
      go (no q) f =
          let cs = children (at a n) in
          let S = some_in (λ (c : ℕ). contains (occurrences a c) v) cs (sym (contains_flatten (occurrences a) cs v) ∙ ap (λ (l : List ℕ). contains l v) (sym (at_other table a h n l q)) ∙ e) in
          let low = child_lower table a h n l S.index S.inside in
          led_down n s S.index S.inside (f (get_or cs S.index 0) (omega arith) (omega arith) S.passes (child_sign (tag (at a n)) S.index s))

  met : {n u : ℕ} {s p : Polarity} → Place a n s u p → tag (at a u) ≡ var v → n < length a → contains (occurrences a n) v ≡ true
  met {n} self q l = ap (λ (r : List ℕ). contains r v) (at_var table a h v (record { node = n; low = l; is = q })) ∙ contains_one v
  met (down {n = n} i k r) q l =
      let cs = children (at a n) in
      let low = child_lower table a h n l i k in
      ap (λ (r : List ℕ). contains r v) (at_other table a h n l (λ e. let z = var_childless table a h n l e in omega arith))
      ∙ contains_flatten (occurrences a) cs v
      ∙ in_some (λ (c : ℕ). contains (occurrences a c) v) cs i k (met r q (omega arith))

pub listed_place : ListedPlace
unfolding free_type_vars contains
listed_place table a h root l v e = go (add_only [] (occurrences a root) v e)
  where
    go : (contains [] v ≡ true) ⊎ (contains (occurrences a root) v ≡ true) → VarPlace a root v
    go (inl q) = absurd (true_false (sym q))
    go (inr q) = let L = led table a h v (suc root) root (omega arith) l q positive in record { node = L.node; reached = record { sign = L.sign; place = L.place }; is = L.is }

pub place_listed : PlaceListed
unfolding free_type_vars
place_listed table a h root l v P = add_has [] (occurrences a root) v (met table a h v P.reached.place P.is l)

pub listed_few : (table : ℕ) (a : Arena) → sound table a ≡ true → (root : ℕ) → root < length a → length (free_type_vars a root) ≤ length a
listed_few table a h root l = vars_few a (free_type_vars a root) (listed_once a root) node_of
  where
    node_of : (v : ℕ) → contains (free_type_vars a root) v ≡ true → VarNode a v
    node_of v e =
        let P = listed_place table a h root l v e in
        let k = place_lower table a h P.reached.place l in
        record { node = P.node; low = omega arith; is = P.is }
