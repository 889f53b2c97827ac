-- The questions about variables, with paths of children.
use Prim.Native.Nat.{ℕ, zero, suc, ◌+◌, ◌-◌, ◌<◌}
use mathlib.Core.Path.{◌≡◌, refl, sym, ap, ◌∙◌}
use mathlib.Core.Bool.{Bool, true, false, ◌||◌}
use mathlib.Core.List.{List, [], ◌∷◌, map}
use native.Mathlib.Omega.{arith}
use lib.ListN.{length, get_or, drop, length-drop}
use lib.Seq.{get_or-drop}
use Rattle.types.specs.Kind.{disc}
use Rattle.types.specs.Node.{Polarity, Tag, tag, kind, children}
use Rattle.types.specs.Arena.{Arena, at, sound}
use Rattle.types.specs.Places.{child_sign, self, down}
use Rattle.types.proofs.Sound.{child_lower, fold_at}
use Rattle.walks.specs.Reach.{some_of}
use Rattle.walks.proofs.Reaching.{some_in, in_some, or_right}
use Rattle.node_reading.specs.Nodes.{is_var}
use Rattle.questions.specs.Vars as vars
use Rattle.questions.specs.Vars.{passed_over, kind_has, has_var}
use Rattle.questions.specs.Theorems.{Var, VarWalk, WalkVar, WalkPlace, PlaceWalk}

drop_map : (f : ℕ → Bool) (k : ℕ) (cs : List ℕ) → drop k (map f cs) ≡ map f (drop k cs)
drop_map f zero cs = refl
drop_map f (suc k) [] = refl
drop_map f (suc k) (c ∷ cs) = drop_map f k cs

module _ (skip : Bool) (table : ℕ) (a : Arena) (h : sound table a ≡ true) where
  over : ℕ → ℕ
  over n = passed_over skip (disc (kind (tag (at a n))))

  at_node : (n : ℕ) → n < length a → has_var skip a n ≡ (is_var (at a n) || some_of (map (has_var skip a) (drop (over n) (children (at a n)))))
  unfolding has_var over
  at_node n l = fold_at (λ (t : Tag) (bs : List Bool). kind_has skip (disc (kind t)) bs) table a h n l ∙ ap (λ (bs : List Bool). is_var (at a n) || some_of bs) (drop_map (has_var skip a) (over n) (children (at a n)))

  found : (m n : ℕ) → n < m → n < length a → has_var skip a n ≡ true → Var skip a n
  unfolding over
  found zero n k l e = absurd (omega arith)
  found (suc m) n k l e = go (is_var (at a n)) refl (sym (at_node n l) ∙ e) (found m)
    where
      go : (b : Bool) → is_var (at a n) ≡ b → (b || some_of (map (has_var skip a) (drop (over n) (children (at a n))))) ≡ true
          → ((c : ℕ) → c < m → c < length a → has_var skip a c ≡ true → Var skip a c) → Var skip a n
      go true q x f = record { node = n; path = vars.self; var = q }
      go false q x f =
          let S = some_in (has_var skip a) (drop (over n) (children (at a n))) x in
          let j = over n + S.index in
          let i : j < length (children (at a n)) = omega (arith, S.inside, length-drop (over n) (children (at a n))) in
          let e = get_or-drop (over n) (children (at a n)) S.index 0 in
          let low = child_lower table a h n l j i in
          let V' = f (get_or (children (at a n)) j 0) (omega (arith, low, k)) (omega (arith, low, l)) (ap (has_var skip a) (sym e) ∙ S.passes) in
          record { node = V'.node; path = vars.down {n = n} j (omega arith) i V'.path; var = V'.var }

pub var_walk : VarWalk
var_walk skip table a h n l e = found skip table a h (suc n) n (omega arith) l e

pub walk_var : (skip : Bool) (table : ℕ) (a : Arena) {n u : ℕ} → WalkVar skip table a n u
unfolding over
walk_var skip table a {n} h vars.self l e = at_node skip table a h n l ∙ rw e
walk_var skip table a h (vars.down {n = n} i p k r) l e =
    let o = over skip table a h n in
    let c = child_lower table a h n l i k in
    let z : o + (i - o) ≡ i = omega (arith, p) in
    let g : get_or (drop o (children (at a n))) (i - o) 0 ≡ get_or (children (at a n)) i 0 = get_or-drop o (children (at a n)) (i - o) 0 ∙ ap (λ (j : ℕ). get_or (children (at a n)) j 0) z in
    at_node skip table a h n l
    ∙ or_right (is_var (at a n)) _
    (in_some (has_var skip a) (drop o (children (at a n))) (i - o) (omega (arith, p, k, length-drop o (children (at a n)))) (ap (has_var skip a) g ∙ walk_var skip table a h r (omega (arith, c, l)) e))

-- where nothing is passed over such a path leads exactly to the nodes with a place
pub walk_place : {a : Arena} {n u : ℕ} → WalkPlace a n u
walk_place vars.self s = (s, self)
walk_place {a} (vars.down {n = n} i q k r) s = let P = walk_place r (child_sign (tag (at a n)) i s) in (P.0, down i k P.1)

pub place_walk : {a : Arena} {n u : ℕ} {s p : Polarity} → PlaceWalk a n u s p
place_walk self = vars.self
place_walk (down {n = n} i k r) = vars.down {n = n} i (omega arith) k (place_walk r)
