-- Variables that differ have nodes that differ, so a list without repeats is no longer than the arena.
use Prim.Native.Nat.{ℕ, zero, suc, ◌+◌, ◌<◌, ◌≤◌}
use mathlib.Core.Path.{◌≡◌, refl, sym, ap, ◌∙◌}
use mathlib.Core.Bool.{Bool, true, false, or-false}
use mathlib.Core.List.{List, [], ◌∷◌, map}
use native.Mathlib.Decide.{ℕ_discrete}
use native.Mathlib.Omega.{arith}
use lib.ListN.{length}
use lib.Dec.{eqb}
use borrow.Author.Tests.{eq-eqb}
use Rattle.types.specs.Node.{Tag, var, tag}
use Rattle.types.specs.Arena.{Arena, at}
use Rattle.types.proofs.Tests.{true_false}
use Rattle.bits.specs.Bits.{count_below}
use Rattle.walks.specs.Reach.{some_of}
use Rattle.walks.proofs.Reaching.{some_in, in_some, or_right}
use Rattle.walks.proofs.Counting.{or_left}
use Rattle.free_vars.specs.FreeVars.{node_vars, contains, distinct}
use Rattle.free_vars.specs.Inner.{VarNode}
use Rattle.free_vars.proofs.FirstCopies.{distinct_cons}

-- ---- a test that passes for more numbers counts more
count_step : (f g : ℕ → Bool) (k d : ℕ) → (f k ≡ true → g k ≡ true) → count_below f k + d ≤ count_below g k → count_below f (suc k) + d ≤ count_below g (suc k)
unfolding count_below
count_step f g k d h l = go (f k) refl (g k) refl
  where
    go : (b : Bool) → f k ≡ b → (c : Bool) → g k ≡ c → count_below f (suc k) + d ≤ count_below g (suc k)
    go true p true q = rw (count_below, p, q) (omega arith)
    go true p false q = absurd (true_false (sym (h p) ∙ q))
    go false p true q = rw (count_below, p, q) (omega arith)
    go false p false q = rw (count_below, p, q) l

count_least : (f g : ℕ → Bool) → ((m : ℕ) → f m ≡ true → g m ≡ true) → (k : ℕ) → count_below f k + 0 ≤ count_below g k
unfolding count_below
count_least f g h zero = omega arith
count_least f g h (suc k) = count_step f g k 0 (h k) (count_least f g h k)

count_more : (f g : ℕ → Bool) → ((m : ℕ) → f m ≡ true → g m ≡ true) → (n : ℕ) → f n ≡ false → g n ≡ true → (k : ℕ) → n < k → count_below f k + 1 ≤ count_below g k
unfolding count_below
count_more f g h n p q zero l = absurd (omega arith)
count_more f g h n p q (suc k) l = go (ℕ_discrete n k) (count_more f g h n p q k)
  where
    go : Dec (n ≡ k) → (n < k → count_below f k + 1 ≤ count_below g k) → count_below f (suc k) + 1 ≤ count_below g (suc k)
    go (yes e) r = rw (count_below, ap f (sym e) ∙ p, ap g (sym e) ∙ q) (omega (arith, count_least f g h k))
    go (no e) r = count_step f g k 1 (h k) (r (omega (arith, e, l)))

count_few : (f : ℕ → Bool) (k : ℕ) → count_below f k ≤ k
unfolding count_below
count_few f zero = omega arith
count_few f (suc k) = go (f k) refl (count_few f k)
  where
    go : (b : Bool) → f k ≡ b → count_below f k ≤ k → count_below f (suc k) ≤ suc k
    go true p l = rw (count_below, p) (omega arith)
    go false p l = rw (count_below, p) (omega arith)

-- ---- the nodes whose variable is in the list
knows : List ℕ → Tag → Bool
knows l t = some_of (map (contains l) (node_vars t []))

knows_var : (l : List ℕ) (t : Tag) (v : ℕ) → t ≡ var v → knows l t ≡ contains l v
unfolding knows some_of node_vars
knows_var l t v e = ap (knows l) e ∙ or-false (contains l v)

knows_more : (v : ℕ) (l : List ℕ) (t : Tag) → knows l t ≡ true → knows (v ∷ l) t ≡ true
unfolding knows contains
knows_more v l t e =
    let S = some_in (contains l) (node_vars t []) e in
    in_some (contains (v ∷ l)) (node_vars t []) S.index S.inside (or_right (eqb v _) _ S.passes)

module _ (a : Arena) where
  known_few : (l : List ℕ) → distinct l ≡ true → ((v : ℕ) → contains l v ≡ true → VarNode a v) → length l ≤ count_below (λ (m : ℕ). knows l (tag (at a m))) (length a)
  unfolding contains
  known_few [] d f = omega arith
  known_few (v ∷ l) d f =
      let N = f v (or_left (eqb v v) (contains l v) (eq-eqb v v refl)) in
      let p = distinct_cons v l d in
      let r = known_few l p.1 (λ u e. f u (or_right (eqb v u) (contains l u) e)) in
      let m = count_more (λ (m : ℕ). knows l (tag (at a m))) (λ (m : ℕ). knows (v ∷ l) (tag (at a m))) (λ m. knows_more v l (tag (at a m))) N.node
      (knows_var l (tag (at a N.node)) v N.is ∙ p.0)
      (knows_var (v ∷ l) (tag (at a N.node)) v N.is ∙ or_left (eqb v v) (contains l v) (eq-eqb v v refl)) (length a) N.low in
      omega arith

  pub vars_few : (l : List ℕ) → distinct l ≡ true → ((v : ℕ) → contains l v ≡ true → VarNode a v) → length l ≤ length a
  vars_few l d f = omega (arith, known_few l d f, count_few (λ (m : ℕ). knows l (tag (at a m))) (length a))
