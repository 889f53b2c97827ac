-- The loop from the left root down: if the roots have equal trees all partners have, and from the node reached on partners are matched. At the end every pair is.
use Prim.Native.Nat.{ℕ, zero, suc, ◌+◌, ◌-◌, ◌*◌, ◌<◌, ◌≤◌}
use mathlib.Core.Path.{◌≡◌, sym, ap, ◌∙◌, subst}
use mathlib.Core.Bool.{Bool, true, false, not}
use mathlib.Core.List.{List}
use mathlib.Core.Logic.{◌⊎◌, inl, inr}
use native.Mathlib.Decide.{ℕ_discrete}
use native.Mathlib.Omega.{arith}
use mir.Syntax.{w16, w64}
use mir.Val.{Fits}
use lib.ListN.{length, get_or, set, length-set, replicate, length-replicate}
use lib.Seq.{get_or-set_same, get_or-set_other}
use borrow.Author.Tests.{not-true, not-false}
use Rattle.bits.proofs.Sets.{zero_at}
use Rattle.types.specs.declared.Counters.{Counters}
use Rattle.types.proofs.Tests.{same_if, same_not}
use Rattle.types.proofs.Sound.{child_lower}
use Rattle.equal.specs.Equal.{tree, tree_dec, equal}
use Rattle.name_matching.specs.Inner.{Maps, Blank}
use Rattle.soundness.specs.Inner.Sides.{Side}
use Rattle.equal.specs.Inner.Pairs.{Pair, Mapped, Matched, Agreeing, Below, Visit, Visited, Fresh, Decides, Roots, Tells}
use Rattle.name_matching.proofs.Merging.{blank}
use Rattle.equal.proofs.Descending.{child_trees, alike_trees, side_small}

pub record Sweep (ks w s : List ℕ) (c : Counters) (m : ℕ) (v r : List ℕ) (d : Counters) (n : ℕ) (ps : List ℕ) (k : ℕ) : Type 0 where
  pub sides : Mapped ks w s c v r d
  pub left_inside : m < c.nodes
  pub right_inside : n < d.nodes
  pub long : length ps ≡ 4096
  pub high : k ≤ m + 1
  pub begun : Pair ps m n
  pub left_in : (j q : ℕ) → Pair ps j q → j < c.nodes
  pub right_in : (j q : ℕ) → Pair ps j q → q < d.nodes
  pub forced : (X : Mapped ks w s c v r d) → tree X.left.names X.left.view m ≡ tree X.right.names X.right.view n
      → Agreeing X.left.names X.left.view X.right.names X.right.view ps
  pub closed : (X : Mapped ks w s c v r d) → (j q : ℕ) → k ≤ j → Pair ps j q
      → Matched X.left.names X.left.view X.right.names X.right.view ps j q

pub unmatched : {t w s : List ℕ} {c : Counters} {m : ℕ} {u v r : List ℕ} {d : Counters} {n : ℕ} → Roots t w s c m u v r d n → Blank t u (replicate 4096 0)
unmatched S = blank S.sides.left.is S.sides.right.is

module _ {t w s : List ℕ} {c : Counters} {m : ℕ} {u v r : List ℕ} {d : Counters} {n : ℕ} {ks : List ℕ} (S : Roots t w s c m u v r d n) (K : Maps t u ks) where
  -- the tables whose names are mapped, with their sides
  mapped : Side t w s c → Side u v r d → Mapped ks w s c v r d
  mapped L R = record { left_table = t; right_table = u; left = L; right = R; matches = K.is L.names R.names L.is R.is }

  -- nothing is paired in an array of zeros
  pub fresh : Fresh ks w s c m v r d n (replicate 4096 0)
  fresh = record {
    sides = mapped S.sides.left S.sides.right;
    left_inside = S.left_inside;
    right_inside = S.right_inside;
    long = length-replicate {A = ℕ} 4096 0;
    none = zero_at 4096;
  }

  pub decided : {o : Bool} → Decides ks w s c m v r d n o → Tells t w s c m u v r d n o
  unfolding mapped
  decided D = record { is = λ L R. D.is (mapped L R) }

module _ {ks w s : List ℕ} {c : Counters} {m : ℕ} {v r : List ℕ} {d : Counters} {n : ℕ} {ps : List ℕ} (F : Fresh ks w s c m v r d n ps) where
  pub root_after : Fits w64 (n + 1)
  root_after = omega (arith, side_small F.sides.right F.right_inside)

  pub root_partner : Fits w16 (n + 1)
  root_partner = omega (arith, side_small F.sides.right F.right_inside)

  pub root_place : Fits w64 (m * 2)
  root_place = omega (arith, side_small F.sides.left F.left_inside)

  pub root_small : m < 4096
  root_small = side_small F.sides.left F.left_inside

  room : m < length ps
  room = let h = root_small in omega (arith, F.long, h)

  -- only the roots are paired
  root_only : (j q : ℕ) → Pair (set ps m (n + 1)) j q → (j ≡ m) × (q ≡ n)
  root_only j q h = go (ℕ_discrete j m)
    where
      go : Dec (j ≡ m) → (j ≡ m) × (q ≡ n)
      go (yes f) = let g = ap (λ (i : ℕ). get_or (set ps m (n + 1)) i 0) f in let y = get_or-set_same ps m (n + 1) 0 room in (f, omega (arith, g, y, h))
      go (no f) = let g = get_or-set_other ps m j (n + 1) 0 f in let y = F.none j in absurd (omega (arith, g, y, h))

  pub sweep_start : Sweep ks w s c m v r d n (set ps m (n + 1)) (m + 1)
  sweep_start = record {
    sides = F.sides;
    left_inside = F.left_inside;
    right_inside = F.right_inside;
    long = length-set ps m (n + 1) ∙ F.long;
    high = omega arith;
    begun = get_or-set_same ps m (n + 1) 0 room;
    left_in = λ j q h. let x = root_only j q h in omega (arith, x.0, F.left_inside);
    right_in = λ j q h. let x = root_only j q h in omega (arith, x.1, F.right_inside);
    forced = λ X f. record { trees = λ j q h. let x = root_only j q h in ap (tree _ _) x.0 ∙ f ∙ ap (tree _ _) (sym x.1) };
    closed = λ X j q l h. let x = root_only j q h in absurd (omega (arith, x.0, l));
  }

module _ {ks w s : List ℕ} {c : Counters} {m : ℕ} {v r : List ℕ} {d : Counters} {n : ℕ} {ps : List ℕ} {k : ℕ} (S : Sweep ks w s c m v r d n ps k) where
  module _ (X : Mapped ks w s c v r d) where
    in_left : (j q : ℕ) → Pair ps j q → j < length X.left.view
    in_left j q h = let l = S.left_in j q h in omega (arith, l, X.left.holds.nodes)

    in_right : (j q : ℕ) → Pair ps j q → q < length X.right.view
    in_right j q h = let l = S.right_in j q h in omega (arith, l, X.right.holds.nodes)

  module _ (h : 0 < k) {qs : List ℕ} {o : Bool} (W : Visited ks w s c v r d (k - 1) ps qs o) where
    pub sweep_refuted : not o ≡ true → Decides ks w s c m v r d n false
    unfolding equal
    sweep_refuted g = record { is = λ X. sym (same_not tree_dec _ _ (λ e. (W.is X).refuted (not-true o g) (S.forced X e))) }

    module _ (g : not o ≡ false) where
      module _ (X : Mapped ks w s c v r d) where
        visit : Visit X.left.names X.left.view X.right.names X.right.view (k - 1) ps qs o
        visit = W.is X

        -- the nodes below node k - 1 and its partner
        below_left : {j q : ℕ} → Below X.left.view X.right.view ps (k - 1) j q → j < k - 1
        below_left B =
            let l = child_lower (length X.left.names) X.left.view X.left.holds.good (k - 1) (in_left X _ _ B.there) B.beside.index B.beside.inside in
            omega (arith, l, B.beside.left)

        below_right : {j q : ℕ} → Below X.left.view X.right.view ps (k - 1) j q → q < d.nodes
        below_right B =
            let M = visit.matched (not-false o g) B.partner B.there in
            let i = in_right X _ _ B.there in
            let l = child_lower (length X.right.names) X.right.view X.right.holds.good B.partner i B.beside.index (omega (arith, B.beside.inside, M.counts)) in
            omega (arith, l, i, B.beside.right, X.right.holds.nodes)

        -- no pair from node k - 1 on is new
        old : (j q : ℕ) → k - 1 ≤ j → Pair qs j q → Pair ps j q
        old j q l x = go (visit.only j q x)
          where
            go : Pair ps j q ⊎ Below X.left.view X.right.view ps (k - 1) j q → Pair ps j q
            go (inl y) = y
            go (inr B) = let b = below_left B in absurd (omega (arith, b, l))

        left_then : (j q : ℕ) → Pair qs j q → j < c.nodes
        left_then j q x = go (visit.only j q x)
          where
            go : Pair ps j q ⊎ Below X.left.view X.right.view ps (k - 1) j q → j < c.nodes
            go (inl y) = S.left_in j q y
            go (inr B) = let b = below_left B in omega (arith, b, S.high, S.left_inside)

        right_then : (j q : ℕ) → Pair qs j q → q < d.nodes
        right_then j q x = go (visit.only j q x)
          where
            go : Pair ps j q ⊎ Below X.left.view X.right.view ps (k - 1) j q → q < d.nodes
            go (inl y) = S.right_in j q y
            go (inr B) = below_right B

        trees_then : tree X.left.names X.left.view m ≡ tree X.right.names X.right.view n
            → (j q : ℕ) → Pair ps j q ⊎ Below X.left.view X.right.view ps (k - 1) j q
            → tree X.left.names X.left.view j ≡ tree X.right.names X.right.view q
        trees_then e j q (inl y) = (S.forced X e).trees j q y
        trees_then e j q (inr B) =
            child_trees X.left.names (length X.left.names) X.left.view X.left.holds.good
            X.right.names (length X.right.names) X.right.view X.right.holds.good
            (k - 1) B.partner (in_left X _ _ B.there) (in_right X _ _ B.there) ((S.forced X e).trees (k - 1) B.partner B.there) j q B.beside

        closed_then : (j q : ℕ) → k - 1 ≤ j → Pair qs j q → Matched X.left.names X.left.view X.right.names X.right.view qs j q
        closed_then j q l x = go (ℕ_discrete j (k - 1))
          where
            go : Dec (j ≡ k - 1) → Matched X.left.names X.left.view X.right.names X.right.view qs j q
            go (yes f) =
                subst (λ (i : ℕ). Matched X.left.names X.left.view X.right.names X.right.view qs i q) (sym f)
                (visit.matched (not-false o g) q (ap (λ (i : ℕ). get_or ps i 0) (sym f) ∙ old j q l x))
            go (no f) =
                let M = S.closed X j q (omega (arith, h, f, l)) (old j q l x) in
                record { labels = M.labels; counts = M.counts; paired = λ i p B. visit.kept i p (M.paired i p B) }

      pub sweep_more : Sweep ks w s c m v r d n qs (k - 1)
      sweep_more = record {
        sides = S.sides;
        left_inside = S.left_inside;
        right_inside = S.right_inside;
        long = (W.is S.sides).long ∙ S.long;
        high = omega (arith, S.high);
        begun = (W.is S.sides).kept m n S.begun;
        left_in = left_then S.sides;
        right_in = right_then S.sides;
        forced = λ X e. record { trees = λ j q x. trees_then X e j q ((W.is X).only j q x) };
        closed = closed_then;
      }

  -- ---- the end
  all_equal : (X : Mapped ks w s c v r d) → k ≤ 0 → (b j q : ℕ) → j < b → Pair ps j q → tree X.left.names X.left.view j ≡ tree X.right.names X.right.view q
  all_equal X z zero j q l x = absurd (omega arith)
  all_equal X z (suc b) j q l x =
      let M = S.closed X j q (omega arith) x in
      let i = in_left X j q x in
      let below : (e p : ℕ) → e < j → Pair ps e p → tree X.left.names X.left.view e ≡ tree X.right.names X.right.view p = λ e p g y. all_equal X z b e p (omega arith) y in
      alike_trees X.left.names (length X.left.names) X.left.view X.left.holds.good
      X.right.names (length X.right.names) X.right.view X.right.holds.good
      j q i (in_right X j q x) (record { labels = M.labels; counts = M.counts })
      (λ e p B.
      let y = child_lower (length X.left.names) X.left.view X.left.holds.good j i B.index B.inside in
      below e p (omega (arith, y, B.left)) (M.paired e p B))

  pub sweep_done : k ≤ 0 → Decides ks w s c m v r d n true
  unfolding equal
  sweep_done z = record { is = λ X. sym (same_if tree_dec _ _ (all_equal X z (suc m) m n (omega arith) S.begun)) }
