-- The reachable nodes are those with a place of either sign; their count.
use Prim.Native.Nat.{ℕ, zero, suc, ◌+◌, ◌-◌, ◌<◌, ◌≤◌}
use mathlib.Core.Path.{◌≡◌, refl, ap, ◌∙◌, subst}
use mathlib.Core.Bool.{Bool, true, false, ◌||◌}
use mathlib.Core.List.{List}
use mathlib.Core.Logic.{◌⊎◌, inl, inr}
use native.Mathlib.Omega.{arith}
use lib.ListN.{length}
use Rattle.types.specs.Node.{Polarity, positive, negative}
use Rattle.types.specs.Arena.{Arena}
use Rattle.types.specs.Places.{Place}
use Rattle.types.specs.Memory.{Holds}
use Rattle.types.specs.declared.Counters.{Counters}
use Rattle.types.proofs.Tests.{same_truth, not_true}
use Rattle.types.proofs.Walks.{place_lower}
use Rattle.types.proofs.Addresses.{start_room}
use Rattle.bits.specs.Bits.{has, count_below}
use Rattle.bits.specs.Inner.{Union}
use Rattle.bits.proofs.Sets.{count_same}
use Rattle.node_store.specs.Inner.Stored.{InRange}
use Rattle.walks.specs.Inner.Signs.{SignsIn}
use Rattle.walks.specs.Inner.Asked.{Says}
use Rattle.walks.specs.Reach.{reaches, reach_count}
use Rattle.walks.specs.Inner.Sets.{ReachIn}
use Rattle.walks.proofs.Reaching.{or_right, reaches_place, place_reaches}

pub or_cases : (b c : Bool) → (b || c) ≡ true → (b ≡ true) ⊎ (c ≡ true)
or_cases true c e = inl refl
or_cases false c e = inr e

pub or_left : (b c : Bool) → b ≡ true → (b || c) ≡ true
or_left b c e = rw e

-- ---- the union of the two sets
module _ {w s : List ℕ} {c : Counters} {root : ℕ} (R : InRange w s c root) where
  pub either_sign : {p q r : List ℕ} → SignsIn w s c root p q → Union p q r → ReachIn w s c root r
  either_sign {p} {q} {r} S U = record {
    is = λ table a H u l. U.is u l ∙ same_truth (has p u || has q u) (reaches a root u) (there table a H u) (back table a H u);
  }
    where
      below : {table : ℕ} {a : Arena} → Holds table w s c a → root < length a
      below H = omega (arith, R.inside, H.nodes)

      there : (table : ℕ) (a : Arena) (H : Holds table w s c a) (u : ℕ) → (has p u || has q u) ≡ true → reaches a root u ≡ true
      there table a H u e = go (or_cases (has p u) (has q u) e)
        where
          go : (has p u ≡ true) ⊎ (has q u ≡ true) → reaches a root u ≡ true
          go (inl x) = place_reaches table a H.good u ((S.is table a H).sound positive u x) (below H)
          go (inr x) = place_reaches table a H.good u ((S.is table a H).sound negative u x) (below H)

      back : (table : ℕ) (a : Arena) (H : Holds table w s c a) (u : ℕ) → reaches a root u ≡ true → (has p u || has q u) ≡ true
      back table a H u e = let P = reaches_place table a H.good u root (below H) e in go P.sign P.place
        where
          go : (t : Polarity) → Place a root positive u t → (has p u || has q u) ≡ true
          go positive x = or_left (has p u) (has q u) ((S.is table a H).complete positive u x)
          go negative x = or_right (has p u) (has q u) ((S.is table a H).complete negative u x)

-- ---- the count
-- numbers that don't pass add nothing
count_on : (f : ℕ → Bool) (k d : ℕ) → ((m : ℕ) → k ≤ m → f m ≡ false) → count_below f (d + k) ≡ count_below f k
unfolding count_below
count_on f k zero h = let e : zero + k ≡ k = omega arith in ap (count_below f) e
count_on f k (suc d) h =
    let e : suc d + k ≡ suc (d + k) = omega arith in
    ap (count_below f) e ∙ rw (count_below, h (d + k) (omega arith)) (count_on f k d h)

-- a set that holds the reachable nodes has as many numbers as there are reachable nodes
counted_nodes : {w s r : List ℕ} {c : Counters} {root : ℕ} → ReachIn w s c root r → (table : ℕ) (a : Arena) → Holds table w s c a → root < length a
    → count_below (has r) 4096 ≡ count_below (reaches a root) (length a)
counted_nodes {s = s} {r} {root = root} R table a H l =
    let e : 4096 ≡ (4096 - length a) + length a = omega (arith, start_room H, H.nodes, H.few_starts) in
    count_same (has r) (reaches a root) 4096 (R.is table a H)
    ∙ ap (count_below (reaches a root)) e
    ∙ count_on (reaches a root) (length a) (4096 - length a) (λ m k.
    not_true (reaches a root m) (λ p.
    let P = reaches_place table a H.good m root l p in
    let q = place_lower table a H.good P.place l in
    omega (arith, k, q, l)))

pub nodes_counted : {w s r : List ℕ} {c : Counters} {root n : ℕ} → root < c.nodes → ReachIn w s c root r → n ≡ count_below (has r) 4096 → Says reach_count w s c root n
unfolding reach_count
nodes_counted {root = root} h R e = record { is = λ table a H. e ∙ counted_nodes R table a H (subst (λ (k : ℕ). root < k) H.nodes h) }
