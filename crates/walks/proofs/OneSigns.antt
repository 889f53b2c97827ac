-- The nodes in one of the two sets but not in both are those with places of one sign; for variables' nodes that is `Removable`.
use Prim.Native.Nat.{ℕ, ◌<◌}
use mathlib.Core.Path.{◌≡◌, refl, sym, ◌∙◌, subst}
use mathlib.Core.Bool.{Bool, true, false, xor}
use mathlib.Core.List.{List}
use native.Mathlib.Decide.{dec_lt}
use native.Mathlib.Omega.{arith}
use Rattle.types.specs.Node.{Polarity, positive, negative}
use Rattle.types.specs.Arena.{Arena}
use Rattle.types.specs.Places.{opposite, Place, Occurs}
use Rattle.types.specs.Memory.{Holds}
use Rattle.types.specs.declared.Counters.{Counters}
use Rattle.types.proofs.Tests.{true_false, not_true}
use Rattle.types.proofs.Walks.{place_lower}
use Rattle.bits.specs.Bits.{has}
use Rattle.bits.specs.Inner.{SymmetricDifference}
use Rattle.node_store.specs.Inner.Stored.{InRange}
use Rattle.walks.specs.Inner.Signs.{side, SignsIn}
use Rattle.walks.specs.Removable.{OneSigned}
use Rattle.walks.specs.Inner.Sets.{OneSignedIn}
use Rattle.walks.specs.Theorems.{OneSignedRemovable}
use Rattle.walks.proofs.Marks.{root_small}
use Rattle.walks.proofs.Variables.{one_node}

-- ---- in one set and not in the other
record Alone (p q : List ℕ) (u : ℕ) : Type 0 where
  sign : Polarity
  there : has (side sign p q) u ≡ true
  lacking : has (side (opposite sign) p q) u ≡ false

module _ (p q : List ℕ) (u : ℕ) where
  alone : xor (has p u) (has q u) ≡ true → Alone p q u
  unfolding xor
  alone e = go (has p u) refl (has q u) refl e
    where
      go : (x : Bool) → has p u ≡ x → (y : Bool) → has q u ≡ y → xor x y ≡ true → Alone p q u
      go true f true g e = absurd (true_false (sym e))
      go true f false g e = record { sign = positive; there = f; lacking = g }
      go false f true g e = record { sign = negative; there = g; lacking = f }
      go false f false g e = absurd (true_false (sym e))

  alone_xor : (t : Polarity) → has (side t p q) u ≡ true → has (side (opposite t) p q) u ≡ false → xor (has p u) (has q u) ≡ true
  unfolding xor
  alone_xor positive f g = rw (f, g)
  alone_xor negative f g = rw (f, g)

module _ {w s : List ℕ} {c : Counters} {root : ℕ} (R : InRange w s c root) where
  pub one_sign : {p q r : List ℕ} → SignsIn w s c root p q → SymmetricDifference p q r → OneSignedIn w s c root r
  one_sign {p} {q} {r} S D = record { is = λ table a H. record { sound = there table a H; complete = back table a H } }
    where
      there : (table : ℕ) (a : Arena) → Holds table w s c a → (u : ℕ) → has r u ≡ true → OneSigned a root u
      there table a H u e = go (dec_lt u 4096)
        where
          go : Dec (u < 4096) → OneSigned a root u
          go (yes l) =
              let A = alone p q u (sym (D.is u l) ∙ e) in
              let G = S.is table a H in
              record { sign = A.sign; place = G.sound A.sign u A.there; unplaced = λ x. true_false (sym (G.complete (opposite A.sign) u x) ∙ A.lacking) }
          go (no l) = absurd (true_false (sym e ∙ D.beyond u (omega arith)))

      back : (table : ℕ) (a : Arena) → Holds table w s c a → (u : ℕ) → OneSigned a root u → has r u ≡ true
      back table a H u O =
          let G = S.is table a H in
          let l = place_lower table a H.good O.place (omega (arith, R.inside, H.nodes)) in
          D.is u (omega (arith, root_small R))
          ∙ alone_xor p q u O.sign (G.complete O.sign u O.place) (not_true (has (side (opposite O.sign) p q) u) (λ e. O.unplaced (G.sound (opposite O.sign) u e)))

-- ---- a variable's node
pub one_signed_removable : OneSignedRemovable
one_signed_removable table a h root u v e = (
  λ O. record { sign = O.sign; seen = record { number = u; is = e; place = O.place }; unseen = λ S. O.unplaced (moved S) },
  λ M. record { sign = M.sign; place = moved M.seen; unplaced = λ x. M.unseen (record { number = u; is = e; place = x }) },
)
  where
    moved : {s : Polarity} → Occurs a root v s → Place a root positive u s
    moved {s} S = subst (λ (n : ℕ). Place a root positive n s) (one_node table a h S.number u v S.is e) S.place
