-- One node and its partner: equal trees need the same data and children with equal trees, and no node of the left can have two partners.
use Prim.Native.Nat.{ℕ, ◌-◌, ◌<◌}
use mathlib.Core.Path.{◌≡◌, refl, sym, ap, ◌∙◌, subst}
use mathlib.Core.Bool.{Bool, true, false, not}
use mathlib.Core.List.{List}
use mathlib.Core.Logic.{◌⊎◌, inl, inr}
use native.Mathlib.Omega.{arith}
use lib.ListN.{length, get_or}
use borrow.Author.Tests.{not-true, not-false}
use Rattle.types.specs.Node.{children}
use Rattle.types.specs.Arena.{at}
use Rattle.types.specs.Fault.{children_in}
use Rattle.types.specs.declared.Counters.{Counters}
use Rattle.types.proofs.Tests.{true_false}
use Rattle.types.proofs.Nodes.{length_encode}
use Rattle.types.proofs.Faults.{children_encode}
use Rattle.types.proofs.Sound.{child_lower}
use Rattle.node_store.specs.Inner.Stored.{InRange, NodeAt}
use Rattle.equal.specs.Equal.{tree}
use Rattle.equal.specs.Inner.Data.{Named, SameData}
use Rattle.soundness.proofs.Sides.{side_lent}
use Rattle.equal.specs.Inner.Pairs.{Pair, Beside, Clash, Level, GivesAll, Mapped, Matched, Agreeing, Below, Visit, Visiting, Visited}
use Rattle.equal.proofs.OnePartner.{named_at, one_partner}
use Rattle.equal.proofs.SameNodes.{Alike, data_alike, alike_data}
use Rattle.equal.proofs.Descending.{trees_alike, child_trees, side_small}

module _ {ks w s : List ℕ} {c : Counters} {v r : List ℕ} {d : Counters} {n : ℕ} {ps : List ℕ} (V' : Visiting ks w s c v r d n ps) where
  pub visit_small : n < 4096
  visit_small = side_small V'.sides.left V'.inside

  module _ {x : ℕ} (e : x ≡ get_or ps n 0) where
    module _ (f : x ≡ 0 → ⊥) where
      there : Pair ps n (x - 1)
      there = omega (arith, e, f)

      pub visit_right : InRange v r d (x - 1)
      visit_right = record { lent = side_lent V'.sides.right; inside = V'.partners n (x - 1) there }

      -- the two nodes, in any arenas that memory holds
      module _ (X : Mapped ks w s c v r d) where
        left_in : n < length X.left.view
        left_in = omega (arith, V'.inside, X.left.holds.nodes)

        right_in : x - 1 < length X.right.view
        right_in = let p = V'.partners n (x - 1) there in omega (arith, p, X.right.holds.nodes)

        left_named : Named X.left.names (at X.left.view n)
        left_named = named_at X.left.names X.left.view X.left.holds.good n left_in

        right_named : Named X.right.names (at X.right.view (x - 1))
        right_named = named_at X.right.names X.right.view X.right.holds.good (x - 1) right_in

        agreed : Agreeing X.left.names X.left.view X.right.names X.right.view ps → tree X.left.names X.left.view n ≡ tree X.right.names X.right.view (x - 1)
        agreed A = A.trees n (x - 1) there

        children_agree : Agreeing X.left.names X.left.view X.right.names X.right.view ps → (j q : ℕ) → Beside (children (at X.left.view n)) (children (at X.right.view (x - 1))) j q → tree X.left.names X.left.view j ≡ tree X.right.names X.right.view q
        children_agree A = child_trees X.left.names (length X.left.names) X.left.view X.left.holds.good X.right.names (length X.right.names) X.right.view X.right.holds.good n (x - 1) left_in right_in (agreed A)

        must_alike : Agreeing X.left.names X.left.view X.right.names X.right.view ps → Alike X.left.names X.right.names (at X.left.view n) (at X.right.view (x - 1))
        must_alike A = trees_alike X.left.names (length X.left.names) X.left.view X.left.holds.good X.right.names (length X.right.names) X.right.view X.right.holds.good n (x - 1) left_in right_in (agreed A)

      module _ {a b : List ℕ} (N : NodeAt w s c n a) (M : NodeAt v r d (x - 1) b) where
        pub visit_headed : 0 < length a
        visit_headed = let X = V'.sides in let l = ap length (N.is _ X.left.view X.left.holds) ∙ length_encode (at X.left.view n) in omega (arith, l)

        module _ (X : Mapped ks w s c v r d) where
          left_children : children_in a ≡ children (at X.left.view n)
          left_children = ap children_in (N.is _ X.left.view X.left.holds) ∙ children_encode (at X.left.view n) (left_named X).formed_so

          right_children : children_in b ≡ children (at X.right.view (x - 1))
          right_children = ap children_in (M.is _ X.right.view X.right.holds) ∙ children_encode (at X.right.view (x - 1)) (right_named X).formed_so

        module _ {o : Bool} (S : SameData ks a b o) where
          -- other data: the trees differ
          pub visit_unlike : not o ≡ true → Visited ks w s c v r d n ps ps false
          visit_unlike g = record {
            is = λ X. record {
              long = refl;
              kept = λ j q h. h;
              only = λ j q h. inl h;
              matched = λ h. absurd (true_false (sym h));
              refuted = λ h A.
                  true_false (sym (alike_data _ _ _ _ (must_alike X A))
                  ∙ sym (S.is X.left.names X.right.names X.matches (at X.left.view n) (at X.right.view (x - 1)) (left_named X) (right_named X) (N.is _ _ X.left.holds) (M.is _ _ X.right.holds))
                  ∙ not-true o g);
            };
          }

          module _ (g : not o ≡ false) where
            alike : (X : Mapped ks w s c v r d) → Alike X.left.names X.right.names (at X.left.view n) (at X.right.view (x - 1))
            alike X =
                data_alike X.left.names X.right.names (at X.left.view n) (at X.right.view (x - 1))
                (sym (S.is X.left.names X.right.names X.matches (at X.left.view n) (at X.right.view (x - 1)) (left_named X) (right_named X) (N.is _ _ X.left.holds) (M.is _ _ X.right.holds))
                ∙ not-false o g)

            pub visit_level : Level a b ps
            visit_level =
                let X = V'.sides in
                record { count = ap length (left_children X) ∙ (alike X).counts ∙ ap length (sym (right_children X)); long = V'.long }

            module _ {qs : List ℕ} {z : Bool} (G : GivesAll (children_in a) (children_in b) ps qs z) where
              module _ (X : Mapped ks w s c v r d) where
                given : GivesAll (children (at X.left.view n)) (children (at X.right.view (x - 1))) ps qs z
                given = subst (λ (y : List ℕ). GivesAll y (children (at X.right.view (x - 1))) ps qs z) (left_children X) (subst (λ (y : List ℕ). GivesAll (children_in a) y ps qs z) (right_children X) G)

                matched : z ≡ true → Matched X.left.names X.left.view X.right.names X.right.view qs n (x - 1)
                matched h = record { labels = (alike X).labels; counts = (alike X).counts; paired = given.given h }

                child_in : {j q : ℕ} → Beside (children (at X.left.view n)) (children (at X.right.view (x - 1))) j q → q < length X.right.view
                child_in B =
                    let l = child_lower (length X.right.names) X.right.view X.right.holds.good (x - 1) (right_in X) B.index (omega (arith, B.inside, (alike X).counts)) in
                    let p = right_in X in
                    omega (arith, l, p, B.right)

                -- a partner in the new pairs is a node of the right, with the same tree
                partner_in : (j q : ℕ) → Pair qs j q → q < length X.right.view
                partner_in j q h = go (given.only j q h)
                  where
                    go : Pair ps j q ⊎ Beside (children (at X.left.view n)) (children (at X.right.view (x - 1))) j q → q < length X.right.view
                    go (inl y) = let p = V'.partners j q y in omega (arith, p, X.right.holds.nodes)
                    go (inr B) = child_in B

                refuted : z ≡ false → Agreeing X.left.names X.left.view X.right.names X.right.view ps → ⊥
                refuted h A = K.other.differs (one_partner X.right_table X.right.names X.right.is X.right.view X.right.holds.good K.other.partner K.beside (partner_in K.node K.other.partner K.other.there) (child_in K.pair) (sym one ∙ children_agree X A K.node K.beside K.pair))
                  where
                    K : Clash (children (at X.left.view n)) (children (at X.right.view (x - 1))) qs
                    K = given.clash h

                    go : Pair ps K.node K.other.partner ⊎ Beside (children (at X.left.view n)) (children (at X.right.view (x - 1))) K.node K.other.partner → tree X.left.names X.left.view K.node ≡ tree X.right.names X.right.view K.other.partner
                    go (inl y) = A.trees _ _ y
                    go (inr B) = children_agree X A _ _ B

                    one : tree X.left.names X.left.view K.node ≡ tree X.right.names X.right.view K.other.partner
                    one = go (given.only _ _ K.other.there)

                outcome : Visit X.left.names X.left.view X.right.names X.right.view n ps qs z
                outcome = record { long = given.long; kept = given.kept; only = λ j q h. go j q (given.only j q h); matched = λ h p y. subst (Matched X.left.names X.left.view X.right.names X.right.view qs n) (let q : x - 1 ≡ p = omega (arith, e, f, y) in q) (matched h); refuted = refuted }
                  where
                    go : (j q : ℕ) → Pair ps j q ⊎ Beside (children (at X.left.view n)) (children (at X.right.view (x - 1))) j q → Pair ps j q ⊎ Below X.left.view X.right.view ps n j q
                    go j q (inl y) = inl y
                    go j q (inr B) = inr (record { partner = x - 1; there = there; beside = B })

              pub visit_paired : Visited ks w s c v r d n ps qs z
              visit_paired = record { is = outcome }
