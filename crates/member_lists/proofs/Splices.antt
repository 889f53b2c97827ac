-- What a member brings, by its kind; then what the members bring, one after another.
use Prim.Native.Nat.{ℕ, suc, ◌+◌, ◌<◌, ◌≤◌}
use mathlib.Core.Path.{◌≡◌, refl, sym, ap, ◌∙◌, subst}
use mathlib.Core.List.{List, [], ◌∷◌, ◌++◌, append-nil, append_assoc, flat_map}
use native.Mathlib.Omega.{arith}
use lib.ListN.{length, get_or, take, drop}
use lib.Seq.{take_all}
use Rattle.std.specs.Prelude.{Ok, Err}
use Rattle.types.specs.declared.refusal.Refusal.{Refusal}
use Rattle.types.specs.Out.{Out}
use Rattle.types.specs.Kind.{disc}
use Rattle.types.specs.Node.{Polarity, members, bound, Node, tag, kind, children, encode}
use Rattle.types.specs.Arena.{Arena, at}
use Rattle.types.specs.Fault.{children_in}
use Rattle.types.specs.Memory.{Holds}
use Rattle.types.specs.declared.Counters.{Counters}
use Rattle.types.proofs.Lists.{below_at}
use Rattle.types.proofs.Faults.{children_encode}
use Rattle.types.proofs.Sound.{at_formed}
use Rattle.node_store.specs.Inner.Stored.{NodeAt}
use Rattle.node_reading.specs.Inner.{KindAt}
use Rattle.walks.proofs.Marks.{root_small}
use Rattle.simplification.specs.Pass.{splice}
use Rattle.simplification.proofs.Answers.{same_tag_if, same_tag_not}
use Rattle.member_lists.specs.Inner.Members.{NeutralOf, Adding, Grows, Gathering, Splicing, Flattening, Flattens}
use Rattle.member_lists.proofs.BoundKinds.{list_told, bound_told}
use Rattle.member_lists.proofs.Copying.{grows_none, grows_then, grows_full, parted, next_part}

-- ---- what one member brings
abbrev brings : Polarity → Arena → ℕ → List ℕ
brings k a n = splice k n (at a n)

module _ (k : Polarity) (n : ℕ) (x : Node) where
  splice_list : tag x ≡ members k → splice k n x ≡ children x
  unfolding splice
  splice_list e = rw (splice, same_tag_if _ _ e)

  module _ (f : tag x ≡ members k → ⊥) where
    splice_neutral : tag x ≡ bound k → splice k n x ≡ []
    unfolding splice
    splice_neutral e = rw (splice, same_tag_not _ _ f, same_tag_if _ _ e)

    splice_other : (tag x ≡ bound k → ⊥) → splice k n x ≡ n ∷ []
    unfolding splice
    splice_other g = rw (splice, same_tag_not _ _ f, same_tag_not _ _ g)

one_brings : (f : ℕ → List ℕ) (n : ℕ) → flat_map f (n ∷ []) ≡ f n
unfolding flat_map
one_brings f n = append-nil (f n)

pub splicing_adds : {w s : List ℕ} {c : Counters} {n : ℕ} {items : List ℕ} {count : ℕ} {met : List ℕ} → Splicing w s c n items count met → Adding items count met n
splicing_adds S = record { growing = S.growing; inside = root_small S.range }

module _ {w s : List ℕ} {c : Counters} {n : ℕ} {items : List ℕ} {count : ℕ} {met : List ℕ} (S : Splicing w s c n items count met) {number : ℕ} where
  brought : {items' met' : List ℕ} {r : Out ℕ} → ((table : ℕ) (a : Arena) (k : Polarity) → Holds table w s c a → number ≡ disc (kind (members k)) → Grows items count met (brings k a n) items' met' r)
      → Flattens w s c number (n ∷ []) items count met items' met' r
  brought {items'} {met'} {r} f = record { is = λ table a k H e. subst (λ (xs : List ℕ). Grows items count met xs items' met' r) (sym (one_brings (brings k a) n)) (f table a k H e) }

  module _ {own : ℕ} (K : KindAt w s c n own) where
    pub brings_members : own ≡ number → {m : ℕ} → m ≡ n → {ws items' met' : List ℕ} {r : Out ℕ} → NodeAt w s c m ws → Grows items count met (children_in ws) items' met' r → Flattens w s c number (n ∷ []) items count met items' met' r
    brings_members q e {ws} {items'} {met'} {r} N G = brought (λ table a k H p.
        let t : tag (at a n) ≡ members k = list_told (tag (at a n)) k (sym (K.is table a H) ∙ q ∙ p) in
        let l : n < length a = omega (arith, S.range.inside, H.nodes) in
        let z : children_in ws ≡ brings k a n
        = ap children_in (N.is table a H ∙ ap (λ (i : ℕ). encode (at a i)) e) ∙ children_encode (at a n) (at_formed table a H.good n l) ∙ sym (splice_list k n (at a n) t) in
        subst (λ (xs : List ℕ). Grows items count met xs items' met' r) z G)

    module _ (f : own ≡ number → ⊥) {d : ℕ} (D : NeutralOf number d) where
      other_kind : (table : ℕ) (a : Arena) (k : Polarity) → Holds table w s c a → number ≡ disc (kind (members k)) → tag (at a n) ≡ members k → ⊥
      other_kind table a k H p t = f (K.is table a H ∙ ap (λ u. disc (kind u)) t ∙ sym p)

      pub brings_nothing : own ≡ d → Flattens w s c number (n ∷ []) items count met items met (Ok count)
      brings_nothing q = brought (λ table a k H p.
          let t : tag (at a n) ≡ bound k = bound_told (tag (at a n)) k (sym (K.is table a H) ∙ q ∙ D.is k p) in
          subst (λ (xs : List ℕ). Grows items count met xs items met (Ok count)) (sym (splice_neutral k n (at a n) (other_kind table a k H p) t)) (grows_none S.growing))

      pub brings_itself : (own ≡ d → ⊥) → {items' met' : List ℕ} {r : Out ℕ} → Grows items count met (n ∷ []) items' met' r → Flattens w s c number (n ∷ []) items count met items' met' r
      brings_itself g {items'} {met'} {r} G = brought (λ table a k H p.
          let u : tag (at a n) ≡ bound k → ⊥ = λ t. g (K.is table a H ∙ ap (λ u. disc (kind u)) t ∙ sym (D.is k p)) in
          subst (λ (xs : List ℕ). Grows items count met xs items' met' r) (sym (splice_other k n (at a n) (other_kind table a k H p) u)) G)

-- ---- what the members bring
brings_append : (f : ℕ → List ℕ) (xs ys : List ℕ) → flat_map f (xs ++ ys) ≡ flat_map f xs ++ flat_map f ys
unfolding flat_map
brings_append f [] ys = refl
brings_append f (x ∷ xs) ys = ap (λ (l : List ℕ). f x ++ l) (brings_append f xs ys) ∙ sym (append_assoc (f x) (flat_map f xs) (flat_map f ys))

-- the first i members are passed
pub record Passed (w s : List ℕ) (c : Counters) (number : ℕ) (ms items₀ met₀ items : List ℕ) (held : ℕ) (met : List ℕ) (i : ℕ) : Type 0 where
  pub gathering : Gathering w s c number ms
  pub high : i ≤ length ms
  pub flattens : Flattens w s c number (take i ms) items₀ 0 met₀ items met (Ok held)

module _ {w s : List ℕ} {c : Counters} {number : ℕ} {ms items₀ met₀ : List ℕ} where
  pub passed_start : Flattening w s c number ms items₀ met₀ → Passed w s c number ms items₀ met₀ items₀ 0 met₀ 0
  unfolding flat_map
  passed_start F = record {
    gathering = F.gathering;
    high = omega arith;
    flattens = record { is = λ table a k H e. grows_none F.growing };
  }

  module _ {items : List ℕ} {held : ℕ} {met : List ℕ} {i : ℕ} (P : Passed w s c number ms items₀ met₀ items held met i) where
    pub passed_next : i < length ms → Splicing w s c (get_or ms i 0) items held met
    passed_next l =
        let G = P.gathering in
        record {
          range = record { lent = G.lent; inside = below_at c.nodes ms G.low i l };
          growing = (P.flattens.is G.lent.table G.lent.view G.side G.lent.holds G.kind_is).growing held refl;
        }

    pub passed_done : length ms ≤ i → Flattens w s c number ms items₀ 0 met₀ items met (Ok held)
    passed_done h = rw (take_all i ms h) at P.flattens

    module _ (l : i < length ms) {items' met' : List ℕ} {r : Out ℕ} (F : Flattens w s c number (get_or ms i 0 ∷ []) items held met items' met' r) where
      both : Flattens w s c number (take i ms ++ (get_or ms i 0 ∷ [])) items₀ 0 met₀ items' met' r
      both = record {
        is = λ table a k H e.
            subst (λ (xs : List ℕ). Grows items₀ 0 met₀ xs items' met' r) (sym (brings_append (brings k a) (take i ms) (get_or ms i 0 ∷ []))) (grows_then (P.flattens.is table a k H e) (F.is table a k H e));
      }

      pub passed_more : {next : ℕ} → r ≡ Ok next → Passed w s c number ms items₀ met₀ items' next met' (i + 1)
      passed_more {next} q = record {
        gathering = P.gathering;
        high = omega arith;
        flattens = subst (λ (xs : List ℕ). Flattens w s c number xs items₀ 0 met₀ items' met' (Ok next)) (sym (next_part ms i l)) (rw q at both);
      }

      pub passed_full : {v : Refusal} → r ≡ Err v → Flattens w s c number ms items₀ 0 met₀ items' met' (Err v)
      passed_full {v} q = record {
        is = λ table a k H e.
            subst (λ (xs : List ℕ). Grows items₀ 0 met₀ (flat_map (brings k a) xs) items' met' (Err v)) (sym (parted ms i l))
            (subst (λ (xs : List ℕ). Grows items₀ 0 met₀ xs items' met' (Err v)) (sym (brings_append (brings k a) (take i ms ++ (get_or ms i 0 ∷ [])) (drop (suc i) ms)))
            (grows_full (flat_map (brings k a) (drop (suc i) ms)) ((rw q at both).is table a k H e)));
      }
