-- Room at a place: the items behind it go up by one.
use Prim.Native.Nat.{ℕ, suc, ◌+◌, ◌-◌}
use mathlib.Core.Path.{◌≡◌, sym, ap, ◌∙◌}
use mathlib.Core.List.{List, [], ◌∷◌, ◌++◌, append_assoc}
use native.Mathlib.Omega.{arith}
use lib.ListN.{length, get_or, take, drop, length-drop}
use lib.Seq.{take-suc, paste}
use Rattle.std.proofs.lemmas.List.{drop-take, take-take}
use Rattle.std.proofs.lemmas.List.Edits.{take-paste}
use Rattle.member_sorting.specs.Inner.{Gap, OpensGap}

module _ {items items' : List ℕ} {place count : ℕ} (G : Gap items place count) where
  pub gap_opened : length items' ≡ length items → items' ≡ paste items (place + 1) (drop place items) (count - place) → OpensGap items place count items'
  gap_opened l e = record { hole = get_or items place 0; inside = omega (arith, G.few, G.room); long = l ∙ G.long; is = is }
    where
      one : suc count ≡ place + 1 + (count - place)
      one = omega (arith, G.few)

      all : place + (count - place) ≡ count
      all = omega (arith, G.few)

      front : take (place + 1) items ≡ take place (take count items) ++ (get_or items place 0 ∷ [])
      front =
          let k : suc place ≡ place + 1 = omega arith in
          ap (λ (n : ℕ). take n items) (sym k) ∙ take-suc items place 0 (omega (arith, G.few, G.room, G.long))
          ∙ ap (λ (xs : List ℕ). xs ++ (get_or items place 0 ∷ [])) (sym (take-take place count items G.few))

      back : take (count - place) (drop place items) ≡ drop place (take count items)
      back = sym (drop-take place (count - place) items) ∙ ap (λ (n : ℕ). drop place (take n items)) all

      is : take (suc count) items' ≡ take place (take count items) ++ get_or items place 0 ∷ drop place (take count items)
      is =
          ap (take (suc count)) e ∙ ap (λ (n : ℕ). take n (paste items (place + 1) (drop place items) (count - place))) one
          ∙ take-paste items (place + 1) (drop place items) (count - place) (omega (arith, G.few, G.room, G.long)) (omega (arith, length-drop place items, G.room, G.long))
          ∙ (λ i. front i ++ back i) ∙ append_assoc (take place (take count items)) (get_or items place 0 ∷ []) (drop place (take count items))
