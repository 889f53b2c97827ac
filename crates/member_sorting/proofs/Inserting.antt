-- A member is inserted at its place, and so are the members one after another.
use Prim.Native.Nat.{ℕ, suc, ◌+◌, ◌<◌, ◌≤◌}
use mathlib.Core.Path.{◌≡◌, refl, sym, ap, ◌∙◌}
use mathlib.Core.Bool.{true}
use mathlib.Core.List.{List, ◌∷◌, ◌++◌}
use native.Mathlib.Omega.{arith}
use native.Mathlib.Numerals.{add-one}
use lib.ListN.{length, get_or, take, drop, set, length-set}
use lib.Seq.{length-take-le, drop-cons, take-set-lt, set_at, drop-length}
use Rattle.types.specs.Node.{below}
use Rattle.types.specs.Arena.{Arena}
use Rattle.types.specs.Memory.{Holds}
use Rattle.types.specs.declared.Counters.{Counters}
use Rattle.types.proofs.Lists.{below_at}
use Rattle.member_sorting.specs.Sort.{insert_member, sort_onto, sort}
use Rattle.member_sorting.specs.Inner.{PlaceOf, Gap, OpensGap, Inserting, Inserts, Sorting, Sorts}
use Rattle.member_sorting.proofs.Sorted.{insert_below}

-- ---- one member
module _ {w s : List ℕ} {c : Counters} {m : ℕ} {items : List ℕ} {count : ℕ} (I : Inserting w s c m items count) where
  inserting_room : count ≤ length items
  inserting_room = omega (arith, I.long, I.room)

  module _ {place : ℕ} {ms : List ℕ} (e : ms ≡ take count items) (P : PlaceOf w s c m ms place) where
    count_is : length ms ≡ count
    count_is = ap length e ∙ length-take-le count items inserting_room

    pub inserting_gap : Gap items place count
    inserting_gap = record { long = I.long; room = I.room; few = omega (arith, P.few, count_is) }

    pub inserted : {items' : List ℕ} → OpensGap items place count items' → Inserts w s c m items count (set items' place m)
    inserted {items'} O = record {
      long = length-set items' place m ∙ O.long;
      is = λ table a H.
          let cs = take count items in
          take-set-lt (suc count) items' place m (omega (arith, inserting_gap.few)) ∙ ap (λ (y : List ℕ). set y place m) O.is
          ∙ set_at (take place cs) O.hole (drop place cs) m place (length-take-le place cs (omega (arith, P.few, ap length e)))
          ∙ sym (ap (insert_member a m) (sym e) ∙ P.is table a H ∙ ap (λ (y : List ℕ). take place y ++ m ∷ drop place y) e);
    }

-- ---- one after another: the first i members are sorted
pub record Going (w s : List ℕ) (c : Counters) (ms items₀ items : List ℕ) (i : ℕ) : Type 0 where
  pub sorting : Sorting w s c ms items₀
  pub high : i ≤ length ms
  pub long : length items ≡ 64
  pub low : below c.nodes (take i items) ≡ true
  pub is : (table : ℕ) (a : Arena) → Holds table w s c a → sort a ms ≡ sort_onto a (take i items) (drop i ms)

module _ {w s : List ℕ} {c : Counters} {ms items₀ : List ℕ} where
  pub going_start : Sorting w s c ms items₀ → Going w s c ms items₀ items₀ 0
  unfolding sort below
  going_start S = record { sorting = S; high = omega arith; long = S.long; low = refl; is = λ table a H. refl }

  module _ {items : List ℕ} {i : ℕ} (G : Going w s c ms items₀ items i) where
    pub going_next : i < length ms → Inserting w s c (get_or ms i 0) items i
    going_next l = record {
      placing = record { range = record { lent = G.sorting.lent; inside = below_at c.nodes ms G.sorting.low i l }; low = G.low };
      long = G.long;
      room = omega (arith, l, G.sorting.few);
    }

    pub going_done : length ms ≤ i → Sorts w s c ms items
    unfolding sort_onto
    going_done h =
        let e : length ms ≡ i = omega (arith, h, G.high) in
        record {
          long = G.long;
          is = λ table a H.
              ap (λ (j : ℕ). take j items) e ∙ sym (G.is table a H ∙ ap (λ (j : ℕ). sort_onto a (take i items) (drop j ms)) (sym e) ∙ ap (sort_onto a (take i items)) (drop-length ms));
        }

    pub going_more : i < length ms → {items' : List ℕ} → Inserts w s c (get_or ms i 0) items i items' → Going w s c ms items₀ items' (i + 1)
    unfolding sort_onto
    going_more l {items'} I =
        let L = G.sorting.lent in
        let m = get_or ms i 0 in
        record {
          sorting = G.sorting;
          high = omega (arith, l);
          long = I.long;
          low = ap (λ (j : ℕ). below c.nodes (take j items')) (add-one i) ∙ ap (below c.nodes) (I.is L.table L.view L.holds)
              ∙ insert_below L.view m c.nodes (take i items) (below_at c.nodes ms G.sorting.low i l) G.low;
          is = λ table a H.
              G.is table a H ∙ ap (sort_onto a (take i items)) (drop-cons ms i 0 l) ∙ ap (λ (y : List ℕ). sort_onto a y (drop (suc i) ms)) (sym (I.is table a H))
              ∙ ap (λ (j : ℕ). sort_onto a (take j items') (drop j ms)) (sym (add-one i));
        }
