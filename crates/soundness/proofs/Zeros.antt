-- The loops that ask whether every word is zero: the words passed are, exactly if no bit of them is set.
use Prim.Native.Nat.{ℕ, zero, suc, ◌+◌, ◌-◌, ◌/◌, ◌<◌, ◌≤◌}
use mathlib.Core.Path.{◌≡◌, refl, sym, ap, ◌∙◌}
use mathlib.Core.Bool.{Bool, true, false, ◌&&◌}
use mathlib.Core.List.{List, [], ◌∷◌}
use native.Mathlib.Decide.{ℕ_discrete}
use native.Mathlib.Omega.{arith}
use lib.ListN.{length, get_or, take, drop, length-drop}
use lib.Seq.{take_all, length-take-le}
use lib.Bits.{bit_or, or_add_and, and_le_l, and_le_r}
use lib.Dec.{eqb, ltb}
use borrow.Author.Count.{below_more}
use borrow.Author.Tests.{eqb-true, eqb-false, eq-eqb}
use Rattle.types.specs.Node.{below}
use Rattle.types.proofs.Lists.{below_by, below_not}
use Rattle.types.proofs.Tests.{and_true, both, same_truth}
use Rattle.soundness.specs.Inner.Zero.{Alike, four_zero}

-- `|` is zero exactly if both are
or_left : (a b : ℕ) → bit_or a b ≡ 0 → a ≡ 0
or_left a b e = omega (arith, or_add_and a b, and_le_r a b)

or_right : (a b : ℕ) → bit_or a b ≡ 0 → b ≡ 0
or_right a b e = omega (arith, or_add_and a b, and_le_l a b)

or_none : (a b : ℕ) → a ≡ 0 → b ≡ 0 → bit_or a b ≡ 0
or_none a b p q = omega (arith, or_add_and a b)

-- ---- the ones of the words passed
pub record Ones (ws : List ℕ) (ones i : ℕ) : Type 0 where
  pub high : i ≤ length ws
  pub none : ones ≡ 0 → (j : ℕ) → j < i → get_or ws j 0 < 1
  pub some : (ones ≡ 0 → ⊥) → below 1 ws ≡ false

pub ones_start : (ws : List ℕ) → Ones ws 0 0
ones_start ws = record { high = omega arith; none = λ e j h. absurd (omega arith); some = λ f. absurd (f refl) }

module _ {ws : List ℕ} {ones i : ℕ} (O : Ones ws ones i) where
  pub ones_more : i < length ws → Ones ws (bit_or ones (get_or ws i 0)) (i + 1)
  ones_more h = record {
    high = omega arith;
    none = λ e. let z = or_right ones (get_or ws i 0) e in below_more _ _ (O.none (or_left ones (get_or ws i 0) e)) (omega arith);
    some = λ f. go f (ℕ_discrete (get_or ws i 0) 0);
  }
    where
      go : (bit_or ones (get_or ws i 0) ≡ 0 → ⊥) → Dec (get_or ws i 0 ≡ 0) → below 1 ws ≡ false
      go f (yes z) = O.some (λ e. f (or_none ones (get_or ws i 0) e z))
      go f (no z) = below_not 1 ws i h (omega arith)

  pub ones_done : length ws ≤ i → eqb ones 0 ≡ below 1 ws
  ones_done h = go (eqb ones 0) refl
    where
      go : (b : Bool) → eqb ones 0 ≡ b → b ≡ below 1 ws
      go true e = sym (below_by 1 ws (λ j l. O.none (eqb-true ones 0 e) j (omega arith)))
      go false e = sym (O.some (eqb-false ones 0 e))

tests : (n p q r s : ℕ) → (n ≡ 0 → (p ≡ 0) × ((q ≡ 0) × ((r ≡ 0) × (s ≡ 0)))) → (p ≡ 0 → q ≡ 0 → r ≡ 0 → s ≡ 0 → n ≡ 0) → eqb n 0 ≡ (eqb p 0 && (eqb q 0 && (eqb r 0 && eqb s 0)))
tests n p q r s f g =
    same_truth (eqb n 0) _
    (λ e. let (w, (x, (y, z))) = f (eqb-true n 0 e) in both (eq-eqb p 0 w) (both (eq-eqb q 0 x) (both (eq-eqb r 0 y) (eq-eqb s 0 z))))
    (λ e.
    let (w, e') = and_true (eqb p 0) (eqb q 0 && (eqb r 0 && eqb s 0)) e in
    let (x, e'') = and_true (eqb q 0) (eqb r 0 && eqb s 0) e' in
    let (y, z) = and_true (eqb r 0) (eqb s 0) e'' in
    eq-eqb n 0 (g (eqb-true p 0 w) (eqb-true q 0 x) (eqb-true r 0 y) (eqb-true s 0 z)))

-- ---- four stretches at once: each has its own ones, and all of them are zero exactly if those of all are
pub record Four (a b c d : List ℕ) (ones i : ℕ) : Type 0 where
  pub alike : Alike a b c d
  pub firsts : ℕ
  pub seconds : ℕ
  pub thirds : ℕ
  pub fourths : ℕ
  pub first : Ones a firsts i
  pub second : Ones b seconds i
  pub third : Ones c thirds i
  pub fourth : Ones d fourths i
  pub none : ones ≡ 0 → (firsts ≡ 0) × ((seconds ≡ 0) × ((thirds ≡ 0) × (fourths ≡ 0)))
  pub all : firsts ≡ 0 → seconds ≡ 0 → thirds ≡ 0 → fourths ≡ 0 → ones ≡ 0

module _ {a b c d : List ℕ} where
  pub four_start : Alike a b c d → Four a b c d 0 0
  four_start A = record {
    alike = A;
    firsts = 0;
    seconds = 0;
    thirds = 0;
    fourths = 0;
    first = ones_start a;
    second = ones_start b;
    third = ones_start c;
    fourth = ones_start d;
    none = λ e. (refl, (refl, (refl, refl)));
    all = λ p q r s. refl;
  }

  module _ {ones i : ℕ} (F : Four a b c d ones i) where
    pub four_more : i < length a → Four a b c d (bit_or (bit_or (bit_or (bit_or ones (get_or a i 0)) (get_or b i 0)) (get_or c i 0)) (get_or d i 0)) (i + 1)
    four_more h =
        let w = get_or a i 0 in
        let x = get_or b i 0 in
        let y = get_or c i 0 in
        let z = get_or d i 0 in
        record {
          alike = F.alike;
          firsts = bit_or F.firsts w;
          seconds = bit_or F.seconds x;
          thirds = bit_or F.thirds y;
          fourths = bit_or F.fourths z;
          first = ones_more F.first h;
          second = ones_more F.second (omega (arith, F.alike.second));
          third = ones_more F.third (omega (arith, F.alike.third));
          fourth = ones_more F.fourth (omega (arith, F.alike.fourth));
          none = λ e.
              let three = or_left (bit_or (bit_or (bit_or ones w) x) y) z e in
              let two = or_left (bit_or (bit_or ones w) x) y three in
              let one = or_left (bit_or ones w) x two in
              let (p, (q, (r, s))) = F.none (or_left ones w one) in
              (or_none F.firsts w p (or_right ones w one), (or_none F.seconds x q (or_right (bit_or ones w) x two), (or_none F.thirds y r (or_right (bit_or (bit_or ones w) x) y three), or_none F.fourths z s (or_right (bit_or (bit_or (bit_or ones w) x) y) z e))));
          all = λ p q r s.
              let e = F.all (or_left F.firsts w p) (or_left F.seconds x q) (or_left F.thirds y r) (or_left F.fourths z s) in
              let one = or_none ones w e (or_right F.firsts w p) in
              let two = or_none (bit_or ones w) x one (or_right F.seconds x q) in
              let three = or_none (bit_or (bit_or ones w) x) y two (or_right F.thirds y r) in
              or_none (bit_or (bit_or (bit_or ones w) x) y) z three (or_right F.fourths z s);
        }

    pub four_done : length a ≤ i → eqb ones 0 ≡ four_zero a b c d
    unfolding four_zero
    four_done h =
        tests ones F.firsts F.seconds F.thirds F.fourths F.none F.all
        ∙ (λ j. ones_done F.first h j && (ones_done F.second (omega (arith, F.alike.second)) j && (ones_done F.third (omega (arith, F.alike.third)) j && ones_done F.fourth (omega (arith, F.alike.fourth)) j)))

-- ---- words cut into four quarters and a rest
-- what the code lends as `&w[k..]`
abbrev rest : ℕ → List ℕ → List ℕ
rest k w = take (length w - k) (drop k w)

below_cut : (n k : ℕ) (w : List ℕ) → below n w ≡ (below n (take k w) && below n (drop k w))
unfolding below
below_cut n zero w = refl
below_cut n (suc k) [] = refl
below_cut n (suc k) (v ∷ w) = ap (λ (x : Bool). ltb v n && x) (below_cut n k w) ∙ and_assoc (ltb v n) (below n (take k w)) (below n (drop k w))
  where
    and_assoc : (x y z : Bool) → (x && (y && z)) ≡ ((x && y) && z)
    and_assoc true y z = refl
    and_assoc false y z = refl

below_rest : (n k : ℕ) (w : List ℕ) → below n w ≡ (below n (take k w) && below n (rest k w))
below_rest n k w = below_cut n k w ∙ ap (λ (l : List ℕ). below n (take k w) && below n l) (sym (take_all (length w - k) (drop k w) (omega (arith, length-drop k w))))

rest_length : (k : ℕ) (w : List ℕ) → length (rest k w) ≡ length w - k
rest_length k w = ap length (take_all (length w - k) (drop k w) (omega (arith, length-drop k w))) ∙ length-drop k w

part_length : (k : ℕ) (w : List ℕ) → k ≤ length w → k ≡ length (take k w)
part_length k w h = sym (length-take-le k w h)

-- the words from each quarter on
abbrev quarter : List ℕ → ℕ
quarter w = length w / 4

abbrev from_second : List ℕ → List ℕ
from_second w = rest (quarter w) w

abbrev from_third : List ℕ → List ℕ
from_third w = rest (quarter w) (from_second w)

abbrev from_fourth : List ℕ → List ℕ
from_fourth w = rest (quarter w) (from_third w)

module _ (w : List ℕ) where
  pub first_quarter : quarter w ≡ length (take (quarter w) w)
  first_quarter = part_length _ w (omega arith)

  pub second_quarter : quarter w ≡ length (take (quarter w) (from_second w))
  second_quarter = part_length _ _ (omega (arith, rest_length (quarter w) w))

  pub third_quarter : quarter w ≡ length (take (quarter w) (from_third w))
  third_quarter = part_length _ _ (omega (arith, rest_length (quarter w) (from_second w), rest_length (quarter w) w))

  pub fourth_quarter : quarter w ≡ length (take (quarter w) (from_fourth w))
  fourth_quarter =
      part_length _ _ (omega (arith, rest_length (quarter w) (from_third w), rest_length (quarter w) (from_second w), rest_length (quarter w) w))

  pub quarters_alike : Alike (take (quarter w) w) (take (quarter w) (from_second w)) (take (quarter w) (from_third w)) (take (quarter w) (from_fourth w))
  quarters_alike = record { second = sym second_quarter ∙ first_quarter; third = sym third_quarter ∙ first_quarter; fourth = sym fourth_quarter ∙ first_quarter }

  pub quarters_zero : {x y : Bool} → x ≡ four_zero (take (quarter w) w) (take (quarter w) (from_second w)) (take (quarter w) (from_third w)) (take (quarter w) (from_fourth w)) → y ≡ below 1 (rest (quarter w) (from_fourth w)) → (x && y) ≡ below 1 w
  unfolding four_zero
  quarters_zero e f =
      let q = quarter w in
      let b = from_second w in
      let c = from_third w in
      let d = from_fourth w in
      (λ i. e i && f i)
      ∙ joined (below 1 (take q w)) (below 1 (take q b)) (below 1 (take q c)) (below 1 (take q d)) (below 1 (rest q d))
      ∙ sym (below_rest 1 q w ∙ ap (λ (x : Bool). below 1 (take q w) && x) (below_rest 1 q b ∙ ap (λ (x : Bool). below 1 (take q b) && x) (below_rest 1 q c ∙ ap (λ (x : Bool). below 1 (take q c) && x) (below_rest 1 q d))))
    where
      joined : (x y z u v : Bool) → ((x && (y && (z && u))) && v) ≡ (x && (y && (z && (u && v))))
      joined false y z u v = refl
      joined true false z u v = refl
      joined true true false u v = refl
      joined true true true u v = refl
