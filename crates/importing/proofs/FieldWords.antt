-- The field words of a node: those renamed so far, and whether the map lacks the name of one.
use Prim.Native.Nat.{ℕ, zero, suc, ◌+◌, ◌-◌, ◌<◌, ◌≤◌}
use mathlib.Core.Path.{◌≡◌, refl, sym, ap, ap₂, ◌∙◌}
use mathlib.Core.Bool.{Bool, ◌||◌}
use mathlib.Core.List.{List, [], ◌∷◌, map}
use native.Mathlib.Omega.{arith}
use native.Mathlib.Decide.{ℕ_discrete}
use lib.ListN.{length, get_or, set, length-set, get_or-eq_default}
use lib.Seq.{get_or-set_same, get_or-set_other}
use lib.Dec.{eqb}
use borrow.Author.Tests.{ne_eqb}
use Rattle.std.specs.List.{list_any}
use Rattle.words.specs.Words.{FieldFits, field_word, field_optional, field_name, child}
use Rattle.types.specs.Arena.{absent}
use Rattle.importing.specs.Import.{lacks_one}
use Rattle.importing.specs.Inner.Names.{entry, by_map, renamed_word, Known, Renaming, Renames}

-- ---- what the map has for a name
pub past_map : (ks : List ℕ) (w : ℕ) {k : ℕ} → length ks ≡ 4096 → k ≡ field_name w → 4096 ≤ k → 0 ≡ get_or ks (field_name w) 0
past_map ks w l e h = sym (get_or-eq_default ks 0 (omega (arith, l, h, e)))

pub in_map : (ks : List ℕ) (w : ℕ) {k r : ℕ} → k ≡ field_name w → r ≡ get_or ks k 0 → r ≡ get_or ks (field_name w) 0
in_map ks w e q = q ∙ ap (λ (i : ℕ). get_or ks i 0) e

-- ---- one field word
module _ {ks : List ℕ} {w : ℕ} (K : Known ks w) where
  pub some_number : {m : ℕ} → m ≡ get_or ks (field_name w) 0 → 1 ≤ m
  some_number e = omega (arith, e, K.some)

  pub number_fits : {m c : ℕ} → m ≡ get_or ks (field_name w) 0 → c ≡ child w → FieldFits (m - 1) c
  unfolding child
  number_fits e q = record { few_names = omega (arith, e, K.few); few_nodes = omega (arith, q) }

  pub word_renamed : {m c r : ℕ} {o : Bool} → m ≡ get_or ks (field_name w) 0 → c ≡ child w → o ≡ field_optional w → r ≡ field_word o (m - 1) c → r ≡ renamed_word ks w
  unfolding renamed_word
  word_renamed e q p z = z ∙ (λ i. field_word (p i) (e i - 1) (q i))

-- ---- the first i are renamed
pub record Turn (ks : List ℕ) (count : ℕ) (ws ws' : List ℕ) (i : ℕ) : Type 0 where
  pub turn : i ≤ count
  pub done : Renames ks i ws ws'

module _ {ks : List ℕ} {count : ℕ} {ws : List ℕ} (R : Renaming ks count ws) where
  pub turn_start : Turn ks count ws ws 0
  turn_start = record { turn = omega arith; done = record { size = R.size; head = refl; each = λ j l. absurd (omega arith); rest = λ j l. refl } }

  module _ {ws' : List ℕ} {i : ℕ} (T : Turn ks count ws ws' i) where
    module _ (h : i < count) where
      pub turn_in : i + 1 < 66
      turn_in = omega (arith, h, R.few)

      same_word : get_or ws' (i + 1) 0 ≡ get_or ws (i + 1) 0
      same_word = T.done.rest i (omega arith)

      pub turn_known : Known ks (get_or ws' (i + 1) 0)
      turn_known = rw same_word (R.known i h)

      pub turn_more : {v : ℕ} → v ≡ renamed_word ks (get_or ws' (i + 1) 0) → Turn ks count ws (set ws' (i + 1) v) (i + 1)
      turn_more {v} e = record {
        turn = omega arith;
        done = record {
          size = length-set ws' (i + 1) v ∙ T.done.size;
          head = get_or-set_other ws' (i + 1) 0 v 0 (λ q. omega (arith, q)) ∙ T.done.head;
          each = λ j l. go j l (ℕ_discrete j i);
          rest = λ j l. get_or-set_other ws' (i + 1) (j + 1) v 0 (λ q. omega (arith, q, l)) ∙ T.done.rest j (omega arith);
        };
      }
        where
          go : (j : ℕ) → j < i + 1 → Dec (j ≡ i) → get_or (set ws' (i + 1) v) (j + 1) 0 ≡ renamed_word ks (get_or ws (j + 1) 0)
          go j l (yes q) = rw q (get_or-set_same ws' (i + 1) v 0 (omega (arith, T.done.size, turn_in)) ∙ e ∙ ap (renamed_word ks) same_word)
          go j l (no q) = get_or-set_other ws' (i + 1) (j + 1) v 0 (λ p. q (omega (arith, p))) ∙ T.done.each j (omega (arith, l, q))

    pub turn_done : count ≤ i → Renames ks count ws ws'
    turn_done h = let e : i ≡ count = omega (arith, h, T.turn) in rw e at T.done

-- ---- whether one is lacking
-- whether the map lacks the name of a field word
abbrev pub is_lacking : List ℕ → ℕ → Bool
is_lacking ks w = eqb (get_or ks (field_name w) 0) 0

zero_lacks : (n : ℕ) → eqb n 0 ≡ absent (entry n)
zero_lacks zero = refl
zero_lacks (suc n) = ne_eqb (suc n) 0 (λ e. omega arith)

pub any_lacking : (ks ws : List ℕ) → list_any (is_lacking ks) ws ≡ lacks_one (by_map ks) (map field_name ws)
unfolding lacks_one
any_lacking ks [] = refl
any_lacking ks (w ∷ ws) = ap₂ (λ (x y : Bool). x || y) (zero_lacks (get_or ks (field_name w) 0)) (any_lacking ks ws)
