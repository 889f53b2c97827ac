-- The loops over the words of a body: the words still to come decide.
use Prim.Native.Nat.{ℕ, suc, ◌+◌, ◌-◌, ◌^◌, ◌≤◌, ◌<◌}
use mathlib.Core.Path.{◌≡◌, refl, sym, ap, ◌∙◌}
use mathlib.Core.Bool.{Bool, true, false, not, ◌&&◌}
use mathlib.Core.List.{List, [], ◌∷◌}
use native.Mathlib.Omega.{arith}
use native.Mathlib.Numerals.{add-one}
use lib.ListN.{length, get_or, take, drop, drop_of_length-le}
use lib.Seq.{drop-cons, take_all}
use lib.Dec.{eqb, ltb, leb}
use borrow.Author.Tests.{eq-eqb, ne_eqb, not-true, not-false}
use mir.Syntax.{w32, w64}
use mir.Val.{Fits}
use Rattle.words.specs.Words.{head_kind, head_open, head_dynamic, head_zero, head_count, field_optional, field_name, field_zero, child}
use Rattle.std.specs.Prelude.{IsTrue, ◌↔◌, EachIndex}
use Rattle.types.specs.Node.{below}
use Rattle.types.proofs.Lists.{below_by, below_at}
use Rattle.types.proofs.Tests.{true_false, not_true}
use Rattle.fix_values.specs.Values.{is_value, well, guess, encode}
use Rattle.fix_values.specs.Inner.{field_good, fields_good, body_good}
use Rattle.fix_values.proofs.ValueWords.{bodied_by, words_good, words_value}

-- the word at a place, and those after it
pub word_next : (ws : List ℕ) (i : ℕ) → i < length ws → drop i ws ≡ get_or ws i 0 ∷ drop (i + 1) ws
word_next ws i l = drop-cons ws i 0 l ∙ ap (λ (n : ℕ). get_or ws i 0 ∷ drop n ws) (sym (add-one i))

-- ---- elements
pub all_below : (n : ℕ) (ws : List ℕ) (r : Bool) → (IsTrue r ↔ EachIndex ws (λ i. get_or ws i 0 < n)) → r ≡ below n ws
all_below n ws true e = sym (below_by n ws (e.0 refl))
all_below n ws false e = sym (not_true (below n ws) (λ f. true_false (sym (e.1 (below_at n ws f)))))

-- ---- fields
pub field_tests : (table n low w : ℕ) {m z x c : ℕ} {o : Bool} → m ≡ field_name w → o ≡ field_optional w → z ≡ field_zero w → x ≡ child w → c ≡ x
    → ((not o && eqb z 0) && ((leb low m && ltb m table) && ltb c n)) ≡ field_good table n low w
unfolding field_good
field_tests table n low w em eo ez ex ec = λ i. (not (eo i) && eqb (ez i) 0) && ((leb low (em i) && ltb (em i) table) && ltb ((ec ∙ ex) i) n)

pub record Passed (table n : ℕ) (ws : List ℕ) (low i : ℕ) : Type 0 where
  pub same : fields_good table n 0 ws ≡ fields_good table n low (drop i ws)

module _ {table n : ℕ} {ws : List ℕ} where
  module _ {low i : ℕ} (P : Passed table n ws low i) where
    cut : {t : Bool} → i < length ws → t ≡ field_good table n low (get_or ws i 0) → fields_good table n 0 ws ≡ (t && fields_good table n (suc (field_name (get_or ws i 0))) (drop (i + 1) ws))
    unfolding fields_good
    cut l e = P.same ∙ ap (fields_good table n low) (word_next ws i l) ∙ ap (λ (b : Bool). b && fields_good table n (suc (field_name (get_or ws i 0))) (drop (i + 1) ws)) (sym e)

    pub passed_bad : {t : Bool} → i < length ws → t ≡ field_good table n low (get_or ws i 0) → not t ≡ true → false ≡ fields_good table n 0 ws
    passed_bad {t} l e f = sym (cut l e ∙ ap (λ (b : Bool). b && fields_good table n (suc (field_name (get_or ws i 0))) (drop (i + 1) ws)) (not-true t f))

    pub passed_more : {t : Bool} {k : ℕ} → i < length ws → t ≡ field_good table n low (get_or ws i 0) → not t ≡ false → k ≡ field_name (get_or ws i 0) → Passed table n ws (k + 1) (i + 1)
    passed_more {t} {k} l e f q = record {
      same = cut l e ∙ ap (λ (b : Bool). b && fields_good table n (suc (field_name (get_or ws i 0))) (drop (i + 1) ws)) (not-false t f)
          ∙ ap (λ (m : ℕ). fields_good table n m (drop (i + 1) ws)) (omega (arith, q));
    }

    pub passed_done : length ws ≤ i → true ≡ fields_good table n 0 ws
    unfolding fields_good
    passed_done h = sym (P.same ∙ ap (fields_good table n low) (drop_of_length-le ws {i = i} h))

pub name_next : (w : ℕ) {k : ℕ} → k ≡ field_name w → Fits w64 (k + 1)
unfolding field_name
name_next w e = omega (arith, e)

-- ---- a body, by its kind
module _ (table n k : ℕ) (b : List ℕ) where
  pub body_list : {r : Bool} → k ≡ 6 → r ≡ below n b → r ≡ body_good table n k b
  body_list e q = q ∙ sym (bodied_by table n k b (eq-eqb k 6 e) refl refl)

  pub body_set : {r : Bool} → (k ≡ 6 → ⊥) → k ≡ 7 → r ≡ fields_good table n 0 b → r ≡ body_good table n k b
  body_set f e q = q ∙ sym (bodied_by table n k b (ne_eqb k 6 f) (eq-eqb k 7 e) refl)

  pub body_other : (k ≡ 6 → ⊥) → (k ≡ 7 → ⊥) → (ltb k 6 && eqb (length b) 0) ≡ body_good table n k b
  body_other f g = sym (bodied_by table n k b (ne_eqb k 6 f) (ne_eqb k 7 g) refl)

-- ---- a value
pub value_empty : (table n : ℕ) (ws : List ℕ) → length ws ≡ 0 → false ≡ is_value table n ws
unfolding is_value guess well encode
value_empty table n [] e = refl
value_empty table n (w ∷ b) e = absurd (omega arith)

module _ (table n : ℕ) (ws : List ℕ) (few : n ≤ 4096) (known : (i : ℕ) → Fits w32 (get_or ws i 0)) (some : length ws ≡ 0 → ⊥) where
  tested : words_good table n (get_or ws 0 0) (take (length ws - 1) (drop 1 ws)) ≡ is_value table n ws
  tested = go ws known some
    where
      go : (ws : List ℕ) → ((i : ℕ) → Fits w32 (get_or ws i 0)) → (length ws ≡ 0 → ⊥) → words_good table n (get_or ws 0 0) (take (length ws - 1) (drop 1 ws)) ≡ is_value table n ws
      go [] k f = absurd (f refl)
      go (w ∷ b) k f =
          ap (words_good table n w) (take_all (suc (length b) - 1) b (omega arith)) ∙ words_value table n w b few (below_by (2 ^ 32) b (λ j l. (k (suc j)).fits))

  -- the body as the code lends it: `&value[1..]`
  abbrev rest : List ℕ
  rest = take (length ws - 1) (drop 1 ws)

  module _ {z c m : ℕ} {o d : Bool} (ez : z ≡ head_zero (get_or ws 0 0)) (eo : o ≡ head_open (get_or ws 0 0)) (ed : d ≡ head_dynamic (get_or ws 0 0)) (ec : c ≡ head_count (get_or ws 0 0)) (em : m ≡ length rest) where
    by_tests : {k : ℕ} {t : Bool} → k ≡ head_kind (get_or ws 0 0) → ((eqb z 0 && (not o && not d)) && eqb c m) ≡ t → (t && body_good table n k rest) ≡ is_value table n ws
    unfolding words_good
    by_tests {k} ek f = sym (ap (λ (t : Bool). t && body_good table n k rest) f) ∙ (λ i. ((eqb (ez i) 0 && (not (eo i) && not (ed i))) && eqb (ec i) (em i)) && body_good table n (ek i) rest) ∙ tested

    pub value_head : not ((eqb z 0 && (not o && not d)) && eqb c m) ≡ true → false ≡ is_value table n ws
    value_head f = by_tests refl (not-true _ f)

    pub value_body : not ((eqb z 0 && (not o && not d)) && eqb c m) ≡ false → {k : ℕ} → k ≡ head_kind (get_or ws 0 0) → {r : Bool} → r ≡ body_good table n k rest → r ≡ is_value table n ws
    value_body f ek er = er ∙ by_tests ek (not-false _ f)
