-- A fix read value by value: what is left of the words decides, and each value read lies at its place.
use Prim.Native.Nat.{ℕ, suc, ◌+◌, ◌-◌, ◌*◌, ◌^◌, ◌≤◌, ◌<◌}
use mathlib.Core.Path.{◌≡◌, refl, sym, ap, ◌∙◌}
use mathlib.Core.Bool.{Bool, true, false, not}
use mathlib.Core.List.{List, [], ◌∷◌, ◌++◌}
use mathlib.Core.Option.{none}
use native.Mathlib.Omega.{arith}
use native.Mathlib.Decide.{ℕ_discrete}
use lib.ListN.{length, get_or, take, drop, set, length-set, length-drop, length-append, take-append-drop, drop_of_length-le}
use lib.Seq.{get_or-set_same, get_or-set_other, get_or-drop, drop-drop, take_all, take-append_seam}
use borrow.Author.Tests.{eq-eqb, ne_eqb, not-false}
use mir.Syntax.{w64}
use mir.Val.{Fits}
use Rattle.std.specs.Prelude.{Some, None}
use Rattle.std.specs.Prelude as std
use Rattle.words.specs.Words.{head_count}
use Rattle.types.proofs.Tests.{and_true, both, numbers_if}
use Rattle.fix_values.specs.Values.{Value, value, body, encode, well, guess, is_value}
use Rattle.fix_values.specs.Fix.{Fix, value_at, good, read, fix_of}
use Rattle.fix_values.specs.Inner.{span, NextValue, Unplaced, Placed, FixIn, Checks, InFix, ValueAt}
use Rattle.fix_values.proofs.Fixes.{value_words, value_length, read_yes, read_no, read_end, fix_read, fix_decode}
use Rattle.fix_values.proofs.ValueWords.{well_parts, head_reads}
use Rattle.fix_values.proofs.Passing.{word_next}

-- ---- the value at a place
pub count_next : (w : ℕ) {c : ℕ} → c ≡ head_count w → Fits w64 (1 + c)
unfolding head_count
count_next w e = omega (arith, e)

module _ (table n : ℕ) (ws : List ℕ) (at : ℕ) where
  pub next_cut : {c : ℕ} → c ≡ head_count (get_or ws at 0) → length ws - at < 1 + c → NextValue table n ws at None
  next_cut {c} e l = record { found = λ k f. let z : ◌≡◌ {A = ℕ} 0 1 = cc in absurd (omega arith); missing = λ q. go (is_value table n (take (span ws at) (drop at ws))) refl }
    where
      go : (t : Bool) → is_value table n (take (span ws at) (drop at ws)) ≡ t → is_value table n (take (span ws at) (drop at ws)) ≡ false
      go false p = p
      go true p =
          let all = take_all (span ws at) (drop at ws) (omega (arith, e, l, length-drop at ws)) in
          let long = value_length table n (take (span ws at) (drop at ws)) p in
          let first : get_or (take (span ws at) (drop at ws)) 0 0 ≡ get_or ws at 0 = ap (λ (y : List ℕ). get_or y 0 0) all ∙ get_or-drop at ws 0 0 ∙ ap (λ (k : ℕ). get_or ws k 0) (omega arith) in
          absurd (omega (arith, e, l, length-drop at ws, long, ap length all, ap head_count first))

  module _ {c : ℕ} (e : c ≡ head_count (get_or ws at 0)) {r : Bool} (q : r ≡ is_value table n (take (at + (1 + c) - at) (drop at ws))) where
    stretch : is_value table n (take (span ws at) (drop at ws)) ≡ r
    stretch = let z : at + (1 + c) - at ≡ span ws at = omega (arith, e) in sym (q ∙ ap (λ (k : ℕ). is_value table n (take k (drop at ws))) z)

    pub next_good : at < length ws → 1 + c ≤ length ws - at → not r ≡ false → NextValue table n ws at (Some (1 + c))
    next_good i l f = record {
      found = λ k g. let z : 1 + c ≡ k = cc in (omega (arith, e, z), (omega (arith, z, length-drop at ws), stretch ∙ not-false r f));
      missing = λ g. let z : ◌≡◌ {A = ℕ} 0 1 = cc in absurd (omega arith);
    }

-- ---- the values read so far
pub record Checked (table : ℕ) (ws ps : List ℕ) (n at : ℕ) : Type 0 where
  pub view : Fix
  pub left : 0 < length ws → fix_of table ws ≡ read table (1024 - n) (drop at ws) view
  pub counted : n ≡ length view
  pub few : n ≤ 1024
  pub inside : at ≤ length ws
  pub begun : n ≡ 0 → at ≡ 0
  pub some_word : 0 < n → 0 < length ws
  pub long : length ps ≡ 1024
  pub placed : (v : ℕ) → v < n → Placed ws ps view v

-- the value put last, and those before it
last_value : (f : Fix) (x : Value) → value_at (x ∷ f) (length f) ≡ x
unfolding value_at
last_value f x = λ i. elim (eq-eqb (length f) (length f) refl i) as (λ _. Value) [ true ↦ x | false ↦ value_at f (length f) ]

old_value : (f : Fix) (x : Value) (v : ℕ) → (v ≡ length f → ⊥) → value_at (x ∷ f) v ≡ value_at f v
unfolding value_at
old_value f x v g = λ i. elim (ne_eqb v (length f) g i) as (λ _. Value) [ true ↦ x | false ↦ value_at f v ]

module _ {table : ℕ} {ws : List ℕ} where
  pub checked_start : {ps : List ℕ} → Unplaced ps → Checked table ws ps 0 0
  checked_start U = record {
    view = [];
    left = fix_read table ws;
    counted = refl;
    few = omega arith;
    inside = omega arith;
    begun = λ e. refl;
    some_word = λ l. absurd (omega arith);
    long = U.long;
    placed = λ v l. absurd (omega arith);
  }

  module _ {ps : List ℕ} {n at : ℕ} (C : Checked table ws ps n at) where
    pub checked_place : n < 1024 → n < length ps
    checked_place l = omega (arith, C.long)

    next_words : at < length ws → drop at ws ≡ get_or ws at 0 ∷ drop (at + 1) ws
    next_words l = word_next ws at l

    -- a 1,025th value
    pub checked_many : at < length ws → 1024 ≤ n → Checks table ws ps 0
    unfolding read
    checked_many l f =
        let z : 1024 - n ≡ 0 = omega (arith, f) in
        record {
          long = C.long;
          broken = λ e. C.left (omega (arith, l)) ∙ (λ i. read table (z i) (next_words l i) C.view);
          fix = λ g. absurd (g refl);
        }

    -- the value that comes next, as `read` takes it
    next_is : at < length ws → {t : Bool} → is_value table n (take (span ws at) (drop at ws)) ≡ t → is_value table (length C.view) (get_or ws at 0 ∷ take (head_count (get_or ws at 0)) (drop (at + 1) ws)) ≡ t
    next_is l e = sym (λ i. is_value table (C.counted i) (take (span ws at) (next_words l i))) ∙ e

    left_next : at < length ws → n < 1024 → fix_of table ws ≡ read table (suc (1024 - (n + 1))) (get_or ws at 0 ∷ drop (at + 1) ws) C.view
    left_next l f =
        let z : 1024 - n ≡ suc (1024 - (n + 1)) = omega (arith, f) in
        C.left (omega (arith, l)) ∙ (λ i. read table (z i) (next_words l i) C.view)

    pub checked_broken : at < length ws → n < 1024 → {o : std.Option ℕ} → NextValue table n ws at o → o ≡ None → Checks table ws ps 0
    checked_broken l f N e = record {
      long = C.long;
      broken = λ z. left_next l f ∙ read_no table (1024 - (n + 1)) (get_or ws at 0) (drop (at + 1) ws) C.view (next_is l (N.missing e));
      fix = λ g. absurd (g refl);
    }

    pub checked_room : at < length ws → n < 1024 → {o : std.Option ℕ} → NextValue table n ws at o → {r : ℕ} → o ≡ Some r → at + r ≤ length ws
    checked_room l f N {r} e = let q = N.found r e in omega (arith, q.1.0, length-drop at ws)

    pub checked_more : at < length ws → n < 1024 → {o : std.Option ℕ} → NextValue table n ws at o → {r : ℕ} → o ≡ Some r → Checked table ws (set ps n at) (n + 1) (at + r)
    checked_more l f N {r} e = record {
      view = x ∷ C.view;
      left = λ z. left_next l f ∙ read_yes table (1024 - (n + 1)) (get_or ws at 0) (drop (at + 1) ws) C.view (next_is l yes_value) ∙ (λ i. read table (1024 - (n + 1)) (after i) (x ∷ C.view));
      counted = omega (arith, C.counted);
      few = omega (arith, f);
      inside = checked_room l f N e;
      begun = λ z. absurd (omega (arith, z));
      some_word = λ z. omega (arith, l);
      long = length-set ps n at ∙ C.long;
      placed = λ v k. go v k (ℕ_discrete v n);
    }
      where
        c : ℕ
        c = head_count (get_or ws at 0)

        x : Value
        x = guess (get_or ws at 0 ∷ take c (drop (at + 1) ws))

        yes_value : is_value table n (take (span ws at) (drop at ws)) ≡ true
        yes_value = (N.found r e).1.1

        after : drop c (drop (at + 1) ws) ≡ drop (at + r) ws
        after = let q : at + 1 + c ≡ at + r = omega (arith, (N.found r e).0) in drop-drop c (at + 1) ws ∙ ap (λ (k : ℕ). drop k ws) q

        here : drop at ws ≡ encode x ++ drop c (drop (at + 1) ws)
        here = next_words l ∙ ap (λ (y : List ℕ). get_or ws at 0 ∷ y) (sym (take-append-drop c (drop (at + 1) ws))) ∙ ap (λ (y : List ℕ). y ++ drop c (drop (at + 1) ws)) (value_words table (length C.view) (get_or ws at 0 ∷ take c (drop (at + 1) ws)) (next_is l yes_value)).1

        last : (v : ℕ) → v ≡ n → value_at (x ∷ C.view) v ≡ x
        last v p = ap (value_at (x ∷ C.view)) (p ∙ C.counted) ∙ last_value C.view x

        old : (v : ℕ) → (v ≡ n → ⊥) → value_at (x ∷ C.view) v ≡ value_at C.view v
        old v g = old_value C.view x v (λ q. g (q ∙ sym C.counted))

        itself : guess (encode x) ≡ x
        itself = ap guess (sym (value_words table (length C.view) (get_or ws at 0 ∷ take c (drop (at + 1) ws)) (next_is l yes_value)).1)

        go : (v : ℕ) → v < n + 1 → Dec (v ≡ n) → Placed ws (set ps n at) (x ∷ C.view) v
        go v k (yes p) = record {
          rest = drop c (drop (at + 1) ws);
          is = ap (λ (m : ℕ). drop m ws) (ap (λ (m : ℕ). get_or (set ps n at) m 0) p ∙ get_or-set_same ps n at 0 (checked_place f)) ∙ here ∙ ap (λ (y : Value). encode y ++ drop c (drop (at + 1) ws)) (sym (last v p));
          back = ap (λ (y : Value). guess (encode y)) (last v p) ∙ itself ∙ sym (last v p);
        }
        go v k (no g) =
            let P = C.placed v (omega (arith, k, g)) in
            record {
              rest = P.rest;
              is = ap (λ (m : ℕ). drop m ws) (get_or-set_other ps n v at 0 g) ∙ P.is ∙ ap (λ (y : Value). encode y ++ P.rest) (sym (old v g));
              back = ap (λ (y : Value). guess (encode y)) (old v g) ∙ P.back ∙ sym (old v g);
            }

    pub checked_done : length ws ≤ at → Checks table ws ps n
    unfolding fix_of
    checked_done h = record {
      long = C.long;
      broken = λ e. none_there ws (omega (arith, h, C.begun e));
      fix = λ g. (
        C.view,
        record {
          is = C.left (C.some_word (omega (arith, g))) ∙ ap (λ (y : List ℕ). read table (1024 - n) y C.view) (drop_of_length-le ws {i = at} h) ∙ read_end table (1024 - n) C.view;
          counted = C.counted;
          long = C.long;
          placed = C.placed;
        },
      );
    }
      where
        none_there : (ws : List ℕ) → length ws ≤ 0 → fix_of table ws ≡ none
        none_there [] l = refl
        none_there (w ∷ b) l = absurd (omega arith)

-- ---- the words of a value, where it lies
-- each value of good values may stand where it does
value_well : (table : ℕ) (f : Fix) → good table f ≡ true → (v : ℕ) → v < length f → well table v (value_at f v) ≡ true
unfolding good
value_well table [] e v l = absurd (omega arith)
value_well table (x ∷ f) e v l = go (ℕ_discrete v (length f)) (value_well table f (and_true (well table (length f) x) _ e).1 v)
  where
    go : Dec (v ≡ length f) → (v < length f → well table v (value_at f v) ≡ true) → well table v (value_at (x ∷ f) v) ≡ true
    go (yes p) ih = ap (λ (k : ℕ). well table k (value_at (x ∷ f) k)) p ∙ ap (well table (length f)) (last_value f x) ∙ (and_true (well table (length f) x) _ e).0
    go (no g) ih = ap (well table v) (old_value f x v g) ∙ ih (omega (arith, l, g))

-- where the words hold a fix, each of its values may stand where it does
pub held_well : {table : ℕ} {ws ps : List ℕ} {count : ℕ} {f : Fix} → FixIn table ws ps count f → (v : ℕ) → v < count → well table v (value_at f v) ≡ true
held_well {table} {ws} {ps} {count} {f} F v l = value_well table f (fix_decode table ws f F.is).is_fix.good_so v (omega (arith, F.counted))

-- and its words are those of a value
pub held_is : {table : ℕ} {ws ps : List ℕ} {count : ℕ} {f : Fix} → FixIn table ws ps count f → (v : ℕ) → v < count → is_value table v (encode (value_at f v)) ≡ true
unfolding is_value
held_is {table} {f = f} F v l =
    let b = (F.placed v l).back in
    both (ap (well table v) b ∙ held_well F v l) (numbers_if (encode (value_at f v)) _ (sym (ap encode b)))

-- and there are 1 to 1,024
pub held_few : {table : ℕ} {ws ps : List ℕ} {count : ℕ} {f : Fix} → FixIn table ws ps count f → (0 < count) × (count ≤ 1024)
held_few {table} {ws} {ps} {count} {f} F = let I = (fix_decode table ws f F.is).is_fix in (omega (arith, F.counted, I.some_value), omega (arith, F.counted, I.few))

-- a value's words begin at its place, and its head counts them
record Lies (ws ps : List ℕ) (v : ℕ) (x : Value) : Type 0 where
  pub head : get_or ws (get_or ps v 0) 0 ≡ get_or (encode x) 0 0
  pub room : get_or ps v 0 + length (encode x) ≤ length ws
  pub counted : length (encode x) ≡ suc (head_count (get_or ws (get_or ps v 0) 0))
  pub words : take (length (encode x)) (drop (get_or ps v 0) ws) ≡ encode x

lies : {table : ℕ} {ws ps : List ℕ} {count : ℕ} {f : Fix} → FixIn table ws ps count f → (v : ℕ) → v < count → Lies ws ps v (value_at f v)
unfolding encode
lies {table} {ws} {ps} {count} {f} F v l = record {
  head = first;
  room = omega (arith, long, length-drop p ws, some);
  counted = ap suc (sym (ap head_count first ∙ go x (held_well F v l)));
  words = ap (take (length (encode x))) P.is ∙ take-append_seam (encode x) P.rest;
}
  where
    x : Value
    x = value_at f v

    p : ℕ
    p = get_or ps v 0

    P : Placed ws ps f v
    P = F.placed v l

    long : length (drop p ws) ≡ length (encode x) + length P.rest
    long = ap length P.is ∙ length-append (encode x) P.rest

    some : 0 < length (encode x)
    some = omega arith

    first : get_or ws p 0 ≡ get_or (encode x) 0 0
    first = let z : p + 0 ≡ p = omega arith in sym (ap (λ (k : ℕ). get_or ws k 0) z) ∙ sym (get_or-drop p ws 0 0) ∙ ap (λ (y : List ℕ). get_or y 0 0) P.is

    go : (x : Value) → well table v x ≡ true → head_count (get_or (encode x) 0 0) ≡ length (body x)
    go (value s cs) w = (head_reads table v s cs (well_parts table v s cs w)).count_back

module _ {ws ps : List ℕ} {count v : ℕ} (I : InFix ws ps count v) where
  abbrev L : Lies ws ps v (value_at I.view v)
  L = lies I.holds v I.inside

  pub place_there : v < length ps
  place_there = omega (arith, I.inside, (held_few I.holds).1, I.holds.long)

  pub word_there : {p : ℕ} → p ≡ get_or ps v 0 → p < length ws
  word_there e = omega (arith, e, L.room, L.counted)

  pub next_there : {p : ℕ} → p ≡ get_or ps v 0 → length ws * 4 < 2 ^ 63 → Fits w64 (p + 1)
  next_there e b = omega (arith, e, b, L.room, L.counted)

  pub end_fits : {p c : ℕ} → p ≡ get_or ps v 0 → c ≡ head_count (get_or ws p 0) → p + 1 + c ≤ length ws
  end_fits {p} {c} e q = omega (arith, e, q, L.room, L.counted, ap (λ (k : ℕ). head_count (get_or ws k 0)) e)

  pub end_small : {p c : ℕ} → p ≡ get_or ps v 0 → c ≡ head_count (get_or ws p 0) → length ws * 4 < 2 ^ 63 → Fits w64 (p + 1 + c)
  end_small e q b = let h = end_fits e q in omega (arith, h, b)

  pub value_there : {p c : ℕ} → p ≡ get_or ps v 0 → c ≡ head_count (get_or ws p 0) → ValueAt ws ps count v (take (p + 1 + c - p) (drop p ws))
  value_there {p} {c} e q = record {
    is = λ table f F.
        let M = lies F v I.inside in
        let n : p + 1 + c - p ≡ length (encode (value_at f v)) = omega (arith, e, q, M.counted, ap (λ (k : ℕ). head_count (get_or ws k 0)) e) in
        (λ i. take (n i) (drop (e i) ws)) ∙ M.words;
  }
