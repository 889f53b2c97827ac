-- The loops of the quick tests: the words passed have no fault.
use Prim.Native.Nat.{ℕ, ◌+◌, ◌-◌, ◌*◌, ◌<◌, ◌≤◌}
use mathlib.Core.Path.{◌≡◌, refl, sym, ap, ◌∙◌}
use mathlib.Core.Bool.{Bool, true, false}
use mathlib.Core.List.{List, [], ◌∷◌, map}
use native.Mathlib.Decide.{ℕ_discrete}
use native.Mathlib.Omega.{arith}
use lib.ListN.{length, get_or}
use lib.Dec.{leb, ltb}
use borrow.Author.Tests.{leb-true, ltb-true, eq-eqb}
use mir.Syntax.{w32, w64}
use mir.Val.{Fits}
use Rattle.words.specs.declared.Layout.TheVariants as layout
use Rattle.words.specs.Words.{child, child_zero, field_name, field_zero}
use Rattle.words.proofs.Words.{child_zero_made, child_of_fields, field_bounded}
use Rattle.types.specs.Node.{below, rising}
use Rattle.types.proofs.Tests.{true_false, and_true, both}
use Rattle.node_faults.specs.Inner.{CleanChildren, CleanFields}
use Rattle.std.specs.List.{list_all}
use Rattle.types.specs.Fault.{each_zero}
use Rattle.node_faults.proofs.Passing.{Passed, is_zero, is_below, passed_start, zero_more, zero_done, below_more, below_done}
use Rattle.node_faults.proofs.Rising.{Risen, risen_start, risen_more, risen_done}

-- a test that is false says nothing
pub untrue : {A : Type 0} → false ≡ true → A
untrue e = absurd (true_false (sym e))

-- ---- child words: a number of 12 bits is its own child
each_clean : {nodes : ℕ} (ws : List ℕ) → nodes ≤ 4096 → list_all (λ w. ltb w nodes) ws ≡ true → (each_zero child_zero ws ≡ true) × (below nodes (map child ws) ≡ true)
unfolding each_zero below
each_clean [] h e = (refl, refl)
each_clean {nodes} (w ∷ ws) h e =
    let (p, q) = and_true (ltb w nodes) _ e in
    let (s, t) = each_clean ws h q in
    let z : child_zero w ≡ 0 = child_zero_made w (omega (arith, ltb-true w nodes p)) in
    (both (eq-eqb (child_zero w) 0 z) s, both (ap (λ (x : ℕ). ltb x nodes) (child_of_fields w z) ∙ p) t)

pub children_clean : {nodes : ℕ} {r : Bool} (ws : List ℕ) → nodes ≤ 4096 → r ≡ list_all (λ w. ltb w nodes) ws → CleanChildren nodes ws r
children_clean ws h e = record { zeros = λ t. (each_clean ws h (sym e ∙ t)).0; linked = λ t. (each_clean ws h (sym e ∙ t)).1 }

-- ---- names that rise: `low` is above the last one passed
pub record Climbed (f : ℕ → ℕ) (ws : List ℕ) (low i : ℕ) : Type 0 where
  pub under : (m : ℕ) → low ≤ m → Passed (is_below m f) ws i
  pub last : 1 ≤ i → low ≡ f (get_or ws (i - 1) 0) + 1
  pub risen : 1 ≤ i → Risen f ws i

module _ {f : ℕ → ℕ} {ws : List ℕ} where
  climbed_start : Climbed f ws 0 0
  climbed_start = record { under = λ m h. passed_start; last = λ h. absurd (omega arith); risen = λ h. absurd (omega arith) }

  module _ {low i : ℕ} (C : Climbed f ws low i) where
    climbed_more : i < length ws → {x : ℕ} → x ≡ f (get_or ws i 0) → low ≤ x → Climbed f ws (x + 1) (i + 1)
    climbed_more h {x} e l =
        let p : i + 1 - 1 ≡ i = omega arith in
        record {
          under = λ m g. below_more (C.under m (omega arith)) (omega arith) e h;
          last = λ g. rw (p, e);
          risen = λ g. go (ℕ_discrete i 0);
        }
      where
        go : Dec (i ≡ 0) → Risen f ws (i + 1)
        go (yes z) = rw z risen_start
        go (no n) = let j : 1 ≤ i = omega arith in risen_more (C.risen j) (omega (arith, C.last j)) refl e h

    climbed_rising : length ws ≤ i → true ≡ rising (map f ws)
    climbed_rising h = go (ℕ_discrete i 0)
      where
        go : Dec (i ≡ 0) → true ≡ rising (map f ws)
        go (yes z) = risen_done (risen_start {f = f} {ws = ws}) (omega arith)
        go (no n) = risen_done (C.risen (omega arith)) h

-- ---- field words
pub name_room : (w : ℕ) {x : ℕ} → x ≡ field_name w → Fits w64 (x + 1)
name_room w e = record { fits = omega (arith, (field_bounded layout.New w).few_names) }

-- the zero field above the child is a word
pub zero_room : {z : ℕ} (w : ℕ) → z ≡ field_zero w → Fits w32 (z * 4096)
unfolding field_zero
zero_room w e = omega (arith, e)

pub child_room : {z m : ℕ} (w : ℕ) → z ≡ field_zero w → m ≡ child w → Fits w32 (z * 4096 + m)
unfolding field_zero child
child_room w e q = omega (arith, e, q)

pub record FieldsPassed (nodes : ℕ) (ws : List ℕ) (low i : ℕ) : Type 0 where
  pub few : nodes ≤ 4096
  pub zeros : Passed (is_zero field_zero) ws i
  pub linked : Passed (is_below nodes child) ws i
  pub climbed : Climbed field_name ws low i

module _ {nodes : ℕ} {ws : List ℕ} where
  pub fields_start : nodes ≤ 4096 → FieldsPassed nodes ws 0 0
  fields_start l = record { few = l; zeros = passed_start; linked = passed_start; climbed = climbed_start }

  module _ {low i : ℕ} (P : FieldsPassed nodes ws low i) (h : i < length ws) {x : ℕ} (s : x ≡ field_zero (get_or ws i 0) * 4096 + child (get_or ws i 0)) (t : x < nodes) {n : ℕ} (u : n ≡ field_name (get_or ws i 0)) (v : low ≤ n) where
    pub fields_more : FieldsPassed nodes ws (n + 1) (i + 1)
    fields_more = record { few = P.few; zeros = zero_more P.zeros h refl (omega (arith, s, t, P.few)); linked = below_more P.linked (omega (arith, s, t)) refl h; climbed = climbed_more P.climbed h u v }

  pub fields_done : {table low i : ℕ} → FieldsPassed nodes ws low i → length ws ≤ i → CleanFields table nodes ws (leb low table)
  fields_done {table} {low} P h = record {
    zeros = λ e. sym (zero_done P.zeros h);
    linked = λ e. sym (below_done P.linked h);
    named = λ e. sym (below_done (P.climbed.under table (leb-true low table e)) h);
    rises = λ e. sym (climbed_rising P.climbed h);
  }
