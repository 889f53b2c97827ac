-- A loop that tests word after word: those passed meet the test, so the rest decides.
use Prim.Native.Nat.{ℕ, zero, suc, ◌+◌, ◌<◌, ◌≤◌}
use mathlib.Core.Path.{◌≡◌, refl, sym, ap, ◌∙◌}
use mathlib.Core.Bool.{Bool, true, ◌&&◌}
use mathlib.Core.List.{List, [], ◌∷◌, map}
use native.Mathlib.Numerals.{add-one}
use lib.ListN.{length, get_or, take, drop, drop_of_length-le}
use lib.Seq.{drop-cons}
use lib.Dec.{eqb, ltb}
use borrow.Author.Tests.{eq-eqb, lt-ltb}
use Rattle.std.specs.List.{list_all}
use Rattle.types.specs.Node.{below}
use Rattle.types.specs.Fault.{each_zero}
use Rattle.types.proofs.Tests.{and_true, both}

-- what is asked of a field of each word: that it is 0, or below a number
pub data Test : Type 0 where
  is_zero : (ℕ → ℕ) → Test
  is_below : ℕ → (ℕ → ℕ) → Test

abbrev meets : Test → ℕ → Bool
meets (is_zero f) w = eqb (f w) 0
meets (is_below n f) w = ltb (f w) n

abbrev pub all_meet : Test → List ℕ → Bool
all_meet (is_zero f) ws = each_zero f ws
all_meet (is_below n f) ws = below n (map f ws)

all_nil : (t : Test) → all_meet t [] ≡ true
unfolding each_zero below
all_nil (is_zero f) = refl
all_nil (is_below n f) = refl

all_cons : (t : Test) (w : ℕ) (ws : List ℕ) → all_meet t (w ∷ ws) ≡ (meets t w && all_meet t ws)
unfolding each_zero below
all_cons (is_zero f) w ws = refl
all_cons (is_below n f) w ws = refl

-- the same as std tells it
pub all_zero : (f : ℕ → ℕ) (ws : List ℕ) → list_all (λ w. eqb (f w) 0) ws ≡ each_zero f ws
unfolding each_zero
all_zero f [] = refl
all_zero f (w ∷ ws) = ap (λ (b : Bool). eqb (f w) 0 && b) (all_zero f ws)

pub all_below : (n : ℕ) (f : ℕ → ℕ) (ws : List ℕ) → list_all (λ w. ltb (f w) n) ws ≡ below n (map f ws)
unfolding below
all_below n f [] = refl
all_below n f (w ∷ ws) = ap (λ (b : Bool). ltb (f w) n && b) (all_below n f ws)

-- where both parts of a list meet a test, the list does
pub all_join : (t : Test) (k : ℕ) (ws : List ℕ) → all_meet t (take k ws) ≡ true → all_meet t (drop k ws) ≡ true → all_meet t ws ≡ true
all_join t zero ws p q = q
all_join t (suc k) [] p q = q
all_join t (suc k) (w ∷ ws) p q =
    let r = and_true (meets t w) (all_meet t (take k ws)) (sym (all_cons t w (take k ws)) ∙ p) in
    all_cons t w ws ∙ both r.0 (all_join t k ws r.1 q)

pub record Passed (t : Test) (ws : List ℕ) (i : ℕ) : Type 0 where
  pub rest : all_meet t ws ≡ all_meet t (drop i ws)

pub passed_start : {t : Test} {ws : List ℕ} → Passed t ws 0
passed_start = record { rest = refl }

done : {t : Test} {ws : List ℕ} {i : ℕ} → Passed t ws i → length ws ≤ i → true ≡ all_meet t ws
done {t} {ws} P h = sym (P.rest ∙ ap (all_meet t) (drop_of_length-le ws h) ∙ all_nil t)

next : {t : Test} {ws : List ℕ} {i : ℕ} {b : Bool} → Passed t ws i → i < length ws → meets t (get_or ws i 0) ≡ b → all_meet t ws ≡ (b && all_meet t (drop (i + 1) ws))
next {t} {ws} {i} P h e = P.rest ∙ ap (all_meet t) (drop-cons ws i 0 h) ∙ all_cons t _ _ ∙ rw (e, add-one)

pub zero_done : {f : ℕ → ℕ} {ws : List ℕ} {i : ℕ} → Passed (is_zero f) ws i → length ws ≤ i → true ≡ each_zero f ws
zero_done = done

pub below_done : {n : ℕ} {f : ℕ → ℕ} {ws : List ℕ} {i : ℕ} → Passed (is_below n f) ws i → length ws ≤ i → true ≡ below n (map f ws)
below_done = done

module _ {f : ℕ → ℕ} {ws : List ℕ} {i : ℕ} (P : Passed (is_zero f) ws i) (h : i < length ws) {x : ℕ} (e : x ≡ f (get_or ws i 0)) where
  pub zero_more : x ≡ 0 → Passed (is_zero f) ws (i + 1)
  zero_more z = record { rest = next P h (eq-eqb _ 0 (sym e ∙ z)) }

module _ {n : ℕ} {f : ℕ → ℕ} {ws : List ℕ} {i : ℕ} (P : Passed (is_below n f) ws i) where
  pub below_more : {x : ℕ} → x < n → x ≡ f (get_or ws i 0) → i < length ws → Passed (is_below n f) ws (i + 1)
  below_more {x} l e h = record { rest = next P h (ap (λ (v : ℕ). ltb v n) (sym e) ∙ lt-ltb x n l) }
