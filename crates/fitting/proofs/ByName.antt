-- A set asks its fields by their names: a test is asked only of the value's field of its name, and a field of no such name comes to the test of the others.
use Prim.Native.Nat.{ℕ, zero, suc, ◌<◌}
use mathlib.Core.Path.{◌≡◌, refl, sym, ap, ap₂, ◌∙◌}
use mathlib.Core.Bool.{Bool, true, false, ◌&&◌, ◌||◌, and-false}
use mathlib.Core.List.{List, [], ◌∷◌}
use native.Mathlib.Omega.{arith}
use lib.ListN.{length, get_or, set, drop}
use lib.Seq.{drop-set-lt}
use lib.Dec.{eqb}
use borrow.Author.Tests.{eqb-true, eqb-false, ne_eqb}
use Rattle.types.specs.Node.{Field, field, field_names}
use Rattle.types.proofs.Tests.{true_false, neither}
use Rattle.fix_values.specs.Values as values
use Rattle.fix_values.specs.Values.{Value, value}
use Rattle.fitting.specs.Fits.{Test, among, none_missing, field_test, other_test, fields_pass, set_takes}
use Rattle.fitting.specs.Theorems.{OptionalNotAsked, ClosedTakesNoOther, DynamicTakesNoOther}

-- one of two tests, the second replaced
second : (b : Bool) (t : Test) {u w : Test} → u ≡ w → ◌≡◌ {A = Test} (elim b as (λ _. Test) [ true ↦ t | false ↦ u ]) (elim b as (λ _. Test) [ true ↦ t | false ↦ w ])
second b t e = λ i. elim b as (λ _. Test) [ true ↦ t | false ↦ e i ]

-- ---- a test that no field of the value has the name of
unasked : (fs : List Field) (ts : List Test) (x : Test) (i n m : ℕ) → i < length fs → get_or fs i (field false 0) ≡ field true n → (m ≡ n → ⊥)
    → (t : Test) → field_test fs (set ts i t) x m ≡ field_test fs ts x m
unfolding field_test
unasked [] ts x i n m l e h t = absurd (omega arith)
unasked (f ∷ fs) [] x i n m l e h t = refl
unasked (field o k ∷ fs) (u ∷ ts) x zero n m l e h t = let q : k ≡ n = cc in rw (field_test, ne_eqb m k (λ p. h (p ∙ q)))
unasked (field o k ∷ fs) (u ∷ ts) x (suc i) n m l e h t = second (eqb m k) u (unasked fs ts x i n m (omega arith) e h t)

without : (n : ℕ) (t u : ℕ → Test) → ((m : ℕ) → (m ≡ n → ⊥) → t m ≡ u m) → (ns cs : List ℕ) → among n ns ≡ false → fields_pass t ns cs ≡ fields_pass u ns cs
unfolding among fields_pass
without n t u h [] cs e = refl
without n t u h (m ∷ ns) [] e = refl
without n t u h (m ∷ ns) (c ∷ cs) e =
    let p = neither (eqb n m) (among n ns) e in
    ap₂ ◌&&◌ (λ i. h m (λ q. eqb-false n m p.0 (sym q)) i c) (without n t u h ns cs p.1)

pub optional_not_asked : OptionalNotAsked
unfolding set_takes
optional_not_asked fs d o ts i n l e ns cs q t =
    ap (λ (us : List Test). none_missing fs ns && fields_pass (field_test fs (set ts i t) (other_test d o us)) ns cs) (drop-set-lt (length fs) ts i t l)
    ∙ ap (λ (b : Bool). none_missing fs ns && b) (without n _ _ (λ m h. unasked fs ts (other_test d o (drop (length fs) ts)) i n m l e h t) ns cs q)

-- ---- a field of the value that the type doesn't name
other : (fs : List Field) (ts : List Test) (x : Test) (m : ℕ) → among m (field_names fs) ≡ false → field_test fs ts x m ≡ x
unfolding among field_test
other [] ts x m e = refl
other (f ∷ fs) [] x m e = refl
other (field o k ∷ fs) (t ∷ ts) x m e = let p = neither (eqb m k) (among m (field_names fs)) e in rw (field_test, p.0) (other fs ts x m p.1)

fails_at : (t : ℕ → Test) (ns cs : List ℕ) → length ns ≡ length cs → (i : ℕ) → i < length ns → t (get_or ns i 0) (get_or cs i 0) ≡ false → fields_pass t ns cs ≡ false
unfolding fields_pass
fails_at t [] cs q i l e = absurd (omega arith)
fails_at t (n ∷ ns) [] q i l e = absurd (omega arith)
fails_at t (n ∷ ns) (c ∷ cs) q zero l e = rw e
fails_at t (n ∷ ns) (c ∷ cs) q (suc i) l e = rw (fails_at t ns cs (omega arith) i (omega arith) e) (and-false (t n c))

refused : (fs : List Field) (d o : Bool) (ts : List Test) (ns cs : List ℕ) → length ns ≡ length cs → (i : ℕ) → i < length ns
    → among (get_or ns i 0) (field_names fs) ≡ false → other_test d o (drop (length fs) ts) (get_or cs i 0) ≡ false → set_takes fs d o ts (value (values.set ns) cs) ≡ false
unfolding set_takes
refused fs d o ts ns cs q i l e h =
    let x = other_test d o (drop (length fs) ts) in
    ap (λ (b : Bool). none_missing fs ns && b) (fails_at (field_test fs ts x) ns cs q i l ((λ j. other fs ts x (get_or ns i 0) e j (get_or cs i 0)) ∙ h)) ∙ and-false (none_missing fs ns)

-- where the name stands
place : (m : ℕ) (ns : List ℕ) → among m ns ≡ true → (i : ℕ) × ((i < length ns) × (get_or ns i 0 ≡ m))
unfolding among
place m [] e = absurd (true_false (sym e))
place m (n ∷ ns) e = go (eqb m n) refl e (place m ns)
  where
    go : (b : Bool) → eqb m n ≡ b → (b || among m ns) ≡ true → (among m ns ≡ true → (i : ℕ) × ((i < length ns) × (get_or ns i 0 ≡ m))) → (i : ℕ) × ((i < length (n ∷ ns)) × (get_or (n ∷ ns) i 0 ≡ m))
    go true p q r = (0, (omega arith, sym (eqb-true m n p)))
    go false p q r = let (i, z) = r q in (suc i, (omega (arith, z.0), z.1))

pub closed_takes_no_other : ClosedTakesNoOther
closed_takes_no_other fs ts ns cs q m e h =
    let (i, p) = place m ns e in
    refused fs false false ts ns cs q i p.0 (ap (λ (k : ℕ). among k (field_names fs)) p.1 ∙ h) refl

open_or_not : (fs : List Field) (ts : List Test) (u : Value) → set_takes fs true true ts u ≡ set_takes fs true false ts u
unfolding set_takes
open_or_not fs ts (value (values.plain k) cs) = refl
open_or_not fs ts (value values.list cs) = refl
open_or_not fs ts (value (values.set ns) cs) = refl

pub dynamic_takes_no_other : DynamicTakesNoOther
dynamic_takes_no_other = record { must = λ fs o. refused fs true o; open_or_not = open_or_not }
