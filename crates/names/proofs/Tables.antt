-- A table has one list of names, and `names_of` finds it exactly where there is one.
use Prim.Native.Nat.{ℕ, zero, suc, ◌≤◌}
use mathlib.Core.Path.{◌≡◌, refl, sym, ap, ap₂, ◌∙◌}
use mathlib.Core.Bool.{Bool, true, false, ◌&&◌}
use mathlib.Core.List.{List, [], ◌∷◌, ◌++◌}
use mathlib.Core.Option.{Option, none, some}
use native.Mathlib.Omega.{arith}
use lib.ListN.{length, get_or, take, drop, length-drop}
use lib.Seq.{take_at, drop_at}
use Rattle.types.specs.Same.{same_numbers}
use Rattle.types.proofs.Tests.{and_true, both, not_true, numbers_true, numbers_if}
use Rattle.names.specs.Table.{Name, table, good_names_in, good_names, IsTable, split_first, split, names_of, name_text}
use Rattle.names.specs.Theorems.{IsNamesOf, NamesOfIs, UniqueNames}

-- ---- the names of any bytes
-- more turns than bytes change nothing
split_enough : (j k : ℕ) (t : List ℕ) → length t ≤ j → length t ≤ k → split_first j t ≡ split_first k t
unfolding split_first
split_enough zero zero t p q = refl
split_enough zero (suc k) [] p q = refl
split_enough zero (suc k) (b ∷ t) p q = absurd (omega arith)
split_enough (suc j) zero [] p q = refl
split_enough (suc j) zero (b ∷ t) p q = absurd (omega arith)
split_enough (suc j) (suc k) [] p q = refl
split_enough (suc j) (suc k) (b ∷ t) p q =
    ap (λ (ns : List Name). take b t ∷ ns) (split_enough j k (drop b t) (omega (arith, length-drop b t)) (omega (arith, length-drop b t)))

pub split_cons : (b : ℕ) (t : List ℕ) → split (b ∷ t) ≡ take b t ∷ split (drop b t)
unfolding split
split_cons b t = ap (λ (ns : List Name). take b t ∷ ns) (split_enough (length t) (length (drop b t)) (drop b t) (omega (arith, length-drop b t)) (omega arith))

pub split_nil : split [] ≡ []
unfolding split
split_nil = refl

pub split_table : (ns : List Name) → split (table ns) ≡ ns
unfolding table
split_table [] = split_nil
split_table (n ∷ ns) =
    split_cons (length n) (n ++ table ns)
    ∙ ap₂ ◌∷◌ (take_at n (table ns) (length n) refl) (ap split (drop_at n (table ns) (length n) refl) ∙ split_table ns)

-- ---- the names of a table
pub split_is : {t : List ℕ} {ns : List Name} → IsTable t ns → split t ≡ ns
split_is {ns = ns} T = ap split T.bytes ∙ split_table ns

pub unique : {t : List ℕ} {ns ms : List Name} → UniqueNames t ns ms
unique T U = sym (split_is T) ∙ split_is U

passes : List ℕ → List Name → Bool
passes t ns = same_numbers t (table ns) && good_names ns

passes_is : (t : List ℕ) (ns : List Name) → passes t ns ≡ true → IsTable t ns
unfolding passes
passes_is t ns e = let b = and_true (same_numbers t (table ns)) (good_names ns) e in record { bytes = numbers_true t (table ns) b.0; good = b.1 }

is_passes : (t : List ℕ) (ns : List Name) → IsTable t ns → passes t ns ≡ true
unfolding passes
is_passes t ns T = both (numbers_if t (table ns) T.bytes) T.good

abbrev where_passed : Bool → List Name → Option (List Name)
where_passed b ns = elim b [ true ↦ some ns | false ↦ none ]

names_of_passed : (t : List ℕ) {b : Bool} → passes t (split t) ≡ b → names_of t ≡ where_passed b (split t)
unfolding names_of passes
names_of_passed t e = ap (λ (b : Bool). where_passed b (split t)) e

pub names_of_is : NamesOfIs
names_of_is t ns e = go (passes t (split t)) refl
  where
    go : (b : Bool) → passes t (split t) ≡ b → IsTable t ns
    go true p = let q = names_of_passed t p in let s : split t ≡ ns = cc in rw s at (passes_is t (split t) p)
    go false p = let q = names_of_passed t p in let z : ◌≡◌ {A = ℕ} 0 1 = cc in absurd (omega arith)

pub is_names_of : {t : List ℕ} {ns : List Name} → IsNamesOf t ns
is_names_of {t} T = names_of_passed t (is_passes t (split t) (rw (split_is T) T)) ∙ ap some (split_is T)

pub no_names_of : {t : List ℕ} → ((ns : List Name) → IsTable t ns → ⊥) → names_of t ≡ none
no_names_of {t} f = names_of_passed t (not_true (passes t (split t)) (λ e. f (split t) (passes_is t (split t) e)))

pub name_text_is : (t : List ℕ) (ns : List Name) (k : ℕ) → names_of t ≡ some ns → name_text t k ≡ get_or ns k []
unfolding name_text
name_text_is t ns k e = ap (λ (l : List Name). get_or l k []) (split_is (names_of_is t ns e))

pub empty_table : names_of [] ≡ some []
unfolding table good_names_in
empty_table = is_names_of (record { bytes = refl; good = refl })
