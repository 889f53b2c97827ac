-- What is in a list to which variables are added, and that it has none twice: both by what one fresh variable at its end changes.
use Prim.Native.Nat.{ℕ}
use mathlib.Core.Path.{◌≡◌, refl, sym, ap, ◌∙◌, subst}
use mathlib.Core.Bool.{Bool, true, false, not, ◌||◌, or_assoc, or-false}
use mathlib.Core.List.{List, [], ◌∷◌, ◌++◌, foldl-append}
use mathlib.Core.Logic.{◌⊎◌, inl, inr}
use lib.Dec.{eqb}
use borrow.Author.Tests.{eqb-true, eq-eqb, not-true as not_so}
use Rattle.types.proofs.Tests.{true_false, and_true, both, not_true}
use Rattle.walks.proofs.Reaching.{or_right}
use Rattle.walks.proofs.Counting.{or_cases, or_left}
use Rattle.free_vars.specs.FreeVars.{contains, add_new, add_all, distinct}

-- ---- one list after another
pub contains_append : (l r : List ℕ) (v : ℕ) → contains (l ++ r) v ≡ (contains l v || contains r v)
unfolding contains
contains_append [] r v = refl
contains_append (x ∷ l) r v = ap (λ (b : Bool). eqb x v || b) (contains_append l r v) ∙ sym (or_assoc (eqb x v) (contains l v) (contains r v))

pub contains_left : (l r : List ℕ) (v : ℕ) → contains l v ≡ true → contains (l ++ r) v ≡ true
contains_left l r v e = contains_append l r v ∙ or_left (contains l v) (contains r v) e

pub contains_right : (l r : List ℕ) (v : ℕ) → contains r v ≡ true → contains (l ++ r) v ≡ true
contains_right l r v e = contains_append l r v ∙ or_right (contains l v) (contains r v) e

pub contains_cases : (l r : List ℕ) (v : ℕ) → contains (l ++ r) v ≡ true → (contains l v ≡ true) ⊎ (contains r v ≡ true)
contains_cases l r v e = or_cases (contains l v) (contains r v) (sym (contains_append l r v) ∙ e)

-- ---- one variable alone
pub contains_one : (v : ℕ) → contains (v ∷ []) v ≡ true
unfolding contains
contains_one v = rw (eq-eqb v v refl)

pub one_contains : (x v : ℕ) → contains (x ∷ []) v ≡ true → x ≡ v
unfolding contains
one_contains x v e = eqb-true x v (sym (or-false (eqb x v)) ∙ e)

-- ---- one variable added, or there already
pub add_known : (l : List ℕ) (v : ℕ) → contains l v ≡ true → add_new l v ≡ l
unfolding add_new
add_known l v e = rw (add_new, e)

pub add_fresh : (l : List ℕ) (v : ℕ) → contains l v ≡ false → add_new l v ≡ l ++ (v ∷ [])
unfolding add_new
add_fresh l v e = rw (add_new, e)

new_contains : (l : List ℕ) (v : ℕ) → contains (add_new l v) v ≡ true
new_contains l v = go (contains l v) refl
  where
    go : (b : Bool) → contains l v ≡ b → contains (add_new l v) v ≡ true
    go true e = rw (add_known l v e) e
    go false e = rw (add_fresh l v e) (contains_right l (v ∷ []) v (contains_one v))

-- ---- what one fresh variable at the end keeps, is kept
module _ (P : List ℕ → Type 0) (more : (l : List ℕ) (v : ℕ) → contains l v ≡ false → P l → P (l ++ (v ∷ []))) where
  new_keeps : (l : List ℕ) (v : ℕ) → P l → P (add_new l v)
  new_keeps l v p = go (contains l v) refl
    where
      go : (b : Bool) → contains l v ≡ b → P (add_new l v)
      go true e = rw (add_known l v e) p
      go false e = rw (add_fresh l v e) (more l v e p)

  pub all_keeps : (l vs : List ℕ) → P l → P (add_all l vs)
  unfolding add_all
  all_keeps l [] p = p
  all_keeps l (v ∷ vs) p = all_keeps (add_new l v) vs (new_keeps l v p)

add_keeps : (l vs : List ℕ) (v : ℕ) → contains l v ≡ true → contains (add_all l vs) v ≡ true
add_keeps l vs v = all_keeps (λ (m : List ℕ). contains m v ≡ true) (λ m x f e. contains_left m (x ∷ []) v e) l vs

-- ---- all of them added
pub add_has : (l vs : List ℕ) (v : ℕ) → contains vs v ≡ true → contains (add_all l vs) v ≡ true
unfolding add_all contains
add_has l [] v e = absurd (true_false (sym e))
add_has l (x ∷ vs) v e = go (or_cases (eqb x v) (contains vs v) e) (add_has (add_new l x) vs v)
  where
    go : (eqb x v ≡ true) ⊎ (contains vs v ≡ true) → (contains vs v ≡ true → contains (add_all l (x ∷ vs)) v ≡ true) → contains (add_all l (x ∷ vs)) v ≡ true
    go (inl q) f = add_keeps (add_new l x) vs v (subst (λ (y : ℕ). contains (add_new l x) y ≡ true) (eqb-true x v q) (new_contains l x))
    go (inr q) f = f q

new_only : (l : List ℕ) (x v : ℕ) → contains (add_new l x) v ≡ true → (contains l v ≡ true) ⊎ (x ≡ v)
new_only l x v e = go (contains l x) refl
  where
    last : (contains l v ≡ true) ⊎ (contains (x ∷ []) v ≡ true) → (contains l v ≡ true) ⊎ (x ≡ v)
    last (inl q) = inl q
    last (inr q) = inr (one_contains x v q)

    go : (b : Bool) → contains l x ≡ b → (contains l v ≡ true) ⊎ (x ≡ v)
    go true q = inl (rw (add_known l x q) at e)
    go false q = last (contains_cases l (x ∷ []) v (rw (add_fresh l x q) at e))

pub add_only : (l vs : List ℕ) (v : ℕ) → contains (add_all l vs) v ≡ true → (contains l v ≡ true) ⊎ (contains vs v ≡ true)
unfolding add_all contains
add_only l [] v e = inl e
add_only l (x ∷ vs) v e = go (add_only (add_new l x) vs v e)
  where
    first : (contains l v ≡ true) ⊎ (x ≡ v) → (contains l v ≡ true) ⊎ (contains (x ∷ vs) v ≡ true)
    first (inl q) = inl q
    first (inr q) = inr (or_left (eqb x v) (contains vs v) (eq-eqb x v q))

    go : (contains (add_new l x) v ≡ true) ⊎ (contains vs v ≡ true) → (contains l v ≡ true) ⊎ (contains (x ∷ vs) v ≡ true)
    go (inl q) = first (new_only l x v q)
    go (inr q) = inr (or_right (eqb x v) (contains vs v) q)

-- nothing new, nothing added
pub add_within : (l vs : List ℕ) → ((v : ℕ) → contains vs v ≡ true → contains l v ≡ true) → add_all l vs ≡ l
unfolding add_all contains
add_within l [] f = refl
add_within l (x ∷ vs) f =
    ap (λ (m : List ℕ). add_all m vs) (add_known l x (f x (or_left (eqb x x) (contains vs x) (eq-eqb x x refl))))
    ∙ add_within l vs (λ v e. f v (or_right (eqb x v) (contains vs v) e))

pub add_append : (l vs us : List ℕ) → add_all l (vs ++ us) ≡ add_all (add_all l vs) us
unfolding add_all
add_append l vs us = foldl-append add_new l vs us

-- ---- no variable twice
pub distinct_cons : (v : ℕ) (l : List ℕ) → distinct (v ∷ l) ≡ true → (contains l v ≡ false) × (distinct l ≡ true)
unfolding distinct
distinct_cons v l e = let p = and_true (not (contains l v)) (distinct l) e in (not_so (contains l v) p.0, p.1)

pub distinct_more : (l : List ℕ) (v : ℕ) → contains l v ≡ false → distinct l ≡ true → distinct (l ++ (v ∷ [])) ≡ true
unfolding distinct contains
distinct_more [] v f d = refl
distinct_more (x ∷ l) v f d =
    let p = distinct_cons x l d in
    both (ap not (not_true (contains (l ++ (v ∷ [])) x) (λ e. apart (contains_cases l (v ∷ []) x e))))
    (distinct_more l v (not_true (contains l v) (λ e. true_false (sym (or_right (eqb x v) (contains l v) e) ∙ f))) p.1)
  where
    apart : (contains l x ≡ true) ⊎ (contains (v ∷ []) x ≡ true) → ⊥
    apart (inl e) = true_false (sym e ∙ (distinct_cons x l d).0)
    apart (inr e) = true_false (sym (or_left (eqb x v) (contains l v) (eq-eqb x v (sym (one_contains v x e)))) ∙ f)

pub distinct_all : (l vs : List ℕ) → distinct l ≡ true → distinct (add_all l vs) ≡ true
distinct_all = all_keeps (λ (m : List ℕ). distinct m ≡ true) distinct_more
