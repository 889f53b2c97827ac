-- What a head's kind, flags and count come to, test after test.
use Prim.Native.Nat.{ℕ, ◌<◌, ◌≤◌}
use mathlib.Core.Path.{◌≡◌, refl, sym, ap, ◌∙◌}
use mathlib.Core.Bool.{Bool, true, false, not, ◌&&◌, ◌||◌}
use mathlib.Core.Option.{Option, none, some}
use lib.Dec.{eqb}
use Rattle.words.specs.Words.{head_kind, head_open, head_dynamic, head_zero, head_count}
use Rattle.types.specs.Kind.{Kind, bottom, top, primitive, ty_var, list, lambda, attr_set, union, intersection, named, neg, disc, kind_of, body_count, body_of}
use Rattle.types.specs.Fault.{flags_fit, kind_fits, head_fits}
use Rattle.types.proofs.KindNumbers.{disc_kind_of}
use Rattle.node_faults.specs.Inner.{within, count_fits}
use Rattle.node_faults.proofs.KindCases.{no_kind, is_kind}

-- ---- how many body words
module _ (k n : ℕ) (d : Bool) where
  pub count_none : 10 < k → false ≡ count_fits (kind_of k) d n
  unfolding count_fits
  count_none h = sym (ap (λ (x : Option Kind). count_fits x d n) (no_kind k h))

  -- a kind with a case of its own
  pub count_at : {j : ℕ} → k ≡ j → {r : Bool} → r ≡ count_fits (kind_of j) d n → r ≡ count_fits (kind_of k) d n
  count_at e p = p ∙ ap (λ (i : ℕ). count_fits (kind_of i) d n) (sym e)

  pub count_dynamic : k ≡ 6 → d ≡ true → {r : Bool} → r ≡ within 1 65 n → r ≡ count_fits (kind_of k) d n
  unfolding count_fits body_count kind_of
  count_dynamic e t p = count_at e (p ∙ sym (ap (λ (x : Bool). count_fits (kind_of 6) x n) t))

  pub count_set : k ≡ 6 → d ≡ false → {r : Bool} → r ≡ within 0 64 n → r ≡ count_fits (kind_of k) d n
  unfolding count_fits body_count kind_of
  count_set e t p = count_at e (p ∙ sym (ap (λ (x : Bool). count_fits (kind_of 6) x n) t))

  pub count_other : k ≤ 10 → (k ≡ 0 → ⊥) → (k ≡ 1 → ⊥) → (k ≡ 5 → ⊥) → (k ≡ 6 → ⊥) → (k ≡ 7 → ⊥) → (k ≡ 8 → ⊥) → eqb n 1 ≡ count_fits (kind_of k) d n
  unfolding count_fits body_count
  count_other h a b c e f g = let K = is_kind k h in go K.kind K.is ∙ sym (ap (λ (x : Option Kind). count_fits x d n) K.found)
    where
      go : (j : Kind) → k ≡ disc j → eqb n 1 ≡ count_fits (some j) d n
      go bottom p = absurd (a p)
      go top p = absurd (b p)
      go primitive p = refl
      go ty_var p = refl
      go list p = refl
      go lambda p = absurd (c p)
      go attr_set p = absurd (e p)
      go union p = absurd (f p)
      go intersection p = absurd (g p)
      go named p = refl
      go neg p = refl

-- ---- both flags are 0, but in a set
flags_are : (j : Kind) (o d : Bool) → flags_fit (body_of j) o d ≡ (eqb (disc j) 6 || (not o && not d))
flags_are bottom o d = refl
flags_are top o d = refl
flags_are primitive o d = refl
flags_are ty_var o d = refl
flags_are list o d = refl
flags_are lambda o d = refl
flags_are attr_set o d = refl
flags_are union o d = refl
flags_are intersection o d = refl
flags_are named o d = refl
flags_are neg o d = refl

and_false : (x : Bool) → (x && false) ≡ false
and_false true = refl
and_false false = refl

kind_fits_are : (k : ℕ) (o d : Bool) (n : ℕ) → kind_fits (kind_of k) o d n ≡ ((eqb k 6 || (not o && not d)) && count_fits (kind_of k) d n)
unfolding count_fits
kind_fits_are k o d n = go (kind_of k) refl
  where
    go : (x : Option Kind) → kind_of k ≡ x → kind_fits x o d n ≡ ((eqb k 6 || (not o && not d)) && count_fits x d n)
    go none e = sym (and_false (eqb k 6 || (not o && not d)))
    go (some j) e = ap (λ (b : Bool). b && body_count j d n) (flags_are j o d ∙ ap (λ (i : ℕ). eqb i 6 || (not o && not d)) (sym (disc_kind_of k j e)))

pub head_all : (h z k n : ℕ) (o d : Bool) {c : Bool} → z ≡ head_zero h → k ≡ head_kind h → o ≡ head_open h → d ≡ head_dynamic h → n ≡ head_count h → c ≡ count_fits (kind_of k) d n → (eqb z 0 && ((eqb k 6 || (not o && not d)) && c)) ≡ head_fits h
unfolding head_fits
head_all h z k n o d p q s t u v =
    (λ i. eqb (p i) 0 && ((eqb k 6 || (not o && not d)) && v i))
    ∙ ap (λ (b : Bool). eqb (head_zero h) 0 && b) (sym (kind_fits_are k o d n))
    ∙ (λ i. eqb (head_zero h) 0 && kind_fits (kind_of (q i)) (s i) (t i) (u i))
