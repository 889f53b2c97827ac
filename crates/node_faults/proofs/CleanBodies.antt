-- Where the quick tests of a body, and of a node, are true, there is no fault.
use Prim.Native.Nat.{ℕ, ◌-◌}
use mathlib.Core.Path.{◌≡◌, refl, sym, ap, subst, ◌∙◌}
use mathlib.Core.Bool.{Bool, true, false, not, ◌&&◌, ◌||◌}
use mathlib.Core.List.{List, ◌∷◌, map}
use native.Mathlib.Omega.{arith}
use lib.ListN.{length, get_or, take, drop, length-drop}
use lib.Seq.{take_all}
use lib.Dec.{eqb, leb}
use borrow.Author.Tests.{eqb-true, eq-eqb, leb-true, not-true, not-false}
use Rattle.std.specs.Prelude.{Ok, is_ok}
use Rattle.types.specs.Out.{Out}
use Rattle.words.specs.Words.{bit, child, field_optional, head_kind, head_open, head_dynamic, head_zero, head_count}
use Rattle.types.specs.Kind.{kind_of, body_count, code, children}
use Rattle.types.specs.Node.{below}
use Rattle.types.specs.Fault.{body_fits_in, head_fits, fault}
use Rattle.types.proofs.Tests.{and_true, both}
use Rattle.types.proofs.Refusals.{is_ok_unit}
use Rattle.node_faults.specs.Inner.{within, count_fits, body_fault, kind_fault, CleanChildren, CleanFields, Clean, CleanBody}
use Rattle.node_faults.proofs.Passing.{all_join, is_below}
use Rattle.node_faults.proofs.Heads.{head_all}
use Rattle.node_faults.proofs.Bodies.{children_all, fields_all, name_good}
use Rattle.node_faults.proofs.Answers.{fault_kind}
use Rattle.node_faults.proofs.Quick.{untrue}

pub clean_not : {x : Bool} {f : Out (Unit {0})} → Clean x f false
clean_not = record { fitting = untrue; faultless = untrue }

-- ---- bodies
module _ (table nodes : ℕ) (b : List ℕ) where
  pub children_clean : {x w r : Bool} → w ≡ x → w ≡ true → CleanChildren nodes b r → Clean x (body_fault table nodes children false b) r
  children_clean p g C = record {
    fitting = λ e. sym p ∙ g;
    faultless = λ e. sym (children_all table nodes false b refl (sym (C.zeros e)) (sym (C.linked e)));
  }

  -- a set's words, in their two parts
  pub set_clean : {k : ℕ} (d : Bool) {w x y : Bool} → w ≡ count_fits (kind_of 6) d (length b) → not w ≡ false → k ≡ length b - bit d → CleanFields table nodes (take k b) x → CleanChildren nodes (take (length b - k) (drop k b)) y → CleanBody table nodes 6 d b (x && y)
  unfolding kind_of kind_fault
  set_clean {k} d {w} {x} {y} p g m F C =
      let rest = take_all (length b - k) (drop k b) (omega (arith, length-drop k b)) in
      record {
        fitting = λ e. sym p ∙ not-false w g;
        faultless = λ e. let (s, t) = and_true x y e in
            let l : below nodes (map child b) ≡ true = all_join (is_below nodes child) k b (F.linked s) (ap (λ (v : List ℕ). below nodes (map child v)) (sym rest) ∙ C.linked t) in
            sym (fields_all table nodes d b refl m (sym (F.zeros s)) (sym (C.zeros t)) (sym l) (sym (F.named s)) (sym (F.rises s)));
      }

  pub name_clean : {o x : Bool} → length b ≡ 1 → o ≡ field_optional (get_or b 0 0) → CleanFields table nodes b x → CleanBody table nodes 9 false b (not o && x)
  unfolding kind_of kind_fault count_fits body_count
  name_clean {o} {x} l p F = record {
    fitting = λ e. eq-eqb (length b) 1 l;
    faultless = λ e. let (s, t) = and_true (not o) x e in
        sym (name_good table nodes b refl p (not-true o s) (F.zeros t) (F.linked t) (F.named t) (F.rises t));
  }

  -- ---- a kind without flags
  pub clean_at : {k j : ℕ} → k ≡ j → {r : Bool} → CleanBody table nodes j false b r → CleanBody table nodes k false b r
  clean_at e {r} C = subst (λ (i : ℕ). CleanBody table nodes i false b r) (sym e) C

  pub code_clean : {f : Out (Unit {0})} {q : Bool} → f ≡ body_fault 0 0 code false b → q ≡ is_ok f → CleanBody table nodes 2 false b (eqb (length b) 1 && q)
  unfolding kind_of kind_fault count_fits body_count body_fault body_fits_in below
  code_clean {f} {q} e g = record {
    fitting = λ t. (and_true (eqb (length b) 1) q t).0;
    faultless = λ t. sym e ∙ is_ok_unit f (sym g ∙ (and_true (eqb (length b) 1) q t).1);
  }

-- no test but that of the count
pub counted_clean : (x : Bool) → Clean x (Ok tt) x
counted_clean x = record { fitting = λ t. t; faultless = λ t. refl }

-- so many words exactly
pub exact_clean : (n j : ℕ) {f : Out (Unit {0})} {r : Bool} → Clean (within n n j) f r → Clean (eqb j n) f r
exact_clean n j C = record {
  fitting = λ t. let (p, q) = and_true (leb n j) (leb j n) (C.fitting t) in eq-eqb j n (omega (arith, leb-true n j p, leb-true j n q));
  faultless = C.faultless;
}

-- ---- a node
module _ (table nodes h : ℕ) (b : List ℕ) {z k n : ℕ} {d : Bool} (p : z ≡ head_zero h) (q : k ≡ head_kind h) (t : d ≡ head_dynamic h) (u : n ≡ head_count h) where
  faultless : {o : Bool} → o ≡ head_open h → (eqb k 6 || (not o && not d)) ≡ true → (eqb z 0 && eqb n (length b)) ≡ true → {r : Bool} → CleanBody table nodes k d b r → r ≡ true → fault table nodes (h ∷ b) ≡ Ok tt
  faultless {o} s f c C e =
      let (y, l) = and_true (eqb z 0) (eqb n (length b)) c in
      let m : n ≡ length b = eqb-true n (length b) l in
      let g : head_fits h ≡ true = sym (head_all h z k n o d p q s t u refl) ∙ both y (both f (ap (count_fits (kind_of k) d) m ∙ C.fitting e)) in
      fault_kind table nodes h b g (sym m ∙ u) ∙ sym (λ i. kind_fault table nodes (kind_of (q i)) (t i) b) ∙ C.faultless e

  pub clean_set : k ≡ 6 → {r : Bool} → CleanBody table nodes 6 d b r → Clean true (fault table nodes (h ∷ b)) ((eqb z 0 && eqb n (length b)) && r)
  clean_set e {r} C = record {
    fitting = λ g. refl;
    faultless = λ g. let (c, v) = and_true (eqb z 0 && eqb n (length b)) r g in
        faultless refl (rw (eq-eqb k 6 e)) c (subst (λ (i : ℕ). CleanBody table nodes i d b r) (sym e) C) v;
  }

  pub clean_plain : {o : Bool} → o ≡ head_open h → not ((not o && not d) && (eqb z 0 && eqb n (length b))) ≡ false → {r : Bool} → CleanBody table nodes k false b r → Clean true (fault table nodes (h ∷ b)) r
  clean_plain {o} s g {r} C =
      let (f, c) = and_true (not o && not d) (eqb z 0 && eqb n (length b)) (not-false _ g) in
      let e : d ≡ false = not-true d (and_true (not o) (not d) f).1 in
      record { fitting = λ v. refl; faultless = λ v. faultless s (or_right (eqb k 6) f) c (subst (λ (x : Bool). CleanBody table nodes k x b r) (sym e) C) v }
    where
      or_right : (x : Bool) {y : Bool} → y ≡ true → (x || y) ≡ true
      or_right true v = refl
      or_right false v = v
