-- The fault of a node, test after test.
use Prim.Native.Nat.{ℕ, ◌^◌}
use mathlib.Core.Path.{◌≡◌, refl, sym, ap, ◌∙◌}
use mathlib.Core.Bool.{Bool, true, false, not, ◌&&◌}
use mathlib.Core.List.{List, [], ◌∷◌}
use mathlib.Core.Option.{Option, none, some}
use native.Mathlib.Omega.{arith}
use lib.ListN.{length, get_or}
use borrow.Author.Tests.{eq-eqb, ne_eqb, not-true, not-false}
use mir.Syntax.{w32}
use mir.Val.{Fits}
use Rattle.std.specs.Prelude.{Ok, Err}
use Rattle.types.specs.declared.refusal.Refusal.TheVariants as refusal
use Rattle.types.specs.Out.{Out, checked}
use Rattle.words.specs.declared.Layout.TheVariants as layout
use Rattle.words.specs.Words.{head_kind, head_dynamic, head_count}
use Rattle.types.specs.Kind.{Kind, kind_of}
use Rattle.types.specs.Node.{below, rising, decode}
use Rattle.types.specs.Fault.{head_fits, kind_body_fits_in, fits, fits_in, kind_children, kind_names_in, children_in, words_names, words_names_in, first, fault, fault_in}
use Rattle.types.proofs.Lists.{below_by}
use Rattle.types.proofs.Faults.{fault_decode}
use Rattle.node_faults.specs.Inner.{body_fault, kind_fault, Clean}

fault_first : (table nodes : ℕ) (ws : List ℕ) → fault table nodes ws ≡ first (fits ws) (below nodes (children_in ws) && below table (words_names ws)) (rising (words_names ws))
unfolding fault_in
fault_first table nodes ws = refl

-- under a head that fits and counts the words after it, their fault is the node's
pub fault_kind : (table nodes h : ℕ) (b : List ℕ) → head_fits h ≡ true → length b ≡ head_count h → fault table nodes (h ∷ b) ≡ kind_fault table nodes (kind_of (head_kind h)) (head_dynamic h) b
unfolding fits_in children_in words_names_in kind_fault body_fault
fault_kind table nodes h b e l = fault_first table nodes (h ∷ b) ∙ rw (e, eq-eqb (length b) (head_count h) l) (go (kind_of (head_kind h)))
  where
    go : (x : Option Kind) → first (kind_body_fits_in layout.New x (head_dynamic h) b) (below nodes (kind_children x b) && below table (kind_names_in layout.New x (head_dynamic h) b)) (rising (kind_names_in layout.New x (head_dynamic h) b)) ≡ kind_fault table nodes x (head_dynamic h) b
    go none = refl
    go (some j) = refl

-- ---- a head and the words after it
module _ (table nodes h : ℕ) (b : List ℕ) {f : Bool} (p : f ≡ head_fits h) where
  pub node_head : not f ≡ true → Err refusal.MalformedNode ≡ fault table nodes (h ∷ b)
  unfolding fits_in
  node_head g = sym (fault_first table nodes (h ∷ b) ∙ rw (sym p ∙ not-true f g))

  module _ (g : not f ≡ false) {n : ℕ} (q : n ≡ head_count h) where
    pub node_count : (length b ≡ n → ⊥) → Err refusal.MalformedNode ≡ fault table nodes (h ∷ b)
    unfolding fits_in
    node_count c = sym (fault_first table nodes (h ∷ b) ∙ rw (sym p ∙ not-false f g, ne_eqb (length b) (head_count h) (λ e. c (e ∙ sym q))))

    pub node_body : length b ≡ n → {k : ℕ} → k ≡ head_kind h → {d : Bool} → d ≡ head_dynamic h → {r : Out (Unit {0})} → r ≡ kind_fault table nodes (kind_of k) d b → r ≡ fault table nodes (h ∷ b)
    node_body c s t u = u ∙ (λ i. kind_fault table nodes (kind_of (s i)) (t i) b) ∙ sym (fault_kind table nodes h b (sym p ∙ not-false f g) (c ∙ q))

-- ---- words that are to be a node
unfit_empty : (ws : List ℕ) → length ws ≡ 0 → fits ws ≡ false
unfolding fits_in
unfit_empty [] e = refl
unfit_empty (h ∷ b) e = absurd (omega arith)

module _ (table nodes : ℕ) (ws : List ℕ) (known : (i : ℕ) → Fits w32 (get_or ws i 0)) where
  decoded : checked (decode table nodes ws) ≡ fault table nodes ws
  decoded = fault_decode table nodes ws (below_by (2 ^ 32) ws (λ j l. (known j).fits))

  pub fault_empty : length ws ≡ 0 → Err refusal.MalformedNode ≡ checked (decode table nodes ws)
  fault_empty e = sym (decoded ∙ fault_first table nodes ws ∙ rw (unfit_empty ws e))

  module _ {w : ℕ} {b : List ℕ} (e : ws ≡ w ∷ b) where
    pub fault_node : {r : Out (Unit {0})} → r ≡ fault table nodes (w ∷ b) → r ≡ checked (decode table nodes ws)
    fault_node f = f ∙ sym (decoded ∙ ap (fault table nodes) e)

    pub fault_none : {r : Bool} → Clean true (fault table nodes (w ∷ b)) r → r ≡ true → Ok tt ≡ checked (decode table nodes ws)
    fault_none C t = fault_node (sym (C.faultless t))
