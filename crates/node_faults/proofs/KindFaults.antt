-- The fault of a body under each kind.
use Prim.Native.Nat.{ℕ, ◌<◌, ◌≤◌}
use mathlib.Core.Path.{◌≡◌, refl, sym, ap, ◌∙◌}
use mathlib.Core.Bool.{Bool, false}
use mathlib.Core.List.{List}
use mathlib.Core.Option.{Option, some}
use Rattle.std.specs.Prelude.{Err}
use Rattle.types.specs.declared.refusal.Refusal.TheVariants as refusal
use Rattle.types.specs.Out.{Out}
use Rattle.types.specs.Kind as kinds
use Rattle.types.specs.Kind.{Kind, bottom, top, primitive, ty_var, list, lambda, attr_set, union, intersection, named, neg, disc, kind_of}
use Rattle.types.specs.Node.{below}
use Rattle.types.specs.Fault.{body_fits_in}
use Rattle.node_faults.specs.Inner.{body_fault, kind_fault}
use Rattle.node_faults.proofs.KindCases.{no_kind, is_kind}

module _ (table nodes k : ℕ) (d : Bool) (b : List ℕ) where
  pub kind_none : 10 < k → Err refusal.MalformedNode ≡ kind_fault table nodes (kind_of k) d b
  unfolding kind_fault
  kind_none h = sym (ap (λ (x : Option Kind). kind_fault table nodes x d b) (no_kind k h))

  -- a kind with a case of its own
  pub kind_at : {j : ℕ} → k ≡ j → {r : Out (Unit {0})} → r ≡ kind_fault table nodes (kind_of j) d b → r ≡ kind_fault table nodes (kind_of k) d b
  kind_at e p = p ∙ ap (λ (i : ℕ). kind_fault table nodes (kind_of i) d b) (sym e)

  pub kind_other : k ≤ 10 → (k ≡ 0 → ⊥) → (k ≡ 1 → ⊥) → (k ≡ 2 → ⊥) → (k ≡ 3 → ⊥) → (k ≡ 6 → ⊥) → (k ≡ 9 → ⊥) → {r : Out (Unit {0})} → r ≡ body_fault 0 nodes kinds.children false b → r ≡ kind_fault table nodes (kind_of k) d b
  unfolding kind_fault body_fault body_fits_in below
  kind_other h a c e f g m p = let K = is_kind k h in p ∙ go K.kind K.is ∙ sym (ap (λ (x : Option Kind). kind_fault table nodes x d b) K.found)
    where
      go : (j : Kind) → k ≡ disc j → body_fault 0 nodes kinds.children false b ≡ kind_fault table nodes (some j) d b
      go bottom q = absurd (a q)
      go top q = absurd (c q)
      go primitive q = absurd (e q)
      go ty_var q = absurd (f q)
      go list q = refl
      go lambda q = refl
      go attr_set q = absurd (g q)
      go union q = refl
      go intersection q = refl
      go named q = absurd (m q)
      go neg q = refl
