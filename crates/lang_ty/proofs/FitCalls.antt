-- What `fits` answers of a type that was copied or imported is what it answers of the type it came from: `structurally_eq` tells that the two have one tree, and so have the two fixes.
use Prim.Native.Nat.{ℕ, ◌-◌}
use mathlib.Core.Path.{◌≡◌, refl, sym, ap, ap₂, ◌∙◌, subst, subst₂}
use mathlib.Core.Bool.{Bool, true, false}
use mathlib.Core.List.{List}
use mathlib.Core.Option.{Option, none, some}
use native.Mathlib.Omega.{arith}
use lib.ListN.{length}
use Rattle.std.specs.Prelude.{Ok, Err}
use Rattle.types.specs.declared.refusal.Refusal.TheVariants as refusal
use Rattle.types.specs.Out.{Out, required}
use Rattle.types.specs.declared.Counters.{Counters}
use Rattle.names.specs.Table.{Name}
use Rattle.soundness.specs.Inner.Sides.{Side}
use Rattle.fix_values.specs.Fix.{Fix, fix_of}
use Rattle.fix_values.proofs.Fixes.{fix_decode}
use Rattle.fitting.specs.Fits.{fits}
use Rattle.fits.specs.Fits.{fits_type, fits_reply}
use Rattle.fits.proofs.NoRoll.{answered}
use Rattle.lang_ty.specs.FixTrees.{fix_tree}
use Rattle.lang_ty.specs.Theorems.{FitsCompact, SameFix, FitsImport}
use Rattle.lang_ty.proofs.Copies.{OneTree, one_tree, compact_equal}
use Rattle.lang_ty.proofs.Imports.{import_equal}
use Rattle.lang_ty.proofs.FitTrees.{fits_by_trees, vars_by_trees}

-- a table has one list of names
one_table : {o : Option (List Name)} {ns ms : List Name} → o ≡ some ns → o ≡ some ms → ns ≡ ms
one_table p q = cc

module _ {t w s : List ℕ} {c : Counters} {m : ℕ} {u v r : List ℕ} {d : Counters} {n : ℕ} (O : OneTree t w s c m u v r d n) (ws xs : List ℕ) (F : SameFix O.left.names ws O.right.names xs) where
  types_alike : fits_type O.right.view n F.right ≡ fits_type O.left.view m F.left
  unfolding fits_type fits
  types_alike =
      let S = O.left in
      let T = O.right in
      let D = (fix_decode (length S.names) ws F.left F.left_is).is_fix in
      let E = (fix_decode (length T.names) xs F.right F.right_is).is_fix in
      sym (ap₂ (λ (x y : Bool). elim x as (λ _. Out Bool) [ true ↦ Err refusal.HasVariable | false ↦ Ok y ])
      (vars_by_trees S.names T.names S.view T.view S.holds.good T.holds.good m n O.left_inside O.right_inside O.same)
      (fits_by_trees t u S.names T.names S.is T.is S.view T.view S.holds.good T.holds.good m n O.left_inside O.right_inside F.left F.right D.good_so E.good_so
      (length F.left - 1) (length F.right - 1) (omega (arith, D.some_value)) (omega (arith, E.some_value)) O.same F.same))

  replies_alike : fits_reply u v r d n xs ≡ fits_reply t w s c m ws
  unfolding required
  replies_alike = answered O.right n O.right_inside xs F.right_is ∙ types_alike ∙ sym (answered O.left m O.left_inside ws F.left_is)

-- ---- the theorems
pub fits_compact : FitsCompact
unfolding required
fits_compact t w s c root tw ts d m d' tw' ts' e ws = go (fix_of (length S.names) ws) refl
  where
    O : OneTree t w s c root t tw' ts' d' m
    O = one_tree t w s c root t tw' ts' d' m (compact_equal t w s c root tw ts d m d' tw' ts' e)

    S : Side t w s c
    S = O.left

    same : S.names ≡ O.right.names
    same = one_table S.is O.right.is

    go : (o : Option Fix) → fix_of (length S.names) ws ≡ o → fits_reply t tw' ts' d' m ws ≡ fits_reply t w s c root ws
    go none p = answered O.right m O.right_inside ws (subst (λ (ns : List Name). fix_of (length ns) ws ≡ none) same p) ∙ sym (answered S root O.left_inside ws p)
    go (some f) p =
        replies_alike O ws ws (record { left = f; left_is = p; right = f; right_is = subst (λ (ns : List Name). fix_of (length ns) ws ≡ some f) same p; same = ap (λ (ns : List Name). fix_tree ns f) same })

pub fits_import : FitsImport
fits_import t w s c root tt tw ts d m d' tw' ts' e ns ms p q ws xs F =
    let O = one_tree t w s c root tt tw' ts' d' m (import_equal t w s c root tt tw ts d m d' tw' ts' e) in
    replies_alike O ws xs (subst₂ (λ (x y : List Name). SameFix x ws y xs) (one_table p O.left.is) (one_table q O.right.is) F)
