-- A fix without a field that the type demands isn't taken, and so the call doesn't answer yes: after 1, 2, 6 and 13 it answers 14 or what the type takes.
use Prim.Native.Nat.{ℕ, ◌-◌, ◌<◌}
use mathlib.Core.Path.{◌≡◌, sym, ap, ◌∙◌}
use mathlib.Core.Bool.{Bool, true, false}
use mathlib.Core.List.{List}
use mathlib.Core.Option.{Option}
use lib.ListN.{length}
use Rattle.types.specs.Bytes.{bytes}
use Rattle.std.specs.Prelude.{Ok, Err}
use Rattle.types.specs.declared.refusal.Refusal.TheVariants as refusal
use Rattle.types.specs.Out.{Out, required}
use Rattle.types.specs.Arena.{Arena}
use Rattle.types.proofs.Tests.{not_true}
use Rattle.types.proofs.Replies.{rooted_yes}
use Rattle.types.specs.declared.Counters.{Counters}
use Rattle.names.specs.Table.{Name}
use Rattle.soundness.specs.Inner.Sides.{Side}
use Rattle.soundness.proofs.Sides.{side_to}
use Rattle.questions.specs.Vars.{has_type_vars}
use Rattle.fix_values.specs.Fix.{Fix, fix_of}
use Rattle.fitting.specs.Fits.{fits}
use Rattle.fitting.proofs.Demanded.{demands_inside, no_fix_without}
use Rattle.fits.specs.Fits.{fits_type, fits_root, fits_reply}
use Rattle.fits.specs.Theorems.{NoFixWithoutName, NoFixWithoutRoll}

-- what follows 1, 2, 6 and 13
pub answered : {t w s : List ℕ} {c : Counters} (S : Side t w s c) (root : ℕ) → root < length S.view → (ws : List ℕ) {o : Option Fix} → fix_of (length S.names) ws ≡ o
    → fits_reply t w s c root ws ≡ required refusal.MalformedFix o (fits_type S.view root)
unfolding fits_reply fits_root
answered S root l ws e =
    sym (side_to S (λ (ns : List Name). fits_root (length ns) root ws))
    ∙ rooted_yes root (λ (a : Arena). required refusal.MalformedFix (fix_of (length S.names) ws) (fits_type a root)) S.view l
    ∙ ap (λ (x : Option Fix). required refusal.MalformedFix x (fits_type S.view root)) e

pub no_fix_without_name : (x : Name) → NoFixWithoutName x
unfolding required fits_type fits
no_fix_without_name x t w s c ns a root ws f p H q D L =
    let S : Side t w s c = record { names = ns; is = p; view = a; holds = H } in
    answered S root (demands_inside D.demands) ws q
    ∙ ap (λ (b : Bool). elim (has_type_vars a root) as (λ _. Out Bool) [ true ↦ Err refusal.HasVariable | false ↦ Ok b ])
    (no_fix_without (length ns) a H.good D.number root D.demands f (length f - 1) (not_true _ (λ e. L D.number e D.is)))

pub no_fix_without_roll : NoFixWithoutRoll
no_fix_without_roll = no_fix_without_name (bytes "roll")
