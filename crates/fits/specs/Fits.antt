-- What the call `fits` answers (02, A5).
use Rattle.std.specs.Prelude.{ℕ, Bool, true, false, List, length, Ok, Err}
use Rattle.types.specs.declared.refusal.Refusal.TheVariants as refusal
use Rattle.types.specs.Out.{Out, required}
use Rattle.types.specs.Arena.{Arena}
use Rattle.types.specs.Reply.{rooted}
use Rattle.types.specs.declared.Counters.{Counters}
use Rattle.names.specs.Table.{Name}
use Rattle.soundness.specs.Lent.{lent_to}
use Rattle.questions.specs.Vars.{has_var, has_type_vars}
use Rattle.fix_values.specs.Fix.{Fix, fix_of}
use Rattle.fitting.specs.Fits.{fits}

-- only types without variables are taken: 14 where the type of the root has one; else whether the fix fits
unfoldable pub fits_type : Arena → ℕ → Fix → Out Bool
unfolding has_var fits
fits_type a root f = elim (has_type_vars a root) [ true ↦ Err refusal.HasVariable | false ↦ Ok (fits f a root) ]

-- 6, then 13 where the words are no fix under a table of so many names
unfoldable pub fits_root : ℕ → ℕ → List ℕ → Arena → Out Bool
unfolding rooted required fix_of fits_type
fits_root table root ws = rooted root (λ (a : Arena). required refusal.MalformedFix (fix_of table ws) (fits_type a root))

-- before that 1 and 2
unfoldable pub fits_reply : List ℕ → List ℕ → List ℕ → Counters → ℕ → List ℕ → Out Bool
unfolding lent_to fits_root
fits_reply t w s c root ws = lent_to t w s c (λ (ns : List Name). fits_root (length ns) root ws)
