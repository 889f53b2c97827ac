-- Two computed types: without the polar form a reading that fits can give the returned type another set; and handing back U[int, `never`] breaks the demand.
use mathlib.Core.Path.{◌≡◌, refl, sym}
use mathlib.Core.Bool.{true}
use mathlib.Core.List.{[], ◌∷◌}
use native.Mathlib.Omega.{arith}
use Rattle.std.specs.Prelude.{Ok}
use Rattle.types.specs.Node.{positive, primitive, child_words_in}
use Rattle.types.specs.Arena.{Arena, at, sound}
use Rattle.types.specs.Places.{self}
use Rattle.types.proofs.Tests.{true_false}
use Rattle.simplification.specs.Passes.{AfterPasses, more_passes, simplify}
use Rattle.simplification.specs.Reading.{Reading, set_of}
use Rattle.simplification.specs.Demand.{ReadingFits}
use Rattle.simplification.specs.Theorems.{unpolar, PolarFormNeeded, NoHandingBack}
use Rattle.simplification.specs.Worked.{I}
use Rattle.simplification.proofs.Fitting.{fitting, fitting_fits}

-- ---- I[U[a, b], int]
abbrev grown : Arena
grown = I 0 2 ∷ unpolar

-- a pass leaves I[a, int], the next int, and the third changes nothing
abbrev result : AfterPasses
result = record { root = 2; arena = grown; taken = record { root = 4; arena = unpolar } ∷ record { root = 5; arena = grown } ∷ record { root = 2; arena = grown } ∷ [] }

simplified : simplify 16384 4096 4 unpolar ≡ Ok result
unfolding simplify child_words_in
simplified = refl

-- one mark, which int has, and a and b don't
abbrev reading : Reading
reading = fitting result.taken 1 (record { own = primitive 2; children = []; value = λ m. true } ∷ [])

good : sound 0 unpolar ≡ true
unfolding sound child_words_in
good = refl

fits : ReadingFits reading result.taken
unfolding simplify
fits = fitting_fits 16384 4096 0 (omega arith) more_passes 4 unpolar good (omega arith) result simplified 1 _

pub polar_form_needed : PolarFormNeeded
unfolding set_of fitting
polar_form_needed = record { good = good; result = result; run = simplified; reading = reading; fits = fits; differ = λ e. true_false (sym (λ i. e i (0, omega arith))) }

-- ---- U[int, `never`]
pub no_handing_back : NoHandingBack
unfolding at
no_handing_back D = (D.shape 2 positive (record { sign = positive; place = self }) refl).no_bound 1 (omega arith) positive refl
