-- Every case of each list holds, by evaluation.
use mathlib.Core.Path.{refl}
use Rattle.types.specs.Tyvar.{tyvar_name}
use Rattle.words.specs.Words.{head_word}
use Rattle.types.specs.Node.{head_of, child_words_in, decode_in}
use Rattle.types.specs.Fault.{fault_in}
use Rattle.types.specs.Arena.{sound}
use Rattle.types.specs.Memory.{arena_of}
use Rattle.spelling.specs.Spelling.{nix_name}
use Rattle.spelling.specs.Reading.{read_name}
use Rattle.questions.specs.Lambdas.{has_shared_tyvar_across_lambda_params}
use Rattle.worked.specs.Theorems.{Starred, JudgedSo, SheetHeld, RepeatRefused, SpelledSo}
use Rattle.set_op_lists.specs.SetOps.{normalize_set_ops}
use Rattle.simplification.proofs.Evaluated.{worked_so as simplify-so}
use Rattle.display.proofs.Evaluated.{worked_so as display-so}

pub judged_so : JudgedSo
unfolding decode_in fault_in head_of head_word child_words_in
judged_so = refl

-- 01's words hold its arena, and with a second variable 0 in place of int they hold none
pub sheet_held : SheetHeld
unfolding arena_of head_of head_word child_words_in
sheet_held = refl

pub repeat_refused : RepeatRefused
unfolding arena_of head_of head_word child_words_in
repeat_refused = refl

-- all starred types at once
pub starred_so : Starred
unfolding tyvar_name normalize_set_ops child_words_in sound has_shared_tyvar_across_lambda_params
starred_so = record { variables = refl; simplifies = simplify-so; normalizes = refl; prints_so = display-so; shares = refl }

pub spelled_so : SpelledSo
unfolding nix_name read_name
spelled_so = record { writes = refl; reads_back = refl; reads = refl }
