-- Of a type all of whose names are plain both prints answer and leave the same: they ask for its text, which is the same.
use mathlib.Core.Path.{ap}
use Rattle.names.specs.Table.{split}
use Rattle.spelling.specs.declared.Spelling.TheVariants as spelling
use Rattle.text_writing.specs.Text.{type_text}
use Rattle.text_writing.proofs.PlainTypes.{plain_type_alike}
use Rattle.questions.proofs.Ways.{asked_alike}
use Rattle.display.specs.Reply.{reply_of, print_reply, display_reply, display_nix_reply}
use Rattle.lang_ty.specs.Theorems.{PlainPrintsAlike}

pub plain_prints_alike : PlainPrintsAlike
unfolding display_reply display_nix_reply print_reply
plain_prints_alike t w s c root b P =
    ap (reply_of b)
    (asked_alike t w s c root (type_text spelling.Nix (split t)) (type_text spelling.Bare (split t))
    (λ table a H l. plain_type_alike (split t) table a H.good root l (P table a H)))
