-- Every worked sheet has the bytes that its list says, by evaluation.
use mathlib.Core.Path.{◌≡◌, refl}
use mathlib.Core.List.{map}
use Rattle.words.specs.Words.{head_word, field_word, old_field_word}
use Rattle.types.specs.Node.{child_words_in, head_of}
use Rattle.sheet_writing.specs.Bytes.{sheet_bytes_in}
use Rattle.sheet_writing.specs.Worked.{Case, worked}

pub worked_so : map (λ (c : Case). sheet_bytes_in c.layout c.sheet) worked ≡ map (λ (c : Case). c.bytes) worked
unfolding sheet_bytes_in child_words_in head_of head_word field_word old_field_word
worked_so = refl
