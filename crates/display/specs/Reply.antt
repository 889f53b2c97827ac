-- What `display` and `display_nix` answer and leave (01, "Who can cause which number"; 02, A1).
use Rattle.std.specs.Prelude.{ℕ, min, true, false, List, ◌++◌, length, drop, replicate, leb, Ok, Err}
use Rattle.types.specs.declared.refusal.Refusal.TheVariants as refusal
use Rattle.types.specs.Out.{Out}
use Rattle.types.specs.declared.Counters.{Counters}
use Rattle.names.specs.Table.{split}
use Rattle.walks.specs.Asked.{ask_reply}
use Rattle.spelling.specs.declared.Spelling.{Spelling}
use Rattle.spelling.specs.declared.Spelling.TheVariants as spelling
use Rattle.text_writing.specs.Text.{type_text}

-- the length of the text or the number of a refusal, and all lent bytes
pub data Reply : Type 0 where
  reply : Out ℕ → List ℕ → Reply

-- the text x in the lent bytes b, those past it as they were; 9 and zeros throughout where x exceeds them, or 65,536
unfoldable pub displaying : List ℕ → List ℕ → Reply
displaying b x = elim (leb (length x) (min (length b) 65536)) [
  | true ↦ reply (Ok (length x)) (x ++ drop (length x) b)
  | false ↦ reply (Err refusal.TextTooLong) (replicate (length b) 0)
]

-- 9 comes last: earlier numbers leave the bytes as lent
unfoldable pub reply_of : List ℕ → Out (List ℕ) → Reply
unfolding displaying
reply_of b (Ok x) = displaying b x
reply_of b (Err e) = reply (Err e) b

-- 1, 2 and 6, then the text of the type of the root, with the names of the table t so spelled
unfoldable pub print_reply : Spelling → List ℕ → List ℕ → List ℕ → Counters → ℕ → List ℕ → Reply
unfolding reply_of ask_reply split type_text
print_reply sp t w s c root b = reply_of b (ask_reply (type_text sp (split t)) t w s c root)

-- names as they stand in the table: the Rust's text
unfoldable pub display_reply : List ℕ → List ℕ → List ℕ → Counters → ℕ → List ℕ → Reply
unfolding print_reply
display_reply = print_reply spelling.Bare

-- names as the Nix manual writes them (02, A1)
unfoldable pub display_nix_reply : List ℕ → List ℕ → List ℕ → Counters → ℕ → List ℕ → Reply
unfolding print_reply
display_nix_reply = print_reply spelling.Nix

-- an answer with the bytes as left
abbrev pub left : Out ℕ → List ℕ → Reply
left r b = reply r b
