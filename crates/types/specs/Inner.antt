-- What the functions that make a short text ask and answer.
use Rattle.std.specs.Prelude.{ℕ, ◌+◌, ◌≤◌, ◌≡◌, List, ◌++◌, take}
use Rattle.types.specs.declared.short_text.ShortText.{ShortText}
use Rattle.types.specs.Short.{short_text}

-- the bytes of a text
unfoldable pub text : ShortText → List ℕ
text t = take t.len t.bytes

-- the text with more bytes behind it
unfoldable pub appended : ShortText → List ℕ → ShortText
appended t s = short_text (text t ++ s)

-- zeros stand after the text t, and n more bytes fit
pub record Room (t : ShortText) (n : ℕ) : Type 0 where
  pub padded : t ≡ short_text (text t)
  pub fits : t.len + n ≤ 11
