-- A value of a fix: what it is and its children's numbers; its words say both (02, A5).
use Rattle.std.specs.Prelude.{ℕ, ◌^◌, Bool, true, false, ◌&&◌, List, [], ◌∷◌, map, length, eqb, ltb}
use Rattle.words.specs.Words.{head_word, head_kind, field_name, child}
use Rattle.types.specs.Same.{same_numbers}
use Rattle.types.specs.Node.{field, child_words, child_words_in, below, rising}

-- what a value is besides its children: one of the first six kinds (null, bool, int, float, string, path), by its number; a list; a set, by
-- the numbers of its names
pub data Shape : Type 0 where
  plain : ℕ → Shape
  list : Shape
  set : List ℕ → Shape

-- a value: its shape and its children's numbers, in their order
pub data Value : Type 0 where
  value : Shape → List ℕ → Value

abbrev pub shape : Value → Shape
shape (value s cs) = s

abbrev pub children : Value → List ℕ
children (value s cs) = cs

-- the number of its kind, which the head carries
abbrev pub kind : Shape → ℕ
kind (plain k) = k
kind list = 6
kind (set ns) = 7

-- the numbers of a set's names
abbrev pub names : Shape → List ℕ
names (plain k) = []
names list = []
names (set ns) = ns

-- the words behind the head: a field word that isn't optional for each child that has a name, else a child word
abbrev pub body : Value → List ℕ
body (value s cs) = child_words (map (field false) (names s)) cs

-- the words of a value; the head has kind 4 bits, zero 12, count 16
unfoldable pub encode : Value → List ℕ
unfolding head_word child_words_in
encode v = head_word (kind (shape v)) false false (length (body v)) ∷ body v

-- the first six kinds have no children, and a set has a name for each
abbrev pub matched : Shape → ℕ → Bool
matched (plain k) n = ltb k 6 && eqb n 0
matched list n = true
matched (set ns) n = eqb (length ns) n

-- a value that may stand after so many values, under a table of so many names: its count fits the head, its children come before it, its
-- names are the table's and rise
unfoldable pub well : ℕ → ℕ → Value → Bool
unfolding below rising
well table values (value s cs) =
    matched s (length cs) && (ltb (length cs) (2 ^ 16) && (below values cs && (below table (names s) && rising (names s))))

-- the only shape that a head of this kind can have over this body
unfoldable pub shape_of : ℕ → List ℕ → Shape
unfolding field_name
shape_of k b = elim (ltb k 6) [ true ↦ plain k | false ↦ elim (eqb k 6) [ true ↦ list | false ↦ set (map field_name b) ] ]

-- the only value that can have these words
unfoldable pub guess : List ℕ → Value
unfolding head_kind shape_of child
guess [] = value list []
guess (h ∷ b) = value (shape_of (head_kind h) b) (map child b)

-- are these the words of a value that may stand there?
unfoldable pub is_value : ℕ → ℕ → List ℕ → Bool
unfolding well guess encode same_numbers
is_value table values ws = well table values (guess ws) && same_numbers ws (encode (guess ws))
