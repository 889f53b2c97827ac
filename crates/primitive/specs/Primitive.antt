-- The primitive types: their codes, how they are printed and what they are used for (document 004).
use Rattle.std.specs.Prelude.{ℕ, Bool, ◌||◌, ◌&&◌, List, [], ◌∷◌, get_or, eqb}
use Rattle.types.specs.Bytes.{bytes}

-- the codes (01, "Words of the arena")
abbrev pub null : ℕ
null = 0

abbrev pub bool : ℕ
bool = 1

abbrev pub int : ℕ
int = 2

abbrev pub float : ℕ
float = 3

abbrev pub string : ℕ
string = 4

abbrev pub path : ℕ
path = 5

abbrev pub uri : ℕ
uri = 6

-- what an operand of arithmetic is held to be before it is known as int or float
abbrev pub number : ℕ
number = 7

-- how each is printed, in the order of the codes
abbrev pub primitive_texts : List (List ℕ)
primitive_texts =
    bytes "null" ∷ bytes "bool" ∷ bytes "int" ∷ bytes "float" ∷ bytes "string" ∷ bytes "path" ∷ bytes "uri" ∷ bytes "number" ∷ []

-- the text of a code, empty for a number that is none
unfoldable pub primitive_text : ℕ → List ℕ
primitive_text c = get_or primitive_texts c []

-- is it the type of numbers with a fraction?
unfoldable pub is_float : ℕ → Bool
is_float c = eqb c float

-- can one count with it?
unfoldable pub is_number : ℕ → Bool
unfolding is_float
is_number c = is_float c || (eqb c int || eqb c number)

-- can two of it be joined by `+`?
unfoldable pub is_addable : ℕ → Bool
unfolding is_number
is_addable c = is_number c || (eqb c string || eqb c path)

-- is the first type a part of the second, and another?
unfoldable pub is_subtype_of : ℕ → ℕ → Bool
is_subtype_of c d = eqb d number && (eqb c int || eqb c float)
