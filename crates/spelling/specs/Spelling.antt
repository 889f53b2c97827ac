-- How a name is printed: as it stands in the table, or as the Nix manual writes it (02, A1). Bytes are those of ASCII.
use Rattle.std.specs.Prelude.{ℕ, Bool, true, false, not, ◌&&◌, ◌||◌, List, [], ◌∷◌, ◌++◌, leb, eqb}
use Rattle.types.specs.Bytes.{bytes}
use Rattle.types.specs.Same.{same_numbers}
use Rattle.names.specs.Table.{Name}
use Rattle.spelling.specs.declared.Spelling.{Spelling}
use Rattle.spelling.specs.declared.Spelling.TheVariants as spelling

-- a to z, A to Z
unfoldable pub letter : ℕ → Bool
letter b = (leb 97 b && leb b 122) || (leb 65 b && leb b 90)

-- may an identifier begin with this byte? A letter or an underscore may stand there
unfoldable pub begins : ℕ → Bool
unfolding letter
begins b = letter b || eqb b 95

-- may it go on with this byte? Also digits, the apostrophe and the hyphen may
unfoldable pub continues : ℕ → Bool
unfolding begins
continues b = begins b || ((leb 48 b && leb b 57) || (eqb b 39 || eqb b 45))

-- may it go on with each of these?
unfoldable pub all_continue : List ℕ → Bool
unfolding continues
all_continue [] = true
all_continue (b ∷ bs) = continues b && all_continue bs

-- is this an identifier?
unfoldable pub identifier : List ℕ → Bool
unfolding begins all_continue
identifier [] = false
identifier (b ∷ bs) = begins b && all_continue bs

-- is the name one of these?
unfoldable pub one_of : Name → List Name → Bool
unfolding same_numbers
one_of n [] = false
one_of n (m ∷ ms) = same_numbers n m || one_of n ms

-- the words that are no names, though they are identifiers
unfoldable pub reserved_words : List Name
reserved_words =
    bytes "assert" ∷ bytes "else" ∷ bytes "if" ∷ bytes "in" ∷ bytes "inherit" ∷ bytes "let" ∷ bytes "or" ∷ bytes "rec" ∷ bytes "then"
    ∷ bytes "with" ∷ []

-- is the name one of them?
unfoldable pub reserved : Name → Bool
unfolding one_of reserved_words
reserved n = one_of n reserved_words

-- does the manual write the name without quotes?
unfoldable pub plain : Name → Bool
unfolding identifier reserved
plain n = identifier n && not (reserved n)

-- do these bytes begin with `{`?
unfoldable pub braced : List ℕ → Bool
braced [] = false
braced (b ∷ bs) = eqb b 123

-- does a backslash stand before the first of these bytes? Before a quote, a backslash, and a `$` that `{` follows
unfoldable pub backslashed : List ℕ → Bool
unfolding braced
backslashed [] = false
backslashed (b ∷ bs) = eqb b 34 || (eqb b 92 || (eqb b 36 && braced bs))

-- the byte, behind a backslash or not
unfoldable pub escaped_byte : Bool → ℕ → List ℕ
escaped_byte true b = 92 ∷ b ∷ []
escaped_byte false b = b ∷ []

-- the bytes of a name between its quotes
unfoldable pub escaped : List ℕ → List ℕ
unfolding backslashed escaped_byte
escaped [] = []
escaped (b ∷ bs) = escaped_byte (backslashed (b ∷ bs)) b ++ escaped bs

-- the name in quotes
unfoldable pub quoted : Name → List ℕ
unfolding escaped
quoted n = (34 ∷ []) ++ escaped n ++ (34 ∷ [])

-- the name as the manual writes it
unfoldable pub nix_name : Name → List ℕ
unfolding plain quoted
nix_name n = elim (plain n) [ true ↦ n | false ↦ quoted n ]

-- the name as it is printed
unfoldable pub spelled : Spelling → Name → List ℕ
unfolding nix_name
spelled spelling.Bare n = n
spelled spelling.Nix n = nix_name n
