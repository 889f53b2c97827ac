-- A name table (01, "Words of the arena").
use Rattle.std.specs.Prelude.{ℕ, zero, suc, ◌≡◌, Bool, true, false, ◌&&◌, List, [], ◌∷◌, ◌++◌, length, get_or, take, drop, leb, eqb}
use Rattle.std.proofs.Math.Option.{Option, none, some}
use Rattle.words.specs.declared.Layout.{Layout}
use Rattle.words.specs.declared.Layout.TheVariants as layout
use Rattle.types.specs.Same.{same_numbers}
use Rattle.types.specs.Order.{order, lexicographic, is_less}
use Rattle.std.specs.declared.cmp.Ordering.{Ordering}

-- a name is its bytes
abbrev pub Name : Type 0
Name = List ℕ

-- the bytes of a table: of each name its length, then its own bytes
unfoldable pub table : List Name → List ℕ
table [] = []
table (n ∷ ns) = length n ∷ n ++ table ns

-- names byte by byte; a name comes before any longer one that begins with it
unfoldable pub name_order : Name → Name → Ordering
unfolding lexicographic order
name_order = lexicographic order

-- does each name come before the next?
unfoldable pub rising : List Name → Bool
unfolding name_order
rising [] = true
rising (m ∷ []) = true
rising (m ∷ n ∷ ns) = is_less (name_order m n) && rising (n ∷ ns)

-- is each byte one of 32 to 126?
unfoldable pub all_printable : List ℕ → Bool
all_printable [] = true
all_printable (b ∷ bs) = leb 32 b && (leb b 126 && all_printable bs)

-- has the name 1 to 64 bytes, all of them printable?
unfoldable pub good_name : Name → Bool
unfolding all_printable
good_name n = leb 1 (length n) && (leb (length n) 64 && all_printable n)

-- is each name good?
unfoldable pub all_good : List Name → Bool
unfolding good_name
all_good [] = true
all_good (n ∷ ns) = good_name n && all_good ns

-- the most names that a table may have (01, "Words of the arena"; 02, A2)
abbrev pub most_names : Layout → ℕ
most_names layout.Old = 256
most_names layout.New = 4096

-- the rules of a table over its names: at most so many, in at most 65,536 bytes (02, A2), each good, strictly rising. The old rules have no
-- limit of bytes, since 256 names can't have so many
unfoldable pub good_names_in : Layout → List Name → Bool
unfolding table all_good rising
good_names_in l ns = leb (length ns) (most_names l) && (leb (length (table ns)) 65536 && (all_good ns && rising ns))

-- the rules of today's
abbrev pub good_names : List Name → Bool
good_names = good_names_in layout.New

-- the bytes are those of a table with these names
pub record IsTable (t : List ℕ) (ns : List Name) : Type 0 where
  pub bytes : t ≡ table ns
  pub good : good_names ns ≡ true

-- the first k names of any bytes: each first byte takes so many after it, or what is left
unfoldable pub split_first : ℕ → List ℕ → List Name
split_first zero t = []
split_first (suc k) [] = []
split_first (suc k) (b ∷ t) = take b t ∷ split_first k (drop b t)

-- all names of any bytes: no more than there are bytes
unfoldable pub split : List ℕ → List Name
unfolding split_first
split t = split_first (length t) t

-- the names of a table, or none where the bytes break a rule: what `split` guesses must have these bytes and keep the rules
unfoldable pub names_of : List ℕ → Option (List Name)
unfolding table split good_names_in same_numbers
names_of t = elim (same_numbers t (table (split t)) && good_names (split t)) [ true ↦ some (split t) | false ↦ none ]

-- the text of name k of any bytes, empty past the last
unfoldable pub name_text : List ℕ → ℕ → Name
unfolding split
name_text t k = get_or (split t) k []

-- may a name with this length byte follow the last one?
unfoldable pub may_follow : Name → ℕ → Name → Bool
unfolding good_name name_order
may_follow last b n = eqb b (length n) && (good_name n && is_less (name_order last n))
