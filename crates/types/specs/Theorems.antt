-- What is shown of these definitions beyond the contracts. A statement with parameters holds for all of them.
use Rattle.std.specs.Prelude.{ℕ, suc, ◌/◌, ◌%◌, ◌^◌, ◌≤◌, ◌<◌, ◌≡◌, true, false, List, [], ◌∷◌, ◌++◌, map, length, get_or, Ok, Err}
use Rattle.std.proofs.Math.Option.{none, some}
use Rattle.words.specs.declared.Layout.{Layout}
use Rattle.types.specs.Order.{order, lexicographic, by, then_by, TotalOrder}
use Rattle.types.specs.declared.refusal.Refusal.TheVariants as refusal
use Rattle.types.specs.Out.{checked}
use Rattle.types.specs.Decimal.{digit, decimal}
use Rattle.types.specs.Kind.{Kind, disc, kind_of}
use Rattle.types.specs.Node.{Polarity, Tag, Node, tag, children, names, encode_in, below, formed_in, linked, rising, guess_in}
use Rattle.types.specs.Node.{is_words_in, decode_in, IsNodeIn}
use Rattle.types.specs.Fault.{fits_in, children_in, fault_in}
use Rattle.types.specs.Arena.{Arena, at, rec, fold, find, sound, Ext}
use Rattle.types.specs.Places.{Place}
use Rattle.types.specs.Memory.{Holds, arena_of}
use Rattle.types.specs.declared.Counters.{Counters}
use Rattle.std.specs.declared.cmp.Ordering.{Ordering}

-- ---- orders
-- numbers by size are a total order
abbrev pub OrderTotal : Type 0
OrderTotal = TotalOrder order

-- so are lists by their first difference, over a total order
abbrev pub LexicographicTotal {ℓ} : {A : Type ℓ} → (A → A → Ordering) → Type ℓ
LexicographicTotal f = TotalOrder f → TotalOrder (lexicographic f)

-- so are things by one key and then another, where the two tell them apart
abbrev pub KeysTotal {ℓ κ μ} : {A : Type ℓ} {B : Type κ} {C : Type μ} → (A → B) → (A → C) → (B → B → Ordering) → (C → C → Ordering)
    → Type (ℓ ⊔ κ ⊔ μ)
KeysTotal {A = A} key tie f g =
    TotalOrder f → TotalOrder g → ((x y : A) → key x ≡ key y → tie x ≡ tie y → x ≡ y) → TotalOrder (then_by (by key f) (by tie g))

-- ---- decimal digits
-- below ten a number is one digit
abbrev pub DecimalSmall : Type 0
DecimalSmall = (n : ℕ) → n < 10 → decimal n ≡ digit n ∷ []

-- from ten on the digits are those of its tenth, then the last one
abbrev pub DecimalStep : Type 0
DecimalStep = (n : ℕ) → 10 ≤ n → decimal n ≡ decimal (n / 10) ++ (digit (n % 10) ∷ [])

-- a number below 10, 100, .. has at most 1, 2, .. digits
abbrev pub DecimalLength : Type 0
DecimalLength = (k n : ℕ) → n < 10 ^ suc k → length (decimal n) ≤ suc k

-- ---- kinds and words (01, "Words of the arena")
-- the kind of a kind's number is that kind
abbrev pub KindOfDisc : Type 0
KindOfDisc = (k : Kind) → kind_of (disc k) ≡ some k

-- and a number that has a kind is that kind's
abbrev pub DiscKindOf : Type 0
DiscKindOf = (n : ℕ) (k : Kind) → kind_of n ≡ some k → n ≡ disc k

-- the words of a formed node give the node back
abbrev pub GuessEncode : Layout → Type 0
GuessEncode l = (x : Node) → formed_in l x ≡ true → guess_in l (encode_in l x) ≡ x

-- the children that they hold are the node's
abbrev pub ChildrenEncode : Layout → Type 0
ChildrenEncode l = (x : Node) → formed_in l x ≡ true → children_in (encode_in l x) ≡ children x

-- `decode` gives a node that may stand there from its words
abbrev pub DecodeOk : Layout → Type 0
DecodeOk l = (table nodes : ℕ) (ws : List ℕ) (x : Node) → IsNodeIn l table nodes ws x → decode_in l table nodes ws ≡ Ok x

-- and it gives no other
abbrev pub OkDecode : Layout → Type 0
OkDecode l = (table nodes : ℕ) (ws : List ℕ) (x : Node) → decode_in l table nodes ws ≡ Ok x → IsNodeIn l table nodes ws x

-- else it refuses by the first of 3, 4 and 5 that is true (01, "Who can cause which number"): no formed node has these words
abbrev pub DecodeThree : Layout → Type 0
DecodeThree l =
    (table nodes : ℕ) (ws : List ℕ) → ((x : Node) → formed_in l x ≡ true → ws ≡ encode_in l x → ⊥) → decode_in l table nodes ws ≡ Err refusal.MalformedNode

-- one has, but a child or a name isn't there
abbrev pub DecodeFour : Layout → Type 0
DecodeFour l =
    (table nodes : ℕ) (ws : List ℕ) (x : Node) → formed_in l x ≡ true → ws ≡ encode_in l x → linked table nodes x ≡ false
    → decode_in l table nodes ws ≡ Err refusal.OutOfRange

-- all are there, but the names don't rise
abbrev pub DecodeFive : Layout → Type 0
DecodeFive l =
    (table nodes : ℕ) (ws : List ℕ) (x : Node) → formed_in l x ≡ true → ws ≡ encode_in l x → linked table nodes x ≡ true
    → rising (names (tag x)) ≡ false → decode_in l table nodes ws ≡ Err refusal.UnorderedFields

-- the sentences on number 3, read off field by field, are what `decode` asks, for words of 32 bits
abbrev pub FitsWords : Layout → Type 0
FitsWords l = (ws : List ℕ) → below (2 ^ 32) ws ≡ true → is_words_in l ws (guess_in l ws) ≡ fits_in l ws

-- so are those on 3, 4 and 5 together: `fault` is `decode`'s refusal, none where it gives a node
abbrev pub FaultDecode : Layout → Type 0
FaultDecode l =
    (table nodes : ℕ) (ws : List ℕ) → below (2 ^ 32) ws ≡ true → checked (decode_in l table nodes ws) ≡ fault_in l table nodes ws

-- ---- arenas
-- in an arena a that grew from b the old numbers have the same nodes
abbrev pub ExtAt : Type 0
ExtAt = (b a : Arena) → Ext b a → (n : ℕ) → n < length b → at a n ≡ at b n

-- and the same values, of any recursion
abbrev pub ExtRec {ℓ} : {Y : Type ℓ} → (Arena → Node → (ℕ → Y) → Y) → Y → Type ℓ
ExtRec step y = (b a : Arena) → Ext b a → (n : ℕ) → n < length b → rec step y a n ≡ rec step y b n

-- and of any fold
abbrev pub ExtFold {ℓ} : {Y : Type ℓ} → (Tag → List Y → Y) → Type ℓ
ExtFold value = (b a : Arena) → Ext b a → (n : ℕ) → n < length b → fold value a n ≡ fold value b n

-- and no fewer places
abbrev pub PlaceKept : ℕ → Arena → Arena → ℕ → ℕ → Polarity → Polarity → Type 0
PlaceKept table b a n u s p = sound table b ≡ true → Ext b a → Place b n s u p → n < length b → Place a n s u p

-- nor more
abbrev pub PlaceOld : ℕ → Arena → Arena → ℕ → ℕ → Polarity → Polarity → Type 0
PlaceOld table b a n u s p = sound table b ≡ true → Ext b a → Place a n s u p → n < length b → Place b n s u p

-- in a sound arena a node's value is that of its tag and its children's values
abbrev pub FoldAt {ℓ} : {Y : Type ℓ} → (Tag → List Y → Y) → Type ℓ
FoldAt value =
    (table : ℕ) (a : Arena) → sound table a ≡ true → (n : ℕ) → n < length a
    → fold value a n ≡ value (tag (at a n)) (map (fold value a) (children (at a n)))

-- children have lower numbers
abbrev pub ChildLower : Type 0
ChildLower =
    (table : ℕ) (a : Arena) → sound table a ≡ true → (n : ℕ) → n < length a → (i : ℕ) → i < length (children (at a n))
    → get_or (children (at a n)) i 0 < n

-- a node is found only where it stands
abbrev pub FindAt : Type 0
FindAt = (x : Node) (a : Arena) (n : ℕ) → find x a ≡ some n → (n < length a) × (at a n ≡ x)

-- and there it is found: in a sound arena it has one number
abbrev pub AtFind : Type 0
AtFind = (table : ℕ) (a : Arena) → sound table a ≡ true → (n : ℕ) → n < length a → find (at a n) a ≡ some n

-- ---- lent memory (01, "Words of the arena")
-- it holds at most one arena, whatever the tables
abbrev pub UniqueArena : ℕ → ℕ → List ℕ → List ℕ → Counters → Arena → Arena → Type 0
UniqueArena t u w s c a b = Holds t w s c a → Holds u w s c b → a ≡ b

-- `arena_of` gives the arena that it holds
abbrev pub ArenaOfHolds : ℕ → List ℕ → List ℕ → Counters → Arena → Type 0
ArenaOfHolds table w s c a = Holds table w s c a → arena_of table w s c ≡ some a

-- and no other
abbrev pub HoldsArenaOf : ℕ → List ℕ → List ℕ → Counters → Arena → Type 0
HoldsArenaOf table w s c a = arena_of table w s c ≡ some a → Holds table w s c a

-- and gives none where memory holds none
abbrev pub Unsound : ℕ → List ℕ → List ℕ → Counters → Type 0
Unsound table w s c = ((a : Arena) → Holds table w s c a → ⊥) → arena_of table w s c ≡ none
