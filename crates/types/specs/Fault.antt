-- Numbers 3, 4 and 5 read off the fields of the words, sentence by sentence: what a program tests. That they are `decode`'s, for words of
-- 32 bits, is the theorem `fault_decode`.
use Rattle.std.specs.Prelude.{ℕ, ◌-◌, Bool, true, false, not, ◌&&◌, List, [], ◌∷◌, map, length, get_or, take, drop, eqb, ltb, Ok, Err}
use Rattle.std.proofs.Math.Option.{Option, none, some}
use Rattle.words.specs.Words.{bit, head_kind, head_open, head_dynamic, head_zero, head_count, field_optional, field_name_in}
use Rattle.words.specs.Words.{field_name, old_field_name, field_zero_in, field_zero, old_field_zero, child_zero}
use Rattle.words.specs.declared.Layout.{Layout}
use Rattle.words.specs.declared.Layout.TheVariants as layout
use Rattle.types.specs.declared.refusal.Refusal.TheVariants as refusal
use Rattle.types.specs.Out.{Out}
use Rattle.types.specs.Kind.{Kind, kind_of, body_count, Body, empty, code, number, children, fields, name, body_of}
use Rattle.types.specs.Node.{below, rising, children_of}

-- open and dynamic are 0 but in a set
abbrev pub flags_fit : Body → Bool → Bool → Bool
flags_fit empty o d = not o && not d
flags_fit code o d = not o && not d
flags_fit number o d = not o && not d
flags_fit children o d = not o && not d
flags_fit fields o d = true
flags_fit name o d = not o && not d

-- flags and count fit the kind, where there is one
abbrev pub kind_fits : Option Kind → Bool → Bool → ℕ → Bool
kind_fits none o d n = false
kind_fits (some k) o d n = flags_fit (body_of k) o d && body_count k d n

-- a head's own faults: its zero field, a kind above 10, a flag or a count that doesn't fit the kind (01, "Who can cause which number" and
-- "A sheet and its line")
unfoldable pub head_fits : ℕ → Bool
unfolding head_zero head_kind head_open head_dynamic head_count kind_of body_count
head_fits h = eqb (head_zero h) 0 && kind_fits (kind_of (head_kind h)) (head_open h) (head_dynamic h) (head_count h)

-- the body words that are field words, and those that are child words
abbrev pub field_part : Body → Bool → List ℕ → List ℕ
field_part empty d b = []
field_part code d b = []
field_part number d b = []
field_part children d b = []
field_part fields d b = take (length b - bit d) b
field_part name d b = b

abbrev pub child_part : Body → Bool → List ℕ → List ℕ
child_part empty d b = []
child_part code d b = []
child_part number d b = []
child_part children d b = b
child_part fields d b = drop (length b - bit d) b
child_part name d b = []

-- a code above 7; `Named` with optional 1
abbrev pub own_fits : Body → List ℕ → Bool
own_fits empty b = true
own_fits code b = ltb (get_or b 0 0) 8
own_fits number b = true
own_fits children b = true
own_fits fields b = true
own_fits name b = not (field_optional (get_or b 0 0))

-- is this field 0 in each word?
unfoldable pub each_zero : (ℕ → ℕ) → List ℕ → Bool
each_zero f [] = true
each_zero f (w ∷ ws) = eqb (f w) 0 && each_zero f ws

-- a body's own faults, under a head that fits
unfoldable pub body_fits_in : Layout → Body → Bool → List ℕ → Bool
unfolding each_zero field_zero old_field_zero child_zero field_optional
body_fits_in l s d b = own_fits s b && (each_zero (field_zero_in l) (field_part s d b) && each_zero child_zero (child_part s d b))

abbrev pub body_fits : Body → Bool → List ℕ → Bool
body_fits = body_fits_in layout.New

-- the same of a head's kind, where there is one
abbrev pub kind_body_fits_in : Layout → Option Kind → Bool → List ℕ → Bool
kind_body_fits_in l none d b = false
kind_body_fits_in l (some k) d b = body_fits_in l (body_of k) d b

-- words without a fault of number 3: there is a head, it fits, it counts the words that follow, and they fit
unfoldable pub fits_in : Layout → List ℕ → Bool
unfolding head_fits body_fits_in head_count head_kind head_dynamic kind_of
fits_in l [] = false
fits_in l (h ∷ b) = head_fits h && (eqb (length b) (head_count h) && kind_body_fits_in l (kind_of (head_kind h)) (head_dynamic h) b)

abbrev pub fits : List ℕ → Bool
fits = fits_in layout.New

-- the children, and the numbers of the names, in a body under a head of this kind
abbrev pub kind_children : Option Kind → List ℕ → List ℕ
kind_children none b = []
kind_children (some k) b = children_of (body_of k) b

abbrev pub kind_names_in : Layout → Option Kind → Bool → List ℕ → List ℕ
kind_names_in l none d b = []
kind_names_in l (some k) d b = map (field_name_in l) (field_part (body_of k) d b)

-- the children and the names that a node's words hold
unfoldable pub children_in : List ℕ → List ℕ
unfolding head_kind kind_of children_of
children_in [] = []
children_in (h ∷ b) = kind_children (kind_of (head_kind h)) b

unfoldable pub words_names_in : Layout → List ℕ → List ℕ
unfolding head_kind head_dynamic kind_of field_name old_field_name
words_names_in l [] = []
words_names_in l (h ∷ b) = kind_names_in l (kind_of (head_kind h)) (head_dynamic h) b

abbrev pub words_names : List ℕ → List ℕ
words_names = words_names_in layout.New

-- the refusal of the first test that fails, none where none does: do the words fit, are their children and names there, do the names rise?
abbrev pub first : Bool → Bool → Bool → Out (Unit {0})
first false l r = Err refusal.MalformedNode
first true false r = Err refusal.OutOfRange
first true true false = Err refusal.UnorderedFields
first true true true = Ok tt

-- the first refusal that is true of a node's words, none where none is
unfoldable pub fault_in : Layout → ℕ → ℕ → List ℕ → Out (Unit {0})
unfolding fits_in below rising children_in words_names_in
fault_in l table nodes ws =
    first (fits_in l ws) (below nodes (children_in ws) && below table (words_names_in l ws)) (rising (words_names_in l ws))

abbrev pub fault : ℕ → ℕ → List ℕ → Out (Unit {0})
fault = fault_in layout.New
