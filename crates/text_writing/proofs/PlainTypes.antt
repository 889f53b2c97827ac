-- A type all of whose names are plain has the same text in both prints: each piece of a node that has a name in it is alike, so the node is, and
-- by induction on the node's number the type is. A child's places are its parent's, one step down.
use Prim.Native.Nat.{ℕ, zero, suc, ◌<◌}
use mathlib.Core.Path.{◌≡◌, refl, sym, ap, ◌∙◌}
use mathlib.Core.Bool.{true}
use mathlib.Core.List.{List, [], ◌∷◌, ◌++◌}
use native.Mathlib.Omega.{arith}
use lib.ListN.{length, get_or}
use Rattle.types.specs.Bytes.{bytes}
use Rattle.types.specs.Kind.{disc}
use Rattle.types.specs.Node.{Polarity, positive, negative, Field, field, primitive, list, lambda, attrset, named, Tag, members, bound, var, neg, form, tag, kind, children, field_names, names}
use Rattle.types.specs.Arena.{Arena, at, fold, sound}
use Rattle.types.specs.Places.{child_sign, Place, self, down}
use Rattle.types.proofs.Lists.{map_each}
use Rattle.types.proofs.Sound.{child_lower, fold_at}
use Rattle.names.specs.Table.{Name}
use Rattle.spelling.specs.Spelling.{plain}
use Rattle.spelling.specs.declared.Spelling.TheVariants as spelling
use Rattle.spelling.proofs.Spellings.{plain_alike}
use Rattle.appending.specs.Parts.{when, between}
use Rattle.text_writing.specs.Text.{beginning, separator, field_text, field_label, label, parens, ending, shown, Printed, before, child_text, child_texts, node_text, type_text}
use Rattle.text_writing.specs.Theorems.{PlainTypeAlike}

module _ (ns : List Name) where
  -- the names with these numbers are plain
  abbrev AllPlain : List ℕ → Type 0
  AllPlain ms = (i : ℕ) → i < length ms → plain (get_or ns (get_or ms i 0) []) ≡ true

  -- ---- the pieces of a node
  beginning_alike : (t : Tag) → AllPlain (names t) → beginning spelling.Nix ns t ≡ beginning spelling.Bare ns t
  unfolding beginning
  beginning_alike (members k) h = refl
  beginning_alike (bound positive) h = refl
  beginning_alike (bound negative) h = refl
  beginning_alike (var v) h = refl
  beginning_alike neg h = refl
  beginning_alike (form (primitive c)) h = refl
  beginning_alike (form list) h = refl
  beginning_alike (form lambda) h = refl
  beginning_alike (form (attrset fs d o)) h = refl
  beginning_alike (form (named n)) h = plain_alike (get_or ns n []) (h 0 (omega arith))

  field_alike : (fs : List Field) → AllPlain (field_names fs) → (i : ℕ) → field_label spelling.Nix ns fs i ≡ field_label spelling.Bare ns fs i
  unfolding field_label field_text
  field_alike [] h i = refl
  field_alike (field o n ∷ fs) h zero = ap (λ (x : List ℕ). x ++ when o (bytes "?") ++ bytes ": ") (plain_alike (get_or ns n []) (h 0 (omega arith)))
  field_alike (field o n ∷ fs) h (suc i) = field_alike fs (λ j l. h (suc j) (omega arith)) i

  label_alike : (t : Tag) → AllPlain (names t) → (i : ℕ) → label spelling.Nix ns t i ≡ label spelling.Bare ns t i
  unfolding label
  label_alike (members k) h i = refl
  label_alike (bound k) h i = refl
  label_alike (var v) h i = refl
  label_alike neg h i = refl
  label_alike (form (primitive c)) h i = refl
  label_alike (form list) h i = refl
  label_alike (form lambda) h i = refl
  label_alike (form (attrset fs d o)) h i = field_alike fs h i
  label_alike (form (named n)) h i = refl

  module _ (t : Tag) (h : AllPlain (names t)) where
    child_alike : (i : ℕ) (p : Printed) → child_text spelling.Nix ns t i p ≡ child_text spelling.Bare ns t i p
    unfolding child_text before
    child_alike i p =
        ap (λ (x : List ℕ). between (separator t) i ++ x ++ when (parens t i p.number) (bytes "(") ++ p.text ++ when (parens t i p.number) (bytes ")")) (label_alike t h i)

    children_alike : (i : ℕ) (ps : List Printed) → child_texts spelling.Nix ns t i ps ≡ child_texts spelling.Bare ns t i ps
    unfolding child_texts
    children_alike i [] = refl
    children_alike i (p ∷ ps) = λ j. child_alike i p j ++ children_alike (suc i) ps j

    node_alike : (ps : List Printed) → node_text spelling.Nix ns t ps ≡ node_text spelling.Bare ns t ps
    unfolding node_text
    node_alike ps = λ j. record { number = disc (kind t); text = beginning_alike t h j ++ children_alike 0 (shown t ps) j ++ ending t (length ps) }

-- ---- the type of a node
module _ (ns : List Name) (table : ℕ) (a : Arena) (g : sound table a ≡ true) where
  -- at each place of the type of node n, at the sign s, the names are plain
  abbrev PlainPlaces : ℕ → Polarity → Type 0
  PlainPlaces n s = (u : ℕ) (p : Polarity) → Place a n s u p → AllPlain ns (names (tag (at a u)))

  printed_alike : (m n : ℕ) → n < m → n < length a → (s : Polarity) → PlainPlaces n s → fold (node_text spelling.Nix ns) a n ≡ fold (node_text spelling.Bare ns) a n
  printed_alike zero n k l s h = absurd (omega arith)
  printed_alike (suc m) n k l s h =
      let t = tag (at a n) in
      let cs = children (at a n) in
      let old : (i : ℕ) → i < length cs → fold (node_text spelling.Nix ns) a (get_or cs i 0) ≡ fold (node_text spelling.Bare ns) a (get_or cs i 0)
      = λ i o. let c = child_lower table a g n l i o in printed_alike m (get_or cs i 0) (omega arith) (omega arith) (child_sign t i s) (λ u p r. h u p (down i o r)) in
      fold_at (node_text spelling.Nix ns) table a g n l ∙ ap (node_text spelling.Nix ns t) (map_each _ _ cs cs refl old)
      ∙ node_alike ns t (h n s self) _ ∙ sym (fold_at (node_text spelling.Bare ns) table a g n l)

pub plain_type_alike : PlainTypeAlike
unfolding type_text
plain_type_alike ns table a g root l P =
    ap (λ (p : Printed). p.text) (printed_alike ns table a g (suc root) root (omega arith) l positive (λ u p r. P.is u (record { sign = p; place = r })))
