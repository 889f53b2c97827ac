-- The unfolded tree of a value of a fix, in which nothing is shared and names are texts.
use Rattle.std.specs.Prelude.{ℕ, ◌-◌, true, false, List, [], ◌∷◌, map, length, get_or, eqb}
use Rattle.names.specs.Table.{Name}
use Rattle.equal.specs.Equal.{Spelling, spelling, Label, label, Tree, bare, over}
use Rattle.fix_values.specs.Values.{Shape, plain, shape, kind, names, children}
use Rattle.fix_values.specs.Fix.{Fix}

-- a name as a text, under a table of these names: that of a field that isn't optional
abbrev pub spell_name : List Name → ℕ → Spelling
spell_name ns n = spelling false (get_or ns n [])

-- what a value is besides its children: the number of its kind, and a set's names
abbrev pub value_label : List Name → Shape → Label
value_label ns s = label (kind s) [] (map (spell_name ns) (names s)) false false

-- the tree of value v, and that of null past the end
unfoldable pub value_tree : List Name → Fix → ℕ → Tree
unfolding over
value_tree ns [] v = bare (value_label ns (plain 0))
value_tree ns (x ∷ f) v = elim (eqb v (length f)) [
  | true ↦ over (value_label ns (shape x)) (map (value_tree ns f) (children x))
  | false ↦ value_tree ns f v
]

-- the tree of the fix itself, its last value
abbrev pub fix_tree : List Name → Fix → Tree
fix_tree ns f = value_tree ns f (length f - 1)
