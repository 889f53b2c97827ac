-- The import of a type into another arena, whose names are those of another table (02, A4). No definition has a cache; `import_node` has.
use Rattle.std.specs.Prelude.{ℕ, Bool, ◌||◌, get_or, Err}
use Rattle.std.proofs.Math.Bool.{true, false}
use mathlib.Core.List.{List, [], ◌∷◌, map}
use Rattle.std.proofs.Math.Option.{Option, none, some}
use Rattle.types.specs.declared.refusal.Refusal.TheVariants as refusal
use Rattle.types.specs.Node.{Field, field, primitive, list, lambda, attrset, named, Tag, members, bound, var, neg, form, Node, tag}
use Rattle.types.specs.Node.{children, names}
use Rattle.types.specs.Arena.{Arena, rec, fold, absent}
use Rattle.names.specs.Table.{Name}
use Rattle.name_lookup.specs.Lookup.{position}
use Rattle.walks.specs.Reach.{some_of}
use Rattle.recursion.specs.Jobs.{Job, rebuild}

-- the number that name k of the source's table has in the target's, found by its text (02, A3); none where the target's table lacks it
unfoldable pub number_in : List Name → List Name → ℕ → Option ℕ
unfolding position
number_in ns ms k = elim (position ms (get_or ns k [])).found [ true ↦ some (position ms (get_or ns k [])).place | false ↦ none ]

-- the number that a name gets; where there is none, no node is made of it
abbrev pub or_zero : Option ℕ → ℕ
or_zero none = 0
or_zero (some p) = p

-- the names of the source, by their numbers in the target's table
module _ (f : ℕ → Option ℕ) where
  abbrev pub renamed_field : Field → Field
  renamed_field (field o k) = field o (or_zero (f k))

  -- what a node carries besides its children, with the numbers that its names have in the target's table
  unfoldable pub renamed : Tag → Tag
  renamed (members k) = members k
  renamed (bound k) = bound k
  renamed (var v) = var v
  renamed neg = neg
  renamed (form (primitive c)) = form (primitive c)
  renamed (form list) = form list
  renamed (form lambda) = form lambda
  renamed (form (attrset fs d o)) = form (attrset (map renamed_field fs) d o)
  renamed (form (named k)) = form (named (or_zero (f k)))

  -- does the target's table lack one of these names?
  unfoldable pub lacks_one : List ℕ → Bool
  lacks_one [] = false
  lacks_one (k ∷ ks) = absent (f k) || lacks_one ks

  -- does it lack a name of node n, or of a node to which a path of children leads from there? In places that is the theorem
  -- `lacks_exactly`
  unfoldable pub lacks : Arena → ℕ → Bool
  unfolding fold some_of lacks_one
  lacks = fold (λ (t : Tag) (bs : List Bool). lacks_one (names t) || some_of bs)

  module _ (words starts : ℕ) where
    -- a node none of whose names is lacking: its children are imported from left to right, then it is interned with them, and with its
    -- names' numbers in the target's table
    unfoldable pub import_step : Arena → Node → (ℕ → Job) → Job
    unfolding rebuild renamed lacks_one
    import_step s x g a =
        elim (lacks_one (names (tag x))) [ true ↦ Err refusal.NameAbsent | false ↦ rebuild words starts (renamed (tag x)) (children x) g a ]

    -- node n of the source is imported into the arena at work
    unfoldable pub import_node : Arena → ℕ → Job
    unfolding rec import_step
    import_node = rec import_step (λ a. Err refusal.NoSuchRoot)

    -- the same of a root, with 12 before any node is stored
    unfoldable pub import_from_arena : Arena → ℕ → Job
    unfolding lacks import_node
    import_from_arena u root a = elim (lacks u root) [ true ↦ Err refusal.NameAbsent | false ↦ import_node u root a ]
