-- What is shown of these definitions beyond the contracts. A statement with parameters holds for all of them.
use Rattle.std.specs.Prelude.{ℕ, ◌<◌, ◌≤◌, ◌≡◌, true, Bool, ◌↔◌, length, get_or, take, Ok, Err}
use mathlib.Core.List.{List, [], Memᴰ as Mem}
use Rattle.std.proofs.Math.Option.{some}
use Rattle.types.specs.declared.refusal.Refusal.TheVariants as refusal
use Rattle.types.specs.Out.{Out}
use Rattle.types.specs.Node.{tag, names}
use Rattle.types.specs.Reply.{Reply, reply}
use Rattle.types.specs.declared.Counters.{Counters}
use Rattle.equal.specs.Reply.{equal_reply}
use Rattle.compact.specs.Compact.{compact_reply}
use Rattle.import.specs.Import.{import_reply}
use Rattle.lang_ty.specs.Told.{told, tell, told_arena, tell_arena}
use Rattle.lang_ty.specs.Numbered.{Numbered, Converted, Imported, Fitted, ZeroIsValue, answer_of, length_of}
use Rattle.types.specs.Arena.{Arena, at, sound, Ext}
use Rattle.types.specs.Places.{Reachable}
use Rattle.types.specs.Memory.{Holds}
use Rattle.walks.specs.Asked.{ask_reply}
use Rattle.questions.specs.Vars.{has_type_vars}
use Rattle.names.specs.Table.{Name, split, names_of}
use Rattle.names.specs.Reply.{table_reply, name_reply}
use Rattle.name_lookup.specs.Lookup.{find_reply}
use Rattle.arena.specs.Intern.{intern_reply}
use Rattle.arena.specs.Compare.{compare_reply}
use Rattle.text_writing.specs.Theorems.{PlainType}
use Rattle.display.specs.Reply.{display_reply, display_nix_reply}
use Rattle.sheet_writing.specs.Reply.{write_sheet_reply}
use Rattle.sheet_converting.specs.Convert.{convert_reply}
use Rattle.recursion.specs.Hosted.{work_reply}
use Rattle.renumber.specs.Renumber.{normalize}
use Rattle.set_op_lists.specs.SetOps.{normalize_set_ops}
use Rattle.set_ops.specs.Theorems.{Normalizes}
use Rattle.fix_values.specs.Fix.{Fix}
use Rattle.fitting.specs.Fits.{takes}
use Rattle.fits.specs.Fits.{fits_reply}
use Rattle.simplify.specs.Simplify.{simplify_reply}
use Rattle.lang_ty.specs.Needs.{needs_var_normalization}
use Rattle.equal.specs.Equal.{tree}
use Rattle.fix_values.specs.Fix.{Fix, good, fix_of}
use Rattle.lang_ty.specs.FixTrees.{value_tree, fix_tree}

-- 0 is told exactly of a value, which then is the lent result
abbrev pub ToldZero : {A : Type 0} → A → Out A → ℕ → A → Type 0
ToldZero old o r x = Numbered o → told r x ≡ tell old o → ZeroIsValue 10 r x o

-- the same of a call that is lent an arena to change
abbrev pub ArenaZero : {A : Type 0} → A → Reply A → ℕ → A → Counters → List ℕ → List ℕ → Type 0
ArenaZero old y r x d w s = Numbered (answer_of y) → told_arena r x d w s ≡ tell_arena old y → ZeroIsValue 10 r x (answer_of y)

-- the same of `import_from_arena`, which may be refused by 12
abbrev pub ImportZero : {A : Type 0} → A → Reply A → ℕ → A → Counters → List ℕ → List ℕ → Type 0
ImportZero old y r x d w s = Imported (answer_of y) → told_arena r x d w s ≡ tell_arena old y → ZeroIsValue 12 r x (answer_of y)

-- the same of `fits`, which may be refused by 13 and 14
abbrev pub FitsZero : {A : Type 0} → A → Out A → ℕ → A → Type 0
FitsZero old o r x = Fitted o → told r x ≡ tell old o → ZeroIsValue 14 r x o

-- a type that `compact` has copied is structurally equal to what it was copied from: `structurally_eq` then answers yes, under the same
-- names
abbrev pub CompactEqual : Type 0
CompactEqual =
    (t w s : List ℕ) (c : Counters) (root : ℕ) (tw ts : List ℕ) (d : Counters) (m : ℕ) (d' : Counters) (tw' ts' : List ℕ)
    → compact_reply t w s c root tw ts d ≡ reply (Ok m) d' tw' ts' → equal_reply t w s c root t tw' ts' d' m ≡ Ok true

-- a type that `import_from_arena` has imported is structurally equal to what it was imported from: `structurally_eq` then answers yes,
-- under both tables, so that names agree by their texts
abbrev pub ImportEqual : Type 0
ImportEqual =
    (t w s : List ℕ) (c : Counters) (root : ℕ) (tt tw ts : List ℕ) (d : Counters) (m : ℕ) (d' : Counters) (tw' ts' : List ℕ)
    → import_reply t w s c root tt tw ts d ≡ reply (Ok m) d' tw' ts' → equal_reply t w s c root tt tw' ts' d' m ≡ Ok true

-- each node that the target had keeps its number, its words and its start
pub record ImportKept (tt tw ts : List ℕ) (d d' : Counters) (tw' ts' : List ℕ) : Type 0 where
  pub words : take d.words tw' ≡ take d.words tw
  pub starts : take d.nodes ts' ≡ take d.nodes ts
  pub more_words : d.words ≤ d'.words
  pub more_nodes : d.nodes ≤ d'.nodes
  pub names : List Name
  pub is : names_of tt ≡ some names
  pub before : Arena
  pub held_before : Holds (length names) tw ts d before
  pub after : Arena
  pub held_after : Holds (length names) tw' ts' d' after
  pub grown : Ext before after

abbrev pub ImportKeeps : Type 0
ImportKeeps =
    (t w s : List ℕ) (c : Counters) (root : ℕ) (tt tw ts : List ℕ) (d : Counters) (m : ℕ) (d' : Counters) (tw' ts' : List ℕ)
    → import_reply t w s c root tt tw ts d ≡ reply (Ok m) d' tw' ts' → ImportKept tt tw ts d d' tw' ts'

-- where the target holds the type already, its number is answered and nothing is added, whatever room there is
abbrev pub ImportThere : Type 0
ImportThere =
    (t w s : List ℕ) (c : Counters) (root : ℕ) (tt tw ts : List ℕ) (d : Counters) (k : ℕ)
    → equal_reply t w s c root tt tw ts d k ≡ Ok true → import_reply t w s c root tt tw ts d ≡ reply (Ok k) d tw ts

-- so a second call answers the same and adds nothing
abbrev pub ImportAgain : Type 0
ImportAgain =
    (t w s : List ℕ) (c : Counters) (root : ℕ) (tt tw ts : List ℕ) (d : Counters) (m : ℕ) (d' : Counters) (tw' ts' : List ℕ)
    → import_reply t w s c root tt tw ts d ≡ reply (Ok m) d' tw' ts' → import_reply t w s c root tt tw' ts' d' ≡ reply (Ok m) d' tw' ts'

-- a node that is reachable from the root carries a name of whose text the target's table has none
pub record NameLacking (ns ms : List Name) (u : Arena) (root : ℕ) : Type 0 where
  pub node : ℕ
  pub reachable : Reachable u root node
  pub name : ℕ
  pub carried : Mem name (names (tag (at u node)))
  pub lacked : (p : ℕ) → p < length ms → get_or ms p [] ≡ get_or ns name [] → ⊥

-- exactly then the call is refused by 12, also where there is no room for a node
abbrev pub TwelveExactly : Type 0
TwelveExactly =
    (t w s : List ℕ) (c : Counters) (root : ℕ) (tt tw ts : List ℕ) (d : Counters) (ns ms : List Name) (u b : Arena)
    → names_of t ≡ some ns → Holds (length ns) w s c u → names_of tt ≡ some ms → Holds (length ms) tw ts d b → root < length u
    → (import_reply t w s c root tt tw ts d ≡ reply (Err refusal.NameAbsent) d tw ts) ↔ NameLacking ns ms u root

-- `needs_var_normalization` asks what `has_type_vars` asks, so that the contract of both is the same
pub record NeedsIsHas : Type 0 where
  pub is : (table : ℕ) (a : Arena) → sound table a ≡ true → (root : ℕ) → root < length a
      → needs_var_normalization a root ≡ has_type_vars a root
  pub answer : (t w s : List ℕ) (c : Counters) (root : ℕ)
      → ask_reply needs_var_normalization t w s c root ≡ ask_reply has_type_vars t w s c root

-- `normalize_set_ops` changes neither which values of a fix fit the type nor whether it has a variable; so `fits` answers after it what it
-- would have answered before, refusals too
pub record FitsNormalizes : Type 0 where
  pub values : (words starts table : ℕ) (a : Arena) (root m : ℕ) (b : Arena) → Normalizes words starts table a root m b → (f : Fix) (v : ℕ)
      → takes f b m v ≡ takes f a root v
  pub variables : (words starts table : ℕ) (a : Arena) (root m : ℕ) (b : Arena) → Normalizes words starts table a root m b
      → has_type_vars b m ≡ has_type_vars a root
  pub answer : (t w s : List ℕ) (c : Counters) (root m : ℕ) (d : Counters) (w' s' : List ℕ)
      → work_reply normalize_set_ops t w s c root ≡ reply (Ok m) d w' s' → (ws : List ℕ)
      → fits_reply t w' s' d m ws ≡ fits_reply t w s c root ws

-- of a type all of whose names are plain `display` and `display_nix` answer and leave the same, in any lent memory
abbrev pub PlainPrintsAlike : Type 0
PlainPrintsAlike =
    (t w s : List ℕ) (c : Counters) (root : ℕ) (b : List ℕ)
    → ((table : ℕ) (a : Arena) → Holds table w s c a → PlainType (split t) a root)
    → display_nix_reply t w s c root b ≡ display_reply t w s c root b

-- of what each call is defined to answer the number is 0 exactly for a value, and at most 10, but for `convert_sheet` 0 or 11, for
-- `import_from_arena` at most 10 or 12, and for `fits` at most 10 or 13 or 14. A call that is never refused isn't listed: it always
-- answers 0
pub record AllNumbered : Type 1 where
  pub table : (t : List ℕ) → Numbered (table_reply t)
  pub name : (t : List ℕ) (number : ℕ) → Numbered (name_reply t number)
  pub find_name : (t x : List ℕ) → Numbered (find_reply t x)
  pub compare : (t w s : List ℕ) (c : Counters) (m n : ℕ) → Numbered (compare_reply t w s c m n)
  pub ask : {A : Type 0} (q : Arena → ℕ → A) (t w s : List ℕ) (c : Counters) (root : ℕ) → Numbered (ask_reply q t w s c root)
  pub equal : (t w s : List ℕ) (c : Counters) (m : ℕ) (u v r : List ℕ) (d : Counters) (n : ℕ) → Numbered (equal_reply t w s c m u v r d n)
  pub display : (t w s : List ℕ) (c : Counters) (root : ℕ) (b : List ℕ) → Numbered (length_of (display_reply t w s c root b))
  pub display_nix : (t w s : List ℕ) (c : Counters) (root : ℕ) (b : List ℕ) → Numbered (length_of (display_nix_reply t w s c root b))
  pub write_sheet : (t w s : List ℕ) (c : Counters) (root : ℕ) (b : List ℕ) → Numbered (length_of (write_sheet_reply t w s c root b))
  pub convert_sheet : (b : List ℕ) → Converted (length_of (convert_reply b))
  pub intern : (t w s : List ℕ) (c : Counters) (ws : List ℕ) → Numbered (answer_of (intern_reply t w s c ws))
  pub simplify : (t w s : List ℕ) (c : Counters) (root : ℕ) → Numbered (answer_of (simplify_reply t w s c root))
  pub normalize_vars : (replacing : Bool) (t w s : List ℕ) (c : Counters) (root : ℕ)
      → Numbered (answer_of (work_reply (normalize replacing) t w s c root))
  pub normalize_set_ops : (t w s : List ℕ) (c : Counters) (root : ℕ) → Numbered (answer_of (work_reply normalize_set_ops t w s c root))
  pub compact : (t w s : List ℕ) (c : Counters) (root : ℕ) (tw ts : List ℕ) (d : Counters)
      → Numbered (answer_of (compact_reply t w s c root tw ts d))
  pub import_from_arena : (t w s : List ℕ) (c : Counters) (root : ℕ) (tt tw ts : List ℕ) (d : Counters)
      → Imported (answer_of (import_reply t w s c root tt tw ts d))
  pub fits : (t w s : List ℕ) (c : Counters) (root : ℕ) (ws : List ℕ) → Fitted (fits_reply t w s c root ws)

-- ---- fixes and trees
-- whether a value fits a type depends on the tree of the type and that of the value alone, in which names are texts
abbrev pub FitsByTrees : Type 0
FitsByTrees =
    (t u : List ℕ) (ns ms : List Name) → names_of t ≡ some ns → names_of u ≡ some ms
    → (a b : Arena) → sound (length ns) a ≡ true → sound (length ms) b ≡ true → (m n : ℕ) → m < length a → n < length b
    → (f g : Fix) → good (length ns) f ≡ true → good (length ms) g ≡ true → (v w : ℕ) → v < length f → w < length g
    → tree ns a m ≡ tree ms b n → value_tree ns f v ≡ value_tree ms g w → takes f a m v ≡ takes g b n w

-- and whether a type has a variable, on its tree
abbrev pub VarsByTrees : Type 0
VarsByTrees =
    (ns ms : List Name) (a b : Arena) → sound (length ns) a ≡ true → sound (length ms) b ≡ true → (m n : ℕ) → m < length a → n < length b
    → tree ns a m ≡ tree ms b n → has_type_vars a m ≡ has_type_vars b n

-- so `fits` answers the same, refusals too, of a type that `compact` has copied as of what it was copied from
abbrev pub FitsCompact : Type 0
FitsCompact =
    (t w s : List ℕ) (c : Counters) (root : ℕ) (tw ts : List ℕ) (d : Counters) (m : ℕ) (d' : Counters) (tw' ts' : List ℕ)
    → compact_reply t w s c root tw ts d ≡ reply (Ok m) d' tw' ts' → (ws : List ℕ)
    → fits_reply t tw' ts' d' m ws ≡ fits_reply t w s c root ws

-- the words of two fixes with one tree, each with the names of its table
pub record SameFix (ns : List Name) (ws : List ℕ) (ms : List Name) (xs : List ℕ) : Type 0 where
  pub left : Fix
  pub left_is : fix_of (length ns) ws ≡ some left
  pub right : Fix
  pub right_is : fix_of (length ms) xs ≡ some right
  pub same : fix_tree ns left ≡ fix_tree ms right

-- and of a type that `import_from_arena` has imported as of what it was imported from, for a fix whose names are numbered by the other
-- table
abbrev pub FitsImport : Type 0
FitsImport =
    (t w s : List ℕ) (c : Counters) (root : ℕ) (tt tw ts : List ℕ) (d : Counters) (m : ℕ) (d' : Counters) (tw' ts' : List ℕ)
    → import_reply t w s c root tt tw ts d ≡ reply (Ok m) d' tw' ts'
    → (ns ms : List Name) → names_of t ≡ some ns → names_of tt ≡ some ms → (ws xs : List ℕ) → SameFix ns ws ms xs
    → fits_reply tt tw' ts' d' m xs ≡ fits_reply t w s c root ws
