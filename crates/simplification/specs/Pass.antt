-- One pass of `simplify` (01, "simplify"), without a cache. Unions and intersections are one: k is the kind of list,
-- `bound k` is its neutral element (`never` in unions) and `bound (opposite k)` is the one that decides it (`any` in unions).
use Rattle.std.specs.Prelude.{ℕ, Bool, ◌||◌, length, get_or, eqb, ltb, Ok, Err}
use Rattle.std.proofs.Math.Bool.{true, false}
use mathlib.Core.List.{List, [], ◌∷◌, ◌++◌, flat_map}
use Rattle.std.proofs.Math.Option.{Option, none, some}
use Rattle.types.specs.declared.refusal.Refusal.TheVariants as refusal
use Rattle.types.specs.Out.{Out, ◌>>=◌}
use Rattle.types.specs.Node.{Polarity, Tag, members, bound, var, neg, form, Node, node, tag, children}
use Rattle.types.specs.Arena.{Arena, at, rec}
use Rattle.types.specs.Places.{opposite}
use Rattle.node_store.specs.Intern.{intern}
use Rattle.recursion.specs.Jobs.{Job, each, rebuild}
use Rattle.simplification.specs.Seen.{same_tag, one_signed}

-- does one of them pass?
unfoldable pub one_of : {A : Type 0} → (A → Bool) → List A → Bool
one_of p [] = false
one_of p (x ∷ xs) = p x || one_of p xs

-- ---- the members of a list
-- is it one of these variables?
abbrev pub var_of : (ℕ → Bool) → Tag → Bool
var_of R (members k) = false
var_of R (bound k) = false
var_of R (var v) = R v
var_of R neg = false
var_of R (form f) = false

-- is the member one of the variables R, or `Neg` of one?
unfoldable pub is_removable : (ℕ → Bool) → Arena → ℕ → Bool
unfolding same_tag at
is_removable R a m = elim (same_tag (tag (at a m)) neg) [
  | true ↦ var_of R (tag (at a (get_or (children (at a m)) 0 0)))
  | false ↦ var_of R (tag (at a m))
]

-- no variable is removable
abbrev pub no_variable : ℕ → Bool
no_variable v = false

-- the members that aren't dropped; the test is on the member as given
unfoldable pub remaining : (ℕ → Bool) → Arena → List ℕ → List ℕ
unfolding is_removable
remaining R a [] = []
remaining R a (m ∷ ms) = elim (is_removable R a m) [ true ↦ remaining R a ms | false ↦ m ∷ remaining R a ms ]

-- is one of the simplified members the bound that decides a list of kind k?
unfoldable pub is_decided : Polarity → Arena → List ℕ → Bool
unfolding one_of same_tag at
is_decided k a = one_of (λ (m : ℕ). same_tag (tag (at a m)) (bound (opposite k)))

-- what a simplified member m, the node x, brings to a list of kind k: a list of that kind its own members, the neutral element nothing, any
-- other itself
unfoldable pub splice : Polarity → ℕ → Node → List ℕ
unfolding same_tag
splice k m x = elim (same_tag (tag x) (members k)) [
  | true ↦ children x
  | false ↦ elim (same_tag (tag x) (bound k)) [ true ↦ [] | false ↦ m ∷ [] ]
]

-- a member is appended unless it is there; a 65th is refused by 8
unfoldable pub append : ℕ → List ℕ → Out (List ℕ)
unfolding one_of
append m acc = elim (one_of (eqb m) acc) [
  | true ↦ Ok acc
  | false ↦ elim (ltb (length acc) 64) [ true ↦ Ok (acc ++ (m ∷ [])) | false ↦ Err refusal.TooManyMembers ]
]

-- the list so far, and the first copies of what follows
unfoldable pub first_copies : List ℕ → List ℕ → Out (List ℕ)
unfolding append ◌>>=◌
first_copies acc [] = Ok acc
first_copies acc (m ∷ ms) = append m acc >>= λ (l : List ℕ). first_copies l ms

-- the members of a list of kind k, from the members as simplified
unfoldable pub member_list : Polarity → Arena → List ℕ → Out (List ℕ)
unfolding first_copies flat_map splice at
member_list k a ms = first_copies [] (flat_map (λ (m : ℕ). splice k m (at a m)) ms)

-- ---- one node
-- the kind of a member list; other nodes have none
abbrev pub list_kind : Tag → Option Polarity
list_kind (members k) = some k
list_kind (bound k) = none
list_kind (var v) = none
list_kind neg = none
list_kind (form f) = none

module _ (words starts : ℕ) where
  -- what stands for a list: if nothing is left, members that became neutral included, what `first` gives; one member stands for itself
  unfoldable pub close : Polarity → Job → List ℕ → Job
  unfolding intern
  close k first [] a = first a
  close k first (m ∷ []) a = Ok (m, a)
  close k first (m ∷ n ∷ ms) a = intern words starts (node (members k) (m ∷ n ∷ ms)) a

  -- the same from the members as simplified: the bound that decides is looked for before members are counted, and so before 8
  unfoldable pub gather : Polarity → Job → List ℕ → Job
  unfolding is_decided intern member_list close ◌>>=◌
  gather k first ms a = elim (is_decided k a ms) [
    | true ↦ intern words starts (node (bound (opposite k)) []) a
    | false ↦ member_list k a ms >>= λ (l : List ℕ). close k first l a
  ]

  -- a node, by what is done with its children; s is the arena behind it. Of a list, all members that remain are simplified first;
  -- where nothing is left of it, its first member is simplified with no variable removable
  unfoldable pub apply_step : Arena → Node → (ℕ → (ℕ → Bool) → Job) → (ℕ → Bool) → Job
  unfolding rebuild gather remaining each ◌>>=◌
  apply_step s x f R a = elim (list_kind (tag x)) [
    | none ↦ rebuild words starts (tag x) (children x) (λ c. f c R) a
    | some k ↦ each (λ c. f c R) (remaining R s (children x)) a >>= λ r. gather k (f (get_or (children x) 0 0) no_variable) r.0 r.1
  ]

  -- node n of the arena s, where the variables R are removable, is simplified in an arena that grew from s
  unfoldable pub apply : Arena → ℕ → (ℕ → Bool) → Job
  unfolding rec apply_step
  apply = rec apply_step (λ R a. Err refusal.NoSuchRoot)

  -- a pass over the type of the root
  unfoldable pub pass : ℕ → Job
  unfolding apply one_signed
  pass root a = apply a root (one_signed a root) a
