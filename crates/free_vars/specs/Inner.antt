-- What the walk that collects the variables asks and answers, and what is left where they are lent.
use Rattle.std.specs.Prelude.{ℕ, ◌+◌, ◌<◌, ◌≡◌, true, List, length, get_or, set, Err}
use Rattle.types.specs.Out.{Out}
use Rattle.types.specs.Node.{var, tag}
use Rattle.types.specs.Arena.{Arena, at}
use Rattle.types.specs.Memory.{padded, Holds}
use Rattle.types.specs.declared.Counters.{Counters}
use Rattle.bits.specs.Bits.{has, Put}
use Rattle.bits.specs.Inner.{Row}
use Rattle.types.specs.declared.refusal.Refusal.{Refusal}
use Rattle.node_store.specs.Inner.Stored.{Lent}
use Rattle.walks.specs.Asked.{asking}
use Rattle.free_vars.specs.FreeVars.{occurrences, contains, add_all, distinct, free_list, lent_out}
use Rattle.free_vars.specs.declared.VarList.{VarList}

-- the list has every variable of node n
abbrev pub Complete : Arena → List ℕ → ℕ → Type 0
Complete a l n = (v : ℕ) → contains (occurrences a n) v ≡ true → contains l v ≡ true

-- a node that is the variable v
pub record VarNode (a : Arena) (v : ℕ) : Type 0 where
  pub node : ℕ
  pub low : node < length a
  pub is : tag (at a node) ≡ var v

-- and is marked
pub record MarkedVar (a : Arena) (done : List ℕ) (v : ℕ) : Type 0 where
  pub of : VarNode a v
  pub marked : has done of.node ≡ true

-- the array holds the list l, then zeros; l has no variable twice, all variables of the nodes that are marked, and no variable whose node
-- isn't
pub record Listing (a : Arena) (done vars : List ℕ) (count : ℕ) (l : List ℕ) : Type 0 where
  pub rows : length done ≡ 64
  pub array : vars ≡ padded 4096 l
  pub counted : count ≡ length l
  pub once : distinct l ≡ true
  pub closed : (n : ℕ) → has done n ≡ true → Complete a l n
  pub marked : (v : ℕ) → contains l v ≡ true → MarkedVar a done v

-- the body b has a word, node n can be marked, and one more variable fits
pub record VarRoom (b : List ℕ) (n : ℕ) (done : List ℕ) (count : ℕ) : Type 0 where
  pub inside : 0 < length b
  pub row : Row done n
  pub room : count < 4096

-- the body's first word is put behind the variables, and node n is marked
pub record AddsVar (b : List ℕ) (n : ℕ) (done vars : List ℕ) (count : ℕ) (done' vars' : List ℕ) (count' : ℕ) : Type 0 where
  pub put : Put done n done'
  pub array : vars' ≡ set vars count (get_or b 0 0)
  pub counted : count' ≡ count + 1

-- memory holds an arena with a node n, and the array some list of its variables
pub record Collecting (w s : List ℕ) (c : Counters) (n : ℕ) (done vars : List ℕ) (count : ℕ) : Type 0 where
  pub lent : Lent w s c
  pub inside : n < c.nodes
  pub list : List ℕ
  pub listing : Listing lent.view done vars count list

-- the variables of node n are added to whatever list the array held, in any arena that memory holds
pub record Collects (w s : List ℕ) (c : Counters) (n : ℕ) (done vars : List ℕ) (count : ℕ) (done' vars' : List ℕ)
    (count' : ℕ) : Type 0 where
  pub is : (table : ℕ) (a : Arena) → Holds table w s c a → (l : List ℕ) → Listing a done vars count l
      → Listing a done' vars' count' (add_all l (occurrences a n))

-- they say o, and a refusal leaves the array
pub record Lists (o : Out VarList) (vars vars' : List ℕ) (r : Out ℕ) : Type 0 where
  pub is : lent_out r vars' ≡ o
  pub kept : (e : Refusal) → r ≡ Err e → vars' ≡ vars

-- they say what follows 1 and 2, in any arena that memory holds
pub record ListsIn (w s : List ℕ) (c : Counters) (root : ℕ) (vars vars' : List ℕ) (r : Out ℕ) : Type 0 where
  pub is : (table : ℕ) (a : Arena) → Holds table w s c a → Lists (asking free_list root a) vars vars' r
