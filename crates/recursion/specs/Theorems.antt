-- The cache law (01, "Forms of the Rust that can't be kept": the caches): what was answered once is answered again in every later sound
-- arena, and nothing is added then. A statement with parameters holds for all of them.
use Rattle.std.specs.Prelude.{ℕ, ◌<◌, ◌≤◌, ◌≡◌, true, length, Ok}
use mathlib.Core.List.{List, ◌∷◌, Memᴰ as Mem}
use Rattle.types.specs.Out.{Out, ◌>>=◌}
use Rattle.types.specs.Node.{Tag, Node, node, below, well}
use Rattle.types.specs.Arena.{Arena, rec, sound, Ext}
use Rattle.node_store.specs.Intern.{intern}
use Rattle.recursion.specs.Jobs.{Job, each, rebuild}

-- a finished job: a became b, in which the answer x makes sense; it is given again in every sound arena that grew from b
pub record Finished {A : Type 0} (table : ℕ) (fits : A → Arena → Type 0) (j : Arena → Out (A × Arena)) (a : Arena) (x : A)
    (b : Arena) : Type 0 where
  pub ext : Ext a b
  pub good : sound table b ≡ true
  pub inside : fits x b
  pub again : (d : Arena) → Ext b d → sound table d ≡ true → j d ≡ Ok (x, d)

-- a job that is finished so whenever it finishes, in any sound arena that grew from `start`
pub record Steady {A : Type 0} (table : ℕ) (start : Arena) (fits : A → Arena → Type 0) (j : Arena → Out (A × Arena)) : Type 0 where
  pub is : (a b : Arena) (x : A) → Ext start a → sound table a ≡ true → j a ≡ Ok (x, b) → Finished table fits j a x b

-- a node's number that is there
abbrev pub There : ℕ → Arena → Type 0
There m a = m < length a

-- so many numbers, all there
pub record AllThere (n : ℕ) (ms : List ℕ) (a : Arena) : Type 0 where
  pub count : length ms ≡ n
  pub low : below (length a) ms ≡ true

-- a recursion is steady if every step is, where the steps behind it are: `job` says what is done for each i, and `from` which arena the
-- work on a source begins with (the source itself, or none of it). The source is sound under a table of `own` names, its own or the target's
abbrev pub RecSteady : {Y I : Type 0} → ℕ → ℕ → (Y → I → Job) → (Arena → Node → (ℕ → Y) → Y) → Y → (Arena → Arena) → Type 0
RecSteady {Y} {I} own table job step y from =
    ((x : Node) (s : Arena) → Ext (from s) (from (x ∷ s)))
    → ((x : Node) (s : Arena) (f : ℕ → Y) → sound own (x ∷ s) ≡ true
    → ((c : ℕ) → c < length s → (i : I) → Steady table (from s) There (job (f c) i))
    → (i : I) → Steady table (from (x ∷ s)) There (job (step s x f) i))
    → (s : Arena) → sound own s ≡ true → (n : ℕ) → n < length s → (i : I) → Steady table (from s) There (job (rec step y s n) i)

-- interning a node that may stand there is
abbrev pub InternSteady : Type 0
InternSteady =
    (words starts table : ℕ) → starts ≤ 4096 → (start : Arena) (x : Node)
    → ((a : Arena) → Ext start a → length a ≤ 4096 → well table (length a) x ≡ true) → Steady table start There (intern words starts x)

-- one steady job after another is
abbrev pub ThenSteady : {A B : Type 0} → ℕ → Arena → (A → Arena → Type 0) → (B → Arena → Type 0) → (Arena → Out (A × Arena))
    → (A → Arena → Out (B × Arena)) → Type 0
ThenSteady {A} table start fits suits j k =
    Steady table start fits j
    → ((x : A) (a : Arena) → Ext start a → sound table a ≡ true → fits x a → Steady table a suits (k x))
    → Steady table start suits (λ (a : Arena). j a >>= λ (r : A × Arena). k r.0 r.1)

-- several in turn are
abbrev pub EachSteady : Type 0
EachSteady =
    (table : ℕ) (f : ℕ → Job) (cs : List ℕ) (start : Arena) → ((c : ℕ) → Mem c cs → Steady table start There (f c))
    → Steady table start (AllThere (length cs)) (each f cs)

-- a node with what its children became is
abbrev pub RebuildSteady : Type 0
RebuildSteady =
    (words starts table : ℕ) → starts ≤ 4096 → (start : Arena) (n : ℕ) (t : Tag) (cs : List ℕ) (f : ℕ → Job)
    → well table n (node t cs) ≡ true → ((c : ℕ) → Mem c cs → Steady table start There (f c))
    → Steady table start There (rebuild words starts t cs f)
