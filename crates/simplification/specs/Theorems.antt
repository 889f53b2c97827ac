-- What is shown of these definitions beyond the contracts. A statement with parameters holds for all of them.
use Rattle.std.specs.Prelude.{ℕ, ◌<◌, ◌≤◌, ◌≡◌, Bool, true, List, [], ◌∷◌, map, ◌↔◌, length, get_or, Ok}
use Rattle.types.specs.Node.{Polarity, positive, members, var, tag, children}
use Rattle.types.specs.Arena.{Arena, at, sound, Ext}
use Rattle.types.specs.Places.{Place, Has, Polar, Occurs}
use Rattle.simplification.specs.Seen.{sees, one_signed}
use Rattle.simplification.specs.Removal.{OccursOnly, FallsAway}
use Rattle.simplification.specs.Pass.{is_removable, apply}
use Rattle.simplification.specs.Passes.{Taken, AfterPasses, unchanged, simplify_by, simplify}
use Rattle.simplification.specs.Reading.{Set, Entry, Reading, set_of}
use Rattle.simplification.specs.Demand.{ReadingFits, Demand}
use Rattle.simplification.specs.Worked.{Case, a, b, int, never, U, I, worked}

-- ---- signs of variables (01, "Places and passes"; docs/PAPER.md)
-- the test `sees` says that there is a place
abbrev pub SeesPlaces : Type 0
SeesPlaces =
    (table : ℕ) (a : Arena) → sound table a ≡ true → (v : ℕ) (p : Polarity) (n : ℕ) → n < length a → (s : Polarity)
    → (sees a n s v p ≡ true) ↔ Has a n s v p

-- a one-signed variable occurs with the polarity that it has somewhere, and no other
abbrev pub OneSignedOnly : Type 0
OneSignedOnly =
    (table : ℕ) (a : Arena) → sound table a ≡ true → (root : ℕ) → root < length a → (v : ℕ) (p : Polarity) → one_signed a root v ≡ true
    → Occurs a root v p → OccursOnly a root v p

-- and one that occurs with one polarity only is one-signed
abbrev pub OnlyOneSigned : Type 0
OnlyOneSigned =
    (table : ℕ) (a : Arena) → sound table a ≡ true → (root : ℕ) → root < length a → (v : ℕ) (p : Polarity) → OccursOnly a root v p
    → one_signed a root v ≡ true

-- in the polar form a pass drops, of the members that are variables, exactly those that the paper lets fall away (docs/PAPER.md, "Removal
-- of one-signed variables")
abbrev pub DropsAsPaper : Type 0
DropsAsPaper =
    (table : ℕ) (a : Arena) → sound table a ≡ true → (root : ℕ) → root < length a → Polar a root → (u : ℕ) (p k : Polarity)
    → Place a root positive u p → tag (at a u) ≡ members k → (i : ℕ) → i < length (children (at a u))
    → (v : ℕ) → tag (at a (get_or (children (at a u)) i 0)) ≡ var v
    → (is_removable (one_signed a root) a (get_or (children (at a u)) i 0) ≡ true) ↔ FallsAway a root k v

-- ---- a pass
-- the arena that it leaves grew from the present one and is sound, and the answer is there
abbrev pub ApplySound : Type 0
ApplySound =
    (words starts table : ℕ) → starts ≤ 4096 → (R : ℕ → Bool) (s a b : Arena) (n m : ℕ) → Ext s a → sound table a ≡ true → n < length s
    → apply words starts s n R a ≡ Ok (m, b) → Ext a b × (sound table b ≡ true) × (m < length b)

-- the cache law, of a pass: a₀ is an earlier arena, a₁ what was left then, a the present one
abbrev pub CacheLaw : Type 0
CacheLaw =
    (words starts table : ℕ) → starts ≤ 4096 → (R : ℕ → Bool) (a₀ a₁ a : Arena) (n m : ℕ) → sound table a₀ ≡ true → n < length a₀
    → apply words starts a₀ n R a₀ ≡ Ok (m, a₁) → Ext a₁ a → sound table a ≡ true → apply words starts a n R a ≡ Ok (m, a)

-- ---- demand 3 (01, "How far the contracts go")
-- it holds for any number of passes
abbrev pub DemandBy : Type 0
DemandBy =
    (words starts table : ℕ) → starts ≤ 4096 → (i root : ℕ) (a : Arena) → sound table a ≡ true → root < length a → (q : AfterPasses)
    → simplify_by words starts i root a ≡ Ok q → Demand a root q

-- and so for `simplify`
abbrev pub Demand3 : Type 0
Demand3 =
    (words starts table : ℕ) → starts ≤ 4096 → (root : ℕ) (a : Arena) → sound table a ≡ true → root < length a → (q : AfterPasses)
    → simplify words starts root a ≡ Ok q → Demand a root q

-- some reading with so many marks and these entries fits what the passes took
pub record SomeFits (taken : List Taken) (k : ℕ) (es : List (Entry k)) : Type 0 where
  pub vars : ℕ → Set k
  pub fits : ReadingFits (record { marks = k; vars = vars; entries = es }) taken

-- so the demand isn't said of nothing: one fits, whatever the marks and the entries
abbrev pub SomeReadingFits : Type 0
SomeReadingFits =
    (words starts table : ℕ) → starts ≤ 4096 → (i root : ℕ) (a : Arena) → sound table a ≡ true → root < length a → (q : AfterPasses)
    → simplify_by words starts i root a ≡ Ok q → (k : ℕ) (es : List (Entry k)) → SomeFits q.taken k es

-- I[U[a, b], int] isn't in the polar form: the intersection has a positive place
abbrev pub unpolar : Arena
unpolar = I 3 2 ∷ U 0 1 ∷ int ∷ b ∷ a ∷ []

-- without the polar form a reading that fits can give the returned type another set
pub record PolarFormNeeded : Type 0 where
  pub good : sound 0 unpolar ≡ true
  pub result : AfterPasses
  pub run : simplify 16384 4096 4 unpolar ≡ Ok result
  pub reading : Reading
  pub fits : ReadingFits reading result.taken
  pub differ : set_of reading unpolar 4 ≡ set_of reading result.arena result.root → ⊥

-- who hands U[int, `never`] back as it is breaks the demand
abbrev pub NoHandingBack : Type 0
NoHandingBack = Demand (U 0 1 ∷ never ∷ int ∷ []) 2 (unchanged 2 (U 0 1 ∷ never ∷ int ∷ [])) → ⊥

-- every worked type becomes what document 01 says
abbrev pub WorkedSo : Type 0
WorkedSo = map (λ (c : Case). c.gives) worked ≡ map (λ (c : Case). c.says) worked
