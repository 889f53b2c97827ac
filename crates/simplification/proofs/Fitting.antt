-- Demand 3 isn't vacuous: whatever the number of marks and the entries, some reading fits. A variable that one pass sees only at positive places no other sees only at negative ones,
-- since from pass to pass occurrences are only lost.
use Prim.Native.Nat.{ℕ, ◌<◌, ◌≤◌}
use mathlib.Core.Path.{◌≡◌, sym, ap, ◌∙◌, subst}
use mathlib.Core.Bool.{Bool, true, not, ◌&&◌}
use mathlib.Core.List.Memᴰ.{head}
use mathlib.Core.List.Memᴰ.{tail}
use mathlib.Core.List.{List, Memᴰ as Mem}
use lib.ListN.{length}
use borrow.Author.Tests.{not-true}
use Rattle.std.specs.Prelude.{Ok}
use Rattle.types.specs.Node.{Polarity, positive, negative}
use Rattle.types.specs.Arena.{Arena, sound}
use Rattle.types.proofs.Tests as tests
use Rattle.simplification.specs.Seen.{sees}
use Rattle.simplification.specs.Removal.{OccursOnly}
use Rattle.simplification.specs.Pass.{one_of}
use Rattle.simplification.specs.Passes.{Taken, AfterPasses, simplify_by}
use Rattle.simplification.specs.Reading.{Entry, Reading, in_bound}
use Rattle.simplification.specs.Demand.{ReadingFits}
use Rattle.simplification.specs.Theorems.{SomeReadingFits}
use Rattle.simplification.proofs.Answers.{one_true, one_if}
use Rattle.simplification.proofs.Seeing.{seen_occurs, occurs_seen, unseen}
use Rattle.simplification.proofs.Demands.{SoundType, Decreasing, more, simplify_passes}

abbrev Only : Taken → ℕ → Polarity → Type 0
Only t v p = OccursOnly t.arena t.root v p

-- does a pass over the type t, or some pass, see v only at negative places?
abbrev negative_in : Taken → ℕ → Bool
negative_in t v = sees t.arena t.root positive v negative && not (sees t.arena t.root positive v positive)

unfoldable only_negative : List Taken → ℕ → Bool
unfolding one_of sees
only_negative ts v = one_of (λ (t : Taken). negative_in t v) ts

module _ (table : ℕ) (v : ℕ) where
  seen_only : (t : Taken) → SoundType table t → negative_in t v ≡ true → Only t v negative
  seen_only t S e =
      let q = tests.and_true (sees t.arena t.root positive v negative) _ e in
      record {
        there = seen_occurs table t.arena S.good t.root S.inside v negative q.0;
        nowhere_else = λ O. tests.true_false (sym (occurs_seen table t.arena S.good t.root S.inside v positive O) ∙ not-true (sees t.arena t.root positive v positive) q.1);
      }

  only_seen : (t : Taken) → SoundType table t → Only t v negative → negative_in t v ≡ true
  only_seen t S O =
      tests.both (occurs_seen table t.arena S.good t.root S.inside v negative O.there)
      (ap not (unseen table t.arena S.good t.root S.inside v positive O.nowhere_else))

  sound_type : {ts : List Taken} → Decreasing table ts → (t : Taken) → Mem t ts → SoundType table t
  sound_type Rattle.simplification.proofs.Demands.none t x3 = elim x3 [ ]
  sound_type (more S w F) t (head e) = subst (SoundType table) (sym e) S
  sound_type (more S w F) t (tail i) = sound_type F t i

  -- no variable would have to be empty for one pass and full for another
  no_clash : {ts : List Taken} → Decreasing table ts → (t u : Taken) → Mem t ts → Mem u ts → Only t v positive → Only u v negative → ⊥
  no_clash Rattle.simplification.proofs.Demands.none t u x9 _ O N = elim x9 [ ]
  no_clash (more S w F) t u (head d) (head e) O N = N.nowhere_else (subst (λ (t : Taken). Only t v positive) (d ∙ sym e) O).there
  no_clash (more S w F) t u (head d) (tail j) O N = (subst (λ (t : Taken). Only t v positive) d O).nowhere_else (w u j v negative N.there)
  no_clash (more S w F) t u (tail i) (head e) O N = (subst (λ (t : Taken). Only t v negative) e N).nowhere_else (w t i v positive O.there)
  no_clash (more S w F) t u (tail i) (tail j) O N = no_clash F t u i j O N

-- full where some pass sees only negative places, and else empty
unfoldable pub fitting : List Taken → (k : ℕ) → List (Entry k) → Reading
unfolding only_negative
fitting ts k es = record { marks = k; vars = λ v m. only_negative ts v; entries = es }

pub fitting_fits : (words starts table : ℕ) → starts ≤ 4096 → (i root : ℕ) (a : Arena) → sound table a ≡ true → root < length a → (q : AfterPasses) → simplify_by words starts i root a ≡ Ok q
    → (k : ℕ) (es : List (Entry k)) → ReadingFits (fitting q.taken k es) q.taken
unfolding fitting
fitting_fits words starts table few i root a g l q e k es = record { as_seen = λ t j v p O m. go t j v p O }
  where
    decreasing : Decreasing table q.taken
    decreasing = (simplify_passes words starts table few i root a g l q e).decreasing

    go : (t : Taken) → Mem t q.taken → (v : ℕ) (p : Polarity) → Only t v p → only_negative q.taken v ≡ in_bound p
    go t j v positive O = tests.not_true (only_negative q.taken v) (λ w.
        let n = one_true (λ (t : Taken). negative_in t v) q.taken w in
        no_clash table v decreasing t n.0 j n.1 O (seen_only table v n.0 (sound_type table v decreasing n.0 n.1) n.2))
    go t j v negative O = one_if (λ (t : Taken). negative_in t v) q.taken t j (only_seen table v t (sound_type table v decreasing t j) O)

pub some_reading_fits : SomeReadingFits
unfolding fitting
some_reading_fits words starts table few i root a g l q e k es = record { vars = λ v m. only_negative q.taken v; fits = fitting_fits words starts table few i root a g l q e k es }
