-- Demand 3, by one induction over the number of passes.
use Prim.Native.Nat.{ℕ, zero, suc, ◌<◌, ◌≤◌}
use mathlib.Core.Path.{◌≡◌, refl, ◌∙◌, subst}
use mathlib.Core.Bool.{Bool, true, false}
use mathlib.Core.List.Memᴰ.{eq_of_singleton}
use mathlib.Core.List.Memᴰ.{head}
use mathlib.Core.List.Memᴰ.{not-nil}
use mathlib.Core.List.Memᴰ.{tail}
use mathlib.Core.List.{List, [], ◌∷◌, Memᴰ as Mem}
use lib.ListN.{length}
use lib.Dec.{eqb}
use Rattle.types.specs.Places.{Occurs}
use Rattle.std.specs.Prelude.{Ok}
use Rattle.types.specs.Out.{Out, ◌>>=◌}
use Rattle.types.specs.Node.{Polarity, positive}
use Rattle.types.specs.Arena.{Arena, sound}
use Rattle.recursion.proofs.Answers.{ok_same, bind_parts}
use Rattle.simplification.specs.Pass.{pass}
use Rattle.simplification.specs.Passes.{Taken, AfterPasses, after, unchanged, more_passes, passes, simplify_by, simplify}
use Rattle.simplification.specs.Reading.{Reading}
use Rattle.simplification.specs.Demand.{ReadingFits}
use Rattle.simplification.specs.Theorems.{DemandBy, Demand3}
use Rattle.simplification.proofs.Shaping.{InShape}
use Rattle.simplification.proofs.Passing.{Kept, Passed, passed}

-- a type that a pass took is there, in a sound arena
pub record SoundType (table : ℕ) (t : Taken) : Type 0 where
  pub good : sound table t.arena ≡ true
  pub inside : t.root < length t.arena

-- what occurs in the type t occurs in the type u, with the same polarity
abbrev pub Within : Taken → Taken → Type 0
Within t u = (v : ℕ) (p : Polarity) → Occurs t.arena t.root v p → Occurs u.arena u.root v p

-- from one type to the next, occurrences are only lost
pub data Decreasing (table : ℕ) : List Taken → Type 0 where
  none : Decreasing table []
  more : {t : Taken} {ts : List Taken} → SoundType table t → ((u : Taken) → Mem u ts → Within u t) → Decreasing table ts → Decreasing table (t ∷ ts)

-- what the passes did, from the type of n in the arena a on
pub record Passes (table n : ℕ) (a : Arena) (q : AfterPasses) : Type 0 where
  pub shape : InShape q.arena q.root
  pub kept : Kept q.taken a n q.arena q.root
  pub within : (u : Taken) → Mem u q.taken → Within u (record { root = n; arena = a })
  pub decreasing : Decreasing table q.taken

no_pass : (table n : ℕ) (a : Arena) → InShape a n → Passes table n a (unchanged n a)
no_pass table n a s = record {
  shape = s;
  kept = record { polar = λ h. h; same_set = λ h r F. refl; occurs = λ v p O. O };
  within = λ u i. absurd (not-nil i);
  decreasing = none;
}

-- a reading that fits the first pass and the others
fits_first : {r : Reading} {t : Taken} {ts : List Taken} → ReadingFits r (t ∷ ts) → ReadingFits r (t ∷ [])
fits_first F = record { as_seen = λ u i. F.as_seen u (head (eq_of_singleton i)) }

fits_rest : {r : Reading} {t : Taken} {ts : List Taken} → ReadingFits r (t ∷ ts) → ReadingFits r ts
fits_rest F = record { as_seen = λ u i. F.as_seen u (tail i) }

-- a pass, and those that follow
then_passes : (table n : ℕ) (a : Arena) → sound table a ≡ true → n < length a → (m : ℕ) (b : Arena) → Passed table n a m b → (q : AfterPasses) → Passes table m b q → Passes table n a (after n a q)
then_passes table n a g l m b P q Q = record {
  shape = Q.shape;
  kept = record {
    polar = λ h. Q.kept.polar (P.kept.polar h);
    same_set = λ h r F. P.kept.same_set h r (fits_first F) ∙ Q.kept.same_set (P.kept.polar h) r (fits_rest F);
    occurs = λ v p O. P.kept.occurs v p (Q.kept.occurs v p O);
  };
  within = all;
  decreasing = more (record { good = g; inside = l }) rest Q.decreasing;
}
  where
    rest : (u : Taken) → Mem u q.taken → Within u (record { root = n; arena = a })
    rest u i v p O = P.kept.occurs v p (Q.within u i v p O)

    all : (u : Taken) → Mem u (record { root = n; arena = a } ∷ q.taken) → Within u (record { root = n; arena = a })
    all u (head e) = λ v p O. subst (λ (t : Taken). Occurs t.arena t.root v p) e O
    all u (tail i) = rest u i

module _ (words starts table : ℕ) (few : starts ≤ 4096) where
  passes_do : (i n : ℕ) (a : Arena) → sound table a ≡ true → n < length a → InShape a n → (q : AfterPasses) → passes words starts i n a ≡ Ok q → Passes table n a q
  unfolding passes
  passes_do zero n a g l s q e = subst (Passes table n a) (ok_same e) (no_pass table n a s)
  passes_do (suc i) n a g l s q e =
      let p = bind_parts (pass words starts n a) (λ r. elim (eqb r.0 n) as (λ _. Out AfterPasses) [ true ↦ Ok (after n a (unchanged r.0 r.1)) | false ↦ passes words starts i r.0 r.1 >>= λ q. Ok (after n a q) ]) e in
      let P = passed words starts table few n a g l p.0.0 p.0.1 p.1 in
      go p.0.0 p.0.1 P (eqb p.0.0 n) p.2 (passes_do i p.0.0 p.0.1 P.good P.inside P.shape)
    where
      go : (m : ℕ) (b : Arena) → Passed table n a m b → (d : Bool) → elim d as (λ _. Out AfterPasses) [ true ↦ Ok (after n a (unchanged m b)) | false ↦ passes words starts i m b >>= λ q. Ok (after n a q) ] ≡ Ok q
          → ((q : AfterPasses) → passes words starts i m b ≡ Ok q → Passes table m b q) → Passes table n a q
      go m b P true e f = subst (Passes table n a) (ok_same e) (then_passes table n a g l m b P (unchanged m b) (no_pass table m b P.shape))
      go m b P false e f =
          let r = bind_parts (passes words starts i m b) (λ q. Ok (after n a q)) e in
          subst (Passes table n a) (ok_same r.2) (then_passes table n a g l m b P r.0 (f r.0 r.1))

  -- whatever the greatest number of passes
  module _ (i root : ℕ) (a : Arena) (g : sound table a ≡ true) (l : root < length a) (q : AfterPasses) (e : simplify_by words starts i root a ≡ Ok q) where
    pub simplify_passes : Passes table root a q
    unfolding simplify_by
    simplify_passes =
        let p = bind_parts (pass words starts root a) (λ r. passes words starts i r.0 r.1 >>= λ q. Ok (after root a q)) e in
        let P = passed words starts table few root a g l p.0.0 p.0.1 p.1 in
        let r = bind_parts (passes words starts i p.0.0 p.0.1) (λ q. Ok (after root a q)) p.2 in
        subst (Passes table root a) (ok_same r.2) (then_passes table root a g l p.0.0 p.0.1 P r.0 (passes_do i p.0.0 p.0.1 P.good P.inside P.shape r.0 r.1))

pub demand_by : DemandBy
demand_by words starts table few i root a g l q e =
    let Q = simplify_passes words starts table few i root a g l q e in
    record {
      meaning_kept = Q.kept.same_set;
      shape = λ u k R. Q.shape positive u R.sign R.place k;
      no_new_variable = Q.kept.occurs;
    }

-- with five more passes at most
pub demand_3 : Demand3
unfolding simplify
demand_3 words starts table few = demand_by words starts table few more_passes
