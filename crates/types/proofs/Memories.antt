-- Lent memory holds at most one arena, and `arena_of` gives exactly that one.
use Prim.Native.Nat.{ℕ, suc, ◌+◌}
use mathlib.Core.Path.{◌≡◌, refl, sym, ap, ◌∙◌}
use mathlib.Core.Bool.{Bool, true, false}
use mathlib.Core.List.{List, [], ◌∷◌, ◌++◌, append_assoc}
use mathlib.Core.Option.{Option, none, some}
use native.Mathlib.Omega.{arith}
use lib.ListN.{length, take, drop}
use lib.Seq.{take_at, drop_at}
use lib.Dec.{eqb, leb}
use borrow.Author.Tests.{eq-eqb, eqb-true, le-leb, leb-true}
use Rattle.types.specs.Same.{same_numbers}
use Rattle.types.specs.Node.{Node, encode, encode_in, guess, formed}
use Rattle.types.specs.Arena.{Arena, sound}
use Rattle.types.specs.Memory.{flat, words_of, starts_of, Holds, holds, span, read, arena_of}
use Rattle.types.specs.Theorems.{UniqueArena, ArenaOfHolds, HoldsArenaOf, Unsound}
use Rattle.types.specs.declared.Counters.{Counters}
use Rattle.types.proofs.Tests.{and_true, both, numbers_true, numbers_if}
use Rattle.types.proofs.Nodes.{guess_encode, encode_count}
use Rattle.types.proofs.Decodes.{well_parts}
use Rattle.types.proofs.Sound.{sound_well, sound_tail}

-- ---- nodes read back from their words
pub span_encode : (x : Node) → formed x ≡ true → (rest : List ℕ) → span (encode x ++ rest) ≡ length (encode x)
unfolding encode_in
span_encode x e rest = ap suc (encode_count x e)

read_one : (x : Node) (s : Arena) (k : ℕ) (rest : List ℕ) → formed x ≡ true → read (suc k) (encode x ++ rest) s ≡ read k rest (x ∷ s)
unfolding read
read_one x s k rest e =
    ap (λ (i : ℕ). read k (drop i (encode x ++ rest)) (guess (take i (encode x ++ rest)) ∷ s)) (span_encode x e rest)
    ∙ ap (λ (l : List ℕ). read k l (guess (take (length (encode x)) (encode x ++ rest)) ∷ s)) (drop_at (encode x) rest _ refl)
    ∙ ap (λ (l : List ℕ). read k rest (guess l ∷ s)) (take_at (encode x) rest _ refl)
    ∙ ap (λ (y : Node). read k rest (y ∷ s)) (guess_encode x e)

read_flat : (table : ℕ) (a : Arena) (k : ℕ) (rest : List ℕ) → sound table a ≡ true → read (length a + k) (flat a ++ rest) [] ≡ read k rest a
unfolding flat
read_flat table [] k rest h = let e : 0 + k ≡ k = omega arith in rw e
read_flat table (x ∷ s) k rest h =
    let e : suc (length s) + k ≡ length s + suc k = omega arith in
    ap (λ (n : ℕ). read n ((flat s ++ encode x) ++ rest) []) e
    ∙ ap (λ (l : List ℕ). read (length s + suc k) l []) (append_assoc (flat s) (encode x) rest)
    ∙ read_flat table s (suc k) (encode x ++ rest) (sound_tail table x s h)
    ∙ read_one x s k rest (well_parts table (length s) x (sound_well table x s h)).formed_so

-- ---- the record and the test say the same
module _ {table : ℕ} {w s : List ℕ} {c : Counters} {a : Arena} where
  read_holds : Holds table w s c a → read c.nodes w [] ≡ a
  unfolding read
  read_holds H =
      let e : c.nodes ≡ length a + 0 = omega (arith, H.nodes) in
      ap (λ (n : ℕ). read n w []) e ∙ ap (λ (l : List ℕ). read (length a + 0) l []) H.words ∙ read_flat table a 0 _ H.good

  holds_true : Holds table w s c a → holds table w s c a ≡ true
  unfolding holds
  holds_true H =
      both (le-leb _ _ H.few_words) (both (le-leb _ _ H.few_starts) (both (eq-eqb _ _ H.nodes) (both (eq-eqb _ _ H.total)
      (both (numbers_if _ _ H.words) (both (numbers_if _ _ H.starts) H.good)))))

  true_holds : holds table w s c a ≡ true → Holds table w s c a
  unfolding holds
  true_holds e =
      let p1 = and_true (leb (length w) 16384) _ e in
      let p2 = and_true (leb (length s) 4096) _ p1.1 in
      let p3 = and_true (eqb c.nodes (length a)) _ p2.1 in
      let p4 = and_true (eqb c.words (length (flat a))) _ p3.1 in
      let p5 = and_true (same_numbers w (words_of (length w) a)) _ p4.1 in
      let p6 = and_true (same_numbers s (starts_of (length s) a)) _ p5.1 in
      record {
        few_words = leb-true _ _ p1.0;
        few_starts = leb-true _ _ p2.0;
        nodes = eqb-true _ _ p3.0;
        total = eqb-true _ _ p4.0;
        words = numbers_true _ _ p5.0;
        starts = numbers_true _ _ p6.0;
        good = p6.1;
      }

  -- ---- `arena_of` gives an arena exactly where memory holds it
  pub arena_of_holds : ArenaOfHolds table w s c a
  unfolding arena_of
  arena_of_holds H = kept (read c.nodes w []) (read_holds H)
    where
      kept : (b : Arena) → b ≡ a → elim (holds table w s c b) as (λ _. Option Arena) [ true ↦ some b | false ↦ none ] ≡ some a
      kept b q = rw (q, holds_true H) (ap some q)

  pub holds_arena_of : HoldsArenaOf table w s c a
  unfolding arena_of
  holds_arena_of e = go (holds table w s c (read c.nodes w [])) refl e
    where
      go : (b : Bool) → holds table w s c (read c.nodes w []) ≡ b → elim b as (λ _. Option Arena) [ true ↦ some (read c.nodes w []) | false ↦ none ] ≡ some a → Holds table w s c a
      go true q p = let r : read c.nodes w [] ≡ a = cc in true_holds (rw r at q)
      go false q p = let z : ◌≡◌ {A = ℕ} 0 1 = cc in absurd (omega arith)

-- whatever the tables
pub unique : {t u : ℕ} {w s : List ℕ} {c : Counters} {a b : Arena} → UniqueArena t u w s c a b
unique H K = sym (read_holds H) ∙ read_holds K

pub unsound : {table : ℕ} {w s : List ℕ} {c : Counters} → Unsound table w s c
unsound {table} {w} {s} {c} f = go (arena_of table w s c) refl
  where
    go : (o : Option Arena) → arena_of table w s c ≡ o → o ≡ none
    go (some a) e = absurd (f a (holds_arena_of e))
    go none e = refl
