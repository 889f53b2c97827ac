-- What it means that lent memory holds an arena (01, "Words of the arena").
use Rattle.std.specs.Prelude.{ℕ, zero, suc, ◌-◌, ◌≤◌, ◌≡◌, Bool, true, false, ◌&&◌, List, [], ◌∷◌, ◌++◌, length, get_or, take, drop, replicate, eqb, leb}
use Rattle.std.proofs.Math.Option.{Option, none, some}
use Rattle.words.specs.Words.{head_count}
use Rattle.words.specs.declared.Layout.{Layout}
use Rattle.words.specs.declared.Layout.TheVariants as layout
use Rattle.types.specs.Same.{same_numbers}
use Rattle.types.specs.Node.{encode_in, guess, guess_in}
use Rattle.types.specs.Arena.{Arena, sound}
use Rattle.types.specs.declared.Counters.{Counters}

-- the nodes' words in a layout, one node after another without gap, from node 0 on
unfoldable pub flat_in : Layout → Arena → List ℕ
unfolding encode_in
flat_in l [] = []
flat_in l (x ∷ s) = flat_in l s ++ encode_in l x

-- in today's
unfoldable pub flat : Arena → List ℕ
unfolding flat_in
flat = flat_in layout.New

-- the place of each head
unfoldable pub heads : Arena → List ℕ
unfolding flat
heads [] = []
heads (x ∷ s) = heads s ++ (length (flat s) ∷ [])

-- n lent words: those in use, then zeros
abbrev pub padded : ℕ → List ℕ → List ℕ
padded n ws = ws ++ replicate (n - length ws) 0

-- all of n lent words, and all of n lent starts, that hold an arena
abbrev pub words_of : ℕ → Arena → List ℕ
words_of n a = padded n (flat a)

abbrev pub starts_of : ℕ → Arena → List ℕ
starts_of n a = padded n (heads a)

-- the counters that go with an arena
abbrev pub counters_of : Arena → Counters
counters_of a = record { nodes = length a; words = length (flat a) }

-- the words w, the starts s and the counters c hold the arena a, under a table of so many names
pub record Holds (table : ℕ) (w s : List ℕ) (c : Counters) (a : Arena) : Type 0 where
  pub few_words : length w ≤ 16384
  pub few_starts : length s ≤ 4096
  pub nodes : c.nodes ≡ length a
  pub total : c.words ≡ length (flat a)
  pub words : w ≡ words_of (length w) a
  pub starts : s ≡ starts_of (length s) a
  pub good : sound table a ≡ true

-- the same as a computed test
unfoldable pub holds : ℕ → List ℕ → List ℕ → Counters → Arena → Bool
unfolding same_numbers flat heads sound
holds table w s c a =
    leb (length w) 16384 && (leb (length s) 4096 && (eqb c.nodes (length a) && (eqb c.words (length (flat a))
    && (same_numbers w (words_of (length w) a) && (same_numbers s (starts_of (length s) a) && sound table a)))))

-- how many words the node takes whose head stands first
abbrev pub span : List ℕ → ℕ
span ws = suc (head_count (get_or ws 0 0))

-- the arena a and k nodes more, whose words stand first in ws
unfoldable pub read : ℕ → List ℕ → Arena → Arena
unfolding guess_in head_count
read zero ws a = a
read (suc k) ws a = read k (drop (span ws) ws) (guess (take (span ws) ws) ∷ a)

-- the arena that lent memory holds, or none where it is over a limit or unsound
unfoldable pub arena_of : ℕ → List ℕ → List ℕ → Counters → Option Arena
unfolding read holds
arena_of table w s c = elim (holds table w s c (read c.nodes w [])) [ true ↦ some (read c.nodes w []) | false ↦ none ]
