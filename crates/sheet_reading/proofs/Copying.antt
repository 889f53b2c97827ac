-- Words copied from their bytes, one after another.
use Prim.Native.Nat.{ℕ, zero, suc, ◌+◌, ◌*◌, ◌/◌, ◌^◌, ◌<◌, ◌≤◌}
use mathlib.Core.Path.{◌≡◌, refl, sym, ap, ◌∙◌}
use mathlib.Core.Bool.{true}
use mathlib.Core.List.{List, [], ◌∷◌, ◌++◌}
use native.Mathlib.Omega.{arith}
use native.Mathlib.Numerals.{add-one}
use lib.ListN.{length, take, drop, set, length-set}
use lib.Seq.{drop-drop, take-suc-set}
use borrow.Author.Tests.{lt-ltb}
use Rattle.types.specs.Node.{below}
use Rattle.types.proofs.Tests.{both}
use Rattle.types.proofs.Lists.{below_cons}
use Rattle.sheet_reading.specs.Sheet.{value, words}
use Rattle.sheet_reading.specs.Inner.Steps.{Inside, WordAt, Stretch, WordRoom, Copied}

-- one word more, at the other end
words_more : (i : ℕ) (l : List ℕ) → words (suc i) l ≡ words i l ++ (value (take 4 (drop (4 * i) l)) ∷ [])
unfolding words
words_more zero l = refl
words_more (suc i) l =
    let e : 4 + 4 * i ≡ 4 * suc i = omega arith in
    ap (λ (t : List ℕ). value (take 4 l) ∷ t)
    (words_more i (drop 4 l) ∙ ap (λ (u : List ℕ). words i (drop 4 l) ++ (value (take 4 u) ∷ [])) (drop-drop (4 * i) 4 l ∙ ap (λ (j : ℕ). drop j l) e))

below_append : (n : ℕ) (ws : List ℕ) (v : ℕ) → below n ws ≡ true → v < n → below n (ws ++ (v ∷ [])) ≡ true
unfolding below
below_append n [] v e h = both (lt-ltb v n h) refl
below_append n (w ∷ ws) v e h = let p = below_cons n w ws e in both (lt-ltb w n p.0) (below_append n ws v p.1 h)

below_next : (ws : List ℕ) {us : List ℕ} {u v : ℕ} → us ≡ ws ++ (u ∷ []) → v ≡ u → below (2 ^ 32) ws ≡ true → v < 2 ^ 32 → below (2 ^ 32) us ≡ true
below_next ws {v = v} p q e h = ap (below (2 ^ 32)) (p ∙ ap (λ (x : ℕ). ws ++ (x ∷ [])) (sym q)) ∙ below_append (2 ^ 32) ws v e h

-- i words are copied
pub record Copies (bytes old : List ℕ) (count : ℕ) (ws : List ℕ) (i : ℕ) : Type 0 where
  pub room : length bytes / 4 ≤ length old
  pub size : length ws ≡ length old
  pub many : count ≡ length bytes / 4
  pub turn : i ≤ count
  pub is : take i ws ≡ words i bytes
  pub small : below (2 ^ 32) (words i bytes) ≡ true

pub copy_start : {bytes ws : List ℕ} → WordRoom bytes ws → Copies bytes ws (length bytes / 4) ws 0
unfolding words below
copy_start S = record { room = S.room; size = refl; many = refl; turn = omega arith; is = refl; small = refl }

module _ {bytes old : List ℕ} {count : ℕ} {ws : List ℕ} {i : ℕ} (C : Copies bytes old count ws i) where
  pub copy_long : length ws ≡ length old
  copy_long = C.size

  module _ (h : i < count) where
    pub copy_inside : Inside bytes (4 * i) 4
    copy_inside = record { fits = omega (arith, h, C.many) }

    pub copy_item : i < length ws
    copy_item = omega (arith, h, C.many, C.room, C.size)

    pub copy_more : {v : ℕ} → WordAt bytes (4 * i) v → Copies bytes old count (set ws i v) (i + 1)
    copy_more {v} W = record {
      room = C.room;
      size = length-set ws i v ∙ C.size;
      many = C.many;
      turn = omega (arith, h);
      is = rw add-one
          (take-suc-set ws i v copy_item
          ∙ ap (λ (t : List ℕ). t ++ (v ∷ [])) C.is
          ∙ ap (λ (x : ℕ). words i bytes ++ (x ∷ [])) W.is
          ∙ sym (words_more i bytes));
      small = rw add-one (below_next (words i bytes) (words_more i bytes) W.is C.small W.small);
    }

  pub copy_done : count ≤ i → Copied bytes old ws count
  copy_done h = let e : i ≡ count = omega (arith, h, C.turn) in record { count = C.many; size = C.size; is = rw e at C.is; small = rw e at C.small }

-- the words of a node fit its array
pub node_room : {bytes node : List ℕ} → Stretch bytes node → WordRoom bytes node
node_room S = record { room = omega (arith, S.few, S.size) }
