-- The hash of a node's words, from the last word to the first, and its bits.
use Prim.Native.Nat.{ℕ, suc, ◌-◌, ◌<◌, ◌≤◌}
use mathlib.Core.Path.{◌≡◌, sym, ap, ◌∙◌}
use mathlib.Core.List.{List}
use native.Mathlib.Omega.{arith}
use lib.ListN.{length, get_or, drop}
use lib.Seq.{drop-cons, drop-length}
use Rattle.node_filter.specs.Inner.Hash.{mixed, hash_of}

-- the words from i on are in the hash
pub record Hashing (ws : List ℕ) (h i : ℕ) : Type 0 where
  pub high : i ≤ length ws
  pub is : h ≡ hash_of (drop i ws)

pub hashing_start : (ws : List ℕ) → Hashing ws 0 (length ws)
unfolding hash_of
hashing_start ws = record { high = omega arith; is = sym (ap hash_of (drop-length ws)) }

module _ {ws : List ℕ} {h i : ℕ} (H : Hashing ws h i) where
  pub hashing_more : {r : ℕ} → 0 < i → r ≡ mixed (get_or ws (i - 1) 0) h → Hashing ws r (i - 1)
  unfolding hash_of
  hashing_more p e =
      let k : i ≡ suc (i - 1) = omega arith in
      record {
        high = omega (arith, H.high);
        is = e ∙ ap (mixed (get_or ws (i - 1) 0)) (H.is ∙ ap (λ (j : ℕ). hash_of (drop j ws)) k) ∙ sym (ap hash_of (drop-cons ws (i - 1) 0 (omega (arith, H.high))));
      }

  pub hashing_done : i ≤ 0 → h ≡ hash_of ws
  hashing_done l = let z : i ≡ 0 = omega arith in H.is ∙ ap (λ (j : ℕ). hash_of (drop j ws)) z
