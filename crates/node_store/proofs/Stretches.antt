-- The stretch of words that a node takes.
use Prim.Native.Nat.{ℕ, suc, ◌+◌, ◌-◌, ◌*◌, ◌<◌, ◌≤◌}
use mathlib.Core.Path.{◌≡◌, refl, sym, ap, ◌∙◌}
use mathlib.Core.Bool.{Bool, true, false}
use mathlib.Core.List.{List}
use native.Mathlib.Omega.{arith}
use mir.Syntax.{w64}
use mir.Val.{Fits}
use lib.ListN.{length, get_or, take, drop}
use lib.Seq.{get_or-drop, take_at}
use Rattle.words.specs.Words.{head_count}
use Rattle.types.specs.Same.{same, same_numbers}
use Rattle.types.specs.Node.{Node, node_dec, encode, encode_in, formed}
use Rattle.types.specs.Arena.{Arena, at}
use Rattle.types.specs.Memory.{Holds}
use Rattle.types.specs.declared.Counters.{Counters}
use Rattle.types.proofs.Tests.{same_true, same_if, same_not, numbers_true, numbers_if, same_truth}
use Rattle.types.proofs.Nodes.{length_encode, encode_injective}
use Rattle.types.proofs.Sound.{at_formed}
use Rattle.types.proofs.Memories.{span_encode}
use Rattle.types.proofs.Addresses.{start_room, after_node, from_start, node_room}
use Rattle.std.specs.declared.cmp.Ordering.{Ordering}
use Rattle.node_order.specs.WordsOrder.{words_order}
use Rattle.node_order.proofs.Agreement.{words_order_encode}
use Rattle.node_store.specs.Inner.Stored.{Lent, InRange, NodeAt, IsThere, Ordered}

module _ {w s : List ℕ} {c : Counters} {n : ℕ} where
  node_formed : {table : ℕ} {a : Arena} → Holds table w s c a → n < c.nodes → formed (at a n) ≡ true
  node_formed {table} {a} H h = at_formed table a H.good n (omega (arith, H.nodes))

  -- the head stands where the start says
  pub head_there : {table : ℕ} {a : Arena} → Holds table w s c a → n < c.nodes → {x : ℕ} → x ≡ get_or s n 0 → get_or w x 0 ≡ get_or (encode (at a n)) 0 0
  unfolding encode_in
  head_there {a = a} H h {x} e =
      let z : x + 0 ≡ x = omega arith in
      ap (λ (i : ℕ). get_or w i 0) (sym z) ∙ sym (get_or-drop x w 0 0) ∙ ap (λ (l : List ℕ). get_or l 0 0) (ap (λ (i : ℕ). drop i w) e ∙ from_start H n h)

  long : {table : ℕ} {a : Arena} → Holds table w s c a → n < c.nodes → {x y : ℕ} → x ≡ get_or s n 0 → y ≡ head_count (get_or w x 0) → suc y ≡ length (encode (at a n))
  unfolding encode_in
  long {a = a} H h e f = ap suc (f ∙ ap head_count (head_there H h e)) ∙ span_encode (at a n) (node_formed H h) (after_node H n h)

  module _ (L : Lent w s c) (i : n < c.nodes) where
    pub in_starts : n < length s
    in_starts = omega (arith, start_room L.holds)

    pub start_fits : Fits w64 (n * 4)
    start_fits = omega (arith, in_starts, L.holds.few_starts)

    module _ {x : ℕ} (e : x ≡ get_or s n 0) where
      room : x + length (encode (at L.view n)) ≤ length w
      room = omega (arith, node_room L.holds n i)

      pub in_words : x < length w
      in_words = omega (arith, room, length_encode (at L.view n))

      pub head_fits : Fits w64 (x * 4)
      head_fits = omega (arith, in_words, L.holds.few_words)

      pub next_fits : Fits w64 (x + 1)
      next_fits = omega (arith, in_words, L.holds.few_words)

      module _ {y : ℕ} (f : y ≡ head_count (get_or w x 0)) where
        pub end_room : x + 1 + y ≤ length w
        end_room = omega (arith, room, long L.holds i e f)

        pub end_fits : Fits w64 (x + 1 + y)
        end_fits = omega (arith, end_room, L.holds.few_words)

        pub the_node : NodeAt w s c n (take (x + 1 + y - x) (drop x w))
        the_node = record {
          is = λ table a H.
              let l = long H i e f in
              let k : x + 1 + y - x ≡ length (encode (at a n)) = omega arith in
              ap (λ (j : ℕ). take j (drop x w)) k ∙ ap (take (length (encode (at a n)))) (ap (λ (j : ℕ). drop j w) e ∙ from_start H n i) ∙ take_at (encode (at a n)) _ _ refl;
        }

      -- ---- is it the node with these words?
      pub other_head : {ws : List ℕ} → (get_or w x 0 ≡ get_or ws 0 0 → ⊥) → IsThere w s c n ws false
      other_head f = record {
        is = λ table a y H p q.
            sym (same_not node_dec y (at a n) (λ r. f (head_there H i e ∙ ap (λ (z : Node). get_or (encode z) 0 0) (sym r) ∙ ap (λ (l : List ℕ). get_or l 0 0) (sym q))));
      }

    pub same_node : {ws r : List ℕ} {b : Bool} → NodeAt w s c n r → b ≡ same_numbers r ws → IsThere w s c n ws b
    same_node {ws} {r} {b} N e = record {
      is = λ table a y H p q.
          e ∙ same_truth (same_numbers r ws) (same node_dec y (at a n))
          (λ t. same_if node_dec y (at a n) (encode_injective y (at a n) p (node_formed H i) (sym q ∙ sym (numbers_true r ws t) ∙ N.is table a H)))
          (λ t. numbers_if r ws (N.is table a H ∙ ap encode (sym (same_true node_dec y (at a n) t)) ∙ sym q));
    }

-- ---- how two of them stand
pub stands : {w s : List ℕ} {c : Counters} {m n : ℕ} {a b : List ℕ} {r : Ordering} → InRange w s c m → InRange w s c n → NodeAt w s c m a → NodeAt w s c n b → r ≡ words_order a b → Ordered w s c m n r
stands {m = m} {n = n} I K M N e = record {
  is = λ table d H. e ∙ words_order_encode (at d m) (at d n) (node_formed H I.inside) (node_formed H K.inside) (M.is table d H) (N.is table d H);
}
