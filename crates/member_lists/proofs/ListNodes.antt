-- The words of a member list, and the node that they are.
use Prim.Native.Nat.{ℕ, ◌+◌, ◌≤◌}
use mathlib.Core.Path.{◌≡◌, refl, sym, ap, ◌∙◌, subst}
use mathlib.Core.Bool.{true, false}
use mathlib.Core.List.{List, ◌∷◌}
use native.Mathlib.Omega.{arith}
use lib.ListN.{length, take}
use lib.Seq.{length-take-le}
use Rattle.words.specs.Words.{HeadFits, head_word}
use Rattle.types.specs.Out.{Out}
use Rattle.types.specs.Kind.{disc}
use Rattle.types.specs.Node.{Polarity, members, node, kind, child_words_in, head_of, encode, encode_in, below, IsNode}
use Rattle.types.specs.Arena.{Arena}
use Rattle.types.specs.Memory.{Holds}
use Rattle.types.specs.declared.Counters.{Counters}
use Rattle.types.proofs.KindNumbers.{disc_small}
use Rattle.types.proofs.Addresses.{start_room}
use Rattle.node_store.specs.Inner.Added.{Fresh, Interns}
use Rattle.simplification.proofs.Rebuilding.{list_well}
use Rattle.member_lists.specs.Inner.Members.{NodeWords, Filled, InternsList}
use Rattle.member_lists.proofs.Copying.{room_length}

-- ---- several members
list_encode : (k : Polarity) (l : List ℕ) → encode (node (members k) l) ≡ head_word (disc (kind (members k))) false false (length l) ∷ l
unfolding encode_in head_of child_words_in
list_encode k l = refl

nodes_few : {table : ℕ} {w s : List ℕ} {c : Counters} {a : Arena} → Holds table w s c a → length a ≤ 4096
nodes_few H = omega (arith, H.nodes, start_room H, H.few_starts)

module _ {w s : List ℕ} {c : Counters} {number : ℕ} {items : List ℕ} {count : ℕ} (S : Filled w s c number items count) where
  pub head_fits : HeadFits number count
  head_fits = record {
    few_kinds = omega (arith, S.listing.gathering.kind_is, disc_small (kind (members S.listing.gathering.side)));
    few_words = omega (arith, S.listing.room.few);
  }

  pub list_cut : {head : ℕ} {ws : List ℕ} → NodeWords head items count ws → count + 1 ≡ length (take (count + 1) ws)
  list_cut {ws = ws} W = sym (length-take-le (count + 1) ws (omega (arith, W.long, S.listing.room.few)))

  module _ {head : ℕ} {ws : List ℕ} (e : head ≡ head_word number false false count) (W : NodeWords head items count ws) where
    list_node : (table : ℕ) (a : Arena) (k : Polarity) → Holds table w s c a → number ≡ disc (kind (members k)) → IsNode table (length a) (take (count + 1) ws) (node (members k) (take count items))
    list_node table a k H q =
        let h : head ≡ head_word (disc (kind (members k))) false false (length (take count items))
        = e ∙ ap (λ (n : ℕ). head_word n false false count) q ∙ ap (head_word (disc (kind (members k))) false false) (sym (room_length S.listing.room)) in
        record {
          words = W.is ∙ ap (λ (n : ℕ). n ∷ take count items) h ∙ sym (list_encode k (take count items));
          good = list_well table (length a) (nodes_few H) k (take count items) (omega (arith, room_length S.listing.room, S.some)) (omega (arith, room_length S.listing.room, S.listing.room.few))
              (subst (λ (n : ℕ). below n (take count items) ≡ true) H.nodes S.listing.gathering.low);
        }

    pub list_fresh : Fresh w s c (take (count + 1) ws)
    list_fresh = let G = S.listing.gathering in record {
      table = G.lent.table;
      view = G.lent.view;
      holds = G.lent.holds;
      node = node (members G.side) (take count items);
      is = list_node G.lent.table G.lent.view G.side G.lent.holds G.kind_is;
    }

    pub list_interned : {w' s' : List ℕ} {r : Out (ℕ × Counters)} → Interns w s c (take (count + 1) ws) w' s' r → InternsList w s c number items count w' s' r
    list_interned I = record { is = λ table a k H q. I.is table a (node (members k) (take count items)) H (list_node table a k H q) }
