-- Where a node lies in memory, and what one more node changes there.
use Prim.Native.Nat.{ℕ, ◌+◌, ◌-◌, ◌<◌, ◌≤◌}
use mathlib.Core.Path.{◌≡◌, refl, sym, ap, ◌∙◌}
use mathlib.Core.List.{List, [], ◌∷◌, ◌++◌, append_assoc, append-nil}
use native.Mathlib.Omega.{arith}
use lib.ListN.{length, get_or, drop, set, replicate, length-append}
use lib.Seq.{paste, drop_at, get_or_at}
use Rattle.types.specs.Node.{Node, encode}
use Rattle.types.specs.Arena.{Arena, at, Ext, here, more}
use Rattle.types.specs.Memory.{flat, heads, padded, words_of, starts_of, Holds}
use Rattle.types.specs.declared.Counters.{Counters}
use Rattle.types.proofs.Lists.{padded_more, padded_set}
use Rattle.types.proofs.Growth.{Before, before}

pub length_heads : (a : Arena) → length (heads a) ≡ length a
unfolding heads
length_heads [] = refl
length_heads (x ∷ s) = length-append (heads s) (length (flat s) ∷ []) ∙ omega (arith, length_heads s)

-- ---- the words and starts of a grown arena begin with those of the old one
pub record Begins (whole part : List ℕ) : Type 0 where
  pub rest : List ℕ
  pub is : whole ≡ part ++ rest

begins_more : {w p : List ℕ} (q : List ℕ) → Begins w p → Begins (w ++ q) p
begins_more {w} {p} q B = record { rest = B.rest ++ q; is = ap (λ (l : List ℕ). l ++ q) B.is ∙ append_assoc p B.rest q }

pub ext_flat : {b a : Arena} → Ext b a → Begins (flat a) (flat b)
unfolding flat
ext_flat {b} here = record { rest = []; is = sym (append-nil (flat b)) }
ext_flat (more x e) = begins_more (encode x) (ext_flat e)

pub ext_heads : {b a : Arena} → Ext b a → Begins (heads a) (heads b)
unfolding heads
ext_heads {b} here = record { rest = []; is = sym (append-nil (heads b)) }
ext_heads (more {a = d} x e) = begins_more (length (flat d) ∷ []) (ext_heads e)

-- what is in use has room
padded_room : (n : ℕ) (w p : List ℕ) → length w ≡ n → w ≡ padded n p → length p ≤ n
padded_room n w p l e = let k = ap length e ∙ length-append p (replicate (n - length p) 0) in omega arith

module _ {table : ℕ} {w s : List ℕ} {c : Counters} {a : Arena} (H : Holds table w s c a) where
  pub word_room : c.words ≤ length w
  word_room = omega (arith, H.total, padded_room (length w) w (flat a) refl H.words)

  pub start_room : c.nodes ≤ length s
  start_room = omega (arith, H.nodes, length_heads a, padded_room (length s) s (heads a) refl H.starts)

  -- ---- where node n lies
  module _ (n : ℕ) (l : n < c.nodes) where
    pub there : Before a n
    there = before a n (omega (arith, H.nodes))

    pub start_at : get_or s n 0 ≡ length (flat there.older)
    unfolding heads
    start_at =
        let B = ext_heads there.ext in
        let p = heads there.older in
        let x = length (flat there.older) in
        ap (λ (t : List ℕ). get_or t n 0)
        (H.starts ∙ ap (λ (t : List ℕ). t ++ replicate (length s - length (heads a)) 0) B.is
        ∙ append_assoc (p ++ (x ∷ [])) B.rest _ ∙ append_assoc p (x ∷ []) _)
        ∙ get_or_at p x _ 0 n (length_heads there.older ∙ there.count)

    -- what follows the node's words
    pub after_node : List ℕ
    after_node = (ext_flat there.ext).rest ++ replicate (length w - length (flat a)) 0

    split : w ≡ flat there.older ++ (encode (at a n) ++ after_node)
    unfolding flat after_node
    split =
        let B = ext_flat there.ext in
        let p = flat there.older in
        let x = encode (at a n) in
        H.words ∙ ap (λ (t : List ℕ). t ++ replicate (length w - length (flat a)) 0) B.is
        ∙ append_assoc (p ++ x) B.rest _ ∙ append_assoc p x _

    -- from a node's start on, the words begin with the node's
    pub from_start : drop (get_or s n 0) w ≡ encode (at a n) ++ after_node
    from_start = ap (λ (i : ℕ). drop i w) start_at ∙ ap (drop (length (flat there.older))) split ∙ drop_at (flat there.older) _ _ refl

    pub node_room : get_or s n 0 + length (encode (at a n)) ≤ length w
    node_room =
        let e = ap length split ∙ length-append (flat there.older) _ ∙ ap (λ (k : ℕ). length (flat there.older) + k) (length-append (encode (at a n)) after_node) in
        omega (arith, start_at)

  -- ---- one more node: its words behind the last, its place behind the last start
  module _ (x : Node) where
    pub words_more : paste w c.words (encode x) (length (encode x)) ≡ words_of (length w) (x ∷ a)
    unfolding flat
    words_more =
        ap (λ (l : List ℕ). paste l c.words (encode x) (length (encode x))) H.words
        ∙ ap (λ (k : ℕ). paste (words_of (length w) a) k (encode x) (length (encode x))) H.total
        ∙ padded_more (length w) (flat a) (encode x)

    pub starts_more : c.nodes < length s → set s c.nodes c.words ≡ starts_of (length s) (x ∷ a)
    unfolding heads
    starts_more h =
        ap (λ (l : List ℕ). set l c.nodes c.words) H.starts
        ∙ ap (λ (i : ℕ). set (starts_of (length s) a) i c.words) (H.nodes ∙ sym (length_heads a))
        ∙ ap (λ (v : ℕ). set (starts_of (length s) a) (length (heads a)) v) H.total
        ∙ padded_set (length s) (heads a) (length (flat a)) (omega (arith, H.nodes, length_heads a))

    pub flat_more : length (flat (x ∷ a)) ≡ c.words + length (encode x)
    unfolding flat
    flat_more = length-append (flat a) (encode x) ∙ ap (λ (k : ℕ). k + length (encode x)) (sym H.total)
