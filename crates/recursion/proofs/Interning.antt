-- Interning in a sound arena: the node is there afterwards, and what is there is found. A well-formed node with as many other children is well formed:
-- numbers of nodes fit their 12 bits while at most 4,096 starts are lent.
use Prim.Native.Nat.{ℕ, ◌^◌, ◌<◌, ◌≤◌}
use mathlib.Core.Path.{◌≡◌, sym, ap, ◌∙◌}
use mathlib.Core.Bool.{true}
use mathlib.Core.List.{List}
use native.Mathlib.Omega.{arith}
use lib.ListN.{length, length-append}
use Rattle.std.specs.Prelude.{Ok}
use Rattle.types.specs.Kind.{body_count}
use Rattle.types.specs.Node.{Tag, Node, node, tag, children, kind, data_of, names, child_words, body, below, matched, linked, well}
use Rattle.types.specs.Arena.{Arena, at, find, sound, Ext}
use Rattle.types.proofs.Tests.{and_true, both}
use Rattle.types.proofs.Lists.{below_more}
use Rattle.types.proofs.Nodes.{Formed, formed_parts, parts_formed, length_child_words}
use Rattle.types.proofs.Decodes.{well_parts, parts_well}
use Rattle.types.proofs.Growth.{ext_length, ext_at}
use Rattle.types.proofs.Sound.{at_find}
use Rattle.node_store.specs.Intern.{intern}
use Rattle.node_store.proofs.Additions.{intern_stored, room_parts}
use Rattle.node_store.proofs.Interning.{Done, stored, added, done, done_ext, done_at, done_sound}

pub node_is : (x : Node) {t : Tag} → tag x ≡ t → x ≡ node t (children x)
node_is (node t cs) e = ap (λ (t : Tag). node t cs) e

-- node n is x
pub record At (a : Arena) (n : ℕ) (x : Node) : Type 0 where
  pub inside : n < length a
  pub is : at a n ≡ x

pub at_later : {a b : Arena} {n : ℕ} {x : Node} → Ext a b → At a n x → At b n x
at_later {a} {b} {n} e I = record { inside = omega (arith, I.inside, ext_length a b e); is = ext_at a b e n I.inside ∙ I.is }

module _ (table n : ℕ) (few : n ≤ 4096) where
  -- with as many other children
  pub well_again : (m : ℕ) (t : Tag) (cs es : List ℕ) → well table m (node t cs) ≡ true → length es ≡ length cs → below n es ≡ true → well table n (node t es) ≡ true
  unfolding linked
  well_again m t cs es w q b =
      let W = well_parts table m (node t cs) w in
      let F = formed_parts t cs W.formed_so in
      let l : length (body (node t es)) ≡ length (body (node t cs))
      = omega (arith, length-append (data_of t).numbers (child_words (data_of t).fields es), length-append (data_of t).numbers (child_words (data_of t).fields cs), length_child_words (data_of t).fields es, length_child_words (data_of t).fields cs) in
      let G : Formed t es = record {
        counted = ap (body_count (kind t) (data_of t).dynamic) l ∙ F.counted;
        matches = ap (matched t) q ∙ F.matches;
        own = F.own;
        few_names = F.few_names;
        few_nodes = below_more n (2 ^ 12) es few b;
      } in
      parts_well table n (node t es) (record { formed_so = parts_formed t es G; linked_so = both b (and_true (below m cs) (below table (names t)) W.linked_so).1; rising_so = W.rising_so })

pub record Interned (table : ℕ) (x : Node) (a : Arena) (m : ℕ) (b : Arena) : Type 0 where
  pub ext : Ext a b
  pub good : sound table b ≡ true
  pub is : At b m x

module _ (words starts table : ℕ) (few : starts ≤ 4096) (x : Node) (a : Arena) (h : sound table a ≡ true) where
  pub interned : (m : ℕ) (b : Arena) → (length a ≤ 4096 → well table (length a) x ≡ true) → intern words starts x a ≡ Ok (m, b) → Interned table x a m b
  interned m b w e =
      let D = done words starts x a m b e in
      let p = done_at D in
      record { ext = done_ext D; good = go D; is = record { inside = p.0; is = p.1 } }
    where
      go : {m : ℕ} {b : Arena} → Done words starts x a m b → sound table b ≡ true
      go (stored p) = h
      go (added p q) = done_sound table h (w (let r = (room_parts words starts x a q).1 in omega arith)) (added p q)

-- what is there is found, and nothing is added
pub intern_there : (words starts table : ℕ) (x : Node) (a : Arena) → sound table a ≡ true → (m : ℕ) → At a m x → intern words starts x a ≡ Ok (m, a)
intern_there words starts table x a h m I = intern_stored words starts x a m (ap (λ (y : Node). find y a) (sym I.is) ∙ at_find table a h m I.inside)
