-- Nodes that a pass interns are well formed, so that a sound arena stays sound. Numbers of nodes fit their 12 bits while at most 4,096 starts are lent.
use Prim.Native.Nat.{ℕ, ◌^◌, ◌<◌, ◌≤◌}
use mathlib.Core.Path.{◌≡◌, refl, sym, ◌∙◌, subst}
use mathlib.Core.Bool.{true, ◌&&◌}
use mathlib.Core.List.{List, []}
use native.Mathlib.Omega.{arith}
use lib.ListN.{length}
use lib.Dec.{leb}
use borrow.Author.Tests.{eqb-true, leb-true, le-leb}
use Rattle.types.specs.Kind.{body_count}
use Rattle.types.specs.Node.{Polarity, positive, negative, Tag, members, bound, neg, Node, node, tag, children, kind, data_of, child_words_in, below, formed, linked, rising, well, well_in}
use Rattle.types.specs.Arena.{Arena, at, sound}
use Rattle.types.proofs.Tests.{and_true, both}
use Rattle.types.proofs.Lists.{below_more}
use Rattle.types.proofs.Nodes.{Formed, formed_parts, parts_formed}
use Rattle.types.proofs.Decodes.{parts_well}
use Rattle.types.proofs.Sound.{at_formed}
use Rattle.recursion.proofs.Interning.{node_is}

-- ---- member lists
list_count : (k : Polarity) (n : ℕ) → body_count (kind (members k)) (data_of (members k)).dynamic n ≡ (leb 1 n && leb n 64)
unfolding body_count
list_count positive n = refl
list_count negative n = refl

pub formed_list : (k : Polarity) (ms : List ℕ) → formed (node (members k) ms) ≡ true → 0 < length ms
unfolding child_words_in
formed_list k ms e = leb-true 1 (length ms) (and_true (leb 1 (length ms)) _ (sym (list_count k (length ms)) ∙ (formed_parts (members k) ms e).counted)).0

formed_neg : (cs : List ℕ) → formed (node neg cs) ≡ true → 0 < length cs
unfolding body_count child_words_in
formed_neg cs e = omega (arith, eqb-true (length cs) 1 (formed_parts neg cs e).counted)

-- lists, and `Neg`, have a child in a sound arena
module _ (table : ℕ) (a : Arena) (h : sound table a ≡ true) (n : ℕ) (l : n < length a) where
  has_child : (t : Tag) → ((cs : List ℕ) → formed (node t cs) ≡ true → 0 < length cs) → tag (at a n) ≡ t → 0 < length (children (at a n))
  has_child t f e = f (children (at a n)) (subst (λ (x : Node). formed x ≡ true) (node_is (at a n) e) (at_formed table a h n l))

  pub has_member : (k : Polarity) → tag (at a n) ≡ members k → 0 < length (children (at a n))
  has_member k = has_child (members k) (formed_list k)

  pub has_negated : tag (at a n) ≡ neg → 0 < length (children (at a n))
  has_negated = has_child neg formed_neg

module _ (table n : ℕ) (few : n ≤ 4096) where
  pub list_well : (k : Polarity) (ms : List ℕ) → 0 < length ms → length ms ≤ 64 → below n ms ≡ true → well table n (node (members k) ms) ≡ true
  unfolding child_words_in below linked rising
  list_well k ms p q b =
      let F : Formed (members k) ms = record {
        counted = list_count k (length ms) ∙ both (le-leb 1 (length ms) p) (le-leb (length ms) 64 q);
        matches = refl;
        own = refl;
        few_names = refl;
        few_nodes = below_more n (2 ^ 12) ms few b;
      } in
      parts_well table n (node (members k) ms) (record { formed_so = parts_formed (members k) ms F; linked_so = both b refl; rising_so = refl })

pub bound_well : (table n : ℕ) (k : Polarity) → well table n (node (bound k) []) ≡ true
unfolding well_in body_count child_words_in
bound_well table n positive = refl
bound_well table n negative = refl
