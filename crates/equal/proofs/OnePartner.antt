-- In a sound arena different nodes have different trees, so no node has two partners: children have lower numbers, and different numbers of names have different texts.
use Prim.Native.Nat.{ℕ, zero, suc, ◌<◌, ◌≤◌}
use mathlib.Core.Path.{◌≡◌, refl, sym, ap, ap₂, ◌∙◌}
use mathlib.Core.Bool.{true}
use mathlib.Core.List.{List, [], ◌∷◌, ◌++◌, map}
use mathlib.Core.Option.{some}
use native.Mathlib.Omega.{arith}
use lib.ListN.{length, get_or}
use Rattle.words.specs.Words.{head_word}
use Rattle.types.specs.Kind.{disc}
use Rattle.types.specs.Node.{Field, field, Tag, Node, node, tag, children, kind, data_of, field_names, names, child_words, encode, encode_in, head_of, below, linked}
use Rattle.types.specs.Arena.{Arena, at, find, sound}
use Rattle.types.proofs.Tests.{and_true}
use Rattle.types.proofs.Lists.{below_cons, below_more}
use Rattle.types.proofs.Nodes.{cons, encode_injective}
use Rattle.types.proofs.Decodes.{well_parts}
use Rattle.types.proofs.Sound.{at_well, at_formed, children_below, fold_at, at_find}
use Rattle.names.specs.Table.{Name, names_of}
use Rattle.names.proofs.Numbers.{text_number}
use Rattle.equal.specs.Equal.{Label, Tree, over, spell, label_of, tree}
use Rattle.equal.specs.Inner.Data.{Named}
use Rattle.equal.specs.Theorems.{OnePartner}

-- ---- a tree has one label and one list of children
pub over_parts : (l m : Label) (ts us : List Tree) → over l ts ≡ over m us → (l ≡ m) × (ts ≡ us)
unfolding over
over_parts l m [] [] e = (cc, refl)
over_parts l m [] (u ∷ us) e = let z : ◌≡◌ {A = ℕ} 0 1 = cc in absurd (omega arith)
over_parts l m (t ∷ ts) [] e = let z : ◌≡◌ {A = ℕ} 0 1 = cc in absurd (omega arith)
over_parts l m (t ∷ ts) (u ∷ us) e =
    let p : t ≡ u = cc in
    let q : over l ts ≡ over m us = cc in
    let r = over_parts l m ts us q in
    (r.0, cons p r.1)

pub tree_at : (ns : List Name) (table : ℕ) (a : Arena) → sound table a ≡ true → (n : ℕ) → n < length a → tree ns a n ≡ over (label_of ns (tag (at a n))) (map (tree ns a) (children (at a n)))
unfolding tree
tree_at ns table a h n l = fold_at (λ (t : Tag) (ts : List Tree). over (label_of ns t) ts) table a h n l

-- ---- fields that spell the same under one table
module _ (t : List ℕ) (ns : List Name) (e : names_of t ≡ some ns) where
  field_number : (fs gs : List Field) → below (length ns) (field_names fs) ≡ true → below (length ns) (field_names gs) ≡ true → map (spell ns) fs ≡ map (spell ns) gs → fs ≡ gs
  field_number [] [] p q r = refl
  field_number [] (g ∷ gs) p q r = let z : ◌≡◌ {A = ℕ} 0 1 = cc in absurd (omega arith)
  field_number (f ∷ fs) [] p q r = let z : ◌≡◌ {A = ℕ} 0 1 = cc in absurd (omega arith)
  field_number (field o i ∷ fs) (field c j ∷ gs) p q r =
      let f : o ≡ c = cc in
      let g : get_or ns i [] ≡ get_or ns j [] = cc in
      let s : map (spell ns) fs ≡ map (spell ns) gs = cc in
      let x = below_cons (length ns) i (field_names fs) p in
      let y = below_cons (length ns) j (field_names gs) q in
      cons (ap₂ field f (text_number t ns e i j x.0 y.0 g)) (field_number fs gs x.1 y.1 s)

-- ---- nodes with one label and the same children
linked_names : (table n : ℕ) (x : Node) → linked table n x ≡ true → below table (names (tag x)) ≡ true
unfolding linked
linked_names table n (node t cs) e = (and_true (below n cs) (below table (names t)) e).1

same_words : (t u : Tag) (cs ds : List ℕ) → disc (kind t) ≡ disc (kind u) → (data_of t).numbers ≡ (data_of u).numbers → (data_of t).fields ≡ (data_of u).fields → (data_of t).dynamic ≡ (data_of u).dynamic → (data_of t).opened ≡ (data_of u).opened
    → cs ≡ ds → encode (node t cs) ≡ encode (node u ds)
unfolding encode_in head_of
same_words t u cs ds k n f d o c = λ i.
    head_word (k i) (o i) (d i) (length (n i ++ child_words (f i) (c i))) ∷ n i ++ child_words (f i) (c i)

same_node : (t : List ℕ) (ns : List Name) → names_of t ≡ some ns → (x y : Node) → below (length ns) (names (tag x)) ≡ true → below (length ns) (names (tag y)) ≡ true → label_of ns (tag x) ≡ label_of ns (tag y) → children x ≡ children y → encode x ≡ encode y
same_node t ns e (node v cs) (node w ds) p q r c =
    let k : disc (kind v) ≡ disc (kind w) = cc in
    let n : (data_of v).numbers ≡ (data_of w).numbers = cc in
    let s : map (spell ns) (data_of v).fields ≡ map (spell ns) (data_of w).fields = cc in
    let d : (data_of v).dynamic ≡ (data_of w).dynamic = cc in
    let o : (data_of v).opened ≡ (data_of w).opened = cc in
    same_words v w cs ds k n (field_number t ns e (data_of v).fields (data_of w).fields p q s) d o c

-- ---- numbers below a bound that f tells apart
apart : (f : ℕ → Tree) (m : ℕ) (cs ds : List ℕ) → below m cs ≡ true → below m ds ≡ true → ((c d : ℕ) → c < m → d < m → f c ≡ f d → c ≡ d) → map f cs ≡ map f ds → cs ≡ ds
apart f m [] [] p q g e = refl
apart f m [] (d ∷ ds) p q g e = let z : ◌≡◌ {A = ℕ} 0 1 = cc in absurd (omega arith)
apart f m (c ∷ cs) [] p q g e = let z : ◌≡◌ {A = ℕ} 0 1 = cc in absurd (omega arith)
apart f m (c ∷ cs) (d ∷ ds) p q g e =
    let x = below_cons m c cs p in
    let y = below_cons m d ds q in
    let r : f c ≡ f d = cc in
    let s : map f cs ≡ map f ds = cc in
    cons (g c d x.0 y.0 r) (apart f m cs ds x.1 y.1 g s)

-- ---- the nodes of a sound arena have names of its table
pub named_at : (ns : List Name) (a : Arena) → sound (length ns) a ≡ true → (n : ℕ) → n < length a → Named ns (at a n)
named_at ns a h n l = record {
  formed_so = at_formed (length ns) a h n l;
  inside = linked_names (length ns) n (at a n) (well_parts (length ns) n (at a n) (at_well (length ns) a h n l)).linked_so;
}

-- ---- the theorem
module _ (t : List ℕ) (ns : List Name) (e : names_of t ≡ some ns) (a : Arena) (h : sound (length ns) a ≡ true) where
  one_number : (p q : ℕ) → p < length a → q < length a → at a p ≡ at a q → p ≡ q
  one_number p q k l r =
      let x = at_find (length ns) a h p k in
      let y = at_find (length ns) a h q l in
      let z = ap (λ (n : Node). find n a) r in
      cc

  -- by the numbers, which fall
  apart_below : (m p q : ℕ) → m ≤ length a → p < m → q < m → tree ns a p ≡ tree ns a q → p ≡ q
  apart_below zero p q g i j r = absurd (omega arith)
  apart_below (suc m) p q g i j r =
      let k : p < length a = omega arith in
      let l : q < length a = omega arith in
      let s = over_parts _ _ _ _ (sym (tree_at ns (length ns) a h p k) ∙ r ∙ tree_at ns (length ns) a h q l) in
      let x = below_more p m (children (at a p)) (omega arith) (children_below (length ns) a h p k) in
      let y = below_more q m (children (at a q)) (omega arith) (children_below (length ns) a h q l) in
      let f : (c d : ℕ) → c < m → d < m → tree ns a c ≡ tree ns a d → c ≡ d = λ c d u v w. apart_below m c d (omega arith) u v w in
      one_number p q k l (encode_injective (at a p) (at a q) (named_at ns a h p k).formed_so (named_at ns a h q l).formed_so
      (same_node t ns e (at a p) (at a q) (named_at ns a h p k).inside (named_at ns a h q l).inside s.0 (apart (tree ns a) m (children (at a p)) (children (at a q)) x y f s.1)))

-- two nodes with the same tree are one
pub one_partner : OnePartner
one_partner t ns e a h p q k l r = apart_below t ns e a h (length a) p q (omega arith) k l r
