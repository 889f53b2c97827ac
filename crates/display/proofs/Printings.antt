-- The text of a node written by its pieces: what is written so far, with the children left and the end, is the text.
use Prim.Native.Nat.{ℕ, suc, ◌+◌, ◌<◌, ◌≤◌}
use mathlib.Core.Path.{◌≡◌, refl, sym, ap, ◌∙◌, subst}
use mathlib.Core.Bool.{true}
use mathlib.Core.List.{List, [], ◌∷◌, ◌++◌, map, append_assoc, append-nil}
use native.Mathlib.Omega.{arith}
use native.Mathlib.Numerals.{add-one}
use lib.ListN.{length, get_or, drop, length-map, drop_of_length-le}
use lib.Seq.{drop-cons}
use Rattle.types.specs.Bytes.{bytes}
use Rattle.types.specs.Kind.{disc}
use Rattle.types.specs.Node.{primitive, list, lambda, attrset, named, Tag, members, bound, var, neg, form, Node, tag, kind, children, encode, guess}
use Rattle.types.specs.Arena.{Arena, at, fold, sound}
use Rattle.types.specs.Fault.{children_in}
use Rattle.types.specs.declared.Counters.{Counters}
use Rattle.types.proofs.Faults.{children_encode}
use Rattle.types.proofs.Sound.{at_formed, fold_at}
use Rattle.types.proofs.Memories.{unique}
use Rattle.names.specs.Table.{Name, split}
use Rattle.node_store.specs.Inner.Stored.{InRange, NodeAt}
use Rattle.spelling.specs.declared.Spelling.{Spelling}
use Rattle.appending.specs.Parts.{when}
use Rattle.text_writing.specs.Text.{beginning, parens, before, ending, shown, Printed, child_text, child_texts, node_text, type_text}
use Rattle.appending.specs.Inner.{Writes}
use Rattle.text_writing.specs.Inner.Formed.{IsFormed}
use Rattle.text_writing.specs.Inner.Children.{ChildOf, encloses, IsChild, Opens, Closes}
use Rattle.appending.proofs.Appending.{writes_nothing, writes_over, writes_then, writes_three}
use Rattle.text_writing.proofs.Childhood.{child_below, child_range}
use Rattle.text_writing.proofs.Tags.{formed_guess}
use Rattle.display.specs.Inner.{Prints}

-- ---- the text of a node of a sound arena
shown_map : (f : ℕ → Printed) (t : Tag) (cs : List ℕ) → shown t (map f cs) ≡ map f (shown t cs)
unfolding shown
shown_map f (members k) cs = refl
shown_map f (bound k) cs = refl
shown_map f (var v) cs = refl
shown_map f neg cs = refl
shown_map f (form (primitive c)) cs = refl
shown_map f (form list) cs = refl
shown_map f (form lambda) cs = refl
shown_map f (form (attrset fs d o)) cs = refl
shown_map f (form (named m)) cs = refl

-- where any child is shown, all are
shown_some : (t : Tag) (cs : List ℕ) (i : ℕ) → i < length (shown t cs) → shown t cs ≡ cs
unfolding shown
shown_some (members k) cs i h = refl
shown_some (bound k) cs i h = refl
shown_some (var v) cs i h = refl
shown_some neg cs i h = refl
shown_some (form (primitive c)) cs i h = refl
shown_some (form list) cs i h = refl
shown_some (form lambda) cs i h = refl
shown_some (form (attrset fs d o)) cs i h = refl
shown_some (form (named m)) cs i h = absurd (omega arith)

abbrev shown_of : Node → List ℕ
shown_of x = shown (tag x) (children x)

-- the children of node n from child i on, and the end
abbrev rest : Spelling → List Name → Arena → ℕ → ℕ → List ℕ
rest sp ns a n i = child_texts sp ns (tag (at a n)) i (map (fold (node_text sp ns) a) (drop i (shown_of (at a n))))

abbrev closing : Node → List ℕ
closing x = ending (tag x) (length (children x))

module _ (sp : Spelling) (ns : List Name) (table : ℕ) (a : Arena) (h : sound table a ≡ true) (n : ℕ) (l : n < length a) where
  node_is : fold (node_text sp ns) a n ≡ node_text sp ns (tag (at a n)) (map (fold (node_text sp ns) a) (children (at a n)))
  node_is = fold_at (node_text sp ns) table a h n l

  text_is : beginning sp ns (tag (at a n)) ++ rest sp ns a n 0 ++ closing (at a n) ≡ type_text sp ns a n
  unfolding type_text node_text
  text_is =
      let f = fold (node_text sp ns) a in
      sym (ap (λ (p : Printed). p.text) node_is
      ∙ (λ i. beginning sp ns (tag (at a n)) ++ child_texts sp ns (tag (at a n)) 0 (shown_map f (tag (at a n)) (children (at a n)) i) ++ ending (tag (at a n)) (length-map (children (at a n)) f i)))

  number_is : (fold (node_text sp ns) a n).number ≡ disc (kind (tag (at a n)))
  unfolding node_text
  number_is = ap (λ (p : Printed). p.number) node_is

-- ---- before the loop
pub prints_over : {sp : Spelling} {t w s : List ℕ} {c : Counters} {n : ℕ} {b : List ℕ} {count : ℕ} → length b < count → Prints sp t w s c n b count b count
prints_over l = record { is = λ table a H. writes_over l }

module _ {w s : List ℕ} {c : Counters} {n : ℕ} (R : InRange w s c n) where
  abbrev view : Arena
  view = R.lent.view

  low : n < length view
  low = omega (arith, R.inside, R.lent.holds.nodes)

  abbrev its_formed : {ws : List ℕ} → ws ≡ encode (at view n) → IsFormed ws
  its_formed e = record { view = at view n; words = e; good = at_formed _ view R.lent.holds.good n low }

  its_guess : {ws : List ℕ} → ws ≡ encode (at view n) → guess ws ≡ at view n
  its_guess e = formed_guess (its_formed e)

  its_children : {ws : List ℕ} → ws ≡ encode (at view n) → children_in ws ≡ children (at view n)
  its_children e = ap children_in e ∙ children_encode (at view n) (at_formed _ view R.lent.holds.good n low)

  -- what is shown of one arena is shown of any
  prints : {sp : Spelling} {t b : List ℕ} {count : ℕ} {b' : List ℕ} {end : ℕ} → Writes b count (type_text sp (split t) view n) b' end → Prints sp t w s c n b count b' end
  prints {sp} {t} {b} {count} {b'} {end} W = record { is = λ table a H. subst (λ (v : Arena). Writes b count (type_text sp (split t) v n) b' end) (unique R.lent.holds H) W }

  module _ {x : ℕ} (e : x ≡ n) where
    pub node_range : InRange w s c x
    node_range = record { lent = R.lent; inside = omega (arith, R.inside) }

    module _ {ws : List ℕ} (N : NodeAt w s c x ws) where
      its_words : ws ≡ encode (at view n)
      its_words = N.is _ view R.lent.holds ∙ ap (λ (k : ℕ). encode (at view k)) e

      pub node_formed : IsFormed ws
      node_formed = its_formed its_words

-- ---- the loop over the children, from the bytes b₀ and their count behind the beginning
pub record Printing (sp : Spelling) (t w s : List ℕ) (c : Counters) (n : ℕ) (ws : List ℕ) (many : ℕ) (b₀ : List ℕ) (end₀ : ℕ) (b : List ℕ) (end i : ℕ) : Type 0 where
  pub start : InRange w s c n
  pub words : ws ≡ encode (at start.lent.view n)
  pub counted : many ≡ length (shown_of (at start.lent.view n))
  pub turn : i ≤ many
  pub so_far : List ℕ
  pub written : Writes b₀ end₀ so_far b end
  pub left : so_far ++ rest sp (split t) start.lent.view n i ≡ rest sp (split t) start.lent.view n 0

pub printing_start : {sp : Spelling} {t w s : List ℕ} {c : Counters} {n : ℕ} {ws : List ℕ} {many : ℕ} {b : List ℕ} {end x : ℕ}
    → many ≡ length (shown (tag (guess ws)) (children_in ws)) → NodeAt w s c x ws → x ≡ n → InRange w s c n → Printing sp t w s c n ws many b end b end 0
printing_start {n = n} {ws} k N e R =
    let p : ws ≡ encode (at (view R) n) = its_words R e N in
    record {
      start = R;
      words = p;
      counted = k ∙ (λ j. length (shown (tag (its_guess R p j)) (its_children R p j)));
      turn = omega arith;
      so_far = [];
      written = writes_nothing refl;
      left = refl;
    }

module _ {sp : Spelling} {t w s : List ℕ} {c : Counters} {n : ℕ} {ws : List ℕ} {many : ℕ} {b₀ : List ℕ} {end₀ : ℕ} {b : List ℕ} {end i : ℕ}
    (P : Printing sp t w s c n ws many b₀ end₀ b end i) where
  abbrev a : Arena
  a = P.start.lent.view

  abbrev x : Node
  x = at a n

  pub printing_formed : IsFormed ws
  printing_formed = its_formed P.start P.words

  -- ---- the next child
  module _ (h : i < many) where
    all_shown : shown_of x ≡ children x
    all_shown = shown_some (tag x) (children x) i (omega (arith, h, P.counted))

    pub printing_child : ChildOf w s c n i
    printing_child = let e = ap length all_shown in record { lent = P.start.lent; inside = P.start.inside; child = omega (arith, e, h, P.counted) }

    module _ {m : ℕ} (M : IsChild w s c n i m) where
      pub printing_falls : {k : ℕ} → n ≡ k → m < k
      printing_falls q = let l = child_below printing_child M in omega (arith, l, q)

      pub printing_range : InRange w s c m
      printing_range = child_range printing_child refl M

      -- child i and those after it
      next : rest sp (split t) a n i
          ≡ before sp (split t) (tag x) i (encloses a n i) ++ type_text sp (split t) a m ++ when (encloses a n i) (bytes ")") ++ rest sp (split t) a n (i + 1)
      unfolding child_texts child_text type_text encloses
      next =
          let f = fold (node_text sp (split t)) a in
          let cs = shown_of x in
          let k : i < length cs = omega (arith, h, P.counted) in
          let e : m ≡ get_or (children x) i 0 = M.is _ a P.start.lent.holds in
          let d : get_or cs i 0 ≡ m = ap (λ (l : List ℕ). get_or l i 0) all_shown ∙ sym e in
          let o = child_below printing_child M in
          let q : (f m).number ≡ disc (kind (tag (at a (get_or (children x) i 0))))
          = number_is sp (split t) _ a P.start.lent.holds.good m (omega (arith, o, low P.start)) ∙ ap (λ (v : ℕ). disc (kind (tag (at a v)))) e in
          ap (λ (l : List ℕ). child_texts sp (split t) (tag x) i (map f l)) (drop-cons cs i 0 k)
          ∙ ap (λ (v : ℕ). child_texts sp (split t) (tag x) i (f v ∷ map f (drop (suc i) cs))) d
          ∙ (λ j. before sp (split t) (tag x) i (parens (tag x) i (q j)) ++ (f m).text ++ when (parens (tag x) i (q j)) (bytes ")") ++ child_texts sp (split t) (tag x) (sym (add-one i) j) (map f (drop (sym (add-one i) j) cs)))

  pub printing_done : many ≤ i → {b' : List ℕ} {r : ℕ} → Writes b end (ending (tag (guess ws)) (length (children_in ws))) b' r
      → {b₁ : List ℕ} {count : ℕ} → Writes b₁ count (beginning sp (split t) (tag (guess ws))) b₀ end₀ → Prints sp t w s c n b₁ count b' r
  unfolding child_texts
  printing_done h {b'} {r} W {b₁} {count} U =
      let g = its_guess P.start P.words in
      let none : drop i (shown_of x) ≡ [] = drop_of_length-le (shown_of x) {i = i} (omega (arith, h, P.counted)) in
      let e : ending (tag (guess ws)) (length (children_in ws)) ≡ closing x = λ j. ending (tag (g j)) (length (its_children P.start P.words j)) in
      let all : P.so_far ≡ rest sp (split t) a n 0
      = sym (append-nil P.so_far) ∙ ap (λ (l : List ℕ). P.so_far ++ child_texts sp (split t) (tag x) i (map (fold (node_text sp (split t)) a) l)) (sym none) ∙ P.left in
      prints P.start (subst (λ (l : List ℕ). Writes b₁ count l b' r)
      ((λ j. beginning sp (split t) (tag (g j)) ++ all j ++ e j) ∙ text_is sp (split t) _ a P.start.lent.holds.good n (low P.start))
      (writes_three U P.written W))

-- what was written comes first among the premises, so that `search` meets it first
pub printing_more : {sp : Spelling} {t w s : List ℕ} {c : Counters} {n : ℕ} {ws : List ℕ} {many : ℕ} {b₀ : List ℕ} {end₀ : ℕ} {b : List ℕ} {end i : ℕ} {b₁ : List ℕ} {e₁ m : ℕ} {b₂ : List ℕ} {e₂ : ℕ} {b₃ : List ℕ} {e₃ : ℕ}
    → Closes w s c n i b₂ e₂ b₃ e₃ → Prints sp t w s c m b₁ e₁ b₂ e₂ → IsChild w s c n i m → Opens sp t w s c n i b end b₁ e₁
    → i < many → Printing sp t w s c n ws many b₀ end₀ b end i → Printing sp t w s c n ws many b₀ end₀ b₃ e₃ (i + 1)
printing_more {sp} {t} {n = n} {i = i} {m = m} X D M W h P = record {
  start = P.start;
  words = P.words;
  counted = P.counted;
  turn = omega arith;
  so_far = P.so_far ++ piece;
  written = let H = P.start.lent.holds in writes_then P.written (writes_three (W.is _ (a P) H) (D.is _ (a P) H) (X.is _ (a P) H));
  left = append_assoc P.so_far piece _ ∙ ap (λ (l : List ℕ). P.so_far ++ l) (sym (next P h M)) ∙ P.left;
}
  where
    piece : List ℕ
    piece = before sp (split t) (tag (x P)) i (encloses (a P) n i) ++ type_text sp (split t) (a P) m ++ when (encloses (a P) n i) (bytes ")")
