-- `collect` at a node that is marked, at a variable, and over the children of any other node.
use Prim.Native.Nat.{ℕ, ◌+◌, ◌-◌, ◌<◌, ◌≤◌}
use mathlib.Core.Path.{◌≡◌, sym, ap, ◌∙◌, subst}
use mathlib.Core.Bool.{Bool, true, false}
use mathlib.Core.List.{List, [], ◌∷◌, map, flatten}
use native.Mathlib.Numerals.{add-one}
use native.Mathlib.Omega.{arith}
use lib.ListN.{length, get_or, take, drop, drop_of_length-le, length-map, get_or-map}
use lib.Seq.{drop-cons}
use Rattle.words.specs.Words.{head_kind, child}
use Rattle.types.specs.Kind.{disc}
use Rattle.types.specs.Node.{Tag, var, Node, node, tag, kind, children, encode, encode_in}
use Rattle.types.specs.Arena.{Arena, at}
use Rattle.types.specs.Fault.{children_in}
use Rattle.types.specs.declared.Counters.{Counters}
use Rattle.types.proofs.Nodes.{encode_kind}
use Rattle.types.proofs.Faults.{children_encode}
use Rattle.types.proofs.Sound.{at_formed, child_lower}
use Rattle.types.proofs.Memories.{unique}
use Rattle.types.proofs.Addresses.{start_room}
use Rattle.types.proofs.Lists.{body_lent}
use Rattle.bits.specs.Bits.{has, Put}
use Rattle.bits.specs.Inner.{Row}
use Rattle.node_store.specs.Inner.Stored.{NodeAt}
use Rattle.node_store.specs.Inner.Children.{ChildWords}
use Rattle.free_vars.specs.FreeVars.{occurrences, add_all}
use Rattle.free_vars.specs.Inner.{VarNode, Listing, VarRoom, AddsVar, Collecting, Collects}
use Rattle.free_vars.proofs.FirstCopies.{add_has, add_within, add_append}
use Rattle.free_vars.proofs.Occurrences.{IsVar, kind_var, at_other}
use Rattle.free_vars.proofs.Listings.{shown, marked_last, fresh_room, listed_var}

-- ---- the body of a variable's node
module _ (v : ℕ) where
  var_word : (x : Node) → tag x ≡ var v → get_or (drop 1 (encode x)) 0 0 ≡ v
  unfolding encode_in
  var_word (node t cs) e = ap (λ (s : Tag). get_or (drop 1 (encode (node s cs))) 0 0) e

  var_words : (x : Node) → tag x ≡ var v → 0 < length (drop 1 (encode x))
  unfolding encode_in
  var_words (node t cs) e = subst (λ (s : Tag). 0 < length (drop 1 (encode (node s cs)))) (sym e) (omega arith)

module _ {w s : List ℕ} {c : Counters} {n : ℕ} {done vars : List ℕ} {count : ℕ} (C : Collecting w s c n done vars count) where
  abbrev view : Arena
  view = C.lent.view

  low : n < length view
  low = omega (arith, C.inside, C.lent.holds.nodes)

  few_nodes : length view ≤ 4096
  few_nodes = let H = C.lent.holds in omega (arith, H.nodes, start_room H, H.few_starts)

  pub collect_small : n < 4096
  collect_small = omega (arith, low, few_nodes)

  -- what is shown of one arena and one list is shown of any
  collects : {done' vars' : List ℕ} {count' : ℕ} → Listing view done' vars' count' (add_all C.list (occurrences view n)) → Collects w s c n done vars count done' vars' count'
  collects {done'} {vars'} {count'} L = record {
    is = λ table b H. subst (λ (d : Arena). (l : List ℕ) → Listing d done vars count l → Listing d done' vars' count' (add_all l (occurrences d n))) (unique C.lent.holds H)
        (λ l M. subst (λ (m : List ℕ). Listing view done' vars' count' (add_all m (occurrences view n))) (sym (shown C.listing) ∙ shown M) L);
  }

  pub collected : {b : Bool} → b ≡ has done n → b ≡ true → Collects w s c n done vars count done vars count
  collected e f = collects (subst (Listing view done vars count) (sym (add_within C.list (occurrences view n) (C.listing.closed n (sym e ∙ f)))) C.listing)

  collect_row : Row done n
  collect_row = record { long = C.listing.rows; inside = collect_small }

  -- ---- the words of node n
  module _ {x : ℕ} (e : x ≡ n) where
    module _ {ws : List ℕ} (N : NodeAt w s c x ws) where
      its_words : ws ≡ encode (at view n)
      its_words = N.is _ view C.lent.holds ∙ ap (λ (k : ℕ). encode (at view k)) e

      pub collect_head : 0 < length ws
      unfolding encode_in
      collect_head = rw its_words (omega arith)

      its_kind : {k : ℕ} → k ≡ head_kind (get_or ws 0 0) → k ≡ disc (kind (tag (at view n)))
      unfolding encode_in
      its_kind q = q ∙ ap (λ (r : List ℕ). head_kind (get_or r 0 0)) its_words ∙ encode_kind (at view n) (at_formed _ view C.lent.holds.good n low)

      -- ---- a variable that isn't marked
      module _ {k : ℕ} (q : k ≡ head_kind (get_or ws 0 0)) (r : k ≡ 3) {b : Bool} (f : b ≡ has done n) (g : b ≡ false) where
        the_var : IsVar (tag (at view n))
        the_var = kind_var (tag (at view n)) (sym (its_kind q) ∙ r)

        abbrev its_node : VarNode view the_var.number
        its_node = record { node = n; low = low; is = the_var.is }

        its_body : take (length ws - 1) (drop 1 ws) ≡ drop 1 (encode (at view n))
        its_body = body_lent ws ∙ ap (drop 1) its_words

        pub var_room : VarRoom (take (length ws - 1) (drop 1 ws)) n done count
        var_room = record {
          inside = rw its_body (var_words the_var.number (at view n) the_var.is);
          row = collect_row;
          room = omega (arith, C.listing.counted, fresh_room _ C.lent.holds.good C.listing its_node (sym f ∙ g), few_nodes);
        }

        pub var_collected : {done' vars' : List ℕ} {count' : ℕ} → AddsVar (take (length ws - 1) (drop 1 ws)) n done vars count done' vars' count' → Collects w s c n done vars count done' vars' count'
        var_collected A =
            let word : get_or (take (length ws - 1) (drop 1 ws)) 0 0 ≡ the_var.number = ap (λ (r : List ℕ). get_or r 0 0) its_body ∙ var_word the_var.number (at view n) the_var.is in
            collects (rw (A.array, A.counted, word) (listed_var _ C.lent.holds.good C.listing its_node (sym f ∙ g) few_nodes A.put))

-- ---- the loop over the children: what the rest of them adds to the list, the node adds to the list at entry
pub record Turn (w s : List ℕ) (c : Counters) (n : ℕ) (done₀ vars₀ : List ℕ) (count₀ : ℕ) (b done vars : List ℕ) (total i : ℕ) : Type 0 where
  pub start : Collecting w s c n done₀ vars₀ count₀
  pub its_children : map child b ≡ children (at start.lent.view n)
  pub turn : i ≤ length b
  pub list : List ℕ
  pub listing : Listing start.lent.view done vars total list
  pub left : add_all list (flatten (map (occurrences start.lent.view) (drop i (children (at start.lent.view n))))) ≡ add_all start.list (occurrences start.lent.view n)

module _ {w s : List ℕ} {c : Counters} {n : ℕ} {done vars : List ℕ} {count : ℕ} where
  pub turn_start : (C : Collecting w s c n done vars count) {x : ℕ} → x ≡ n → {ws : List ℕ} → NodeAt w s c x ws → {k : ℕ} → k ≡ head_kind (get_or ws 0 0) → (k ≡ 3 → ⊥)
      → {b : List ℕ} → ChildWords ws b → Turn w s c n done vars count b done vars count 0
  turn_start C e N q f g =
      let good = C.lent.holds.good in
      record {
        start = C;
        its_children = g.is ∙ ap children_in (its_words C e N) ∙ children_encode (at (view C) n) (at_formed _ (view C) good n (low C));
        turn = omega arith;
        list = C.list;
        listing = C.listing;
        left = ap (add_all C.list) (sym (at_other _ (view C) good n (low C) (λ p. f (its_kind C e N q ∙ p))));
      }

module _ {w s : List ℕ} {c : Counters} {n : ℕ} {done₀ vars₀ : List ℕ} {count₀ : ℕ} {b done vars : List ℕ} {total i : ℕ}
    (T : Turn w s c n done₀ vars₀ count₀ b done vars total i) where
  abbrev a : Arena
  a = T.start.lent.view

  pub turn_row : Row done n
  turn_row = record { long = T.listing.rows; inside = collect_small T.start }

  -- ---- the next child
  module _ {m : ℕ} (h : i < length b) (e : m ≡ child (get_or b i 0)) where
    inside : i < length (children (at a n))
    inside = omega (arith, length-map b child, ap length T.its_children)

    its_child : m ≡ get_or (children (at a n)) i 0
    unfolding child
    its_child = e ∙ sym (get_or-map child b i 0) ∙ ap (λ (l : List ℕ). get_or l i 0) T.its_children

    lower : m < n
    lower = omega (arith, its_child, child_lower _ a T.start.lent.holds.good n (low T.start) i inside)

    pub turn_falls : {t : ℕ} → n ≡ t → m < t
    turn_falls q = omega (arith, lower)

    pub turn_collecting : Collecting w s c m done vars total
    turn_collecting = record { lent = T.start.lent; inside = omega (arith, lower, T.start.inside); list = T.list; listing = T.listing }

  pub turn_done : length b ≤ i → {done' : List ℕ} → Put done n done' → Collects w s c n done₀ vars₀ count₀ done' vars total
  unfolding add_all flatten
  turn_done h {done'} P =
      let none : drop i (children (at a n)) ≡ [] = drop_of_length-le (children (at a n)) {i = i} (omega (arith, length-map b child, ap length T.its_children)) in
      let all : T.list ≡ add_all T.start.list (occurrences a n)
      = ap (λ (l : List ℕ). add_all T.list (flatten (map (occurrences a) l))) (sym none) ∙ T.left in
      collects T.start (marked_last a P (subst (Listing a done vars total) all T.listing) (add_has T.start.list (occurrences a n)))

-- what was done comes first among the premises, so that `search` meets it first
pub turn_more : {w s : List ℕ} {c : Counters} {n : ℕ} {done₀ vars₀ : List ℕ} {count₀ : ℕ} {b done vars : List ℕ} {total i m : ℕ} {done' vars' : List ℕ} {total' : ℕ}
    → Collects w s c m done vars total done' vars' total' → m ≡ child (get_or b i 0) → i < length b
    → Turn w s c n done₀ vars₀ count₀ b done vars total i → Turn w s c n done₀ vars₀ count₀ b done' vars' total' (i + 1)
unfolding flatten
turn_more {n = n} {i = i} {m} D e h T = record {
  start = T.start;
  its_children = T.its_children;
  turn = omega arith;
  list = add_all T.list (occurrences (a T) m);
  listing = D.is _ (a T) T.start.lent.holds T.list T.listing;
  left = sym (add_append T.list (occurrences (a T) m) (flatten (map (occurrences (a T)) (drop (i + 1) (children (at (a T) n))))))
      ∙ ap (λ (l : List ℕ). add_all T.list (flatten (map (occurrences (a T)) l))) next ∙ T.left;
}
  where
    next : m ∷ drop (i + 1) (children (at (a T) n)) ≡ drop i (children (at (a T) n))
    next = (λ j. its_child T h e j ∷ drop (add-one i j) (children (at (a T) n))) ∙ sym (drop-cons (children (at (a T) n)) i 0 (inside T h e))
