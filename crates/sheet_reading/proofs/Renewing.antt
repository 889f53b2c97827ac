-- The words of an old node, renewed, say under today's layout what the old words say under the old one: so `decode` answers the same of both.
use Prim.Native.Nat.{ℕ, zero, suc, ◌+◌, ◌-◌, ◌^◌, ◌<◌, ◌≤◌}
use mathlib.Core.Path.{◌≡◌, refl, sym, ap, ap₂, ◌∙◌}
use mathlib.Core.Bool.{Bool, true, not, ◌&&◌}
use mathlib.Core.List.{List, [], ◌∷◌, map}
use mathlib.Core.Option.{Option, none, some}
use native.Mathlib.Omega.{arith}
use native.Mathlib.Numerals.{add-one}
use lib.ListN.{length, get_or, take, drop, set, length-set, length-drop}
use lib.Seq.{drop-cons, length-take-le}
use lib.Dec.{eqb}
use borrow.Author.Tests.{lt-ltb}
use Rattle.words.specs.Words.{bit, head_kind, head_open, head_dynamic, head_count, field_name, old_field_name, field_zero, old_field_zero, child, child_zero, field_optional}
use Rattle.words.specs.Inner.{renewed}
use Rattle.words.proofs.Words.{field_renewed}
use Rattle.words.specs.declared.Layout.{Layout}
use Rattle.words.specs.declared.Layout.TheVariants as layout
use Rattle.types.specs.Out.{Out}
use Rattle.types.specs.Kind as kinds
use Rattle.types.specs.Kind.{Kind, disc, kind_of, body_of}
use Rattle.types.specs.Node.{Field, field, form, attrset, named, Node, node, tag, names, below, linked, rising, field_of_in, field_of, tag_of_in, tag_of, children_of, guess_kind_in, guess_in, guess, is_words_in, decode_in, decode}
use Rattle.types.specs.Fault.{head_fits, each_zero, body_fits_in, body_fits, kind_body_fits_in, fits_in, fits}
use Rattle.types.proofs.Tests.{both}
use Rattle.types.proofs.Lists.{below_cons}
use Rattle.types.proofs.Nodes.{cons}
use Rattle.types.proofs.KindNumbers.{disc_kind_of}
use Rattle.types.proofs.Decodes.{answer, by_guess_in}
use Rattle.types.proofs.Faults.{fits_words_in}
use Rattle.node_order.specs.WordsOrder.{field_count}
use Rattle.node_order.specs.Inner.{FieldCount}
use Rattle.sheet_reading.specs.Sheet.{words}
use Rattle.sheet_reading.specs.Inner.Steps.{Stretch, Copied, renewed_first, renewed_words, new_words, Copying, Renews, CopiedAs}

-- ---- the first words renewed
length_first : (k : ℕ) (ws : List ℕ) → length (renewed_first k ws) ≡ length ws
unfolding renewed_first
length_first zero ws = refl
length_first (suc k) [] = refl
length_first (suc k) (w ∷ ws) = ap suc (length_first k ws)

take_first : (k : ℕ) (ws : List ℕ) → take k (renewed_first k ws) ≡ map renewed (take k ws)
unfolding renewed_first
take_first zero ws = refl
take_first (suc k) [] = refl
take_first (suc k) (w ∷ ws) = cons refl (take_first k ws)

drop_first : (k : ℕ) (ws : List ℕ) → drop k (renewed_first k ws) ≡ drop k ws
unfolding renewed_first
drop_first zero ws = refl
drop_first (suc k) [] = refl
drop_first (suc k) (w ∷ ws) = drop_first k ws

all_first : (ws : List ℕ) → renewed_first (length ws) ws ≡ map renewed ws
unfolding renewed_first
all_first [] = refl
all_first (w ∷ ws) = cons refl (all_first ws)

child_first : (k : ℕ) (ws : List ℕ) → map child (renewed_first k ws) ≡ map child ws
unfolding renewed_first
child_first zero ws = refl
child_first (suc k) [] = refl
child_first (suc k) (w ∷ ws) = cons (field_renewed w).child_kept (child_first k ws)

below_first : (k : ℕ) (ws : List ℕ) → below (2 ^ 32) ws ≡ true → below (2 ^ 32) (renewed_first k ws) ≡ true
unfolding renewed_first below
below_first zero ws e = e
below_first (suc k) [] e = refl
below_first (suc k) (w ∷ ws) e = both (lt-ltb _ _ (field_renewed w).small) (below_first k ws (below_cons (2 ^ 32) w ws e).1)

-- ---- field words renewed
zeros : (ws : List ℕ) → each_zero old_field_zero ws ≡ each_zero field_zero (map renewed ws)
unfolding each_zero
zeros [] = refl
zeros (w ∷ ws) = ap₂ (λ (x y : Bool). x && y) (sym (field_renewed w).zero_kept) (zeros ws)

fields : (ws : List ℕ) → map (field_of_in layout.Old) ws ≡ map field_of (map renewed ws)
fields [] = refl
fields (w ∷ ws) = cons (sym (λ i. field ((field_renewed w).optional_kept i) ((field_renewed w).name_kept i))) (fields ws)

-- ---- the body of a node of this kind
abbrev body : Kind → Bool → List ℕ → List ℕ
body k d b = renewed_first (field_count (disc k) d (length b)) b

module _ (d : Bool) (b : List ℕ) where
  abbrev set_body : List ℕ
  set_body = renewed_first (length b - bit d) b

  set_fields : take (length set_body - bit d) set_body ≡ map renewed (take (length b - bit d) b)
  set_fields = ap (λ (n : ℕ). take (n - bit d) set_body) (length_first (length b - bit d) b) ∙ take_first (length b - bit d) b

  set_rest : drop (length set_body - bit d) set_body ≡ drop (length b - bit d) b
  set_rest = ap (λ (n : ℕ). drop (n - bit d) set_body) (length_first (length b - bit d) b) ∙ drop_first (length b - bit d) b

marks : (b : List ℕ) → field_optional (get_or b 0 0) ≡ field_optional (get_or (renewed_first (length b) b) 0 0)
unfolding renewed_first
marks [] = refl
marks (w ∷ b) = sym (field_renewed w).optional_kept

name_first : (b : List ℕ) → old_field_name (get_or b 0 0) ≡ field_name (get_or (renewed_first (length b) b) 0 0)
unfolding renewed_first field_name old_field_name
name_first [] = refl
name_first (w ∷ b) = sym (field_renewed w).name_kept

body_kept : (k : Kind) (d : Bool) (b : List ℕ) → body_fits_in layout.Old (body_of k) d b ≡ body_fits (body_of k) d (body k d b)
unfolding body_fits_in field_count renewed_first each_zero
body_kept kinds.bottom d b = refl
body_kept kinds.top d b = refl
body_kept kinds.primitive d b = refl
body_kept kinds.ty_var d b = refl
body_kept kinds.list d b = refl
body_kept kinds.lambda d b = refl
body_kept kinds.attr_set d b =
    ap₂ (λ (x y : Bool). x && y)
    (zeros (take (length b - bit d) b) ∙ ap (each_zero field_zero) (sym (set_fields d b)))
    (ap (each_zero child_zero) (sym (set_rest d b)))
body_kept kinds.union d b = refl
body_kept kinds.intersection d b = refl
body_kept kinds.named d b =
    ap₂ (λ (x y : Bool). not x && (y && true)) (marks b) (zeros b ∙ ap (each_zero field_zero) (sym (all_first b)))
body_kept kinds.neg d b = refl

tag_kept : (k : Kind) (o d : Bool) (b : List ℕ) → tag_of_in layout.Old k o d b ≡ tag_of k o d (body k d b)
unfolding tag_of_in field_count renewed_first
tag_kept kinds.bottom o d b = refl
tag_kept kinds.top o d b = refl
tag_kept kinds.primitive o d b = refl
tag_kept kinds.ty_var o d b = refl
tag_kept kinds.list o d b = refl
tag_kept kinds.lambda o d b = refl
tag_kept kinds.attr_set o d b =
    ap (λ (fs : List Field). form (attrset fs d o)) (fields (take (length b - bit d) b) ∙ ap (map field_of) (sym (set_fields d b)))
tag_kept kinds.union o d b = refl
tag_kept kinds.intersection o d b = refl
tag_kept kinds.named o d b = ap (λ (n : ℕ). form (named n)) (name_first b)
tag_kept kinds.neg o d b = refl

children_kept : (k : Kind) (d : Bool) (b : List ℕ) → children_of (body_of k) b ≡ children_of (body_of k) (body k d b)
unfolding children_of field_count renewed_first
children_kept kinds.bottom d b = refl
children_kept kinds.top d b = refl
children_kept kinds.primitive d b = refl
children_kept kinds.ty_var d b = refl
children_kept kinds.list d b = refl
children_kept kinds.lambda d b = refl
children_kept kinds.attr_set d b = sym (child_first (length b - bit d) b)
children_kept kinds.union d b = refl
children_kept kinds.intersection d b = refl
children_kept kinds.named d b = sym (child_first (length b) b)
children_kept kinds.neg d b = refl

-- ---- the words of a node
module _ (h : ℕ) (b : List ℕ) where
  abbrev renewed_body : List ℕ
  renewed_body = renewed_first (field_count (head_kind h) (head_dynamic h) (length b)) b

  by_kind : (k : Kind) → kind_of (head_kind h) ≡ some k → renewed_body ≡ body k (head_dynamic h) b
  by_kind k e = ap (λ (n : ℕ). renewed_first (field_count n (head_dynamic h) (length b)) b) (disc_kind_of (head_kind h) k e)

  guess_body : (o : Option Kind) → kind_of (head_kind h) ≡ o → guess_kind_in layout.Old o (head_open h) (head_dynamic h) b ≡ guess_kind_in layout.New o (head_open h) (head_dynamic h) renewed_body
  guess_body none e = refl
  guess_body (some k) e =
      ap₂ node (tag_kept k (head_open h) (head_dynamic h) b) (children_kept k (head_dynamic h) b)
      ∙ sym (ap (λ (c : List ℕ). node (tag_of k (head_open h) (head_dynamic h) c) (children_of (body_of k) c)) (by_kind k e))

  fits_body : (o : Option Kind) → kind_of (head_kind h) ≡ o → kind_body_fits_in layout.Old o (head_dynamic h) b ≡ kind_body_fits_in layout.New o (head_dynamic h) renewed_body
  fits_body none e = refl
  fits_body (some k) e = body_kept k (head_dynamic h) b ∙ sym (ap (body_fits (body_of k) (head_dynamic h)) (by_kind k e))

guess_kept : (ws : List ℕ) → guess_in layout.Old ws ≡ guess (renewed_words ws)
unfolding guess_in renewed_words
guess_kept [] = refl
guess_kept (h ∷ b) = guess_body h b (kind_of (head_kind h)) refl

fits_kept : (ws : List ℕ) → fits_in layout.Old ws ≡ fits (renewed_words ws)
unfolding fits_in renewed_words
fits_kept [] = refl
fits_kept (h ∷ b) =
    ap₂ (λ (x y : Bool). head_fits h && (x && y))
    (ap (λ (n : ℕ). eqb n (head_count h)) (sym (length_first (field_count (head_kind h) (head_dynamic h) (length b)) b)))
    (fits_body h b (kind_of (head_kind h)) refl)

words_small : (ws : List ℕ) → below (2 ^ 32) ws ≡ true → below (2 ^ 32) (renewed_words ws) ≡ true
unfolding renewed_words below
words_small [] e = refl
words_small (h ∷ b) e = let p = below_cons (2 ^ 32) h b e in both (lt-ltb h (2 ^ 32) p.0) (below_first (field_count (head_kind h) (head_dynamic h) (length b)) b p.1)

-- what `decode` answers of old words, it answers of the renewed ones
module _ (table nodes : ℕ) (ws : List ℕ) (small : below (2 ^ 32) ws ≡ true) where
  by_fits : Bool → Node → Out Node
  by_fits f x = answer x f (linked table nodes x) (rising (names (tag x)))

  pub decode_renewed : decode_in layout.Old table nodes ws ≡ decode table nodes (renewed_words ws)
  unfolding by_fits
  decode_renewed =
      by_guess_in layout.Old table nodes ws
      ∙ ap (λ (f : Bool). by_fits f (guess_in layout.Old ws)) (fits_words_in layout.Old ws small ∙ fits_kept ws ∙ sym (fits_words_in layout.New (renewed_words ws) (words_small ws small)))
      ∙ ap (by_fits (is_words_in layout.New (renewed_words ws) (guess (renewed_words ws)))) (guess_kept ws)
      ∙ sym (by_guess_in layout.New table nodes (renewed_words ws))

-- ---- an array in which a node's words are renewed, one after another
take_more : (k m : ℕ) (ws : List ℕ) → k ≤ m → take m (renewed_first k ws) ≡ renewed_first k (take m ws)
unfolding renewed_first
take_more zero m ws h = refl
take_more (suc k) zero ws h = absurd (omega arith)
take_more (suc k) (suc m) [] h = refl
take_more (suc k) (suc m) (w ∷ ws) h = cons refl (take_more k m ws (omega arith))

set_first : (i : ℕ) (ws : List ℕ) → i < length ws → set (renewed_first i ws) i (renewed (get_or (renewed_first i ws) i 0)) ≡ renewed_first (suc i) ws
unfolding renewed_first
set_first i [] h = absurd (omega arith)
set_first zero (w ∷ ws) h = refl
set_first (suc i) (w ∷ ws) h = cons refl (set_first i ws (omega arith))

-- the first i words behind the head are renewed
pub record Renewing (node₀ : List ℕ) (count fields : ℕ) (node : List ℕ) (i : ℕ) : Type 0 where
  pub copying : Copying node₀ count
  pub known : FieldCount (get_or node₀ 0 0) (count - 1) fields
  pub size : length node ≡ 66
  pub turn : i ≤ fields
  pub is : node ≡ get_or node₀ 0 0 ∷ renewed_first i (drop 1 node₀)

module _ {node₀ : List ℕ} {count : ℕ} (C : Copying node₀ count) where
  split : node₀ ≡ get_or node₀ 0 0 ∷ drop 1 node₀
  split = drop-cons node₀ 0 0 (omega (arith, C.size))

  pub renewing_start : {fields : ℕ} → FieldCount (get_or node₀ 0 0) (count - 1) fields → Renewing node₀ count fields node₀ 0
  unfolding renewed_first
  renewing_start F = record { copying = C; known = F; size = C.size; turn = omega arith; is = split }

module _ {node₀ : List ℕ} {count fields : ℕ} {node : List ℕ} {i : ℕ} (R : Renewing node₀ count fields node i) where
  module _ (h : i < fields) where
    pub renewing_room : i + 1 < 66
    renewing_room = omega (arith, h, R.known.within, R.copying.some, R.copying.few)

    rest : List ℕ
    rest = renewed_first i (drop 1 node₀)

    here : get_or node (i + 1) 0 ≡ get_or rest i 0
    unfolding rest
    here = ap (λ (ns : List ℕ). get_or ns (i + 1) 0) R.is ∙ rw add-one refl

    pub renewing_more : {v : ℕ} → v ≡ renewed (get_or node (i + 1) 0) → Renewing node₀ count fields (set node (i + 1) v) (i + 1)
    unfolding rest
    renewing_more {v} p =
        let inside : i < length (drop 1 node₀) = omega (arith, renewing_room, length-drop 1 node₀, R.copying.size) in
        let next : set rest i v ≡ renewed_first (suc i) (drop 1 node₀) = ap (set rest i) (p ∙ ap renewed here) ∙ set_first i (drop 1 node₀) inside in
        record {
          copying = R.copying;
          known = R.known;
          size = length-set node (i + 1) v ∙ R.size;
          turn = omega (arith, h);
          is = ap (λ (ns : List ℕ). set ns (i + 1) v) R.is ∙ rw add-one (cons refl next);
        }

  pub renewing_done : fields ≤ i → Renews node₀ count node
  unfolding renewed_words
  renewing_done h =
      let all : i ≡ fields = omega (arith, h, R.turn) in
      let m : count ≡ suc (count - 1) = omega (arith, R.copying.some) in
      let r = drop 1 node₀ in
      let long : length (take (count - 1) r) ≡ count - 1 = length-take-le (count - 1) r (omega (arith, R.copying.few, length-drop 1 node₀, R.copying.size)) in
      let k = field_count (head_kind (get_or node₀ 0 0)) (head_dynamic (get_or node₀ 0 0)) in
      let left : take count node ≡ get_or node₀ 0 0 ∷ renewed_first fields (take (count - 1) r)
      = ap₂ take m R.is ∙ cons refl (ap (λ (j : ℕ). take (count - 1) (renewed_first j r)) all ∙ take_more fields (count - 1) r R.known.within) in
      let right : renewed_words (take count node₀) ≡ get_or node₀ 0 0 ∷ renewed_first fields (take (count - 1) r)
      = ap renewed_words (ap₂ take m (split R.copying))
      ∙ cons refl (ap (λ (j : ℕ). renewed_first (k j) (take (count - 1) r)) long ∙ ap (λ (j : ℕ). renewed_first j (take (count - 1) r)) (sym R.known.value)) in
      record { size = R.size; is = left ∙ sym right }

-- ---- the words of either layout
pub copied_old : {bytes ns node node' : List ℕ} {n : ℕ} {l : Layout} → Copied bytes ns node n → Renews node n node' → l ≡ layout.Old → CopiedAs l bytes node' n
copied_old {bytes} {n = n} C R e = record { count = C.count; size = R.size; is = R.is ∙ ap renewed_words C.is ∙ ap (λ (y : Layout). new_words y (words n bytes)) (sym e); small = C.small }

pub copied_new : {bytes ns node : List ℕ} {n : ℕ} {l : Layout} → Stretch bytes ns → Copied bytes ns node n → l ≡ layout.New → CopiedAs l bytes node n
copied_new {bytes} {n = n} S C e = record { count = C.count; size = C.size ∙ S.size; is = C.is ∙ ap (λ (y : Layout). new_words y (words n bytes)) (sym e); small = C.small }

pub copied_some : {bytes ns node : List ℕ} {n : ℕ} → Stretch bytes ns → Copied bytes ns node n → Copying node n
copied_some S C = record { size = C.size ∙ S.size; some = omega (arith, C.count, S.some); few = omega (arith, C.count, S.few) }
