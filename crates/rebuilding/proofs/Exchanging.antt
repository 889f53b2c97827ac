-- A node's words with other children: field words and child words alike have the child in their lowest bits, so that one exchange serves both.
use Prim.Native.Nat.{ℕ, zero, suc, ◌+◌, ◌-◌, ◌^◌, ◌<◌, ◌≤◌}
use mathlib.Core.Path.{◌≡◌, refl, sym, ap, ap₂, ◌∙◌}
use mathlib.Core.Bool.{Bool, true, false, true≢false}
use mathlib.Core.List.{List, [], ◌∷◌, ◌++◌, map}
use native.Mathlib.Omega.{arith}
use native.Mathlib.Numerals.{add-one}
use native.Mathlib.Decide.{ℕ_discrete}
use lib.ListN.{length, get_or, take, drop, set, length-set, length-drop}
use lib.Seq.{get_or-take, get_or-drop, length-take-le, ext_get_or, get_or-set_same, get_or-set_other}
use lib.Dec.{eqb}
use borrow.Author.Tests.{eqb-true, eq-eqb}
use Rattle.std.specs.List.{list_all, zip}
use Rattle.words.specs.declared.Layout.TheVariants as layout
use Rattle.words.specs.Words.{head_word, field_word, child}
use Rattle.words.proofs.Words.{field_made}
use Rattle.types.specs.Same.{same_numbers}
use Rattle.types.specs.Kind.{disc, body_count}
use Rattle.types.specs.Node.{positive, negative, Field, field, primitive, list, lambda, attrset, named, Tag, members, bound, var, neg, form, node, kind, data_of, field_names, child_words, child_words_in, body, head_of, encode, encode_in, below}
use Rattle.types.proofs.Lists.{below_at, below_cons}
use Rattle.types.proofs.Tests.{and_true, numbers_if, numbers_not}
use Rattle.types.proofs.Nodes.{length_child_words, Formed}
use Rattle.node_store.proofs.Offspring.{child_inside}
use Rattle.types.proofs.Lists.{body_lent}
use Rattle.rebuilding.specs.Inner.Rebuilt.{with_child, AsMany, Exchanging, Exchanged}

pub length_given : {ws items : List ℕ} {count : ℕ} → AsMany ws items count → length (take count items) ≡ count
length_given {items = items} {count} G = length-take-le count items (omega (arith, G.long, G.few))

-- ---- the children as they were
-- whether each word of a body has the item beside it for its child
abbrev pub fits : ℕ × ℕ → Bool
fits p = eqb (child p.0) p.1

if_fits : (b xs : List ℕ) → length b ≡ length xs → list_all fits (zip b xs) ≡ true → map child b ≡ xs
if_fits [] [] e t = refl
if_fits [] (y ∷ ys) e t = absurd (omega arith)
if_fits (x ∷ xs) [] e t = absurd (omega arith)
if_fits (x ∷ xs) (y ∷ ys) e t =
    let h = and_true (eqb (child x) y) (list_all fits (zip xs ys)) t in
    ap₂ (λ (c : ℕ) (cs : List ℕ). c ∷ cs) (eqb-true (child x) y h.0) (if_fits xs ys (omega arith) h.1)

its_own : (b : List ℕ) → list_all fits (zip b (map child b)) ≡ true
its_own [] = refl
its_own (x ∷ xs) = rw (eq-eqb (child x) (child x) refl) (its_own xs)

pub same_fits : (b xs : List ℕ) → length b ≡ length xs → list_all fits (zip b xs) ≡ same_numbers (map child b) xs
same_fits b xs e = go (list_all fits (zip b xs)) refl
  where
    go : (r : Bool) → list_all fits (zip b xs) ≡ r → r ≡ same_numbers (map child b) xs
    go true t = sym (numbers_if (map child b) xs (if_fits b xs e t))
    go false f = sym (numbers_not (map child b) xs (λ q. true≢false (sym (its_own b) ∙ ap (λ (ys : List ℕ). list_all fits (zip b ys)) q ∙ f)))

-- ---- i children exchanged, those of the body b
pub record Exchanges (ws b items : List ℕ) (count : ℕ) (new : List ℕ) (i : ℕ) : Type 0 where
  pub body : b ≡ drop 1 ws
  pub done : Exchanged ws items i new
  pub turn : i ≤ count

module _ {ws items : List ℕ} {count : ℕ} {old : List ℕ} (E : Exchanging ws items count old) where
  pub head_there : 0 < length ws
  head_there = let z = child_inside ws 0 (omega (arith, E.some, E.as_many.count_is)) in omega arith

  pub exchange_start : Exchanges ws (take (length ws - 1) (drop 1 ws)) items count (set old 0 (get_or ws 0 0)) 0
  exchange_start = record {
    body = body_lent ws;
    done = record {
      size = length-set old 0 (get_or ws 0 0) ∙ E.size;
      head = get_or-set_same old 0 (get_or ws 0 0) 0 (omega (arith, E.size));
      each = λ j l. absurd (omega arith);
    };
    turn = omega arith;
  }

  module _ {b new : List ℕ} {i : ℕ} (X : Exchanges ws b items count new i) (l : i < count) where
    pub word_in : i < length b
    word_in = let z = child_inside ws i (omega (arith, l, E.as_many.count_is)) in omega (arith, z, ap length X.body, length-drop 1 ws)

    pub item_in : i < 65
    item_in = omega (arith, l, E.as_many.few)

    pub item_low : get_or items i 0 < 4096
    item_low = rw (get_or-take count items i 0 l) at (below_at 4096 (take count items) E.low i (omega (arith, l, length_given E.as_many)))

    pub exchange_more : {v : ℕ} → v ≡ with_child (get_or b i 0) (get_or items i 0) → Exchanges ws b items count (set new (i + 1) v) (i + 1)
    exchange_more {v} e = record {
      body = X.body;
      done = record {
        size = length-set new (i + 1) v ∙ X.done.size;
        head = get_or-set_other new (i + 1) 0 v 0 (λ q. omega (arith, q)) ∙ X.done.head;
        each = λ j k. go j k (ℕ_discrete j i);
      };
      turn = omega arith;
    }
      where
        word : get_or b i 0 ≡ get_or ws (i + 1) 0
        word = let s : 1 + i ≡ i + 1 = omega arith in ap (λ (x : List ℕ). get_or x i 0) X.body ∙ get_or-drop 1 ws i 0 ∙ ap (λ (k : ℕ). get_or ws k 0) s

        go : (j : ℕ) → j < i + 1 → Dec (j ≡ i) → get_or (set new (i + 1) v) (j + 1) 0 ≡ with_child (get_or ws (j + 1) 0) (get_or items j 0)
        go j k (yes q) = rw q (get_or-set_same new (i + 1) v 0 (omega (arith, X.done.size, item_in)) ∙ e ∙ ap (λ (x : ℕ). with_child x (get_or items i 0)) word)
        go j k (no q) = get_or-set_other new (i + 1) (j + 1) v 0 (λ p. q (omega (arith, p))) ∙ X.done.each j (omega (arith, k, q))

  pub exchange_done : {b new : List ℕ} {i : ℕ} → Exchanges ws b items count new i → count ≤ i → Exchanged ws items count new
  exchange_done {b} {new} {i} X l = let e : i ≡ count = omega (arith, l, X.turn) in rw e at X.done

-- ---- the words of the node
-- a node with children has no number of its own
pub no_numbers : (t : Tag) (cs : List ℕ) → Formed t cs → 0 < length cs → (data_of t).numbers ≡ []
unfolding body_count child_words_in
no_numbers (members positive) cs F l = refl
no_numbers (members negative) cs F l = refl
no_numbers (bound positive) cs F l = refl
no_numbers (bound negative) cs F l = refl
no_numbers (var v) cs F l = absurd (omega (arith, l, eqb-true (suc (length cs)) 1 F.counted))
no_numbers neg cs F l = refl
no_numbers (form (primitive c)) cs F l = absurd (omega (arith, l, eqb-true (suc (length cs)) 1 F.counted))
no_numbers (form list) cs F l = refl
no_numbers (form lambda) cs F l = refl
no_numbers (form (attrset fs d o)) cs F l = refl
no_numbers (form (named n)) cs F l = refl

child_exchanged : (c e : ℕ) → c < 2 ^ 12 → e ≡ with_child c e
unfolding with_child
child_exchanged c e l = omega arith

field_exchanged : (o : Bool) (n c e : ℕ) → n < 2 ^ 16 → c < 2 ^ 12 → field_word o n e ≡ with_child (field_word o n c) e
unfolding with_child field_word
field_exchanged o n c e k l = let z = (field_made layout.New o n c (record { few_names = k; few_nodes = l })).child_back in omega (arith, z)

words_exchanged : (fs : List Field) (cs es : List ℕ) → below (2 ^ 16) (field_names fs) ≡ true → below (2 ^ 12) cs ≡ true → length es ≡ length cs
    → (j : ℕ) → j < length cs → get_or (child_words fs es) j 0 ≡ with_child (get_or (child_words fs cs) j 0) (get_or es j 0)
unfolding child_words_in
words_exchanged [] cs es n e q j l = child_exchanged (get_or cs j 0) (get_or es j 0) (below_at (2 ^ 12) cs e j l)
words_exchanged (f ∷ fs) [] es n e q j l = absurd (omega arith)
words_exchanged (f ∷ fs) (c ∷ cs) [] n e q j l = absurd (omega arith)
words_exchanged (field o m ∷ fs) (c ∷ cs) (d ∷ es) n e q zero l = field_exchanged o m c d (below_cons (2 ^ 16) m (field_names fs) n).0 (below_cons (2 ^ 12) c cs e).0
words_exchanged (field o m ∷ fs) (c ∷ cs) (d ∷ es) n e q (suc j) l = words_exchanged fs cs es (below_cons (2 ^ 16) m (field_names fs) n).1 (below_cons (2 ^ 12) c cs e).1 (omega arith) j (omega arith)

module _ (t : Tag) (cs : List ℕ) (F : Formed t cs) {count : ℕ} (q : count ≡ length cs) (p : 0 < count) where
  body_is : (ds : List ℕ) → body (node t ds) ≡ child_words (data_of t).fields ds
  body_is ds = ap (λ (l : List ℕ). l ++ child_words (data_of t).fields ds) (no_numbers t cs F (omega arith))

  body_length : (ds : List ℕ) → length (body (node t ds)) ≡ length ds
  body_length ds = ap length (body_is ds) ∙ length_child_words (data_of t).fields ds

  head_kept : (es : List ℕ) → length es ≡ count → head_of (node t cs) ≡ head_of (node t es)
  unfolding head_of
  head_kept es l = ap (head_word (disc (kind t)) (data_of t).opened (data_of t).dynamic) (body_length cs ∙ sym (l ∙ q) ∙ sym (body_length es))

  -- they are those of the node with these children
  pub exchanged_encode : count ≤ 65 → {items new : List ℕ} → length (take count items) ≡ count → Exchanged (encode (node t cs)) items count new → take (count + 1) new ≡ encode (node t (take count items))
  unfolding encode_in
  exchanged_encode few {items} {new} l X = ap (λ (i : ℕ). take i new) (add-one count) ∙ ext_get_or 0 (take (suc count) new) (encode (node t es)) (omega (arith, long, l, body_length es)) each
    where
      es : List ℕ
      es = take count items

      long : length (take (suc count) new) ≡ suc count
      long = length-take-le (suc count) new (omega (arith, few, X.size))

      each : (j : ℕ) → j < length (take (suc count) new) → get_or (take (suc count) new) j 0 ≡ get_or (encode (node t es)) j 0
      each zero h = get_or-take (suc count) new 0 0 (omega arith) ∙ X.head ∙ head_kept es l
      each (suc j) h =
          let k : j < count = omega (arith, h, long) in
          get_or-take (suc count) new (suc j) 0 (omega arith)
          ∙ ap (λ (i : ℕ). get_or new i 0) (sym (add-one j))
          ∙ X.each j k
          ∙ ap (λ (i : ℕ). with_child (get_or (encode (node t cs)) i 0) (get_or items j 0)) (add-one j)
          ∙ ap₂ (λ (b : List ℕ) (x : ℕ). with_child (get_or b j 0) x) (body_is cs) (sym (get_or-take count items j 0 k))
          ∙ sym (words_exchanged (data_of t).fields cs es F.few_names F.few_nodes (l ∙ q) j (omega arith))
          ∙ ap (λ (b : List ℕ). get_or b j 0) (sym (body_is es))
