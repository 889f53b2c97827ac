-- The words of a value: the tests of its fields, as the program makes them, are `is_value`; and its words give a value that may stand there back.
use Prim.Native.Nat.{ℕ, ◌^◌, ◌≤◌, ◌<◌}
use mathlib.Core.Path.{◌≡◌, refl, sym, ap, ◌∙◌}
use mathlib.Core.Bool.{Bool, true, false, not, ◌&&◌}
use mathlib.Core.List.{List, [], ◌∷◌, map}
use native.Mathlib.Omega.{arith}
use native.Mathlib.Decide.{ℕ_discrete}
use lib.ListN.{length, take, length-map}
use lib.Seq.{take-length}
use lib.Dec.{eqb, ltb}
use borrow.Author.Tests.{ltb-true, ltb-false, eqb-true, lt-ltb, le-ltb, le-leb, eq-eqb, ne_eqb, not-true}
use Rattle.words.specs.Words.{head_word, head_kind, head_open, head_dynamic, head_zero, head_count, field_name, child}
use Rattle.words.specs.Theorems.{HeadMade}
use Rattle.words.specs.declared.Layout.TheVariants as layout
use Rattle.words.proofs.Words.{head_made, head_of_fields}
use Rattle.types.specs.Node.{field, field_of, field_names, child_words, child_words_in, below, rising}
use Rattle.types.proofs.Lists.{below_cons, below_more}
use Rattle.types.proofs.Nodes.{nil, cons, length_child_words, children_back_in, fields_back}
use Rattle.types.proofs.Tests.{true_false, and_true, both, same_truth, numbers_true, numbers_if}
use Rattle.fix_values.specs.Values.{Shape, plain, list, set, Value, value, kind, names, body, encode, matched, well, shape_of, guess, is_value}
use Rattle.fix_values.specs.Inner.{fields_good, body_good}
use Rattle.fix_values.proofs.Fields.{from, fields_read, fields_test}

-- ---- what `well` says, part by part
pub record Well (table values : ℕ) (s : Shape) (cs : List ℕ) : Type 0 where
  pub matches : matched s (length cs) ≡ true
  pub few : length cs < 2 ^ 16
  pub linked : below values cs ≡ true
  pub named : below table (names s) ≡ true
  pub rises : rising (names s) ≡ true

pub well_parts : (table values : ℕ) (s : Shape) (cs : List ℕ) → well table values (value s cs) ≡ true → Well table values s cs
unfolding well
well_parts table values s cs e =
    let (m, p) = and_true (matched s (length cs)) _ e in
    let (f, q) = and_true (ltb (length cs) (2 ^ 16)) _ p in
    let (l, t) = and_true (below values cs) _ q in
    let (n, r) = and_true (below table (names s)) _ t in
    record { matches = m; few = ltb-true (length cs) (2 ^ 16) f; linked = l; named = n; rises = r }

pub parts_well : (table values : ℕ) (s : Shape) (cs : List ℕ) → Well table values s cs → well table values (value s cs) ≡ true
unfolding well
parts_well table values s cs W = both W.matches (both (lt-ltb (length cs) (2 ^ 16) W.few) (both W.linked (both W.named W.rises)))

-- ---- the head of a value
small_kind : (table values : ℕ) (s : Shape) (cs : List ℕ) → Well table values s cs → kind s < 2 ^ 4
small_kind table values (plain k) cs W = omega (arith, ltb-true k 6 (and_true (ltb k 6) _ W.matches).0)
small_kind table values list cs W = omega arith
small_kind table values (set ns) cs W = omega arith

pub head_reads : (table values : ℕ) (s : Shape) (cs : List ℕ) → Well table values s cs → HeadMade (kind s) false false (length (body (value s cs)))
head_reads table values s cs W = head_made (kind s) false false _ (record { few_kinds = small_kind table values s cs W; few_words = omega (arith, W.few, length_child_words (map (field false) (names s)) cs) })

-- ---- the body of a value reads back
names_fields : (ns : List ℕ) → field_names (map (field false) ns) ≡ ns
names_fields [] = refl
names_fields (n ∷ ns) = cons refl (names_fields ns)

pub body_children : (table values : ℕ) → table ≤ 2 ^ 16 → values ≤ 2 ^ 12 → (s : Shape) (cs : List ℕ) → Well table values s cs → map child (body (value s cs)) ≡ cs
body_children table values t v s cs W =
    children_back_in layout.New (map (field false) (names s)) cs
    (ap (below (2 ^ 16)) (names_fields (names s)) ∙ below_more table (2 ^ 16) (names s) t W.named) (below_more values (2 ^ 12) cs v W.linked)

fields_named : (b ns : List ℕ) → map field_of b ≡ map (field false) ns → map field_name b ≡ ns
fields_named [] [] e = refl
fields_named [] (n ∷ ns) e = absurd (let z : ◌≡◌ {A = ℕ} 0 1 = cc in omega arith)
fields_named (w ∷ b) [] e = absurd (let z : ◌≡◌ {A = ℕ} 0 1 = cc in omega arith)
fields_named (w ∷ b) (n ∷ ns) e = cons (cc) (fields_named b ns (cc))

pub body_names : (table values : ℕ) → table ≤ 2 ^ 16 → values ≤ 2 ^ 12 → (ns cs : List ℕ) → Well table values (set ns) cs → map field_name (body (value (set ns) cs)) ≡ ns
body_names table values t v ns cs W =
    let fs = map (field false) ns in
    let m : length fs ≡ length cs = length-map ns (field false) ∙ eqb-true (length ns) (length cs) W.matches in
    let back = fields_back fs cs (ap (below (2 ^ 16)) (names_fields ns) ∙ below_more table (2 ^ 16) ns t W.named) (below_more values (2 ^ 12) cs v W.linked) (omega (arith, m)) in
    let all : take (length fs) (child_words fs cs) ≡ child_words fs cs = ap (λ (n : ℕ). take n (child_words fs cs)) (m ∙ sym (length_child_words fs cs)) ∙ take-length (child_words fs cs) in
    fields_named (child_words fs cs) ns (ap (map field_of) (sym all) ∙ back)

-- ---- the tests that the program makes, over a head and the words after it
unfoldable pub words_good : ℕ → ℕ → ℕ → List ℕ → Bool
words_good table values h b =
    ((eqb (head_zero h) 0 && (not (head_open h) && not (head_dynamic h))) && eqb (head_count h) (length b)) && body_good table values (head_kind h) b

-- what they say of the head
record Head (h : ℕ) (b : List ℕ) : Type 0 where
  pub zeros : head_zero h ≡ 0
  pub closed : head_open h ≡ false
  pub static : head_dynamic h ≡ false
  pub counted : head_count h ≡ length b

head_test : (h : ℕ) (b : List ℕ) → ((eqb (head_zero h) 0 && (not (head_open h) && not (head_dynamic h))) && eqb (head_count h) (length b)) ≡ true → Head h b
head_test h b e =
    let (p, n) = and_true (eqb (head_zero h) 0 && (not (head_open h) && not (head_dynamic h))) _ e in
    let (z, q) = and_true (eqb (head_zero h) 0) _ p in
    let (o, d) = and_true (not (head_open h)) _ q in
    record { zeros = eqb-true (head_zero h) 0 z; closed = not-true (head_open h) o; static = not-true (head_dynamic h) d; counted = eqb-true (head_count h) (length b) n }

test_head : (h : ℕ) (b : List ℕ) → Head h b → ((eqb (head_zero h) 0 && (not (head_open h) && not (head_dynamic h))) && eqb (head_count h) (length b)) ≡ true
test_head h b H = both (both (eq-eqb (head_zero h) 0 H.zeros) (both (ap not H.closed) (ap not H.static))) (eq-eqb (head_count h) (length b) H.counted)

-- under a head without fault its fields and the count of the words make it
head_made_of : (h : ℕ) (b : List ℕ) → Head h b → h ≡ head_word (head_kind h) false false (length b)
head_made_of h b H = sym (sym (λ i. head_word (head_kind h) (H.closed i) (H.static i) (H.counted i)) ∙ head_of_fields h H.zeros)

few_counted : (h : ℕ) (b : List ℕ) → Head h b → length b < 2 ^ 16
unfolding head_count
few_counted h b H = omega (arith, H.counted)

-- child words without fault are the children's numbers
children_same : (n : ℕ) (b : List ℕ) → n ≤ 2 ^ 12 → below n b ≡ true → map child b ≡ b
unfolding child below
children_same n [] l e = refl
children_same n (w ∷ b) l e = let (p, q) = below_cons n w b e in cons (omega arith) (children_same n b l q)

-- the test of a body, by what the tests of its kind come to
pub bodied_by : (table values k : ℕ) (b : List ℕ) {s t u : Bool} → eqb k 6 ≡ s → eqb k 7 ≡ t → ltb k 6 ≡ u
    → body_good table values k b ≡ elim s as (λ _. Bool) [ true ↦ below values b | false ↦ elim t as (λ _. Bool) [ true ↦ fields_good table values 0 b | false ↦ u && eqb (length b) 0 ] ]
unfolding body_good
bodied_by table values k b p q r =
    λ i. elim (p i) as (λ _. Bool) [ true ↦ below values b | false ↦ elim (q i) as (λ _. Bool) [ true ↦ fields_good table values 0 b | false ↦ r i && eqb (length b) 0 ] ]

-- the value whose shape and words are these, where they are right
record Valued (table values h : ℕ) (b : List ℕ) (s : Shape) : Type 0 where
  pub shaped : shape_of (head_kind h) b ≡ s
  pub kinded : head_kind h ≡ kind s
  pub good : Well table values s (map child b)
  pub bodied : b ≡ body (value s (map child b))

module _ (table values h : ℕ) (b : List ℕ) where
  guessed : {s : Shape} → shape_of (head_kind h) b ≡ s → guess (h ∷ b) ≡ value s (map child b)
  unfolding guess
  guessed e = ap (λ (s : Shape). value s (map child b)) e

  -- ---- from a shape to `is_value`
  valued_is : {s : Shape} → Head h b → Valued table values h b s → is_value table values (h ∷ b) ≡ true
  unfolding is_value encode
  valued_is {s} H X =
      let g = guessed X.shaped in
      let word : h ≡ head_word (kind s) false false (length (body (value s (map child b)))) = head_made_of h b H ∙ (λ i. head_word (X.kinded i) false false (length (X.bodied i))) in
      both (ap (well table values) g ∙ parts_well table values s (map child b) X.good) (numbers_if (h ∷ b) (encode (guess (h ∷ b))) (cons word X.bodied ∙ sym (ap encode g)))

  -- ---- and back
  is_valued : {s : Shape} → shape_of (head_kind h) b ≡ s → is_value table values (h ∷ b) ≡ true → Head h b × Valued table values h b s
  unfolding is_value encode
  is_valued {s} e t =
      let (w, q) = and_true (well table values (guess (h ∷ b))) _ t in
      let g = guessed e in
      let W = well_parts table values s (map child b) (sym (ap (well table values) g) ∙ w) in
      let words : Path (List ℕ) (h ∷ b) (encode (value s (map child b))) = numbers_true (h ∷ b) (encode (guess (h ∷ b))) q ∙ ap encode g in
      let first : h ≡ head_word (kind s) false false (length (body (value s (map child b)))) = cc in
      let rest : b ≡ body (value s (map child b)) = cc in
      let M = head_reads table values s (map child b) W in (
        record {
          zeros = ap head_zero first ∙ M.zero_back;
          closed = ap head_open first ∙ M.open_back;
          static = ap head_dynamic first ∙ M.dynamic_back;
          counted = ap head_count first ∙ M.count_back ∙ ap length (sym rest);
        },
        record { shaped = e; kinded = ap head_kind first ∙ M.kind_back; good = W; bodied = rest },
      )

  -- ---- kind by kind
  abbrev k : ℕ
  k = head_kind h

  shaped_by : {s t : Bool} → ltb k 6 ≡ s → eqb k 6 ≡ t
      → shape_of k b ≡ elim s as (λ _. Shape) [ true ↦ plain k | false ↦ elim t as (λ _. Shape) [ true ↦ list | false ↦ set (map field_name b) ] ]
  unfolding shape_of
  shaped_by p q = λ i. elim (p i) as (λ _. Shape) [ true ↦ plain k | false ↦ elim (q i) as (λ _. Shape) [ true ↦ list | false ↦ set (map field_name b) ] ]

  shape_plain : k < 6 → shape_of k b ≡ plain k
  shape_plain l = shaped_by (lt-ltb k 6 l) refl

  shape_list : k ≡ 6 → shape_of k b ≡ list
  shape_list e = shaped_by (le-ltb k 6 (omega (arith, e))) (eq-eqb k 6 e)

  shape_set : 6 < k → shape_of k b ≡ set (map field_name b)
  shape_set l = shaped_by (le-ltb k 6 (omega (arith, l))) (ne_eqb k 6 (λ e. omega (arith, e, l)))

  body_plain : k < 6 → body_good table values k b ≡ eqb (length b) 0
  body_plain l = bodied_by table values k b (ne_eqb k 6 (λ e. omega (arith, e, l))) (ne_eqb k 7 (λ e. omega (arith, e, l))) (lt-ltb k 6 l)

  body_list : k ≡ 6 → body_good table values k b ≡ below values b
  body_list e = bodied_by table values k b (eq-eqb k 6 e) refl refl

  body_set : k ≡ 7 → body_good table values k b ≡ fields_good table values 0 b
  body_set e = bodied_by table values k b (ne_eqb k 6 (λ q. omega (arith, e, q))) (eq-eqb k 7 e) refl

  body_none : 7 < k → body_good table values k b ≡ false
  body_none l = bodied_by table values k b (ne_eqb k 6 (λ e. omega (arith, e, l))) (ne_eqb k 7 (λ e. omega (arith, e, l))) (le-ltb k 6 (omega (arith, l)))

  module _ (few : values ≤ 4096) (known : below (2 ^ 32) b ≡ true) where
    -- a body without fault is that of a value
    body_valued : Head h b → body_good table values (head_kind h) b ≡ true → is_value table values (h ∷ b) ≡ true
    unfolding below rising child_words_in
    body_valued H e = go (ℕ_discrete (head_kind h) 6) (ℕ_discrete (head_kind h) 7)
      where
        as_list : head_kind h ≡ 6 → is_value table values (h ∷ b) ≡ true
        as_list q =
            let g : below values b ≡ true = sym (body_list q) ∙ e in
            let same = children_same values b few g in
            valued_is H (record {
              shaped = shape_list q;
              kinded = q;
              good = record { matches = refl; few = omega (arith, few_counted h b H, length-map b child); linked = ap (below values) same ∙ g; named = refl; rises = refl };
              bodied = sym same;
            })

        as_set : head_kind h ≡ 7 → is_value table values (h ∷ b) ≡ true
        as_set q =
            let F = (fields_read table values 0 b known (sym (body_set q) ∙ e)).0 in
            valued_is H (record {
              shaped = shape_set (omega (arith, q));
              kinded = q;
              good = record {
                matches = eq-eqb (length (map field_name b)) (length (map child b)) (length-map b field_name ∙ sym (length-map b child));
                few = omega (arith, few_counted h b H, length-map b child);
                linked = F.linked;
                named = F.named;
                rises = F.rises;
              };
              bodied = F.words;
            })

        as_plain : head_kind h < 6 → is_value table values (h ∷ b) ≡ true
        as_plain l =
            let z : b ≡ [] = nil b (eqb-true (length b) 0 (sym (body_plain l) ∙ e)) in
            let none : map child b ≡ [] = ap (map child) z in
            valued_is H (record {
              shaped = shape_plain l;
              kinded = refl;
              good = record {
                matches = both (lt-ltb (head_kind h) 6 l) (eq-eqb (length (map child b)) 0 (ap length none));
                few = omega (arith, ap length none);
                linked = ap (below values) none;
                named = refl;
                rises = refl;
              };
              bodied = z ∙ sym none;
            })

        go : Dec (head_kind h ≡ 6) → Dec (head_kind h ≡ 7) → is_value table values (h ∷ b) ≡ true
        go (yes q) s = as_list q
        go (no f) (yes q) = as_set q
        go (no f) (no g) = other (ltb (head_kind h) 6) refl
          where
            other : (t : Bool) → ltb (head_kind h) 6 ≡ t → is_value table values (h ∷ b) ≡ true
            other true l = as_plain (ltb-true (head_kind h) 6 l)
            other false l = absurd (true_false (sym e ∙ body_none (omega (arith, ltb-false (head_kind h) 6 l, f, g))))

    -- and a value has a body without fault
    valued_body : is_value table values (h ∷ b) ≡ true → body_good table values (head_kind h) b ≡ true
    unfolding child_words_in
    valued_body t = go (ℕ_discrete (head_kind h) 6) (ltb (head_kind h) 6) refl
      where
        as_list : head_kind h ≡ 6 → body_good table values (head_kind h) b ≡ true
        as_list q = let X = (is_valued (shape_list q) t).1 in body_list q ∙ ap (below values) X.bodied ∙ X.good.linked

        as_plain : head_kind h < 6 → body_good table values (head_kind h) b ≡ true
        as_plain l =
            let X = (is_valued (shape_plain l) t).1 in
            let n = eqb-true (length (map child b)) 0 (and_true (ltb (head_kind h) 6) _ X.good.matches).1 in
            body_plain l ∙ eq-eqb (length b) 0 (omega (arith, n, length-map b child))

        as_set : 6 < head_kind h → body_good table values (head_kind h) b ≡ true
        as_set l =
            let X = (is_valued (shape_set l) t).1 in
            body_set X.kinded ∙ fields_test table values 0 b (record { words = X.bodied; linked = X.good.linked; named = X.good.named; rises = X.good.rises }) (any b)
          where
            any : (ws : List ℕ) → from 0 ws ≡ true
            any [] = refl
            any (w ∷ ws) = le-leb 0 (field_name w) (omega arith)

        go : Dec (head_kind h ≡ 6) → (s : Bool) → ltb (head_kind h) 6 ≡ s → body_good table values (head_kind h) b ≡ true
        go (yes q) s l = as_list q
        go (no f) true l = as_plain (ltb-true (head_kind h) 6 l)
        go (no f) false l = as_set (omega (arith, ltb-false (head_kind h) 6 l, f))

    -- the tests are the definition
    pub words_value : words_good table values h b ≡ is_value table values (h ∷ b)
    unfolding words_good
    words_value = same_truth (words_good table values h b) (is_value table values (h ∷ b)) (λ e. let (p, q) = and_true ((eqb (head_zero h) 0 && (not (head_open h) && not (head_dynamic h))) && eqb (head_count h) (length b)) _ e in body_valued (head_test h b p) q) (λ t. both (test_head h b (is_valued refl t).0) (valued_body t))

-- ---- the words of a value that may stand there are its own
pub guess_encode : (table values : ℕ) → table ≤ 2 ^ 16 → values ≤ 2 ^ 12 → (s : Shape) (cs : List ℕ) → Well table values s cs → guess (encode (value s cs)) ≡ value s cs
unfolding guess encode shape_of
guess_encode table values t v s cs W =
    (λ i. value (shape_of ((head_reads table values s cs W).kind_back i) (body (value s cs))) (body_children table values t v s cs W i)) ∙ ap (λ (x : Shape). value x cs) (back s W)
  where
    back : (s : Shape) → Well table values s cs → shape_of (kind s) (body (value s cs)) ≡ s
    back (plain k) X = let e = (and_true (ltb k 6) _ X.matches).0 in λ i. elim (e i) as (λ _. Shape) [ true ↦ plain k | false ↦ elim (eqb k 6) as (λ _. Shape) [ true ↦ list | false ↦ set (map field_name (body (value (plain k) cs))) ] ]
    back list X = refl
    back (set ns) X = ap set (body_names table values t v ns cs X)

pub encode_value : (table values : ℕ) → table ≤ 2 ^ 16 → values ≤ 2 ^ 12 → (x : Value) → well table values x ≡ true → is_value table values (encode x) ≡ true
unfolding is_value
encode_value table values t v (value s cs) e =
    let g = guess_encode table values t v s cs (well_parts table values s cs e) in
    both (ap (well table values) g ∙ e) (numbers_if (encode (value s cs)) _ (sym (ap encode g)))
