-- The nodes of a sound arena, read from the bytes of their words.
use Prim.Native.Nat.{ℕ, suc, ◌+◌, ◌*◌, ◌^◌, ◌≤◌}
use mathlib.Core.Path.{◌≡◌, refl, sym, ap, ◌∙◌}
use mathlib.Core.Bool.{true}
use mathlib.Core.List.{List, [], ◌∷◌, ◌++◌, append_assoc, append-nil}
use mathlib.Core.Option.{Option, none, some}
use native.Mathlib.Omega.{arith}
use lib.ListN.{length, take, length-append}
use lib.Seq.{take_at, drop_at}
use lib.Dec.{leb}
use borrow.Author.Tests.{lt-ltb, le-leb, leb-true}
use Rattle.words.specs.declared.Layout.{Layout}
use Rattle.words.specs.declared.Layout.TheVariants as layout
use Rattle.words.specs.Words.{head_count, HeadFits, name_bits}
use Rattle.words.proofs.Words.{head_made, field_made}
use Rattle.std.specs.Prelude.{Ok}
use Rattle.types.specs.Out.{Out, ◌>>=◌}
use Rattle.types.specs.Kind.{disc}
use Rattle.types.specs.Node.{Field, field, primitive, list, lambda, attrset, named, Tag, members, bound, var, neg, form, Node, node, kind, data_of, field_names, child_words_in, body_in, body, head_of, encode, encode_in, below, formed_in}
use Rattle.types.specs.Fault.{head_fits, fits_in}
use Rattle.types.specs.Arena.{Arena, find, absent, sound}
use Rattle.types.specs.Memory.{flat}
use Rattle.types.proofs.Tests.{true_false, and_true, both}
use Rattle.types.proofs.Lists.{below_cons, below_more}
use Rattle.types.proofs.KindNumbers.{disc_small}
use Rattle.types.proofs.Nodes.{formed_parts_in, few_words, length_encode_in, encode_count_in}
use Rattle.types.proofs.Decodes.{well_parts, decode_ok}
use Rattle.types.proofs.Faults.{fits_encode_in}
use Rattle.types.proofs.Sound.{sound_well, sound_fresh, sound_tail}
use Rattle.node_store.specs.Intern.{has_room}
use Rattle.sheet_reading.specs.Sheet.{value, words, measured, node_words, placed, added, node as next_node, nodes}
use Rattle.sheet_reading.proofs.Measuring.{measured_good, words_whole}
use Rattle.sheet_writing.specs.Bytes.{number_bytes, words_bytes}
use Rattle.sheet_writing.proofs.Numbers.{below_join, length_number, number_back, length_words, words_join, words_back}

-- ---- the words of a formed node have 32 bits
limit_small : (t : Tag) → (data_of t).limit ≤ 2 ^ 32
limit_small (members k) = omega arith
limit_small (bound k) = omega arith
limit_small (var v) = omega arith
limit_small neg = omega arith
limit_small (form (primitive c)) = omega arith
limit_small (form list) = omega arith
limit_small (form lambda) = omega arith
limit_small (form (attrset fs d o)) = omega arith
limit_small (form (named n)) = omega arith

children_small : (l : Layout) (fs : List Field) (cs : List ℕ) → below (2 ^ name_bits l) (field_names fs) ≡ true → below (2 ^ 12) cs ≡ true → below (2 ^ 32) (child_words_in l fs cs) ≡ true
unfolding child_words_in below
children_small l [] cs n e = below_more (2 ^ 12) (2 ^ 32) cs (omega arith) e
children_small l (f ∷ fs) [] n e = refl
children_small l (field o m ∷ fs) (c ∷ cs) n e =
    let p = below_cons (2 ^ 12) c cs e in
    let q = below_cons (2 ^ name_bits l) m (field_names fs) n in
    both (lt-ltb _ _ (field_made l o m c (record { few_names = q.0; few_nodes = p.0 })).small) (children_small l fs cs q.1 p.1)

encode_small : (l : Layout) (x : Node) → formed_in l x ≡ true → below (2 ^ 32) (encode_in l x) ≡ true
unfolding encode_in head_of below
encode_small l (node t cs) e =
    let F = formed_parts_in l t cs e in
    let n = length (body (node t cs)) in
    let k : HeadFits (disc (kind t)) n = record { few_kinds = omega (arith, disc_small (kind t)); few_words = omega (arith, few_words (kind t) (data_of t).dynamic n F.counted) } in
    both (lt-ltb _ _ (head_made (disc (kind t)) (data_of t).opened (data_of t).dynamic n k).small)
    (below_join (2 ^ 32) (data_of t).numbers (child_words_in l (data_of t).fields cs)
    (below_more (data_of t).limit (2 ^ 32) (data_of t).numbers (limit_small t) F.own)
    (children_small l (data_of t).fields cs F.few_names F.few_nodes))

-- ---- one node
module _ (l : Layout) (x : Node) (e : formed_in l x ≡ true) (rest : List ℕ) where
  long : length (words_bytes (encode_in l x) ++ rest) ≡ 4 * length (encode_in l x) + length rest
  long = length-append (words_bytes (encode_in l x)) rest ∙ omega (arith, length_words (encode_in l x))

  head_back : value (take 4 (words_bytes (encode_in l x) ++ rest)) ≡ head_of x
  unfolding encode_in words_bytes
  head_back =
      ap (λ (u : List ℕ). value (take 4 u)) (append_assoc (number_bytes 4 (head_of x)) (words_bytes (body_in l x)) rest)
      ∙ ap value (take_at (number_bytes 4 (head_of x)) (words_bytes (body_in l x) ++ rest) 4 (length_number 4 (head_of x)))
      ∙ number_back 4 (head_of x) (below_cons (2 ^ 32) (head_of x) (body_in l x) (encode_small l x e)).0

  head_good : head_fits (head_of x) ≡ true
  unfolding fits_in encode_in
  head_good = (and_true (head_fits (head_of x)) _ (fits_encode_in l x e)).0

  measured_back : measured (words_bytes (encode_in l x) ++ rest) ≡ Ok (length (encode_in l x))
  measured_back =
      measured_good (words_bytes (encode_in l x) ++ rest) (omega (arith, long, length_encode_in l x)) (ap head_fits head_back ∙ head_good)
      ∙ ap (λ (h : ℕ). Ok (suc (head_count h))) head_back
      ∙ ap (λ (n : ℕ). Ok (suc n)) (encode_count_in l x e) ∙ ap Ok (sym (length_encode_in l x))

  pub words_read : node_words (words_bytes (encode_in l x) ++ rest) ≡ Ok (encode_in l x, rest)
  words_read =
      let n = length (encode_in l x) in
      words_whole (words_bytes (encode_in l x) ++ rest) measured_back (omega (arith, long))
      ∙ (λ i. Ok (words n (take_at (words_bytes (encode_in l x)) rest (4 * n) (length_words (encode_in l x)) i), drop_at (words_bytes (encode_in l x)) rest (4 * n) (length_words (encode_in l x)) i))
      ∙ ap (λ (u : List ℕ). Ok (u, rest)) (words_back (encode_in l x) (encode_small l x e))

-- ---- nodes put behind the others
pub none_found : (o : Option ℕ) → absent o ≡ true → o ≡ none
none_found none e = refl
none_found (some n) e = absurd (true_false (sym e))

module _ (lw ls table : ℕ) where
  module _ (x : Node) (s : Arena) (h : sound table (x ∷ s) ≡ true) (r : has_room lw ls (x ∷ s) ≡ true) where
    added_back : added layout.New lw ls table (encode x) s ≡ Ok (x ∷ s)
    unfolding added placed
    added_back =
        ap (λ (o : Out Node). o >>= placed lw ls s) (decode_ok table (length s) (encode x) x (record { words = refl; good = sound_well table x s h }))
        ∙ rw (placed, none_found (find x s) (sound_fresh table x s h), r)

    node_back : (rest : List ℕ) → next_node layout.New lw ls table s (words_bytes (encode x) ++ rest) ≡ Ok (x ∷ s, rest)
    unfolding next_node
    node_back rest =
        ap (λ (o : Out (List ℕ × List ℕ)). o >>= λ (v : List ℕ × List ℕ). added layout.New lw ls table v.0 s >>= λ (b : Arena). Ok (b, v.1))
        (words_read layout.New x (well_parts table (length s) x (sound_well table x s h)).formed_so rest)
        ∙ ap (λ (o : Out Arena). o >>= λ (b : Arena). Ok (b, rest)) added_back

    pub room_before : has_room lw ls s ≡ true
    unfolding has_room flat
    room_before =
        let p = and_true (leb (length (flat (x ∷ s))) lw) (leb (length (x ∷ s)) ls) r in
        both
        (le-leb (length (flat s)) lw (omega (arith, leb-true (length (flat (x ∷ s))) lw p.0, length-append (flat s) (encode x))))
        (le-leb (length s) ls (omega (arith, leb-true (length (x ∷ s)) ls p.1)))

  pub nodes_after : (a : Arena) (k : ℕ) (rest : List ℕ) → sound table a ≡ true → has_room lw ls a ≡ true → nodes layout.New lw ls table (length a + k) [] (words_bytes (flat a) ++ rest) ≡ nodes layout.New lw ls table k a rest
  unfolding nodes flat words_bytes
  nodes_after [] k rest h r = let z : 0 + k ≡ k = omega arith in ap (λ (n : ℕ). nodes layout.New lw ls table n [] rest) z
  nodes_after (x ∷ s) k rest h r =
      let z : suc (length s) + k ≡ length s + suc k = omega arith in
      (λ i. nodes layout.New lw ls table (z i) [] (words_join (flat s) (encode x) i ++ rest))
      ∙ ap (nodes layout.New lw ls table (length s + suc k) []) (append_assoc (words_bytes (flat s)) (words_bytes (encode x)) rest)
      ∙ nodes_after s (suc k) (words_bytes (encode x) ++ rest) (sound_tail table x s h) (room_before x s h r)
      ∙ ap (λ (o : Out (Arena × List ℕ)). o >>= λ (v : Arena × List ℕ). nodes layout.New lw ls table k v.0 v.1) (node_back x s h r rest)

  pub nodes_back : (a : Arena) → sound table a ≡ true → has_room lw ls a ≡ true → nodes layout.New lw ls table (length a) [] (words_bytes (flat a)) ≡ Ok (a, [])
  unfolding nodes
  nodes_back a h r =
      let z : length a ≡ length a + 0 = omega arith in
      (λ i. nodes layout.New lw ls table (z i) [] (sym (append-nil (words_bytes (flat a))) i)) ∙ nodes_after a 0 [] h r
