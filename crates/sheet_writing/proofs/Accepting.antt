-- An input that is accepted consists of the bytes of the sheet that is read, and that sheet is a good one.
use Prim.Native.Nat.{ℕ, zero, suc, ◌+◌, ◌*◌, ◌<◌, ◌≤◌}
use mathlib.Core.Path.{◌≡◌, refl, sym, ap, ap₂, ◌∙◌, subst}
use mathlib.Core.Bool.{Bool, true, false, ◌&&◌}
use mathlib.Core.List.{List, [], ◌∷◌, ◌++◌, append_assoc, append-nil}
use mathlib.Core.Option.{Option, none, some}
use native.Mathlib.Omega.{arith}
use lib.ListN.{length, take, drop, length-append, length-drop, take-append-drop}
use lib.Seq.{length-take-le, take_all, take-add}
use lib.Dec.{eqb, leb, ltb}
use borrow.Author.Tests.{leb-true, ltb-true, eqb-true}
use Rattle.words.specs.declared.Layout.{Layout}
use Rattle.words.specs.declared.Layout.TheVariants as layout
use Rattle.std.specs.Prelude.{Ok, Err}
use Rattle.types.specs.declared.refusal.Refusal.{Refusal}
use Rattle.types.specs.declared.refusal.Refusal.TheVariants as refusal
use Rattle.types.specs.Out.{Out, ◌>>=◌}
use Rattle.types.specs.Node.{Node, encode_in, encode, below, decode_in}
use Rattle.types.specs.Arena.{Arena, find, absent, sound}
use Rattle.types.specs.Memory.{flat_in, flat}
use Rattle.types.proofs.Tests.{and_true}
use Rattle.types.proofs.Nodes.{nil, length_encode_in, length_encode}
use Rattle.types.proofs.Decodes.{ok_decode_in, well_today}
use Rattle.types.proofs.Sound.{sound_more}
use Rattle.names.specs.Table.{Name, table, rising, all_good, most_names, good_names_in}
use Rattle.names.proofs.Rules.{rules_good}
use Rattle.node_store.specs.Intern.{has_room}
use Rattle.sheet_reading.specs.Sheet.{several, value, Opening, opening, names, node_words, placed, added, node, nodes, Sheet, after_names, contents, ended, read_sheet_in}
use Rattle.sheet_reading.proofs.Readers.{same_value, never_refused}
use Rattle.sheet_reading.proofs.Naming.{NamesAre, names_are}
use Rattle.sheet_reading.proofs.Measuring.{words_are}
use Rattle.sheet_writing.specs.Bytes.{number_bytes, words_bytes, opening_bytes, sheet_bytes_in, sheet_bytes}
use Rattle.sheet_writing.specs.Theorems.{GoodSheet, WrittenAs}
use Rattle.sheet_writing.proofs.Numbers.{below_parts, below_take, below_drop, bytes_back, length_words, words_join, words_again}

-- ---- an answer that is a value came through every step and every test
pub record Steps {A B : Type 0} (o : Out A) (f : A → Out B) (v : B) : Type 0 where
  pub first : A
  pub is : o ≡ Ok first
  pub next : f first ≡ Ok v

pub steps : {A B : Type 0} (o : Out A) (f : A → Out B) (v : B) → (o >>= f) ≡ Ok v → Steps o f v
unfolding ◌>>=◌
steps (Ok a) f v e = record { first = a; is = refl; next = e }
steps (Err n) f v e = absurd (never_refused e refl)

pub passed : {A : Type 0} (n : Refusal) (t : Bool) (o : Out A) (v : A) → elim t as (λ _. Out A) [ false ↦ Err n | true ↦ o ] ≡ Ok v → (t ≡ true) × (o ≡ Ok v)
passed n true o v e = (refl, e)
passed n false o v e = absurd (never_refused e refl)

-- ---- the opening
several_is : (k : ℕ) (bs : List ℕ) (v : List ℕ × List ℕ) → several k bs ≡ Ok v → (k ≤ length bs) × (◌≡◌ {A = List ℕ × List ℕ} (take k bs, drop k bs) v)
unfolding several
several_is k bs v e = let p = passed refusal.MalformedSheet (leb k (length bs)) (Ok (take k bs, drop k bs)) v e in (leb-true k (length bs) p.0, same_value p.1)

opening_value : (bs : List ℕ) → below 256 bs ≡ true → length bs ≡ 6 → opening_bytes (value (take 2 bs)) (value (take 2 (drop 2 bs))) (value (take 2 (drop 4 bs))) ≡ bs
unfolding opening_bytes
opening_value bs e l =
    ap₂ ◌++◌ (ap₂ ◌++◌ (two 0 (omega arith)) (two 2 (omega arith))) (two 4 (omega arith))
    ∙ ap (λ (u : List ℕ). u ++ take 2 (drop 4 bs)) (sym (take-add 2 2 bs)) ∙ sym (take-add 4 2 bs) ∙ take_all 6 bs (omega arith)
  where
    two : (i : ℕ) → i + 2 ≤ 6 → number_bytes 2 (value (take 2 (drop i bs))) ≡ take 2 (drop i bs)
    two i h =
        let k : length (take 2 (drop i bs)) ≡ 2 = length-take-le 2 (drop i bs) (omega (arith, length-drop i bs, l, h)) in
        ap (λ (j : ℕ). number_bytes j (value (take 2 (drop i bs)))) (sym k) ∙ bytes_back (take 2 (drop i bs)) (below_take 256 2 (drop i bs) (below_drop 256 i bs e))

opening_is : (bs : List ℕ) (v : Opening × List ℕ) → below 256 bs ≡ true → opening bs ≡ Ok v → bs ≡ opening_bytes v.0.names v.0.nodes v.0.root ++ v.1
unfolding opening
opening_is bs v e p =
    let S = steps (several 6 bs) (λ (r : List ℕ × List ℕ). Ok (read r.0, r.1)) v p in
    let q = several_is 6 bs S.first S.is in
    subst (λ (x : Opening × List ℕ). bs ≡ opening_bytes x.0.names x.0.nodes x.0.root ++ x.1) ((λ i. (read (q.1 i).0, (q.1 i).1)) ∙ same_value S.next)
    (sym (take-append-drop 6 bs) ∙ ap (λ (l : List ℕ). l ++ drop 6 bs) (sym (opening_value (take 6 bs) (below_take 256 6 bs e) (length-take-le 6 bs q.0))))
  where
    read : List ℕ → Opening
    read r = record { names = value (take 2 r); nodes = value (take 2 (drop 2 r)); root = value (take 2 (drop 4 r)) }

-- ---- one node
record Adds (l : Layout) (lw ls table : ℕ) (ws : List ℕ) (a b : Arena) : Type 0 where
  pub new : Node
  pub words : ws ≡ encode_in l new
  pub is : b ≡ new ∷ a
  pub good : sound table b ≡ true
  pub room : has_room lw ls b ≡ true

-- k nodes more
record NodesAre (l : Layout) (lw ls table k : ℕ) (a : Arena) (bs : List ℕ) (v : Arena × List ℕ) : Type 0 where
  pub front : words_bytes (flat_in l a) ++ bs ≡ words_bytes (flat_in l v.0) ++ v.1
  pub rest : below 256 v.1 ≡ true
  pub count : length v.0 ≡ length a + k
  pub good : sound table v.0 ≡ true
  pub room : has_room lw ls v.0 ≡ true

module _ (l : Layout) (lw ls table : ℕ) where
  adds : (ws : List ℕ) (a b : Arena) → sound table a ≡ true → added l lw ls table ws a ≡ Ok b → Adds l lw ls table ws a b
  unfolding added placed
  adds ws a b h e = go (find x a) refl S.next
    where
      S : Steps (decode_in l table (length a) ws) (placed lw ls a) b
      S = steps (decode_in l table (length a) ws) (placed lw ls a) b e

      x : Node
      x = S.first

      go : (o : Option ℕ) → find x a ≡ o → elim o as (λ _. Out Arena) [ some n ↦ Err refusal.MalformedSheet | none ↦ elim (has_room lw ls (x ∷ a)) as (λ _. Out Arena) [ false ↦ Err refusal.NoRoom | true ↦ Ok (x ∷ a) ] ] ≡ Ok b → Adds l lw ls table ws a b
      go (some n) f q = absurd (never_refused q refl)
      go none f q =
          let p = passed refusal.NoRoom (has_room lw ls (x ∷ a)) (Ok (x ∷ a)) b q in
          let N = ok_decode_in l table (length a) ws x S.is in
          let i : x ∷ a ≡ b = same_value p.1 in
          record {
            new = x;
            words = N.words;
            is = sym i;
            good = subst (λ (c : Arena). sound table c ≡ true) i (sound_more table x a (well_today l table (length a) x N.good) (ap absent f) h);
            room = subst (λ (c : Arena). has_room lw ls c ≡ true) i p.0;
          }

  node_is : (a : Arena) (bs : List ℕ) (v : Arena × List ℕ) → below 256 bs ≡ true → sound table a ≡ true → node l lw ls table a bs ≡ Ok v → NodesAre l lw ls table 1 a bs v
  unfolding node flat_in
  node_is a bs v e h p =
      let S = steps (node_words bs) (λ (r : List ℕ × List ℕ). added l lw ls table r.0 a >>= λ (b : Arena). Ok (b, r.1)) v p in
      let ws = S.first.0 in
      let u = S.first.1 in
      let T = steps (added l lw ls table ws a) (λ (b : Arena). Ok (b, u)) v S.next in
      let W = words_are bs S.first S.is in
      let A = adds ws a T.first h T.is in
      let k = 4 * W.count in
      let q : words_bytes ws ≡ take k bs = ap words_bytes W.is ∙ words_again W.count (take k bs) (length-take-le k bs W.long) (below_take 256 k bs e) in
      subst (NodesAre l lw ls table 1 a bs) (same_value T.next) (record {
        front =
            ap (λ (y : List ℕ). words_bytes (flat_in l a) ++ y) (sym (take-append-drop k bs) ∙ (λ i. sym q i ++ sym W.rest i))
            ∙ sym (append_assoc (words_bytes (flat_in l a)) (words_bytes ws) u)
            ∙ ap (λ (y : List ℕ). y ++ u) (sym (words_join (flat_in l a) ws) ∙ ap (λ (y : List ℕ). words_bytes (flat_in l a ++ y)) A.words ∙ ap (λ (b : Arena). words_bytes (flat_in l b)) (sym A.is));
        rest = rw W.rest (below_drop 256 k bs e);
        count = ap length A.is ∙ omega arith;
        good = A.good;
        room = A.room;
      })

  nodes_are : (k : ℕ) (a : Arena) (bs : List ℕ) (v : Arena × List ℕ) → below 256 bs ≡ true → sound table a ≡ true → has_room lw ls a ≡ true → nodes l lw ls table k a bs ≡ Ok v → NodesAre l lw ls table k a bs v
  unfolding nodes
  nodes_are zero a bs v e h r p = subst (NodesAre l lw ls table 0 a bs) (same_value p) (record { front = refl; rest = e; count = omega arith; good = h; room = r })
  nodes_are (suc k) a bs v e h r p =
      let S = steps (node l lw ls table a bs) (λ (x : Arena × List ℕ). nodes l lw ls table k x.0 x.1) v p in
      let N = node_is a bs S.first e h S.is in
      let M = nodes_are k S.first.0 S.first.1 v N.rest N.good N.room S.next in
      record { front = N.front ∙ M.front; rest = M.rest; count = omega (arith, N.count, M.count); good = M.good; room = M.room }

-- ---- names and nodes
record ContentsAre (l : Layout) (o : Opening) (bs : List ℕ) (v : Sheet × List ℕ) : Type 0 where
  pub front : bs ≡ table v.0.names ++ words_bytes (flat_in l v.0.arena) ++ v.1
  pub names_count : o.names ≡ length v.0.names
  pub nodes_count : o.nodes ≡ length v.0.arena
  pub root : o.root ≡ v.0.root
  pub good : good_names_in l v.0.names ≡ true
  pub sound_so : sound (length v.0.names) v.0.arena ≡ true
  pub room : has_room 16384 4096 v.0.arena ≡ true

contents_from : (l : Layout) (o : Opening) (bs : List ℕ) (ns : List Name) (u : List ℕ) (a : Arena) (rest : List ℕ) → o.names ≤ most_names l → length bs ≤ 65536 → NamesAre o.names [] bs (ns, u)
    → NodesAre l 16384 4096 o.names o.nodes [] u (a, rest) → ContentsAre l o bs (record { names = ns; arena = a; root = o.root }, rest)
unfolding table words_bytes flat_in
contents_from l o bs ns u a rest few short M A =
    let count : o.names ≡ length ns = omega (arith, M.count) in
    record {
      front = M.front ∙ ap (λ (y : List ℕ). table ns ++ y) A.front ∙ sym (append_assoc (table ns) (words_bytes (flat_in l a)) rest);
      names_count = count;
      nodes_count = omega (arith, A.count);
      root = refl;
      good = rules_good l ns (record { few = omega (arith, few, count); short = omega (arith, short, ap length M.front, length-append (table ns) u); good = M.good; rises = M.rises });
      sound_so = subst (λ (n : ℕ). sound n a ≡ true) count A.good;
      room = A.room;
    }

contents_are : (l : Layout) (o : Opening) (bs : List ℕ) (v : Sheet × List ℕ) → below 256 bs ≡ true → length bs ≤ 65536 → contents l o bs ≡ Ok v → ContentsAre l o bs v
unfolding contents after_names table has_room sound all_good rising
contents_are l o bs v e short p =
    let few = passed refusal.BadTable (leb o.names (most_names l)) (names o.names [] bs >>= after_names l o) v p in
    let N = steps (names o.names [] bs) (after_names l o) v few.1 in
    let ns = N.first.0 in
    let u = N.first.1 in
    let M = names_are o.names [] bs N.first refl refl N.is in
    let D = steps (nodes l 16384 4096 o.names o.nodes [] u) (λ (a : Arena × List ℕ). Ok (record { names = ns; arena = a.0; root = o.root }, a.1)) v N.next in
    let A = nodes_are l 16384 4096 o.names o.nodes [] u D.first (below_parts 256 (table ns) u (rw M.front at e)).1 refl refl D.is in
    subst (ContentsAre l o bs) (same_value D.next) (contents_from l o bs ns u D.first.0 D.first.1 (leb-true o.names (most_names l) few.0) short M A)

-- ---- the whole
-- a sheet has as many bytes in either layout
flat_length : (l : Layout) (a : Arena) → length (flat_in l a) ≡ length (flat a)
unfolding flat
flat_length l [] = refl
flat_length l (x ∷ s) =
    omega (
      arith,
      length-append (flat_in l s) (encode_in l x),
      length-append (flat_in layout.New s) (encode x),
      length_encode_in l x,
      length_encode x,
      flat_length l s,
    )

pub sheet_length : (l : Layout) (s : Sheet) → length (sheet_bytes_in l s) ≡ length (sheet_bytes s)
unfolding sheet_bytes
sheet_length l s =
    let front = opening_bytes (length s.names) (length s.arena) s.root ++ table s.names in
    omega (
      arith,
      length-append front (words_bytes (flat_in l s.arena)),
      length-append front (words_bytes (flat s.arena)),
      length_words (flat_in l s.arena),
      length_words (flat s.arena),
      flat_length l s.arena,
    )

same_bytes : (l : Layout) (o : Opening) (u : List ℕ) (s : Sheet) (rest : List ℕ) → ContentsAre l o u (s, rest) → length rest ≡ 0 → opening_bytes o.names o.nodes o.root ++ u ≡ sheet_bytes_in l s
unfolding sheet_bytes_in
same_bytes l o u s rest K z =
    let front = opening_bytes (length s.names) (length s.arena) s.root in
    let body = words_bytes (flat_in l s.arena) in
    (λ i. opening_bytes (K.names_count i) (K.nodes_count i) (K.root i) ++ K.front i)
    ∙ ap (λ (x : List ℕ). front ++ (table s.names ++ body ++ x)) (nil rest z)
    ∙ ap (λ (x : List ℕ). front ++ x) (append-nil (table s.names ++ body))
    ∙ sym (append_assoc front (table s.names) body)

good_sheet : (l : Layout) (o : Opening) (u : List ℕ) (s : Sheet) (rest : List ℕ) → ContentsAre l o u (s, rest) → s.root < length s.arena → length (sheet_bytes s) ≤ 65536 → GoodSheet l s
unfolding has_room
good_sheet l o u s rest K i h =
    let room = and_true (leb (length (flat s.arena)) 16384) (leb (length s.arena) 4096) K.room in
    record {
      table = K.good;
      arena = K.sound_so;
      few_words = leb-true (length (flat s.arena)) 16384 room.0;
      few_nodes = leb-true (length s.arena) 4096 room.1;
      root = i;
      few_bytes = h;
    }

pub accepted : (l : Layout) (input : List ℕ) (sh : Sheet) → below 256 input ≡ true → read_sheet_in l input ≡ Ok sh → WrittenAs l input sh
unfolding read_sheet_in ended
accepted l input sh e p =
    let O = steps (opening (take 65536 input)) (λ (o : Opening × List ℕ). contents l o.0 o.1 >>= ended (length input)) sh p in
    let o = O.first.0 in
    let u = O.first.1 in
    let C = steps (contents l o u) (ended (length input)) sh O.next in
    let s = C.first.0 in
    let rest = C.first.1 in
    let last = passed refusal.MalformedSheet (eqb (length rest) 0 && leb (length input) 65536) (elim (ltb s.root (length s.arena)) as (λ _. Out Sheet) [ false ↦ Err refusal.NoSuchRoot | true ↦ Ok s ]) sh C.next in
    let there = passed refusal.NoSuchRoot (ltb s.root (length s.arena)) (Ok s) sh last.1 in
    let none_left = and_true (eqb (length rest) 0) (leb (length input) 65536) last.0 in
    let few = leb-true (length input) 65536 none_left.1 in
    let all = take_all 65536 input few in
    let front : input ≡ opening_bytes o.names o.nodes o.root ++ u = sym all ∙ opening_is (take 65536 input) O.first (rw all e) O.is in
    let tail : length u ≤ 65536 = omega (arith, few, ap length front, length-append (opening_bytes o.names o.nodes o.root) u) in
    let K = contents_are l o u C.first (below_parts 256 (opening_bytes o.names o.nodes o.root) u (rw front at e)).1 tail C.is in
    let same : input ≡ sheet_bytes_in l s = front ∙ same_bytes l o u s rest K (eqb-true (length rest) 0 none_left.0) in
    let short : length (sheet_bytes s) ≤ 65536 = omega (arith, ap length same, few, sheet_length l s) in
    subst (WrittenAs l input) (same_value there.1) (record { bytes = same; good = good_sheet l o u s rest K (ltb-true s.root (length s.arena) there.0) short })
