-- What today's rules make of an old sheet: the same, or 4 at the first node with a name above 0.
use Prim.Native.Nat.{ℕ, suc, ◌+◌, ◌≤◌}
use mathlib.Core.Path.{◌≡◌, refl, sym, ap, ◌∙◌}
use mathlib.Core.Bool.{Bool, true, false, ◌&&◌}
use mathlib.Core.List.{List, [], ◌∷◌, ◌++◌, append_assoc, append-nil}
use native.Mathlib.Omega.{arith}
use lib.ListN.{length}
use lib.Seq.{take_all}
use borrow.Author.Tests.{le-leb}
use Rattle.words.specs.declared.Layout.TheVariants as layout
use Rattle.std.specs.Prelude.{Ok, Err}
use Rattle.types.specs.declared.refusal.Refusal.TheVariants as refusal
use Rattle.types.specs.Out.{Out, ◌>>=◌}
use Rattle.types.specs.Node.{Node, tag, names, encode_in, below}
use Rattle.types.specs.Arena.{Arena, sound}
use Rattle.types.specs.Memory.{flat_in, flat}
use Rattle.types.proofs.Tests.{true_false, and_true}
use Rattle.types.proofs.Sound.{sound_well, sound_tail}
use Rattle.names.specs.Table.{Name, table}
use Rattle.names.proofs.Rules.{good_rules, rules_good}
use Rattle.node_store.specs.Intern.{has_room}
use Rattle.sheet_reading.specs.Sheet.{Opening, opening, placed, added, node as next_node, nodes, Sheet, after_names, contents, ended, read_sheet_in, read_sheet}
use Rattle.sheet_writing.specs.Bytes.{words_bytes, opening_bytes, sheet_bytes_in}
use Rattle.sheet_writing.specs.Theorems.{GoodSheet}
use Rattle.sheet_writing.proofs.Numbers.{words_join}
use Rattle.sheet_writing.proofs.Naming.{names_back}
use Rattle.sheet_writing.proofs.Storing.{words_read, room_before, nodes_after}
use Rattle.sheet_writing.proofs.Reading.{opening_back, room}
use Rattle.sheet_writing.proofs.Accepting.{sheet_length}
use Rattle.sheet_converting.specs.Theorems.{first_name_only}
use Rattle.sheet_converting.proofs.Fields.{formed_old, node_same, decode_high}
use Rattle.sheet_converting.proofs.Converting.{front, in_old_parts}

-- a good old sheet is a good one of today's
pub good_today : {sh : Sheet} → GoodSheet layout.Old sh → GoodSheet layout.New sh
good_today {sh} G =
    let R = good_rules layout.Old sh.names G.table in
    record {
      table = rules_good layout.New sh.names (record { few = omega (arith, R.few); short = R.short; good = R.good; rises = R.rises });
      arena = G.arena;
      few_words = G.few_words;
      few_nodes = G.few_nodes;
      root = G.root;
      few_bytes = G.few_bytes;
    }

-- ---- no name above 0
pub flat_same : (a : Arena) → first_name_only a ≡ true → flat_in layout.Old a ≡ flat a
unfolding flat first_name_only
flat_same [] e = refl
flat_same (x ∷ s) e =
    let p = and_true (below 1 (names (tag x))) (first_name_only s) e in
    λ i. flat_same s p.1 i ++ node_same x p.0 i

-- ---- some name above 0
module _ (lw ls table : ℕ) (few : table ≤ 256) where
  node_four : (x : Node) (s : Arena) (rest : List ℕ) → sound table (x ∷ s) ≡ true → below 1 (names (tag x)) ≡ false → next_node layout.New lw ls table s (words_bytes (encode_in layout.Old x) ++ rest) ≡ Err refusal.OutOfRange
  unfolding next_node added
  node_four x s rest h n =
      let f = formed_old table (length s) x few (sound_well table x s h) in
      ap (λ (o : Out (List ℕ × List ℕ)). o >>= λ (v : List ℕ × List ℕ). added layout.New lw ls table v.0 s >>= λ (b : Arena). Ok (b, v.1)) (words_read layout.Old x f rest)
      ∙ ap (λ (o : Out Node). (o >>= placed lw ls s) >>= λ (b : Arena). Ok (b, rest)) (decode_high table (length s) x few f n)

  -- the nodes before it are read as they were
  abbrev Four : Node → Arena → ℕ → List ℕ → Type 0
  Four x s k rest = nodes layout.New lw ls table (length s + suc k) [] (words_bytes (flat_in layout.Old s) ++ (words_bytes (encode_in layout.Old x) ++ rest)) ≡ Err refusal.OutOfRange

  first_four : (x : Node) (s : Arena) (k : ℕ) (rest : List ℕ) → sound table (x ∷ s) ≡ true → has_room lw ls (x ∷ s) ≡ true → first_name_only s ≡ true → below 1 (names (tag x)) ≡ false → Four x s k rest
  unfolding nodes
  first_four x s k rest h r q n =
      let after = words_bytes (encode_in layout.Old x) ++ rest in
      ap (λ (ws : List ℕ). nodes layout.New lw ls table (length s + suc k) [] (words_bytes ws ++ after)) (flat_same s q)
      ∙ nodes_after lw ls table s (suc k) after (sound_tail table x s h) (room_before lw ls table x s h r)
      ∙ ap (λ (o : Out (Arena × List ℕ)). o >>= λ (v : Arena × List ℕ). nodes layout.New lw ls table k v.0 v.1) (node_four x s rest h n)

  first_of : (x : Node) (s : Arena) → first_name_only (x ∷ s) ≡ false → first_name_only s ≡ true → below 1 (names (tag x)) ≡ false
  unfolding first_name_only
  first_of x s e q = go (below 1 (names (tag x))) refl
    where
      go : (b : Bool) → below 1 (names (tag x)) ≡ b → b ≡ false
      go false p = refl
      go true p = sym (λ i. p i && q i) ∙ e

  nodes_four : (a : Arena) (k : ℕ) (rest : List ℕ) → sound table a ≡ true → has_room lw ls a ≡ true → first_name_only a ≡ false → nodes layout.New lw ls table (length a + k) [] (words_bytes (flat_in layout.Old a) ++ rest) ≡ Err refusal.OutOfRange
  unfolding flat_in first_name_only
  nodes_four [] k rest h r e = absurd (true_false e)
  nodes_four (x ∷ s) k rest h r e =
      let z : suc (length s) + k ≡ length s + suc k = omega arith in
      (λ i. nodes layout.New lw ls table (z i) [] (words_join (flat_in layout.Old s) (encode_in layout.Old x) i ++ rest))
      ∙ ap (nodes layout.New lw ls table (length s + suc k) []) (append_assoc (words_bytes (flat_in layout.Old s)) (words_bytes (encode_in layout.Old x)) rest)
      ∙ go (first_name_only s) refl (λ q. nodes_four s (suc k) (words_bytes (encode_in layout.Old x) ++ rest) (sound_tail table x s h) (room_before lw ls table x s h r) q)
    where
      go : (b : Bool) → first_name_only s ≡ b → (first_name_only s ≡ false → Four x s k rest) → Four x s k rest
      go false q earlier = earlier q
      go true q earlier = first_four x s k rest h r q (first_of x s e q)

-- ---- the whole sheet
module _ (sh : Sheet) (G : GoodSheet layout.Old sh) (e : first_name_only sh.arena ≡ false) where
  counts : Opening
  counts = record { names = length sh.names; nodes = length sh.arena; root = sh.root }

  contents_four : contents layout.New counts (table sh.names ++ words_bytes (flat_in layout.Old sh.arena)) ≡ Err refusal.OutOfRange
  unfolding contents after_names counts ◌>>=◌
  contents_four =
      let R = good_rules layout.Old sh.names G.table in
      let ws = words_bytes (flat_in layout.Old sh.arena) in
      let z : length sh.arena ≡ length sh.arena + 0 = omega arith in
      rw (contents, le-leb (length sh.names) 4096 (omega (arith, R.few)))
      (ap (λ (o : Out (List Name × List ℕ)). o >>= after_names layout.New counts) (names_back sh.names ws R.good R.rises)
      ∙ ap (λ (o : Out (Arena × List ℕ)). o >>= λ (a : Arena × List ℕ). Ok (record { names = sh.names; arena = a.0; root = sh.root }, a.1))
      ((λ i. nodes layout.New 16384 4096 (length sh.names) (z i) [] (sym (append-nil ws) i))
      ∙ nodes_four 16384 4096 (length sh.names) R.few sh.arena 0 [] G.arena (room sh (good_today G)) e))

  pub read_four : read_sheet (sheet_bytes_in layout.Old sh) ≡ Err refusal.OutOfRange
  unfolding read_sheet_in front counts ◌>>=◌
  read_four =
      let R = good_rules layout.Old sh.names G.table in
      let size = length (sheet_bytes_in layout.Old sh) in
      let opened = opening_bytes (length sh.names) (length sh.arena) sh.root in
      let ws = words_bytes (flat_in layout.Old sh.arena) in
      ap (λ (l : List ℕ). opening l >>= λ (o : Opening × List ℕ). contents layout.New o.0 o.1 >>= ended size)
      (take_all 65536 (sheet_bytes_in layout.Old sh) (omega (arith, G.few_bytes, sheet_length layout.Old sh))
      ∙ in_old_parts sh
      ∙ append_assoc opened (table sh.names) ws)
      ∙ ap (λ (q : Out (Opening × List ℕ)). q >>= λ (o : Opening × List ℕ). contents layout.New o.0 o.1 >>= ended size)
      (opening_back (length sh.names) (length sh.arena) sh.root (table sh.names ++ ws) (omega (arith, R.few)) (omega (arith, G.few_nodes)) (omega (arith, G.few_nodes, G.root)))
      ∙ ap (λ (q : Out (Sheet × List ℕ)). q >>= ended size) contents_four
