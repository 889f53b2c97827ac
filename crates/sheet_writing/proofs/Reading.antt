-- A good sheet is read back from its bytes.
use Prim.Native.Nat.{ℕ, ◌<◌}
use mathlib.Core.Path.{◌≡◌, ap, ◌∙◌}
use mathlib.Core.Bool.{true}
use mathlib.Core.List.{List, [], ◌++◌, append_assoc}
use native.Mathlib.Omega.{arith}
use lib.ListN.{length, take, drop}
use lib.Seq.{take_all}
use borrow.Author.Tests.{le-leb, lt-ltb}
use Rattle.words.specs.declared.Layout.TheVariants as layout
use Rattle.std.specs.Prelude.{Ok}
use Rattle.types.specs.Out.{Out, ◌>>=◌}
use Rattle.types.specs.Arena.{Arena}
use Rattle.types.specs.Memory.{flat}
use Rattle.types.proofs.Tests.{both}
use Rattle.names.specs.Table.{Name, table}
use Rattle.names.proofs.Rules.{good_rules}
use Rattle.node_store.specs.Intern.{has_room}
use Rattle.sheet_reading.specs.Sheet.{value, Opening, opening, Sheet, after_names, contents, ended, read_sheet_in, read_sheet}
use Rattle.sheet_reading.proofs.Readers.{several_yes}
use Rattle.sheet_writing.specs.Bytes.{number_bytes, words_bytes, opening_bytes, sheet_bytes}
use Rattle.sheet_writing.specs.Theorems.{GoodSheet}
use Rattle.sheet_writing.proofs.Numbers.{number_back}
use Rattle.sheet_writing.proofs.Naming.{names_back}
use Rattle.sheet_writing.proofs.Storing.{nodes_back}

pub opening_back : (n k r : ℕ) (rest : List ℕ) → n < 65536 → k < 65536 → r < 65536 → opening (opening_bytes n k r ++ rest) ≡ Ok (record { names = n; nodes = k; root = r }, rest)
unfolding opening opening_bytes number_bytes ◌>>=◌
opening_back n k r rest p q s =
    ap (λ (o : Out (List ℕ × List ℕ)). o >>= λ (v : List ℕ × List ℕ). Ok (record { names = value (take 2 v.0); nodes = value (take 2 (drop 2 v.0)); root = value (take 2 (drop 4 v.0)) }, v.1))
    (several_yes 6 (opening_bytes n k r ++ rest) (omega arith))
    ∙ (λ i. Ok (record { names = number_back 2 n p i; nodes = number_back 2 k q i; root = number_back 2 r s i }, rest))

module _ (sh : Sheet) (G : GoodSheet layout.New sh) where
  abbrev counts : Opening
  counts = record { names = length sh.names; nodes = length sh.arena; root = sh.root }

  pub room : has_room 16384 4096 sh.arena ≡ true
  unfolding has_room
  room = both (le-leb _ _ G.few_words) (le-leb _ _ G.few_nodes)

  contents_back : contents layout.New counts (table sh.names ++ words_bytes (flat sh.arena)) ≡ Ok (sh, [])
  unfolding contents after_names
  contents_back =
      let R = good_rules layout.New sh.names G.table in
      rw (contents, le-leb (length sh.names) 4096 R.few)
      (ap (λ (o : Out (List Name × List ℕ)). o >>= after_names layout.New counts) (names_back sh.names (words_bytes (flat sh.arena)) R.good R.rises)
      ∙ ap (λ (o : Out (Arena × List ℕ)). o >>= λ (a : Arena × List ℕ). Ok (record { names = sh.names; arena = a.0; root = sh.root }, a.1))
      (nodes_back 16384 4096 (length sh.names) sh.arena G.arena room))

  ended_back : ended (length (sheet_bytes sh)) (sh, []) ≡ Ok sh
  unfolding ended
  ended_back = rw (ended, le-leb (length (sheet_bytes sh)) 65536 G.few_bytes, lt-ltb sh.root (length sh.arena) G.root)

  pub read_back : read_sheet (sheet_bytes sh) ≡ Ok sh
  unfolding read_sheet_in sheet_bytes
  read_back =
      let R = good_rules layout.New sh.names G.table in
      let size = length (sheet_bytes sh) in
      ap (λ (l : List ℕ). opening l >>= λ (o : Opening × List ℕ). contents layout.New o.0 o.1 >>= ended size)
      (take_all 65536 (sheet_bytes sh) G.few_bytes
      ∙ append_assoc (opening_bytes (length sh.names) (length sh.arena) sh.root) (table sh.names) (words_bytes (flat sh.arena)))
      ∙ ap (λ (q : Out (Opening × List ℕ)). q >>= λ (o : Opening × List ℕ). contents layout.New o.0 o.1 >>= ended size)
      (opening_back (length sh.names) (length sh.arena) sh.root (table sh.names ++ words_bytes (flat sh.arena)) (omega (arith, R.few)) (omega (arith, G.few_nodes)) (omega (arith, G.few_nodes, G.root)))
      ∙ ap (λ (q : Out (Sheet × List ℕ)). q >>= ended size) contents_back
      ∙ ended_back
