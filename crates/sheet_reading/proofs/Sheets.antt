-- A sheet read whole: opening, names, nodes, and what may be wrong after the last node.
use Prim.Native.Nat.{ℕ, ◌+◌, ◌-◌, ◌<◌, ◌≤◌, min}
use mathlib.Core.Path.{◌≡◌, refl, sym, ap, ◌∙◌, subst}
use mathlib.Core.Bool.{Bool, true, false, ◌&&◌}
use mathlib.Core.List.{List, []}
use native.Mathlib.Omega.{arith}
use lib.ListN.{length, take, drop, replicate, length-append, length-take, length-drop}
use lib.Seq.{length-take-le, take_at}
use lib.Dec.{eqb, leb}
use borrow.Author.Tests.{le-leb, lt-leb, lt-ltb, le-ltb, eq-eqb, eqb-true}
use Rattle.words.specs.declared.Layout.{Layout}
use Rattle.words.specs.declared.Layout.TheVariants as layout
use Rattle.std.specs.Prelude.{Ok, Err}
use Rattle.types.specs.declared.refusal.Refusal.{Refusal}
use Rattle.types.specs.declared.refusal.Refusal.TheVariants as refusal
use Rattle.types.specs.Out.{Out, ◌>>=◌}
use Rattle.types.specs.Arena.{Arena, sound}
use Rattle.types.specs.Memory.{flat, heads, Holds}
use Rattle.types.specs.declared.Counters.{Counters}
use Rattle.types.proofs.Tests.{both}
use Rattle.names.specs.Table.{Name, table, rising, all_good, most_names, IsTable}
use Rattle.names.proofs.Rules.{rules_good}
use Rattle.sheet_reading.specs.Sheet.{value, Opening, opening, names, nodes, Sheet, after_names, contents, ended, read_sheet_in}
use Rattle.sheet_reading.specs.Inner.Steps.{ShortAt, ReadsNames, ReadyEmpty, StoresNodes}
use Rattle.sheet_reading.specs.Inner.Reading.{Blank, Says, sheet, refused, ReadsSheet, Readable, Opened, ReadsContents}
use Rattle.sheet_reading.specs.declared.Contents.{Contents}
use Rattle.sheet_reading.proofs.Readers.{several_yes, several_no, Got, got}
use Rattle.sheet_reading.proofs.Readers as readers
use Rattle.sheet_reading.proofs.Naming.{NamesAre, names_are}
use Rattle.sheet_reading.proofs.Storing.{Stored, stores_to, stores_stop}
use Rattle.sheet_reading.proofs.Cutting.{within}

says_refused : {input w s : List ℕ} {o : Out Sheet} {e : Refusal} → o ≡ Err e → Says input w s (Err e) o
says_refused {input} {w} {s} {e = e} p = subst (Says input w s (Err e)) (sym p) refused

-- blank memory holds the arena without a node
blank_holds : {w s : List ℕ} (n : ℕ) → Blank w s → Holds n w s (record { nodes = 0; words = 0 }) []
unfolding flat heads sound
blank_holds {w} {s} n B =
    let i : length w ≡ length w - 0 = omega arith in
    let j : length s ≡ length s - 0 = omega arith in
    record {
      few_words = omega (arith, B.all_words);
      few_starts = omega (arith, B.all_starts);
      nodes = refl;
      total = refl;
      words = B.words ∙ ap (λ (k : ℕ). replicate k 0) i;
      starts = B.starts ∙ ap (λ (k : ℕ). replicate k 0) j;
      good = refl;
    }

-- ---- after the last node
module _ (size : ℕ) (sh : Sheet) (rest : List ℕ) where
  ended_over : (eqb (length rest) 0 && leb size 65536) ≡ false → ended size (sh, rest) ≡ Err refusal.MalformedSheet
  unfolding ended
  ended_over e = rw (ended, e)

  module _ (e : (eqb (length rest) 0 && leb size 65536) ≡ true) where
    ended_rootless : length sh.arena ≤ sh.root → ended size (sh, rest) ≡ Err refusal.NoSuchRoot
    unfolding ended
    ended_rootless h = rw (ended, e, le-ltb sh.root (length sh.arena) h)

    ended_whole : sh.root < length sh.arena → ended size (sh, rest) ≡ Ok sh
    unfolding ended
    ended_whole h = rw (ended, e, lt-ltb sh.root (length sh.arena) h)

-- ---- names and nodes
module _ (l : Layout) {input bytes w s : List ℕ} (O : Opened input bytes w s) (n k root : ℕ) where
  o : Opening
  o = record { names = n; nodes = k; root = root }

  cut_length : length bytes ≡ min 65536 (length input)
  cut_length = ap length O.cut.is ∙ length-take 65536 input

  pub too_many : {m : ℕ} → m ≡ most_names l → m < n → ReadsContents l input bytes n k root w s (Err refusal.BadTable)
  unfolding contents ◌>>=◌ o
  too_many e h =
      let z : contents l o (drop 6 bytes) ≡ Err refusal.BadTable = rw (contents, lt-leb n (most_names l) (omega (arith, e, h))) in
      record { is = says_refused (ap (λ (q : Out (Sheet × List ℕ)). q >>= ended (length input)) z) }

  module _ {m : ℕ} (most : m ≡ most_names l) (h : n ≤ m) {r : Out ℕ} (R : ReadsNames bytes 6 n r) where
    after : {q : Out (List Name × List ℕ)} → names n [] (drop 6 bytes) ≡ q → contents l o (drop 6 bytes) ≡ (q >>= after_names l o)
    unfolding contents o
    after p = rw (contents, le-leb n (most_names l) (omega (arith, most, h))) (ap (λ (q : Out (List Name × List ℕ)). q >>= after_names l o) p)

    pub names_refused : {e : Refusal} → r ≡ Err e → ReadsContents l input bytes n k root w s (Err e)
    unfolding ◌>>=◌ o
    names_refused p = record { is = says_refused (ap (λ (q : Out (Sheet × List ℕ)). q >>= ended (length input)) (after (readers.refused R.is p))) }

    module _ {e : ℕ} (p : r ≡ Ok e) where
      G : Got bytes 6 (names n [] (drop 6 bytes)) e
      G = got R.is p

      ns : List Name
      ns = G.says

      A : NamesAre n [] (drop 6 bytes) (ns, drop e bytes)
      unfolding ns all_good rising
      A = names_are n [] (drop 6 bytes) (ns, drop e bytes) refl refl G.is

      count : n ≡ length ns
      count = omega (arith, A.count)

      pub nodes_ready : ReadyEmpty bytes e n w s
      nodes_ready = record { inside = G.high; holds = blank_holds n O.blank }

      -- the table's bytes, in the input
      text : take (e - 6) (drop 6 bytes) ≡ table ns
      unfolding table
      text =
          let f = A.front in
          let l = ap length f in
          ap (take (e - 6)) f
          ∙ take_at (table ns) (drop e bytes) (e - 6) (omega (arith, l, length-append (table ns) (drop e bytes), length-drop 6 bytes, length-drop e bytes, G.low, G.high))

      enough : (y : Layout) → n ≤ most_names y → length ns ≤ 4096
      enough layout.Old i = omega (arith, i, count)
      enough layout.New i = omega (arith, i, count)

      is_table : IsTable (take (e - 6) (drop 6 input)) ns
      is_table = record {
        bytes =
            within 65536 input 6 (e - 6) (omega (arith, ap length O.cut.is, G.low, G.high))
            ∙ sym (ap (λ (u : List ℕ). take (e - 6) (drop 6 u)) O.cut.is)
            ∙ text;
        good = rules_good layout.New ns (record { few = enough l (omega (arith, most, h)); short = omega (arith, ap length text, length-take (e - 6) (drop 6 bytes), cut_length, G.high, length-drop 6 bytes); good = A.good; rises = A.rises });
      }

      module _ {w' s' : List ℕ} {q : Out (ℕ × Counters)} (S : StoresNodes l bytes e n k w s w' s' q) where
        full : nodes l (length w) (length s) n k [] (drop e bytes) ≡ nodes l 16384 4096 n k [] (drop e bytes)
        full = λ i. nodes l (O.blank.all_words i) (O.blank.all_starts i) n k [] (drop e bytes)

        -- what follows the nodes
        whole : {x : Out (Arena × List ℕ)} → nodes l (length w) (length s) n k [] (drop e bytes) ≡ x
            → (contents l o (drop 6 bytes) >>= ended (length input)) ≡ (x >>= (λ (a : Arena × List ℕ). Ok (record { names = ns; arena = a.0; root = root }, a.1)) >>= ended (length input))
        unfolding after_names o ns ◌>>=◌
        whole z =
            ap (λ (y : Out (Sheet × List ℕ)). y >>= ended (length input))
            (after G.is ∙ ap (λ (x : Out (Arena × List ℕ)). x >>= λ (a : Arena × List ℕ). Ok (record { names = ns; arena = a.0; root = root }, a.1)) (sym full ∙ z))

        pub nodes_refused : {x : Refusal} → q ≡ Err x → ReadsContents l input bytes n k root w' s' (Err x)
        unfolding ◌>>=◌ o
        nodes_refused z = record { is = says_refused (whole (stores_stop S.is z)) }

        module _ {f : ℕ} {c : Counters} (z : q ≡ Ok (f, c)) where
          B : Stored bytes n w' s' f c (nodes l (length w) (length s) n k [] (drop e bytes))
          B = stores_to S.is z

          sh : Sheet
          sh = record { names = ns; arena = B.arena; root = root }

          to_end : (contents l o (drop 6 bytes) >>= ended (length input)) ≡ ended (length input) (sh, drop f bytes)
          unfolding ◌>>=◌ sh
          to_end = whole B.is

          left : length (drop f bytes) ≡ length bytes - f
          left = length-drop f bytes

          pub left_over : f < length input → ReadsContents l input bytes n k root w' s' (Err refusal.MalformedSheet)
          unfolding o
          left_over u = record { is = says_refused (to_end ∙ ended_over (length input) sh (drop f bytes) (go (eqb (length (drop f bytes)) 0) refl)) }
            where
              go : (t : Bool) → eqb (length (drop f bytes)) 0 ≡ t → (t && leb (length input) 65536) ≡ false
              go false y = refl
              go true y = lt-leb (length input) 65536 (omega (arith, eqb-true (length (drop f bytes)) 0 y, left, cut_length, u))

          module _ (u : length input ≤ f) {v : ℕ} (y : v ≡ root) where
            at_end : (eqb (length (drop f bytes)) 0 && leb (length input) 65536) ≡ true
            at_end = both (eq-eqb (length (drop f bytes)) 0 (omega (arith, left, cut_length, u))) (le-leb (length input) 65536 (omega (arith, B.high, cut_length, u)))

            pub no_root : c.nodes ≤ v → ReadsContents l input bytes n k root w' s' (Err refusal.NoSuchRoot)
            unfolding o sh
            no_root g = record { is = says_refused (to_end ∙ ended_rootless (length input) sh (drop f bytes) at_end (omega (arith, y, g, B.holds.nodes))) }

            pub read_whole : v < c.nodes → ReadsContents l input bytes n k root w' s' (Ok (record { end = e; counters = c; root = root }))
            unfolding o sh
            read_whole g =
                let d : (contents l o (drop 6 bytes) >>= ended (length input)) ≡ Ok sh = to_end ∙ ended_whole (length input) sh (drop f bytes) at_end (omega (arith, y, g, B.holds.nodes)) in
                let H : Holds (length ns) w' s' c B.arena = subst (λ (i : ℕ). Holds i w' s' c B.arena) count B.holds in
                record {
                  is = subst (Says input w' s' (Ok (record { end = e; counters = c; root = root }))) (sym d)
                      (sheet {sh = sh} G.low (omega (arith, G.high, cut_length)) is_table H (omega (arith, y, g)));
                }

-- ---- the opening
opening_cut : (bs : List ℕ) → length bs < 6 → opening bs ≡ Err refusal.MalformedSheet
unfolding opening ◌>>=◌
opening_cut bs h = rw (opening, several_no 6 bs h)

opening_read : (bs : List ℕ) → 6 ≤ length bs → opening bs ≡ Ok (record { names = value (take 2 (drop 0 bs)); nodes = value (take 2 (drop 2 bs)); root = value (take 2 (drop 4 bs)) }, drop 6 bs)
unfolding opening ◌>>=◌
opening_read bs h =
    let l = length-take-le 6 bs h in
    let p : (at : ℕ) → at + 2 ≤ 6 → value (take 2 (drop at (take 6 bs))) ≡ value (take 2 (drop at bs)) = λ at m. sym (ap value (within 6 bs at 2 (omega (arith, l, m)))) in
    rw (opening, several_yes 6 bs h) (λ i. Ok (record { names = p 0 (omega arith) i; nodes = p 2 (omega arith) i; root = p 4 (omega arith) i }, drop 6 bs))

module _ {input bytes : List ℕ} (E : Readable input bytes) where
  pub sheet_cut : {l : Layout} {w s : List ℕ} → length bytes < 6 → ReadsSheet l input w s (Err refusal.MalformedSheet)
  unfolding read_sheet_in ◌>>=◌
  sheet_cut {l} h = record { is = says_refused (ap (λ (x : Out (Opening × List ℕ)). x >>= λ (y : Opening × List ℕ). contents l y.0 y.1 >>= ended (length input)) (sym (ap opening E.is) ∙ opening_cut bytes h)) }

  module _ (h : 6 ≤ length bytes) where
    pub sheet_opened : {w s : List ℕ} → Blank w s → Opened input bytes w s
    sheet_opened B = record { cut = E; some = h; blank = B }

    pub sheet_read : {l : Layout} {a b c n k : ℕ} {w s : List ℕ} {r : Out Contents} → ShortAt bytes 0 a → n ≡ a → ShortAt bytes 2 b → k ≡ b → ShortAt bytes 4 c → ReadsContents l input bytes n k c w s r → ReadsSheet l input w s r
    unfolding read_sheet_in ◌>>=◌
    sheet_read {l} {w = w} {s = s} {r = r} A p B q C R =
        let i = p ∙ A.is in
        let j = q ∙ B.is in
        let k = C.is in
        record {
          is = subst (Says input w s r)
              ((λ t. contents l (record { names = i t; nodes = j t; root = k t }) (drop 6 bytes) >>= ended (length input))
              ∙ sym (ap (λ (x : Out (Opening × List ℕ)). x >>= λ (y : Opening × List ℕ). contents l y.0 y.1 >>= ended (length input)) (sym (ap opening E.is) ∙ opening_read bytes h)))
              R.is;
        }
