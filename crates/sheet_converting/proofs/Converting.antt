-- What stands in the lent bytes once the words of the nodes, in today's layout, are written behind the table.
use Prim.Native.Nat.{ℕ, ◌+◌, ◌-◌, ◌≤◌}
use mathlib.Core.Path.{◌≡◌, sym, ap, ◌∙◌}
use mathlib.Core.List.{List, ◌++◌, append-nil}
use native.Mathlib.Omega.{arith}
use lib.ListN.{length, get_or, take, drop, replicate, length-append, length-drop, drop_of_length-le}
use lib.Seq.{take_at, take_all, length-take-le}
use mir.Syntax.{w8}
use mir.Val.{Fits}
use Rattle.types.specs.declared.refusal.Refusal.{Refusal}
use Rattle.types.specs.declared.refusal.Refusal.TheVariants as refusal
use Rattle.types.specs.Out.{Out}
use Rattle.words.specs.declared.Layout.TheVariants as layout
use Rattle.std.specs.Prelude.{Ok, Err}
use Rattle.types.specs.Memory.{flat_in, flat}
use Rattle.types.proofs.Lists.{below_by}
use Rattle.types.proofs.Addresses.{word_room}
use Rattle.names.specs.Table.{table}
use Rattle.appending.specs.Inner.{Writes}
use Rattle.display.specs.Reply.{reply}
use Rattle.sheet_reading.specs.Sheet.{Sheet, read_sheet_in}
use Rattle.sheet_reading.specs.Inner.Reading.{ReadsSheet}
use Rattle.sheet_reading.specs.declared.Contents.{Contents}
use Rattle.sheet_reading.proofs.Outcomes.{Read, read_as, refused_as}
use Rattle.sheet_writing.specs.Bytes.{words_bytes, opening_bytes, number_bytes, sheet_bytes_in, sheet_bytes}
use Rattle.sheet_writing.specs.Theorems.{WrittenAs}
use Rattle.sheet_writing.proofs.Accepting.{sheet_length}
use Rattle.sheet_writing.proofs.Theorems.{reads_written}
use Rattle.sheet_converting.specs.Convert.{converting, convert_reply, left}

-- the bytes before the words of the nodes
unfoldable pub front : Sheet → List ℕ
front sh = opening_bytes (length sh.names) (length sh.arena) sh.root ++ table sh.names

pub in_parts : (sh : Sheet) → sheet_bytes sh ≡ front sh ++ words_bytes (flat sh.arena)
unfolding sheet_bytes front
in_parts sh = λ i. sheet_bytes sh

pub in_old_parts : (sh : Sheet) → sheet_bytes_in layout.Old sh ≡ front sh ++ words_bytes (flat_in layout.Old sh.arena)
unfolding sheet_bytes_in front
in_old_parts sh = λ i. sheet_bytes_in layout.Old sh

-- ---- what was read
module _ {b w s : List ℕ} {r : Out Contents} (R : ReadsSheet layout.Old b w s r) where
  pub convert_refused : {e : Refusal} → r ≡ Err e → left (Err refusal.OldSheetRefused) b ≡ convert_reply b
  unfolding convert_reply
  convert_refused q = sym (ap (converting b) (refused_as R.is q))

  module _ {p : Contents} (q : r ≡ Ok p) where
    found : Read b w s p.end p.counters p.root (read_sheet_in layout.Old b)
    found = read_as R.is q

    sh : Sheet
    sh = found.result

    pub words_used : p.counters.words ≤ length w
    words_used = word_room found.holds

    used : take p.counters.words w ≡ flat sh.arena
    unfolding sh
    used =
        ap (take p.counters.words) found.holds.words
        ∙ take_at (flat sh.arena) (replicate (length w - length (flat sh.arena)) 0) p.counters.words (sym found.holds.total)

    front_long : length (front sh) ≡ p.end
    unfolding sh front opening_bytes number_bytes
    front_long =
        let t = ap length found.table.bytes in
        let k = length-take-le (p.end - 6) (drop 6 b) (omega (arith, length-drop 6 b, found.low, found.high)) in
        omega (arith, t, k, found.low)

    pub words_share : p.counters.words ≡ length (take p.counters.words w)
    words_share = sym (length-take-le p.counters.words w words_used)

    module _ (known : (i : ℕ) → Fits w8 (get_or b i 0)) where
      W : WrittenAs layout.Old b sh
      unfolding sh
      W = reads_written.accepted layout.Old b sh (below_by 256 b (λ j l. (known j).fits)) found.is

      module _ {b' : List ℕ} {n : ℕ} (P : Writes b p.end (words_bytes (take p.counters.words w)) b' n) where
        words : List ℕ
        words = words_bytes (take p.counters.words w)

        same_words : words ≡ words_bytes (flat sh.arena)
        unfolding words
        same_words = ap words_bytes used

        total : length b ≡ p.end + length words
        total =
            let old = ap length W.bytes ∙ sheet_length layout.Old sh in
            let new = ap length (in_parts sh) ∙ length-append (front sh) (words_bytes (flat sh.arena)) in
            omega (arith, old, new, front_long, ap length same_words)

        kept : take p.end b ≡ front sh
        kept = ap (take p.end) (W.bytes ∙ in_old_parts sh) ∙ take_at (front sh) (words_bytes (flat_in layout.Old sh.arena)) p.end front_long

        written : b' ≡ sheet_bytes sh
        unfolding words
        written =
            P.put (omega (arith, total))
            ∙ (λ i. kept i ++ take_all (length words) words (omega arith) i ++ drop_of_length-le b {i = p.end + length words} (omega (arith, total)) i)
            ∙ append-nil (front sh ++ words)
            ∙ ap (λ (x : List ℕ). front sh ++ x) same_words
            ∙ sym (in_parts sh)

        pub convert_done : left (Ok tt) b' ≡ convert_reply b
        unfolding convert_reply sh
        convert_done = ap (λ (x : List ℕ). reply (Ok (length x)) x) written ∙ sym (ap (converting b) found.is)
