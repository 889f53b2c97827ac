-- A converted sheet says what the old one did, only its field words differ, and 11 is answered exactly where the old rules refuse; an old
-- sheet that isn't converted reads as it did, or is refused by 4.
use Prim.Native.Nat.{ℕ, ◌≤◌}
use mathlib.Core.Path.{◌≡◌, refl, sym, ap, ◌∙◌}
use mathlib.Core.Bool.{true}
use mathlib.Core.List.{List, [], ◌∷◌, ◌++◌}
use native.Mathlib.Omega.{arith}
use lib.ListN.{length}
use Rattle.words.specs.declared.Layout.TheVariants as layout
use Rattle.std.specs.Prelude.{Ok, Err}
use Rattle.types.specs.declared.refusal.Refusal.{Refusal}
use Rattle.types.specs.Out.{Out}
use Rattle.types.specs.Node.{below}
use Rattle.types.specs.Arena.{Arena, sound}
use Rattle.types.specs.Memory.{flat_in, flat}
use Rattle.types.proofs.Sound.{sound_well, sound_tail}
use Rattle.names.proofs.Rules.{good_rules}
use Rattle.display.specs.Reply.{reply}
use Rattle.sheet_reading.specs.Sheet.{Sheet, read_sheet_in, read_sheet}
use Rattle.sheet_writing.specs.Bytes.{words_bytes, sheet_bytes_in, sheet_bytes}
use Rattle.sheet_writing.specs.Theorems.{WrittenAs}
use Rattle.sheet_writing.proofs.Accepting.{sheet_length}
use Rattle.sheet_writing.proofs.Theorems.{reads_written}
use Rattle.sheet_converting.specs.Convert.{converting, convert_reply}
use Rattle.sheet_converting.specs.Theorems.{ConvertedReads, Words, none, OnlyFields, FieldsChange, Refused, refused, Eleven, OldSheets}
use Rattle.sheet_converting.proofs.Fields.{join, node_changes, formed_old}
use Rattle.sheet_converting.proofs.Converting.{front, in_parts, in_old_parts}
use Rattle.sheet_converting.proofs.Refusing.{good_today, flat_same, read_four}

written : (b : List ℕ) (sh : Sheet) → below 256 b ≡ true → read_sheet_in layout.Old b ≡ Ok sh → WrittenAs layout.Old b sh
written = reads_written.accepted layout.Old

converted_is : (b : List ℕ) (sh : Sheet) → read_sheet_in layout.Old b ≡ Ok sh → convert_reply b ≡ reply (Ok (length (sheet_bytes sh))) (sheet_bytes sh)
unfolding convert_reply
converted_is b sh e = ap (converting b) e

pub converted_reads : ConvertedReads
converted_reads b sh small e =
    let W = written b sh small e in
    let l : length (sheet_bytes sh) ≡ length b = omega (arith, ap length W.bytes, sheet_length layout.Old sh) in
    record {
      is = converted_is b sh e ∙ ap (λ (n : ℕ). reply (Ok n) (sheet_bytes sh)) l;
      long = l;
      reads = reads_written.read_back sh (good_today W.good);
    }

-- ---- only field words change
nodes_change : (table : ℕ) (a : Arena) → table ≤ 256 → sound table a ≡ true → Words (flat_in layout.Old a) (flat a)
unfolding flat
nodes_change table [] h e = none
nodes_change table (x ∷ s) h e =
    join (nodes_change table s h (sound_tail table x s e)) (node_changes x (formed_old table (length s) x h (sound_well table x s e)))

changed : (b : List ℕ) (sh : Sheet) → WrittenAs layout.Old b sh → OnlyFields b (sheet_bytes sh)
changed b sh W = record {
  front = front sh;
  nodes = sh.arena;
  before = W.bytes ∙ in_old_parts sh;
  after = in_parts sh;
  words = nodes_change (length sh.names) sh.arena (good_rules layout.Old sh.names W.good.table).few W.good.arena;
}

pub fields_change : FieldsChange
unfolding convert_reply
fields_change b b' n small p = go (read_sheet_in layout.Old b) refl
  where
    go : (o : Out Sheet) → read_sheet_in layout.Old b ≡ o → OnlyFields b b'
    go (Ok sh) e =
        let q : sheet_bytes sh ≡ b' = let z = sym (converted_is b sh e) ∙ p in cc in
        rw (← q) (changed b sh (written b sh small e))
    go (Err m) e =
        let z = sym (ap (converting b) e) ∙ p in
        let y : ◌≡◌ {A = ℕ} 0 1 = cc in absurd (omega arith)

-- ---- 11
pub eleven : (b : List ℕ) → Eleven b
unfolding convert_reply
eleven b = record { refused = λ e p. ap (converting b) p; only = λ e b' p. go (read_sheet_in layout.Old b) refl p }
  where
    go : (o : Out Sheet) → read_sheet_in layout.Old b ≡ o → {e : Refusal} {b' : List ℕ} → converting b o ≡ reply (Err e) b' → Refused o
    go (Ok sh) e p = let z : ◌≡◌ {A = ℕ} 0 1 = cc in absurd (omega arith)
    go (Err m) e p = refused

-- ---- old sheets under today's rules
pub old_sheets : OldSheets
unfolding sheet_bytes
old_sheets b sh small e =
    let W = written b sh small e in
    record {
      alike = λ n.
          let same : sheet_bytes_in layout.Old sh ≡ sheet_bytes sh = in_old_parts sh ∙ ap (λ (ws : List ℕ). front sh ++ words_bytes ws) (flat_same sh.arena n) ∙ sym (in_parts sh) in
          ap read_sheet (W.bytes ∙ same) ∙ reads_written.read_back sh (good_today W.good);
      four = λ n. ap read_sheet W.bytes ∙ read_four sh W.good n;
    }
