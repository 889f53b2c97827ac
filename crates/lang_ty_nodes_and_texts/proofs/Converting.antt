-- A converted sheet has the line of the old one.
use Prim.Native.Nat.{ℕ}
use mathlib.Core.Path.{◌≡◌, refl, sym, ap, ◌∙◌}
use native.Mathlib.Omega.{arith}
use Rattle.words.specs.declared.Layout.TheVariants as layout
use Rattle.std.specs.Prelude.{Ok, Err}
use Rattle.types.specs.Out.{Out, ◌>>=◌}
use Rattle.sheet_reading.specs.Sheet.{Sheet, read_sheet_in, read_sheet}
use Rattle.sheet_writing.specs.Bytes.{sheet_bytes}
use Rattle.sheet_converting.specs.Convert.{converting, convert_reply}
use Rattle.sheet_converting.proofs.Theorems.{converted_reads}
use Rattle.sheet_format.specs.Line.{sheet_type, line_of, sheet_answer_in, sheet_line_in}
use Rattle.lang_ty_nodes_and_texts.specs.Theorems.{SameLine}

pub same_line : SameLine
unfolding convert_reply sheet_line_in sheet_answer_in
same_line b b' n small p = go (read_sheet_in layout.Old b) refl
  where
    go : (o : Out Sheet) → read_sheet_in layout.Old b ≡ o → line_of (read_sheet b' >>= sheet_type) ≡ line_of (read_sheet_in layout.Old b >>= sheet_type)
    go (Ok sh) e =
        let z = sym (ap (converting b) e) ∙ p in
        let q : sheet_bytes sh ≡ b' = let C = converted_reads b sh small e in let y = sym C.is ∙ p in cc in
        let same : read_sheet b' ≡ read_sheet_in layout.Old b = ap read_sheet (sym q) ∙ (converted_reads b sh small e).reads ∙ sym e in
        ap (λ (x : Out Sheet). line_of (x >>= sheet_type)) same
    go (Err m) e =
        let z = sym (ap (converting b) e) ∙ p in
        let y : ◌≡◌ {A = ℕ} 0 1 = cc in absurd (omega arith)
