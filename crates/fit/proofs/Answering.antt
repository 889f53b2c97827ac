-- What the program answers on each of its ways, and the line of it.
use Prim.Native.Nat.{ℕ, ◌+◌, ◌-◌, ◌*◌, ◌/◌, ◌%◌, ◌≤◌, ◌<◌}
use mathlib.Core.Path.{◌≡◌, refl, sym, ap, ◌∙◌, subst}
use mathlib.Core.Bool.{Bool, true, false}
use mathlib.Core.List.{List, ◌++◌}
use native.Mathlib.Omega.{arith}
use lib.ListN.{length, take, drop, replicate, length-replicate, length-drop}
use lib.Seq.{take_all, length-take-le, drop-drop}
use lib.Dec.{eqb, leb}
use borrow.Author.Tests.{le-leb, lt-leb, eq-eqb, ne_eqb}
use Rattle.words.specs.declared.Layout.TheVariants as layout
use Rattle.std.specs.Prelude.{Ok, Err}
use Rattle.types.specs.declared.refusal.Refusal.{Refusal}
use Rattle.types.specs.declared.refusal.Refusal.TheVariants as refusal
use Rattle.types.specs.Refusal.{number_of}
use Rattle.types.specs.Out.{Out, ◌>>=◌}
use Rattle.types.specs.Bytes.{bytes}
use Rattle.types.specs.Reply.{judged}
use Rattle.types.specs.declared.Counters.{Counters}
use Rattle.types.proofs.Replies.{tabled_yes, judged_yes}
use Rattle.names.specs.Table.{Name, names_of}
use Rattle.names.proofs.Tables.{is_names_of}
use Rattle.soundness.specs.Lent.{lent_to}
use Rattle.appending.specs.Inner.{Writes}
use Rattle.sheet_reading.specs.Sheet.{Sheet, several, value, number, words, read_sheet}
use Rattle.sheet_reading.specs.Inner.Reading.{Blank, ReadsSheet}
use Rattle.sheet_reading.specs.Inner.Steps.{Inside, WordAt, WordRoom, Copied}
use Rattle.sheet_reading.specs.declared.Contents.{Contents}
use Rattle.sheet_reading.proofs.Readers.{number_yes, number_no}
use Rattle.sheet_reading.proofs.Outcomes.{Read, read_as, refused_as}
use Rattle.sheet_format.specs.Line.{refused_line}
use Rattle.sheet_format.proofs.Lines.{refused_length, written}
use Rattle.fits.specs.Fits.{fits_root, fits_reply}
use Rattle.fit.specs.Fit.{fix_words, fix_answer, sheet_answer, fit_answer, answer_line, fit_line, WritesFit}
use Rattle.fit.specs.Inner.{SheetIn, AnswersFix, WritesAnswer}

-- ---- the fix in its bytes
module _ (bs : List ℕ) where
  words_by : {s t : Bool} → leb (length bs) (4 * 131072) ≡ s → eqb (length bs % 4) 0 ≡ t
      → fix_words bs ≡ elim s as (λ _. Out (List ℕ)) [ false ↦ Err refusal.MalformedSheet | true ↦ elim t as (λ _. Out (List ℕ)) [ false ↦ Err refusal.MalformedFix | true ↦ Ok (words (length bs / 4) bs) ] ]
  unfolding fix_words
  words_by p q = λ i. elim (p i) as (λ _. Out (List ℕ)) [ false ↦ Err refusal.MalformedSheet | true ↦ elim (q i) as (λ _. Out (List ℕ)) [ false ↦ Err refusal.MalformedFix | true ↦ Ok (words (length bs / 4) bs) ] ]

  module _ {t w s : List ℕ} {c : Counters} {root : ℕ} where
    stopped : {e : Refusal} → fix_words bs ≡ Err e → AnswersFix t w s c root bs (Err e)
    unfolding fix_answer ◌>>=◌
    stopped q = record { is = λ sh T H z. sym (ap (λ (o : Out (List ℕ)). o >>= λ (ws : List ℕ). fits_root (length sh.names) sh.root ws sh.arena) q) }

    pub fix_over : 524288 < length bs → AnswersFix t w s c root bs (Err refusal.MalformedSheet)
    fix_over l = stopped (words_by (lt-leb (length bs) (4 * 131072) (omega (arith, l))) refl)

    pub fix_odd : length bs ≤ 524288 → (length bs % 4 ≡ 0 → ⊥) → AnswersFix t w s c root bs (Err refusal.MalformedFix)
    fix_odd l f = stopped (words_by (le-leb (length bs) (4 * 131072) (omega (arith, l))) (ne_eqb (length bs % 4) 0 f))

    pub fix_told : length bs ≤ 524288 → length bs % 4 ≡ 0 → {old ws : List ℕ} {n : ℕ} → Copied bs old ws n → {o : Out Bool} → o ≡ fits_reply t w s c root (take n ws) → AnswersFix t w s c root bs o
    unfolding fix_answer ◌>>=◌ fits_reply lent_to
    fix_told l e {ws = ws} {n} C {o} q = record {
      is = λ sh T H z.
          q
          ∙ tabled_yes (λ (ns : List Name). judged (length ns) w s c (fits_root (length ns) root (take n ws))) (names_of t) sh.names (is_names_of T)
          ∙ judged_yes (length sh.names) w s c (fits_root (length sh.names) root (take n ws)) sh.arena H
          ∙ (λ i. fits_root (length sh.names) (z i) ((C.is ∙ ap (λ (k : ℕ). words k bs) C.count) i) sh.arena)
          ∙ sym (ap (λ (x : Out (List ℕ)). x >>= λ (us : List ℕ). fits_root (length sh.names) sh.root us sh.arena) (words_by (le-leb (length bs) (4 * 131072) (omega (arith, l))) (eq-eqb (length bs % 4) 0 e)));
    }

  pub fix_counted : length bs ≤ 524288 → {ws : List ℕ} {n : ℕ} → Copied bs (replicate 131072 0) ws n → n ≡ length (take n ws)
  fix_counted l {ws} {n} C = sym (length-take-le n ws (omega (arith, l, C.count, C.size, length-replicate {A = ℕ} 131072 0)))

  pub fix_room : length bs ≤ 524288 → WordRoom bs (replicate 131072 0)
  fix_room l = record { room = omega (arith, l, length-replicate {A = ℕ} 131072 0) }

-- ---- the sheet
module _ {sheet w s : List ℕ} (bs : List ℕ) where
  module _ {r : Out Contents} (R : ReadsSheet layout.New sheet w s r) where
    pub sheet_refused : {e : Refusal} → r ≡ Err e → Err e ≡ sheet_answer sheet bs
    unfolding sheet_answer ◌>>=◌
    sheet_refused q = sym (ap (λ (o : Out Sheet). o >>= fix_answer bs) (refused_as R.is q))

    module _ {p : Contents} (q : r ≡ Ok p) where
      found : Read sheet w s p.end p.counters p.root (read_sheet sheet)
      found = read_as R.is q

      pub table_low : 6 ≤ p.end
      table_low = found.low

      pub table_high : p.end ≤ length sheet
      table_high = found.high

      pub sheet_in : SheetIn (take (p.end - 6) (drop 6 sheet)) w s p.counters p.root
      sheet_in = record { sheet = found.result; table = found.table; holds = found.holds }

      pub sheet_told : {o : Out Bool} → AnswersFix (take (p.end - 6) (drop 6 sheet)) w s p.counters p.root bs o → o ≡ sheet_answer sheet bs
      unfolding sheet_answer ◌>>=◌
      sheet_told A = A.is found.result found.table found.holds found.root_is ∙ sym (ap (λ (x : Out Sheet). x >>= fix_answer bs) found.is)

pub no_memory : Blank (replicate 16384 0) (replicate 4096 0)
no_memory = record {
  all_words = length-replicate {A = ℕ} 16384 0;
  all_starts = length-replicate {A = ℕ} 4096 0;
  words = ap (λ (n : ℕ). replicate n 0) (sym (length-replicate {A = ℕ} 16384 0));
  starts = ap (λ (n : ℕ). replicate n 0) (sym (length-replicate {A = ℕ} 4096 0));
}

-- ---- the whole input
module _ (input : List ℕ) where
  -- what is done with them
  abbrev after : ℕ × List ℕ → Out Bool
  after n = elim (leb n.0 65536) as (λ _. Out Bool) [ false ↦ Err refusal.MalformedSheet | true ↦ several n.0 n.1 >>= λ (r : List ℕ × List ℕ). sheet_answer r.0 r.1 ]

  answer_by : {o : Out (ℕ × List ℕ)} → number 4 input ≡ o → fit_answer input ≡ (o >>= after)
  unfolding fit_answer
  answer_by e = ap (λ (o : Out (ℕ × List ℕ)). o >>= after) e

  pub ends_in_length : length input < 4 → Err refusal.MalformedSheet ≡ fit_answer input
  unfolding ◌>>=◌
  ends_in_length l = sym (answer_by (number_no 4 input l))

  module _ (l : 4 ≤ length input) {x n : ℕ} (W : WordAt input 0 x) (q : n ≡ x) where
    the_length : value (take 4 input) ≡ n
    the_length = sym (q ∙ W.is)

    after_by : {s t : Bool} → leb n 65536 ≡ s → leb n (length (drop 4 input)) ≡ t
        → fit_answer input ≡ elim s as (λ _. Out Bool) [ false ↦ Err refusal.MalformedSheet | true ↦ elim t as (λ _. Out (List ℕ × List ℕ)) [ true ↦ Ok (take n (drop 4 input), drop n (drop 4 input)) | false ↦ Err refusal.MalformedSheet ] >>= λ (r : List ℕ × List ℕ). sheet_answer r.0 r.1 ]
    unfolding several ◌>>=◌
    after_by {s} {t} p u = answer_by (number_yes 4 input l) ∙ ap (λ (k : ℕ). after (k, drop 4 input)) the_length
        ∙ (λ i. elim (p i) as (λ _. Out Bool) [ false ↦ Err refusal.MalformedSheet | true ↦ elim (u i) as (λ _. Out (List ℕ × List ℕ)) [ true ↦ Ok (take n (drop 4 input), drop n (drop 4 input)) | false ↦ Err refusal.MalformedSheet ] >>= λ (r : List ℕ × List ℕ). sheet_answer r.0 r.1 ])

    pub length_over : 65536 < n → Err refusal.MalformedSheet ≡ fit_answer input
    length_over h = sym (after_by (lt-leb n 65536 h) refl)

    pub ends_in_sheet : n ≤ 65536 → length input - 4 < n → Err refusal.MalformedSheet ≡ fit_answer input
    unfolding ◌>>=◌
    ends_in_sheet k h = sym (after_by (le-leb n 65536 k) (lt-leb n (length (drop 4 input)) (omega (arith, h, length-drop 4 input))))

    -- the parts as the code lends them: `&input[4..end]` and `&input[end..]`
    pub parts_told : n ≤ 65536 → n ≤ length input - 4 → {o : Out Bool} → o ≡ sheet_answer (take (4 + n - 4) (drop 4 input)) (take (length input - (4 + n)) (drop (4 + n) input)) → o ≡ fit_answer input
    unfolding ◌>>=◌
    parts_told k h e =
        let c : 4 + n - 4 ≡ n = omega arith in
        let rest : take (length input - (4 + n)) (drop (4 + n) input) ≡ drop n (drop 4 input) = take_all (length input - (4 + n)) (drop (4 + n) input) (omega (arith, length-drop (4 + n) input)) ∙ sym (drop-drop n 4 input) in
        e ∙ (λ i. sheet_answer (take (c i) (drop 4 input)) (rest i)) ∙ sym (after_by (le-leb n 65536 k) (le-leb n (length (drop 4 input)) (omega (arith, h, length-drop 4 input))))

pub length_there : (input : List ℕ) → 4 ≤ length input → Inside input 0 4
length_there input l = record { fits = omega (arith, l) }

-- ---- the line
module _ {b b' : List ℕ} {r : ℕ} {a : Out Bool} where
  line_as : {z : Out Bool} → a ≡ z → length (answer_line z) ≤ 19 → Writes b 0 (answer_line z) b' r → WritesAnswer b a b' r
  line_as {z} e h W = subst (λ (y : Out Bool). WritesAnswer b y b' r) (sym e) (record { is = W; few = h })

  pub refusal_line : {e : Refusal} {m : ℕ} → a ≡ Err e → m ≡ number_of e → Writes b 0 (refused_line m) b' r → WritesAnswer b a b' r
  unfolding answer_line
  refusal_line {e} q n W = line_as q (refused_length e) (subst (λ (k : ℕ). Writes b 0 (refused_line k) b' r) n W)

  pub yes_line : {x : Bool} → a ≡ Ok x → x ≡ true → Writes b 0 (bytes "yes\n") b' r → WritesAnswer b a b' r
  unfolding answer_line
  yes_line e q W = line_as (e ∙ ap Ok q) (omega arith) W

  pub no_line : {x : Bool} → a ≡ Ok x → x ≡ false → Writes b 0 (bytes "no\n") b' r → WritesAnswer b a b' r
  unfolding answer_line
  no_line e q W = line_as (e ∙ ap Ok q) (omega arith) W

pub line_told : {input b b' : List ℕ} {r : ℕ} {o : Out Bool} → length b ≡ 32 → o ≡ fit_answer input → WritesAnswer b o b' r → WritesFit input b b' r
unfolding fit_line
line_told {input} {b} {r = r} size e W =
    let p = written (omega (arith, size, W.few)) W.is in
    record {
      count = p.0 ∙ ap (λ (x : Out Bool). length (answer_line x)) e;
      fits = omega (arith, p.0, W.is.long, size, W.few);
      bytes = p.1 ∙ ap (λ (x : Out Bool). answer_line x ++ drop r b) e;
    }
