-- 0 means success, and a refusal's number is at most 10, or 11 where a sheet is converted, or 12 where a type is imported, or 14 where a fix is held against a type, of every call that can be refused: after the numbers that calls share, 1, 2 and 6, come those of the call's own.
use Prim.Native.Nat.{ℕ, min, ◌<◌, ◌≤◌}
use native.Mathlib.Omega.{arith}
use mathlib.Core.Bool.{Bool}
use mathlib.Core.Path.{◌≡◌, refl, ap}
use mathlib.Core.List.{List, []}
use lib.ListN.{length}
use lib.Dec.{ltb, leb}
use Rattle.words.specs.declared.Layout.TheVariants as layout
use Rattle.std.specs.Prelude.{Ok, Err}
use Rattle.types.specs.declared.refusal.Refusal.{Refusal}
use Rattle.types.specs.declared.refusal.Refusal.TheVariants as refusals
use Rattle.types.specs.Refusal.{number_of}
use Rattle.types.specs.Out.{Out, number}
use Rattle.types.specs.Node.{tag, names, guess, is_words, linked, rising, decode, decode_in}
use Rattle.types.specs.Arena.{Arena, at}
use Rattle.types.specs.Memory.{arena_of}
use Rattle.types.specs.Reply.{Reply, reply, tabled, judged, rooted}
use Rattle.types.specs.declared.Counters.{Counters}
use Rattle.names.specs.Table.{Name, split, names_of}
use Rattle.names.specs.Reply.{table_reply, stretch, name_reply}
use Rattle.name_lookup.specs.Lookup.{position, find_reply}
use Rattle.node_order.specs.NodeOrder.{node_order}
use Rattle.arena.specs.Intern.{interning, intern_reply}
use Rattle.arena.specs.Compare.{comparing, compare_reply}
use Rattle.walks.specs.Asked.{asking, ask_reply}
use Rattle.equal.specs.Equal.{equal}
use Rattle.soundness.specs.Lent.{lent_to}
use Rattle.questions.specs.Vars.{has_type_vars}
use Rattle.fix_values.specs.Fix.{fix_of}
use Rattle.fitting.specs.Fits.{fits}
use Rattle.fits.specs.Fits.{fits_type, fits_root, fits_reply}
use Rattle.equal.specs.Reply.{equal_roots, equal_reply}
use Rattle.spelling.specs.declared.Spelling.{Spelling}
use Rattle.spelling.specs.declared.Spelling.TheVariants as spelling
use Rattle.text_writing.specs.Text.{type_text}
use Rattle.display.specs.Reply.{displaying, print_reply, display_reply, display_nix_reply, reply_of as display-of}
use Rattle.sheet_reading.specs.Sheet.{Sheet, read_sheet_in}
use Rattle.sheet_writing.specs.Bytes.{sheet_bytes}
use Rattle.sheet_writing.specs.Reply.{bytes_with, fitting, write_sheet_reply, reply_of as sheet-of}
use Rattle.sheet_converting.specs.Convert.{converting, convert_reply}
use Rattle.recursion.proofs.Answers.{ok_err}
use Rattle.recursion.specs.Hosted.{Work, work_reply}
use Rattle.renumber.specs.Renumber.{normalize}
use Rattle.set_op_lists.specs.SetOps.{normalize_set_ops}
use Rattle.simplify.specs.Simplify.{answered, simplify_reply}
use Rattle.compact.specs.Compact.{over_limit, limited, cleared, empty, source, compacted, compact_reply}
use Rattle.lang_ty.specs.Told.{told, tell}
use Rattle.lang_ty.specs.Theorems.{ToldZero, ArenaZero, ImportZero, FitsZero}
use Rattle.lang_ty.specs.Numbered as fitted
use Rattle.lang_ty.specs.Numbered.{Numbered, value, refusal, Converted, done, eleven, Imported, numbered, twelve, Fitted, thirteen, fourteen, ZeroIsValue, answer_of, length_of}
use Rattle.lang_ty.specs.Theorems.{AllNumbered}
use Rattle.lang_ty.proofs.Numbers.{NumberedJob, refusal_high, refusal_low, by_test, by_required, required_numbered, then_numbered, rooted_numbered, reply_numbered, intern_numbered}
use Rattle.lang_ty.proofs.Passes.{simplify_numbered}
use Rattle.lang_ty.proofs.Works.{normalize_numbered, set_ops_numbered, copy_numbered}
use Rattle.lang_ty.proofs.Imports.{import_numbered}

-- ---- 1 and 2
module _ {A : Type 0} (t w s : List ℕ) (c : Counters) {f : List Name → Arena → Out A} (h : (ns : List Name) (a : Arena) → Numbered (f ns a)) where
  lent_numbered : Numbered (tabled (names_of t) (λ (ns : List Name). judged (length ns) w s c (f ns)))
  unfolding tabled judged
  lent_numbered = required_numbered _ (omega arith) (omega arith) (names_of t) (λ ns. required_numbered _ (omega arith) (omega arith) (arena_of (length ns) w s c) (h ns))

-- ---- calls that only read
pub table_numbered : (t : List ℕ) → Numbered (table_reply t)
unfolding table_reply
table_numbered t = required_numbered _ (omega arith) (omega arith) (names_of t) (λ ns. value (length ns))

name_numbered : (t : List ℕ) (number : ℕ) → Numbered (name_reply t number)
unfolding name_reply
name_numbered t number = required_numbered _ (omega arith) (omega arith) (names_of t) (λ ns. by_test Numbered (ltb number (length ns)) (value (stretch ns number)) (refusal (omega arith) (omega arith)))

find_numbered : (t x : List ℕ) → Numbered (find_reply t x)
unfolding find_reply
find_numbered t x = required_numbered _ (omega arith) (omega arith) (names_of t) (λ ns. value (position ns x))

pub compare_numbered : (t w s : List ℕ) (c : Counters) (m n : ℕ) → Numbered (compare_reply t w s c m n)
unfolding compare_reply comparing
compare_numbered t w s c m n = lent_numbered t w s c (λ ns. rooted_numbered m (rooted_numbered n (λ a. value (node_order (at a m) (at a n)))))

pub ask_numbered : {A : Type 0} (q : Arena → ℕ → A) (t w s : List ℕ) (c : Counters) (root : ℕ) → Numbered (ask_reply q t w s c root)
unfolding ask_reply asking
ask_numbered q t w s c root = lent_numbered t w s c (λ ns. rooted_numbered root (λ a. value (q a root)))

pub equal_numbered : (t w s : List ℕ) (c : Counters) (m : ℕ) (u v r : List ℕ) (d : Counters) (n : ℕ) → Numbered (equal_reply t w s c m u v r d n)
unfolding equal_reply lent_to equal_roots
equal_numbered t w s c m u v r d n =
    lent_numbered t w s c (λ ns a. lent_numbered u v r d (λ ms b. rooted_numbered m (λ x. rooted_numbered n (λ y. value (equal ns x m ms y n)) b) a))

-- 9 comes last
display_of_numbered : (b : List ℕ) {o : Out (List ℕ)} → Numbered o → Numbered (length_of (display-of b o))
unfolding display-of displaying
display_of_numbered b (value x) = by_test (λ r. Numbered (length_of r)) (leb (length x) (min (length b) 65536)) (value (length x)) (refusal (omega arith) (omega arith))
display_of_numbered b (refusal l m) = refusal l m

print_numbered : (sp : Spelling) (t w s : List ℕ) (c : Counters) (root : ℕ) (b : List ℕ) → Numbered (length_of (print_reply sp t w s c root b))
unfolding print_reply
print_numbered sp t w s c root b = display_of_numbered b (ask_numbered (type_text sp (split t)) t w s c root)

pub display_numbered : (t w s : List ℕ) (c : Counters) (root : ℕ) (b : List ℕ) → Numbered (length_of (display_reply t w s c root b))
unfolding display_reply
display_numbered = print_numbered spelling.Bare

pub display_nix_numbered : (t w s : List ℕ) (c : Counters) (root : ℕ) (b : List ℕ) → Numbered (length_of (display_nix_reply t w s c root b))
unfolding display_nix_reply
display_nix_numbered = print_numbered spelling.Nix

fitting_numbered : (b x : List ℕ) → Numbered (fitting b x)
unfolding fitting
fitting_numbered b x = by_test Numbered (leb (length x) (min (length b) 65536)) (value x) (refusal (omega arith) (omega arith))

sheet_of_numbered : (b : List ℕ) {o : Out (List ℕ)} → Numbered o → Numbered (length_of (sheet-of b o))
unfolding sheet-of
sheet_of_numbered b (value x) = value (length x)
sheet_of_numbered b (refusal l h) = refusal l h

pub write_sheet_numbered : (t w s : List ℕ) (c : Counters) (root : ℕ) (b : List ℕ) → Numbered (length_of (write_sheet_reply t w s c root b))
unfolding write_sheet_reply
write_sheet_numbered t w s c root b = sheet_of_numbered b (then_numbered (ask_numbered (bytes_with (split t)) t w s c root) (fitting_numbered b))

converting_numbered : (b : List ℕ) (o : Out Sheet) → Converted (length_of (converting b o))
unfolding converting
converting_numbered b (Ok sh) = done (length (sheet_bytes sh))
converting_numbered b (Err e) = eleven

convert_numbered : (b : List ℕ) → Converted (length_of (convert_reply b))
unfolding convert_reply
convert_numbered b = converting_numbered b (read_sheet_in layout.Old b)

-- ---- calls that change an arena
decode_numbered : (table nodes : ℕ) (ws : List ℕ) → Numbered (decode table nodes ws)
unfolding decode_in
decode_numbered table nodes ws =
    by_test Numbered (is_words ws (guess ws))
    (by_test Numbered (linked table nodes (guess ws)) (by_test Numbered (rising (names (tag (guess ws)))) (value (guess ws)) (refusal (omega arith) (omega arith))) (refusal (omega arith) (omega arith)))
    (refusal (omega arith) (omega arith))

pub intern_reply_numbered : (t w s : List ℕ) (c : Counters) (ws : List ℕ) → Numbered (answer_of (intern_reply t w s c ws))
unfolding intern_reply interning
intern_reply_numbered t w s c ws = reply_numbered w s c (lent_numbered t w s c (λ ns a. then_numbered (decode_numbered (length ns) (length a) ws) (λ x. intern_numbered (length w) (length s) x a)))

pub simplify_reply_numbered : (t w s : List ℕ) (c : Counters) (root : ℕ) → Numbered (answer_of (simplify_reply t w s c root))
unfolding simplify_reply answered
simplify_reply_numbered t w s c root =
    reply_numbered w s c (lent_numbered t w s c (λ ns. rooted_numbered root (λ a. then_numbered (simplify_numbered (length w) (length s) root a) (λ q. value (record { root = q.root; made = length q.taken }, q.arena)))))

work_numbered : (f : Work) → ((words starts root : ℕ) → NumberedJob (f words starts root)) → (t w s : List ℕ) (c : Counters) (root : ℕ) → Numbered (answer_of (work_reply f t w s c root))
unfolding work_reply
work_numbered f h t w s c root = reply_numbered w s c (lent_numbered t w s c (λ ns. rooted_numbered root (h (length w) (length s) root)))

-- ---- `compact`, whose target may be over a limit
source_numbered : (t w s : List ℕ) (c : Counters) (root : ℕ) (tw ts : List ℕ) → Numbered (source t w s c root tw ts)
unfolding source limited
source_numbered t w s c root tw ts = lent_numbered t w s c (λ ns u. by_test Numbered (over_limit tw ts) (refusal (omega arith) (omega arith)) (rooted_numbered root (λ a. value a) u))

compacted_numbered : (root : ℕ) (tw ts : List ℕ) (d : Counters) {o : Out Arena} → Numbered o → Numbered (answer_of (compacted root tw ts d o))
unfolding compacted
compacted_numbered root tw ts d (value u) = reply_numbered (cleared tw) (cleared ts) empty (copy_numbered (length tw) (length ts) u root [])
compacted_numbered root tw ts d (refusal l m) = refusal l m

pub compact_numbered : (t w s : List ℕ) (c : Counters) (root : ℕ) (tw ts : List ℕ) (d : Counters) → Numbered (answer_of (compact_reply t w s c root tw ts d))
unfolding compact_reply
compact_numbered t w s c root tw ts d = compacted_numbered root tw ts d (source_numbered t w s c root tw ts)

-- ---- `fits`
fits_numbered : (t w s : List ℕ) (c : Counters) (root : ℕ) (ws : List ℕ) → Fitted (fits_reply t w s c root ws)
unfolding fits_reply lent_to tabled judged fits_root rooted fits_type
fits_numbered t w s c root ws =
    by_required Fitted refusals.BadTable (names_of t) (low refusals.BadTable (omega arith) (omega arith))
    (λ ns. by_required Fitted refusals.UnsoundArena (arena_of (length ns) w s c) (low refusals.UnsoundArena (omega arith) (omega arith))
    (λ a. by_test Fitted (ltb root (length a))
    (by_required Fitted refusals.MalformedFix (fix_of (length ns) ws) thirteen (λ f. by_test Fitted (has_type_vars a root) fourteen (fitted.numbered (value (fits f a root)))))
    (low refusals.NoSuchRoot (omega arith) (omega arith))))
  where
    low : (e : Refusal) → 0 < number_of e → number_of e ≤ 10 → Fitted {A = Bool} (Err e)
    low e l m = fitted.numbered (refusal l m)

-- ---- all of them
pub all_numbered : AllNumbered
all_numbered = record {
  table = table_numbered;
  name = name_numbered;
  find_name = find_numbered;
  compare = compare_numbered;
  ask = ask_numbered;
  equal = equal_numbered;
  display = display_numbered;
  display_nix = display_nix_numbered;
  write_sheet = write_sheet_numbered;
  convert_sheet = convert_numbered;
  intern = intern_reply_numbered;
  simplify = simplify_reply_numbered;
  normalize_vars = λ replacing. work_numbered (normalize replacing) (λ words starts. normalize_numbered words starts replacing);
  normalize_set_ops = work_numbered normalize_set_ops set_ops_numbered;
  compact = compact_numbered;
  import_from_arena = import_numbered;
  fits = fits_numbered;
}

-- ---- what a host knows of the number that it is told
module _ {A : Type 0} (old : A) where
  -- of an answer whose refusals have numbers from 1 to a highest
  zero_is_value : (highest : ℕ) (o : Out A) → ((n : Refusal) → o ≡ Err n → (0 < number_of n) × (number_of n ≤ highest)) → {r : ℕ} {x : A} → told r x ≡ tell old o → ZeroIsValue highest r x o
  zero_is_value highest (Ok y) h {r} e = let p : r ≡ 0 = cc in record { zero = λ q. cc; value = λ z q. cc; most = omega arith }
  zero_is_value highest (Err n) h {r} e =
      let p : r ≡ number_of n = cc in
      let k = h n refl in
      record { zero = λ q. absurd (omega (arith, p, q, k.0)); value = λ z q. absurd (ok_err q); most = omega (arith, p, k.1) }

  pub told_zero : (o : Out A) {r : ℕ} {x : A} → ToldZero old o r x
  told_zero o N = zero_is_value 10 o (λ n q. let M : Numbered (Err n) = rw q at N in (refusal_high M, refusal_low M))

  pub arena_zero : (y : Reply A) {r : ℕ} {x : A} {d : Counters} {w s : List ℕ} → ArenaZero old y r x d w s
  arena_zero (reply o c v u) N e = told_zero o N (cc)

  pub import_zero : (y : Reply A) {r : ℕ} {x : A} {d : Counters} {w s : List ℕ} → ImportZero old y r x d w s
  import_zero (reply o c v u) I e = zero_is_value 12 o (imported I) (cc)
    where
      imported : {o : Out A} → Imported o → (n : Refusal) → o ≡ Err n → (0 < number_of n) × (number_of n ≤ 12)
      imported (numbered N) n q = let M : Numbered (Err n) = rw q at N in (refusal_high M, omega (arith, refusal_low M))
      imported twelve n q = let p : 12 ≡ number_of n = ap number q in (omega (arith, p), omega (arith, p))

  pub fits_zero : (o : Out A) {r : ℕ} {x : A} → FitsZero old o r x
  fits_zero o F = zero_is_value 14 o (known F)
    where
      known : {o : Out A} → Fitted o → (n : Refusal) → o ≡ Err n → (0 < number_of n) × (number_of n ≤ 14)
      known (fitted.numbered N) n q = let M : Numbered (Err n) = rw q at N in (refusal_high M, omega (arith, refusal_low M))
      known thirteen n q = let p : 13 ≡ number_of n = ap number q in (omega (arith, p), omega (arith, p))
      known fourteen n q = let p : 14 ≡ number_of n = ap number q in (omega (arith, p), omega (arith, p))
