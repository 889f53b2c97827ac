-- The check of a table, name after name: the bytes are a table exactly if those that are left go on with it, whatever the bytes of the names are, and its odd bytes are as many as its odd length bytes.
use Prim.Native.Nat.{ℕ, ◌+◌, ◌<◌, ◌≤◌}
use mathlib.Core.Path.{◌≡◌, refl, sym, ap, ap₂, ◌∙◌}
use mathlib.Core.Bool.{Bool, true, false, not, ◌&&◌}
use mathlib.Core.List.{List, [], ◌∷◌, ◌++◌}
use native.Mathlib.Omega.{arith}
use mir.Syntax.{w32}
use mir.Val.{Fits}
use lib.ListN.{length, get_or, take, drop, take-append-drop, drop_of_length-le}
use lib.Seq.{take_at, drop_at}
use lib.Dec.{leb}
use borrow.Author.Tests.{leb-true, le-leb, not-true, not-false}
use Rattle.words.specs.declared.Layout.TheVariants as layout
use Rattle.std.specs.Prelude.{Ok, Err}
use Rattle.types.specs.declared.refusal.Refusal.TheVariants as refusal
use Rattle.types.specs.Out.{Out, required}
use Rattle.types.proofs.Tests.{true_false, and_true, both}
use Rattle.types.specs.Order.{is_less}
use Rattle.names.specs.Table.{Name, table, name_order, rising, good_name, all_good, IsTable, split}
use Rattle.names.specs.Inner.{odd, odd_bytes, comes_next, name_end}
use Rattle.names.specs.Reply.{table_reply}
use Rattle.names.proofs.Tables.{split_table, split_is, is_names_of, no_names_of}
use Rattle.names.proofs.Replies.{reply_of}
use Rattle.names.proofs.Rules.{good_name_is, good_rules, rules_good, rising_rest}
use Rattle.names.proofs.OddBytes.{odd_small, odd_append, printable_none}
use Rattle.names.proofs.Following.{Comes, comes_is, is_comes, sized_good}
use Rattle.names.proofs.Walking.{part, entry}

-- ---- names of the right size, and their length bytes that are odd
pub all_sized : List Name → Bool
all_sized [] = true
all_sized (n ∷ ns) = leb 1 (length n) && (leb (length n) 64 && all_sized ns)

pub odd_lengths : List Name → ℕ
odd_lengths [] = 0
odd_lengths (n ∷ ns) = odd (length n) + odd_lengths ns

-- the odd bytes of a table are these and those of its names
odd_table : (n : Name) (ns : List Name) → odd_bytes (table (n ∷ ns)) ≡ odd (length n) + (odd_bytes n + odd_bytes (table ns))
unfolding table odd_bytes
odd_table n ns = ap (λ (k : ℕ). odd (length n) + k) (odd_append n (table ns))

odd_least : (ns : List Name) → odd_lengths ns ≤ odd_bytes (table ns)
unfolding odd_lengths
odd_least [] = omega arith
odd_least (n ∷ ns) = omega (arith, odd_table n ns, odd_least ns)

good_sized : (ns : List Name) → all_good ns ≡ true → all_sized ns ≡ true
unfolding all_good all_sized
good_sized [] e = refl
good_sized (n ∷ ns) e =
    let p = and_true (good_name n) (all_good ns) e in
    let G = good_name_is n p.0 in
    both (le-leb 1 (length n) G.some_byte) (both (le-leb (length n) 64 G.short) (good_sized ns p.1))

good_odd : (ns : List Name) → all_good ns ≡ true → odd_bytes (table ns) ≡ odd_lengths ns
unfolding all_good odd_lengths table odd_bytes
good_odd [] e = refl
good_odd (n ∷ ns) e =
    let p = and_true (good_name n) (all_good ns) e in
    omega (arith, odd_table n ns, printable_none n (good_name_is n p.0).each, good_odd ns p.1)

all_are_good : (ns : List Name) → all_sized ns ≡ true → odd_bytes (table ns) ≡ odd_lengths ns → all_good ns ≡ true
unfolding all_good all_sized odd_lengths
all_are_good [] e f = refl
all_are_good (n ∷ ns) e f =
    let p = and_true (leb 1 (length n)) (leb (length n) 64 && all_sized ns) e in
    let q = and_true (leb (length n) 64) (all_sized ns) p.1 in
    let o = odd_table n ns in
    let l = odd_least ns in
    both (sized_good n (leb-true _ _ p.0) (leb-true _ _ q.0) (omega (arith, f, o, l))) (all_are_good ns q.1 (omega (arith, f, o, l)))

-- ---- the bytes u go on with the names ns, whatever the bytes of these are, after n others of which `last` was the last
pub record Rest (n : ℕ) (last : Name) (u : List ℕ) (ns : List Name) : Type 0 where
  pub bytes : u ≡ table ns
  pub few : n + length ns ≤ 4096
  pub sized : all_sized ns ≡ true
  pub rises : rising (last ∷ ns) ≡ true

-- the empty text comes before every name that isn't empty, so the first may follow it
from_nothing : (ns : List Name) → all_sized ns ≡ true → rising ns ≡ true → rising ([] ∷ ns) ≡ true
unfolding all_sized rising
from_nothing [] g e = refl
from_nothing ([] ∷ ns) g e = absurd (true_false (sym g))
from_nothing ((b ∷ n) ∷ ns) g e = e

table_rest : {t : List ℕ} {ns : List Name} → IsTable t ns → Rest 0 [] t ns
table_rest {ns = ns} T =
    let R = good_rules layout.New ns T.good in
    let S = good_sized ns R.good in
    record { bytes = T.bytes; few = omega (arith, R.few); sized = S; rises = from_nothing ns S R.rises }

rest_table : {t : List ℕ} {ns : List Name} → length t ≤ 65536 → Rest 0 [] t ns → odd_bytes t ≡ odd_lengths ns → IsTable t ns
rest_table {ns = ns} h R e =
    let g = all_are_good ns R.sized (ap odd_bytes (sym R.bytes) ∙ e) in
    let s : length (table ns) ≤ 65536 = rw R.bytes at h in
    record { bytes = R.bytes; good = rules_good layout.New ns (record { few = omega (arith, R.few); short = s; good = g; rises = rising_rest [] ns R.rises }) }

-- such bytes are the table of no other names
rest_odd : {t : List ℕ} {ns ms : List Name} → Rest 0 [] t ns → IsTable t ms → odd_bytes t ≡ odd_lengths ns
rest_odd {ns = ns} {ms} R T =
    let s : ms ≡ ns = sym (split_is T) ∙ ap split R.bytes ∙ split_table ns in
    ap odd_bytes T.bytes ∙ good_odd ms (good_rules layout.New ms T.good).good ∙ ap odd_lengths s

-- ---- one name more
pub record Step (n : ℕ) (last : Name) (b : ℕ) (u : List ℕ) : Type 0 where
  pub comes : comes_next last b (take b u) ≡ true
  pub room : n < 4096
  pub after : List Name
  pub rest : Rest (n + 1) (take b u) (drop b u) after

step : {n : ℕ} {last : Name} {b : ℕ} {u : List ℕ} (ns : List Name) → Rest n last (b ∷ u) ns → Step n last b u
unfolding table all_sized rising
step [] R = let e = R.bytes in let z : ◌≡◌ {A = ℕ} 0 1 = cc in absurd (omega arith)
step {n} {last} {b} {u} (m ∷ ns) R =
    let e = R.bytes in
    let p : b ≡ length m = cc in
    let q : u ≡ m ++ table ns = cc in
    let i : take b u ≡ m = ap₂ take p q ∙ take_at m (table ns) (length m) refl in
    let j : drop b u ≡ table ns = ap₂ drop p q ∙ drop_at m (table ns) (length m) refl in
    let g = and_true (leb 1 (length m)) (leb (length m) 64 && all_sized ns) R.sized in
    let h = and_true (leb (length m) 64) (all_sized ns) g.1 in
    let r = and_true (is_less (name_order last m)) (rising (m ∷ ns)) R.rises in
    record {
      comes = rw i (is_comes last b m (record { whole = p; some_byte = leb-true _ _ g.0; short = leb-true _ _ h.0; rises = r.0 }));
      room = omega (arith, R.few);
      after = ns;
      rest = rw i (record { bytes = j; few = omega (arith, R.few); sized = h.1; rises = r.1 });
    }

unstep : {n : ℕ} {last : Name} {b : ℕ} {u : List ℕ} {ns : List Name} → Comes last b (take b u) → Rest (n + 1) (take b u) (drop b u) ns → Rest n last (b ∷ u) (take b u ∷ ns)
unfolding table all_sized rising
unstep {b = b} {u = u} C R =
    record {
      bytes = ap₂ ◌∷◌ C.whole (sym (take-append-drop b u) ∙ ap (λ (l : List ℕ). take b u ++ l) R.bytes);
      few = omega (arith, R.few);
      sized = both (le-leb 1 (length (take b u)) C.some_byte) (both (le-leb (length (take b u)) 64 C.short) R.sized);
      rises = both C.rises R.rises;
    }

-- ---- the loop: what is left decides, and then the odd bytes
pub record Stage (t : List ℕ) (from at n k : ℕ) : Type 0 where
  pub low : from ≤ at
  pub high : at ≤ length t
  pub short : length t ≤ 65536
  pub few : n ≤ 4096
  pub fewer : k ≤ n
  pub forth : (ns : List Name) → Rest n (part t from at) (drop at t) ns → odd_bytes t ≡ k + odd_lengths ns → table_reply t ≡ Ok (n + length ns)
  pub other : (ns : List Name) → Rest n (part t from at) (drop at t) ns → (odd_bytes t ≡ k + odd_lengths ns → ⊥) → table_reply t ≡ Err refusal.BadTable
  pub back : ((ns : List Name) → Rest n (part t from at) (drop at t) ns → ⊥) → table_reply t ≡ Err refusal.BadTable

pub stage_long : (t : List ℕ) → 65536 < length t → Err refusal.BadTable ≡ table_reply t
unfolding required
stage_long t h = sym (reply_of t (no_names_of (λ ns T. omega (arith, ap length T.bytes, (good_rules layout.New ns T.good).short))))

module _ {t : List ℕ} where
  pub stage_start : length t ≤ 65536 → Stage t 0 0 0 0
  unfolding required
  stage_start h = record {
    low = omega arith;
    high = omega arith;
    short = h;
    few = omega arith;
    fewer = omega arith;
    forth = λ ns R e. reply_of t (is_names_of (rest_table h R (omega (arith, e)))) ∙ ap {B = Out ℕ} Ok (omega arith);
    other = λ ns R f. reply_of t (no_names_of (λ ms T. f (omega (arith, rest_odd R T))));
    back = λ f. reply_of t (no_names_of (λ ns T. f ns (table_rest T)));
  }

  module _ {from at n k : ℕ} (S : Stage t from at n k) where
    module _ (h : length t ≤ at) where
      nothing_left : Rest n (part t from at) (drop at t) []
      unfolding table all_sized rising
      nothing_left = record { bytes = drop_of_length-le t h; few = omega (arith, S.few); sized = refl; rises = refl }

      module _ {x : ℕ} (e : x ≡ odd_bytes t) where
        pub stage_odd : (x ≡ k → ⊥) → Err refusal.BadTable ≡ table_reply t
        unfolding odd_lengths
        stage_odd f = sym (S.other [] nothing_left (λ g. f (omega (arith, e, g))))

        pub stage_done : x ≡ k → Ok n ≡ table_reply t
        unfolding odd_lengths
        stage_done f = sym (S.forth [] nothing_left (omega (arith, e, f)) ∙ ap {B = Out ℕ} Ok (omega arith))

    module _ (h : at < length t) where
      next : {ns : List Name} → Rest n (part t from at) (drop at t) ns → Step n (part t from at) (get_or t at 0) (drop (at + 1) t)
      next {ns} R = step ns (rw (entry {e = name_end t at} h refl).front at R)

      pub stage_full : 4096 ≤ n → Err refusal.BadTable ≡ table_reply t
      stage_full m = sym (S.back (λ ns R. omega (arith, (next R).room)))

      pub stage_fits : n < 4096 → {x : ℕ} → x ≡ odd (get_or t at 0) → Fits w32 (k + x)
      stage_fits m o = omega (arith, odd_small (get_or t at 0), S.fewer, m, o)

      module _ {e : ℕ} (p : e ≡ name_end t at) {r : Bool} (q : r ≡ comes_next (part t from at) (get_or t at 0) (part t (at + 1) e)) where
        comes_in : r ≡ comes_next (part t from at) (get_or t at 0) (take (get_or t at 0) (drop (at + 1) t))
        comes_in = q ∙ ap (comes_next (part t from at) (get_or t at 0)) (entry h p).text

        pub stage_bad : not r ≡ true → Err refusal.BadTable ≡ table_reply t
        stage_bad f = sym (S.back (λ ns R. true_false (sym (next R).comes ∙ sym comes_in ∙ not-true r f)))

        module _ (f : not r ≡ false) where
          comes : Comes (part t from at) (get_or t at 0) (take (get_or t at 0) (drop (at + 1) t))
          comes = comes_is _ _ _ (sym comes_in ∙ not-false r f)

          before : {ns : List Name} → Rest (n + 1) (part t (at + 1) e) (drop e t) ns → Rest n (part t from at) (drop at t) (take (get_or t at 0) (drop (at + 1) t) ∷ ns)
          before R = let E = entry h p in rw E.front (unstep comes (rw (E.text, E.rest) at R))

          length_odd : (ns : List Name) → odd_lengths (take (get_or t at 0) (drop (at + 1) t) ∷ ns) ≡ odd (get_or t at 0) + odd_lengths ns
          unfolding odd_lengths
          length_odd ns = ap (λ (b : ℕ). odd b + odd_lengths ns) (sym comes.whole)

          pub stage_more : n < 4096 → {x : ℕ} → x ≡ odd (get_or t at 0) → Stage t (at + 1) e (n + 1) (k + x)
          stage_more m o =
              let E = entry h p in
              record {
                low = E.low;
                high = E.high;
                short = S.short;
                few = omega arith;
                fewer = omega (arith, odd_small (get_or t at 0), S.fewer, o);
                forth = λ ns R g. S.forth _ (before R) (omega (arith, g, o, length_odd ns)) ∙ ap {B = Out ℕ} Ok (omega arith);
                other = λ ns R f. S.other _ (before R) (λ g. f (omega (arith, g, o, length_odd ns)));
                back = λ f. S.back (λ ns R. let N = next R in f N.after (rw (E.text, E.rest) N.rest));
              }
