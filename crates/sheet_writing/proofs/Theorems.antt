-- What `write_sheet` wrote is read as what it was lent; and with that all theorems.
use Prim.Native.Nat.{ℕ, ◌<◌, ◌≤◌, min}
use mathlib.Core.Path.{◌≡◌, refl, sym, ap, ◌∙◌, subst}
use mathlib.Core.List.{List, ◌++◌}
use mathlib.Core.Option.{Option, none, some}
use native.Mathlib.Omega.{arith}
use lib.ListN.{length, take, drop}
use lib.Seq.{take_at}
use lib.Dec.{leb, ltb}
use borrow.Author.Tests.{leb-true, ltb-true}
use Rattle.words.specs.declared.Layout.TheVariants as layout
use Rattle.std.specs.Prelude.{Ok, Err}
use Rattle.types.specs.declared.refusal.Refusal.{Refusal}
use Rattle.types.specs.declared.refusal.Refusal.TheVariants as refusal
use Rattle.types.specs.Out.{Out, required, ◌>>=◌}
use Rattle.types.specs.Arena.{Arena}
use Rattle.types.specs.Memory.{Holds, arena_of}
use Rattle.types.specs.Reply.{tabled, judged, rooted}
use Rattle.types.specs.declared.Counters.{Counters}
use Rattle.types.proofs.Addresses.{word_room, start_room}
use Rattle.types.proofs.Memories.{holds_arena_of}
use Rattle.names.specs.Table.{Name, split, names_of, IsTable}
use Rattle.names.proofs.Tables.{split_is, names_of_is}
use Rattle.walks.specs.Asked.{asking, ask_reply}
use Rattle.display.specs.Reply.{reply}
use Rattle.sheet_reading.proofs.Readers.{same_value, never_refused}
use Rattle.sheet_writing.specs.Bytes.{sheet_bytes}
use Rattle.sheet_writing.specs.Reply.{bytes_with, fitting, reply_of, write_sheet_reply}
use Rattle.sheet_writing.specs.Theorems.{GoodSheet, ReadAgain, ReadsWritten}
use Rattle.sheet_writing.proofs.Reading.{read_back}
use Rattle.sheet_writing.proofs.Accepting.{steps, passed, accepted}

-- ---- what an answer that is a value came through
record There {A B : Type 0} (o : Option A) (f : A → Out B) (v : B) : Type 0 where
  pub first : A
  pub is : o ≡ some first
  pub next : f first ≡ Ok v

there : {A B : Type 0} (e : Refusal) (o : Option A) (f : A → Out B) (v : B) → required e o f ≡ Ok v → There o f v
unfolding required
there e (some a) f v p = record { first = a; is = refl; next = p }
there e none f v p = absurd (never_refused p refl)

record Put (b : List ℕ) (o : Out (List ℕ)) (n : ℕ) (b' : List ℕ) : Type 0 where
  pub sheet : List ℕ
  pub is : o ≡ Ok sheet
  pub front : take n b' ≡ sheet

put : (b : List ℕ) (o : Out (List ℕ)) (n : ℕ) (b' : List ℕ) → reply_of b o ≡ reply (Ok n) b' → Put b o n b'
unfolding reply_of
put b (Ok x) n b' p =
    let l : length x ≡ n = cc in
    let e : x ++ drop (length x) b ≡ b' = cc in
    record { sheet = x; is = refl; front = ap (take n) (sym e) ∙ take_at x (drop (length x) b) n l }
put b (Err e) n b' p = let z : ◌≡◌ {A = ℕ} 0 1 = cc in absurd (omega arith)

-- ---- what was lent is a good sheet
module _ (t w s : List ℕ) (c : Counters) (root : ℕ) (b : List ℕ) (n : ℕ) (b' : List ℕ) where
  again : (ns : List Name) (a : Arena) → IsTable t ns → Holds (length ns) w s c a → root < length a → (x : List ℕ) → bytes_with (split t) a root ≡ x → length x ≤ 65536 → ReadAgain t w s c root x
  unfolding bytes_with
  again ns a T H l x e h =
      let p : sheet_bytes (record { names = ns; arena = a; root = root }) ≡ x = ap (λ (m : List Name). sheet_bytes (record { names = m; arena = a; root = root })) (sym (split_is T)) ∙ e in
      let G : GoodSheet layout.New (record { names = ns; arena = a; root = root }) = record {
        table = T.good;
        arena = H.good;
        few_words = omega (arith, word_room H, H.total, H.few_words);
        few_nodes = omega (arith, start_room H, H.nodes, H.few_starts);
        root = l;
        few_bytes = omega (arith, ap length p, h);
      } in
      record { names = ns; arena = a; table = T; holds = H; is = rw (← p) (read_back (record { names = ns; arena = a; root = root }) G) }

  lent_again : (x : List ℕ) → ask_reply (bytes_with (split t)) t w s c root ≡ Ok x → length x ≤ 65536 → ReadAgain t w s c root x
  unfolding ask_reply tabled judged asking rooted
  lent_again x e h =
      let q = bytes_with (split t) in
      let N = there refusal.BadTable (names_of t) (λ (ns : List Name). judged (length ns) w s c (asking q root)) x e in
      let ns = N.first in
      let A = there refusal.UnsoundArena (arena_of (length ns) w s c) (asking q root) x N.next in
      let a = A.first in
      let inside = passed refusal.NoSuchRoot (ltb root (length a)) (Ok (q a root)) x A.next in
      again ns a (names_of_is t ns N.is) (holds_arena_of A.is) (ltb-true root (length a) inside.0) x (same_value inside.1) h

  fitting_is : (x y : List ℕ) → fitting b x ≡ Ok y → (length x ≤ 65536) × (x ≡ y)
  unfolding fitting
  fitting_is x y e =
      let p = passed refusal.TextTooLong (leb (length x) (min (length b) 65536)) (Ok x) y e in
      (omega (arith, leb-true (length x) (min (length b) 65536) p.0), same_value p.1)

  read_again : write_sheet_reply t w s c root b ≡ reply (Ok n) b' → ReadAgain t w s c root (take n b')
  unfolding write_sheet_reply
  read_again e =
      let o = ask_reply (bytes_with (split t)) t w s c root in
      let P = put b (o >>= fitting b) n b' e in
      let F = steps o (fitting b) P.sheet P.is in
      let f = fitting_is F.first P.sheet F.next in
      subst (ReadAgain t w s c root) (f.1 ∙ sym P.front) (lent_again F.first F.is f.0)

pub reads_written : ReadsWritten
reads_written = record { read_back = read_back; accepted = accepted; read_again = read_again }
