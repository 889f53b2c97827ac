-- The names of a sheet, read by place: what a walk from one length byte to the next answers is what the readers say.
use Prim.Native.Nat.{ℕ, suc, ◌+◌, ◌-◌, ◌<◌, ◌≤◌}
use mathlib.Core.Path.{◌≡◌, sym, ap, ◌∙◌}
use mathlib.Core.Bool.{Bool, true, false}
use mathlib.Core.List.{List, [], ◌∷◌, ◌++◌}
use native.Mathlib.Omega.{arith}
use native.Mathlib.Numerals.{add-one}
use lib.ListN.{length, get_or, take, drop, length-append, length-drop, drop_of_length-le}
use lib.Seq.{drop-cons, drop-drop, take_at}
use Rattle.std.specs.Prelude.{Ok, Err}
use Rattle.types.specs.declared.refusal.Refusal.TheVariants as refusal
use Rattle.types.specs.declared.refusal.Refusal.{Refusal}
use Rattle.types.specs.Out.{Out}
use Rattle.names.specs.Table.{Name, may_follow}
use Rattle.names.proofs.Walking.{part}
use Rattle.sheet_reading.specs.Sheet.{last, name, names}
use Rattle.sheet_reading.specs.Inner.Steps.{Here, ReadsName, ReadsNames}
use Rattle.sheet_reading.proofs.Readers.{got, refused, reads_to, reads_stop}
use Rattle.sheet_reading.proofs.Naming.{name_none, name_small, name_large, name_cut, name_judged, name_is, last_more, names_stop, names_next}

-- ---- one name
module _ (bytes previous : List ℕ) (at : ℕ) where
  pub name_missing : length bytes ≤ at → ReadsName bytes previous at (Err refusal.MalformedSheet)
  name_missing h = record { is = reads_stop (ap (name previous) (drop_of_length-le bytes h) ∙ name_none previous) }

  module _ (l : at < length bytes) where
    front : drop at bytes ≡ get_or bytes at 0 ∷ drop (at + 1) bytes
    front = drop-cons bytes at 0 l ∙ rw add-one

    at_front : {o : Out (Name × List ℕ)} → name previous (get_or bytes at 0 ∷ drop (at + 1) bytes) ≡ o → name previous (drop at bytes) ≡ o
    at_front e = ap (name previous) front ∙ e

    pub length_small : get_or bytes at 0 < 1 → ReadsName bytes previous at (Err refusal.BadTable)
    length_small h = record { is = reads_stop (at_front (name_small previous _ _ h)) }

    pub length_large : 64 < get_or bytes at 0 → ReadsName bytes previous at (Err refusal.BadTable)
    length_large h = record { is = reads_stop (at_front (name_large previous _ _ h)) }

    module _ (p : 1 ≤ get_or bytes at 0) (q : get_or bytes at 0 ≤ 64) {w : ℕ} (e : w ≡ get_or bytes at 0) where
      pub text_missing : length bytes - (at + 1) < w → ReadsName bytes previous at (Err refusal.MalformedSheet)
      text_missing h = record { is = reads_stop (at_front (name_cut previous _ _ p q (omega (arith, h, e, length-drop (at + 1) bytes)))) }

      module _ (h : w ≤ length bytes - (at + 1)) {v : Bool} (f : v ≡ may_follow previous (get_or bytes at 0) (part bytes (at + 1) (at + 1 + w))) where
        whole : may_follow previous (get_or bytes at 0) (take (get_or bytes at 0) (drop (at + 1) bytes)) ≡ v
        whole =
            let i : at + 1 + w - (at + 1) ≡ get_or bytes at 0 = omega (arith, e) in
            sym (f ∙ ap (λ (j : ℕ). may_follow previous (get_or bytes at 0) (take j (drop (at + 1) bytes))) i)

        enough : get_or bytes at 0 ≤ length (drop (at + 1) bytes)
        enough = omega (arith, h, e, length-drop (at + 1) bytes)

        pub name_follows : v ≡ true → ReadsName bytes previous at (Ok (at + 1 + w))
        name_follows y =
            let j : at + 1 + get_or bytes at 0 ≡ at + 1 + w = omega (arith, e) in
            record {
              is = reads_to {v = take (get_or bytes at 0) (drop (at + 1) bytes)}
                  (at_front (name_judged previous _ _ p q enough (whole ∙ y))
                  ∙ ap (λ (u : List ℕ). Ok (take (get_or bytes at 0) (drop (at + 1) bytes), u)) (drop-drop (get_or bytes at 0) (at + 1) bytes ∙ ap (λ (i : ℕ). drop i bytes) j))
                  (omega arith)
                  (omega (arith, h, l));
            }

        pub name_refused : v ≡ false → ReadsName bytes previous at (Err refusal.BadTable)
        name_refused y = record { is = reads_stop (at_front (name_judged previous _ _ p q enough (whole ∙ y))) }

-- ---- the loop: what is left to read goes on from the names read so far
pub record Turn (bytes : List ℕ) (first count from at left : ℕ) : Type 0 where
  pub read : List Name
  pub low : from ≤ at
  pub start : first ≤ at
  pub high : at ≤ length bytes
  pub previous : last read ≡ part bytes from at
  pub same : names count [] (drop first bytes) ≡ names left read (drop at bytes)

module _ {bytes : List ℕ} {first count : ℕ} where
  pub turn_start : Here bytes first → Turn bytes first count first first (count - 0)
  unfolding last
  turn_start H =
      let z : first - first ≡ 0 = omega arith in
      record {
        read = [];
        low = omega arith;
        start = omega arith;
        high = H.inside;
        previous = sym (ap (λ (i : ℕ). take i (drop first bytes)) z);
        same = let e : count ≡ count - 0 = omega arith in ap (λ (k : ℕ). names k [] (drop first bytes)) e;
      }

  module _ {from at left : ℕ} (T : Turn bytes first count from at left) where
    pub turn_here : Here bytes at
    turn_here = record { inside = T.high }

  module _ {from at i : ℕ} (T : Turn bytes first count from at (count - i)) where
    module _ (h : i < count) {r : Out ℕ} (R : ReadsName bytes (part bytes from at) at r) where
      left_is : count - i ≡ suc (count - i - 1)
      left_is = omega (arith, h)

      name_here : {o : Out (Name × List ℕ)} → name (part bytes from at) (drop at bytes) ≡ o → name (last T.read) (drop at bytes) ≡ o
      name_here p = ap (λ (n : Name). name n (drop at bytes)) T.previous ∙ p

      names_here : {o : Out (List Name × List ℕ)} → names (suc (count - i - 1)) T.read (drop at bytes) ≡ o → names count [] (drop first bytes) ≡ o
      names_here p = T.same ∙ ap (λ (k : ℕ). names k T.read (drop at bytes)) left_is ∙ p

      pub turn_stop : {e : Refusal} → r ≡ Err e → ReadsNames bytes first count (Err e)
      turn_stop p = record { is = reads_stop (names_here (names_stop (count - i - 1) T.read (drop at bytes) (name_here (refused R.is p)))) }

      pub turn_more : {e : ℕ} → r ≡ Ok e → Turn bytes first count (at + 1) e (count - (i + 1))
      turn_more {e} p =
          let g : count - i - 1 ≡ count - (i + 1) = omega arith in
          let G = got R.is p in
          let n = G.says in
          let N = name_is (part bytes from at) (drop at bytes) (n, drop e bytes) G.is in
          let s : length bytes - at ≡ 1 + (length n + (length bytes - e)) = omega (arith, length-drop at bytes, length-drop e bytes, ap length N.front, length-append n (drop e bytes)) in
          let d : drop (at + 1) bytes ≡ n ++ drop e bytes = sym (drop-drop 1 at bytes) ∙ ap (drop 1) N.front in
          record {
            read = T.read ++ (n ∷ []);
            low = omega (arith, s, G.high, T.high);
            start = omega (arith, T.start, G.low);
            high = G.high;
            previous = last_more T.read n ∙ sym (ap (take (e - (at + 1))) d ∙ take_at n (drop e bytes) (e - (at + 1)) (omega (arith, s, G.high, T.high)));
            same = names_here (names_next (count - i - 1) T.read (drop at bytes) (name_here G.is)) ∙ ap (λ (k : ℕ). names k (T.read ++ (n ∷ [])) (drop e bytes)) g;
          }

    pub turn_done : count ≤ i → ReadsNames bytes first count (Ok at)
    unfolding names
    turn_done h =
        let z : count - i ≡ 0 = omega (arith, h) in
        record { is = reads_to {v = T.read} (T.same ∙ ap (λ (k : ℕ). names k T.read (drop at bytes)) z) T.start T.high }
