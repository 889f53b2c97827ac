-- A walk through a table from one name's length byte to the next.
use Prim.Native.Nat.{ℕ, zero, suc, ◌+◌, ◌-◌, ◌<◌, ◌≤◌, min}
use mathlib.Core.Path.{◌≡◌, refl, sym, ap, ◌∙◌}
use mathlib.Core.List.{List, [], ◌∷◌}
use native.Mathlib.Omega.{arith}
use native.Mathlib.Nat.{zero-min, min-zero, suc-min-suc}
use native.Mathlib.Numerals.{add-one}
use lib.ListN.{length, get_or, take, drop, length-append, length-drop, drop_of_length-le}
use lib.Seq.{drop-cons, drop-drop, drop-nil, get_or-drop, length-take-le}
use Rattle.names.specs.Table.{Name, table, split, name_text}
use Rattle.names.specs.Inner.{name_end, Lies}
use Rattle.names.proofs.Tables.{split_cons, split_nil}

-- the bytes that `&t[a..e]` lends
abbrev pub part : List ℕ → ℕ → ℕ → List ℕ
part t a e = take (e - a) (drop a t)

take_min : (n : ℕ) (l : List ℕ) → take (min n (length l)) l ≡ take n l
take_min zero l = rw zero-min
take_min (suc n) [] = rw min-zero
take_min (suc n) (x ∷ l) = rw suc-min-suc (ap (λ (r : List ℕ). x ∷ r) (take_min n l))

drop_min : (n : ℕ) (l : List ℕ) → drop (min n (length l)) l ≡ drop n l
drop_min zero l = rw zero-min
drop_min (suc n) [] = rw min-zero
drop_min (suc n) (x ∷ l) = rw suc-min-suc (drop_min n l)

-- the name that ends at e has its length byte at `at`
pub record Entry (t : List ℕ) (at e : ℕ) : Type 0 where
  pub low : at + 1 ≤ e
  pub high : e ≤ length t
  pub front : drop at t ≡ get_or t at 0 ∷ drop (at + 1) t
  pub text : part t (at + 1) e ≡ take (get_or t at 0) (drop (at + 1) t)
  pub rest : drop e t ≡ drop (get_or t at 0) (drop (at + 1) t)

module _ {t : List ℕ} {at e : ℕ} where
  pub entry : at < length t → e ≡ name_end t at → Entry t at e
  unfolding name_end
  entry h p =
      let b = get_or t at 0 in
      let l = drop (at + 1) t in
      let m : length l ≡ length t - (at + 1) = length-drop (at + 1) t in
      let k : e - (at + 1) ≡ min b (length l) = omega arith in
      let j : e ≡ at + 1 + min b (length l) = omega arith in
      record {
        low = omega arith;
        high = omega arith;
        front = drop-cons t at 0 h ∙ rw add-one;
        text = ap (λ (i : ℕ). take i l) k ∙ take_min b l;
        rest = ap (λ (i : ℕ). drop i t) j ∙ sym (drop-drop (min b (length l)) (at + 1) t) ∙ drop_min b l;
      }

-- it is the first of the names from its length byte on
pub split_entry : (t : List ℕ) (at : ℕ) {e : ℕ} → at < length t → e ≡ name_end t at → split (drop at t) ≡ part t (at + 1) e ∷ split (drop e t)
split_entry t at h p =
    let E = entry h p in
    ap split E.front ∙ split_cons (get_or t at 0) (drop (at + 1) t) ∙ sym (λ i. E.text i ∷ split (E.rest i))

-- the names from number k on are those from `left` on of what lies from `at` on, behind the bytes before
pub record Walk (t : List ℕ) (k at left : ℕ) : Type 0 where
  pub high : at ≤ length t
  pub after : drop k (split t) ≡ drop left (split (drop at t))
  pub before : length (table (take k (split t))) ≡ at + length (table (take left (split (drop at t))))

pub first_after : (k : ℕ) (ns : List Name) {ms : List Name} → drop k ns ≡ ms → get_or ns k [] ≡ get_or ms 0 []
first_after k ns e = ap (λ (j : ℕ). get_or ns j []) (omega arith) ∙ sym (get_or-drop k ns 0 []) ∙ ap (λ (l : List Name). get_or l 0 []) e

module _ {t : List ℕ} {k : ℕ} where
  pub walk_start : Walk t k 0 k
  walk_start = record { high = omega arith; after = refl; before = omega arith }

  module _ {at left e : ℕ} (W : Walk t k at left) where
    module _ (h : at < length t) (p : e ≡ name_end t at) where
      part_length : length (part t (at + 1) e) ≡ e - (at + 1)
      part_length = let E = entry h p in length-take-le (e - (at + 1)) (drop (at + 1) t) (simp length-drop (omega (arith, E.low, E.high)))

      pub walk_here : left ≡ 0 → Lies t k (record { start = at + 1; length = e - (at + 1) })
      unfolding name_text table
      walk_here z =
          let E = entry h p in
          let a : drop k (split t) ≡ split (drop at t) = W.after ∙ ap (λ (j : ℕ). drop j (split (drop at t))) z in
          let b : length (table (take k (split t))) ≡ at + 0 = W.before ∙ ap (λ (j : ℕ). at + length (table (take j (split (drop at t))))) z in
          record {
            within = omega (arith, E.low, E.high);
            text = sym (first_after k (split t) (a ∙ split_entry t at h p));
            behind = λ l. omega arith;
          }

      pub walk_more : (left ≡ 0 → ⊥) → Walk t k e (left - 1)
      unfolding table
      walk_more f =
          let E = entry h p in
          let j : left ≡ suc (left - 1) = omega arith in
          let n = part t (at + 1) e in
          let ns = split (drop e t) in
          let s = split_entry t at h p in
          let b : length (table (take k (split t))) ≡ at + length (table (n ∷ take (left - 1) ns)) = W.before ∙ (λ i. at + length (table (take (j i) (s i)))) in
          record {
            high = E.high;
            after = W.after ∙ (λ i. drop (j i) (s i));
            before = omega (arith, b, length-append n (table (take (left - 1) ns)), part_length, E.low);
          }

  pub walk_end : {at left : ℕ} → Walk t k at left → length t ≤ at → Lies t k (record { start = at; length = 0 })
  unfolding name_text
  walk_end {at} {left} W h =
      let a : drop k (split t) ≡ [] = W.after ∙ ap (λ (l : List ℕ). drop left (split l)) (drop_of_length-le t h) ∙ ap (drop left) split_nil ∙ drop-nil left in
      record {
        within = omega (arith, W.high);
        text = sym (first_after k (split t) a);
        behind = λ l. absurd (omega (arith, length-drop k (split t), ap length a));
      }
