-- What `display_in` leaves in 65,536 lent bytes is the text of the definition, or 9: its two limits are one there.
use Prim.Native.Nat.{ℕ, ◌≤◌, min}
use mathlib.Core.Path.{◌≡◌, refl, sym, ap, ◌∙◌}
use mathlib.Core.Bool.{Bool, true, false}
use mathlib.Core.List.{List, ◌++◌}
use native.Mathlib.Omega.{arith}
use lib.ListN.{length, take, drop, replicate, length-append}
use lib.Seq.{take_at}
use lib.Dec.{leb}
use borrow.Author.Tests.{leb-true}
use Rattle.std.specs.Prelude.{Ok, Err}
use Rattle.types.specs.declared.refusal.Refusal.{Refusal}
use Rattle.types.specs.declared.refusal.Refusal.TheVariants as refusal
use Rattle.types.specs.Out.{Out}
use Rattle.display.specs.Reply.{Reply, reply, displaying, left}
use Rattle.sheet_format.specs.Line.{limited}

limited_is : (x : List ℕ) {b : Bool} → leb (length x) 65536 ≡ b → limited x ≡ elim b as (λ _. Out (List ℕ)) [ true ↦ Ok x | false ↦ Err refusal.TextTooLong ]
unfolding limited
limited_is x e = rw (e, limited)

-- the first n bytes are the text x, which is within the limit
pub record TextFits (text x : List ℕ) (n : ℕ) : Type 0 where
  pub limit : limited x ≡ Ok x
  pub is : take n text ≡ x
  pub inside : n ≤ length text
  pub few : n ≤ 65536

-- the two limits are one
displaying_is : (text x : List ℕ) {b : Bool} → length text ≡ 65536 → leb (length x) 65536 ≡ b → displaying text x ≡ elim b as (λ _. Reply) [ true ↦ reply (Ok (length x)) (x ++ drop (length x) text) | false ↦ reply (Err refusal.TextTooLong) (replicate (length text) 0) ]
unfolding displaying
displaying_is text x {b} size e = let m : min (length text) 65536 ≡ 65536 = rw size in rw (m, e, displaying)

module _ (text x : List ℕ) (size : length text ≡ 65536) {text' : List ℕ} {p : Out ℕ} where
  pub text_fits : {n : ℕ} → p ≡ Ok n → left p text' ≡ displaying text x → TextFits text' x n
  text_fits {n} v e = go (leb (length x) 65536) refl
    where
      go : (b : Bool) → leb (length x) 65536 ≡ b → TextFits text' x n
      go true h =
          let f : reply (Ok n) text' ≡ reply (Ok (length x)) (x ++ drop (length x) text) = ap (λ (q : Out ℕ). left q text') (sym v) ∙ e ∙ displaying_is text x size h in
          let m : n ≡ length x = cc in
          let g : text' ≡ x ++ drop (length x) text = cc in
          let l = leb-true (length x) 65536 h in
          record {
            limit = limited_is x h;
            is = ap (take n) g ∙ take_at x (drop (length x) text) n (sym m);
            inside = omega (arith, m, ap length g, length-append x (drop (length x) text));
            few = omega (arith, m, l);
          }
      go false h =
          let f : reply (Ok n) text' ≡ reply (Err refusal.TextTooLong) (replicate (length text) 0) = ap (λ (q : Out ℕ). left q text') (sym v) ∙ e ∙ displaying_is text x size h in
          let z : ◌≡◌ {A = ℕ} 0 1 = cc in absurd (omega arith)

  pub text_over : {u : Refusal} → p ≡ Err u → left p text' ≡ displaying text x → limited x ≡ Err u
  text_over {u} v e = go (leb (length x) 65536) refl
    where
      go : (b : Bool) → leb (length x) 65536 ≡ b → limited x ≡ Err u
      go true h =
          let f : reply (Err u) text' ≡ reply (Ok (length x)) (x ++ drop (length x) text) = ap (λ (q : Out ℕ). left q text') (sym v) ∙ e ∙ displaying_is text x size h in
          let z : ◌≡◌ {A = ℕ} 0 1 = cc in absurd (omega arith)
      go false h =
          let f : reply (Err u) text' ≡ reply (Err refusal.TextTooLong) (replicate (length text) 0) = ap (λ (q : Out ℕ). left q text') (sym v) ∙ e ∙ displaying_is text x size h in
          let m : u ≡ refusal.TextTooLong = cc in limited_is x h ∙ ap Err (sym m)
