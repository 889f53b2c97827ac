-- The words of the next node: where its head says that it ends, and that they are few.
use Prim.Native.Nat.{ℕ, suc, ◌+◌, ◌*◌, ◌-◌, ◌<◌, ◌≤◌}
use mathlib.Core.Path.{◌≡◌, refl, sym, ap, ◌∙◌, subst}
use mathlib.Core.Bool.{Bool, true, false}
use mathlib.Core.List.{List}
use mathlib.Core.Option.{Option, none, some}
use native.Mathlib.Omega.{arith}
use lib.ListN.{length, take, drop, length-drop}
use lib.Seq.{drop-drop}
use lib.Dec.{eqb, leb}
use borrow.Author.Tests.{leb-true, leb-false}
use Rattle.words.specs.Words.{head_kind, head_open, head_dynamic, head_zero, head_count}
use Rattle.std.specs.Prelude.{Ok, Err}
use Rattle.types.specs.declared.refusal.Refusal.{Refusal}
use Rattle.types.specs.declared.refusal.Refusal.TheVariants as refusal
use Rattle.types.specs.Out.{Out, ◌>>=◌}
use Rattle.types.specs.Kind.{Kind, kind_of, body_of, body_count}
use Rattle.types.specs.Fault.{flags_fit, kind_fits, head_fits}
use Rattle.types.proofs.Tests.{true_false, and_true}
use Rattle.types.proofs.Nodes.{few_words}
use Rattle.sheet_reading.specs.Sheet.{value, words, node_length, measured, node_words}
use Rattle.sheet_reading.specs.Inner.Steps.{WordAt, ReadsWords}
use Rattle.sheet_reading.proofs.Readers.{same_value, never_refused, several_yes, several_no, number_yes, number_no, reads_to, reads_stop}

-- a head that fits counts at most 65 words
head_few : (h : ℕ) → head_fits h ≡ true → head_count h ≤ 65
unfolding head_fits
head_few h e = go (kind_of (head_kind h)) (and_true (eqb (head_zero h) 0) (kind_fits (kind_of (head_kind h)) (head_open h) (head_dynamic h) (head_count h)) e).1
  where
    go : (k : Option Kind) → kind_fits k (head_open h) (head_dynamic h) (head_count h) ≡ true → head_count h ≤ 65
    go none p = absurd (true_false (sym p))
    go (some k) p = few_words k (head_dynamic h) (head_count h) (and_true (flags_fit (body_of k) (head_open h) (head_dynamic h)) (body_count k (head_dynamic h) (head_count h)) p).1

module _ (bs : List ℕ) where
  pub measured_none : length bs < 4 → measured bs ≡ Err refusal.MalformedSheet
  unfolding measured
  measured_none h = ap (λ (o : Out (ℕ × List ℕ)). o >>= λ (w : ℕ × List ℕ). node_length w.0) (number_no 4 bs h)

  module _ (h : 4 ≤ length bs) where
    measured_is : measured bs ≡ node_length (value (take 4 bs))
    unfolding measured
    measured_is = ap (λ (o : Out (ℕ × List ℕ)). o >>= λ (w : ℕ × List ℕ). node_length w.0) (number_yes 4 bs h)

    pub measured_bad : head_fits (value (take 4 bs)) ≡ false → measured bs ≡ Err refusal.MalformedNode
    unfolding node_length
    measured_bad e = measured_is ∙ rw (node_length, e)

    pub measured_good : head_fits (value (take 4 bs)) ≡ true → measured bs ≡ Ok (suc (head_count (value (take 4 bs))))
    unfolding node_length
    measured_good e = measured_is ∙ rw (node_length, e)

  -- how many words it can be
  record Measured (n : ℕ) : Type 0 where
    pub some : 1 ≤ n
    pub few : n ≤ 66

  measured_few : (n : ℕ) → measured bs ≡ Ok n → Measured n
  measured_few n e = sized (leb 4 (length bs)) refl
    where
      judged : 4 ≤ length bs → (t : Bool) → head_fits (value (take 4 bs)) ≡ t → Measured n
      judged h false p = absurd (never_refused e (measured_bad h p))
      judged h true p =
          let q : suc (head_count (value (take 4 bs))) ≡ n = same_value (sym (measured_good h p) ∙ e) in
          record { some = omega (arith, q); few = omega (arith, q, head_few (value (take 4 bs)) p) }

      sized : (t : Bool) → leb 4 (length bs) ≡ t → Measured n
      sized false p = absurd (never_refused e (measured_none (leb-false 4 (length bs) p)))
      sized true p = judged (leb-true 4 (length bs) p) (head_fits (value (take 4 bs))) refl

  pub words_stop : {e : Refusal} → measured bs ≡ Err e → node_words bs ≡ Err e
  unfolding node_words ◌>>=◌
  words_stop p = rw (node_words, p)

  module _ {n : ℕ} (p : measured bs ≡ Ok n) where
    pub words_cut : length bs < 4 * n → node_words bs ≡ Err refusal.MalformedSheet
    unfolding node_words ◌>>=◌
    words_cut h = rw (node_words, p) (rw (several_no (4 * n) bs h))

    pub words_whole : 4 * n ≤ length bs → node_words bs ≡ Ok (words n (take (4 * n) bs), drop (4 * n) bs)
    unfolding node_words ◌>>=◌
    words_whole h = rw (node_words, p) (rw (several_yes (4 * n) bs h))

-- what it means that a node's words were read
pub record WordsAre (bs : List ℕ) (v : List ℕ × List ℕ) : Type 0 where
  pub count : ℕ
  pub some : 1 ≤ count
  pub few : count ≤ 66
  pub long : 4 * count ≤ length bs
  pub is : v.0 ≡ words count (take (4 * count) bs)
  pub rest : v.1 ≡ drop (4 * count) bs

pub words_are : (bs : List ℕ) (v : List ℕ × List ℕ) → node_words bs ≡ Ok v → WordsAre bs v
words_are bs v e = go (measured bs) refl
  where
    sized : (n : ℕ) → measured bs ≡ Ok n → (t : Bool) → leb (4 * n) (length bs) ≡ t → WordsAre bs v
    sized n p false q = absurd (never_refused e (words_cut bs p (leb-false (4 * n) (length bs) q)))
    sized n p true q =
        let l = leb-true (4 * n) (length bs) q in
        subst (WordsAre bs) (same_value (sym (words_whole bs p l) ∙ e)) (record { count = n; some = (measured_few bs n p).some; few = (measured_few bs n p).few; long = l; is = refl; rest = refl })

    go : (o : Out ℕ) → measured bs ≡ o → WordsAre bs v
    go (Ok n) p = sized n p (leb (4 * n) (length bs)) refl
    go (Err x) p = absurd (never_refused e (words_stop bs p))

-- ---- by place
module _ (bytes : List ℕ) (at : ℕ) where
  pub head_missing : length bytes - at < 4 → ReadsWords bytes at (Err refusal.MalformedSheet)
  head_missing h = record { is = reads_stop (words_stop (drop at bytes) (measured_none (drop at bytes) (omega (arith, h, length-drop at bytes)))) }

  module _ (h : 4 ≤ length bytes - at) {w : ℕ} (W : WordAt bytes at w) {r : Bool} (e : r ≡ head_fits w) where
    there : 4 ≤ length (drop at bytes)
    there = omega (arith, h, length-drop at bytes)

    judged : head_fits (value (take 4 (drop at bytes))) ≡ r
    judged = sym (e ∙ ap head_fits W.is)

    pub head_bad : r ≡ false → ReadsWords bytes at (Err refusal.MalformedNode)
    head_bad q = record { is = reads_stop (words_stop (drop at bytes) (measured_bad (drop at bytes) there (judged ∙ q))) }

    module _ (q : r ≡ true) {n : ℕ} (c : n ≡ head_count w) where
      counted : measured (drop at bytes) ≡ Ok (suc n)
      counted = measured_good (drop at bytes) there (judged ∙ q) ∙ ap (λ (i : ℕ). Ok (suc i)) (sym (c ∙ ap head_count W.is))

      pub body_missing : length bytes - at < 4 + 4 * n → ReadsWords bytes at (Err refusal.MalformedSheet)
      body_missing l = record { is = reads_stop (words_cut (drop at bytes) counted (omega (arith, l, length-drop at bytes))) }

      pub node_whole : 4 + 4 * n ≤ length bytes - at → ReadsWords bytes at (Ok (at + (4 + 4 * n)))
      node_whole l =
          let j : at + 4 * suc n ≡ at + (4 + 4 * n) = omega arith in
          let d = drop-drop (4 * suc n) at bytes ∙ ap (λ (i : ℕ). drop i bytes) j in
          record {
            is = reads_to {v = words (suc n) (take (4 * suc n) (drop at bytes))}
                (words_whole (drop at bytes) counted (omega (arith, l, length-drop at bytes)) ∙ ap (λ (u : List ℕ). Ok (words (suc n) (take (4 * suc n) (drop at bytes)), u)) d)
                (omega arith)
                (omega (arith, l));
          }
