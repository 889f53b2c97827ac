-- From what was written to the answer.
use Prim.Native.Nat.{ℕ, ◌+◌, ◌<◌, ◌≤◌, min}
use mathlib.Core.Path.{◌≡◌, refl, sym, ap, ◌∙◌, subst}
use mathlib.Core.List.{List, ◌++◌, append_assoc}
use native.Mathlib.Omega.{arith}
use native.Mathlib.Decide.{dec_le}
use lib.ListN.{length, take, drop, replicate, length-append, take-append-drop}
use lib.Seq.{take-length, drop-append-le, length-take-le}
use borrow.Author.Tests.{le-leb, lt-leb}
use Rattle.std.specs.Prelude.{Ok, Err}
use Rattle.types.specs.declared.refusal.Refusal.{Refusal}
use Rattle.types.specs.Out.{Out}
use Rattle.types.specs.declared.refusal.Refusal.TheVariants as refusal
use Rattle.types.specs.Arena.{Arena}
use Rattle.types.specs.declared.Counters.{Counters}
use Rattle.types.proofs.Memories.{unique}
use Rattle.names.specs.Table.{split}
use Rattle.soundness.specs.Inner.Sound.{lent_reply}
use Rattle.soundness.proofs.Verdicts.{lent_known}
use Rattle.walks.specs.Asked.{asking}
use Rattle.walks.specs.Inner.Asked.{Says, Answers}
use Rattle.walks.proofs.Asking.{root_out, root_in, ask_refused, ask_done}
use Rattle.spelling.specs.declared.Spelling.{Spelling}
use Rattle.text_writing.specs.Text.{type_text}
use Rattle.appending.specs.Inner.{Writes}
use Rattle.display.specs.Inner.{Prints}
use Rattle.display.specs.Reply.{reply, displaying, reply_of, print_reply, left}
use Rattle.display.specs.Inner.{Displays, DisplaysRoot}

-- ---- the text and its limit
module _ (b : List ℕ) {limit : ℕ} (l : limit ≡ min (length b) 65536) where
  pub limit_low : limit ≤ length b
  limit_low = omega (arith, l)

  pub limit_length : limit ≡ length (take limit b)
  limit_length = sym (length-take-le limit b limit_low)

  -- as many bytes as before
  all_bytes : (b₁ : List ℕ) → length b₁ ≡ length (take limit b) → length (b₁ ++ drop limit b) ≡ length b
  all_bytes b₁ e = length-append b₁ (drop limit b) ∙ ap (λ (k : ℕ). k + length (drop limit b)) e ∙ sym (length-append (take limit b) (drop limit b)) ∙ ap length (take-append-drop limit b)

module _ {sp : Spelling} {t w s : List ℕ} {c : Counters} {root : ℕ} (b : List ℕ) {limit : ℕ} (l : limit ≡ min (length b) 65536) where
  pub displays_nine : {b₁ b' : List ℕ} {end : ℕ} → Prints sp t w s c root (take limit b) 0 b₁ end → limit < end → b' ≡ replicate (length (b₁ ++ drop limit b)) 0 → Displays sp t w s c root b b' (Err refusal.TextTooLong)
  unfolding displaying
  displays_nine {b₁} {b'} {end} P h e = record { is = λ table a H. over (type_text sp (split t) a root) (P.is table a H) }
    where
      over : (x : List ℕ) → Writes (take limit b) 0 x b₁ end → reply (Err refusal.TextTooLong) b' ≡ displaying b x
      over x W = go (dec_le (length x) limit)
        where
          go : Dec (length x ≤ limit) → reply (Err refusal.TextTooLong) b' ≡ displaying b x
          go (yes f) = let p = W.fits (omega (arith, f, limit_length b l)) in absurd (omega (arith, p, h, f))
          go (no f) = ap (reply (Err refusal.TextTooLong)) (e ∙ ap (λ (k : ℕ). replicate k 0) (all_bytes b l b₁ W.long)) ∙ sym (rw (displaying, lt-leb (length x) (min (length b) 65536) (omega (arith, f, l))))

  pub displays_text : {b₁ : List ℕ} {end : ℕ} → Prints sp t w s c root (take limit b) 0 b₁ end → end ≤ limit → Displays sp t w s c root b (b₁ ++ drop limit b) (Ok end)
  unfolding displaying
  displays_text {b₁} {end} P h = record { is = λ table a H. fit (type_text sp (split t) a root) (P.is table a H) }
    where
      fit : (x : List ℕ) → Writes (take limit b) 0 x b₁ end → reply (Ok end) (b₁ ++ drop limit b) ≡ displaying b x
      fit x W = go (dec_le (length x) limit)
        where
          go : Dec (length x ≤ limit) → reply (Ok end) (b₁ ++ drop limit b) ≡ displaying b x
          go (yes f) =
              let k : 0 + length x ≤ length (take limit b) = omega (arith, f, limit_length b l) in
              let p : end ≡ length x = let q = W.fits k in omega (arith, q) in
              let same : 0 + length x ≡ length x = omega arith in
              let q : b₁ ++ drop limit b ≡ x ++ drop (length x) b
              = ap (λ (y : List ℕ). y ++ drop limit b) (W.put k ∙ (λ i. take-length x i ++ drop (same i) (take limit b)))
              ∙ append_assoc x (drop (length x) (take limit b)) (drop limit b)
              ∙ ap (λ (y : List ℕ). x ++ y) (sym (drop-append-le (length x) (take limit b) (drop limit b) (omega (arith, k))) ∙ ap (drop (length x)) (take-append-drop limit b)) in
              (λ i. reply (Ok (p i)) (q i)) ∙ sym (rw (displaying, le-leb (length x) (min (length b) 65536) (omega (arith, f, l))))
          go (no f) = let p = W.full (omega (arith, f, limit_length b l)) in absurd (omega (arith, p, h, limit_length b l))

-- ---- after 6
module _ {sp : Spelling} {t w s : List ℕ} {c : Counters} {root x : ℕ} (e : x ≡ root) where
  pub root_six : {b : List ℕ} → c.nodes ≤ x → DisplaysRoot sp t w s c root b b (Err refusal.NoSuchRoot)
  unfolding reply_of
  root_six {b} h = record { is = λ table a H. ap (reply_of b) ((root_out (type_text sp (split t)) (subst (λ (k : ℕ). c.nodes ≤ k) e h)).is table a H) }

  pub root_text : {b b' : List ℕ} {r : Out ℕ} → x < c.nodes → Displays sp t w s c root b b' r → DisplaysRoot sp t w s c root b b' r
  unfolding reply_of
  root_text {b} h D = record {
    is = λ table a H.
        let S : Says (type_text sp (split t)) w s c root (type_text sp (split t) a root) = record { is = λ k v K. ap (λ (d : Arena). type_text sp (split t) d root) (unique H K) } in
        D.is table a H ∙ ap (reply_of b) ((root_in (type_text sp (split t)) (subst (λ (k : ℕ). k < c.nodes) e h) S).is table a H);
  }

-- ---- after the verdict
module _ (sp : Spelling) (t w s : List ℕ) (c : Counters) (root : ℕ) (b : List ℕ) where
  pub print_refused : {e : Refusal} → Err e ≡ lent_reply t w s c → left (Err e) b ≡ print_reply sp t w s c root b
  unfolding print_reply reply_of
  print_refused e = ap (reply_of b) (ask_refused (type_text sp (split t)) t w s c root e)

  pub print_done : {k : ℕ} → Ok k ≡ lent_reply t w s c → {b' : List ℕ} {r : Out ℕ} → DisplaysRoot sp t w s c root b b' r → left r b' ≡ print_reply sp t w s c root b
  unfolding print_reply
  print_done e D =
      let L = lent_known t w s c e in
      let q = type_text sp (split t) in
      let A : Answers q w s c root (asking q root L.view) = record { is = λ k a H. ap (asking q root) (unique L.holds H) } in
      D.is _ L.view L.holds ∙ ap (reply_of b) (ask_done q t w s c root e refl A)
