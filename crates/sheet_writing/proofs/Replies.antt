-- From what was written to the call's answer.
use Prim.Native.Nat.{ℕ, ◌<◌, ◌≤◌}
use mathlib.Core.Path.{◌≡◌, refl, sym, ap, ◌∙◌, subst}
use mathlib.Core.List.{List, ◌++◌}
use lib.ListN.{length, take}
use lib.Seq.{take_at, length-take-le}
use Rattle.std.specs.Prelude.{Ok, Err}
use Rattle.types.specs.declared.refusal.Refusal.TheVariants as refusal
use Rattle.types.specs.declared.refusal.Refusal.{Refusal}
use Rattle.types.specs.Out.{Out, ◌>>=◌}
use Rattle.types.specs.Arena.{Arena}
use Rattle.types.specs.Memory.{flat, Holds}
use Rattle.types.specs.declared.Counters.{Counters}
use Rattle.types.proofs.Memories.{unique}
use Rattle.types.proofs.Addresses.{word_room}
use Rattle.names.specs.Table.{table, split}
use Rattle.names.proofs.Tables.{split_is, names_of_is}
use Rattle.soundness.specs.Inner.Sound.{lent_reply}
use Rattle.soundness.proofs.Verdicts.{lent_names, lent_known}
use Rattle.walks.specs.Asked.{asking}
use Rattle.walks.specs.Inner.Asked.{Says, Answers}
use Rattle.walks.proofs.Asking.{root_out, root_in, ask_refused, ask_done}
use Rattle.sheet_writing.specs.Bytes.{words_bytes, opening_bytes, sheet_bytes}
use Rattle.sheet_writing.specs.Reply.{bytes_with, fitting, reply_of, write_sheet_reply, left}
use Rattle.sheet_writing.specs.Inner.{WritesParts, Known, WritesRoot}

-- ---- the words in use are the arena's
used_words : {k : ℕ} {w s : List ℕ} {c : Counters} {a : Arena} → Holds k w s c a → take c.words w ≡ flat a
used_words {w = w} {c = c} {a = a} H = ap (take c.words) H.words ∙ take_at (flat a) _ c.words (sym H.total)

module _ {t w s : List ℕ} {c : Counters} {n : ℕ} (K : Known t w s c n) where
  pub used_room : c.words ≤ length w
  used_room = word_room K.lent.holds

  pub used_length : c.words ≡ length (take c.words w)
  used_length = sym (length-take-le c.words w used_room)

  -- the three parts are the sheet
  parts_are : {k : ℕ} (root : ℕ) (a : Arena) → Holds k w s c a → opening_bytes n c.nodes root ++ t ++ words_bytes (take c.words w) ≡ bytes_with (split t) a root
  unfolding bytes_with sheet_bytes
  parts_are root a H =
      let e = sym (split_is K.table) in
      let m = K.many ∙ ap length e in
      let u = K.table.bytes ∙ ap table e in
      λ i. opening_bytes (m i) (H.nodes i) root ++ u i ++ words_bytes (used_words H i)

  -- ---- after 6
  module _ {root x : ℕ} (e : x ≡ root) {b : List ℕ} where
    pub root_six : c.nodes ≤ x → WritesRoot t w s c root b b (Err refusal.NoSuchRoot)
    unfolding reply_of ◌>>=◌
    root_six h = record { is = λ k a H. ap (λ (o : Out (List ℕ)). reply_of b (o >>= fitting b)) ((root_out (bytes_with (split t)) (subst (λ (i : ℕ). c.nodes ≤ i) e h)).is k a H) }

    pub root_sheet : x < c.nodes → {b' : List ℕ} {r : Out ℕ} → WritesParts t (take c.words w) n c.nodes root b b' r → WritesRoot t w s c root b b' r
    unfolding ◌>>=◌
    root_sheet h P = record {
      is = λ k a H.
          let q = bytes_with (split t) in
          let S : Says q w s c root (q a root) = record { is = λ j d L. ap (λ (v : Arena). q v root) (unique H L) } in
          P.is ∙ ap (λ (l : List ℕ). reply_of b (fitting b l)) (parts_are root a H)
          ∙ ap (λ (o : Out (List ℕ)). reply_of b (o >>= fitting b)) ((root_in q (subst (λ (i : ℕ). i < c.nodes) e h) S).is k a H);
    }

-- ---- after the verdict
module _ (t w s : List ℕ) (c : Counters) where
  pub known : {n : ℕ} → Ok n ≡ lent_reply t w s c → Known t w s c n
  known e = let L = lent_names t w s c e in record { names = L.names; table = names_of_is t L.names L.is; many = L.count; lent = lent_known t w s c e }

  module _ (root : ℕ) (b : List ℕ) where
    pub sheet_refused : {e : Refusal} → Err e ≡ lent_reply t w s c → left (Err e) b ≡ write_sheet_reply t w s c root b
    unfolding write_sheet_reply
    sheet_refused e = ap (λ (o : Out (List ℕ)). reply_of b (o >>= fitting b)) (ask_refused (bytes_with (split t)) t w s c root e)

    pub sheet_done : {n : ℕ} → Ok n ≡ lent_reply t w s c → {b' : List ℕ} {r : Out ℕ} → WritesRoot t w s c root b b' r → left r b' ≡ write_sheet_reply t w s c root b
    unfolding write_sheet_reply
    sheet_done e D =
        let L = lent_known t w s c e in
        let q = bytes_with (split t) in
        let A : Answers q w s c root (asking q root L.view) = record { is = λ k a H. ap (asking q root) (unique L.holds H) } in
        D.is _ L.view L.holds ∙ ap (λ (o : Out (List ℕ)). reply_of b (o >>= fitting b)) (ask_done q t w s c root e refl A)
