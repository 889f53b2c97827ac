-- What `intern` answers and leaves on each of its ways is what `intern_reply` says; what follows from that for a host.
use Prim.Native.Nat.{ℕ}
use mathlib.Core.Path.{◌≡◌, refl, sym, ap, ◌∙◌, subst}
use mathlib.Core.List.{List}
use mathlib.Core.Option.{some}
use native.Mathlib.Omega.{arith}
use lib.ListN.{length}
use Rattle.std.specs.Prelude.{Result, Ok, Err}
use Rattle.types.specs.declared.refusal.Refusal.{Refusal}
use Rattle.types.specs.Out.{Out, checked, ◌>>=◌}
use Rattle.types.specs.Node.{Node, encode, decode, IsNode}
use Rattle.types.specs.Arena.{Arena}
use Rattle.types.specs.Memory.{Holds}
use Rattle.types.specs.Reply.{reply, reply_of, tabled, judged}
use Rattle.types.specs.declared.Counters.{Counters}
use Rattle.types.proofs.Refusals.{checked_err}
use Rattle.types.proofs.Decodes.{decode_ok}
use Rattle.types.proofs.Replies.{tabled_yes, judged_yes}
use Rattle.names.specs.Table.{Name, names_of}
use Rattle.node_store.specs.Inner.Added.{Interns, Under}
use Rattle.node_store.specs.Intern.{intern, left}
use Rattle.soundness.specs.Inner.Sound.{lent_reply}
use Rattle.arena.specs.Intern.{interning, intern_reply}
use Rattle.arena.specs.Inner.{InternsWords}
use Rattle.arena.specs.Theorems.{answered, InternWordsIs, RefusedUnchanged}
use Rattle.node_store.proofs.Additions.{node_in}
use Rattle.soundness.proofs.Verdicts.{lent_refused, lent_names}

-- the steps after 1 and 2
interning_is : (words starts : ℕ) (ws : List ℕ) (table : ℕ) (a : Arena) (x : Node) → IsNode table (length a) ws x → interning words starts ws table a ≡ intern words starts x a
unfolding interning
interning_is words starts ws table a x N = ap (λ (o : Out Node). o >>= λ y. intern words starts y a) (decode_ok table (length a) ws x N)

-- ---- words in an arena that is known to be sound
module _ {table : ℕ} {w s : List ℕ} {c : Counters} {ws : List ℕ} where
  pub words_fault : {e : Refusal} → Err e ≡ checked (decode table c.nodes ws) → InternsWords table w s c ws w s (Err e)
  unfolding reply_of interning
  words_fault {e} q = record {
    is = λ a H.
        let o : decode table (length a) ws ≡ Err e = checked_err _ (q ∙ ap (λ (i : ℕ). checked (decode table i ws)) H.nodes) in
        sym (ap (λ (o : Out Node). reply_of w s c (o >>= λ y. intern (length w) (length s) y a)) o);
  }

  module _ (q : Ok tt ≡ checked (decode table c.nodes ws)) where
    pub words_node : {w' s' : List ℕ} {i : Result (ℕ × Counters) Refusal} → Interns w s c ws w' s' i → InternsWords table w s c ws w' s' i
    words_node I = record {
      is = λ a H.
          let D = node_in q a H in
          I.is table a D.node H D.is ∙ sym (ap (reply_of w s c) (interning_is (length w) (length s) ws table a D.node D.is));
    }

-- ---- the call open to a host
module _ (t w s : List ℕ) (c : Counters) (ws : List ℕ) where
  after_2 : (ns : List Name) → names_of t ≡ some ns → (a : Arena) → Holds (length ns) w s c a → intern_reply t w s c ws ≡ reply_of w s c (interning (length w) (length s) ws (length ns) a)
  unfolding intern_reply
  after_2 ns e a H =
      ap (reply_of w s c)
      (tabled_yes (λ (ms : List Name). judged (length ms) w s c (interning (length w) (length s) ws (length ms))) (names_of t) ns e
      ∙ judged_yes (length ns) w s c (interning (length w) (length s) ws (length ns)) a H)

  pub host_refused : {e : Refusal} → Err e ≡ lent_reply t w s c → left c (Err e) w s ≡ intern_reply t w s c ws
  unfolding intern_reply reply_of
  host_refused e = ap (reply_of w s c) (lent_refused t w s c (λ (ns : List Name). interning (length w) (length s) ws (length ns)) e)

  pub host_under : {n : ℕ} → Ok n ≡ lent_reply t w s c → Under n w s c
  host_under e = let L = lent_names t w s c e in record { view = L.view; holds = L.holds }

  pub host_words : {n : ℕ} {w' s' : List ℕ} {i : Result (ℕ × Counters) Refusal} → Ok n ≡ lent_reply t w s c → InternsWords n w s c ws w' s' i → left c i w' s' ≡ intern_reply t w s c ws
  host_words {n} e I =
      let L = lent_names t w s c e in
      let H : Holds (length L.names) w s c L.view = subst (λ (k : ℕ). Holds k w s c L.view) L.count L.holds in
      I.is L.view L.holds
      ∙ ap (λ (k : ℕ). reply_of w s c (interning (length w) (length s) ws k L.view)) L.count
      ∙ sym (after_2 L.names L.is L.view H)

-- ---- what a host may rely on
-- interning the words of a node that may stand there is the definition's `intern`
pub intern_words_is : InternWordsIs
intern_words_is t w s c ns a x e H g =
    after_2 t w s c (encode x) ns e a H
    ∙ ap (reply_of w s c) (interning_is (length w) (length s) (encode x) (length ns) a x (record { words = refl; good = g }))

-- a refused call leaves counters, words and starts as they were
pub refused_unchanged : RefusedUnchanged
unfolding intern_reply
refused_unchanged t w s c ws e = go (tabled (names_of t) (λ (ns : List Name). judged (length ns) w s c (interning (length w) (length s) ws (length ns))))
  where
    go : (o : Out (ℕ × Arena)) → answered (reply_of w s c o) ≡ Err e → reply_of w s c o ≡ reply (Err e) c w s
    go (Ok v) p = let z : ◌≡◌ {A = ℕ} 0 1 = cc in absurd (omega arith)
    go (Err m) p = let q : m ≡ e = cc in ap (λ (i : Refusal). reply (Err i) c w s) q
