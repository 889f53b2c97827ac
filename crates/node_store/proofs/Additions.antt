-- One more node in memory: what `intern_node` answers and leaves on each of its ways is what the definition says.
use Prim.Native.Nat.{ℕ, suc, ◌+◌, ◌-◌, ◌<◌, ◌≤◌}
use mathlib.Core.Path.{◌≡◌, refl, sym, ap, ◌∙◌, subst}
use mathlib.Core.Bool.{true, false}
use mathlib.Core.List.{List, ◌∷◌}
use mathlib.Core.Option.{none, some}
use native.Mathlib.Omega.{arith}
use mir.Syntax.{w32}
use mir.Val.{Fits}
use lib.ListN.{length, set}
use lib.Seq.{paste}
use lib.Dec.{leb}
use borrow.Author.Tests.{le-leb, leb-true}
use Rattle.std.specs.Prelude as std
use Rattle.std.specs.Prelude.{Some, None, Ok, Err}
use Rattle.types.specs.declared.refusal.Refusal.TheVariants as refusal
use Rattle.types.specs.Out.{checked, option_of}
use Rattle.types.specs.Node.{Node, encode, decode, IsNode}
use Rattle.types.specs.Arena.{Arena, find}
use Rattle.types.specs.Memory.{flat, words_of, starts_of, counters_of, Holds}
use Rattle.types.specs.Reply.{reply, reply_of}
use Rattle.types.specs.declared.Counters.{Counters}
use Rattle.types.proofs.Tests.{and_true, both, not_true}
use Rattle.types.proofs.Nodes.{length_encode}
use Rattle.types.proofs.Decodes.{well_parts, Faultless, faultless}
use Rattle.types.proofs.Sound.{find_at}
use Rattle.types.proofs.Addresses.{word_room, start_room, words_more, starts_more, flat_more}
use Rattle.node_store.specs.Inner.Stored.{Searched, FoundIn}
use Rattle.node_store.specs.Inner.Added.{Room, Pasted, Fresh, Absent, Interns, Under}
use Rattle.node_store.specs.Intern.{has_room, intern}

-- ---- the three outcomes
module _ (lw ls : ℕ) (x : Node) (a : Arena) where
  pub intern_stored : (n : ℕ) → find x a ≡ some n → intern lw ls x a ≡ Ok (n, a)
  unfolding intern
  intern_stored n e = rw (intern, e)

  pub intern_full : find x a ≡ none → has_room lw ls (x ∷ a) ≡ false → intern lw ls x a ≡ Err refusal.NoRoom
  unfolding intern
  intern_full e f = rw (intern, e, f)

  pub intern_new : find x a ≡ none → has_room lw ls (x ∷ a) ≡ true → intern lw ls x a ≡ Ok (length a, x ∷ a)
  unfolding intern
  intern_new e f = rw (intern, e, f)

  pub room_parts : has_room lw ls (x ∷ a) ≡ true → (length (flat (x ∷ a)) ≤ lw) × (suc (length a) ≤ ls)
  unfolding has_room
  room_parts e = let p = and_true (leb (length (flat (x ∷ a))) lw) _ e in (leb-true _ _ p.0, leb-true _ _ p.1)

  pub parts_room : length (flat (x ∷ a)) ≤ lw → suc (length a) ≤ ls → has_room lw ls (x ∷ a) ≡ true
  unfolding has_room
  parts_room p q = both (le-leb _ _ p) (le-leb _ _ q)

-- a finished call, from what it leaves
pub finished : {n m nodes words : ℕ} {w s : List ℕ} (b : Arena) (lw ls : ℕ) → n ≡ m → nodes ≡ length b → words ≡ length (flat b) → w ≡ words_of lw b → s ≡ starts_of ls b
    → reply (Ok n) (record { nodes = nodes; words = words }) w s ≡ reply (Ok m) (counters_of b) (words_of lw b) (starts_of ls b)
finished b lw ls e p q u v = λ i. reply (Ok (e i)) (record { nodes = p i; words = q i }) (u i) (v i)

module _ {w s : List ℕ} {c : Counters} {ws : List ℕ} where
  module _ (F : Fresh w s c ws) where
    node_words : length ws ≡ length (encode F.node)
    node_words = ap length F.is.words

    pub fresh_searched : Searched w s c ws
    fresh_searched = record {
      lent = record { table = F.table; view = F.view; holds = F.holds };
      headed = omega (arith, node_words, length_encode F.node);
    }

    pub nodes_room : c.nodes ≤ length s
    nodes_room = start_room F.holds

    pub used_room : c.words ≤ length w
    used_room = word_room F.holds

    pub words_room : length ws ≤ length w - c.words → Room w c.words ws
    words_room h = record { fits = omega (arith, used_room) }

  module _ {r : std.Option ℕ} (I : FoundIn w s c ws r) where
    -- what was found, in any arena that memory holds
    seen : (table : ℕ) (a : Arena) (x : Node) → Holds table w s c a → IsNode table (length a) ws x → option_of r ≡ find x a
    seen t a x H N = I.is t a x H (well_parts t (length a) x N.good).formed_so N.words

    pub number_fits : {n : ℕ} → Fresh w s c ws → r ≡ Some n → Fits w32 n
    number_fits {n} F e =
        let q = (find_at F.node F.view n (sym (seen F.table F.view F.node F.holds F.is) ∙ ap option_of e)).0 in
        omega (arith, F.holds.nodes, start_room F.holds, F.holds.few_starts)

    pub answer_stored : {n : ℕ} → r ≡ Some n → Interns w s c ws w s (Ok (n, c))
    unfolding reply_of
    answer_stored {n} e = record {
      is = λ t a x H N.
          finished a (length w) (length s) refl H.nodes H.total H.words H.starts
          ∙ sym (ap (reply_of w s c) (intern_stored (length w) (length s) x a n (sym (seen t a x H N) ∙ ap option_of e)));
    }

    pub nothing_there : r ≡ None → Absent w s c ws
    nothing_there e = record { is = subst (FoundIn w s c ws) e I }

  module _ (A : Absent w s c ws) where
    not_there : (t : ℕ) (a : Arena) (x : Node) → Holds t w s c a → IsNode t (length a) ws x → find x a ≡ none
    not_there t a x H N = sym (seen A.is t a x H N)

    answer_full : ((t : ℕ) (a : Arena) (x : Node) → Holds t w s c a → IsNode t (length a) ws x → has_room (length w) (length s) (x ∷ a) ≡ true → ⊥) → Interns w s c ws w s (Err refusal.NoRoom)
    unfolding reply_of
    answer_full f = record {
      is = λ t a x H N. sym (ap (reply_of w s c) (intern_full (length w) (length s) x a (not_there t a x H N) (not_true (has_room (length w) (length s) (x ∷ a)) (f t a x H N))));
    }

    pub no_starts : length s - c.nodes < 1 → Interns w s c ws w s (Err refusal.NoRoom)
    no_starts h = answer_full (λ t a x H N b. omega (arith, (room_parts (length w) (length s) x a b).1, H.nodes))

    pub no_words : length w - c.words < length ws → Interns w s c ws w s (Err refusal.NoRoom)
    no_words h = answer_full (λ t a x H N b. omega (arith, (room_parts (length w) (length s) x a b).0, flat_more H x, ap length N.words, word_room H))

    pub answer_new : 1 ≤ length s - c.nodes → length ws ≤ length w - c.words → {w' : List ℕ} → Pasted w c.words ws w'
        → Interns w s c ws w' (set s c.nodes c.words) (Ok (c.nodes, record { nodes = c.nodes + 1; words = c.words + length ws }))
    unfolding reply_of
    answer_new h l P = record {
      is = λ t a x H N.
          let k = ap length N.words in
          let m = flat_more H x in
          finished (x ∷ a) (length w) (length s) H.nodes (omega (arith, H.nodes)) (omega arith)
          (P.is ∙ ap (λ (v : List ℕ). paste w c.words v (length v)) N.words ∙ words_more H x) (starts_more H x (omega arith))
          ∙ sym (ap (reply_of w s c) (intern_new (length w) (length s) x a (not_there t a x H N) (parts_room (length w) (length s) x a (omega (arith, word_room H)) (omega (arith, H.nodes)))));
    }

-- ---- words that are checked are a node's that may be added
module _ {table : ℕ} {w s : List ℕ} {c : Counters} {ws : List ℕ} (q : Ok tt ≡ checked (decode table c.nodes ws)) where
  pub node_in : (a : Arena) → Holds table w s c a → Faultless table (length a) ws
  node_in a H = faultless table (length a) ws (sym (q ∙ ap (λ (i : ℕ). checked (decode table i ws)) H.nodes))

  pub words_fresh : Under table w s c → Fresh w s c ws
  words_fresh U = let D = node_in U.view U.holds in record { table = table; view = U.view; holds = U.holds; node = D.node; is = D.is }
