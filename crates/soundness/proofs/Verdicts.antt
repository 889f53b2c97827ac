-- What every call open to a host learns of the table and the memory that it was lent.
use Prim.Native.Nat.{ℕ}
use mathlib.Core.Path.{◌≡◌, refl, sym, ap, ◌∙◌, subst}
use mathlib.Core.Bool.{Bool, true, false, not}
use mathlib.Core.List.{List}
use mathlib.Core.Option.{Option, none, some}
use native.Mathlib.Omega.{arith}
use lib.ListN.{length}
use borrow.Author.Tests.{not-true, not-false}
use Rattle.std.specs.Prelude.{Ok, Err}
use Rattle.types.specs.declared.refusal.Refusal.TheVariants as refusal
use Rattle.types.specs.declared.refusal.Refusal.{Refusal}
use Rattle.types.specs.Out.{Out}
use Rattle.types.specs.Arena.{Arena}
use Rattle.types.specs.Memory.{Holds, arena_of}
use Rattle.types.specs.Reply.{tabled, judged}
use Rattle.types.specs.declared.Counters.{Counters}
use Rattle.types.proofs.Tests.{true_false}
use Rattle.types.proofs.Memories.{arena_of_holds, holds_arena_of}
use Rattle.types.proofs.Replies.{tabled_no, tabled_yes, judged_no, judged_yes}
use Rattle.names.specs.Table.{Name, names_of}
use Rattle.names.specs.Reply.{table_reply}
use Rattle.names.specs.Inner.{Listable}
use Rattle.names.proofs.Replies.{counted, faulty}
use Rattle.names.proofs.Tables.{names_of_is}
use Rattle.names.proofs.Places.{table_listable}
use Rattle.node_store.specs.Inner.Stored.{Lent}
use Rattle.soundness.specs.Inner.Sound.{is_some, is_sound, lent_reply}

-- the table's names and the arena that memory holds under them
pub record Held (t w s : List ℕ) (c : Counters) (n : ℕ) : Type 0 where
  pub names : List Name
  pub is : names_of t ≡ some names
  pub count : n ≡ length names
  pub view : Arena
  pub holds : Holds n w s c view

-- lent memory, by the first number that is true of it
data Verdict (t w s : List ℕ) (c : Counters) : Type 0 where
  good : (n : ℕ) → Held t w s c n → Verdict t w s c
  bad_table : names_of t ≡ none → Verdict t w s c
  bad_memory : (ns : List Name) → names_of t ≡ some ns → ((a : Arena) → Holds (length ns) w s c a → ⊥) → Verdict t w s c

-- a call that asks for names and arena first
abbrev asked : {A : Type 0} → List ℕ → List ℕ → List ℕ → Counters → (List Name → Arena → Out A) → Out A
asked t w s c f = tabled (names_of t) (λ (ns : List Name). judged (length ns) w s c (f ns))

module _ (t w s : List ℕ) (c : Counters) where
  lent : Verdict t w s c
  lent = go (names_of t) refl
    where
      memory : (ns : List Name) → names_of t ≡ some ns → (o : Option Arena) → arena_of (length ns) w s c ≡ o → Verdict t w s c
      memory ns p (some a) q = good (length ns) (record { names = ns; is = p; count = refl; view = a; holds = holds_arena_of q })
      memory ns p none q = bad_memory ns p (λ a H. let e = arena_of_holds H in let z : ◌≡◌ {A = ℕ} 0 1 = cc in omega arith)

      go : (o : Option (List Name)) → names_of t ≡ o → Verdict t w s c
      go none p = bad_table p
      go (some ns) p = memory ns p (arena_of (length ns) w s c) refl

  module _ {A : Type 0} (f : List Name → Arena → Out A) where
    asked_1 : names_of t ≡ none → asked t w s c f ≡ Err refusal.BadTable
    asked_1 p = tabled_no (λ (ns : List Name). judged (length ns) w s c (f ns)) (names_of t) p

    asked_2 : (ns : List Name) → names_of t ≡ some ns → ((a : Arena) → Holds (length ns) w s c a → ⊥) → asked t w s c f ≡ Err refusal.UnsoundArena
    asked_2 ns p h = tabled_yes (λ (ms : List Name). judged (length ms) w s c (f ms)) (names_of t) ns p ∙ judged_no (length ns) w s c (f ns) h

    asked_both : (ns : List Name) → names_of t ≡ some ns → (a : Arena) → Holds (length ns) w s c a → asked t w s c f ≡ f ns a
    asked_both ns p a H = tabled_yes (λ (ms : List Name). judged (length ms) w s c (f ms)) (names_of t) ns p ∙ judged_yes (length ns) w s c (f ns) a H

  abbrev count : List Name → Arena → Out ℕ
  count ns a = Ok (length ns)

  reply_good : (n : ℕ) → Held t w s c n → lent_reply t w s c ≡ Ok n
  unfolding lent_reply
  reply_good n H =
      asked_both count H.names H.is H.view (subst (λ (k : ℕ). Holds k w s c H.view) H.count H.holds) ∙ ap Ok (sym H.count)

  reply_1 : names_of t ≡ none → lent_reply t w s c ≡ Err refusal.BadTable
  unfolding lent_reply
  reply_1 = asked_1 count

  reply_2 : (ns : List Name) → names_of t ≡ some ns → ((a : Arena) → Holds (length ns) w s c a → ⊥) → lent_reply t w s c ≡ Err refusal.UnsoundArena
  unfolding lent_reply
  reply_2 = asked_2 count

  -- ---- what `judge` answers
  pub verdict_1 : {e : Refusal} → Err e ≡ table_reply t → Err e ≡ lent_reply t w s c
  verdict_1 h = let F = faulty h in ap {B = Out ℕ} Err F.refusal ∙ sym (reply_1 F.is)

  module _ {n : ℕ} (e : Ok n ≡ table_reply t) {b : Bool} (q : b ≡ is_sound n w s c) where
    pub verdict_2 : not b ≡ true → Err refusal.UnsoundArena ≡ lent_reply t w s c
    unfolding is_sound
    verdict_2 g =
        let C = counted e in
        sym (reply_2 C.names C.is (λ a H.
        true_false (sym (ap is_some (arena_of_holds (subst (λ (k : ℕ). Holds k w s c a) (sym C.count) H))) ∙ sym q ∙ not-true b g)))

    pub verdict_names : not b ≡ false → Ok n ≡ lent_reply t w s c
    unfolding is_sound
    verdict_names g = go (arena_of n w s c) refl (sym q ∙ not-false b g)
      where
        go : (o : Option Arena) → arena_of n w s c ≡ o → is_some o ≡ true → Ok n ≡ lent_reply t w s c
        go none u v = absurd (true_false (sym v))
        go (some a) u v = let C = counted e in sym (reply_good n (record { names = C.names; is = C.is; count = C.count; view = a; holds = holds_arena_of u }))

-- ---- what its callers learn
module _ (t w s : List ℕ) (c : Counters) where
  pub lent_refused : {A : Type 0} (f : List Name → Arena → Out A) {e : Refusal} → Err e ≡ lent_reply t w s c → Err e ≡ tabled (names_of t) (λ (ns : List Name). judged (length ns) w s c (f ns))
  lent_refused {A} f {e} q = go (lent t w s c)
    where
      go : Verdict t w s c → Err e ≡ asked t w s c f
      go (good m H) = let h = reply_good t w s c m H in let z : ◌≡◌ {A = ℕ} 0 1 = cc in absurd (omega arith)
      go (bad_table u) = let h = reply_1 t w s c u in let k : e ≡ refusal.BadTable = cc in ap {B = Out A} Err k ∙ sym (asked_1 t w s c f u)
      go (bad_memory ns u v) = let h = reply_2 t w s c ns u v in let k : e ≡ refusal.UnsoundArena = cc in ap {B = Out A} Err k ∙ sym (asked_2 t w s c f ns u v)

  module _ {n : ℕ} (q : Ok n ≡ lent_reply t w s c) where
    pub lent_names : Held t w s c n
    lent_names = go (lent t w s c)
      where
        go : Verdict t w s c → Held t w s c n
        go (good m H) = let h = reply_good t w s c m H in let k : m ≡ n = cc in subst (Held t w s c) k H
        go (bad_table u) = let h = reply_1 t w s c u in let z : ◌≡◌ {A = ℕ} 0 1 = cc in absurd (omega arith)
        go (bad_memory ns u v) = let h = reply_2 t w s c ns u v in let z : ◌≡◌ {A = ℕ} 0 1 = cc in absurd (omega arith)

    pub lent_known : Lent w s c
    lent_known = let L = lent_names in record { table = n; view = L.view; holds = L.holds }

    pub lent_listable : Listable t
    lent_listable = let L = lent_names in table_listable (names_of_is t L.names L.is)

    -- what is answered of every arena that memory holds is the call's answer
    pub lent_done : {A : Type 0} (f : Arena → Out A) {o : Out A} → ((k : ℕ) (a : Arena) → Holds k w s c a → o ≡ f a)
        → o ≡ tabled (names_of t) (λ (ns : List Name). judged (length ns) w s c f)
    lent_done f I =
        let L = lent_names in
        let H : Holds (length L.names) w s c L.view = subst (λ (i : ℕ). Holds i w s c L.view) L.count L.holds in
        I n L.view L.holds ∙ sym (asked_both t w s c (λ (ns : List Name). f) L.names L.is L.view H)
