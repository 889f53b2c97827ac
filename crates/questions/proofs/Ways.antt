-- A question about any memory is refused, whatever it asks, or answered of a root in an arena that memory holds.
use Prim.Native.Nat.{ℕ, ◌<◌}
use mathlib.Core.Path.{◌≡◌, refl, sym, ap, ◌∙◌}
use mathlib.Core.List.{List}
use mathlib.Core.Option.{Option, none, some}
use native.Mathlib.Decide.{dec_lt}
use native.Mathlib.Omega.{arith}
use lib.ListN.{length}
use Rattle.std.specs.Prelude.{Ok, Err}
use Rattle.types.specs.declared.refusal.Refusal.{Refusal}
use Rattle.types.specs.declared.refusal.Refusal.TheVariants as refusal
use Rattle.types.specs.Out.{Out}
use Rattle.types.specs.Arena.{Arena}
use Rattle.types.specs.Memory.{Holds, arena_of}
use Rattle.types.specs.Reply.{judged}
use Rattle.types.specs.declared.Counters.{Counters}
use Rattle.types.proofs.Memories.{arena_of_holds, holds_arena_of}
use Rattle.types.proofs.Replies.{tabled_no, tabled_yes, judged_no, judged_yes, rooted_no, rooted_yes}
use Rattle.names.specs.Table.{Name, names_of}
use Rattle.walks.specs.Asked.{asking, ask_reply}

pub data Way (t w s : List ℕ) (c : Counters) (root : ℕ) : Type 1 where
  refused : (e : Refusal) → ((A : Type 0) (q : Arena → ℕ → A) → ask_reply q t w s c root ≡ Err e) → Way t w s c root
  answered : (table : ℕ) (a : Arena) → Holds table w s c a → root < length a → ((A : Type 0) (q : Arena → ℕ → A) → ask_reply q t w s c root ≡ Ok (q a root)) → Way t w s c root

module _ (t w s : List ℕ) (c : Counters) (root : ℕ) where
  module _ {A : Type 0} (q : Arena → ℕ → A) where
    abbrev under : List Name → Out A
    under ns = judged (length ns) w s c (asking q root)

    asked_names : (ns : List Name) → names_of t ≡ some ns → ask_reply q t w s c root ≡ under ns
    unfolding ask_reply
    asked_names ns p = tabled_yes under (names_of t) ns p

    no_names : names_of t ≡ none → ask_reply q t w s c root ≡ Err refusal.BadTable
    unfolding ask_reply
    no_names p = tabled_no under (names_of t) p

    module _ (ns : List Name) (p : names_of t ≡ some ns) where
      no_arena : ((a : Arena) → Holds (length ns) w s c a → ⊥) → ask_reply q t w s c root ≡ Err refusal.UnsoundArena
      no_arena h = asked_names ns p ∙ judged_no (length ns) w s c (asking q root) h

      module _ (a : Arena) (H : Holds (length ns) w s c a) where
        no_root : (root < length a → ⊥) → ask_reply q t w s c root ≡ Err refusal.NoSuchRoot
        unfolding asking
        no_root l = asked_names ns p ∙ judged_yes (length ns) w s c (asking q root) a H ∙ rooted_no root (λ (b : Arena). Ok (q b root)) a (omega (arith, l))

        all_there : root < length a → ask_reply q t w s c root ≡ Ok (q a root)
        unfolding asking
        all_there l = asked_names ns p ∙ judged_yes (length ns) w s c (asking q root) a H ∙ rooted_yes root (λ (b : Arena). Ok (q b root)) a l

  pub way : Way t w s c root
  way = go (names_of t) refl
    where
      rooted_at : (ns : List Name) → names_of t ≡ some ns → (a : Arena) → Holds (length ns) w s c a → Dec (root < length a) → Way t w s c root
      rooted_at ns p a H (yes l) = answered (length ns) a H l (λ A q. all_there q ns p a H l)
      rooted_at ns p a H (no l) = refused refusal.NoSuchRoot (λ A q. no_root q ns p a H l)

      memory : (ns : List Name) → names_of t ≡ some ns → (o : Option Arena) → arena_of (length ns) w s c ≡ o → Way t w s c root
      memory ns p (some a) e = rooted_at ns p a (holds_arena_of e) (dec_lt root (length a))
      memory ns p none e = refused refusal.UnsoundArena (λ A q. no_arena q ns p (λ a H. let f = arena_of_holds H in let z : ◌≡◌ {A = ℕ} 0 1 = cc in omega arith))

      go : (o : Option (List Name)) → names_of t ≡ o → Way t w s c root
      go none p = refused refusal.BadTable (λ A q. no_names q p)
      go (some ns) p = memory ns p (arena_of (length ns) w s c) refl

  -- two questions that agree on every arena that memory may hold are answered alike
  pub asked_alike : {A : Type 0} (q r : Arena → ℕ → A) → ((table : ℕ) (a : Arena) → Holds table w s c a → root < length a → q a root ≡ r a root)
      → ask_reply q t w s c root ≡ ask_reply r t w s c root
  asked_alike {A} q r h = go way
    where
      go : Way t w s c root → ask_reply q t w s c root ≡ ask_reply r t w s c root
      go (refused e f) = f A q ∙ sym (f A r)
      go (answered table a H l f) = f A q ∙ ap Ok (h table a H l) ∙ sym (f A r)
