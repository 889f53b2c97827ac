-- What interning does to an arena: old nodes stay, the node is there under the number answered, and a second time changes nothing.
use Prim.Native.Nat.{ℕ, ◌<◌, ◌≤◌}
use mathlib.Core.Path.{◌≡◌, refl, sym, ap, ◌∙◌, subst}
use mathlib.Core.Bool.{Bool, true, false}
use mathlib.Core.List.{List, ◌∷◌}
use mathlib.Core.Option.{Option, none, some}
use native.Mathlib.Omega.{arith}
use lib.ListN.{length}
use Rattle.std.specs.Prelude.{Ok}
use Rattle.types.specs.Out.{Out}
use Rattle.types.specs.Node.{Node, well}
use Rattle.types.specs.Arena.{Arena, at, find, absent, sound, Ext, here, more}
use Rattle.types.specs.Memory.{flat, heads, words_of, starts_of, counters_of, Holds}
use Rattle.types.specs.declared.Counters.{Counters}
use Rattle.types.proofs.Lists.{length_padded}
use Rattle.types.proofs.Growth.{at_new}
use Rattle.types.proofs.Sound.{find_at, at_find, sound_more}
use Rattle.types.proofs.Addresses.{length_heads, ext_flat, ext_heads, word_room, start_room}
use Rattle.node_store.specs.Intern.{has_room, intern}
use Rattle.node_store.specs.Theorems.{InternDone, InternHolds}
use Rattle.node_store.proofs.Additions.{intern_stored, intern_full, intern_new, room_parts}

-- a finished interning is one of two
pub data Done (lw ls : ℕ) (x : Node) (a : Arena) : ℕ → Arena → Type 0 where
  stored : {n : ℕ} → find x a ≡ some n → Done lw ls x a n a
  added : find x a ≡ none → has_room lw ls (x ∷ a) ≡ true → Done lw ls x a (length a) (x ∷ a)

-- two equal answers have equal values
same_value : {A : Type 0} (u v : A) → Path (Out A) (Ok u) (Ok v) → u ≡ v
same_value u v p = cc

module _ (lw ls : ℕ) (x : Node) (a : Arena) where
  pub done : (n : ℕ) (b : Arena) → intern lw ls x a ≡ Ok (n, b) → Done lw ls x a n b
  done n b e = go (find x a) refl
    where
      moved : (m : ℕ) (d : Arena) → Done lw ls x a m d → ◌≡◌ {A = Out (ℕ × Arena)} (Ok (m, d)) (Ok (n, b)) → Done lw ls x a n b
      moved m d D p = subst (λ (v : ℕ × Arena). Done lw ls x a v.0 v.1) (same_value (m, d) (n, b) p) D

      room : (r : Bool) → has_room lw ls (x ∷ a) ≡ r → find x a ≡ none → Done lw ls x a n b
      room true q p = moved (length a) (x ∷ a) (added p q) (sym (intern_new lw ls x a p q) ∙ e)
      room false q p = let f = intern_full lw ls x a p q in let z : ◌≡◌ {A = ℕ} 0 1 = cc in absurd (omega arith)

      go : (o : Option ℕ) → find x a ≡ o → Done lw ls x a n b
      go (some m) p = moved m a (stored p) (sym (intern_stored lw ls x a m p) ∙ e)
      go none p = room (has_room lw ls (x ∷ a)) refl p

module _ {lw ls : ℕ} {x : Node} {a : Arena} where
  -- old nodes keep their numbers
  pub done_ext : {n : ℕ} {b : Arena} → Done lw ls x a n b → Ext a b
  done_ext (stored p) = here
  done_ext (added p q) = more x here

  -- the number answered is the node's
  pub done_at : {n : ℕ} {b : Arena} → Done lw ls x a n b → (n < length b) × (at b n ≡ x)
  done_at (stored {n = n} p) = find_at x a n p
  done_at (added p q) = (omega arith, at_new x a)

  pub done_sound : {n : ℕ} {b : Arena} (table : ℕ) → sound table a ≡ true → well table (length a) x ≡ true → Done lw ls x a n b → sound table b ≡ true
  done_sound table h w (stored p) = h
  done_sound table h w (added p q) = sound_more table x a w (ap absent p) h

  -- the node is found from then on, so that interning it again changes nothing
  pub done_again : {n : ℕ} {b : Arena} (table : ℕ) → sound table a ≡ true → well table (length a) x ≡ true → Done lw ls x a n b → intern lw ls x b ≡ Ok (n, b)
  done_again {n} {b} table h w D =
      let q = done_at D in
      intern_stored lw ls x b n (ap (λ (y : Node). find y b) (sym q.1) ∙ at_find table b (done_sound table h w D) n q.0)

-- its arena has room
pub done_room : {table : ℕ} {w s : List ℕ} {c : Counters} {x : Node} {a : Arena} {n : ℕ} {b : Arena} → Holds table w s c a → Done (length w) (length s) x a n b → (length (flat b) ≤ length w) × (length (heads b) ≤ length s)
done_room {a = a} H (stored p) = (omega (arith, H.total, word_room H), omega (arith, H.nodes, length_heads a, start_room H))
done_room {w = w} {s = s} {x = x} {a = a} H (added p q) = let r = room_parts (length w) (length s) x a q in (r.0, omega (arith, length_heads (x ∷ a), r.1))

-- what a finished interning leaves in memory is its arena
pub done_holds : {table : ℕ} {w s : List ℕ} {c : Counters} {x : Node} {a : Arena} {n : ℕ} {b : Arena} → Holds table w s c a → well table (length a) x ≡ true → Done (length w) (length s) x a n b
    → Holds table (words_of (length w) b) (starts_of (length s) b) (counters_of b) b
done_holds {table} {w} {s} {c} {x} {a} {n} {b} H g D =
    let r = done_room H D in
    let k = length_padded (length w) (flat b) r.0 in
    let l = length_padded (length s) (heads b) r.1 in
    record {
      few_words = omega (arith, H.few_words);
      few_starts = omega (arith, H.few_starts);
      nodes = refl;
      total = refl;
      words = ap (λ (i : ℕ). words_of i b) (sym k);
      starts = ap (λ (i : ℕ). starts_of i b) (sym l);
      good = done_sound table H.good g D;
    }

-- ---- the theorems
pub intern_done : InternDone
intern_done words starts x a n b e =
    let D = done words starts x a n b e in
    let w = ext_flat (done_ext D) in
    let s = ext_heads (done_ext D) in
    let p = done_at D in
    record { old = done_ext D; added_words = w.rest; words = w.is; added_starts = s.rest; starts = s.is; inside = p.0; node = p.1 }

pub intern_holds : InternHolds
intern_holds table w s c x a n b H g e = done_holds H g (done (length w) (length s) x a n b e)
