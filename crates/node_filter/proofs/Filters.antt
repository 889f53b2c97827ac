-- Bits in the filter: they stay, those of every node are set, and a node of which one isn't is found nowhere.
use Prim.Native.Nat.{ℕ, ◌+◌, ◌<◌, ◌≤◌}
use mathlib.Core.Path.{◌≡◌, refl, sym, ap, ◌∙◌, subst}
use mathlib.Core.Bool.{Bool, true, false, not}
use mathlib.Core.List.{List, [], ◌∷◌}
use mathlib.Core.Option.{Option, none, some}
use native.Mathlib.Decide.{ℕ_discrete}
use native.Mathlib.Omega.{arith}
use lib.ListN.{length}
use borrow.Author.Tests.{not-true}
use Rattle.bits.specs.Bits.{has, Put}
use Rattle.std.specs.Prelude.{Result, Ok, Err, None}
use Rattle.types.specs.declared.refusal.Refusal.{Refusal}
use Rattle.types.specs.declared.refusal.Refusal.TheVariants as refusal
use Rattle.types.specs.Node.{Node, encode, node_dec}
use Rattle.types.specs.Arena.{Arena, at, find}
use Rattle.types.specs.Memory.{words_of, starts_of, counters_of, Holds}
use Rattle.types.specs.Reply.{reply, reply_of}
use Rattle.types.specs.declared.Counters.{Counters}
use Rattle.types.proofs.Tests.{true_false, same_true}
use Rattle.types.proofs.Decodes.{well_parts}
use Rattle.types.proofs.Growth.{at_new, at_grow}
use Rattle.types.proofs.Sound.{find_at, at_find}
use Rattle.types.proofs.Memories.{unique}
use Rattle.node_store.specs.Inner.Stored.{Lent, InRange, NodeAt, Sought, IsThere, FoundIn}
use Rattle.node_store.specs.Inner.Added.{Fresh, Absent, Interns}
use Rattle.node_store.specs.Intern.{has_room, intern, left}
use Rattle.node_store.proofs.Additions.{fresh_searched, intern_stored, intern_full, intern_new, finished}
use Rattle.node_store.proofs.Interning.{intern_holds}
use Rattle.node_filter.specs.Inner.Hash.{hash_of, BitIn}
use Rattle.node_filter.specs.Inner.Filter.{HasBits, MayHave, Sets, Covers, CoversLent, CoversAfter}

-- ---- the bits of one hash
missing : (f : List ℕ) {b : Bool} {n m : ℕ} → n ≡ m → b ≡ has f n → not b ≡ true → has f m ≡ true → false ≡ true
missing f {b} q e z t = sym (not-true b z) ∙ e ∙ ap (has f) q ∙ t

module _ {f : List ℕ} {h : ℕ} where
  pub first_missing : {b : Bool} {n : ℕ} → BitIn 1 h n → b ≡ has f n → not b ≡ true → MayHave f h false
  first_missing B e z = record { is = λ H. missing f B.is e z H.first }

  pub second_missing : {b : Bool} {n : ℕ} → BitIn 64 h n → b ≡ has f n → not b ≡ true → MayHave f h false
  second_missing B e z = record { is = λ H. missing f B.is e z H.second }

  pub third_tells : {b : Bool} {n : ℕ} → BitIn 4096 h n → b ≡ has f n → MayHave f h b
  third_tells B e = record { is = λ H. e ∙ ap (has f) B.is ∙ H.third }

kept : {f g : List ℕ} {n : ℕ} → Put f n g → (m : ℕ) → has f m ≡ true → has g m ≡ true
kept {f} {g} {n} P m e = go (ℕ_discrete m n)
  where
    go : Dec (m ≡ n) → has g m ≡ true
    go (yes q) = ap (has g) q ∙ P.new
    go (no z) = P.old m z ∙ e

pub bits_set : {f g k l : List ℕ} {h a b c : ℕ} → BitIn 1 h a → Put f a g → BitIn 64 h b → Put g b k → BitIn 4096 h c → Put k c l → Sets f h l
bits_set {f} {g} {k} {l} A P B Q C R = record {
  long = R.long ∙ Q.long ∙ P.long;
  new = record {
    first = kept R _ (kept Q _ (ap (has g) (sym A.is) ∙ P.new));
    second = kept R _ (ap (has k) (sym B.is) ∙ Q.new);
    third = ap (has l) (sym C.is) ∙ R.new;
  };
  old = λ m e. kept R m (kept Q m (kept P m e));
}

-- ---- those of every node
module _ {f g : List ℕ} {h : ℕ} (S : Sets f h g) where
  still : {k : ℕ} → HasBits f k → HasBits g k
  still H = record { first = S.old _ H.first; second = S.old _ H.second; third = S.old _ H.third }

  pub covers_more : {a : Arena} (x : Node) → Covers f a → h ≡ hash_of (encode x) → Covers g (x ∷ a)
  covers_more {a} x C e = record { long = S.long ∙ C.long; each = λ i l. go i l (ℕ_discrete i (length a)) }
    where
      go : (i : ℕ) → i < length (x ∷ a) → Dec (i ≡ length a) → HasBits g (hash_of (encode (at (x ∷ a) i)))
      go i l (yes q) = subst (HasBits g) (e ∙ ap (λ (y : Node). hash_of (encode y)) (sym (ap (at (x ∷ a)) q ∙ at_new x a))) S.new
      go i l (no z) =
          let k : i < length a = omega arith in
          subst (λ (y : Node). HasBits g (hash_of (encode y))) (sym (at_grow x a i k)) (still (C.each i k))

pub covers_none : {f : List ℕ} → length f ≡ 2048 → Covers f []
covers_none l = record { long = l; each = λ i h. absurd (omega arith) }

-- those of the first n nodes
pub record CoversFirst (w s : List ℕ) (c : Counters) (n : ℕ) (f : List ℕ) : Type 0 where
  pub lent : Lent w s c
  pub long : length f ≡ 2048
  pub each : (table : ℕ) (a : Arena) → Holds table w s c a → (i : ℕ) → i < n → HasBits f (hash_of (encode (at a i)))

module _ {w s : List ℕ} {c : Counters} where
  pub first_none : {f : List ℕ} → Lent w s c → length f ≡ 2048 → CoversFirst w s c 0 f
  first_none L l = record { lent = L; long = l; each = λ t a H i h. absurd (omega arith) }

  module _ {n : ℕ} {f : List ℕ} (C : CoversFirst w s c n f) where
    pub first_there : n < c.nodes → InRange w s c n
    first_there l = record { lent = C.lent; inside = l }

    pub first_more : {ws g : List ℕ} {h : ℕ} → NodeAt w s c n ws → h ≡ hash_of ws → Sets f h g → CoversFirst w s c (n + 1) g
    first_more {ws} {g} N e S = record { lent = C.lent; long = S.long ∙ C.long; each = λ t a H i l. go t a H i l (ℕ_discrete i n) }
      where
        go : (t : ℕ) (a : Arena) → Holds t w s c a → (i : ℕ) → i < n + 1 → Dec (i ≡ n) → HasBits g (hash_of (encode (at a i)))
        go t a H i l (yes q) = subst (HasBits g) (e ∙ ap hash_of (N.is t a H) ∙ ap (λ (j : ℕ). hash_of (encode (at a j))) (sym q)) S.new
        go t a H i l (no z) = still S (C.each t a H i (omega arith))

    pub first_all : c.nodes ≤ n → CoversLent w s c f
    first_all l = record { long = C.long; is = λ t a H. record { long = C.long; each = λ i k. C.each t a H i (omega (arith, H.nodes)) } }

-- ---- a node of which a bit isn't set is found nowhere
pub unset : {w s : List ℕ} {c : Counters} {ws f : List ℕ} {h : ℕ} {b : Bool} → CoversLent w s c f → h ≡ hash_of ws → MayHave f h b → not b ≡ true → FoundIn w s c ws None
unset {ws = ws} {f} {h} {b} C e M z = record { is = λ t a x H p q. go a x (C.is t a H) q (find x a) refl }
  where
    go : (a : Arena) (x : Node) → Covers f a → ws ≡ encode x → (o : Option ℕ) → find x a ≡ o → none ≡ o
    go a x K q none r = refl
    go a x K q (some n) r =
        let g = find_at x a n r in
        let bits : HasBits f h = subst (HasBits f) (ap (λ (y : Node). hash_of (encode y)) g.1 ∙ ap hash_of (sym q) ∙ sym e) (K.each n g.0) in
        absurd (true_false (sym (M.is bits) ∙ not-true b z))

-- ---- after an answer
pub covers_kept : {w s : List ℕ} {c : Counters} {f : List ℕ} {n : ℕ} → CoversLent w s c f → CoversAfter w s (Ok (n, c)) f
covers_kept {w} {s} {c} {f} {n} C = record { is = λ m d e. let p : ◌≡◌ {A = ℕ × Counters} (n, c) (m, d) = cc in let q : c ≡ d = ap (λ (v : ℕ × Counters). v.1) p in subst (λ (k : Counters). CoversLent w s k f) q C }

-- of a refusal nothing is said
pub covers_refused : {w s : List ℕ} {e : Refusal} {f : List ℕ} → CoversAfter w s (Err e) f
covers_refused = record { is = λ n d q. let z : ◌≡◌ {A = ℕ} 0 1 = cc in absurd (omega arith) }

-- the counters of an answer, told with another number
pub covers_told : {w s : List ℕ} {f : List ℕ} {r : Result (ℕ × Counters) Refusal} {m n : ℕ} {d : Counters} → CoversAfter w s r f → r ≡ Ok (m, d) → CoversAfter w s (Ok (n, d)) f
covers_told {m = m} {d = d} C q = covers_kept (C.is m d q)

-- an arena without a node
pub covers_empty : {table : ℕ} {w s : List ℕ} {c : Counters} {f : List ℕ} → Holds table w s c [] → length f ≡ 2048 → CoversLent w s c f
covers_empty {f = f} H l = record { long = l; is = λ t a K. subst (Covers f) (unique H K) (covers_none l) }

-- the node is new, so memory then holds it before the others
module _ {w s : List ℕ} {c : Counters} {ws : List ℕ} (F : Fresh w s c ws) (A : Absent w s c ws) {w' s' : List ℕ} where
  added_holds : {n : ℕ} {d : Counters} → Interns w s c ws w' s' (Ok (n, d)) → Holds F.table w' s' d (F.node ∷ F.view)
  unfolding reply_of
  added_holds {n} {d} I = go (has_room (length w) (length s) (x ∷ a)) refl
    where
      x : Node
      x = F.node

      a : Arena
      a = F.view

      not_there : find x a ≡ none
      not_there = sym (A.is.is F.table a x F.holds (well_parts F.table (length a) x F.is.good).formed_so F.is.words)

      reply_is : left c (Ok (n, d)) w' s' ≡ reply_of w s c (intern (length w) (length s) x a)
      reply_is = I.is F.table a x F.holds F.is

      go : (b : Bool) → has_room (length w) (length s) (x ∷ a) ≡ b → Holds F.table w' s' d (x ∷ a)
      go true q =
          let o = intern_new (length w) (length s) x a not_there q in
          let e : reply (Ok n) d w' s' ≡ reply (Ok (length a)) (counters_of (x ∷ a)) (words_of (length w) (x ∷ a)) (starts_of (length s) (x ∷ a)) = reply_is ∙ ap (reply_of w s c) o in
          let cd : counters_of (x ∷ a) ≡ d = cc in
          let ww : words_of (length w) (x ∷ a) ≡ w' = cc in
          let ss : starts_of (length s) (x ∷ a) ≡ s' = cc in
          subst (λ (k : Counters). Holds F.table w' s' k (x ∷ a)) cd
          (subst (λ (v : List ℕ). Holds F.table w' v (counters_of (x ∷ a)) (x ∷ a)) ss
          (subst (λ (v : List ℕ). Holds F.table v (starts_of (length s) (x ∷ a)) (counters_of (x ∷ a)) (x ∷ a)) ww
          (intern_holds F.table w s c x a (length a) (x ∷ a) F.holds F.is.good o)))
      go false q =
          let e : reply (Ok n) d w' s' ≡ reply (Err refusal.NoRoom) c w s = reply_is ∙ ap (reply_of w s c) (intern_full (length w) (length s) x a not_there q) in
          let z : ◌≡◌ {A = ℕ} 0 1 = cc in
          absurd (omega arith)

  pub covers_added : {r : Result (ℕ × Counters) Refusal} {f g : List ℕ} {h : ℕ} → CoversLent w s c f → h ≡ hash_of ws → Sets f h g → Interns w s c ws w' s' r → CoversAfter w' s' r g
  covers_added {r} {f} {g} C e S I = record {
    is = λ n d q.
        let H = added_holds (subst (Interns w s c ws w' s') q I) in
        let K : Covers g (F.node ∷ F.view) = covers_more S F.node (C.is F.table F.view F.holds) (e ∙ ap hash_of F.is.words) in
        record { long = K.long; is = λ t b L. subst (Covers g) (unique H L) K };
  }

-- ---- the node that is compared first
module _ {w s : List ℕ} {c : Counters} {ws : List ℕ} {m n : ℕ} (q : m ≡ n) (k : n < c.nodes) where
  pub near_sought : Fresh w s c ws → Sought w s c m ws
  near_sought F = record { lent = (fresh_searched F).lent; inside = omega (arith, q, k); headed = (fresh_searched F).headed }

  -- it has the words, so it is what interning answers
  pub near_stored : {r : Bool} → IsThere w s c m ws r → r ≡ true → Interns w s c ws w s (Ok (n, c))
  unfolding reply_of
  near_stored {r} T h = record {
    is = λ t a x H N.
        let e : at a n ≡ x = ap (at a) (sym q) ∙ sym (same_true node_dec x (at a m) (sym (T.is t a x H (well_parts t (length a) x N.good).formed_so N.words) ∙ h)) in
        finished a (length w) (length s) refl H.nodes H.total H.words H.starts
        ∙ sym (ap (reply_of w s c) (intern_stored (length w) (length s) x a n (ap (λ (z : Node). find z a) (sym e) ∙ at_find t a H.good n (omega (arith, H.nodes, k)))));
  }
