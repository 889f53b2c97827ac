-- The passes in turn: those made have taken their types, and the rest of the definition's run is still to make.
use Prim.Native.Nat.{ℕ, suc, ◌+◌, ◌-◌, ◌<◌, ◌≤◌}
use mathlib.Core.Path.{◌≡◌, refl, sym, ap, ◌∙◌, subst}
use mathlib.Core.Bool.{true, false}
use mathlib.Core.List.{List, [], ◌∷◌, ◌++◌, append_assoc, append-nil}
use native.Mathlib.Omega.{arith}
use lib.ListN.{length, length-append}
use lib.Dec.{eqb}
use borrow.Author.Tests.{eq-eqb, ne_eqb}
use mir.Syntax.{w32}
use mir.Val.{Fits}
use Rattle.std.specs.Prelude.{Ok, Err}
use Rattle.types.specs.declared.refusal.Refusal.{Refusal}
use Rattle.types.specs.Out.{Out, ◌>>=◌}
use Rattle.types.specs.Arena.{Arena, Ext, here}
use Rattle.types.specs.Memory.{Holds}
use Rattle.types.specs.declared.Counters.{Counters}
use Rattle.types.proofs.Refusals.{ok_pair}
use Rattle.types.proofs.Growth.{ext_trans}
use Rattle.node_store.specs.Inner.Stored.{InRange}
use Rattle.simplification.specs.Pass.{pass}
use Rattle.simplification.specs.Passes.{Taken, AfterPasses, after, unchanged, passes, simplify}
use Rattle.recursion.specs.Inner.Work.{Stands}
use Rattle.recursion.specs.Inner.Hosted.{LeadsOnce}
use Rattle.pass.specs.Inner.Once.{SimplifiesOnce}
use Rattle.recursion.specs.Inner.Hosted as once
use Rattle.simplify.specs.Inner.{LeadsTo, done, stop, PassRoom, MorePasses, Simplifies}
use Rattle.simplify.specs.declared.Simplified.{Simplified}
use Rattle.recursion.proofs.Leading.{stands_ext}

-- ---- outcomes of one pass taken apart
record Passed (table : ℕ) (a : Arena) (w s : List ℕ) (m : ℕ) (d : Counters) (o : Out (ℕ × Arena)) : Type 0 where
  pub arena : Arena
  pub is : o ≡ Ok (m, arena)
  pub holds : Holds table w s d arena
  pub ext : Ext a arena
  pub low : m < length arena

record Refused (a : Arena) (w s : List ℕ) (e : Refusal) (o : Out (ℕ × Arena)) : Type 0 where
  pub is : o ≡ Err e
  pub stands : Stands w s a

module _ {table : ℕ} {a : Arena} {w s : List ℕ} where
  once_passed : {r : Out (ℕ × Counters)} {o : Out (ℕ × Arena)} {m : ℕ} {d : Counters} → LeadsOnce table a w s r o → r ≡ Ok (m, d) → Passed table a w s m d o
  once_passed {m = m} {d = d} (once.done {m = k} {d = f} {b = b} H E l) e =
      let (p, q) = ok_pair e in
      record { arena = b; is = ap (λ (i : ℕ). Ok (i, b)) p; holds = subst (λ (x : Counters). Holds table w s x b) q H; ext = E; low = subst (λ (x : ℕ). x < length b) p l }
  once_passed (once.stop S) e = let z : ◌≡◌ {A = ℕ} 0 1 = cc in absurd (omega arith)

  once_refused : {r : Out (ℕ × Counters)} {o : Out (ℕ × Arena)} {x : Refusal} → LeadsOnce table a w s r o → r ≡ Err x → Refused a w s x o
  once_refused (once.done H E l) e = let z : ◌≡◌ {A = ℕ} 0 1 = cc in absurd (omega arith)
  once_refused {x = x} (once.stop {e = y} S) e = let p : y ≡ x = cc in record { is = ap Err p; stands = S }

-- ---- what follows the passes made
abbrev made_before : List Taken → AfterPasses → AfterPasses
made_before ts q = record { root = q.root; arena = q.arena; taken = ts ++ q.taken }

abbrev following : List Taken → Out AfterPasses → Out AfterPasses
following ts o = o >>= λ (q : AfterPasses). Ok (made_before ts q)

following_none : (o : Out AfterPasses) → o ≡ following [] o
unfolding ◌>>=◌
following_none (Ok q) = refl
following_none (Err e) = refl

following_more : (ts : List Taken) (ty : ℕ) (b : Arena) (o : Out AfterPasses) → following ts (o >>= λ (q : AfterPasses). Ok (after ty b q)) ≡ following (ts ++ (record { root = ty; arena = b } ∷ [])) o
unfolding ◌>>=◌
following_more ts ty b (Ok q) = ap (λ (l : List Taken). Ok (record { root = q.root; arena = q.arena; taken = l })) (sym (append_assoc ts (record { root = ty; arena = b } ∷ []) q.taken))
following_more ts ty b (Err e) = refl

-- ---- one more pass
module _ (lw ls k ty : ℕ) (b : Arena) where
  next_refused : (e : Refusal) → pass lw ls ty b ≡ Err e → passes lw ls (suc k) ty b ≡ Err e
  unfolding passes ◌>>=◌
  next_refused e p = ap (λ (o : Out (ℕ × Arena)). o >>= λ (r : ℕ × Arena). elim (eqb r.0 ty) as (λ _. Out AfterPasses) [ true ↦ Ok (after ty b (unchanged r.0 r.1)) | false ↦ passes lw ls k r.0 r.1 >>= λ (q : AfterPasses). Ok (after ty b q) ]) p

  module _ (m : ℕ) (d : Arena) (p : pass lw ls ty b ≡ Ok (m, d)) where
    next : passes lw ls (suc k) ty b ≡ elim (eqb m ty) as (λ _. Out AfterPasses) [ true ↦ Ok (after ty b (unchanged m d)) | false ↦ passes lw ls k m d >>= λ (q : AfterPasses). Ok (after ty b q) ]
    unfolding passes ◌>>=◌
    next = ap (λ (o : Out (ℕ × Arena)). o >>= λ (r : ℕ × Arena). elim (eqb r.0 ty) as (λ _. Out AfterPasses) [ true ↦ Ok (after ty b (unchanged r.0 r.1)) | false ↦ passes lw ls k r.0 r.1 >>= λ (q : AfterPasses). Ok (after ty b q) ]) p

    next_same : m ≡ ty → passes lw ls (suc k) ty b ≡ Ok (after ty b (unchanged m d))
    next_same e = next ∙ rw (eq-eqb m ty e)

    next_other : (m ≡ ty → ⊥) → passes lw ls (suc k) ty b ≡ (passes lw ls k m d >>= λ (q : AfterPasses). Ok (after ty b q))
    next_other f = next ∙ rw (ne_eqb m ty f)

-- ---- the loop
pub record PassIn (table : ℕ) (a : Arena) (run : Out AfterPasses) (lw ls made : ℕ) (w s : List ℕ) (ty : ℕ) (last : Counters) (count left : ℕ) : Type 0 where
  pub arena : Arena
  pub holds : Holds table w s last arena
  pub ext : Ext a arena
  pub low : ty < length arena
  pub taken : List Taken
  pub so_many : count ≡ made + length taken
  pub same : run ≡ following taken (passes lw ls left ty arena)

pub record PassTurn (w₀ s₀ : List ℕ) (c₀ : Counters) (root most made : ℕ) (w s : List ℕ) (ty : ℕ) (last : Counters) (count left : ℕ) : Type 0 where
  pub room : PassRoom w₀ s₀ c₀ root most made
  pub words_long : length w ≡ length w₀
  pub starts_long : length s ≡ length s₀
  pub counted : count + left ≡ made + most
  pub there : (table : ℕ) (a : Arena) → Holds table w₀ s₀ c₀ a → PassIn table a (passes (length w₀) (length s₀) most root a) (length w₀) (length s₀) made w s ty last count left

module _ {w₀ s₀ : List ℕ} {c₀ : Counters} {root most made : ℕ} where
  pub passes_start : PassRoom w₀ s₀ c₀ root most made → PassTurn w₀ s₀ c₀ root most made w₀ s₀ root c₀ made most
  passes_start P = record {
    room = P;
    words_long = refl;
    starts_long = refl;
    counted = refl;
    there = λ table a H. record {
      arena = a;
      holds = H;
      ext = here;
      low = omega (arith, P.range.inside, H.nodes);
      taken = [];
      so_many = omega arith;
      same = following_none (passes (length w₀) (length s₀) most root a);
    };
  }

  module _ {w s : List ℕ} {ty : ℕ} {last : Counters} {count left : ℕ} (T : PassTurn w₀ s₀ c₀ root most made w s ty last count left) where
    pub passes_range : InRange w s last ty
    passes_range =
        let L = T.room.range.lent in
        let I = T.there L.table L.view L.holds in
        record { lent = record { table = L.table; view = I.arena; holds = I.holds }; inside = omega (arith, I.low, I.holds.nodes) }

    pub passes_fits : Fits w32 (count + 1)
    passes_fits = omega (arith, T.counted, T.room.few)

    module _ (h : 0 < left) {w' s' : List ℕ} {r : Out (ℕ × Counters)} (O : SimplifiesOnce w s last ty w' s' r) where
      left_is : left ≡ suc (left - 1)
      left_is = omega (arith, h)

      led : (table : ℕ) (a : Arena) (H : Holds table w₀ s₀ c₀ a) → LeadsOnce table (T.there table a H).arena w' s' r (pass (length w₀) (length s₀) ty (T.there table a H).arena)
      led table a H =
          let I = T.there table a H in
          let p = T.words_long in
          let q = T.starts_long in
          let o : pass (length w) (length s) ty I.arena ≡ pass (length w₀) (length s₀) ty I.arena = λ i. pass (p i) (q i) ty I.arena in
          subst (LeadsOnce table I.arena w' s' r) o (O.is table I.arena I.holds)

      pub passes_refused : {u : Refusal} → r ≡ Err u → MorePasses w₀ s₀ c₀ root most made w' s' (Err u)
      unfolding ◌>>=◌
      passes_refused {u} e = record {
        is = λ table a H.
            let I = T.there table a H in
            let S = once_refused (led table a H) e in
            let o : passes (length w₀) (length s₀) most root a ≡ Err u =
            I.same ∙ ap (following I.taken) (ap (λ (k : ℕ). passes (length w₀) (length s₀) k ty I.arena) left_is ∙ next_refused (length w₀) (length s₀) (left - 1) ty I.arena u S.is) in
            subst (LeadsTo table a made w' s' (Err u)) (sym o) (stop (stands_ext I.ext S.stands));
      }

      module _ {m : ℕ} {d : Counters} (e : r ≡ Ok (m, d)) where
        pub passes_done : m ≡ ty → MorePasses w₀ s₀ c₀ root most made w' s' (Ok (record { root = ty; passes = count + 1; counters = d }))
        unfolding ◌>>=◌
        passes_done q = record {
          is = λ table a H.
              let I = T.there table a H in
              let S = once_passed (led table a H) e in
              let o = I.same ∙ ap (following I.taken) (ap (λ (k : ℕ). passes (length w₀) (length s₀) k ty I.arena) left_is ∙ next_same (length w₀) (length s₀) (left - 1) ty I.arena m S.arena S.is q) in
              let n : count + 1 ≡ made + length (I.taken ++ (record { root = ty; arena = I.arena } ∷ [])) = let z = length-append I.taken (record { root = ty; arena = I.arena } ∷ []) in omega (arith, z, I.so_many) in
              subst (λ (x : ℕ). LeadsTo table a made w' s' (Ok (record { root = x; passes = count + 1; counters = d })) (passes (length w₀) (length s₀) most root a)) q
              (subst (LeadsTo table a made w' s' (Ok (record { root = m; passes = count + 1; counters = d }))) (sym o) (done S.holds (ext_trans I.ext S.ext) S.low n));
        }

        pub passes_more : (m ≡ ty → ⊥) → length w' ≡ length w → length s' ≡ length s → PassTurn w₀ s₀ c₀ root most made w' s' m d (count + 1) (left - 1)
        passes_more f lw ls = record {
          room = T.room;
          words_long = lw ∙ T.words_long;
          starts_long = ls ∙ T.starts_long;
          counted = omega (arith, T.counted, h);
          there = λ table a H.
              let I = T.there table a H in
              let S = once_passed (led table a H) e in
              record {
                arena = S.arena;
                holds = S.holds;
                ext = ext_trans I.ext S.ext;
                low = S.low;
                taken = I.taken ++ (record { root = ty; arena = I.arena } ∷ []);
                so_many = let z = length-append I.taken (record { root = ty; arena = I.arena } ∷ []) in omega (arith, z, I.so_many);
                same = I.same
                    ∙ ap (following I.taken) (ap (λ (k : ℕ). passes (length w₀) (length s₀) k ty I.arena) left_is ∙ next_other (length w₀) (length s₀) (left - 1) ty I.arena m S.arena S.is f)
                    ∙ following_more I.taken ty I.arena (passes (length w₀) (length s₀) (left - 1) m S.arena);
              };
        }

    pub passes_ended : left ≤ 0 → MorePasses w₀ s₀ c₀ root most made w s (Ok (record { root = ty; passes = count; counters = last }))
    unfolding ◌>>=◌ passes
    passes_ended h = record {
      is = λ table a H.
          let I = T.there table a H in
          let z : left ≡ 0 = omega (arith, h) in
          let o = I.same ∙ ap (λ (k : ℕ). following I.taken (passes (length w₀) (length s₀) k ty I.arena)) z in
          let n : count ≡ made + length (I.taken ++ []) = I.so_many ∙ ap (λ (l : List Taken). made + length l) (sym (append-nil I.taken)) in
          subst (LeadsTo table a made w s (Ok (record { root = ty; passes = count; counters = last }))) (sym o) (done I.holds I.ext I.low n);
    }

-- ---- the first pass and those after it
module _ {w s : List ℕ} {c : Counters} {root : ℕ} {w' s' : List ℕ} {r : Out (ℕ × Counters)} (P : InRange w s c root) (O : SimplifiesOnce w s c root w' s' r) where
  pub first_refused : {u : Refusal} → r ≡ Err u → Simplifies w s c root w' s' (Err u)
  unfolding simplify ◌>>=◌
  first_refused {u} e = record {
    is = λ table a H.
        let S = once_refused (O.is table a H) e in
        let o : simplify (length w) (length s) root a ≡ Err u = ap (λ (x : Out (ℕ × Arena)). x >>= λ (y : ℕ × Arena). passes (length w) (length s) 5 y.0 y.1 >>= λ (q : AfterPasses). Ok (after root a q)) S.is in
        subst (LeadsTo table a 0 w' s' (Err u)) (sym o) (stop S.stands);
  }

  module _ {m : ℕ} {d : Counters} (e : r ≡ Ok (m, d)) where
    pub first_room : PassRoom w' s' d m 5 1
    first_room =
        let L = P.lent in
        let S = once_passed (O.is L.table L.view L.holds) e in
        record { range = record { lent = record { table = L.table; view = S.arena; holds = S.holds }; inside = omega (arith, S.low, S.holds.nodes) }; few = omega arith }

    pub first_done : {w'' s'' : List ℕ} {z : Out Simplified} → MorePasses w' s' d m 5 1 w'' s'' z → length w' ≡ length w → length s' ≡ length s → Simplifies w s c root w'' s'' z
    unfolding simplify ◌>>=◌
    first_done {w''} {s''} {z} M lw ls = record {
      is = λ table a H.
          let S = once_passed (O.is table a H) e in
          let o : simplify (length w) (length s) root a ≡ (passes (length w') (length s') 5 m S.arena >>= λ (q : AfterPasses). Ok (after root a q)) =
          ap (λ (x : Out (ℕ × Arena)). x >>= λ (y : ℕ × Arena). passes (length w) (length s) 5 y.0 y.1 >>= λ (q : AfterPasses). Ok (after root a q)) S.is
          ∙ sym (λ i. passes (lw i) (ls i) 5 m S.arena >>= λ (q : AfterPasses). Ok (after root a q)) in
          subst (LeadsTo table a 0 w'' s'' z) (sym o) (later table a S.arena z (passes (length w') (length s') 5 m S.arena) S.ext (M.is table S.arena S.holds));
    }
      where
        later : (table : ℕ) (a b : Arena) (z : Out Simplified) (o : Out AfterPasses) → Ext a b → LeadsTo table b 1 w'' s'' z o → LeadsTo table a 0 w'' s'' z (o >>= λ (q : AfterPasses). Ok (after root a q))
        later table a b z o E (done {q = q} {k = j} H F l k) = done {q = after root a q} {k = j} H (ext_trans E F) l (omega (arith, k))
        later table a b z o E (stop S) = stop (stands_ext E S)
