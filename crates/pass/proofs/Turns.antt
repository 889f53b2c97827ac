-- The items in turn: those done are what they became, those to come are as given, and the rest of the definition's run is still to make.
use Prim.Native.Nat.{ℕ, suc, ◌+◌, ◌*◌, ◌<◌, ◌≤◌}
use mathlib.Core.Path.{◌≡◌, refl, sym, ap, ◌∙◌, subst}
use mathlib.Core.Bool.{Bool, true}
use mathlib.Core.List.{List, [], ◌∷◌, ◌++◌, append_assoc, append-nil}
use native.Mathlib.Omega.{arith}
use lib.ListN.{length, get_or, take, drop, set, length-set, length-append, drop_of_length-le}
use lib.Seq.{drop-cons, get_or-take, take-set-lt, length-take-le, get_or_at, set_at}
use Rattle.std.specs.Prelude.{Ok, Err}
use Rattle.types.specs.declared.refusal.Refusal.{Refusal}
use Rattle.types.specs.Out.{Out, ◌>>=◌}
use Rattle.types.specs.Node.{tag, below}
use Rattle.types.specs.Arena.{Arena, Ext, here}
use Rattle.types.specs.Memory.{Holds}
use Rattle.types.specs.declared.Counters.{Counters}
use Rattle.types.proofs.Growth.{ext_length, ext_trans, ext_at}
use Rattle.types.proofs.Lists.{below_at, below_more}
use Rattle.recursion.specs.Jobs.{Job, each}
use Rattle.simplification.specs.Pass.{apply}
use Rattle.simplification.proofs.Applying.{apply_kept}
use Rattle.rebuilding.specs.Inner.Children.{setting, Agrees}
use Rattle.pass.specs.Inner.Caches.{Caches}
use Rattle.pass.specs.Inner.Applied.{Leads, Ready, Applies, EachReady, LeadsEach, went, stop, AppliesEach}
use Rattle.recursion.proofs.Leading.{stands_ext}
use Rattle.recursion.proofs.Turns.{below_snoc, after, after_none, after_more}
use Rattle.pass.proofs.Leading.{leads_done, leads_stop}

-- the variables below a node are those of a grown arena
pub agrees_kept : {removable : List ℕ} {R : ℕ → Bool} {a b : Arena} {n x : ℕ} → Ext a b → n ≤ length a → x ≤ n → Agrees removable R a n → Agrees removable R b x
agrees_kept {a = a} {b} E l k A = record { is = λ u v j e. A.is u v (omega (arith, j, k)) (ap tag (sym (ext_at a b E u (omega (arith, j, k, l)))) ∙ e) }

-- what is known of the turn i in one arena
pub record TurnIn (table : ℕ) (a : Arena) (R : ℕ → Bool) (f : ℕ → Job) (cs w s dropped kept items : List ℕ) (count : ℕ) (last : Counters) (i : ℕ) : Type 0 where
  pub arena : Arena
  pub holds : Holds table w s last arena
  pub ext : Ext a arena
  pub caches : Caches (length w) (length s) R arena dropped kept
  pub before : List ℕ
  pub place : length before ≡ i
  pub words : take count items ≡ before ++ drop i cs
  pub low : below (length arena) before ≡ true
  pub same : each f cs a ≡ after before (each f (drop i cs) arena)

pub record Turn (w₀ s₀ : List ℕ) (c₀ : Counters) (n : ℕ) (items₀ : List ℕ) (count : ℕ) (removable : List ℕ) (keep : Bool) (dropped₀ kept₀ w s items dropped kept : List ℕ) (last : Counters) (i : ℕ) : Type 0 where
  pub ready : EachReady w₀ s₀ c₀ n items₀ count removable dropped₀ kept₀
  pub turn : i ≤ count
  pub words_long : length w ≡ length w₀
  pub starts_long : length s ≡ length s₀
  pub long : length items ≡ 65
  pub there : (table : ℕ) (a : Arena) (R : ℕ → Bool) → Holds table w₀ s₀ c₀ a → Agrees removable R a n → Caches (length w₀) (length s₀) R a dropped₀ kept₀
      → TurnIn table a R (λ (x : ℕ). apply (length w₀) (length s₀) a x (setting keep R)) (take count items₀) w s dropped kept items count last i

module _ {w₀ s₀ : List ℕ} {c₀ : Counters} {n : ℕ} {items₀ : List ℕ} {count : ℕ} {removable : List ℕ} {keep : Bool} {dropped₀ kept₀ : List ℕ} where
  pub turn_start : EachReady w₀ s₀ c₀ n items₀ count removable dropped₀ kept₀ → Turn w₀ s₀ c₀ n items₀ count removable keep dropped₀ kept₀ w₀ s₀ items₀ dropped₀ kept₀ c₀ 0
  unfolding below
  turn_start E = record {
    ready = E;
    turn = omega arith;
    words_long = refl;
    starts_long = refl;
    long = E.long;
    there = λ table a R H A C. record {
      arena = a;
      holds = H;
      ext = here;
      caches = C;
      before = [];
      place = refl;
      words = refl;
      low = refl;
      same = after_none (each (λ (x : ℕ). apply (length w₀) (length s₀) a x (setting keep R)) (take count items₀) a);
    };
  }

  module _ {w s items dropped kept : List ℕ} {last : Counters} {i : ℕ} (T : Turn w₀ s₀ c₀ n items₀ count removable keep dropped₀ kept₀ w s items dropped kept last i) where
    cs : List ℕ
    cs = take count items₀

    pub turn_item : i < count → i < 65
    turn_item h = omega (arith, h, T.ready.few)

    count_cs : length cs ≡ count
    unfolding cs
    count_cs = length-take-le count items₀ (omega (arith, T.ready.long, T.ready.few))

    module _ (h : i < count) {x : ℕ} (e : x ≡ get_or items i 0) where
      -- the item to come is as given
      item_is : {table : ℕ} {a : Arena} {R : ℕ → Bool} {f : ℕ → Job} → TurnIn table a R f cs w s dropped kept items count last i → x ≡ get_or cs i 0
      item_is I =
          let l : i < length cs = omega (arith, h, count_cs) in
          e ∙ sym (get_or-take count items i 0 h) ∙ ap (λ (y : List ℕ). get_or y i 0) (I.words ∙ ap (λ (y : List ℕ). I.before ++ y) (drop-cons cs i 0 l))
          ∙ get_or_at I.before (get_or cs i 0) (drop (suc i) cs) 0 i I.place

      now : TurnIn T.ready.ready.table T.ready.ready.view T.ready.ready.variables (λ (y : ℕ). apply (length w₀) (length s₀) T.ready.ready.view y (setting keep T.ready.ready.variables)) cs w s dropped kept items count last i
      unfolding cs
      now = let P = T.ready.ready in T.there P.table P.view P.variables P.holds P.agrees P.caches

      lower : x < n
      unfolding cs
      lower = subst (λ (y : ℕ). y < n) (sym (item_is now)) (below_at n cs T.ready.low i (omega (arith, h, count_cs)))

      pub turn_falls : {t : ℕ} → 4 * n ≡ t → 4 * x + 3 < t
      turn_falls q = omega (arith, lower, q)

      pub turn_ready : Ready w s last x removable dropped kept
      turn_ready =
          let P = T.ready.ready in
          let l : n < length P.view = omega (arith, P.inside, P.holds.nodes) in
          record {
            table = P.table;
            view = now.arena;
            variables = P.variables;
            holds = now.holds;
            inside = omega (arith, lower, l, ext_length P.view now.arena now.ext, now.holds.nodes);
            agrees = agrees_kept now.ext (omega (arith, l)) (omega (arith, lower)) P.agrees;
            caches = now.caches;
          }

      module _ {w' s' dropped' kept' : List ℕ} {r : Out (ℕ × Counters)} (D : Applies w s last x removable keep dropped kept w' s' dropped' kept' r) where
        module _ {table : ℕ} {a : Arena} {R : ℕ → Bool} (H : Holds table w₀ s₀ c₀ a) (A : Agrees removable R a n) (C : Caches (length w₀) (length s₀) R a dropped₀ kept₀) where
          f : ℕ → Job
          f y = apply (length w₀) (length s₀) a y (setting keep R)

          I : TurnIn table a R f cs w s dropped kept items count last i
          unfolding cs f
          I = T.there table a R H A C

          l : n < length a
          l = omega (arith, T.ready.ready.inside, H.nodes)

          -- the outcome of the item, from the arena so far
          led : Leads table I.arena R w' s' dropped' kept' r (f x I.arena)
          unfolding f
          led =
              let p : apply (length w) (length s) I.arena x ≡ apply (length w₀) (length s₀) a x = (λ z. apply (T.words_long z) (T.starts_long z) I.arena x) ∙ apply_kept (length w₀) (length s₀) a I.arena I.ext x (omega (arith, lower, l)) in
              subst (λ (k : (ℕ → Bool) → Job). Leads table I.arena R w' s' dropped' kept' r (k (setting keep R) I.arena)) p
              (D.is table I.arena R I.holds (agrees_kept I.ext (omega (arith, l)) (omega (arith, lower)) A) I.caches)

          next : each f cs a ≡ after I.before (f x I.arena >>= λ (q : ℕ × Arena). each f (drop (suc i) cs) q.1 >>= λ (z : List ℕ × Arena). Ok (q.0 ∷ z.0, z.1))
          unfolding each
          next =
              let k : i < length cs = omega (arith, h, count_cs) in
              I.same ∙ ap (λ (y : List ℕ). after I.before (each f y I.arena)) (drop-cons cs i 0 k ∙ ap (λ (y : ℕ). y ∷ drop (suc i) cs) (sym (item_is I)))

        pub turn_refused : {u : Refusal} → r ≡ Err u → AppliesEach w₀ s₀ c₀ n items₀ count removable keep dropped₀ kept₀ w' s' items dropped' kept' (Err u)
        unfolding ◌>>=◌ cs f
        turn_refused {u} q = record {
          is = λ table a R H A C.
              let S = leads_stop (led H A C) q in
              let o : each (f H A C) cs a ≡ Err u = next H A C ∙ ap (λ (z : Out (ℕ × Arena)). after (I H A C).before (z >>= λ (y : ℕ × Arena). each (f H A C) (drop (suc i) cs) y.1 >>= λ (v : List ℕ × Arena). Ok (y.0 ∷ v.0, v.1))) S.is in
              subst (LeadsEach table a R w' s' dropped' kept' items count (Err u)) (sym o) (stop (stands_ext (I H A C).ext S.stands));
        }

        pub turn_more : {m : ℕ} {d : Counters} → r ≡ Ok (m, d) → length w' ≡ length w → length s' ≡ length s → Turn w₀ s₀ c₀ n items₀ count removable keep dropped₀ kept₀ w' s' (set items i m) dropped' kept' d (i + 1)
        unfolding ◌>>=◌ cs f
        turn_more {m} {d} q lw ls = record {
          ready = T.ready;
          turn = omega (arith, h);
          words_long = lw ∙ T.words_long;
          starts_long = ls ∙ T.starts_long;
          long = length-set items i m ∙ T.long;
          there = λ table a R H A C.
              let S = leads_done (led H A C) q in
              let J = I H A C in
              let k : i < length cs = omega (arith, h, count_cs) in
              let one : suc i ≡ i + 1 = omega arith in
              record {
                arena = S.arena;
                holds = S.holds;
                ext = ext_trans J.ext S.ext;
                caches = S.caches;
                before = J.before ++ (m ∷ []);
                place = length-append J.before (m ∷ []) ∙ ap (λ (y : ℕ). y + 1) J.place;
                words = take-set-lt count items i m h
                    ∙ ap (λ (y : List ℕ). set y i m) (J.words ∙ ap (λ (y : List ℕ). J.before ++ y) (drop-cons cs i 0 k))
                    ∙ set_at J.before (get_or cs i 0) (drop (suc i) cs) m i J.place
                    ∙ sym (append_assoc J.before (m ∷ []) (drop (suc i) cs)) ∙ ap (λ (y : ℕ). (J.before ++ (m ∷ [])) ++ drop y cs) one;
                low = below_snoc (length S.arena) J.before m (below_more (length J.arena) (length S.arena) J.before (ext_length J.arena S.arena S.ext) J.low) S.low;
                same = next H A C
                    ∙ ap (λ (z : Out (ℕ × Arena)). after J.before (z >>= λ (y : ℕ × Arena). each (f H A C) (drop (suc i) cs) y.1 >>= λ (v : List ℕ × Arena). Ok (y.0 ∷ v.0, v.1))) S.is
                    ∙ after_more J.before m (each (f H A C) (drop (suc i) cs) S.arena) ∙ ap (λ (y : ℕ). after (J.before ++ (m ∷ [])) (each (f H A C) (drop y cs) S.arena)) one;
              };
        }

    pub turn_done : count ≤ i → AppliesEach w₀ s₀ c₀ n items₀ count removable keep dropped₀ kept₀ w s items dropped kept (Ok last)
    unfolding ◌>>=◌ each cs
    turn_done h = record {
      is = λ table a R H A C.
          let J = T.there table a R H A C in
          let none : drop i cs ≡ [] = drop_of_length-le cs {i = i} (omega (arith, h, count_cs)) in
          let g : ℕ → Job = λ y. apply (length w₀) (length s₀) a y (setting keep R) in
          let o : each g cs a ≡ Ok (J.before, J.arena) =
          J.same ∙ ap (λ (y : List ℕ). after J.before (each g y J.arena)) none ∙ ap (λ (y : List ℕ). Ok (y, J.arena)) (append-nil J.before) in
          subst (LeadsEach table a R w s dropped kept items count (Ok last)) (sym o)
          (went J.holds J.ext J.caches T.long (J.words ∙ ap (λ (y : List ℕ). J.before ++ y) none ∙ append-nil J.before) (omega (arith, J.place, T.turn, h)) J.low);
    }
