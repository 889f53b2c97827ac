-- The items in turn: those done are what they became, those to come are as given, and the rest of the definition's run is still to make.
use Prim.Native.Nat.{ℕ, suc, ◌+◌, ◌*◌, ◌<◌, ◌≤◌}
use mathlib.Core.Path.{◌≡◌, refl, sym, ap, ◌∙◌, subst}
use mathlib.Core.Bool.{true}
use mathlib.Core.List.{List, [], ◌∷◌, ◌++◌, append_assoc, append-nil}
use native.Mathlib.Omega.{arith}
use lib.ListN.{length, get_or, take, drop, set, length-set, length-append, drop_of_length-le}
use lib.Seq.{drop-cons, get_or-take, take-set-lt, length-take-le, get_or_at, set_at}
use borrow.Author.Tests.{lt-ltb}
use Rattle.std.specs.Prelude.{Ok, Err}
use Rattle.types.specs.declared.refusal.Refusal.{Refusal}
use Rattle.types.specs.Out.{Out, ◌>>=◌}
use Rattle.types.specs.Node.{below}
use Rattle.types.specs.Arena.{Arena, Ext, here}
use Rattle.types.specs.Memory.{Holds}
use Rattle.types.specs.declared.Counters.{Counters}
use Rattle.types.proofs.Growth.{ext_length, ext_trans}
use Rattle.types.proofs.Lists.{below_at, below_more, below_cons}
use Rattle.recursion.specs.Jobs.{Job, each}
use Rattle.recursion.specs.Inner.Cache.{Cache}
use Rattle.recursion.specs.Inner.Work.{Recursion, Relation, Leads, Ready, Does, EachReady, LeadsEach, went, stop, DoesEach}
use Rattle.recursion.proofs.Leading.{Lawful, stands_ext, leads_done, leads_stop}

pub below_snoc : (n : ℕ) (cs : List ℕ) (m : ℕ) → below n cs ≡ true → m < n → below n (cs ++ (m ∷ [])) ≡ true
unfolding below
below_snoc n [] m e l = rw (lt-ltb m n l)
below_snoc n (c ∷ cs) m e l = let p = below_cons n c cs e in rw (lt-ltb c n p.0) (below_snoc n cs m p.1 l)

-- what is still to come, after the items done
abbrev pub after : List ℕ → Out (List ℕ × Arena) → Out (List ℕ × Arena)
after ms o = o >>= λ (q : List ℕ × Arena). Ok (ms ++ q.0, q.1)

pub after_none : (o : Out (List ℕ × Arena)) → o ≡ after [] o
unfolding ◌>>=◌
after_none (Ok q) = refl
after_none (Err e) = refl

pub after_more : (ms : List ℕ) (m : ℕ) (o : Out (List ℕ × Arena)) → after ms (o >>= λ (q : List ℕ × Arena). Ok (m ∷ q.0, q.1)) ≡ after (ms ++ (m ∷ [])) o
unfolding ◌>>=◌
after_more ms m (Ok q) = ap (λ (l : List ℕ). Ok (l, q.1)) (sym (append_assoc ms (m ∷ []) q.0))
after_more ms m (Err e) = refl

-- what is known of the turn i in one arena
pub record TurnIn (table : ℕ) (a : Arena) (f : ℕ → Job) (size : ℕ) (cs w s entries items : List ℕ) (count : ℕ) (last : Counters) (i : ℕ) : Type 0 where
  pub arena : Arena
  pub holds : Holds table w s last arena
  pub ext : Ext a arena
  pub cache : Cache f size arena entries
  pub before : List ℕ
  pub place : length before ≡ i
  pub words : take count items ≡ before ++ drop i cs
  pub low : below (length arena) before ≡ true
  pub same : each f cs a ≡ after before (each f (drop i cs) arena)

pub record Turn (F : Recursion) (B : Relation) (w₀ s₀ : List ℕ) (c₀ : Counters) (n : ℕ) (items₀ : List ℕ) (count : ℕ) (entries₀ w s items entries : List ℕ) (last : Counters) (i : ℕ) : Type 0 where
  pub ready : EachReady F B w₀ s₀ c₀ n items₀ count entries₀
  pub turn : i ≤ count
  pub words_long : length w ≡ length w₀
  pub starts_long : length s ≡ length s₀
  pub long : length items ≡ 65
  pub there : (table : ℕ) (u a : Arena) → Holds table w₀ s₀ c₀ a → B table u a → n < length u → Cache (F (length w₀) (length s₀) u) (length u) a entries₀
      → TurnIn table a (F (length w₀) (length s₀) u) (length u) (take count items₀) w s entries items count last i

module _ {F : Recursion} {B : Relation} {w₀ s₀ : List ℕ} {c₀ : Counters} {n : ℕ} {items₀ : List ℕ} {count : ℕ} {entries₀ : List ℕ} where
  pub turn_start : EachReady F B w₀ s₀ c₀ n items₀ count entries₀ → Turn F B w₀ s₀ c₀ n items₀ count entries₀ w₀ s₀ items₀ entries₀ c₀ 0
  unfolding below
  turn_start E = record {
    ready = E;
    turn = omega arith;
    words_long = refl;
    starts_long = refl;
    long = E.long;
    there = λ table u a H Q l C. record {
      arena = a;
      holds = H;
      ext = here;
      cache = C;
      before = [];
      place = refl;
      words = refl;
      low = refl;
      same = after_none (each (F (length w₀) (length s₀) u) (take count items₀) a);
    };
  }

  module _ {w s items entries : List ℕ} {last : Counters} {i : ℕ} (T : Turn F B w₀ s₀ c₀ n items₀ count entries₀ w s items entries last i) where
    cs : List ℕ
    cs = take count items₀

    pub turn_item : i < count → i < 65
    turn_item h = omega (arith, h, T.ready.few)

    count_cs : length cs ≡ count
    unfolding cs
    count_cs = length-take-le count items₀ (omega (arith, T.ready.long, T.ready.few))

    module _ (h : i < count) {x : ℕ} (e : x ≡ get_or items i 0) where
      -- the item to come is as given
      item_is : {table : ℕ} {a : Arena} {f : ℕ → Job} {size : ℕ} → TurnIn table a f size cs w s entries items count last i → x ≡ get_or cs i 0
      item_is I =
          let l : i < length cs = omega (arith, h, count_cs) in
          e ∙ sym (get_or-take count items i 0 h) ∙ ap (λ (y : List ℕ). get_or y i 0) (I.words ∙ ap (λ (y : List ℕ). I.before ++ y) (drop-cons cs i 0 l))
          ∙ get_or_at I.before (get_or cs i 0) (drop (suc i) cs) 0 i I.place

      now : TurnIn T.ready.ready.table T.ready.ready.view (F (length w₀) (length s₀) T.ready.ready.source) (length T.ready.ready.source) cs w s entries items count last i
      unfolding cs
      now = let P = T.ready.ready in T.there P.table P.source P.view P.holds P.beside P.inside P.cache

      lower : x < n
      unfolding cs
      lower = subst (λ (y : ℕ). y < n) (sym (item_is now)) (below_at n cs T.ready.low i (omega (arith, h, count_cs)))

      pub turn_given : x ≡ get_or items₀ i 0
      unfolding cs
      turn_given = item_is now ∙ get_or-take count items₀ i 0 h

      pub turn_falls : {t : ℕ} → 3 * n ≡ t → 3 * x + 2 < t
      turn_falls q = omega (arith, lower, q)

      -- the limits are as at the start
      moved : {u a : Arena} → Cache (F (length w₀) (length s₀) u) (length u) a entries → Cache (F (length w) (length s) u) (length u) a entries
      moved {u} {a} C = subst (λ (y : ℕ). Cache (F y (length s) u) (length u) a entries) (sym T.words_long) (subst (λ (y : ℕ). Cache (F (length w₀) y u) (length u) a entries) (sym T.starts_long) C)

      pub turn_ready : Lawful F B → Ready F B w s last x entries
      turn_ready L =
          let P = T.ready.ready in
          record {
            table = P.table;
            source = P.source;
            view = now.arena;
            holds = now.holds;
            beside = L.later P.beside now.ext;
            inside = omega (arith, lower, P.inside);
            cache = moved now.cache;
          }

      module _ (L : Lawful F B) {w' s' entries' : List ℕ} {r : Out (ℕ × Counters)} (D : Does F B w s last x entries w' s' entries' r) where
        module _ {table : ℕ} {u a : Arena} (H : Holds table w₀ s₀ c₀ a) (Q : B table u a) (l : n < length u) (C : Cache (F (length w₀) (length s₀) u) (length u) a entries₀) where
          f : ℕ → Job
          f = F (length w₀) (length s₀) u

          I : TurnIn table a f (length u) cs w s entries items count last i
          unfolding cs f
          I = T.there table u a H Q l C

          -- the outcome of the item, from the arena so far
          led : Leads table I.arena f (length u) w' s' entries' r (f x I.arena)
          unfolding f
          led =
              let p : F (length w) (length s) u ≡ F (length w₀) (length s₀) u = λ z. F (T.words_long z) (T.starts_long z) u in
              subst (λ (k : ℕ → Job). Leads table I.arena k (length u) w' s' entries' r (k x I.arena)) p
              (D.is table u I.arena I.holds (L.later Q I.ext) (omega (arith, lower, l)) (moved I.cache))

          next : each f cs a ≡ after I.before (f x I.arena >>= λ (q : ℕ × Arena). each f (drop (suc i) cs) q.1 >>= λ (z : List ℕ × Arena). Ok (q.0 ∷ z.0, z.1))
          unfolding each
          next =
              let k : i < length cs = omega (arith, h, count_cs) in
              I.same ∙ ap (λ (y : List ℕ). after I.before (each f y I.arena)) (drop-cons cs i 0 k ∙ ap (λ (y : ℕ). y ∷ drop (suc i) cs) (sym (item_is I)))

        pub turn_refused : {v : Refusal} → r ≡ Err v → DoesEach F B w₀ s₀ c₀ n items₀ count entries₀ w' s' items entries' (Err v)
        unfolding ◌>>=◌ cs f
        turn_refused {v} q = record {
          is = λ table u a H Q l C.
              let S = leads_stop (led H Q l C) q in
              let o : each (f H Q l C) cs a ≡ Err v = next H Q l C ∙ ap (λ (z : Out (ℕ × Arena)). after (I H Q l C).before (z >>= λ (y : ℕ × Arena). each (f H Q l C) (drop (suc i) cs) y.1 >>= λ (v : List ℕ × Arena). Ok (y.0 ∷ v.0, v.1))) S.is in
              subst (LeadsEach table a (F (length w₀) (length s₀) u) (length u) w' s' entries' items count (Err v)) (sym o) (stop (stands_ext (I H Q l C).ext S.stands));
        }

        pub turn_more : {m : ℕ} {d : Counters} → r ≡ Ok (m, d) → length w' ≡ length w → length s' ≡ length s → Turn F B w₀ s₀ c₀ n items₀ count entries₀ w' s' (set items i m) entries' d (i + 1)
        unfolding ◌>>=◌ cs f
        turn_more {m} {d} q lw ls = record {
          ready = T.ready;
          turn = omega (arith, h);
          words_long = lw ∙ T.words_long;
          starts_long = ls ∙ T.starts_long;
          long = length-set items i m ∙ T.long;
          there = λ table u a H Q l C.
              let S = leads_done (led H Q l C) q in
              let J = I H Q l C in
              let k : i < length cs = omega (arith, h, count_cs) in
              let one : suc i ≡ i + 1 = omega arith in
              record {
                arena = S.arena;
                holds = S.holds;
                ext = ext_trans J.ext S.ext;
                cache = S.cache;
                before = J.before ++ (m ∷ []);
                place = length-append J.before (m ∷ []) ∙ ap (λ (y : ℕ). y + 1) J.place;
                words = take-set-lt count items i m h
                    ∙ ap (λ (y : List ℕ). set y i m) (J.words ∙ ap (λ (y : List ℕ). J.before ++ y) (drop-cons cs i 0 k))
                    ∙ set_at J.before (get_or cs i 0) (drop (suc i) cs) m i J.place
                    ∙ sym (append_assoc J.before (m ∷ []) (drop (suc i) cs)) ∙ ap (λ (y : ℕ). (J.before ++ (m ∷ [])) ++ drop y cs) one;
                low = below_snoc (length S.arena) J.before m (below_more (length J.arena) (length S.arena) J.before (ext_length J.arena S.arena S.ext) J.low) S.low;
                same = next H Q l C
                    ∙ ap (λ (z : Out (ℕ × Arena)). after J.before (z >>= λ (y : ℕ × Arena). each (f H Q l C) (drop (suc i) cs) y.1 >>= λ (v : List ℕ × Arena). Ok (y.0 ∷ v.0, v.1))) S.is
                    ∙ after_more J.before m (each (f H Q l C) (drop (suc i) cs) S.arena) ∙ ap (λ (y : ℕ). after (J.before ++ (m ∷ [])) (each (f H Q l C) (drop y cs) S.arena)) one;
              };
        }

    pub turn_done : count ≤ i → DoesEach F B w₀ s₀ c₀ n items₀ count entries₀ w s items entries (Ok last)
    unfolding ◌>>=◌ each cs
    turn_done h = record {
      is = λ table u a H Q l C.
          let J = T.there table u a H Q l C in
          let g : ℕ → Job = F (length w₀) (length s₀) u in
          let none : drop i cs ≡ [] = drop_of_length-le cs {i = i} (omega (arith, h, count_cs)) in
          let o : each g cs a ≡ Ok (J.before, J.arena) =
          J.same ∙ ap (λ (y : List ℕ). after J.before (each g y J.arena)) none ∙ ap (λ (y : List ℕ). Ok (y, J.arena)) (append-nil J.before) in
          subst (LeadsEach table a g (length u) w s entries items count (Ok last)) (sym o)
          (went J.holds J.ext J.cache T.long (J.words ∙ ap (λ (y : List ℕ). J.before ++ y) none ∙ append-nil J.before) (omega (arith, J.place, T.turn, h)) J.low);
    }
