-- Outcomes: what stands in memory after a refusal, what a finished step leads to, and that the caches stay right as the arena grows.
use Prim.Native.Nat.{ℕ, ◌<◌, ◌≤◌}
use mathlib.Core.Path.{◌≡◌, refl, sym, ap, ◌∙◌, subst}
use mathlib.Core.Bool.{Bool, true}
use mathlib.Core.List.{List}
use native.Mathlib.Omega.{arith}
use lib.ListN.{length, take}
use Rattle.std.specs.Prelude.{Ok, Err}
use Rattle.types.specs.declared.refusal.Refusal.{Refusal}
use Rattle.types.specs.Out.{Out}
use Rattle.types.specs.Node.{below}
use Rattle.types.specs.Arena.{Arena, sound, Ext}
use Rattle.types.specs.Memory.{words_of, starts_of, counters_of, Holds}
use Rattle.types.specs.Reply.{reply_of}
use Rattle.types.specs.declared.Counters.{Counters}
use Rattle.types.proofs.Refusals.{ok_pair}
use Rattle.types.proofs.Growth.{ext_length, ext_trans}
use Rattle.node_store.specs.Intern.{left}
use Rattle.recursion.specs.Inner.Work.{Stands}
use Rattle.recursion.proofs.Leading.{stands_ext, holds_stands, Stopped}
use Rattle.simplification.proofs.Caching.{cache_law}
use Rattle.rebuilding.specs.Inner.Children.{setting}
use Rattle.pass.specs.Inner.Caches.{Hit, Caches}
use Rattle.pass.specs.Inner.Applied.{Leads, done, stop, LeadsEach}
use Rattle.pass.specs.Inner.Applied as applied

-- ---- the caches in a grown arena
pub caches_kept : (table : ℕ) {lw ls : ℕ} {R : ℕ → Bool} {a b : Arena} {dropped kept : List ℕ} → ls ≤ 4096 → sound table a ≡ true → sound table b ≡ true → Ext a b → Caches lw ls R a dropped kept → Caches lw ls R b dropped kept
caches_kept table {lw} {ls} {R} {a} {b} few g h E C = record { long = C.long; hit = λ keep n m e. kept_hit keep n m (C.hit keep n m e) }
  where
    kept_hit : (keep : Bool) (n m : ℕ) → Hit lw ls (setting keep R) a n m → Hit lw ls (setting keep R) b n m
    kept_hit keep n m H = record {
      inside = omega (arith, H.inside, ext_length a b E);
      is = cache_law lw ls table few (setting keep R) a a b n m g H.inside H.is E h;
      low = omega (arith, H.low, ext_length a b E);
    }

-- memory of the same size has the same limits
pub caches_moved : (w s w' s' : List ℕ) {R : ℕ → Bool} {b : Arena} {dropped kept : List ℕ} → length w' ≡ length w → length s' ≡ length s → Caches (length w) (length s) R b dropped kept → Caches (length w') (length s') R b dropped kept
caches_moved w s w' s' {R} {b} {dropped} {kept} p q C = subst (λ (x : ℕ). Caches x (length s') R b dropped kept) (sym p) (subst (λ (y : ℕ). Caches (length w) y R b dropped kept) (sym q) C)

-- ---- outcomes taken apart
pub record Done (table : ℕ) (a : Arena) (R : ℕ → Bool) (w s dropped kept : List ℕ) (m : ℕ) (d : Counters) (o : Out (ℕ × Arena)) : Type 0 where
  pub arena : Arena
  pub is : o ≡ Ok (m, arena)
  pub holds : Holds table w s d arena
  pub ext : Ext a arena
  pub low : m < length arena
  pub caches : Caches (length w) (length s) R arena dropped kept

module _ {table : ℕ} {a : Arena} {R : ℕ → Bool} {w s dropped kept : List ℕ} where
  pub leads_done : {r : Out (ℕ × Counters)} {o : Out (ℕ × Arena)} {m : ℕ} {d : Counters} → Leads table a R w s dropped kept r o → r ≡ Ok (m, d) → Done table a R w s dropped kept m d o
  leads_done {m = m} {d = d} (done {m = k} {d = f} {b = b} H E l C) e =
      let (p, q) = ok_pair e in
      record { arena = b; is = ap (λ (i : ℕ). Ok (i, b)) p; holds = subst (λ (x : Counters). Holds table w s x b) q H; ext = E; low = subst (λ (x : ℕ). x < length b) p l; caches = C }
  leads_done (stop S) e = let z : ◌≡◌ {A = ℕ} 0 1 = cc in absurd (omega arith)

  pub leads_stop : {r : Out (ℕ × Counters)} {o : Out (ℕ × Arena)} {x : Refusal} → Leads table a R w s dropped kept r o → r ≡ Err x → Stopped a w s x o
  leads_stop (done H E l C) e = let z : ◌≡◌ {A = ℕ} 0 1 = cc in absurd (omega arith)
  leads_stop {x = x} (stop {e = y} S) e = let p : y ≡ x = cc in record { is = ap Err p; stands = S }

  pub stop_leads : {o : Out (ℕ × Arena)} {x : Refusal} → Stopped a w s x o → Leads table a R w s dropped kept (Err x) o
  stop_leads {o} {x} S = subst (Leads table a R w s dropped kept (Err x)) (sym S.is) (stop S.stands)

-- an outcome from a grown arena is one from the arena that it grew from
pub leads_ext : {table : ℕ} {a b : Arena} {R : ℕ → Bool} {w s dropped kept : List ℕ} {r : Out (ℕ × Counters)} {o : Out (ℕ × Arena)} → Ext a b → Leads table b R w s dropped kept r o → Leads table a R w s dropped kept r o
leads_ext E (done H F l C) = done H (ext_trans E F) l C
leads_ext E (stop S) = stop (stands_ext E S)

pub record EachDone (table : ℕ) (a : Arena) (R : ℕ → Bool) (w s dropped kept items : List ℕ) (count : ℕ) (d : Counters) (o : Out (List ℕ × Arena)) : Type 0 where
  pub arena : Arena
  pub is : o ≡ Ok (take count items, arena)
  pub holds : Holds table w s d arena
  pub ext : Ext a arena
  pub caches : Caches (length w) (length s) R arena dropped kept
  pub long : length items ≡ 65
  pub count_is : length (take count items) ≡ count
  pub low : below (length arena) (take count items) ≡ true

module _ {table : ℕ} {a : Arena} {R : ℕ → Bool} {w s dropped kept items : List ℕ} {count : ℕ} where
  pub each_done : {r : Out Counters} {o : Out (List ℕ × Arena)} {d : Counters} → LeadsEach table a R w s dropped kept items count r o → r ≡ Ok d → EachDone table a R w s dropped kept items count d o
  each_done {d = d} (applied.went {d = f} {b = b} {ms = ms} H E C l t n low) e =
      let q : f ≡ d = cc in
      record {
        arena = b;
        is = ap (λ (x : List ℕ). Ok (x, b)) (sym t);
        holds = subst (λ (x : Counters). Holds table w s x b) q H;
        ext = E;
        caches = C;
        long = l;
        count_is = ap length t ∙ n;
        low = ap (below (length b)) t ∙ low;
      }
  each_done (applied.stop S) e = let z : ◌≡◌ {A = ℕ} 0 1 = cc in absurd (omega arith)

  pub each_stop : {r : Out Counters} {o : Out (List ℕ × Arena)} {x : Refusal} → LeadsEach table a R w s dropped kept items count r o → r ≡ Err x → Stopped a w s x o
  each_stop (applied.went H E C l t n low) e = let z : ◌≡◌ {A = ℕ} 0 1 = cc in absurd (omega arith)
  each_stop {x = x} (applied.stop {e = y} S) e = let p : y ≡ x = cc in record { is = ap Err p; stands = S }

-- ---- a reply in memory that holds b, as an outcome from an arena that b grew from
pub record Grown (table : ℕ) (b : Arena) (m : ℕ) (d : Arena) : Type 0 where
  pub ext : Ext b d
  pub good : sound table d ≡ true
  pub low : m < length d

pub reply_leads : {table : ℕ} {a b : Arena} {R : ℕ → Bool} {w s w' s' dropped kept : List ℕ} {c : Counters} (r : Out (ℕ × Counters)) (o : Out (ℕ × Arena)) → Holds table w s c b → Ext a b → Caches (length w) (length s) R b dropped kept
    → length w' ≡ length w → length s' ≡ length s → ((m : ℕ) (d : Arena) → o ≡ Ok (m, d) → Grown table b m d) → left c r w' s' ≡ reply_of w s c o → Leads table a R w' s' dropped kept r o
unfolding reply_of
reply_leads {table} {a} {b} {R} {w} {s} {w'} {s'} {dropped} {kept} {c} (Ok (m, d)) (Ok p) H E C lw ls g e =
    let G = g p.0 p.1 refl in
    let n : m ≡ p.0 = cc in
    let cd : d ≡ counters_of p.1 = cc in
    let ww : w' ≡ words_of (length w) p.1 = cc in
    let ss : s' ≡ starts_of (length s) p.1 = cc in
    subst (λ (j : ℕ). Leads table a R w' s' dropped kept (Ok (m, d)) (Ok (j, p.1))) n
    (done
    (record {
      few_words = omega (arith, H.few_words, lw);
      few_starts = omega (arith, H.few_starts, ls);
      nodes = ap (λ (y : Counters). y.nodes) cd;
      total = ap (λ (y : Counters). y.words) cd;
      words = ww ∙ ap (λ (y : ℕ). words_of y p.1) (sym lw);
      starts = ss ∙ ap (λ (y : ℕ). starts_of y p.1) (sym ls);
      good = G.good;
    })
    (ext_trans E G.ext)
    (subst (λ (j : ℕ). j < length p.1) (sym n) G.low)
    (caches_moved w s w' s' lw ls (caches_kept table H.few_starts H.good G.good G.ext C)))
reply_leads (Ok (m, d)) (Err x) H E C lw ls g e = let z : ◌≡◌ {A = ℕ} 0 1 = cc in absurd (omega arith)
reply_leads (Err x) (Ok p) H E C lw ls g e = let z : ◌≡◌ {A = ℕ} 0 1 = cc in absurd (omega arith)
reply_leads {table} {a} {R = R} {w} {s} {w'} {s'} {dropped} {kept} (Err x) (Err y) H E C lw ls g e =
    let n : x ≡ y = cc in
    let ww : w ≡ w' = cc in
    let ss : s ≡ s' = cc in
    subst (λ (j : Refusal). Leads table a R w' s' dropped kept (Err x) (Err j)) n
    (stop (subst (λ (u : List ℕ). Stands u s' a) ww (subst (λ (u : List ℕ). Stands w u a) ss (stands_ext E (holds_stands H)))))
