-- Outcomes: what stands in memory after a refusal, what a finished step leads to, and that the cache stays right as the arena grows.
use Prim.Native.Nat.{ℕ, ◌<◌, ◌≤◌}
use mathlib.Core.Path.{◌≡◌, refl, sym, ap, ◌∙◌, subst}
use mathlib.Core.Bool.{true}
use mathlib.Core.List.{List}
use native.Mathlib.Omega.{arith}
use lib.ListN.{length, take, length-append}
use lib.Seq.{take-take, take_at}
use Rattle.std.specs.Prelude.{Ok, Err}
use Rattle.types.specs.declared.refusal.Refusal.{Refusal}
use Rattle.types.specs.Out.{Out}
use Rattle.types.specs.Node.{below}
use Rattle.types.specs.Arena.{Arena, sound, Ext, here}
use Rattle.types.specs.Memory.{flat, heads, words_of, starts_of, counters_of, Holds}
use Rattle.types.specs.Reply.{reply_of}
use Rattle.types.specs.declared.Counters.{Counters}
use Rattle.types.proofs.Growth.{ext_length, ext_trans}
use Rattle.types.proofs.Sound.{sound_ext}
use Rattle.types.proofs.Addresses.{length_heads, ext_flat, ext_heads}
use Rattle.node_store.specs.Intern.{left}
use Rattle.types.proofs.Refusals.{ok_pair}
use Rattle.recursion.specs.Jobs.{Job}
use Rattle.recursion.specs.Inner.Cache.{Hit, Cache}
use Rattle.recursion.specs.Inner.Work.{Recursion, Relation, Grown, Stands, Leads, done, stop, LeadsEach}
use Rattle.recursion.specs.Inner.Work as work
use Rattle.recursion.specs.Inner.Hosted.{LeadsOnce}
use Rattle.recursion.specs.Inner.Hosted as once
use Rattle.recursion.specs.Theorems.{There, Steady}
use Rattle.recursion.proofs.Steady.{steady_later}

-- ---- what stands
pub stands_ext : {a b : Arena} {w s : List ℕ} → Ext a b → Stands w s b → Stands w s a
stands_ext {a} {b} {w} {s} E S =
    let F = ext_flat E in
    let P = ext_heads E in
    let l : length (flat a) ≤ length (flat b) = let q = ap length F.is ∙ length-append (flat a) F.rest in omega (arith, q) in
    record {
      words = sym (take-take (length (flat a)) (length (flat b)) w l) ∙ ap (take (length (flat a))) (S.words ∙ F.is) ∙ take_at (flat a) F.rest (length (flat a)) refl;
      starts = sym (take-take (length a) (length b) s (ext_length a b E)) ∙ ap (take (length a)) (S.starts ∙ P.is) ∙ take_at (heads a) P.rest (length a) (length_heads a);
    }

pub holds_stands : {table : ℕ} {a : Arena} {w s : List ℕ} {c : Counters} → Holds table w s c a → Stands w s a
holds_stands {a = a} H = record {
  words = ap (take (length (flat a))) H.words ∙ take_at (flat a) _ (length (flat a)) refl;
  starts = ap (take (length a)) H.starts ∙ take_at (heads a) _ (length a) (length_heads a);
}

-- ---- recursions that the cache law holds of
pub record Lawful (F : Recursion) (B : Relation) : Type 0 where
  pub later : {table : ℕ} {u a b : Arena} → B table u a → Ext a b → B table u b
  pub few : {table : ℕ} {u a : Arena} → B table u a → length a ≤ 4096 → length u ≤ 4096
  pub steady : (words starts table : ℕ) → starts ≤ 4096 → (u a : Arena) → B table u a → sound table a ≡ true → (n : ℕ) → n < length u → Steady table a There (F words starts u n)

-- in place, whatever is steady
pub grown_lawful : (F : Recursion) → ((words starts table : ℕ) → starts ≤ 4096 → (u : Arena) → sound table u ≡ true → (n : ℕ) → n < length u → Steady table u There (F words starts u n)) → Lawful F Grown
grown_lawful F h = record {
  later = λ e f. ext_trans e f;
  few = λ {table} {u} {a} e l. omega (arith, l, ext_length u a e);
  steady = λ words starts table few u a e g n l. steady_later e (h words starts table few u (sound_ext table e g) n l);
}

-- ---- the cache in a grown arena
module _ {F : Recursion} {B : Relation} (L : Lawful F B) where
  pub cache_kept : {words starts table : ℕ} {u a b : Arena} {entries : List ℕ} → starts ≤ 4096 → B table u a → sound table a ≡ true → sound table b ≡ true → Ext a b → Cache (F words starts u) (length u) a entries → Cache (F words starts u) (length u) b entries
  cache_kept {words} {starts} {table} {u} {a} {b} few e g h E C = record { long = C.long; hit = λ n m q. kept_hit n m (C.hit n m q) }
    where
      kept_hit : (n m : ℕ) → Hit (F words starts u) (length u) a n m → Hit (F words starts u) (length u) b n m
      kept_hit n m H = record {
        inside = H.inside;
        is = ((L.steady words starts table few u a e g n H.inside).is a a m here g H.is).again b E h;
        low = omega (arith, H.low, ext_length a b E);
      }

-- ---- outcomes taken apart
pub record Done (table : ℕ) (a : Arena) (f : ℕ → Job) (count : ℕ) (w s entries : List ℕ) (m : ℕ) (d : Counters) (o : Out (ℕ × Arena)) : Type 0 where
  pub arena : Arena
  pub is : o ≡ Ok (m, arena)
  pub holds : Holds table w s d arena
  pub ext : Ext a arena
  pub low : m < length arena
  pub cache : Cache f count arena entries

pub record Stopped (a : Arena) (w s : List ℕ) (e : Refusal) {A : Type 0} (o : Out A) : Type 0 where
  pub is : o ≡ Err e
  pub stands : Stands w s a

module _ {table : ℕ} {a : Arena} {f : ℕ → Job} {count : ℕ} {w s entries : List ℕ} where
  pub leads_done : {r : Out (ℕ × Counters)} {o : Out (ℕ × Arena)} {m : ℕ} {d : Counters} → Leads table a f count w s entries r o → r ≡ Ok (m, d) → Done table a f count w s entries m d o
  leads_done {m = m} {d = d} (done {m = k} {d = g} {b = b} H E l C) e =
      let (p, q) = ok_pair e in
      record { arena = b; is = ap (λ (i : ℕ). Ok (i, b)) p; holds = subst (λ (x : Counters). Holds table w s x b) q H; ext = E; low = subst (λ (x : ℕ). x < length b) p l; cache = C }
  leads_done (stop S) e = let z : ◌≡◌ {A = ℕ} 0 1 = cc in absurd (omega arith)

  pub leads_stop : {r : Out (ℕ × Counters)} {o : Out (ℕ × Arena)} {x : Refusal} → Leads table a f count w s entries r o → r ≡ Err x → Stopped a w s x o
  leads_stop (done H E l C) e = let z : ◌≡◌ {A = ℕ} 0 1 = cc in absurd (omega arith)
  leads_stop {x = x} (stop {e = y} S) e = let p : y ≡ x = cc in record { is = ap Err p; stands = S }

  pub stop_leads : {o : Out (ℕ × Arena)} {x : Refusal} → Stopped a w s x o → Leads table a f count w s entries (Err x) o
  stop_leads {o} {x} S = subst (Leads table a f count w s entries (Err x)) (sym S.is) (stop S.stands)

pub record EachDone (table : ℕ) (a : Arena) (f : ℕ → Job) (size : ℕ) (w s entries items : List ℕ) (count : ℕ) (d : Counters) (o : Out (List ℕ × Arena)) : Type 0 where
  pub arena : Arena
  pub is : o ≡ Ok (take count items, arena)
  pub holds : Holds table w s d arena
  pub ext : Ext a arena
  pub cache : Cache f size arena entries
  pub long : length items ≡ 65
  pub count_is : length (take count items) ≡ count
  pub low : below (length arena) (take count items) ≡ true

module _ {table : ℕ} {a : Arena} {f : ℕ → Job} {size : ℕ} {w s entries items : List ℕ} {count : ℕ} where
  pub each_done : {r : Out Counters} {o : Out (List ℕ × Arena)} {d : Counters} → LeadsEach table a f size w s entries items count r o → r ≡ Ok d → EachDone table a f size w s entries items count d o
  each_done {d = d} (work.went {d = g} {b = b} {ms = ms} H E C l t n low) e =
      let q : g ≡ d = cc in
      record {
        arena = b;
        is = ap (λ (x : List ℕ). Ok (x, b)) (sym t);
        holds = subst (λ (x : Counters). Holds table w s x b) q H;
        ext = E;
        cache = C;
        long = l;
        count_is = ap length t ∙ n;
        low = ap (below (length b)) t ∙ low;
      }
  each_done (work.stop S) e = let z : ◌≡◌ {A = ℕ} 0 1 = cc in absurd (omega arith)

  pub each_stop : {r : Out Counters} {o : Out (List ℕ × Arena)} {x : Refusal} → LeadsEach table a f size w s entries items count r o → r ≡ Err x → Stopped a w s x o
  each_stop (work.went H E C l t n low) e = let z : ◌≡◌ {A = ℕ} 0 1 = cc in absurd (omega arith)
  each_stop {x = x} (work.stop {e = y} S) e = let p : y ≡ x = cc in record { is = ap Err p; stands = S }

-- a cache is gone with its call
pub leads_once : {table : ℕ} {a : Arena} {f : ℕ → Job} {count : ℕ} {w s entries : List ℕ} {r : Out (ℕ × Counters)} {o : Out (ℕ × Arena)} → Leads table a f count w s entries r o → LeadsOnce table a w s r o
leads_once (done H E l C) = once.done H E l
leads_once (stop S) = once.stop S

-- ---- a reply in memory that holds b, as an outcome
-- the arena d, with the answer m, grew from b
pub record Grew (table : ℕ) (b : Arena) (m : ℕ) (d : Arena) : Type 0 where
  pub ext : Ext b d
  pub good : sound table d ≡ true
  pub low : m < length d

module _ {table : ℕ} {b : Arena} {w s w' s' : List ℕ} {c : Counters} where
  pub reply_once : (r : Out (ℕ × Counters)) (o : Out (ℕ × Arena)) → Holds table w s c b → length w' ≡ length w → length s' ≡ length s → ((m : ℕ) (d : Arena) → o ≡ Ok (m, d) → Grew table b m d) → left c r w' s' ≡ reply_of w s c o → LeadsOnce table b w' s' r o
  unfolding reply_of
  reply_once (Ok (m, d)) (Ok p) H lw ls g e =
      let G = g p.0 p.1 refl in
      let n : m ≡ p.0 = cc in
      let cd : d ≡ counters_of p.1 = cc in
      let ww : w' ≡ words_of (length w) p.1 = cc in
      let ss : s' ≡ starts_of (length s) p.1 = cc in
      subst (λ (j : ℕ). LeadsOnce table b w' s' (Ok (m, d)) (Ok (j, p.1))) n
      (once.done
      (record {
        few_words = omega (arith, H.few_words, lw);
        few_starts = omega (arith, H.few_starts, ls);
        nodes = ap (λ (y : Counters). y.nodes) cd;
        total = ap (λ (y : Counters). y.words) cd;
        words = ww ∙ ap (λ (y : ℕ). words_of y p.1) (sym lw);
        starts = ss ∙ ap (λ (y : ℕ). starts_of y p.1) (sym ls);
        good = G.good;
      })
      G.ext
      (subst (λ (j : ℕ). j < length p.1) (sym n) G.low))
  reply_once (Ok (m, d)) (Err x) H lw ls g e = let z : ◌≡◌ {A = ℕ} 0 1 = cc in absurd (omega arith)
  reply_once (Err x) (Ok p) H lw ls g e = let z : ◌≡◌ {A = ℕ} 0 1 = cc in absurd (omega arith)
  reply_once (Err x) (Err y) H lw ls g e =
      let n : x ≡ y = cc in
      let ww : w ≡ w' = cc in
      let ss : s ≡ s' = cc in
      subst (λ (j : Refusal). LeadsOnce table b w' s' (Err x) (Err j)) n (once.stop (subst (λ (v : List ℕ). Stands v s' b) ww (subst (λ (v : List ℕ). Stands w v b) ss (holds_stands H))))

  -- from an arena that b grew from, with the cache
  pub reply_leads : {F : Recursion} {B : Relation} → Lawful F B → {u a : Arena} {words starts : ℕ} {entries : List ℕ} (r : Out (ℕ × Counters)) (o : Out (ℕ × Arena)) → starts ≤ 4096 → Holds table w s c b → Ext a b → B table u b → Cache (F words starts u) (length u) b entries
      → length w' ≡ length w → length s' ≡ length s → ((m : ℕ) (d : Arena) → o ≡ Ok (m, d) → Grew table b m d) → left c r w' s' ≡ reply_of w s c o → Leads table a (F words starts u) (length u) w' s' entries r o
  reply_leads {F} L {u} {a} {words} {starts} {entries} r o few H E Q C lw ls g e = go (reply_once r o H lw ls g e)
    where
      go : {r : Out (ℕ × Counters)} {o : Out (ℕ × Arena)} → LeadsOnce table b w' s' r o → Leads table a (F words starts u) (length u) w' s' entries r o
      go (once.done G X l) = done G (ext_trans E X) l (cache_kept L few Q H.good G.good X C)
      go (once.stop S) = stop (stands_ext E S)
