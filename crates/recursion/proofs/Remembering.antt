-- The cached half of a recursion: an entry answers as the definition does, and a new one is right where it was made.
use Prim.Native.Nat.{ℕ, zero, suc, ◌-◌, ◌<◌}
use mathlib.Core.Path.{◌≡◌, refl, sym, ap, ◌∙◌, subst}
use mathlib.Core.List.{List}
use native.Mathlib.Omega.{arith}
use native.Mathlib.Decide.{ℕ_discrete}
use lib.ListN.{length, get_or, set, length-set, replicate, length-replicate}
use lib.Seq.{get_or-set_same, get_or-set_other}
use Rattle.std.specs.Prelude.{Ok}
use Rattle.types.specs.Out.{Out}
use Rattle.types.specs.Arena.{Arena, here}
use Rattle.types.specs.declared.Counters.{Counters}
use Rattle.types.proofs.Addresses.{start_room}
use Rattle.recursion.specs.Jobs.{Job}
use Rattle.recursion.specs.Inner.Cache.{Hit, Cache, CacheRoom, Remembers}
use Rattle.recursion.specs.Inner.Work.{Recursion, Relation, Leads, done, Ready, Does}
use Rattle.recursion.proofs.Leading.{Lawful, leads_done}

-- ---- one entry

-- an empty cache is right
pub zero_at : (k n : ℕ) → ◌≡◌ {A = ℕ} (get_or (replicate k 0) n 0) 0
zero_at zero n = refl
zero_at (suc k) zero = refl
zero_at (suc k) (suc n) = zero_at k n

pub cache_none : {f : ℕ → Job} {count : ℕ} {a : Arena} → Cache f count a (replicate 4096 0)
cache_none = record { long = length-replicate {A = ℕ} 4096 0; hit = λ n m e. let z = sym (zero_at 4096 n) ∙ e in absurd (omega (arith, z)) }

-- one entry more
cache_more : {f : ℕ → Job} {count : ℕ} {b : Arena} {n m : ℕ} {entries entries' : List ℕ} → Cache f count b entries → Hit f count b n m → n < 4096 → Remembers n m entries entries' → Cache f count b entries'
cache_more {f} {count} {b} {n} {m} {entries} {entries'} C X l M = record { long = ap length M.is ∙ length-set entries n (suc m) ∙ C.long; hit = hit }
  where
    hit : (j i : ℕ) → get_or entries' j 0 ≡ suc i → Hit f count b j i
    hit j i q = go (ℕ_discrete j n)
      where
        q' : get_or (set entries n (suc m)) j 0 ≡ suc i
        q' = ap (λ (l : List ℕ). get_or l j 0) (sym M.is) ∙ q

        go : Dec (j ≡ n) → Hit f count b j i
        go (yes r) =
            let u : suc m ≡ suc i = sym (get_or-set_same entries n (suc m) 0 (omega (arith, l, C.long))) ∙ ap (λ (x : ℕ). get_or (set entries n (suc m)) x 0) (sym r) ∙ q' in
            let v : m ≡ i = omega (arith, u) in
            subst (λ (x : ℕ). Hit f count b x i) (sym r) (subst (Hit f count b n) v X)
        go (no g) = C.hit j i (sym (get_or-set_other entries n j (suc m) 0 g) ∙ q')

-- ---- the cached half
module _ {F : Recursion} {B : Relation} (L : Lawful F B) {w s : List ℕ} {c : Counters} {n : ℕ} {entries : List ℕ} (R : Ready F B w s c n entries) where
  pub ready_small : n < 4096
  ready_small = omega (arith, R.inside, L.few R.beside (omega (arith, start_room R.holds, R.holds.few_starts, R.holds.nodes)))

  pub cached_done : {h : ℕ} → h ≡ get_or entries n 0 → (h ≡ 0 → ⊥) → Does F B w s c n entries w s entries (Ok (h - 1, c))
  cached_done {h} e f = record {
    is = λ table u a H Q l C.
        let z : h ≡ suc (h - 1) = omega (arith, f) in
        let X = C.hit n (h - 1) (sym e ∙ z) in
        subst (Leads table a (F (length w) (length s) u) (length u) w s entries (Ok (h - 1, c))) (sym X.is) (done H here X.low C);
  }

  module _ {w' s' entries' : List ℕ} {r : Out (ℕ × Counters)} (P : Does F B w s c n entries w' s' entries' r) {m : ℕ} {d : Counters} (e : r ≡ Ok (m, d)) where
    pub remember_room : CacheRoom entries' n m
    remember_room =
        let D = leads_done (P.is R.table R.source R.view R.holds R.beside R.inside R.cache) e in
        record { long = D.cache.long; low = ready_small; small = omega (arith, D.low, D.holds.nodes, start_room D.holds, D.holds.few_starts) }

    pub remembered : {entries'' : List ℕ} → Remembers n m entries' entries'' → Does F B w s c n entries w' s' entries'' (Ok (m, d))
    remembered {entries''} M = record {
      is = λ table u a H Q l C.
          let D = leads_done (P.is table u a H Q l C) e in
          let f = F (length w) (length s) u in
          let x = ((L.steady (length w) (length s) table H.few_starts u a Q H.good n l).is a D.arena m here H.good D.is).again D.arena here D.holds.good in
          subst (Leads table a f (length u) w' s' entries'' (Ok (m, d))) (sym D.is) (done D.holds D.ext D.low (cache_more D.cache (record { inside = l; is = x; low = D.low }) ready_small M));
    }
