-- The cached half: an entry answers as the definition does, and a new one is right where it was made.
use Prim.Native.Nat.{ℕ, suc, ◌+◌, ◌-◌, ◌*◌, ◌<◌}
use mathlib.Core.Path.{◌≡◌, refl, sym, ap, ◌∙◌, subst}
use mathlib.Core.Bool.{Bool, true, false, Bool-discrete}
use mathlib.Core.List.{List}
use native.Mathlib.Omega.{arith}
use native.Mathlib.Decide.{ℕ_discrete}
use lib.ListN.{length, get_or, set, length-set}
use lib.Seq.{get_or-set_same, get_or-set_other}
use Rattle.std.specs.Prelude.{Ok}
use Rattle.types.specs.Out.{Out}
use Rattle.types.specs.Arena.{Arena, here}
use Rattle.types.specs.declared.Counters.{Counters}
use Rattle.types.proofs.Growth.{ext_length}
use Rattle.types.proofs.Addresses.{start_room}
use Rattle.simplification.specs.Pass.{apply}
use Rattle.simplification.proofs.Caching.{cache_law}
use Rattle.rebuilding.specs.Inner.Children.{setting}
use Rattle.pass.specs.Inner.Caches.{entries, Hit, Caches, CacheRoom, Remembers}
use Rattle.pass.specs.Inner.Applied.{Leads, done, Ready, Applies}
use Rattle.pass.proofs.Leading.{leads_done}

-- ---- one entry written
module _ {dropped kept : List ℕ} {n m : ℕ} (C : CacheRoom dropped kept n m) where
  entry_room : (keep : Bool) → n < length (entries keep dropped kept)
  entry_room keep = omega (arith, C.long keep, C.low)

  pub remembered_kept : {keep : Bool} {i : ℕ} → keep ≡ true → i ≡ n → Remembers keep n m dropped kept dropped (set kept i (m + 1))
  remembered_kept {i = i} q e = subst (λ (k : Bool). Remembers k n m dropped kept dropped (set kept i (m + 1))) (sym q) (subst (λ (j : ℕ). Remembers true n m dropped kept dropped (set kept j (m + 1))) (sym e) (record { long = long; new = get_or-set_same kept n (m + 1) 0 (entry_room true) ∙ one; old = old }))
    where
      one : m + 1 ≡ suc m
      one = omega arith

      long : (k : Bool) → length (entries k dropped (set kept n (m + 1))) ≡ length (entries k dropped kept)
      long true = length-set kept n (m + 1)
      long false = refl

      old : (k : Bool) (j : ℕ) → ((k ≡ true) × (j ≡ n) → ⊥) → get_or (entries k dropped (set kept n (m + 1))) j 0 ≡ get_or (entries k dropped kept) j 0
      old true j f = get_or-set_other kept n j (m + 1) 0 (λ q. f (refl, q))
      old false j f = refl

  pub remembered_dropped : {keep : Bool} {i : ℕ} → keep ≡ false → i ≡ n → Remembers keep n m dropped kept (set dropped i (m + 1)) kept
  remembered_dropped {i = i} q e = subst (λ (k : Bool). Remembers k n m dropped kept (set dropped i (m + 1)) kept) (sym q) (subst (λ (j : ℕ). Remembers false n m dropped kept (set dropped j (m + 1)) kept) (sym e) (record { long = long; new = get_or-set_same dropped n (m + 1) 0 (entry_room false) ∙ one; old = old }))
    where
      one : m + 1 ≡ suc m
      one = omega arith

      long : (k : Bool) → length (entries k (set dropped n (m + 1)) kept) ≡ length (entries k dropped kept)
      long true = refl
      long false = length-set dropped n (m + 1)

      old : (k : Bool) (j : ℕ) → ((k ≡ false) × (j ≡ n) → ⊥) → get_or (entries k (set dropped n (m + 1)) kept) j 0 ≡ get_or (entries k dropped kept) j 0
      old true j f = refl
      old false j f = get_or-set_other dropped n j (m + 1) 0 (λ q. f (refl, q))

-- the caches with one entry more
caches_more : {lw ls : ℕ} {T : ℕ → Bool} {b : Arena} {keep : Bool} {n m : ℕ} {dropped kept dropped' kept' : List ℕ} → Caches lw ls T b dropped kept → Hit lw ls (setting keep T) b n m → Remembers keep n m dropped kept dropped' kept' → Caches lw ls T b dropped' kept'
caches_more {lw} {ls} {T} {b} {keep} {n} {m} {dropped} {kept} {dropped'} {kept'} C X M = record { long = λ k. M.long k ∙ C.long k; hit = hit }
  where
    hit : (k : Bool) (j i : ℕ) → get_or (entries k dropped' kept') j 0 ≡ suc i → Hit lw ls (setting k T) b j i
    hit k j i q = go (Bool-discrete k keep) (ℕ_discrete j n)
      where
        go : Dec (k ≡ keep) → Dec (j ≡ n) → Hit lw ls (setting k T) b j i
        go (yes p) (yes r) =
            let u : suc m ≡ suc i = sym M.new ∙ sym (λ z. get_or (entries (p z) dropped' kept') (r z) 0) ∙ q in
            let v : m ≡ i = omega (arith, u) in
            subst (λ (x : Bool). Hit lw ls (setting x T) b j i) (sym p) (subst (λ (x : ℕ). Hit lw ls (setting keep T) b x i) (sym r) (subst (Hit lw ls (setting keep T) b n) v X))
        go (yes p) (no f) = C.hit k j i (sym (M.old k j (λ z. f z.1)) ∙ q)
        go (no f) r = C.hit k j i (sym (M.old k j (λ z. f z.0)) ∙ q)

-- the entry that the setting has
pub kept_entry : (dropped kept : List ℕ) (n : ℕ) (keep : Bool) {i : ℕ} → i ≡ n → keep ≡ true → get_or kept i 0 ≡ get_or (entries keep dropped kept) n 0
kept_entry dropped kept n keep e q = ap (λ (j : ℕ). get_or kept j 0) e ∙ sym (ap (λ (k : Bool). get_or (entries k dropped kept) n 0) q)

pub dropped_entry : (dropped kept : List ℕ) (n : ℕ) (keep : Bool) {i : ℕ} → i ≡ n → keep ≡ false → get_or dropped i 0 ≡ get_or (entries keep dropped kept) n 0
dropped_entry dropped kept n keep e q = ap (λ (j : ℕ). get_or dropped j 0) e ∙ sym (ap (λ (k : Bool). get_or (entries k dropped kept) n 0) q)

-- ---- the cached half
module _ {w s : List ℕ} {c : Counters} {n : ℕ} {removable dropped kept : List ℕ} (R : Ready w s c n removable dropped kept) where
  pub ready_small : n < 4096
  ready_small = omega (arith, R.inside, start_room R.holds, R.holds.few_starts)

  pub same_falls : {t : ℕ} → 4 * n + 3 ≡ t → 4 * n + 2 < t
  same_falls e = omega (arith, e)

  module _ {keep : Bool} where
    pub cached_done : {h : ℕ} → h ≡ get_or (entries keep dropped kept) n 0 → (h ≡ 0 → ⊥) → Applies w s c n removable keep dropped kept w s dropped kept (Ok (h - 1, c))
    cached_done {h} e f = record {
      is = λ table a T H A C.
          let z : h ≡ suc (h - 1) = omega (arith, f) in
          let X = C.hit keep n (h - 1) (sym e ∙ z) in
          subst (Leads table a T w s dropped kept (Ok (h - 1, c))) (sym X.is) (done H here X.low C);
    }

    module _ {w' s' dropped' kept' : List ℕ} {r : Out (ℕ × Counters)} (P : Applies w s c n removable keep dropped kept w' s' dropped' kept' r) {m : ℕ} {d : Counters} (e : r ≡ Ok (m, d)) where
      pub remember_room : CacheRoom dropped' kept' n m
      remember_room =
          let D = leads_done (P.is R.table R.view R.variables R.holds R.agrees R.caches) e in
          record { long = D.caches.long; low = ready_small; small = omega (arith, D.low, D.holds.nodes, start_room D.holds, D.holds.few_starts) }

      pub remembered : {dropped'' kept'' : List ℕ} → length w' ≡ length w → length s' ≡ length s → Remembers keep n m dropped' kept' dropped'' kept'' → Applies w s c n removable keep dropped kept w' s' dropped'' kept'' (Ok (m, d))
      remembered {dropped''} {kept''} lw ls M = record {
        is = λ table a T H A C.
            let D = leads_done (P.is table a T H A C) e in
            let l : n < length a = omega (arith, R.inside, H.nodes) in
            let x = cache_law (length w) (length s) table H.few_starts (setting keep T) a D.arena D.arena n m H.good l D.is here D.holds.good in
            let y : apply (length w') (length s') D.arena n (setting keep T) D.arena ≡ Ok (m, D.arena) = (λ i. apply (lw i) (ls i) D.arena n (setting keep T) D.arena) ∙ x in
            let X : Hit (length w') (length s') (setting keep T) D.arena n m = record { inside = omega (arith, l, ext_length a D.arena D.ext); is = y; low = D.low } in
            subst (Leads table a T w' s' dropped'' kept'' (Ok (m, d))) (sym D.is) (done D.holds D.ext D.low (caches_more D.caches X M));
      }
