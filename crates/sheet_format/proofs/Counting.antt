-- `simplify` makes at most six passes: their count has one digit.
use Prim.Native.Nat.{ℕ, zero, suc, ◌≤◌}
use mathlib.Core.Path.{◌≡◌, subst}
use mathlib.Core.Bool.{Bool, true, false}
use native.Mathlib.Omega.{arith}
use lib.ListN.{length}
use lib.Dec.{eqb}
use Rattle.std.specs.Prelude.{Ok, Err}
use Rattle.types.specs.declared.refusal.Refusal.{Refusal}
use Rattle.types.specs.Out.{Out, ◌>>=◌}
use Rattle.types.specs.Arena.{Arena}
use Rattle.simplification.specs.Pass.{pass}
use Rattle.simplification.specs.Passes.{AfterPasses, after, unchanged, passes, simplify_by, simplify}

-- an outcome of at most n passes
data AtMost (n : ℕ) : Out AfterPasses → Type 0 where
  made : {q : AfterPasses} → length q.taken ≤ n → AtMost n (Ok q)
  stopped : {e : Refusal} → AtMost n (Err e)

one_more : (n root : ℕ) (a : Arena) {o : Out AfterPasses} → AtMost n o → AtMost (suc n) (o >>= λ (q : AfterPasses). Ok (after root a q))
unfolding ◌>>=◌
one_more n root a (made {q = q} h) = made {q = after root a q} (omega arith)
one_more n root a stopped = stopped

module _ (words starts : ℕ) where
  passes_few : (n root : ℕ) (a : Arena) → AtMost n (passes words starts n root a)
  unfolding passes ◌>>=◌
  passes_few zero root a = made {q = unchanged root a} (omega arith)
  passes_few (suc n) root a = go (pass words starts root a) (λ m b. passes_few n m b)
    where
      last : (m : ℕ) (b : Arena) (d : Bool) → AtMost n (passes words starts n m b)
          → AtMost (suc n) (elim d as (λ _. Out AfterPasses) [ true ↦ Ok (after root a (unchanged m b)) | false ↦ passes words starts n m b >>= λ (q : AfterPasses). Ok (after root a q) ])
      last m b true h = made {q = after root a (unchanged m b)} (omega arith)
      last m b false h = one_more n root a h

      go : (o : Out (ℕ × Arena)) → ((m : ℕ) (b : Arena) → AtMost n (passes words starts n m b))
          → AtMost (suc n) (o >>= λ (r : ℕ × Arena). elim (eqb r.0 root) as (λ _. Out AfterPasses) [ true ↦ Ok (after root a (unchanged r.0 r.1)) | false ↦ passes words starts n r.0 r.1 >>= λ (q : AfterPasses). Ok (after root a q) ])
      go (Ok r) h = last r.0 r.1 (eqb r.0 root) (h r.0 r.1)
      go (Err e) h = stopped

  simplify_few : (root : ℕ) (a : Arena) → AtMost 6 (simplify words starts root a)
  unfolding simplify simplify_by ◌>>=◌
  simplify_few root a = go (pass words starts root a)
    where
      go : (o : Out (ℕ × Arena)) → AtMost 6 (o >>= λ (r : ℕ × Arena). passes words starts 5 r.0 r.1 >>= λ (q : AfterPasses). Ok (after root a q))
      go (Ok r) = one_more 5 root a (passes_few 5 r.0 r.1)
      go (Err e) = stopped

  pub few_passes : (root : ℕ) (a : Arena) {q : AfterPasses} → simplify words starts root a ≡ Ok q → length q.taken ≤ 6
  few_passes root a {q} e = go (simplify_few root a) e
    where
      go : {o : Out AfterPasses} → AtMost 6 o → o ≡ Ok q → length q.taken ≤ 6
      go (made {q = p} h) z = let y : p ≡ q = cc in subst (λ (x : AfterPasses). length x.taken ≤ 6) y h
      go stopped z = let y : ◌≡◌ {A = ℕ} 0 1 = cc in absurd (omega arith)
