-- A cleared target holds the empty arena, from which the copy begins; a refused copy is taken back to it.
use Prim.Native.Nat.{ℕ, ◌-◌}
use mathlib.Core.Path.{◌≡◌, refl, sym, ap, ◌∙◌, subst}
use mathlib.Core.List.{List, []}
use native.Mathlib.Omega.{arith}
use lib.ListN.{length, replicate, length-replicate}
use Rattle.std.specs.Prelude.{Ok, Err}
use Rattle.types.specs.declared.refusal.Refusal.{Refusal}
use Rattle.types.specs.Out.{Out}
use Rattle.types.specs.Arena.{Arena, sound}
use Rattle.types.specs.Memory.{flat, heads, words_of, starts_of, counters_of, Holds}
use Rattle.types.specs.Reply.{reply_of}
use Rattle.types.specs.declared.Counters.{Counters}
use Rattle.recursion.specs.Inner.Work.{Leads, Ready, Does, TakesBack}
use Rattle.recursion.proofs.Leading.{leads_done, leads_stop}
use Rattle.recursion.proofs.Remembering.{cache_none}
use Rattle.copying.specs.Copy.{copy}
use Rattle.copying.specs.Inner.{Source}
use Rattle.compact.specs.Compact.{cleared, empty, compacted, left}
use Rattle.compact.specs.Inner.{ClearReady, CompactsCleared}

abbrev zeros : ℕ → List ℕ
zeros k = replicate k 0

taken : {w w' : List ℕ} → TakesBack w 0 w' → w' ≡ cleared w
taken {w} T = let z : length w - 0 ≡ length w = omega arith in T.is ∙ ap zeros z

-- cleared again, it is as it was cleared first
again : (w : List ℕ) {w' w'' : List ℕ} → length w' ≡ length w → TakesBack w' 0 w'' → w'' ≡ cleared w
again w e T = taken T ∙ ap zeros e

long : (w : List ℕ) → length (cleared w) ≡ length w
long w = length-replicate {A = ℕ} (length w) 0

module _ {w s : List ℕ} {c : Counters} {root : ℕ} {tw ts : List ℕ} (R : ClearReady w s c root tw ts) where
  empty_holds : (table : ℕ) → Holds table (cleared tw) (cleared ts) empty []
  unfolding flat heads sound
  empty_holds table = record {
    few_words = omega (arith, long tw, R.few_words);
    few_starts = omega (arith, long ts, R.few_starts);
    nodes = refl;
    total = refl;
    words = let z : length tw ≡ length (cleared tw) - 0 = omega (arith, long tw) in ap zeros z;
    starts = let z : length ts ≡ length (cleared ts) - 0 = omega (arith, long ts) in ap zeros z;
    good = refl;
  }

  module _ {tw₁ ts₁ : List ℕ} (T : TakesBack tw 0 tw₁) (U : TakesBack ts 0 ts₁) where
    begins : (table : ℕ) → Holds table tw₁ ts₁ empty []
    begins table = subst (λ (x : List ℕ). Holds table x ts₁ empty []) (sym (taken T)) (subst (λ (x : List ℕ). Holds table (cleared tw) x empty []) (sym (taken U)) (empty_holds table))

    pub cleared_ready : Ready copy (Source w s c) tw₁ ts₁ empty root (replicate 4096 0)
    cleared_ready =
        let L = R.range.lent in
        record {
          table = L.table;
          source = L.view;
          view = [];
          holds = begins L.table;
          beside = record { holds = L.holds };
          inside = omega (arith, R.range.inside, L.holds.nodes);
          cache = cache_none;
        }

    module _ {tw₂ ts₂ entries : List ℕ} {r : Out (ℕ × Counters)} (D : Does copy (Source w s c) tw₁ ts₁ empty root (replicate 4096 0) tw₂ ts₂ entries r) where
      -- the run is that of the definition
      lw : length tw₁ ≡ length tw
      lw = ap length (taken T) ∙ long tw

      ls : length ts₁ ≡ length ts
      ls = ap length (taken U) ∙ long ts

      run_is : (u : Arena) → copy (length tw) (length ts) u root [] ≡ copy (length tw₁) (length ts₁) u root []
      run_is u = sym (λ i. copy (lw i) (ls i) u root [])

      module _ {table : ℕ} {u : Arena} (H : Holds table w s c u) where
        led : Leads table [] (copy (length tw₁) (length ts₁) u) (length u) tw₂ ts₂ entries r (copy (length tw₁) (length ts₁) u root [])
        led = D.is table u [] (begins table) (record { holds = H }) (omega (arith, R.range.inside, H.nodes)) cache_none

      pub cleared_done : {n : ℕ} {d : Counters} → r ≡ Ok (n, d) → length tw₂ ≡ length tw₁ → length ts₂ ≡ length ts₁ → CompactsCleared w s c root tw ts tw₂ ts₂ (record { answer = Ok n; counters = d })
      unfolding compacted reply_of
      cleared_done {n} {d} q lw₂ ls₂ = record {
        is = λ table u H.
            let F = leads_done (led H) q in
            let G = F.holds in
            let cd : d ≡ counters_of F.arena = λ i. record { nodes = G.nodes i; words = G.total i } in
            let ww : tw₂ ≡ words_of (length (cleared tw)) F.arena = G.words ∙ ap (λ (k : ℕ). words_of k F.arena) (lw₂ ∙ ap length (taken T)) in
            let ss : ts₂ ≡ starts_of (length (cleared ts)) F.arena = G.starts ∙ ap (λ (k : ℕ). starts_of k F.arena) (ls₂ ∙ ap length (taken U)) in
            (λ i. left (record { answer = Ok n; counters = cd i }) (ww i) (ss i)) ∙ sym (ap (reply_of (cleared tw) (cleared ts) empty) (run_is u ∙ F.is));
      }

      pub cleared_stopped : {x : Refusal} → r ≡ Err x → {tw₃ ts₃ : List ℕ} → TakesBack tw₂ 0 tw₃ → TakesBack ts₂ 0 ts₃ → length tw₂ ≡ length tw₁ → length ts₂ ≡ length ts₁ → CompactsCleared w s c root tw ts tw₃ ts₃ (record { answer = Err x; counters = empty })
      unfolding compacted reply_of
      cleared_stopped {x} q T₂ U₂ lw₂ ls₂ = record {
        is = λ table u H.
            let S = leads_stop (led H) q in
            (λ i. left (record { answer = Err x; counters = empty }) (again tw (lw₂ ∙ lw) T₂ i) (again ts (ls₂ ∙ ls) U₂ i)) ∙ sym (ap (reply_of (cleared tw) (cleared ts) empty) (run_is u ∙ S.is));
      }
