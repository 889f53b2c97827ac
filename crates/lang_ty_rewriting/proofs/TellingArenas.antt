-- From the answer of a call that changes an arena to what is told of it, by the cases of the answer.
use Prim.Native.Nat.{ℕ, ◌<◌}
use native.Mathlib.Omega.{arith}
use mathlib.Core.Path.{◌≡◌, sym, ap, ◌∙◌, subst}
use mathlib.Core.List.{List}
use Rattle.std.specs.Prelude.{Ok, Err}
use Rattle.types.specs.declared.refusal.Refusal.{Refusal}
use Rattle.types.specs.Refusal.{number_of}
use Rattle.types.specs.Out.{Out}
use Rattle.types.specs.Reply.{Reply}
use Rattle.types.specs.declared.Counters.{Counters}
use Rattle.node_store.specs.Intern.{left}
use Rattle.simplify.specs.Simplify.{Answer, simplify_reply, Promise, left as simplify-left}
use Rattle.simplify.specs.declared.Simplified.{Simplified}
use Rattle.lang_ty.specs.Told.{told_arena, tell_arena}
use Rattle.lang_ty_rewriting.specs.Inner.{TellsWorked}
use Rattle.lang_ty_rewriting.specs.Changed.{TellsSimplified}
use Rattle.lang_ty.specs.Numbered.{Numbered, answer_of}
use Rattle.lang_ty.proofs.Numbers.{refusal_high}
use Rattle.lang_ty.proofs.Successes.{simplify_reply_numbered}

-- ---- counters in the answer
worked_case : (c : Counters) (old : ℕ) {a v : Out (ℕ × Counters)} → a ≡ v → (w s : List ℕ) → tell_arena old (left c v w s) ≡ tell_arena old (left c a w s)
worked_case c old e w s = ap (λ (v : Out (ℕ × Counters)). tell_arena old (left c v w s)) (sym e)

module _ {c : Counters} {a : Out (ℕ × Counters)} {old : ℕ} where
  pub worked_node : {n : ℕ} {d : Counters} → a ≡ Ok (n, d) → TellsWorked c a old 0 n d
  worked_node e = record { is = worked_case c old e }

  pub worked_refused : {e : Refusal} → a ≡ Err e → {k : ℕ} → k ≡ number_of e → TellsWorked c a old k old c
  worked_refused e h = record { is = λ w s. (λ i. told_arena (h i) old c w s) ∙ worked_case c old e w s }

pub worked_told : (c : Counters) (a : Out (ℕ × Counters)) {w s : List ℕ} {y : Reply ℕ} → left c a w s ≡ y → {old r root : ℕ} {d : Counters} → TellsWorked c a old r root d → told_arena r root d w s ≡ tell_arena old y
worked_told c a {w} {s} h {old} T = T.is w s ∙ ap (tell_arena old) h

-- ---- `simplify`
module _ {t w s : List ℕ} {c : Counters} {root : ℕ} {w' s' : List ℕ} {a : Out Simplified} (P : Promise t w s c root w' s' a) where
  reply_is : {v : Out Simplified} → a ≡ v → simplify-left c v w' s' ≡ simplify_reply t w s c root
  reply_is e = ap (λ (v : Out Simplified). simplify-left c v w' s') (sym e) ∙ P.answer

  -- 0 isn't told of a refusal
  refused_high : {e : Refusal} → a ≡ Err e → 0 < number_of e
  refused_high p = refusal_high (subst (λ (y : Reply Answer). Numbered (answer_of y)) (sym (reply_is p)) (simplify_reply_numbered t w s c root))

  module _ {old : Answer} where
    pub simplified_type : {q : Simplified} → a ≡ Ok q → TellsSimplified t w s c root old 0 (record { root = q.root; made = q.passes }) q.counters w' s'
    simplified_type {q} e = record { answer = ap (tell_arena old) (reply_is e); fulfilled = λ z. P.fulfilled q e }

    pub simplified_refused : {e : Refusal} → a ≡ Err e → {k : ℕ} → k ≡ number_of e → TellsSimplified t w s c root old k old c w' s'
    simplified_refused p h = record {
      answer = (λ i. told_arena (h i) old c w' s') ∙ ap (tell_arena old) (reply_is p);
      fulfilled = λ z. absurd (omega (arith, refused_high p, h, z));
    }
