-- From an answer of `intern` to the reply of a call whose counters are lent: by cases on the answer.
use mathlib.Core.Path.{◌≡◌, refl, sym, ap, ap₂, ◌∙◌}
use mathlib.Core.List.{List}
use Prim.Native.Nat.{ℕ}
use Rattle.std.specs.Prelude.{Err, Ok}
use Rattle.types.specs.Out.{Out}
use Rattle.types.specs.Reply.{Reply, reply}
use Rattle.types.specs.declared.Counters.{Counters}
use Rattle.node_store.specs.Intern.{left}
use Rattle.arena.specs.Theorems.{answered}
use Rattle.arena.proofs.Answers.{refused_unchanged}
use Rattle.lent_counters.specs.Inner.{stored, counters_left}
use Rattle.lent_counters.specs.Theorems.{RefusedKept}

-- the answer of a node that was stored
pub stored_node : {a : Out (ℕ × Counters)} {n : ℕ} {d : Counters} → a ≡ Ok (n, d) → Ok n ≡ stored a
stored_node e = sym (ap stored e)

at_answer : (c : Counters) (a : Out (ℕ × Counters)) (w s : List ℕ) → reply (stored a) (counters_left c a) w s ≡ left c a w s
at_answer c (Ok (n, d)) w s = refl
at_answer c (Err e) w s = refl

-- what is stored and returned is the reply that the answer stands for
pub lent_reply : (c : Counters) (a : Out (ℕ × Counters)) {d : Counters} {r : Out ℕ} {w s : List ℕ} {y : Reply ℕ} → left c a w s ≡ y → d ≡ counters_left c a → r ≡ stored a → reply r d w s ≡ y
lent_reply c a {w = w} {s = s} e ed er = ap₂ (λ (t : Out ℕ) (b : Counters). reply t b w s) er ed ∙ at_answer c a w s ∙ e

-- a refusal leaves the lent counters as they were
pub refused_kept : RefusedKept
refused_kept t w s c ws e d w' s' p = let q : reply (Err e) d w' s' ≡ reply (Err e) c w s = p ∙ refused_unchanged t w s c ws e (sym (ap answered p)) in cc
