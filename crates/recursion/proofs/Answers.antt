-- Answers in sequence, and jobs that are the same.
use Prim.Native.Nat.{ℕ}
use mathlib.Core.Path.{◌≡◌, refl, ap}
use mathlib.Core.List.Memᴰ.{head}
use mathlib.Core.List.Memᴰ.{tail}
use mathlib.Core.List.{List, [], ◌∷◌, Memᴰ as Mem}
use native.Mathlib.Omega.{arith}
use Rattle.std.specs.Prelude.{Ok, Err}
use Rattle.types.specs.declared.refusal.Refusal.{Refusal}
use Rattle.types.specs.Out.{Out, ◌>>=◌}
use Rattle.types.specs.Node.{Tag, node}
use Rattle.types.specs.Arena.{Arena}
use Rattle.node_store.specs.Intern.{intern}
use Rattle.recursion.specs.Jobs.{Job, each, rebuild}

pub ok_err : {A : Type 0} {x : A} {n : Refusal} → ◌≡◌ {A = Out A} (Err n) (Ok x) → ⊥
ok_err e = let z : ◌≡◌ {A = ℕ} 0 1 = cc in omega arith

pub ok_same : {A : Type 0} {x y : A} → ◌≡◌ {A = Out A} (Ok x) (Ok y) → x ≡ y
ok_same e = cc

-- a finished sequence of two steps: both are finished
pub bind_parts : {A B : Type 0} (o : Out A) (f : A → Out B) {y : B} → (o >>= f) ≡ Ok y → (x : A) × (o ≡ Ok x) × (f x ≡ Ok y)
unfolding ◌>>=◌
bind_parts (Ok x) f e = (x, refl, e)
bind_parts (Err n) f e = absurd (ok_err e)

pub bind_ok : {A B : Type 0} (o : Out A) (x : A) (f : A → Out B) → o ≡ Ok x → (o >>= f) ≡ f x
unfolding ◌>>=◌
bind_ok {A} o x f e = ap (λ (o : Out A). o >>= f) e

-- ---- the same jobs for the children
pub each_same : (f g : ℕ → Job) (cs : List ℕ) → ((c : ℕ) → Mem c cs → f c ≡ g c) → (a : Arena) → each f cs a ≡ each g cs a
unfolding each
each_same f g [] h a = refl
each_same f g (c ∷ cs) h a = λ i. h c (head refl) i a >>= λ r. each_same f g cs (λ d k. h d (tail k)) r.1 i >>= λ q. Ok (r.0 ∷ q.0, q.1)

pub rebuild_same : (words starts : ℕ) (t : Tag) (f g : ℕ → Job) (cs : List ℕ) → ((c : ℕ) → Mem c cs → f c ≡ g c) → (a : Arena) → rebuild words starts t cs f a ≡ rebuild words starts t cs g a
unfolding rebuild
rebuild_same words starts t f g cs h a = ap (λ (o : Out (List ℕ × Arena)). o >>= λ r. intern words starts (node t r.0) r.1) (each_same f g cs h a)
