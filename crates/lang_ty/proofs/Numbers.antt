-- A refusal's number is from 1 to 10: that holds of each step that the definitions are made of, and so of a recursion whose every step keeps it.
use Prim.Native.Nat.{ℕ, ◌<◌, ◌≤◌}
use native.Mathlib.Omega.{arith}
use mathlib.Core.Bool.{Bool, true, false}
use mathlib.Core.Path.{refl}
use mathlib.Core.List.Memᴰ.{head}
use mathlib.Core.List.Memᴰ.{tail}
use mathlib.Core.List.{List, [], ◌∷◌, Memᴰ as Mem}
use mathlib.Core.Option.{Option, none, some}
use lib.ListN.{length}
use lib.Dec.{eqb, ltb}
use Rattle.std.specs.Prelude.{Err}
use Rattle.types.specs.declared.refusal.Refusal.{Refusal}
use Rattle.types.specs.Refusal.{number_of}
use Rattle.types.specs.Out.{Out, required, ◌>>=◌}
use Rattle.types.specs.Node.{Tag, Node, node}
use Rattle.types.specs.Arena.{Arena, rec, find}
use Rattle.types.specs.Reply.{reply_of, rooted}
use Rattle.types.specs.declared.Counters.{Counters}
use Rattle.node_store.specs.Intern.{has_room, intern}
use Rattle.recursion.specs.Jobs.{Job, each, rebuild}
use Rattle.lang_ty.specs.Numbered.{Numbered, value, refusal, answer_of}

pub refusal_high : {A : Type 0} {e : Refusal} → Numbered {A = A} (Err e) → 0 < number_of e
refusal_high (refusal l m) = l

pub refusal_low : {A : Type 0} {e : Refusal} → Numbered {A = A} (Err e) → number_of e ≤ 10
refusal_low (refusal l m) = m

-- whatever a test picks, if both have the property
pub by_test : {Y : Type 0} (P : Y → Type 0) (b : Bool) {x y : Y} → P x → P y → P (elim b [ true ↦ x | false ↦ y ])
by_test P true p q = p
by_test P false p q = q

pub by_option : {N Y : Type 0} (P : Y → Type 0) (o : Option N) {f : N → Y} {y : Y} → ((n : N) → P (f n)) → P y → P (elim o [ some n ↦ f n | none ↦ y ])
by_option P (some n) p q = p n
by_option P none p q = q

pub by_required : {A N : Type 0} (P : Out A → Type 0) (e : Refusal) (o : Option N) {f : N → Out A} → P (Err e) → ((n : N) → P (f n)) → P (required e o f)
unfolding required
by_required P e none p h = p
by_required P e (some n) p h = h n

module _ {A : Type 0} where
  pub required_numbered : {N : Type 0} (e : Refusal) → 0 < number_of e → number_of e ≤ 10 → (o : Option N) {f : N → Out A} → ((n : N) → Numbered (f n)) → Numbered (required e o f)
  required_numbered e l m o h = by_required Numbered e o (refusal l m) h

  pub then_numbered : {B : Type 0} {o : Out A} {f : A → Out B} → Numbered o → ((x : A) → Numbered (f x)) → Numbered (o >>= f)
  unfolding ◌>>=◌
  then_numbered (value x) h = h x
  then_numbered (refusal l m) h = refusal l m

  pub rooted_numbered : (root : ℕ) {f : Arena → Out A} → ((a : Arena) → Numbered (f a)) → (a : Arena) → Numbered (rooted root f a)
  unfolding rooted
  rooted_numbered root h a = by_test Numbered (ltb root (length a)) (h a) (refusal (omega arith) (omega arith))

-- what is answered and left
pub reply_numbered : {A : Type 0} (w s : List ℕ) (c : Counters) {o : Out (A × Arena)} → Numbered o → Numbered (answer_of (reply_of w s c o))
unfolding reply_of
reply_numbered w s c (value r) = value r.0
reply_numbered w s c (refusal l m) = refusal l m

-- a recursion over an arena has a property that its every step keeps
module _ {Y : Type 0} (P : Y → Type 0) {step : Arena → Node → (ℕ → Y) → Y} {y : Y} (base : P y) (keeps : (s : Arena) (x : Node) (f : ℕ → Y) → ((n : ℕ) → P (f n)) → P (step s x f)) where
  pub rec_all : (s : Arena) (n : ℕ) → P (rec step y s n)
  unfolding rec
  rec_all [] n = base
  rec_all (x ∷ s) n = by_test P (eqb n (length s)) (keeps s x (rec step y s) (rec_all s)) (rec_all s n)

-- ---- work in an arena
abbrev pub NumberedJob : Job → Type 0
NumberedJob j = (a : Arena) → Numbered (j a)

pub each_numbered : {f : ℕ → Job} (cs : List ℕ) → ((c : ℕ) → Mem c cs → NumberedJob (f c)) → (a : Arena) → Numbered (each f cs a)
unfolding each
each_numbered [] h a = value ([], a)
each_numbered (c ∷ cs) h a = then_numbered (h c (head refl) a) (λ r. then_numbered (each_numbered cs (λ d m. h d (tail m)) r.1) (λ q. value (r.0 ∷ q.0, q.1)))

module _ (words starts : ℕ) where
  pub intern_numbered : (x : Node) → NumberedJob (intern words starts x)
  unfolding intern
  intern_numbered x a = by_option Numbered (find x a) (λ n. value (n, a)) (by_test Numbered (has_room words starts (x ∷ a)) (value (length a, x ∷ a)) (refusal (omega arith) (omega arith)))

  pub rebuild_numbered : (t : Tag) (cs : List ℕ) {f : ℕ → Job} → ((c : ℕ) → Mem c cs → NumberedJob (f c)) → NumberedJob (rebuild words starts t cs f)
  unfolding rebuild
  rebuild_numbered t cs h a = then_numbered (each_numbered cs h a) (λ r. intern_numbered (node t r.0) r.1)
