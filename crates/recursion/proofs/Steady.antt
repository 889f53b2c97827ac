-- The cache law: what a recursion over an arena answered once it answers again in every later sound arena, and it adds nothing then. Jobs of which
-- that is so are steady. Interning is; one steady job after another is; so is a recursion whose every step is, if the steps behind it are.
use Prim.Native.Nat.{ℕ, suc, ◌<◌}
use mathlib.Core.Path.{◌≡◌, refl, sym, ap, ◌∙◌, subst}
use mathlib.Core.Bool.{Bool, true, false}
use mathlib.Core.List.Memᴰ.{head}
use mathlib.Core.List.Memᴰ.{tail}
use mathlib.Core.List.{List, [], ◌∷◌, Memᴰ as Mem}
use native.Mathlib.Omega.{arith}
use lib.ListN.{length, get_or}
use lib.Dec.{eqb}
use borrow.Author.Tests.{eqb-true, eqb-false, lt-ltb}
use Rattle.std.specs.Prelude.{Ok, Err}
use Rattle.types.specs.declared.refusal.Refusal.{Refusal}
use Rattle.types.specs.Out.{Out, ◌>>=◌}
use Rattle.types.specs.Node.{Node, node, tag, children, below, well}
use Rattle.types.specs.Arena.{Arena, rec, sound, Ext, here, more}
use Rattle.types.proofs.Lists.{below_more}
use Rattle.types.proofs.Growth.{ext_trans, ext_length, at_new, rec_grow, rec_new}
use Rattle.types.proofs.Sound.{sound_well, sound_tail, child_lower}
use Rattle.node_store.specs.Intern.{intern}
use Rattle.recursion.specs.Jobs.{Job, each, rebuild}
use Rattle.recursion.specs.Theorems.{Finished, Steady, There, RecSteady, InternSteady, ThenSteady, EachSteady, RebuildSteady}
use Rattle.recursion.proofs.Members.{index_of}
use Rattle.recursion.proofs.Answers.{ok_err, ok_same, bind_parts, bind_ok}
use Rattle.recursion.proofs.Interning.{node_is, at_later, well_again, interned, intern_there}

-- every arena grew from the empty one
pub ext_empty : (a : Arena) → Ext [] a
ext_empty [] = here
ext_empty (x ∷ a) = more x (ext_empty a)

module _ {A : Type 0} {table : ℕ} {fits : A → Arena → Type 0} where
  pub steady_later : {start a : Arena} {j : Arena → Out (A × Arena)} → Ext start a → Steady table start fits j → Steady table a fits j
  steady_later e S = record { is = λ a b x f. S.is a b x (ext_trans e f) }

  -- what does the same in every arena that grew from `start`
  pub steady_as : {start : Arena} (j k : Arena → Out (A × Arena)) → ((a : Arena) → Ext start a → j a ≡ k a) → Steady table start fits k → Steady table start fits j
  steady_as j k h S = record {
    is = λ a b x e g q.
        let F = S.is a b x e g (sym (h a e) ∙ q) in
        record { ext = F.ext; good = F.good; inside = F.inside; again = λ d f l. h d (ext_trans e (ext_trans F.ext f)) ∙ F.again d f l };
  }

  -- a refusal
  pub refusal_steady : {start : Arena} (n : Refusal) → Steady table start fits (λ (a : Arena). Err n)
  refusal_steady n = record { is = λ a b x e g q. absurd (ok_err q) }

  -- an answer that needs no work
  pub answer_steady : (start : Arena) (x : A) → ((a : Arena) → Ext start a → fits x a) → Steady table start fits (λ (a : Arena). Ok (x, a))
  answer_steady start x h = record {
    is = λ a b y e g q. subst (λ (v : A × Arena). Finished table fits (λ (d : Arena). Ok (x, d)) a v.0 v.1) (ok_same q) (record { ext = here; good = g; inside = h a e; again = λ d f k. refl });
  }

-- one job after another
pub then_steady : {A B : Type 0} {table : ℕ} {start : Arena} {fits : A → Arena → Type 0} {suits : B → Arena → Type 0} (j : Arena → Out (A × Arena)) (k : A → Arena → Out (B × Arena)) → ThenSteady table start fits suits j k
then_steady {A} j k J K = record {
  is = λ a b y e g q.
      let p = bind_parts (j a) (λ (r : A × Arena). k r.0 r.1) q in
      let F = J.is a p.0.1 p.0.0 e g p.1 in
      let G = (K p.0.0 p.0.1 (ext_trans e F.ext) F.good F.inside).is p.0.1 b y here F.good p.2 in
      record {
        ext = ext_trans F.ext G.ext;
        good = G.good;
        inside = G.inside;
        again = λ d f h. bind_ok (j d) (p.0.0, d) (λ (r : A × Arena). k r.0 r.1) (F.again d (ext_trans G.ext f) h) ∙ G.again d f h;
      };
}

pub each_steady : EachSteady
unfolding each below
each_steady table f [] start h = answer_steady start [] (λ a e. record { count = refl; low = refl })
each_steady table f (c ∷ cs) start h =
    then_steady (f c) (λ (m : ℕ) (a : Arena). each f cs a >>= λ (q : List ℕ × Arena). Ok (m ∷ q.0, q.1)) (h c (head refl))
    (λ m a e g l. then_steady (each f cs) (λ (ms : List ℕ) (b : Arena). Ok (m ∷ ms, b)) (each_steady table f cs a (λ d i. steady_later e (h d (tail i))))
    (λ ms b x k I. answer_steady b (m ∷ ms)
    (λ d y. record { count = ap suc I.count; low = low m ms a b d l x y I.low })))
  where
    low : (m : ℕ) (ms : List ℕ) (a b d : Arena) → m < length a → Ext a b → Ext b d → below (length b) ms ≡ true → below (length d) (m ∷ ms) ≡ true
    low m ms a b d l x y e = rw (lt-ltb m (length d) (omega (arith, l, ext_length a b x, ext_length b d y))) (below_more (length b) (length d) ms (ext_length b d y) e)

pub intern_steady : InternSteady
intern_steady words starts table few start x w = record {
  is = λ a b m e g q.
      let J = interned words starts table few x a g m b (w a e) q in
      record { ext = J.ext; good = J.good; inside = J.is.inside; again = λ d f h. intern_there words starts table x d h m (at_later f J.is) };
}

-- a node with what its children became
pub rebuild_steady : RebuildSteady
unfolding rebuild
rebuild_steady words starts table few start n t cs f w h =
    then_steady (each f cs) (λ (ms : List ℕ). intern words starts (node t ms)) (each_steady table f cs start h)
    (λ ms a e g I. intern_steady words starts table few a (node t ms) (λ b x k. well_again table (length b) k n t cs ms w I.count (below_more (length a) (length b) ms (ext_length a b x) I.low)))

-- ---- a recursion
-- a node behind which stands a sound arena
module _ (table : ℕ) (x : Node) (s : Arena) (g : sound table (x ∷ s) ≡ true) where
  pub step_well : well table (length s) (node (tag x) (children x)) ≡ true
  step_well = subst (λ (y : Node). well table (length s) y ≡ true) (node_is x refl) (sound_well table x s g)

  pub step_child : (c : ℕ) → Mem c (children x) → c < length s
  step_child c i =
      let j = index_of i in
      let low = subst (λ (y : Node). (i : ℕ) → i < length (children y) → get_or (children y) i 0 < length s) (at_new x s) (child_lower table (x ∷ s) g (length s) (omega arith)) in
      omega (arith, j.is, low j.index j.inside)

pub rec_steady : (own table : ℕ) {Y I : Type 0} (job : Y → I → Job) (step : Arena → Node → (ℕ → Y) → Y) (y : Y) (from : Arena → Arena) → RecSteady own table job step y from
rec_steady own table job step y from grows steady [] g n l i = absurd (omega arith)
rec_steady own table {Y} {I} job step y from grows steady (x ∷ s) g n l i = go (eqb n (length s)) refl (rec_steady own table job step y from grows steady s (sound_tail own x s g))
  where
    go : (b : Bool) → eqb n (length s) ≡ b → ((n : ℕ) → n < length s → (i : I) → Steady table (from s) There (job (rec step y s n) i)) → Steady table (from (x ∷ s)) There (job (rec step y (x ∷ s) n) i)
    go true e h =
        let q = ap (rec step y (x ∷ s)) (eqb-true n (length s) e) ∙ rec_new step y x s in
        subst (λ (v : Y). Steady table (from (x ∷ s)) There (job v i)) (sym q) (steady x s (rec step y s) g h i)
    go false e h =
        let k : n < length s = let z : n ≡ length s → ⊥ = eqb-false n (length s) e in omega arith in
        subst (λ (v : Y). Steady table (from (x ∷ s)) There (job v i)) (sym (rec_grow step y x s n k)) (steady_later (grows x s) (h n k i))
