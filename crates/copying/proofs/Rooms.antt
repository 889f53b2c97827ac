-- What a finished job leaves has room where there was some, and so has a finished copy: every node was added by interning, which asks for it.
use Prim.Native.Nat.{ℕ, zero, suc, ◌<◌}
use mathlib.Core.Path.{◌≡◌, refl, sym, ◌∙◌, subst}
use mathlib.Core.Bool.{true}
use mathlib.Core.List.Memᴰ.{head}
use mathlib.Core.List.Memᴰ.{tail}
use mathlib.Core.List.{List, [], ◌∷◌, Memᴰ as Mem}
use native.Mathlib.Omega.{arith}
use lib.ListN.{length}
use Rattle.std.specs.Prelude.{Ok}
use Rattle.types.specs.Node.{Tag, Node, node, tag, children}
use Rattle.types.specs.Arena.{Arena, at, sound}
use Rattle.types.proofs.Sound.{child_lower}
use Rattle.node_store.specs.Intern.{has_room}
use Rattle.node_store.proofs.Interning.{Done, stored, added, done}
use Rattle.recursion.specs.Jobs.{Job, each, rebuild}
use Rattle.recursion.proofs.Members.{index_of}
use Rattle.recursion.proofs.Answers.{ok_same, bind_parts}
use Rattle.copying.specs.Copy.{copy}
use Rattle.copying.proofs.Steps.{copy_at}

pub done_roomy : {words starts : ℕ} {x : Node} {a b : Arena} {m : ℕ} → has_room words starts a ≡ true → Done words starts x a m b → has_room words starts b ≡ true
done_roomy r (stored p) = r
done_roomy r (added p q) = q

module _ (words starts : ℕ) where
  abbrev pub Roomy : Arena → Type 0
  Roomy a = has_room words starts a ≡ true

  -- a job that leaves room where there was
  abbrev pub Keeps : Job → Type 0
  Keeps j = (a : Arena) (m : ℕ) (b : Arena) → Roomy a → j a ≡ Ok (m, b) → Roomy b

  each_keeps : (f : ℕ → Job) (cs : List ℕ) → ((c : ℕ) → Mem c cs → Keeps (f c)) → (a : Arena) (ms : List ℕ) (b : Arena) → Roomy a → each f cs a ≡ Ok (ms, b) → Roomy b
  unfolding each
  each_keeps f [] h a ms b r e = subst (λ (v : List ℕ × Arena). Roomy v.1) (ok_same e) r
  each_keeps f (c ∷ cs) h a ms b r e =
      let p = bind_parts (f c a) _ e in
      let q = bind_parts (each f cs p.0.1) _ p.2 in
      let k = each_keeps f cs (λ d i. h d (tail i)) p.0.1 q.0.0 q.0.1 (h c (head refl) a p.0.0 p.0.1 r p.1) q.1 in
      subst (λ (v : List ℕ × Arena). Roomy v.1) (ok_same q.2) k

  pub rebuild_keeps : (t : Tag) (f : ℕ → Job) (cs : List ℕ) → ((c : ℕ) → Mem c cs → Keeps (f c)) → Keeps (rebuild words starts t cs f)
  unfolding rebuild
  rebuild_keeps t f cs h a m b r e =
      let p = bind_parts (each f cs a) _ e in
      done_roomy (each_keeps f cs h a p.0.0 p.0.1 r p.1) (done words starts (node t p.0.0) p.0.1 m b p.2)

  module _ (table : ℕ) (u : Arena) (g : sound table u ≡ true) where
    pub copy_room : (j n : ℕ) → n < j → n < length u → Keeps (copy words starts u n)
    copy_room zero n k l a m b r e = absurd (omega arith)
    copy_room (suc j) n k l a m b r e =
        let low : (c : ℕ) → Mem c (children (at u n)) → c < n = λ c i. let x = index_of i in omega (arith, x.is, child_lower table u g n l x.index x.inside) in
        rebuild_keeps (tag (at u n)) (copy words starts u) (children (at u n)) (λ c i. copy_room j c (omega (arith, low c i, k)) (omega (arith, low c i, l))) a m b r (sym (copy_at words starts table u g n l a) ∙ e)
