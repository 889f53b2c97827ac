-- How many nodes of the source have a copy: as many as the target has nodes, and each node that is added to it is the copy of one more.
use Prim.Native.Nat.{ℕ, suc, ◌<◌}
use mathlib.Core.Path.{◌≡◌, refl, sym, ap, ◌∙◌, subst}
use mathlib.Core.Bool.{Bool, true, false, ◌||◌}
use mathlib.Core.List.{[], ◌∷◌}
use native.Mathlib.Omega.{arith}
use native.Mathlib.Decide.{dec_lt}
use lib.ListN.{length}
use lib.Dec.{eqb}
use borrow.Author.Tests.{eqb-true, eq-eqb, ne_eqb}
use Rattle.types.specs.Node.{Node}
use Rattle.types.specs.Arena.{Arena, sound, here, more}
use Rattle.types.proofs.Tests.{true_false}
use Rattle.bits.specs.Bits.{count_below}
use Rattle.bits.proofs.Sets.{count_none, count_more}
use Rattle.walks.proofs.Counting.{or_left}
use Rattle.walks.proofs.Reaching.{or_right}
use Rattle.copying.specs.Theorems.{CopyOf}
use Rattle.copying.proofs.Copies.{copy_inside, copy_later, copy_older, copy_one, copy_injective}

-- ---- the nodes that have a copy
pub record Copied (u a : Arena) (c : ℕ) : Type 0 where
  pub number : ℕ
  pub copy : CopyOf u a c number

pub record Counted (u a : Arena) : Type 0 where
  pub copied : ℕ → Bool
  pub count : count_below copied (length u) ≡ length a
  pub there : (c : ℕ) → copied c ≡ true → Copied u a c
  pub only : (c k : ℕ) → CopyOf u a c k → copied c ≡ true

pub counted_none : {u : Arena} → Counted u []
counted_none {u} = record { copied = λ c. false; count = count_none (length u); there = λ c e. absurd (true_false (sym e)); only = λ c k C. absurd (let l = copy_inside C in omega arith) }

-- the node that is added is the copy of node n
pub counted_more : (table : ℕ) {u d : Arena} {x : Node} {n : ℕ} → sound table u ≡ true → sound table (x ∷ d) ≡ true → n < length u → CopyOf u (x ∷ d) n (length d) → Counted u d → Counted u (x ∷ d)
counted_more table {u} {d} {x} {n} g h l new K = record { copied = copied; count = count_more K.copied copied n (length u) l fresh (or_right (K.copied n) (eqb n n) (eq-eqb n n refl)) old ∙ ap suc K.count; there = there; only = λ c k C. only c k C (dec_lt k (length d)) }
  where
    copied : ℕ → Bool
    copied c = K.copied c || eqb c n

    fresh : K.copied n ≡ false
    fresh = go (K.copied n) refl
      where
        go : (b : Bool) → K.copied n ≡ b → b ≡ false
        go false e = refl
        go true e =
            let C = K.there n e in
            let z = copy_one table h (copy_later (more x here) C.copy) new in
            absurd (let i = copy_inside C.copy in omega (arith, i, z))

    old : (c : ℕ) → (c ≡ n → ⊥) → copied c ≡ K.copied c
    old c e = ap (λ (b : Bool). K.copied c || b) (ne_eqb c n e) ∙ none (K.copied c)
      where
        none : (b : Bool) → (b || false) ≡ b
        none true = refl
        none false = refl

    there : (c : ℕ) → copied c ≡ true → Copied u (x ∷ d) c
    there c e = go (K.copied c) refl e
      where
        go : (b : Bool) → K.copied c ≡ b → (b || eqb c n) ≡ true → Copied u (x ∷ d) c
        go true p q = let C = K.there c p in record { number = C.number; copy = copy_later (more x here) C.copy }
        go false p q = record { number = length d; copy = subst (λ (i : ℕ). CopyOf u (x ∷ d) i (length d)) (sym (eqb-true c n q)) new }

    only : (c k : ℕ) → CopyOf u (x ∷ d) c k → Dec (k < length d) → copied c ≡ true
    only c k C (yes p) = or_left (K.copied c) (eqb c n) (K.only c k (copy_older table h (more x here) C p))
    only c k C (no p) =
        let z : k ≡ length d = let i = copy_inside C in omega (arith, i, p) in
        or_right (K.copied c) (eqb c n) (eq-eqb c n (copy_injective table g (subst (CopyOf u (x ∷ d) c) z C) new))
