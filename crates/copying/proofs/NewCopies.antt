-- A node that had no copy before its children were copied has none after, so that its copy isn't found. Once it is added, no other node has a copy more.
use Prim.Native.Nat.{ℕ, ◌<◌}
use mathlib.Core.Path.{◌≡◌, refl, sym, ap, ◌∙◌, subst}
use mathlib.Core.Bool.{true}
use mathlib.Core.List.{List}
use mathlib.Core.Option.{Option, none, some}
use native.Mathlib.Omega.{arith}
use native.Mathlib.Decide.{dec_lt}
use lib.ListN.{length}
use Rattle.std.specs.Prelude.{Ok}
use Rattle.types.specs.Out.{Out, ◌>>=◌}
use Rattle.types.specs.Node.{positive, Node, node, tag, children}
use Rattle.types.specs.Arena.{Arena, at, find, sound}
use Rattle.types.proofs.Sound.{child_lower, find_at}
use Rattle.types.proofs.Walks.{place_lower}
use Rattle.node_store.specs.Intern.{intern}
use Rattle.node_store.proofs.Interning.{Done, done, done_ext}
use Rattle.recursion.specs.Jobs.{each, rebuild}
use Rattle.copying.specs.Copy.{copy}
use Rattle.copying.specs.Theorems.{CopyOf}
use Rattle.copying.proofs.Steps.{copy_at}
use Rattle.copying.proofs.Copies.{copy_inside, copy_made, copy_older, copy_injective}
use Rattle.copying.proofs.Running.{Ran, RanAll, last_added}

module _ (table : ℕ) {u a b : Arena} {n : ℕ} {ms : List ℕ} (g : sound table u ≡ true) (l : n < length u) (S : RanAll table u a (children (at u n)) ms b) where
  -- new copies are those of nodes below n
  pub none_new : ((k : ℕ) → CopyOf u a n k → ⊥) → (k : ℕ) → CopyOf u b n k → ⊥
  none_new f k C = go (dec_lt k (length a))
    where
      go : Dec (k < length a) → ⊥
      go (yes p) = f k (copy_older table S.good S.ext C p)
      go (no p) =
          let N = S.new k (omega (arith, p)) (copy_inside C) in
          let low = child_lower table u g n l N.index N.inside in
          let under = place_lower table u g (N.from.under positive).place (omega (arith, low, l)) in
          let same = copy_injective table g C N.from.copy in
          omega (arith, low, under, same)

  pub not_found : ((k : ℕ) → CopyOf u b n k → ⊥) → find (node (tag (at u n)) ms) b ≡ none
  not_found f = go (find (node (tag (at u n)) ms) b) refl
    where
      go : (o : Option ℕ) → find (node (tag (at u n)) ms) b ≡ o → o ≡ none
      go none q = refl
      go (some m) q = let p = find_at (node (tag (at u n)) ms) b m q in absurd (f m (copy_made l (record { inside = p.0; is = p.1 }) S.count S.each_is))

  -- another node with a copy had it before
  pub other_old : {lw ls m i k : ℕ} {x : Node} {d : Arena} → Done lw ls x b m d → Ran table u a n m d → (i ≡ n → ⊥) → CopyOf u d i k → CopyOf u b i k
  other_old {i = i} {k = k} {d = d} D R f C = go (dec_lt k (length b))
    where
      go : Dec (k < length b) → CopyOf u b i k
      go (yes p) = copy_older table R.good (done_ext D) C p
      go (no p) =
          let z = last_added D k (omega (arith, p)) (copy_inside C) in
          absurd (f (copy_injective table g (subst (CopyOf u d i) z C) R.is))

-- a finished copy ends with the node
pub copy_ends : (words starts table : ℕ) (u : Arena) → sound table u ≡ true → (n : ℕ) → n < length u → (a : Arena) (ms : List ℕ) (b : Arena) (m : ℕ) (d : Arena) → each (copy words starts u) (children (at u n)) a ≡ Ok (ms, b) → copy words starts u n a ≡ Ok (m, d)
    → Done words starts (node (tag (at u n)) ms) b m d
unfolding rebuild ◌>>=◌
copy_ends words starts table u g n l a ms b m d e q =
    done words starts (node (tag (at u n)) ms) b m d
    (sym (ap (λ (o : Out (List ℕ × Arena)). o >>= λ (r : List ℕ × Arena). intern words starts (node (tag (at u n)) r.0) r.1) e) ∙ sym (copy_at words starts table u g n l a) ∙ q)
