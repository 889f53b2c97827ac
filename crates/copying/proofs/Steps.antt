-- The copy of a node, from its children's: the recursion behind a node is the recursion in the whole source.
use Prim.Native.Nat.{ℕ, ◌<◌}
use mathlib.Core.Path.{◌≡◌, sym, ◌∙◌}
use mathlib.Core.Bool.{true}
use mathlib.Core.List.{Memᴰ as Mem}
use native.Mathlib.Omega.{arith}
use lib.ListN.{length}
use Rattle.std.specs.Prelude.{Err}
use Rattle.types.specs.declared.refusal.Refusal.TheVariants as refusal
use Rattle.types.specs.Node.{tag, children}
use Rattle.types.specs.Arena.{Arena, at, sound, Ext}
use Rattle.types.proofs.Growth.{before, ext_tail, ext_rec, rec_at}
use Rattle.types.proofs.Sound.{child_lower}
use Rattle.recursion.specs.Jobs.{rebuild}
use Rattle.recursion.proofs.Members.{index_of}
use Rattle.recursion.proofs.Answers.{rebuild_same}
use Rattle.copying.specs.Copy.{copy}

module _ (words starts : ℕ) where
  -- an old number is copied alike
  copy_kept : (s u : Arena) → Ext s u → (n : ℕ) → n < length s → copy words starts u n ≡ copy words starts s n
  unfolding copy
  copy_kept s u e n l = ext_rec (λ s x f. rebuild words starts (tag x) (children x) f) (λ a. Err refusal.NoSuchRoot) s u e n l

  pub copy_at : (table : ℕ) (u : Arena) → sound table u ≡ true → (n : ℕ) → n < length u → (a : Arena) → copy words starts u n a ≡ rebuild words starts (tag (at u n)) (children (at u n)) (copy words starts u) a
  unfolding copy
  copy_at table u h n l a =
      let B = before u n l in
      let low : (c : ℕ) → Mem c (children (at u n)) → c < length B.older = λ c k. let j = index_of k in omega (arith, j.is, B.count, child_lower table u h n l j.index j.inside) in
      (λ i. rec_at (λ s x f. rebuild words starts (tag x) (children x) f) (λ a. Err refusal.NoSuchRoot) u n l i a)
      ∙ rebuild_same words starts (tag (at u n)) (copy words starts B.older) (copy words starts u) (children (at u n)) (λ c k. sym (copy_kept B.older u (ext_tail B.ext) c (low c k))) a
