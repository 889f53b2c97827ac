-- The filter after a list was closed: the bits of every node are set.
use Prim.Native.Nat.{ℕ}
use mathlib.Core.Path.{◌≡◌, subst}
use mathlib.Core.List.{List}
use native.Mathlib.Omega.{arith}
use Rattle.std.specs.Prelude.{Ok, Err, Some, None}
use Rattle.types.specs.declared.refusal.Refusal.{Refusal}
use Rattle.types.specs.Out.{Out}
use Rattle.types.specs.declared.Counters.{Counters}
use Rattle.node_filter.specs.Inner.Filter.{CoversLent, CoversAfter}
use Rattle.node_filter.proofs.Filters.{covers_kept, covers_refused}
use Rattle.member_lists.specs.Inner.Closed.{CoversClosed}

module _ {w s : List ℕ} {c : Counters} {f : List ℕ} where
  pub covers_done : {r : Out (ℕ × Counters)} → CoversAfter w s r f → CoversClosed w s c (Some r) f
  covers_done {r} C = record {
    after = λ i e. let q : r ≡ i = cc in subst (λ (k : Out (ℕ × Counters)). CoversAfter w s k f) q C;
    empty = λ e. let z : ◌≡◌ {A = ℕ} 0 1 = cc in absurd (omega arith);
  }

  pub covers_member : {n : ℕ} → CoversLent w s c f → CoversClosed w s c (Some (Ok (n, c))) f
  covers_member C = covers_done (covers_kept C)

  pub covers_empty : CoversLent w s c f → CoversClosed w s c None f
  covers_empty C = record { after = λ i e. let z : ◌≡◌ {A = ℕ} 0 1 = cc in absurd (omega arith); empty = λ e. C }

  -- nothing is said after a refusal
  pub covers_full : {n : Refusal} → CoversClosed w s c (Some (Err n)) f
  covers_full = covers_done covers_refused
