-- Rows from node 0 up: each node's row is right since its children's are, and its last is the root's.
use Prim.Native.Nat.{ℕ, ◌+◌, ◌-◌, ◌*◌, ◌/◌, ◌%◌, ◌≤◌, ◌<◌}
use mathlib.Core.Path.{◌≡◌, sym, ap, ◌∙◌, subst}
use mathlib.Core.Bool.{Bool}
use mathlib.Core.List.{List}
use native.Mathlib.Omega.{arith}
use native.Mathlib.Nat.{mul-le-mul, mul-le-mul_right}
use native.Mathlib.Decide.{ℕ_discrete}
use lib.ListN.{length, get_or, replicate, length-replicate}
use mir.Syntax.{w32, w64}
use mir.Val.{Fits}
use Rattle.types.specs.Node.{tag, children}
use Rattle.types.specs.Arena.{Arena, at}
use Rattle.types.specs.Memory.{Holds}
use Rattle.types.specs.declared.Counters.{Counters}
use Rattle.types.proofs.Sound.{at_well, children_below, child_lower, fold_at}
use Rattle.node_store.specs.Inner.Stored.{InRange, NodeAt}
use Rattle.types.proofs.Addresses.{start_room}
use Rattle.bits.specs.Bits.{bit, has}
use Rattle.fix_values.specs.Fix.{Fix, value_at}
use Rattle.fix_values.specs.Inner.{FixIn}
use Rattle.fix_values.proofs.Checking.{held_well}
use Rattle.fitting.specs.Fits.{node_takes, takes, fits}
use Rattle.fitting.specs.Inner.Rows.{pair, HasRow, HasPair}
use Rattle.fitting.specs.Inner.Taken.{Against, RowOf}
use Rattle.fitting.specs.Inner.Pairs.{row_width, Stores, Decidable, Rowed, Decides}
use Rattle.fitting.proofs.Joining.{pair_word}
use Rattle.fitting.proofs.Agreeing.{agree_map, node_agree, children_few}

-- ---- one row more
-- a row that was written is read off it
stored_new : (ps row ps' : List ℕ) (width n : ℕ) → Stores ps (n * width) row width ps' → (v : ℕ) → v < width * 64 → pair ps' width n v ≡ has row v
unfolding has
stored_new ps row ps' width n S v l = pair_word ps' width n v ∙ ap (λ (x : ℕ). bit x (v % 64)) (S.new (v / 64) (omega (arith, l)))

-- and the rows before it are as they were
stored_old : (ps row ps' : List ℕ) (width n : ℕ) → Stores ps (n * width) row width ps' → (m v : ℕ) → m < n → v < width * 64 → pair ps' width m v ≡ pair ps width m v
stored_old ps row ps' width n S m v h l =
    let low : (m + 1) * width ≤ n * width = mul-le-mul_right width (omega (arith, h)) in
    pair_word ps' width m v ∙ ap (λ (x : ℕ). bit x (v % 64)) (S.before (m * width + v / 64) (omega (arith, low, l))) ∙ sym (pair_word ps width m v)

root_few : {w s : List ℕ} {c : Counters} {root : ℕ} → InRange w s c root → root < 4096
root_few R = let H = R.lent.holds in omega (arith, R.inside, start_room H, H.few_starts)

-- ---- the rows so far
pub record Deciding (w s : List ℕ) (c : Counters) (root : ℕ) (fix places : List ℕ) (count : ℕ) (old : List ℕ) (width : ℕ) (ps : List ℕ) (n : ℕ) : Type 0 where
  pub decidable : Decidable w s c root fix places count
  pub wide : width ≡ row_width count
  pub long : length ps ≡ length old
  pub rows : (root + 1) * width ≤ length ps
  pub turn : n ≤ root + 1
  pub known : (table : ℕ) (a : Arena) → Holds table w s c a → (t : ℕ) (f : Fix) → FixIn t fix places count f → (m v : ℕ) → m < n → v < count → pair ps width m v ≡ takes f a m v

module _ {w s : List ℕ} {c : Counters} {root : ℕ} {fix places : List ℕ} {count : ℕ} where
  module _ {old : List ℕ} {width : ℕ} {ps : List ℕ} {n : ℕ} (D : Deciding w s c root fix places count old width ps n) where
    narrow : width ≤ 16
    narrow = omega (arith, D.wide, D.decidable.few)

    bits_enough : count ≤ width * 64
    bits_enough = omega (arith, D.wide)

    has_row : (m : ℕ) → m ≤ root → HasRow ps width m
    has_row m l = let h : (m + 1) * width ≤ (root + 1) * width = mul-le-mul_right width (omega (arith, l)) in record {
      inside = omega (arith, h, D.rows);
      narrow = narrow;
      small = omega (arith, l, root_few D.decidable.range);
    }

    pub deciding_here : n < root + 1 → InRange w s c n
    deciding_here l = record { lent = D.decidable.range.lent; inside = omega (arith, l, D.decidable.range.inside) }

    pub deciding_against : n < root + 1 → {ws : List ℕ} → NodeAt w s c n ws → Against ws ps width fix places count
    deciding_against l {ws} N =
        let L = D.decidable.range.lent in
        let inside : n < length L.view = omega (arith, (deciding_here l).inside, L.holds.nodes) in
        record {
          node = record {
            table = L.table;
            nodes = n;
            node = at L.view n;
            good = at_well L.table L.view L.holds.good n inside;
            words = N.is L.table L.view L.holds;
            rows = λ i h. let low = child_lower L.table L.view L.holds.good n inside i h in has_row (get_or (children (at L.view n)) i 0) (omega (arith, low, l));
          };
          table = D.decidable.table;
          view = D.decidable.view;
          holds = D.decidable.holds;
          wide = bits_enough;
          narrow = narrow;
        }

    pub deciding_more : n < root + 1 → {ws row ps' : List ℕ} → NodeAt w s c n ws → RowOf ws ps width fix places count row → Stores ps (n * width) row width ps' → Deciding w s c root fix places count old width ps' (n + 1)
    unfolding takes
    deciding_more l {ws} {row} {ps'} N R S = record {
      decidable = D.decidable;
      wide = D.wide;
      long = S.long ∙ D.long;
      rows = omega (arith, D.rows, S.long);
      turn = omega (arith, l);
      known = λ table a H t f F m v k h. go table a H t f F m v k h (ℕ_discrete m n);
    }
      where
        new : (table : ℕ) (a : Arena) → Holds table w s c a → (t : ℕ) (f : Fix) → FixIn t fix places count f → (v : ℕ) → v < count → has row v ≡ takes f a n v
        new table a H t f F v h =
            let inside : n < length a = omega (arith, (deciding_here l).inside, H.nodes) in
            R.is table n (at a n) (at_well table a H.good n inside) (N.is table a H) t f F v h
            ∙ node_agree (agree_map count n (pair ps width) (takes f a) (λ m k u g. D.known table a H t f F m u k g) (children (at a n)) (children_below table a H.good n inside)) f (tag (at a n)) v h (children_few t count v (value_at f v) (held_well F v h) (omega (arith, h)))
            ∙ sym (λ i. fold_at (node_takes f) table a H.good n inside i v)

        go : (table : ℕ) (a : Arena) → Holds table w s c a → (t : ℕ) (f : Fix) → FixIn t fix places count f → (m v : ℕ) → m < n + 1 → v < count → Dec (m ≡ n) → pair ps' width m v ≡ takes f a m v
        go table a H t f F m v k h (yes p) = subst (λ (x : ℕ). pair ps' width x v ≡ takes f a x v) (sym p) (stored_new ps row ps' width n S v (omega (arith, h, bits_enough)) ∙ new table a H t f F v h)
        go table a H t f F m v k h (no p) = stored_old ps row ps' width n S m v (omega (arith, k, p)) (omega (arith, h, bits_enough)) ∙ D.known table a H t f F m v (omega (arith, k, p)) h

    pub root_cast : Fits w32 root
    root_cast = let h = root_few D.decidable.range in omega (arith, h)

    pub deciding_pair : HasPair ps width root (count - 1)
    deciding_pair = record { row = has_row root (omega arith); fits = omega (arith, bits_enough, D.decidable.some_value) }

    pub deciding_done : root + 1 ≤ n → {r : Bool} → r ≡ pair ps width root (count - 1) → Decides w s c root fix places count r
    unfolding fits
    deciding_done h e = record {
      is = λ table a H t f F. e ∙ D.known table a H t f F root (count - 1) (omega arith) (omega (arith, D.decidable.some_value)) ∙ ap (λ (k : ℕ). takes f a root (k - 1)) F.counted;
    }

  -- ---- few rows, or as many as there can be
  pub rows_product : Decidable w s c root fix places count → {x : ℕ} → x ≡ row_width count → Fits w64 ((root + 1) * x)
  rows_product D {x} e =
      let h : (root + 1) * x ≤ 4096 * 16 = mul-le-mul {n₂ = 4096} {m₂ = 16} (omega (arith, root_few D.range)) (omega (arith, e, D.few)) in
      omega (arith, h)

  pub all_rows : Decidable w s c root fix places count → Rowed w s c root fix places count (replicate 65536 0)
  all_rows D =
      let h : (root + 1) * row_width count ≤ 4096 * 16 = mul-le-mul {n₂ = 4096} {m₂ = 16} (omega (arith, root_few D.range)) (omega (arith, D.few)) in
      record { decidable = D; rows = subst (λ (k : ℕ). (root + 1) * row_width count ≤ k) (sym (length-replicate {A = ℕ} 65536 0)) (omega (arith, h)) }
