-- Whether a name may follow the last one, test after test, and what it means that it may.
use Prim.Native.Nat.{ℕ, ◌<◌, ◌≤◌}
use mathlib.Core.Path.{◌≡◌, sym, ap, ◌∙◌}
use mathlib.Core.Bool.{Bool, true, false, not, ◌&&◌}
use native.Mathlib.Omega.{arith}
use lib.ListN.{length}
use lib.Dec.{leb, eqb}
use borrow.Author.Tests.{eq-eqb, ne_eqb, eqb-true, eqb-false, leb-true, le-leb, lt-leb, not-true, not-false}
use Rattle.std.specs.Ordering.{is_lt}
use Rattle.types.specs.Order.{is_less}
use Rattle.std.specs.declared.cmp.Ordering.{Ordering}
use Rattle.types.proofs.Orders.{less_is}
use Rattle.types.proofs.Tests.{and_true, both, same_truth}
use Rattle.types.proofs.Tests as tests
use Rattle.names.specs.Table.{Name, name_order, good_name, may_follow}
use Rattle.names.specs.Inner.{odd_bytes, comes_next}
use Rattle.names.proofs.Rules.{good_name_is}
use Rattle.names.proofs.OddBytes.{printable_none, none_printable}

-- ---- whatever its bytes are
pub record Comes (last : Name) (b : ℕ) (n : Name) : Type 0 where
  pub whole : b ≡ length n
  pub some_byte : 1 ≤ length n
  pub short : length n ≤ 64
  pub rises : is_less (name_order last n) ≡ true

pub comes_is : (last : Name) (b : ℕ) (n : Name) → comes_next last b n ≡ true → Comes last b n
unfolding comes_next
comes_is last b n e =
    let p = and_true (eqb b (length n)) (leb 1 (length n) && (leb (length n) 64 && is_less (name_order last n))) e in
    let q = and_true (leb 1 (length n)) (leb (length n) 64 && is_less (name_order last n)) p.1 in
    let r = and_true (leb (length n) 64) (is_less (name_order last n)) q.1 in
    record { whole = eqb-true b (length n) p.0; some_byte = leb-true _ _ q.0; short = leb-true _ _ r.0; rises = r.1 }

pub is_comes : (last : Name) (b : ℕ) (n : Name) → Comes last b n → comes_next last b n ≡ true
unfolding comes_next
is_comes last b n C = both (eq-eqb b (length n) C.whole) (both (le-leb 1 (length n) C.some_byte) (both (le-leb (length n) 64 C.short) C.rises))

module _ (last n : Name) (b : ℕ) {x : ℕ} (e : x ≡ b) where
  pub comes_cut : (x ≡ length n → ⊥) → false ≡ comes_next last b n
  unfolding comes_next
  comes_cut f = rw (comes_next, ne_eqb b (length n) (λ p. f (e ∙ p)))

  module _ (f : x ≡ length n) where
    whole : eqb b (length n) ≡ true
    whole = eq-eqb b (length n) (sym e ∙ f)

    pub comes_empty : {q : Bool} → q ≡ eqb (length n) 0 → q ≡ true → false ≡ comes_next last b n
    unfolding comes_next
    comes_empty u w = let h : length n < 1 = omega (arith, eqb-true (length n) 0 (sym u ∙ w)) in rw (comes_next, whole) (rw (lt-leb 1 (length n) h))

    module _ {t : Bool} (u : t ≡ eqb (length n) 0) (w : t ≡ false) where
      g : 1 ≤ length n
      g = let h = eqb-false (length n) 0 (sym u ∙ w) in omega (arith, h)

      pub comes_long : 64 < length n → false ≡ comes_next last b n
      unfolding comes_next
      comes_long h = rw (comes_next, whole) (rw (le-leb 1 (length n) g, lt-leb (length n) 64 h))

      module _ (h : length n ≤ 64) {o : Ordering} (q : o ≡ name_order last n) where
        pub comes_told : {r : Bool} → r ≡ is_lt o → r ≡ comes_next last b n
        unfolding comes_next
        comes_told s = s ∙ less_is o ∙ sym (rw (comes_next, whole) (rw (le-leb 1 (length n) g, le-leb (length n) 64 h) (ap is_less (sym q))))

-- ---- with its bytes
pub record Follows (last : Name) (b : ℕ) (n : Name) : Type 0 where
  pub whole : b ≡ length n
  pub good : good_name n ≡ true
  pub rises : is_less (name_order last n) ≡ true

pub follows_is : (last : Name) (b : ℕ) (n : Name) → may_follow last b n ≡ true → Follows last b n
unfolding may_follow
follows_is last b n e =
    let p = and_true (eqb b (length n)) (good_name n && is_less (name_order last n)) e in
    let q = and_true (good_name n) (is_less (name_order last n)) p.1 in
    record { whole = eqb-true b (length n) p.0; good = q.0; rises = q.1 }

pub is_follows : (last : Name) (b : ℕ) (n : Name) → Follows last b n → may_follow last b n ≡ true
unfolding may_follow
is_follows last b n F = both (eq-eqb b (length n) F.whole) (both F.good F.rises)

-- a name of the right size without odd bytes is good
pub sized_good : (n : Name) → 1 ≤ length n → length n ≤ 64 → odd_bytes n ≡ 0 → good_name n ≡ true
unfolding good_name
sized_good n h k e = both (le-leb 1 (length n) h) (both (le-leb (length n) 64 k) (none_printable n e))

follows_comes : (last : Name) (b : ℕ) (n : Name) → may_follow last b n ≡ true → Comes last b n
follows_comes last b n e =
    let F = follows_is last b n e in
    let G = good_name_is n F.good in
    record { whole = F.whole; some_byte = G.some_byte; short = G.short; rises = F.rises }

module _ (last n : Name) (b : ℕ) {r : Bool} (e : r ≡ comes_next last b n) where
  pub follows_not : not r ≡ true → false ≡ may_follow last b n
  follows_not f = sym (tests.not_true (may_follow last b n) (λ g. tests.true_false (sym (is_comes last b n (follows_comes last b n g)) ∙ sym e ∙ not-true r f)))

  module _ (f : not r ≡ false) where
    comes : Comes last b n
    comes = comes_is last b n (sym e ∙ not-false r f)

    pub follows_few : length n ≤ 65536
    follows_few = omega (arith, comes.short)

    pub follows_told : {k : ℕ} → k ≡ odd_bytes n → eqb k 0 ≡ may_follow last b n
    follows_told {k} p =
        same_truth _ _
        (λ g. is_follows last b n (record { whole = comes.whole; good = sized_good n comes.some_byte comes.short (sym p ∙ eqb-true k 0 g); rises = comes.rises }))
        (λ g. eq-eqb k 0 (p ∙ printable_none n (good_name_is n (follows_is last b n g).good).each))
