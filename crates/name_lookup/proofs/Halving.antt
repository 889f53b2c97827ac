-- The search by halves: the names before `low` come before the text, those from `low + size` on after it.
use Prim.Native.Nat.{ℕ, ◌+◌, ◌-◌, ◌/◌, ◌<◌, ◌≤◌}
use mathlib.Core.Path.{◌≡◌, sym, ap, ◌∙◌}
use mathlib.Core.Bool.{true, false}
use mathlib.Core.List.{List}
use native.Mathlib.Omega.{arith}
use lib.ListN.{length}
use Rattle.words.specs.declared.Layout.TheVariants as layout
use Rattle.std.specs.declared.cmp.Ordering.{Ordering}
use Rattle.std.specs.declared.cmp.Ordering.TheVariants.{Less, Equal, Greater}
use Rattle.types.proofs.Orders.{compared}
use Rattle.names.specs.Table.{Name, name_order, rising, split, name_text}
use Rattle.names.proofs.Rules.{good_rules}
use Rattle.names.proofs.Numbers.{name_order_total, rising_at}
use Rattle.name_lookup.specs.Lookup.{position}
use Rattle.name_lookup.specs.Inner.{Sought}
use Rattle.name_lookup.specs.Turns.{halvings}
use Rattle.name_lookup.proofs.Positions.{behind_greater, position_found, position_absent}
use Rattle.name_lookup.proofs.Turns.{thirteen_turns}

pub record Halving (t : List ℕ) (x : Name) (low size : ℕ) : Type 0 where
  pub inside : low + size ≤ length (split t)
  pub few : length (split t) ≤ 4096
  pub rises : rising (split t) ≡ true
  pub before : (j : ℕ) → j < low → name_order (name_text t j) x ≡ Less
  pub after : (j : ℕ) → low + size ≤ j → j < length (split t) → name_order (name_text t j) x ≡ Greater

-- ---- the answers
module _ {t ps : List ℕ} {count : ℕ} (S : Sought t ps count) where
  pub halving_start : {x : Name} → Halving t x 0 count
  halving_start =
      let R = good_rules layout.New (split t) S.is.good in
      record {
        inside = omega (arith, S.all);
        few = R.few;
        rises = R.rises;
        before = λ j l. absurd (omega arith);
        after = λ j l h. absurd (omega (arith, S.all));
      }

module _ {t : List ℕ} {x : Name} {low size : ℕ} (H : Halving t x low size) where
  pub low_fits : low ≤ 4096
  low_fits = omega (arith, H.inside, H.few)

  pub halving_done : size ≤ 0 → record { found = false; place = low } ≡ position (split t) x
  unfolding name_text
  halving_done h =
      sym (position_absent x (split t) low (record { most = omega (arith, H.inside); before = H.before; after = λ j l i. H.after j (omega arith) i }))

  -- ---- one name more: the one in the middle is there
  module _ (h : 0 < size) where
    middle_there : low + size / 2 < length (split t)
    middle_there = omega (arith, H.inside)

    pub middle_fits : low + size / 2 < 4096
    middle_fits = omega (arith, middle_there, H.few)

    module _ {n : Name} (e : n ≡ name_text t (low + size / 2)) {o : Ordering} (f : o ≡ name_order n x) where
      told : {p : Ordering} → o ≡ p → name_order (name_text t (low + size / 2)) x ≡ p
      told g = ap (λ (m : Name). name_order m x) (sym e) ∙ sym f ∙ g

      pub halving_found : o ≡ Equal → record { found = true; place = low + size / 2 } ≡ position (split t) x
      unfolding name_text
      halving_found g =
          sym (position_found x (split t) (low + size / 2) H.rises (record { there = middle_there; text = name_order_total.equal _ x (told g) }))

      -- the names before one that comes before the text come before it too
      lower : o ≡ Less → (j : ℕ) → j < low + size / 2 + 1 → name_order (name_text t j) x ≡ Less
      unfolding name_text
      lower g j l =
          compared j (low + size / 2)
          (λ i. name_order_total.trans _ _ x (rising_at (split t) H.rises j (low + size / 2) i middle_there) (told g))
          (λ i. ap (λ (k : ℕ). name_order (name_text t k) x) i ∙ told g)
          (λ i. absurd (omega arith))

      -- and those behind one that comes after it, after it
      higher : o ≡ Greater → (j : ℕ) → low + size / 2 ≤ j → j < length (split t) → name_order (name_text t j) x ≡ Greater
      unfolding name_text
      higher g j l k =
          compared (low + size / 2) j
          (λ i. behind_greater (name_text t (low + size / 2)) (name_text t j) x (rising_at (split t) H.rises (low + size / 2) j i k) (told g))
          (λ i. ap (λ (m : ℕ). name_order (name_text t m) x) (sym i) ∙ told g)
          (λ i. absurd (omega arith))

      pub halving_higher : o ≡ Less → Halving t x (low + size / 2 + 1) (size - size / 2 - 1)
      halving_higher g = record {
        inside = omega (arith, H.inside, h);
        few = H.few;
        rises = H.rises;
        before = lower g;
        after = λ j l k. H.after j (omega arith) k;
      }

      pub halving_lower : o ≡ Greater → Halving t x low (size / 2)
      halving_lower g = record {
        inside = omega (arith, H.inside);
        few = H.few;
        rises = H.rises;
        before = H.before;
        after = higher g;
      }

-- ---- what is left after a turn is at most half
module _ {t : List ℕ} {x : Name} {low size : ℕ} (H : Halving t x low size) (h : 0 < size) where
  pub turn_higher : halvings 13 (size - size / 2 - 1) < halvings 13 size
  turn_higher = thirteen_turns.less (size - size / 2 - 1) size h (omega (arith, H.inside, H.few)) (omega arith)

  pub turn_lower : halvings 13 (size / 2) < halvings 13 size
  turn_lower = thirteen_turns.less (size / 2) size h (omega (arith, H.inside, H.few)) (omega arith)
