-- The rules of a table, read off their tests.
use Prim.Native.Nat.{◌≤◌}
use mathlib.Core.Path.{◌≡◌, refl}
use mathlib.Core.Bool.{true, ◌&&◌}
use mathlib.Core.List.{List, [], ◌∷◌}
use lib.ListN.{length}
use lib.Dec.{leb}
use borrow.Author.Tests.{leb-true, le-leb}
use Rattle.types.proofs.Tests.{and_true, both}
use Rattle.types.specs.Order.{is_less}
use Rattle.words.specs.declared.Layout.{Layout}
use Rattle.names.specs.Table.{Name, table, name_order, rising, all_printable, good_name, all_good, most_names, good_names_in}

pub record Rules (l : Layout) (ns : List Name) : Type 0 where
  pub few : length ns ≤ most_names l
  pub short : length (table ns) ≤ 65536
  pub good : all_good ns ≡ true
  pub rises : rising ns ≡ true

module _ (l : Layout) (ns : List Name) where
  pub good_rules : good_names_in l ns ≡ true → Rules l ns
  unfolding good_names_in
  good_rules e =
      let p = and_true (leb (length ns) (most_names l)) (leb (length (table ns)) 65536 && (all_good ns && rising ns)) e in
      let q = and_true (leb (length (table ns)) 65536) (all_good ns && rising ns) p.1 in
      let r = and_true (all_good ns) (rising ns) q.1 in
      record { few = leb-true _ _ p.0; short = leb-true _ _ q.0; good = r.0; rises = r.1 }

  pub rules_good : Rules l ns → good_names_in l ns ≡ true
  unfolding good_names_in
  rules_good R = both (le-leb _ _ R.few) (both (le-leb _ _ R.short) (both R.good R.rises))

pub record GoodName (n : Name) : Type 0 where
  pub some_byte : 1 ≤ length n
  pub short : length n ≤ 64
  pub each : all_printable n ≡ true

pub good_name_is : (n : Name) → good_name n ≡ true → GoodName n
unfolding good_name
good_name_is n e =
    let p = and_true (leb 1 (length n)) (leb (length n) 64 && all_printable n) e in
    let q = and_true (leb (length n) 64) (all_printable n) p.1 in
    record { some_byte = leb-true _ _ p.0; short = leb-true _ _ q.0; each = q.1 }

pub rising_rest : (m : Name) (ns : List Name) → rising (m ∷ ns) ≡ true → rising ns ≡ true
unfolding rising
rising_rest m [] e = refl
rising_rest m (n ∷ ns) e = (and_true (is_less (name_order m n)) (rising (n ∷ ns)) e).1
