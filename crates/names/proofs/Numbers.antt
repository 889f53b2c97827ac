-- Names by their numbers: a number of the table has a text, and a name's number orders as its text does.
use Prim.Native.Nat.{ℕ, zero, suc, ◌<◌, ◌≤◌}
use mathlib.Core.Path.{◌≡◌, refl, sym, ap, ◌∙◌}
use mathlib.Core.Bool.{true}
use mathlib.Core.List.{List, [], ◌∷◌}
use mathlib.Core.Option.{some}
use native.Mathlib.Omega.{arith}
use native.Mathlib.Nat.{le_of_suc-le-suc}
use lib.ListN.{length, get_or, get_or-eq_default}
use Rattle.words.specs.declared.Layout.TheVariants as layout
use Rattle.types.specs.Order.{is_less, reversed}
use Rattle.std.specs.declared.cmp.Ordering.{Ordering}
use Rattle.std.specs.declared.cmp.Ordering.TheVariants.{Less, Equal, Greater}
use Rattle.types.proofs.Tests.{true_false, and_true}
use Rattle.types.proofs.Orders.{order_total, order_less, order_equal, order_greater, compared, lexicographic_total}
use Rattle.names.specs.Table.{Name, name_order, rising, good_name, all_good, names_of, name_text}
use Rattle.names.specs.Theorems.{NameOrderTotal, NumberOrder}
use Rattle.names.proofs.Tables.{names_of_is, name_text_is}
use Rattle.names.proofs.Rules.{Rules, good_rules, GoodName, good_name_is, rising_rest}

-- ---- names by their order
pub name_order_total : NameOrderTotal
unfolding name_order
name_order_total = lexicographic_total order_total

pub same_order : {m n : Name} → m ≡ n → name_order m n ≡ Equal
same_order {m} e = ap (name_order m) (sym e) ∙ name_order_total.refl_equal m

-- names that aren't told to be the same differ
pub told_differs : (m n : Name) → (name_order m n ≡ Equal → ⊥) → m ≡ n → ⊥
told_differs m n f e = f (same_order e)

pub less_true : (o : Ordering) → is_less o ≡ true → o ≡ Less
less_true Less e = refl
less_true Equal e = absurd (true_false (sym e))
less_true Greater e = absurd (true_false (sym e))

-- ---- of name k
all_good_at : (ns : List Name) → all_good ns ≡ true → (k : ℕ) → k < length ns → good_name (get_or ns k []) ≡ true
unfolding all_good
all_good_at [] e k h = absurd (omega arith)
all_good_at (n ∷ ns) e zero h = (and_true (good_name n) (all_good ns) e).0
all_good_at (n ∷ ns) e (suc k) h = all_good_at ns (and_true (good_name n) (all_good ns) e).1 k (le_of_suc-le-suc h)

pub rising_first : (ns : List Name) (m : Name) → rising (m ∷ ns) ≡ true → (k : ℕ) → k < length ns → name_order m (get_or ns k []) ≡ Less
unfolding rising
rising_first [] m e k h = absurd (omega arith)
rising_first (n ∷ ns) m e zero h = less_true _ (and_true (is_less (name_order m n)) (rising (n ∷ ns)) e).0
rising_first (n ∷ ns) m e (suc k) h =
    let p = and_true (is_less (name_order m n)) (rising (n ∷ ns)) e in
    name_order_total.trans m n (get_or ns k []) (less_true _ p.0) (rising_first ns n p.1 k (le_of_suc-le-suc h))

pub rising_at : (ns : List Name) → rising ns ≡ true → (i j : ℕ) → i < j → j < length ns → name_order (get_or ns i []) (get_or ns j []) ≡ Less
rising_at [] e i j l h = absurd (omega arith)
rising_at (n ∷ ns) e i zero l h = absurd (omega arith)
rising_at (n ∷ ns) e zero (suc j) l h = rising_first ns n e j (le_of_suc-le-suc h)
rising_at (n ∷ ns) e (suc i) (suc j) l h = rising_at ns (rising_rest n ns e) i j (le_of_suc-le-suc l) (le_of_suc-le-suc h)

-- ---- theorems
module _ (t : List ℕ) (ns : List Name) (e : names_of t ≡ some ns) where
  rules : Rules layout.New ns
  rules = good_rules layout.New ns (names_of_is t ns e).good

  pub names_few : length ns ≤ 4096
  names_few = rules.few

  pub names_good : (k : ℕ) → k < length ns → GoodName (get_or ns k [])
  names_good k h = good_name_is _ (all_good_at ns rules.good k h)

  -- the text of a number tells whether the table has it
  pub text_there : (k : ℕ) → k < length ns → 0 < length (name_text t k)
  text_there k h = rw (name_text_is t ns k e) (names_good k h).some_byte

  pub text_not : (k : ℕ) → length ns ≤ k → name_text t k ≡ []
  text_not k h = name_text_is t ns k e ∙ get_or-eq_default ns [] h

pub number_order : NumberOrder
unfolding reversed
number_order t ns e i j h k =
    let rises = (rules t ns e).rises in
    compared i j
    (λ l. rising_at ns rises i j l k ∙ sym (order_less i j l))
    (λ l. ap (λ (w : ℕ). name_order (get_or ns i []) (get_or ns w [])) (sym l) ∙ name_order_total.refl_equal _ ∙ sym (order_equal i j l))
    (λ l. name_order_total.turned _ _ ∙ ap reversed (rising_at ns rises j i l h) ∙ sym (order_greater i j l))

-- different names have different texts
pub text_number : (t : List ℕ) (ns : List Name) → names_of t ≡ some ns → (i j : ℕ) → i < length ns → j < length ns → get_or ns i [] ≡ get_or ns j [] → i ≡ j
text_number t ns e i j h k q = order_total.equal i j (sym (number_order t ns e i j h k) ∙ same_order q)
