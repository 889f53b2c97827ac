-- Where a text stands among names that rise: it is one of them, or lies between two. Either way the names before it are counted.
use Prim.Native.Nat.{ℕ, zero, suc, ◌+◌, ◌<◌, ◌≤◌}
use mathlib.Core.Path.{◌≡◌, refl, sym, ap, ap₂, ◌∙◌}
use mathlib.Core.Bool.{Bool, true, false, ◌||◌}
use mathlib.Core.List.{List, [], ◌∷◌, ◌++◌}
use mathlib.Core.Option.{some}
use native.Mathlib.Omega.{arith}
use native.Mathlib.Nat.{le_of_suc-le-suc}
use lib.ListN.{length, get_or, take, drop}
use Rattle.words.specs.Words.{bit}
use Rattle.words.specs.declared.Layout.TheVariants as layout
use Rattle.std.specs.Prelude.{Ok}
use Rattle.types.specs.Out.{Out, required}
use Rattle.types.specs.Same.{same_numbers}
use Rattle.types.specs.Order.{is_less, reversed}
use Rattle.std.specs.declared.cmp.Ordering.{Ordering}
use Rattle.std.specs.declared.cmp.Ordering.TheVariants.{Less, Equal, Greater}
use Rattle.types.proofs.Tests.{true_false, both, numbers_if, numbers_not}
use Rattle.types.proofs.Orders.{less_equal, equal_greater, compared}
use Rattle.names.specs.Table.{Name, name_order, rising, names_of}
use Rattle.names.proofs.Tables.{names_of_is}
use Rattle.names.proofs.Rules.{good_rules, rising_rest}
use Rattle.names.proofs.Numbers.{name_order_total, same_order, rising_first, rising_at}
use Rattle.name_lookup.specs.Lookup.{has_name, names_before, position, find_reply}
use Rattle.name_lookup.specs.Theorems.{IsName, Between, Answers, FindsExactly, PutRises}
use Rattle.name_lookup.specs.declared.Position.{Position}
use Rattle.name_lookup.proofs.Replies.{reply_of}

-- ---- orders of three names
turned_as : (m n : Name) {o : Ordering} → name_order m n ≡ o → name_order n m ≡ reversed o
turned_as m n e = name_order_total.turned m n ∙ ap reversed e

-- what stands behind a name that comes after the text, or is it, comes after the text too
pub behind_greater : (l m x : Name) → name_order l m ≡ Less → name_order l x ≡ Greater → name_order m x ≡ Greater
unfolding reversed
behind_greater l m x e f = turned_as x m (name_order_total.trans x l m (turned_as l x f) e)

pub behind_equal : (l m x : Name) → name_order l m ≡ Less → name_order l x ≡ Equal → name_order m x ≡ Greater
unfolding reversed
behind_equal l m x e f = let p = name_order_total.equal l x f in turned_as x m (ap (λ (n : Name). name_order n m) (sym p) ∙ e)

module _ (x : Name) where
  -- ---- the definition's count and test
  counted :
      (ns : List Name) (k : ℕ) → k ≤ length ns → ((j : ℕ) → j < k → name_order (get_or ns j []) x ≡ Less)
      → ((j : ℕ) → k ≤ j → j < length ns → is_less (name_order (get_or ns j []) x) ≡ false) → names_before ns x ≡ k
  unfolding names_before
  counted [] k h f g = omega arith
  counted (n ∷ ns) zero h f g =
      ap₂ (λ (b : Bool) (m : ℕ). bit b + m) (g 0 (omega arith) (omega arith))
      (counted ns 0 (omega arith) (λ j i. absurd (omega arith)) (λ j i l. g (suc j) (omega arith) (omega arith)))
  counted (n ∷ ns) (suc k) h f g =
      ap₂ (λ (o : Ordering) (m : ℕ). bit (is_less o) + m) (f 0 (omega arith))
      (counted ns k (le_of_suc-le-suc h) (λ j i. f (suc j) (omega arith)) (λ j i l. g (suc j) (omega arith) (omega arith)))
      ∙ omega arith

  has : (ns : List Name) (k : ℕ) → k < length ns → get_or ns k [] ≡ x → has_name ns x ≡ true
  unfolding has_name
  has [] k h e = absurd (omega arith)
  has (n ∷ ns) zero h e = ap (λ (b : Bool). b || has_name ns x) (numbers_if n x e)
  has (n ∷ ns) (suc k) h e = ap (λ (b : Bool). same_numbers n x || b) (has ns k (le_of_suc-le-suc h) e) ∙ or_true (same_numbers n x)
    where
      or_true : (b : Bool) → (b || true) ≡ true
      or_true true = refl
      or_true false = refl

  has_not : (ns : List Name) → ((j : ℕ) → j < length ns → get_or ns j [] ≡ x → ⊥) → has_name ns x ≡ false
  unfolding has_name
  has_not [] f = refl
  has_not (n ∷ ns) f = ap₂ ◌||◌ (numbers_not n x (f 0 (omega arith))) (has_not ns (λ j i. f (suc j) (omega arith)))

  -- ---- the two answers
  module _ (ns : List Name) (k : ℕ) where
    pub position_absent : Between ns x k → position ns x ≡ record { found = false; place = k }
    unfolding position
    position_absent B = λ i. record { found = absent i; place = counted ns k B.most B.before (λ j p l. ap is_less (B.after j p l)) i }
      where
        after : (j : ℕ) → j < length ns → get_or ns j [] ≡ x → k ≤ j → ⊥
        after j h e l = equal_greater (sym (same_order e) ∙ B.after j l h)

        differs : (j : ℕ) → j < length ns → get_or ns j [] ≡ x → ⊥
        differs j h e = compared j k (λ l. less_equal (sym (B.before j l) ∙ same_order e)) (λ l. after j h e (omega arith)) (λ l. after j h e (omega arith))

        absent : has_name ns x ≡ false
        absent = has_not ns differs

    module _ (r : rising ns ≡ true) where
      pub position_found : IsName ns x k → position ns x ≡ record { found = true; place = k }
      unfolding position
      position_found I = λ i. record { found = has ns k I.there I.text i; place = counted ns k (omega (arith, I.there)) before other i }
        where
          before : (j : ℕ) → j < k → name_order (get_or ns j []) x ≡ Less
          before j l = ap (name_order (get_or ns j [])) (sym I.text) ∙ rising_at ns r j k l I.there

          behind : (j : ℕ) → k < j → j < length ns → name_order (get_or ns j []) x ≡ Greater
          behind j l h = behind_equal (get_or ns k []) (get_or ns j []) x (rising_at ns r k j l h) (same_order I.text)

          other : (j : ℕ) → k ≤ j → j < length ns → is_less (name_order (get_or ns j []) x) ≡ false
          other j l h =
              compared k j
              (λ i. ap is_less (behind j i h))
              (λ i. ap is_less (same_order (ap (λ (m : ℕ). get_or ns m []) (sym i) ∙ I.text)))
              (λ i. absurd (omega arith))

  -- ---- one of the two is so
  data Stands (ns : List Name) : Type 0 where
    is : (k : ℕ) → IsName ns x k → Stands ns
    between : (k : ℕ) → Between ns x k → Stands ns

  -- of the names behind one that comes before the text, and so of all
  behind : (n : Name) (ns : List Name) → name_order n x ≡ Less → Stands ns → Stands (n ∷ ns)
  behind n ns e (is k I) = is (suc k) (record { there = omega (arith, I.there); text = I.text })
  behind n ns e (between k B) = between (suc k) (record { most = omega (arith, B.most); before = before; after = after })
    where
      before : (j : ℕ) → j < suc k → name_order (get_or (n ∷ ns) j []) x ≡ Less
      before zero l = e
      before (suc j) l = B.before j (le_of_suc-le-suc l)

      after : (j : ℕ) → suc k ≤ j → j < suc (length ns) → name_order (get_or (n ∷ ns) j []) x ≡ Greater
      after zero l h = absurd (omega arith)
      after (suc j) l h = B.after j (le_of_suc-le-suc l) (le_of_suc-le-suc h)

  before_all : (n : Name) (ns : List Name) → rising (n ∷ ns) ≡ true → name_order n x ≡ Greater → Between (n ∷ ns) x 0
  before_all n ns r e = record { most = omega arith; before = λ j l. absurd (omega arith); after = after }
    where
      after : (j : ℕ) → 0 ≤ j → j < suc (length ns) → name_order (get_or (n ∷ ns) j []) x ≡ Greater
      after zero l h = e
      after (suc j) l h = behind_greater n (get_or ns j []) x (rising_first ns n r j (le_of_suc-le-suc h)) e

  stands : (ns : List Name) → rising ns ≡ true → Stands ns
  stands [] r = between 0 (record { most = omega arith; before = λ j l. absurd (omega arith); after = λ j l h. absurd (omega arith) })
  stands (n ∷ ns) r = go (name_order n x) refl (stands ns (rising_rest n ns r))
    where
      go : (o : Ordering) → name_order n x ≡ o → Stands ns → Stands (n ∷ ns)
      go Less e S = behind n ns e S
      go Equal e S = is 0 (record { there = omega arith; text = name_order_total.equal n x e })
      go Greater e S = between 0 (before_all n ns r e)

  -- ---- the text put between
  rest : {n : Name} {ns : List Name} {k : ℕ} → Between (n ∷ ns) x (suc k) → Between ns x k
  rest B = record {
    most = le_of_suc-le-suc B.most;
    before = λ j l. B.before (suc j) (omega arith);
    after = λ j l h. B.after (suc j) (omega arith) (omega arith);
  }

  -- a name in front of names that rise, which comes before the first of them
  in_front : (n m : Name) (ns : List Name) → name_order n m ≡ Less → rising (m ∷ ns) ≡ true → rising (n ∷ m ∷ ns) ≡ true
  unfolding rising
  in_front n m ns e r = both (ap is_less e) r

  put_at : (ns : List Name) → rising ns ≡ true → (k : ℕ) → Between ns x k → rising (take k ns ++ x ∷ drop k ns) ≡ true
  unfolding rising reversed
  put_at [] r zero B = refl
  put_at [] r (suc k) B = absurd (omega (arith, B.most))
  put_at (n ∷ ns) r zero B = in_front x n ns (turned_as n x (B.after 0 (omega arith) (omega arith))) r
  put_at (n ∷ []) r (suc zero) B = in_front n x [] (B.before 0 (omega arith)) refl
  put_at (n ∷ []) r (suc (suc k)) B = absurd (omega (arith, B.most))
  put_at (n ∷ m ∷ ns) r (suc zero) B = in_front n x (m ∷ ns) (B.before 0 (omega arith)) (put_at (m ∷ ns) (rising_rest n (m ∷ ns) r) 0 (rest B))
  put_at (n ∷ m ∷ ns) r (suc (suc k)) B =
      in_front n m (take k ns ++ x ∷ drop k ns) (rising_first (m ∷ ns) n r 0 (omega arith)) (put_at (m ∷ ns) (rising_rest n (m ∷ ns) r) (suc k) (rest B))

-- ---- theorems
module _ (t : List ℕ) (ns : List Name) (e : names_of t ≡ some ns) (x : Name) where
  rises : rising ns ≡ true
  rises = (good_rules layout.New ns (names_of_is t ns e).good).rises

  replied : find_reply t x ≡ Ok (position ns x)
  unfolding required
  replied = reply_of t x e

  -- what is answered is the position
  answered : {p : Position} → find_reply t x ≡ Ok p → position ns x ≡ p
  answered {p} f = let g : Ok (position ns x) ≡ Ok p = sym replied ∙ f in cc

  answers : Answers t ns x
  answers = record {
    finds = λ k I. replied ∙ ap {B = Out Position} Ok (position_found x ns k rises I);
    found = λ k f. found k (answered f) (stands x ns rises);
    misses = λ k B. replied ∙ ap {B = Out Position} Ok (position_absent x ns k B);
    missed = λ k f. missed k (answered f) (stands x ns rises);
  }
    where
      found : (k : ℕ) → position ns x ≡ record { found = true; place = k } → Stands x ns → IsName ns x k
      found k p (is j I) = let q : j ≡ k = ap (λ (r : Position). r.place) (sym (position_found x ns j rises I) ∙ p) in rw q at I
      found k p (between j B) = absurd (true_false (sym (ap (λ (r : Position). r.found) (sym (position_absent x ns j B) ∙ p))))

      missed : (k : ℕ) → position ns x ≡ record { found = false; place = k } → Stands x ns → Between ns x k
      missed k p (is j I) = absurd (true_false (ap (λ (r : Position). r.found) (sym (position_found x ns j rises I) ∙ p)))
      missed k p (between j B) = let q : j ≡ k = ap (λ (r : Position). r.place) (sym (position_absent x ns j B) ∙ p) in rw q at B

pub finds_exactly : FindsExactly
finds_exactly = answers

pub put_rises : PutRises
put_rises t ns e x k B = put_at x ns (rises t ns e x) k B
