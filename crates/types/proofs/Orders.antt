-- Orders of numbers, of lists and of things by their keys.
use Prim.Native.Nat.{ℕ, ◌<◌}
use mathlib.Core.Path.{◌≡◌, refl, sym, ap, ap₂, ◌∙◌}
use mathlib.Core.Bool.{Bool, true, false}
use mathlib.Core.List.{List, [], ◌∷◌}
use native.Mathlib.Omega.{arith}
use lib.Dec.{ltb}
use borrow.Author.Tests.{lt-ltb, le-ltb, ltb-true, ltb-false}
use Rattle.std.proofs.lemmas.Bool.Decides.{nat_tests}
use Rattle.std.specs.Cmp.Lexicographic.{slice_cmp}
use Rattle.std.specs.Ordering.{nat_cmp, is_lt}
use Rattle.types.specs.Order.{order, ordering_then, lexicographic, is_less, by, then_by, reversed, TotalOrder}
use Rattle.types.specs.Theorems.{OrderTotal, LexicographicTotal, KeysTotal}
use Rattle.std.specs.declared.cmp.Ordering.{Ordering}
use Rattle.std.specs.declared.cmp.Ordering.TheVariants.{Less, Equal, Greater}

-- ---- the three answers
pub less_equal : Less ≡ Equal → ⊥
less_equal e = let z : ◌≡◌ {A = ℕ} 0 1 = cc in omega arith

pub less_greater : Less ≡ Greater → ⊥
less_greater e = let z : ◌≡◌ {A = ℕ} 0 1 = cc in omega arith

pub equal_greater : Equal ≡ Greater → ⊥
equal_greater e = let z : ◌≡◌ {A = ℕ} 0 1 = cc in omega arith

reversed_then : (o p : Ordering) → ordering_then (reversed o) (reversed p) ≡ reversed (ordering_then o p)
unfolding ordering_then reversed
reversed_then Less p = refl
reversed_then Equal p = refl
reversed_then Greater p = refl

pub then_equal : (o p : Ordering) → ordering_then o p ≡ Equal → (o ≡ Equal) × (p ≡ Equal)
unfolding ordering_then
then_equal Less p e = absurd (less_equal e)
then_equal Equal p e = (refl, e)
then_equal Greater p e = absurd (equal_greater (sym e))

-- what `is_lt` tells of an answer
pub less_is : (o : Ordering) → is_lt o ≡ is_less o
less_is Less = refl
less_is Equal = refl
less_is Greater = refl

-- ---- numbers
-- what `cmp` answers at numbers and at slices of them
pub cmp_order : (m n : ℕ) → nat_cmp m n ≡ order m n
unfolding order
cmp_order m n = grind (arith, nat_tests)

pub cmp_lexicographic : (a b : List ℕ) → slice_cmp nat_cmp a b ≡ lexicographic order a b
unfolding lexicographic
cmp_lexicographic [] [] = refl
cmp_lexicographic [] (y ∷ b) = refl
cmp_lexicographic (x ∷ a) [] = refl
cmp_lexicographic (x ∷ a) (y ∷ b) = ap₂ ordering_then (cmp_order x y) (cmp_lexicographic a b)

pub order_less : (m n : ℕ) → m < n → order m n ≡ Less
unfolding order
order_less m n h = rw (lt-ltb m n h, order)

pub order_greater : (m n : ℕ) → n < m → order m n ≡ Greater
unfolding order
order_greater m n h = rw (order, le-ltb m n (omega arith)) (rw (lt-ltb n m h))

pub order_equal : (m n : ℕ) → m ≡ n → order m n ≡ Equal
unfolding order
order_equal m n e = rw (order, le-ltb m n (omega arith)) (rw (le-ltb n m (omega arith)))

-- the three cases of two numbers
pub compared : {P : Type 0} (m n : ℕ) → (m < n → P) → (m ≡ n → P) → (n < m → P) → P
compared {P} m n f g h = go (ltb m n) (ltb n m) refl refl
  where
    go : (b c : Bool) → ltb m n ≡ b → ltb n m ≡ c → P
    go true c p q = f (ltb-true m n p)
    go false true p q = h (ltb-true n m q)
    go false false p q = g (omega (arith, ltb-false m n p, ltb-false n m q))

pub order_lt : (m n : ℕ) → order m n ≡ Less → m < n
order_lt m n e =
    compared m n
    (λ h. h)
    (λ h. absurd (less_equal (sym e ∙ order_equal m n h)))
    (λ h. absurd (less_greater (sym e ∙ order_greater m n h)))

pub order_eq : (m n : ℕ) → order m n ≡ Equal → m ≡ n
order_eq m n e =
    compared m n
    (λ h. absurd (less_equal (sym (order_less m n h) ∙ e)))
    (λ h. h)
    (λ h. absurd (equal_greater (sym e ∙ order_greater m n h)))

order_turned : (m n : ℕ) → order n m ≡ reversed (order m n)
unfolding reversed
order_turned m n =
    compared m n
    (λ h. order_greater n m h ∙ sym (ap reversed (order_less m n h)))
    (λ h. order_equal n m (sym h) ∙ sym (ap reversed (order_equal m n h)))
    (λ h. order_less n m h ∙ sym (ap reversed (order_greater m n h)))

pub order_total : OrderTotal
order_total = record {
  refl_equal = λ x. order_equal x x refl;
  equal = order_eq;
  turned = order_turned;
  trans = λ x y z p q. order_less x z (omega (arith, order_lt x y p, order_lt y z q));
}

-- ---- orders that may leave different things open
pub record Ranking {ℓ} {A : Type ℓ} (f : A → A → Ordering) : Type ℓ where
  pub turned : (x y : A) → f y x ≡ reversed (f x y)
  pub alike : (x y z : A) → f x y ≡ Equal → f x z ≡ f y z
  pub trans : (x y z : A) → f x y ≡ Less → f y z ≡ Less → f x z ≡ Less

module _ {ℓ} {A : Type ℓ} {f : A → A → Ordering} where
  pub total_ranking : TotalOrder f → Ranking f
  total_ranking T = record {
    turned = T.turned;
    alike = λ x y z e. ap (λ (w : A). f w z) (T.equal x y e);
    trans = T.trans;
  }

  module _ (R : Ranking f) where
    pub ranking_refl : (x : A) → f x x ≡ Equal
    unfolding reversed
    ranking_refl x = go (f x x) refl
      where
        go : (o : Ordering) → f x x ≡ o → f x x ≡ Equal
        go Less e = absurd (less_greater (sym e ∙ R.turned x x ∙ ap reversed e))
        go Equal e = e
        go Greater e = absurd (less_greater (sym (ap reversed e) ∙ sym (R.turned x x) ∙ e))

    -- what comes before a thing comes before what is alike
    pub ranking_alike : (x y z : A) → f y z ≡ Equal → f x z ≡ f x y
    ranking_alike x y z e = R.turned z x ∙ ap reversed (sym (R.alike y z x e)) ∙ sym (R.turned y x)

    pub ranking_total : ((x y : A) → f x y ≡ Equal → x ≡ y) → TotalOrder f
    ranking_total e = record { refl_equal = ranking_refl; equal = e; turned = R.turned; trans = R.trans }

pub by_ranking {ℓ κ} : {A : Type ℓ} {B : Type κ} (key : A → B) {f : B → B → Ordering} → Ranking f → Ranking (by key f)
unfolding by
by_ranking key R = record {
  turned = λ x y. R.turned (key x) (key y);
  alike = λ x y z. R.alike (key x) (key y) (key z);
  trans = λ x y z. R.trans (key x) (key y) (key z);
}

-- one order and then another, at things of which the second tells p, q and r
then_trans {ℓ} : {A : Type ℓ} {f : A → A → Ordering} → Ranking f → (x y z : A) (p q r : Ordering) → (p ≡ Less → q ≡ Less → r ≡ Less)
    → ordering_then (f x y) p ≡ Less → ordering_then (f y z) q ≡ Less → ordering_then (f x z) r ≡ Less
unfolding ordering_then
then_trans {f = f} R x y z p q r k = go (f x y) (f y z) refl refl
  where
    go : (o u : Ordering) → f x y ≡ o → f y z ≡ u → ordering_then o p ≡ Less → ordering_then u q ≡ Less → ordering_then (f x z) r ≡ Less
    go Less Less d e s t = ap (λ (w : Ordering). ordering_then w r) (R.trans x y z d e)
    go Less Equal d e s t = ap (λ (w : Ordering). ordering_then w r) (ranking_alike R x y z e ∙ d)
    go Less Greater d e s t = absurd (less_greater (sym t))
    go Equal Less d e s t = ap (λ (w : Ordering). ordering_then w r) (R.alike x y z d ∙ e)
    go Equal Equal d e s t = ap (λ (w : Ordering). ordering_then w r) (R.alike x y z d ∙ e) ∙ k s t
    go Equal Greater d e s t = absurd (less_greater (sym t))
    go Greater u d e s t = absurd (less_greater (sym s))

module _ {ℓ} {A : Type ℓ} {f g : A → A → Ordering} (F : Ranking f) (G : Ranking g) where
  pub then_ranking : Ranking (then_by f g)
  unfolding then_by
  then_ranking = record {
    turned = λ x y. ap₂ ordering_then (F.turned x y) (G.turned x y) ∙ reversed_then (f x y) (g x y);
    alike = λ x y z e. let b = then_equal (f x y) (g x y) e in ap₂ ordering_then (F.alike x y z b.0) (G.alike x y z b.1);
    trans = λ x y z. then_trans F x y z (g x y) (g y z) (g x z) (G.trans x y z);
  }

  -- two orders that together leave nothing open
  pub then_total : ((x y : A) → f x y ≡ Equal → g x y ≡ Equal → x ≡ y) → TotalOrder (then_by f g)
  unfolding then_by
  then_total h = ranking_total then_ranking (λ x y e. let b = then_equal (f x y) (g x y) e in h x y b.0 b.1)

-- things by one key and then another, where the two tell them apart
pub keys_total {ℓ κ μ} : {A : Type ℓ} {B : Type κ} {C : Type μ} (key : A → B) (tie : A → C) {f : B → B → Ordering} {g : C → C → Ordering} → KeysTotal key tie f g
unfolding by
keys_total key tie F G h =
    then_total (by_ranking key (total_ranking F)) (by_ranking tie (total_ranking G))
    (λ x y p q. h x y (F.equal (key x) (key y) p) (G.equal (tie x) (tie y) q))

-- ---- lists
module _ {ℓ} {A : Type ℓ} {f : A → A → Ordering} where
  lexicographic_turned : Ranking f → (xs ys : List A) → lexicographic f ys xs ≡ reversed (lexicographic f xs ys)
  unfolding lexicographic reversed
  lexicographic_turned R [] [] = refl
  lexicographic_turned R [] (y ∷ ys) = refl
  lexicographic_turned R (x ∷ xs) [] = refl
  lexicographic_turned R (x ∷ xs) (y ∷ ys) = ap₂ ordering_then (R.turned x y) (lexicographic_turned R xs ys) ∙ reversed_then (f x y) _

  lexicographic_alike : Ranking f → (xs ys zs : List A) → lexicographic f xs ys ≡ Equal → lexicographic f xs zs ≡ lexicographic f ys zs
  unfolding lexicographic
  lexicographic_alike R [] [] zs e = refl
  lexicographic_alike R [] (y ∷ ys) zs e = absurd (less_equal e)
  lexicographic_alike R (x ∷ xs) [] zs e = absurd (equal_greater (sym e))
  lexicographic_alike R (x ∷ xs) (y ∷ ys) [] e = refl
  lexicographic_alike R (x ∷ xs) (y ∷ ys) (z ∷ zs) e =
      let b = then_equal (f x y) (lexicographic f xs ys) e in
      ap₂ ordering_then (R.alike x y z b.0) (lexicographic_alike R xs ys zs b.1)

  lexicographic_trans : Ranking f → (xs ys zs : List A) → lexicographic f xs ys ≡ Less → lexicographic f ys zs ≡ Less → lexicographic f xs zs ≡ Less
  unfolding lexicographic
  lexicographic_trans R xs [] [] d e = absurd (less_equal (sym e))
  lexicographic_trans R xs (y ∷ ys) [] d e = absurd (less_greater (sym e))
  lexicographic_trans R [] ys (z ∷ zs) d e = refl
  lexicographic_trans R (x ∷ xs) [] (z ∷ zs) d e = absurd (less_greater (sym d))
  lexicographic_trans R (x ∷ xs) (y ∷ ys) (z ∷ zs) d e = then_trans R x y z _ _ _ (lexicographic_trans R xs ys zs) d e

  pub lexicographic_ranking : Ranking f → Ranking (lexicographic f)
  lexicographic_ranking R = record { turned = lexicographic_turned R; alike = lexicographic_alike R; trans = lexicographic_trans R }

  lexicographic_equal : TotalOrder f → (xs ys : List A) → lexicographic f xs ys ≡ Equal → xs ≡ ys
  unfolding lexicographic
  lexicographic_equal T [] [] e = refl
  lexicographic_equal T [] (y ∷ ys) e = absurd (less_equal e)
  lexicographic_equal T (x ∷ xs) [] e = absurd (equal_greater (sym e))
  lexicographic_equal T (x ∷ xs) (y ∷ ys) e =
      let b = then_equal (f x y) (lexicographic f xs ys) e in
      ap₂ ◌∷◌ (T.equal x y b.0) (lexicographic_equal T xs ys b.1)

  pub lexicographic_total : LexicographicTotal f
  lexicographic_total T = ranking_total (lexicographic_ranking (total_ranking T)) (lexicographic_equal T)
