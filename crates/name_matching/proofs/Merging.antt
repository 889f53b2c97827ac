-- One walk through two tables matches their names: both rise, so of two names that differ the lesser is in the other table no more.
use Prim.Native.Nat.{ℕ, suc, ◌+◌, ◌*◌, ◌<◌, ◌≤◌}
use mathlib.Core.Path.{◌≡◌, refl, sym, ap, ap₂, ◌∙◌, subst}
use mathlib.Core.List.{List, [], ◌∷◌, ◌++◌}
use mathlib.Core.Logic.{◌⊎◌, inl, inr}
use mathlib.Core.Option.{some}
use native.Mathlib.Decide.{ℕ_discrete, dec_lt}
use native.Mathlib.Omega.{arith}
use native.Mathlib.Numerals.{add-one}
use mir.Syntax.{w32, w64}
use mir.Val.{Fits}
use lib.ListN.{length, get_or, set, take, drop, replicate, length-set, length-drop, length-replicate, drop_of_length-le}
use lib.Seq.{drop-cons, take_at, drop_at, get_or-set_same, get_or-set_other}
use Rattle.bits.proofs.Sets.{zero_at}
use Rattle.types.specs.Order.{reversed}
use Rattle.std.specs.declared.cmp.Ordering.{Ordering}
use Rattle.std.specs.declared.cmp.Ordering.TheVariants.{Less, Equal, Greater}
use Rattle.types.proofs.Orders.{less_equal, order_less}
use Rattle.names.specs.Table.{Name, table, name_order, names_of}
use Rattle.names.specs.Inner.{name_end}
use Rattle.names.proofs.Tables.{names_of_is}
use Rattle.names.proofs.Numbers.{name_order_total, told_differs, number_order, text_number, names_few}
use Rattle.names.proofs.Walking.{part, entry}
use Rattle.name_matching.specs.declared.Reading.{Reading}
use Rattle.name_matching.specs.Inner.{Matches, Maps, Blank, Place, Read, Next, Steps}

pub blank : {t u : List ℕ} {ns ms : List Name} → names_of t ≡ some ns → names_of u ≡ some ms → Blank t u (replicate 4096 0)
blank {ns = ns} {ms} p q = record { left = ns; left_is = p; right = ms; right_is = q; long = length-replicate {A = ℕ} 4096 0; none = zero_at 4096 }

-- ---- one table
place_start : {t : List ℕ} {ns : List Name} → names_of t ≡ some ns → Place t ns 0 0
place_start {t} {ns} e = record { is = e; low = omega arith; inside = omega arith; rest = (names_of_is t ns e).bytes }

module _ {t : List ℕ} {ns : List Name} {i at : ℕ} (P : Place t ns i at) where
  -- a table whose names are passed has no byte left
  place_more : at < length t → i < length ns
  unfolding table
  place_more h = go (dec_lt i (length ns))
    where
      go : Dec (i < length ns) → i < length ns
      go (yes l) = l
      go (no l) =
          let none : drop at t ≡ [] = P.rest ∙ ap table (drop_of_length-le ns {i = i} (omega arith)) in
          let z = ap length none in
          let y = length-drop at t in
          absurd (omega (arith, z, y, h))

  place_end : length t ≤ at → length ns ≤ i
  unfolding table
  place_end h = go (dec_lt i (length ns))
    where
      go : Dec (i < length ns) → length ns ≤ i
      go (no l) = omega arith
      go (yes l) =
          let other : drop at t ≡ table (get_or ns i [] ∷ drop (suc i) ns) = P.rest ∙ ap table (drop-cons ns i [] l) in
          let z = ap length other in
          let y = length-drop at t in
          absurd (omega (arith, z, y, h))

  module _ (h : at < length t) {e : ℕ} (p : e ≡ name_end t at) where
    bytes : drop at t ≡ length (get_or ns i []) ∷ get_or ns i [] ++ table (drop (suc i) ns)
    unfolding table
    bytes = P.rest ∙ ap table (drop-cons ns i [] (place_more h))

    size : get_or t at 0 ≡ length (get_or ns i [])
    size = let f = (entry h p).front in let b = bytes in cc

    behind : drop (at + 1) t ≡ get_or ns i [] ++ table (drop (suc i) ns)
    behind = let f = (entry h p).front in let b = bytes in cc

    place_text : part t (at + 1) e ≡ get_or ns i []
    place_text = (entry h p).text ∙ ap₂ (λ (k : ℕ) (l : List ℕ). take k l) size behind ∙ take_at (get_or ns i []) (table (drop (suc i) ns)) (length (get_or ns i [])) refl

    place_next : Place t ns (i + 1) e
    place_next = record {
      is = P.is;
      low = let l = place_more h in omega (arith, l);
      inside = (entry h p).high;
      rest = (entry h p).rest ∙ ap₂ (λ (k : ℕ) (l : List ℕ). drop k l) size behind ∙ drop_at (get_or ns i []) (table (drop (suc i) ns)) (length (get_or ns i [])) refl ∙ ap (λ (k : ℕ). table (drop k ns)) (sym (add-one i));
    }

-- ---- names by their order
less_differs : (x y : Name) → name_order x y ≡ Less → x ≡ y → ⊥
less_differs x y h = told_differs x y (λ e. less_equal (sym h ∙ e))

greater_less : (x y : Name) → name_order x y ≡ Greater → name_order y x ≡ Less
unfolding reversed
greater_less x y h = name_order_total.turned x y ∙ ap reversed h

-- what comes before name i of a table comes before the later ones
before_later : (t : List ℕ) {ns : List Name} → names_of t ≡ some ns → (x : Name) (i k : ℕ) → i ≤ k → k < length ns → name_order x (get_or ns i []) ≡ Less → name_order x (get_or ns k []) ≡ Less
before_later t {ns} e x i k l h o = go (ℕ_discrete i k)
  where
    go : Dec (i ≡ k) → name_order x (get_or ns k []) ≡ Less
    go (yes f) = ap (λ (j : ℕ). name_order x (get_or ns j [])) (sym f) ∙ o
    go (no f) = name_order_total.trans x (get_or ns i []) (get_or ns k []) o (number_order t ns e i k (omega arith) h ∙ order_less i k (omega arith))

-- ---- both tables
module _ {t u ks : List ℕ} (B : Blank t u ks) where
  pub read_start : Read t u ks (record { left = 0; left_at = 0; right = 0; right_at = 0 })
  read_start = record {
    left = B.left;
    left_place = place_start B.left_is;
    right = B.right;
    right_place = place_start B.right_is;
    long = B.long;
    later = λ k h. B.none k;
    most = λ k. let z = B.none k in omega (arith, z);
    texts = λ k p h. absurd (omega arith);
    numbers = λ k p h. absurd (omega arith);
    passed = λ k p h l m. absurd (omega arith);
  }

module _ {t u ks : List ℕ} {r : Reading} (R : Read t u ks r) where
  -- ---- the end
  matched : (length R.left ≤ r.left) ⊎ (length R.right ≤ r.right) → Matches R.left R.right ks
  matched z = record { long = R.long; most = R.most; none = λ k h. R.later k (omega (arith, h, R.left_place.low)); texts = texts; numbers = numbers }
    where
      texts : (k p : ℕ) → k < length R.left → p < length R.right → get_or ks k 0 ≡ p + 1 → get_or R.left k [] ≡ get_or R.right p []
      texts k p h l e = go (dec_lt k r.left)
        where
          go : Dec (k < r.left) → get_or R.left k [] ≡ get_or R.right p []
          go (yes m) = R.texts k p m l e
          go (no m) = let y = R.later k (omega arith) in absurd (omega (arith, y, e))

      numbers : (k p : ℕ) → k < length R.left → p < length R.right → get_or R.left k [] ≡ get_or R.right p [] → get_or ks k 0 ≡ p + 1
      numbers k p h l e = go (dec_lt k r.left) z
        where
          go : Dec (k < r.left) → (length R.left ≤ r.left) ⊎ (length R.right ≤ r.right) → get_or ks k 0 ≡ p + 1
          go (yes m) y = R.numbers k p m l e
          go (no m) (inl y) = absurd (omega (arith, y, m, h))
          go (no m) (inr y) = absurd (R.passed k p (omega (arith, m)) h (omega (arith, y, l)) e)

  maps : (length R.left ≤ r.left) ⊎ (length R.right ≤ r.right) → Maps t u ks
  maps z = record {
    is = λ ns ms p q.
        let e : R.left ≡ ns = let x = R.left_place.is in cc in
        let f : R.right ≡ ms = let x = R.right_place.is in cc in
        subst (λ (xs : List Name). Matches xs ms ks) e (subst (λ (xs : List Name). Matches R.left xs ks) f (matched z));
  }

  pub left_passed : length t ≤ r.left_at → Maps t u ks
  left_passed h = maps (inl (place_end R.left_place h))

  pub right_passed : length u ≤ r.right_at → Maps t u ks
  right_passed h = maps (inr (place_end R.right_place h))

  pub read_next : r.left_at < length t → r.right_at < length u → Next t u ks r
  read_next h l = record { read = R; left_more = h; right_more = l }

-- ---- one step
module _ {t u ks : List ℕ} {r : Reading} (N : Next t u ks r) where
  R : Read t u ks r
  R = N.read

  left_in : r.left < length R.left
  left_in = place_more R.left_place N.left_more

  right_in : r.right < length R.right
  right_in = place_more R.right_place N.right_more

  -- numbers of names are small
  pub left_few : r.left < 4096
  left_few = omega (arith, left_in, names_few t R.left R.left_place.is)

  right_few : r.right < 4096
  right_few = omega (arith, right_in, names_few u R.right R.right_place.is)

  pub left_byte : Fits w64 (r.left * 4)
  left_byte = omega (arith, left_few)

  pub left_next : Fits w64 (r.left + 1)
  left_next = omega (arith, left_few)

  pub right_next : Fits w32 (r.right + 1)
  right_next = omega (arith, right_few)

  module _ {e f : ℕ} (p : e ≡ name_end t r.left_at) (q : f ≡ name_end u r.right_at) {o : Ordering} (c : o ≡ name_order (part t (r.left_at + 1) e) (part u (r.right_at + 1) f)) where
    ordered : name_order (get_or R.left r.left []) (get_or R.right r.right []) ≡ o
    ordered = sym (c ∙ ap₂ name_order (place_text R.left_place N.left_more p) (place_text R.right_place N.right_more q))

    pub step_less : o ≡ Less → Steps t u r ks (record { left = r.left + 1; left_at = e; right = r.right; right_at = r.right_at })
    step_less g = record { read = record { left = R.left; left_place = place_next R.left_place N.left_more p; right = R.right; right_place = R.right_place; long = R.long; later = λ k h. R.later k (omega arith); most = R.most; texts = texts; numbers = numbers; passed = λ k n h. R.passed k n (omega arith) }; further = let E = entry N.left_more p in omega (arith, E.low, E.high, N.left_more) }
      where
        texts : (k n : ℕ) → k < r.left + 1 → n < length R.right → get_or ks k 0 ≡ n + 1 → get_or R.left k [] ≡ get_or R.right n []
        texts k n h l x = go (dec_lt k r.left)
          where
            go : Dec (k < r.left) → get_or R.left k [] ≡ get_or R.right n []
            go (yes m) = R.texts k n m l x
            go (no m) = let y = R.later k (omega arith) in absurd (omega (arith, y, x))

        numbers : (k n : ℕ) → k < r.left + 1 → n < length R.right → get_or R.left k [] ≡ get_or R.right n [] → get_or ks k 0 ≡ n + 1
        numbers k n h l x = go (dec_lt k r.left) (dec_lt n r.right)
          where
            go : Dec (k < r.left) → Dec (n < r.right) → get_or ks k 0 ≡ n + 1
            go (yes m) d = R.numbers k n m l x
            go (no m) (yes d) = let i = left_in in absurd (R.passed k n (omega arith) (omega (arith, i, h)) d x)
            go (no m) (no d) =
                let y : r.left ≡ k = omega arith in
                let less = before_later u R.right_place.is (get_or R.left r.left []) r.right n (omega arith) l (ordered ∙ g) in
                absurd (less_differs _ _ less (ap (λ (i : ℕ). get_or R.left i []) y ∙ x))

    pub step_greater : o ≡ Greater → Steps t u r ks (record { left = r.left; left_at = r.left_at; right = r.right + 1; right_at = f })
    step_greater g = record { read = record { left = R.left; left_place = R.left_place; right = R.right; right_place = place_next R.right_place N.right_more q; long = R.long; later = R.later; most = R.most; texts = R.texts; numbers = R.numbers; passed = passed }; further = let E = entry N.right_more q in omega (arith, E.low, E.high, N.right_more) }
      where
        passed : (k n : ℕ) → r.left ≤ k → k < length R.left → n < r.right + 1 → get_or R.left k [] ≡ get_or R.right n [] → ⊥
        passed k n h l m x = go (dec_lt n r.right)
          where
            go : Dec (n < r.right) → ⊥
            go (yes d) = R.passed k n h l d x
            go (no d) =
                let y : r.right ≡ n = omega arith in
                let less = before_later t R.left_place.is (get_or R.right r.right []) r.left k h l (greater_less _ _ (ordered ∙ g)) in
                less_differs _ _ less (ap (λ (i : ℕ). get_or R.right i []) y ∙ sym x)

    pub step_equal : o ≡ Equal → Steps t u r (set ks r.left (r.right + 1)) (record { left = r.left + 1; left_at = e; right = r.right + 1; right_at = f })
    step_equal g = record { read = record { left = R.left; left_place = place_next R.left_place N.left_more p; right = R.right; right_place = place_next R.right_place N.right_more q; long = length-set ks r.left (r.right + 1) ∙ R.long; later = later; most = most; texts = texts; numbers = numbers; passed = passed }; further = let E = entry N.left_more p in let F = entry N.right_more q in omega (arith, E.low, E.high, F.low, F.high, N.left_more, N.right_more) }
      where
        same_text : get_or R.left r.left [] ≡ get_or R.right r.right []
        same_text = name_order_total.equal _ _ (ordered ∙ g)

        new : get_or (set ks r.left (r.right + 1)) r.left 0 ≡ r.right + 1
        new = let l = left_few in get_or-set_same ks r.left (r.right + 1) 0 (omega (arith, l, R.long))

        kept : (k : ℕ) → (k ≡ r.left → ⊥) → get_or (set ks r.left (r.right + 1)) k 0 ≡ get_or ks k 0
        kept k d = get_or-set_other ks r.left k (r.right + 1) 0 d

        most : (k : ℕ) → get_or (set ks r.left (r.right + 1)) k 0 ≤ length R.right
        most k = go (ℕ_discrete k r.left)
          where
            go : Dec (k ≡ r.left) → get_or (set ks r.left (r.right + 1)) k 0 ≤ length R.right
            go (yes d) = let y = ap (λ (i : ℕ). get_or (set ks r.left (r.right + 1)) i 0) d in omega (arith, y, new, right_in)
            go (no d) = let y = kept k d in omega (arith, y, R.most k)

        later : (k : ℕ) → r.left + 1 ≤ k → get_or (set ks r.left (r.right + 1)) k 0 ≡ 0
        later k h = kept k (λ d. omega arith) ∙ R.later k (omega arith)

        texts : (k n : ℕ) → k < r.left + 1 → n < length R.right → get_or (set ks r.left (r.right + 1)) k 0 ≡ n + 1 → get_or R.left k [] ≡ get_or R.right n []
        texts k n h l x = go (ℕ_discrete k r.left)
          where
            go : Dec (k ≡ r.left) → get_or R.left k [] ≡ get_or R.right n []
            go (yes d) =
                let y = ap (λ (i : ℕ). get_or (set ks r.left (r.right + 1)) i 0) d in
                let z : r.right ≡ n = omega (arith, y, new, x) in
                ap (λ (i : ℕ). get_or R.left i []) d ∙ same_text ∙ ap (λ (i : ℕ). get_or R.right i []) z
            go (no d) = R.texts k n (omega arith) l (sym (kept k d) ∙ x)

        numbers : (k n : ℕ) → k < r.left + 1 → n < length R.right → get_or R.left k [] ≡ get_or R.right n [] → get_or (set ks r.left (r.right + 1)) k 0 ≡ n + 1
        numbers k n h l x = go (ℕ_discrete k r.left)
          where
            go : Dec (k ≡ r.left) → get_or (set ks r.left (r.right + 1)) k 0 ≡ n + 1
            go (yes d) =
                let y : r.right ≡ n = text_number u R.right R.right_place.is r.right n right_in l (sym same_text ∙ ap (λ (i : ℕ). get_or R.left i []) (sym d) ∙ x) in
                ap (λ (i : ℕ). get_or (set ks r.left (r.right + 1)) i 0) d ∙ new ∙ ap (λ (i : ℕ). i + 1) y
            go (no d) = kept k d ∙ R.numbers k n (omega arith) l x

        passed : (k n : ℕ) → r.left + 1 ≤ k → k < length R.left → n < r.right + 1 → get_or R.left k [] ≡ get_or R.right n [] → ⊥
        passed k n h l m x = go (dec_lt n r.right)
          where
            go : Dec (n < r.right) → ⊥
            go (yes d) = R.passed k n (omega arith) l d x
            go (no d) =
                let y : n ≡ r.right = omega arith in
                let z = text_number t R.left R.left_place.is k r.left l left_in (x ∙ ap (λ (i : ℕ). get_or R.right i []) y ∙ sym same_text) in
                omega (arith, z, h)
