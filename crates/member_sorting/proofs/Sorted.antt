-- The sort is an ascending arrangement of the same members, and it is the same in every arena that grew from one which has them. Inserting in order is
-- inserting somewhere, and what is inserted somewhere, member by member, makes an arrangement.
use Prim.Native.Nat.{ℕ, suc, ◌+◌, ◌<◌}
use mathlib.Core.Path.{◌≡◌, refl, sym, ap, ◌∙◌}
use mathlib.Core.Bool.{Bool, true, false}
use mathlib.Core.List.Memᴰ.{cases_cons}
use mathlib.Core.List.Memᴰ.{head}
use mathlib.Core.List.Memᴰ.{not-nil}
use mathlib.Core.List.Memᴰ.{tail}
use mathlib.Core.List.{List, [], ◌∷◌, Memᴰ as Mem}
use mathlib.Core.Logic.{◌⊎◌, inl, inr, ⊎_elim}
use native.Mathlib.Omega.{arith}
use lib.ListN.{length}
use borrow.Author.Tests.{lt-ltb}
use Rattle.types.specs.Node.{below}
use Rattle.types.specs.Arena.{Arena, at, Ext}
use Rattle.types.specs.Order.{is_less, reversed}
use Rattle.std.specs.declared.cmp.Ordering.{Ordering}
use Rattle.types.proofs.Lists.{below_cons}
use Rattle.types.proofs.Growth.{ext_at}
use Rattle.types.proofs.Tests.{true_false}
use Rattle.node_order.specs.NodeOrder.{node_order}
use Rattle.node_order.proofs.NodeOrders.{node_order_orders}
use Rattle.member_sorting.specs.Sort.{before, insert_member, sort_onto, sort}
use Rattle.member_sorting.specs.Theorems.{Inserted, here, later, Arranged, none, one, NotAfter, Ascending, empty, single, several, SortedMembers}

-- ---- an arrangement
inserted : (a : Arena) (m : ℕ) (xs : List ℕ) → Inserted m xs (insert_member a m xs)
unfolding insert_member
inserted a m [] = here
inserted a m (x ∷ xs) = go (before a m x) (inserted a m xs)
  where
    go : (b : Bool) → Inserted m xs (insert_member a m xs) → Inserted m (x ∷ xs) (elim b as (λ _. List ℕ) [ true ↦ m ∷ x ∷ xs | false ↦ x ∷ insert_member a m xs ])
    go true h = here
    go false h = later h

arranged : (a : Arena) (xs ms : List ℕ) → Arranged xs ms (sort_onto a xs ms)
unfolding sort_onto
arranged a xs [] = none
arranged a xs (m ∷ ms) = one (inserted a m xs) (arranged a (insert_member a m xs) ms)

inserted_count : {m : ℕ} {xs ys : List ℕ} → Inserted m xs ys → length ys ≡ suc (length xs)
inserted_count here = refl
inserted_count (later h) = ap suc (inserted_count h)

inserted_from : {m : ℕ} {xs ys : List ℕ} (z : ℕ) → Inserted m xs ys → Mem z ys → (z ≡ m) ⊎ Mem z xs
inserted_from z here i = cases_cons i
inserted_from z (later h) i = ⊎_elim (λ e. inr (head e)) (λ k. ⊎_elim inl (λ j. inr (tail j)) (inserted_from z h k)) (cases_cons i)

inserted_old : {m : ℕ} {xs ys : List ℕ} (z : ℕ) → Inserted m xs ys → Mem z xs → Mem z ys
inserted_old z here i = tail i
inserted_old z (later h) i = ⊎_elim head (λ k. tail (inserted_old z h k)) (cases_cons i)

inserted_below : {m n : ℕ} {xs ys : List ℕ} → Inserted m xs ys → m < n → below n xs ≡ true → below n ys ≡ true
unfolding below
inserted_below {m} {n} here l e = rw (lt-ltb m n l) e
inserted_below {n = n} (later {x} {xs} h) l e = let p = below_cons n x xs e in rw (lt-ltb x n p.0) (inserted_below h l p.1)

pub insert_below : (a : Arena) (m n : ℕ) (xs : List ℕ) → m < n → below n xs ≡ true → below n (insert_member a m xs) ≡ true
insert_below a m n xs = inserted_below (inserted a m xs)

arranged_count : {xs ms l : List ℕ} → Arranged xs ms l → length l ≡ length xs + length ms
arranged_count none = omega arith
arranged_count (one h k) = omega (arith, inserted_count h, arranged_count k)

arranged_from : {xs ms l : List ℕ} (z : ℕ) → Arranged xs ms l → Mem z l → Mem z xs ⊎ Mem z ms
arranged_from z none i = inl i
arranged_from z (one h k) i = ⊎_elim (λ j. ⊎_elim (λ e. inr (head e)) inl (inserted_from z h j)) (λ j. inr (tail j)) (arranged_from z k i)

arranged_old : {xs ms l : List ℕ} (z : ℕ) → Arranged xs ms l → Mem z xs → Mem z l
arranged_old z none i = i
arranged_old z (one h k) i = arranged_old z k (inserted_old z h i)

arranged_new : {xs ms l : List ℕ} (z : ℕ) → Arranged xs ms l → Mem z ms → Mem z l
arranged_new z none i = absurd (not-nil i)
arranged_new z (one {m} h k) i = ⊎_elim (λ e. arranged_old z k (new_there e h)) (λ j. arranged_new z k j) (cases_cons i)
  where
    new_there : {xs ys : List ℕ} → z ≡ m → Inserted m xs ys → Mem z ys
    new_there e here = head e
    new_there e (later h) = tail (new_there e h)

-- ---- in order
before_not_after : (a : Arena) (m n : ℕ) → before a m n ≡ true → NotAfter a m n
unfolding before
before_not_after a m n e g = true_false (sym e ∙ ap is_less g)

not_before : (a : Arena) (m n : ℕ) → before a m n ≡ false → NotAfter a n m
unfolding before reversed
not_before a m n e g = true_false (sym (ap (λ (o : Ordering). is_less (reversed o)) g) ∙ ap is_less (sym (node_order_orders.turned (at a n) (at a m))) ∙ e)

insert_ascending : (a : Arena) (m : ℕ) (xs : List ℕ) → Ascending a xs → Ascending a (insert_member a m xs)
unfolding insert_member
insert_ascending a m [] empty = single
insert_ascending a m (x ∷ []) single = go (before a m x) refl
  where
    go : (b : Bool) → before a m x ≡ b → Ascending a (elim b as (λ _. List ℕ) [ true ↦ m ∷ x ∷ [] | false ↦ x ∷ m ∷ [] ])
    go true e = several (before_not_after a m x e) single
    go false e = several (not_before a m x e) single
insert_ascending a m (x ∷ y ∷ ys) (several h k) = go (before a m x) refl (before a m y) refl (insert_ascending a m (y ∷ ys) k)
  where
    go : (b : Bool) → before a m x ≡ b → (d : Bool) → before a m y ≡ d → Ascending a (elim d as (λ _. List ℕ) [ true ↦ m ∷ y ∷ ys | false ↦ y ∷ insert_member a m ys ])
        → Ascending a (elim b as (λ _. List ℕ) [ true ↦ m ∷ x ∷ y ∷ ys | false ↦ x ∷ elim d as (λ _. List ℕ) [ true ↦ m ∷ y ∷ ys | false ↦ y ∷ insert_member a m ys ] ])
    go true e d q r = several (before_not_after a m x e) (several h k)
    go false e true q r = several (not_before a m x e) r
    go false e false q r = several h r

onto_ascending : (a : Arena) (xs ms : List ℕ) → Ascending a xs → Ascending a (sort_onto a xs ms)
unfolding sort_onto
onto_ascending a xs [] h = h
onto_ascending a xs (m ∷ ms) h = onto_ascending a (insert_member a m xs) ms (insert_ascending a m xs h)

pub sorted : SortedMembers
unfolding sort
sorted a ms =
    let A = arranged a [] ms in
    record {
      ascending = onto_ascending a [] ms empty;
      arranged = A;
      count = omega (arith, arranged_count A);
      from = λ x h. ⊎_elim (λ i. absurd (not-nil i)) (λ i. i) (arranged_from x A h);
      onto = λ x h. arranged_new x A h;
    }

-- ---- in a grown arena
module _ (a b : Arena) (x : Ext a b) where
  insert_kept : (m : ℕ) (xs : List ℕ) → m < length a → below (length a) xs ≡ true → insert_member b m xs ≡ insert_member a m xs
  unfolding insert_member before
  insert_kept m [] l e = refl
  insert_kept m (y ∷ ys) l e =
      let p = below_cons (length a) y ys e in
      let q : before b m y ≡ before a m y = λ i. is_less (node_order (ext_at a b x m l i) (ext_at a b x y p.0 i)) in
      λ i. elim (q i) as (λ _. List ℕ) [ true ↦ m ∷ y ∷ ys | false ↦ y ∷ insert_kept m ys l p.1 i ]

  onto_kept : (xs ms : List ℕ) → below (length a) xs ≡ true → below (length a) ms ≡ true → sort_onto b xs ms ≡ sort_onto a xs ms
  unfolding sort_onto
  onto_kept xs [] e f = refl
  onto_kept xs (m ∷ ms) e f =
      let p = below_cons (length a) m ms f in
      ap (λ (l : List ℕ). sort_onto b l ms) (insert_kept m xs p.0 e) ∙ onto_kept (insert_member a m xs) ms (insert_below a m (length a) xs p.0 e) p.1

  pub sort_kept : (ms : List ℕ) → below (length a) ms ≡ true → sort b ms ≡ sort a ms
  unfolding sort below
  sort_kept ms e = onto_kept [] ms refl e

onto_below : (a : Arena) (n : ℕ) (xs ms : List ℕ) → below n xs ≡ true → below n ms ≡ true → below n (sort_onto a xs ms) ≡ true
unfolding sort_onto
onto_below a n xs [] e f = e
onto_below a n xs (m ∷ ms) e f = let p = below_cons n m ms f in onto_below a n (insert_member a m xs) ms (insert_below a m n xs p.0 e) p.1

pub sort_below : (a : Arena) (n : ℕ) (ms : List ℕ) → below n ms ≡ true → below n (sort a ms) ≡ true
unfolding sort below
sort_below a n ms e = onto_below a n [] ms refl e
