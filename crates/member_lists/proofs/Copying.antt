-- A member list grows by first copies: what two steps append is what one step with both parts appends.
use Prim.Native.Nat.{ℕ, suc, ◌+◌, ◌<◌, ◌≤◌}
use mathlib.Core.Path.{◌≡◌, refl, sym, ap, ◌∙◌, subst}
use mathlib.Core.Bool.{Bool, true, false, ◌||◌, or-false, or_assoc}
use mathlib.Core.List.{List, [], ◌∷◌, ◌++◌, append_assoc}
use native.Mathlib.Omega.{arith}
use native.Mathlib.Numerals.{add-one}
use lib.ListN.{length, get_or, take, drop, set, length-set}
use lib.Seq.{length-take-le, take_all, take-suc, take-suc-set, split_at}
use lib.Dec.{eqb}
use borrow.Author.Tests.{lt-ltb, le-ltb}
use Rattle.words.specs.Words.{child}
use Rattle.types.specs.declared.refusal.Refusal.{Refusal}
use Rattle.types.specs.declared.refusal.Refusal.TheVariants as refusal
use Rattle.types.specs.Fault.{children_in}
use Rattle.std.specs.Prelude.{Ok, Err}
use Rattle.types.specs.Out.{Out, ◌>>=◌}
use Rattle.bits.specs.Bits.{has, Put}
use Rattle.bits.specs.Inner.{Row}
use Rattle.node_store.specs.Inner.Children.{ChildWords}
use Rattle.node_store.proofs.Offspring.{as_many, child_is}
use Rattle.recursion.proofs.Answers.{bind_ok}
use Rattle.simplification.specs.Pass.{one_of, append, first_copies}
use Rattle.simplification.proofs.Answers.{one_append}
use Rattle.member_lists.specs.Inner.Members.{Room, BitsOf, Growing, Adding, Grows}
use Rattle.member_lists.proofs.MemberBits.{one_met, bits_more}

pub room_length : {items : List ℕ} {count : ℕ} → Room items count → length (take count items) ≡ count
room_length {items} {count} R = length-take-le count items (omega (arith, R.long, R.few))

-- ---- one member more
one_copy : (acc : List ℕ) (n : ℕ) → first_copies acc (n ∷ []) ≡ append n acc
unfolding first_copies
one_copy acc n = go (append n acc)
  where
    go : (o : Out (List ℕ)) → (o >>= λ (l : List ℕ). Ok l) ≡ o
    go (Ok l) = refl
    go (Err e) = refl

-- the list is as long as it says
length_of : {items met : List ℕ} {count n : ℕ} → Growing items count met → ◌≡◌ {A = Out ℕ} (Ok count) (Ok n) → Growing items n met
length_of {items} {met} {count} {n} G q = let e : count ≡ n = cc in subst (λ (k : ℕ). Growing items k met) e G

module _ {items : List ℕ} {count : ℕ} {met : List ℕ} {n : ℕ} (A : Adding items count met n) where
  pub adding_row : Row met n
  adding_row = record { long = A.growing.bits.long; inside = A.inside }

  module _ {b : Bool} (e : b ≡ has met n) where
    -- the bit says whether the list has n
    told : b ≡ one_of (eqb n) (take count items)
    told = e ∙ A.growing.bits.exactly n

    pub member_there : b ≡ true → Grows items count met (n ∷ []) items met (Ok count)
    unfolding append
    member_there t = record {
      growing = λ k q. length_of A.growing q;
      bits = λ k q. one_met met met n (sym e ∙ t) (λ m f. refl);
      is = sym (one_copy (take count items) n ∙ rw (append, sym told ∙ t));
    }

    pub no_room : b ≡ false → 64 ≤ count → Grows items count met (n ∷ []) items met (Err refusal.TooManyMembers)
    unfolding append
    no_room t f = record {
      growing = λ k q. let z : ◌≡◌ {A = ℕ} 0 1 = cc in absurd (omega arith);
      bits = λ k q. let z : ◌≡◌ {A = ℕ} 0 1 = cc in absurd (omega arith);
      is = sym (one_copy (take count items) n ∙ rw (append, sym told ∙ t, le-ltb (length (take count items)) 64 (omega (arith, room_length A.growing.room))));
    }

    pub member_new : b ≡ false → count < 64 → {met' : List ℕ} → Put met n met' → Grows items count met (n ∷ []) (set items count n) met' (Ok (count + 1))
    unfolding append
    member_new t f {met'} P =
        let R = A.growing.room in
        let l : count < length items = omega (arith, R.long, R.few) in
        let list : take (count + 1) (set items count n) ≡ take count items ++ (n ∷ []) = ap (λ (j : ℕ). take j (set items count n)) (add-one count) ∙ take-suc-set items count n l in
        let G : Growing (set items count n) (count + 1) met' = record {
          room = record { long = length-set items count n ∙ R.long; few = omega (arith, R.few) };
          bits = subst (λ (xs : List ℕ). BitsOf xs met') (sym list) (bits_more A.growing.bits (sym told ∙ t) P);
        } in
        record {
          growing = λ k q. length_of G q;
          bits = λ k q. one_met met met' n P.new P.old;
          is = ap Ok list ∙ sym (one_copy (take count items) n ∙ rw (append, sym told ∙ t, lt-ltb (length (take count items)) 64 (omega (arith, R.few, room_length R))));
        }

-- ---- several members more
copies_append : (acc xs ys : List ℕ) → first_copies acc (xs ++ ys) ≡ (first_copies acc xs >>= λ (l : List ℕ). first_copies l ys)
unfolding first_copies
copies_append acc [] ys = refl
copies_append acc (x ∷ xs) ys = go (append x acc) (λ (l : List ℕ). copies_append l xs ys)
  where
    go : (o : Out (List ℕ)) → ((l : List ℕ) → first_copies l (xs ++ ys) ≡ (first_copies l xs >>= λ (m : List ℕ). first_copies m ys))
        → (o >>= λ (l : List ℕ). first_copies l (xs ++ ys)) ≡ ((o >>= λ (l : List ℕ). first_copies l xs) >>= λ (m : List ℕ). first_copies m ys)
    go (Ok l) f = f l
    go (Err e) f = refl

pub grows_none : {items met : List ℕ} {count : ℕ} → Growing items count met → Grows items count met [] items met (Ok count)
unfolding first_copies one_of
grows_none {met = met} G = record { growing = λ k q. length_of G q; bits = λ k q m. sym (or-false (has met m)); is = refl }

module _ {items met xs items' met' : List ℕ} {count : ℕ} where
  pub grows_then : {n : ℕ} {ys items'' met'' : List ℕ} {r : Out ℕ} → Grows items count met xs items' met' (Ok n) → Grows items' n met' ys items'' met'' r → Grows items count met (xs ++ ys) items'' met'' r
  grows_then {n} {ys} G H = record {
    growing = H.growing;
    bits = λ k q m.
        H.bits k q m
        ∙ ap (λ (b : Bool). b || one_of (eqb m) ys) (G.bits n refl m)
        ∙ or_assoc (has met m) (one_of (eqb m) xs) (one_of (eqb m) ys)
        ∙ ap (λ (b : Bool). has met m || b) (sym (one_append (eqb m) xs ys));
    is = H.is ∙ sym (copies_append (take count items) xs ys ∙ bind_ok (first_copies (take count items) xs) (take n items') (λ (l : List ℕ). first_copies l ys) (sym G.is));
  }

  pub grows_full : {e : Refusal} (ys : List ℕ) → Grows items count met xs items' met' (Err e) → Grows items count met (xs ++ ys) items' met' (Err e)
  unfolding ◌>>=◌
  grows_full ys G = record {
    growing = G.growing;
    bits = λ k q. let z : ◌≡◌ {A = ℕ} 0 1 = cc in absurd (omega arith);
    is = sym (copies_append (take count items) xs ys ∙ ap (λ (o : Out (List ℕ)). o >>= λ (l : List ℕ). first_copies l ys) (sym G.is));
  }

-- a list in three parts: up to an index, at it, behind it
pub parted : (cs : List ℕ) (i : ℕ) → i < length cs → cs ≡ (take i cs ++ (get_or cs i 0 ∷ [])) ++ drop (suc i) cs
parted cs i l = split_at cs i 0 l ∙ sym (append_assoc (take i cs) (get_or cs i 0 ∷ []) (drop (suc i) cs))

pub next_part : (cs : List ℕ) (i : ℕ) → i < length cs → take (i + 1) cs ≡ take i cs ++ (get_or cs i 0 ∷ [])
next_part cs i l = ap (λ (j : ℕ). take j cs) (add-one i) ∙ take-suc cs i 0 l

-- ---- the members in a body appended one by one: i of them so far
pub record Appended (ws b items₀ : List ℕ) (count : ℕ) (met₀ items : List ℕ) (held : ℕ) (met : List ℕ) (i : ℕ) : Type 0 where
  pub body : ChildWords ws b
  pub high : i ≤ length b
  pub grows : Grows items₀ count met₀ (take i (children_in ws)) items met (Ok held)

module _ {ws b items₀ : List ℕ} {count : ℕ} {met₀ : List ℕ} where
  pub appended_start : ChildWords ws b → Growing items₀ count met₀ → Appended ws b items₀ count met₀ items₀ count met₀ 0
  appended_start e G = record { body = e; high = omega arith; grows = grows_none G }

  module _ {items : List ℕ} {held : ℕ} {met : List ℕ} {i : ℕ} (A : Appended ws b items₀ count met₀ items held met i) where
    inside : i < length b → i < length (children_in ws)
    inside l = omega (arith, as_many A.body)

    pub appended_done : length b ≤ i → Grows items₀ count met₀ (children_in ws) items met (Ok held)
    appended_done h = rw (take_all i (children_in ws) (omega (arith, as_many A.body))) at A.grows

    module _ (l : i < length b) {n : ℕ} (e : n ≡ child (get_or b i 0)) where
      pub appended_next : Adding items held met n
      unfolding child
      appended_next = record { growing = A.grows.growing held refl; inside = omega (arith, e) }

      module _ {items' met' : List ℕ} {r : Out ℕ} (G : Grows items held met (n ∷ []) items' met' r) where
        both : Grows items₀ count met₀ (take i (children_in ws) ++ (get_or (children_in ws) i 0 ∷ [])) items' met' r
        both = grows_then A.grows (rw (child_is A.body i e) at G)

        pub appended_more : {next : ℕ} → r ≡ Ok next → Appended ws b items₀ count met₀ items' next met' (i + 1)
        appended_more {next} q = record {
          body = A.body;
          high = omega arith;
          grows = subst (λ (xs : List ℕ). Grows items₀ count met₀ xs items' met' (Ok next)) (sym (next_part (children_in ws) i (inside l))) (rw q at both);
        }

        pub appended_full : {e : Refusal} → r ≡ Err e → Grows items₀ count met₀ (children_in ws) items' met' (Err e)
        appended_full {e} q = subst (λ (xs : List ℕ). Grows items₀ count met₀ xs items' met' (Err e)) (sym (parted (children_in ws) i (inside l))) (grows_full (drop (suc i) (children_in ws)) (rw q at both))
