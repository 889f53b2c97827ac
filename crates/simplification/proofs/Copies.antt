-- The list that the members make: all that they bring, each once.
use Prim.Native.Nat.{ℕ, suc, ◌<◌, ◌≤◌, zero-le}
use mathlib.Core.Path.{◌≡◌, refl, sym, ap, ◌∙◌, subst}
use mathlib.Core.Bool.{Bool, true, false}
use mathlib.Core.List.Memᴰ
use mathlib.Core.List.Memᴰ.{append_cases}
use mathlib.Core.List.Memᴰ.{append_left}
use mathlib.Core.List.Memᴰ.{append_right}
use mathlib.Core.List.Memᴰ.{cases_cons}
use mathlib.Core.List.Memᴰ.{eq_of_singleton}
use mathlib.Core.List.Memᴰ.{head}
use mathlib.Core.List.Memᴰ.{not-nil}
use mathlib.Core.List.Memᴰ.{tail}
use mathlib.Core.List.{List, [], ◌∷◌, ◌++◌, flat_map, Memᴰ as Mem}
use mathlib.Core.Logic.{◌⊎◌, inl, inr, ⊎_elim}
use native.Mathlib.Omega.{arith}
use native.Mathlib.Nat.{not-suc-le-zero}
use lib.ListN.{length, get_or, length-append, get_or-append}
use lib.Seq.{get_or-append_seam}
use lib.Dec.{eqb, ltb}
use borrow.Author.Tests.{eqb-true, eq-eqb, ltb-true, ltb-false}
use Rattle.std.specs.Prelude.{Ok, Err}
use Rattle.types.specs.declared.refusal.Refusal.TheVariants as refusal
use Rattle.types.specs.Out.{Out}
use Rattle.types.specs.Node.{Polarity}
use Rattle.types.specs.Arena.{Arena, at}
use Rattle.types.proofs.Tests.{true_false}
use Rattle.recursion.proofs.Answers.{ok_err, ok_same, bind_parts}
use Rattle.recursion.proofs.Members.{member_at}
use Rattle.simplification.specs.Pass.{one_of, splice, append, first_copies, member_list}
use Rattle.simplification.proofs.Answers.{one_true, one_if}
use Rattle.simplification.proofs.Members.{Brought, splice_from, splice_onto}

pub flat_from : (f : ℕ → List ℕ) (ms : List ℕ) (x : ℕ) → Mem x (flat_map f ms) → (m : ℕ) × Mem m ms × Mem x (f m)
unfolding flat_map
flat_from f [] x h = absurd (not-nil h)
flat_from f (m ∷ ms) x h = go (append_cases (f m) h) (flat_from f ms x)
  where
    go : Mem x (f m) ⊎ Mem x (flat_map f ms) → (Mem x (flat_map f ms) → (n : ℕ) × Mem n ms × Mem x (f n)) → (n : ℕ) × Mem n (m ∷ ms) × Mem x (f n)
    go (inl h) r = (m, head refl, h)
    go (inr h) r = let q = r h in (q.0, tail q.1, q.2)

pub flat_onto : (f : ℕ → List ℕ) (ms : List ℕ) (m x : ℕ) → Mem m ms → Mem x (f m) → Mem x (flat_map f ms)
unfolding flat_map
flat_onto f [] m x x4 h = elim x4 [ ]
flat_onto f (n ∷ ms) m x (head e) h = append_left (flat_map f ms) (subst (λ (i : ℕ). Mem x (f i)) e h)
flat_onto f (n ∷ ms) m x (tail i) h = append_right (f n) (flat_onto f ms m x i h)

-- ---- first copies
abbrev pub Different : List ℕ → Type 0
Different xs = (i j : ℕ) → i < j → j < length xs → get_or xs i 0 ≡ get_or xs j 0 → ⊥

-- the list l has what acc and ms have, once
pub record Copies (acc ms l : List ℕ) : Type 0 where
  pub from : (x : ℕ) → Mem x l → Mem x acc ⊎ Mem x ms
  pub old : (x : ℕ) → Mem x acc → Mem x l
  pub new : (x : ℕ) → Mem x ms → Mem x l
  pub different : Different acc → Different l
  pub few : length acc ≤ 64 → length l ≤ 64

snoc_different : (m : ℕ) (acc : List ℕ) → (Mem m acc → ⊥) → Different acc → Different (acc ++ (m ∷ []))
snoc_different m acc f d i j l k e = go (ltb j (length acc)) refl
  where
    n : length (acc ++ (m ∷ [])) ≡ suc (length acc)
    n = omega (arith, length-append acc (m ∷ []))

    -- an index before the new member
    early : (i : ℕ) → i < length acc → get_or (acc ++ (m ∷ [])) i 0 ≡ get_or acc i 0
    early = get_or-append acc (m ∷ []) 0

    go : (b : Bool) → ltb j (length acc) ≡ b → ⊥
    go true q = let h = ltb-true j (length acc) q in d i j l h (sym (early i (omega arith)) ∙ e ∙ early j h)
    go false q =
        let h = ltb-false j (length acc) q in
        let x : j ≡ length acc = omega (arith, n) in
        let y : get_or acc i 0 ≡ m = sym (early i (omega arith)) ∙ e ∙ ap (λ (j : ℕ). get_or (acc ++ (m ∷ [])) j 0) x ∙ get_or-append_seam acc m [] 0 in
        f (Memᴰ.cast (sym y) (member_at acc i (omega arith)))

appended : (m : ℕ) (acc l : List ℕ) → append m acc ≡ Ok l → Copies acc (m ∷ []) l
unfolding append
appended m acc l e = go (one_of (eqb m) acc) refl (ltb (length acc) 64) refl e
  where
    there_already : one_of (eqb m) acc ≡ true → Copies acc (m ∷ []) acc
    there_already p = record {
      from = λ x h. inl h;
      old = λ x h. h;
      new = λ x h. let r = one_true (eqb m) acc p in Memᴰ.cast (eq_of_singleton h ∙ eqb-true m r.0 r.2) r.1;
      different = λ d. d;
      few = λ n. n;
    }

    put : one_of (eqb m) acc ≡ false → length acc < 64 → Copies acc (m ∷ []) (acc ++ (m ∷ []))
    put p n = record {
      from = λ x h. append_cases acc h;
      old = λ x h. append_left (m ∷ []) h;
      new = λ x h. append_right acc h;
      different = snoc_different m acc (λ h. true_false (sym (one_if (eqb m) acc m h (eq-eqb m m refl)) ∙ p));
      few = λ _. omega (arith, length-append acc (m ∷ []));
    }

    go : (b : Bool) → one_of (eqb m) acc ≡ b → (d : Bool) → ltb (length acc) 64 ≡ d
        → elim b as (λ _. Out (List ℕ)) [ true ↦ Ok acc | false ↦ elim d as (λ _. Out (List ℕ)) [ true ↦ Ok (acc ++ (m ∷ [])) | false ↦ Err refusal.TooManyMembers ] ] ≡ Ok l → Copies acc (m ∷ []) l
    go true p d q e = subst (Copies acc (m ∷ [])) (ok_same e) (there_already p)
    go false p true q e = subst (Copies acc (m ∷ [])) (ok_same e) (put p (ltb-true (length acc) 64 q))
    go false p false q e = absurd (ok_err e)

pub copies : (acc ms l : List ℕ) → first_copies acc ms ≡ Ok l → Copies acc ms l
unfolding first_copies
copies acc [] l e = subst (Copies acc []) (ok_same e) (record { from = λ x h. inl h; old = λ x h. h; new = λ x h. absurd (not-nil h); different = λ d. d; few = λ n. n })
copies acc (m ∷ ms) l e =
    let p = bind_parts (append m acc) (λ (r : List ℕ). first_copies r ms) e in
    join (appended m acc p.0 p.1) (copies p.0 ms l p.2)
  where
    join : {r : List ℕ} → Copies acc (m ∷ []) r → Copies r ms l → Copies acc (m ∷ ms) l
    join {r} C D = record {
      from = λ x h. back x (D.from x h);
      old = λ x h. D.old x (C.old x h);
      new = λ x h. fresh x (cases_cons h);
      different = λ d. D.different (C.different d);
      few = λ n. D.few (C.few n);
    }
      where
        back : (x : ℕ) → Mem x r ⊎ Mem x ms → Mem x acc ⊎ Mem x (m ∷ ms)
        back x (inl h) = ⊎_elim inl (λ k. inr (head (eq_of_singleton k))) (C.from x h)
        back x (inr h) = inr (tail h)

        fresh : (x : ℕ) → (x ≡ m) ⊎ Mem x ms → Mem x l
        fresh x (inl q) = D.old x (C.new x (head q))
        fresh x (inr h) = D.new x h

-- the members of a list of kind k are what the simplified members bring, once
pub record Listed (k : Polarity) (a : Arena) (ms l : List ℕ) : Type 0 where
  pub from : (x : ℕ) → Mem x l → (m : ℕ) × Mem m ms × Brought k m (at a m) x
  pub onto : (m x : ℕ) → Mem m ms → Brought k m (at a m) x → Mem x l
  pub different : Different l
  pub few : length l ≤ 64

pub listed : (k : Polarity) (a : Arena) (ms l : List ℕ) → member_list k a ms ≡ Ok l → Listed k a ms l
unfolding member_list
listed k a ms l e =
    let C = copies [] (flat_map (λ (m : ℕ). splice k m (at a m)) ms) l e in
    record {
      from = λ x h. let q = flat_from (λ (m : ℕ). splice k m (at a m)) ms x (⊎_elim (λ n. absurd (not-nil n)) (λ r. r) (C.from x h)) in (q.0, q.1, splice_from k q.0 (at a q.0) x q.2);
      onto = λ m x h b. C.new x (flat_onto (λ (m : ℕ). splice k m (at a m)) ms m x h (splice_onto k m (at a m) x b));
      different = C.different (λ i j l n. absurd (not-suc-le-zero n));
      few = C.few zero-le;
    }
