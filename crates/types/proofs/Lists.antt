-- Lists of numbers: bounds on each of them, zeros after them.
use Prim.Native.Nat.{ℕ, zero, suc, ◌+◌, ◌-◌, ◌<◌, ◌≤◌, zero-le, suc-le-suc}
use mathlib.Core.Path.{◌≡◌, refl, sym, ap, ◌∙◌}
use mathlib.Core.Bool.{true, false}
use mathlib.Core.List.{List, [], ◌∷◌, ◌++◌, map, append_assoc}
use native.Mathlib.Omega.{arith}
use native.Mathlib.Nat.{le_of_suc-le-suc, not-suc-le-zero}
use lib.ListN.{length, get_or, take, drop, set, replicate, length-append, length-drop, length-replicate}
use lib.Seq.{paste, take_all, take_at, take-length, drop-append-add, set_at}
use lib.Dec.{ltb}
use borrow.Author.Tests.{lt-ltb, ltb-true}
use Rattle.types.specs.Node.{below}
use Rattle.types.specs.Memory.{padded}
use Rattle.types.proofs.Tests.{and_true, both, not_true}

-- ---- each number is below n
pub below_at : (n : ℕ) (cs : List ℕ) → below n cs ≡ true → (j : ℕ) → j < length cs → get_or cs j 0 < n
unfolding below
below_at n [] e j h = absurd (not-suc-le-zero h)
below_at n (c ∷ cs) e zero h = ltb-true c n (and_true (ltb c n) (below n cs) e).0
below_at n (c ∷ cs) e (suc j) h = below_at n cs (and_true (ltb c n) (below n cs) e).1 j (le_of_suc-le-suc h)

pub below_by : (n : ℕ) (cs : List ℕ) → ((j : ℕ) → j < length cs → get_or cs j 0 < n) → below n cs ≡ true
unfolding below
below_by n [] f = refl
below_by n (c ∷ cs) f = both (lt-ltb c n (f 0 (suc-le-suc zero-le))) (below_by n cs (λ j h. f (suc j) (suc-le-suc h)))

pub below_not : (n : ℕ) (cs : List ℕ) (j : ℕ) → j < length cs → n ≤ get_or cs j 0 → below n cs ≡ false
below_not n cs j h l = not_true (below n cs) (λ e. let g = below_at n cs e j h in omega arith)

pub below_more : (m n : ℕ) (cs : List ℕ) → m ≤ n → below m cs ≡ true → below n cs ≡ true
below_more m n cs h e = below_by n cs (λ j l. let g = below_at m cs e j l in omega arith)

pub below_cons : (n c : ℕ) (cs : List ℕ) → below n (c ∷ cs) ≡ true → (c < n) × (below n cs ≡ true)
unfolding below
below_cons n c cs e = let p = and_true (ltb c n) (below n cs) e in (ltb-true c n p.0, p.1)

-- what is below n for every number is so throughout a list
pub below_map : (f : ℕ → ℕ) (n : ℕ) (ws : List ℕ) → ((w : ℕ) → f w < n) → below n (map f ws) ≡ true
unfolding below
below_map f n [] h = refl
below_map f n (w ∷ ws) h = both (lt-ltb (f w) n (h w)) (below_map f n ws h)

-- ---- zeros after what is in use
drop_replicate : (k n : ℕ) → drop {A = ℕ} k (replicate n 0) ≡ replicate (n - k) 0
drop_replicate zero n = let e : n - 0 ≡ n = omega arith in rw e
drop_replicate (suc k) zero = let e : 0 - suc k ≡ 0 = omega arith in rw e
drop_replicate (suc k) (suc n) = let e : suc n - suc k ≡ n - k = omega arith in rw e (drop_replicate k n)

-- more words put in use
pub padded_more : (n : ℕ) (p q : List ℕ) → paste (padded n p) (length p) q (length q) ≡ padded n (p ++ q)
padded_more n p q =
    let e : n - length p - length q ≡ n - length (p ++ q) = omega (arith, length-append p q) in
    ap (λ (l : List ℕ). l ++ take (length q) q ++ drop (length p + length q) (padded n p)) (take_at p _ _ refl)
    ∙ ap (λ (l : List ℕ). p ++ l ++ drop (length p + length q) (padded n p)) (take-length q)
    ∙ ap (λ (l : List ℕ). p ++ q ++ l) (drop-append-add p _ (length q) ∙ drop_replicate (length q) (n - length p) ∙ ap (λ (k : ℕ). replicate k 0) e)

-- one more word put in use
pub padded_set : (n : ℕ) (p : List ℕ) (v : ℕ) → length p < n → set (padded n p) (length p) v ≡ padded n (p ++ (v ∷ []))
padded_set n p v h =
    let e : n - length p ≡ suc (n - length (p ++ (v ∷ []))) = omega (arith, length-append p (v ∷ [])) in
    ap (λ (k : ℕ). set (p ++ replicate k 0) (length p) v) e ∙ set_at p 0 _ v _ refl ∙ sym (append_assoc p (v ∷ []) _)

pub length_padded : (n : ℕ) (p : List ℕ) → length p ≤ n → length (padded n p) ≡ n
length_padded n p h = simp (length-append, length-replicate) (omega arith)

-- ---- what is read off two lists, number by number
pub map_each {ℓ} : {Y : Type ℓ} (F G : ℕ → Y) (ms cs : List ℕ) → length ms ≡ length cs → ((i : ℕ) → i < length cs → F (get_or ms i 0) ≡ G (get_or cs i 0)) → map F ms ≡ map G cs
map_each F G [] [] q h = refl
map_each F G [] (c ∷ cs) q h = absurd (omega arith)
map_each F G (m ∷ ms) [] q h = absurd (omega arith)
map_each F G (m ∷ ms) (c ∷ cs) q h = let e = h 0 (omega arith) in let r = map_each F G ms cs (omega arith) (λ i l. h (suc i) (omega (arith, l))) in λ i. e i ∷ r i

-- what is lent of a list from its second element on
pub body_lent : {A : Type 0} (l : List A) → take (length l - 1) (drop 1 l) ≡ drop 1 l
body_lent l = take_all (length l - 1) (drop 1 l) (omega (arith, length-drop 1 l))
