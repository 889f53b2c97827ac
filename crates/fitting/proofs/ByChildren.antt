-- A node takes what its tag makes of what its children take. What a member list takes depends only on which members there are: a union says no, and an intersection yes,
-- exactly where each member does.
use Prim.Native.Nat.{ℕ, suc, ◌<◌}
use mathlib.Core.Path.{◌≡◌, refl, sym, ap, ◌∙◌}
use mathlib.Core.Bool.{Bool, true, false, not, ◌||◌, or-false, and-true as with-true}
use mathlib.Core.List.Memᴰ.{head}
use mathlib.Core.List.Memᴰ.{tail}
use mathlib.Core.List.{List, [], ◌∷◌, map, Memᴰ as Mem}
use native.Mathlib.Omega.{arith}
use lib.ListN.{length, get_or}
use lib.Dec.{eqb}
use borrow.Author.Tests.{eqb-true}
use Rattle.types.specs.Kind.{disc}
use Rattle.types.specs.Node.{Polarity, positive, negative, Tag, members, bound, Node, tag, kind, children}
use Rattle.types.specs.Arena.{Arena, at, sound}
use Rattle.types.proofs.Tests.{and_true, neither, same_truth}
use Rattle.types.proofs.Sound.{at_formed, fold_at}
use Rattle.node_reading.proofs.NodeReads.{first_there}
use Rattle.fix_values.specs.Fix.{Fix}
use Rattle.fitting.specs.Fits.{Test, first, node_takes, takes}
use Rattle.fitting.specs.Theorems.{NegOpposite, NamedInner, OneMember, SameMembers}

-- ---- a node that isn't `never` is one of the arena
pub inside : (a : Arena) (n : ℕ) {t : Tag} → tag (at a n) ≡ t → (bound positive ≡ t → ◌≡◌ {A = ℕ} 0 1) → n < length a
unfolding at
inside [] n e h = absurd (omega (arith, h e))
inside (x ∷ s) n {t} e h = go (eqb n (length s)) refl e (λ q. inside s n q h)
  where
    go : (b : Bool) → eqb n (length s) ≡ b → tag (elim b as (λ _. Node) [ true ↦ x | false ↦ at s n ]) ≡ t → (tag (at s n) ≡ t → n < length s) → n < suc (length s)
    go true p q r = omega (arith, eqb-true n (length s) p)
    go false p q r = omega (arith, r q)

pub taken_at : (f : Fix) (table : ℕ) (a : Arena) → sound table a ≡ true → (n : ℕ) {t : Tag} → tag (at a n) ≡ t → (bound positive ≡ t → ◌≡◌ {A = ℕ} 0 1)
    → (v : ℕ) → takes f a n v ≡ node_takes f t (map (takes f a) (children (at a n))) v
unfolding takes
taken_at f table a g n e h v =
    (λ i. fold_at (node_takes f) table a g n (inside a n e h) i v) ∙ ap (λ (t : Tag). node_takes f t (map (takes f a) (children (at a n))) v) e

-- ---- the inner type of a `Named` or a `Neg`
first_is : (F : ℕ → Test) (v : ℕ) (cs : List ℕ) → 0 < length cs → first (map F cs) v ≡ F (get_or cs 0 0) v
first_is F v [] l = absurd (omega arith)
first_is F v (c ∷ cs) l = refl

abbrev has_child : Tag → Bool
has_child t = eqb (disc (kind t)) 5 || (eqb (disc (kind t)) 9 || eqb (disc (kind t)) 10)

inner : (f : Fix) (table : ℕ) (a : Arena) → sound table a ≡ true → (n : ℕ) → n < length a → has_child (tag (at a n)) ≡ true
    → (v : ℕ) → first (map (takes f a) (children (at a n))) v ≡ takes f a (get_or (children (at a n)) 0 0) v
inner f table a g n l e v = first_is (takes f a) v (children (at a n)) (first_there (at a n) (at_formed table a g n l) e)

pub neg_opposite : NegOpposite
unfolding node_takes
neg_opposite f table a g n e v = taken_at f table a g n e (λ q. cc) v ∙ ap not (inner f table a g n (inside a n e (λ q. cc)) (ap has_child e) v)

pub named_inner : NamedInner
unfolding node_takes
named_inner f table a g k n e v = taken_at f table a g n e (λ q. cc) v ∙ inner f table a g n (inside a n e (λ q. cc)) (ap has_child e) v

-- ---- the answer that a list of a kind gives only where each member gives it: a union's no, an intersection's yes
abbrev pub shared : Polarity → Bool
shared positive = false
shared negative = true

same_by : (k : Polarity) (x y : Bool) → (x ≡ shared k → y ≡ shared k) → (y ≡ shared k → x ≡ shared k) → x ≡ y
same_by positive true true p q = refl
same_by positive true false p q = q refl
same_by positive false y p q = sym (p refl)
same_by negative x y p q = same_truth x y p q

module _ (f : Fix) (F : ℕ → Test) (v : ℕ) where
  pub each_shares : (k : Polarity) {c : ℕ} {cs : List ℕ} → Mem c cs → node_takes f (members k) (map F cs) v ≡ shared k → F c v ≡ shared k
  unfolding node_takes
  each_shares positive (head {x = d} q) e = ap (λ (n : ℕ). F n v) q ∙ (neither (F d v) _ e).0
  each_shares positive (tail {x = d} m) e = each_shares positive m (neither (F d v) _ e).1
  each_shares negative (head {x = d} q) e = ap (λ (n : ℕ). F n v) q ∙ (and_true (F d v) _ e).0
  each_shares negative (tail {x = d} m) e = each_shares negative m (and_true (F d v) _ e).1

  pub shared_by : (k : Polarity) (cs : List ℕ) → ((c : ℕ) → Mem c cs → F c v ≡ shared k) → node_takes f (members k) (map F cs) v ≡ shared k
  unfolding node_takes
  shared_by positive [] h = refl
  shared_by negative [] h = refl
  shared_by positive (c ∷ cs) h = rw (h c (head refl)) (shared_by positive cs (λ d m. h d (tail m)))
  shared_by negative (c ∷ cs) h = rw (h c (head refl)) (shared_by negative cs (λ d m. h d (tail m)))

  alone : (k : Polarity) (cs : List ℕ) → length cs ≡ 1 → node_takes f (members k) (map F cs) v ≡ F (get_or cs 0 0) v
  unfolding node_takes
  alone k [] l = absurd (omega arith)
  alone positive (c ∷ []) l = or-false (F c v)
  alone negative (c ∷ []) l = with-true (F c v)
  alone k (c ∷ d ∷ cs) l = absurd (omega arith)

pub one_member : OneMember
one_member f table a g k n e l v = taken_at f table a g n e (λ q. cc) v ∙ alone f (takes f a) v k (children (at a n)) l

pub same_members : SameMembers
same_members f table a g k m n d e p q v =
    let F = takes f a in
    taken_at f table a g m d (λ q. cc) v
    ∙ same_by k _ _
    (λ h. shared_by f F v k (children (at a n)) (λ c i. each_shares f F v k (q c i) h))
    (λ h. shared_by f F v k (children (at a m)) (λ c i. each_shares f F v k (p c i) h))
    ∙ sym (taken_at f table a g n e (λ q. cc) v)
