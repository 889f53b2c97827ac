-- What a node becomes, as a relation in the arena that is left: a grown arena keeps it. All that is shown of a pass is an induction over this relation.
use Prim.Native.Nat.{ℕ, ◌<◌}
use mathlib.Core.Path.{◌≡◌, refl, sym, ap, ap₂, ◌∙◌, subst}
use mathlib.Core.Bool.{Bool, true, false}
use mathlib.Core.List.Memᴰ.{head}
use mathlib.Core.List.Memᴰ.{tail}
use mathlib.Core.List.{List, [], ◌∷◌, flat_map, ◌++◌, Memᴰ as Mem}
use mathlib.Core.Option.{none}
use native.Mathlib.Omega.{arith}
use lib.ListN.{length, get_or}
use Rattle.std.specs.Prelude.{Ok}
use Rattle.types.specs.Node.{Polarity, members, bound, neg, Tag, Node, node, tag, children}
use Rattle.types.specs.Arena.{Arena, at, sound, Ext}
use Rattle.types.specs.Places.{opposite}
use Rattle.types.proofs.Growth.{ext_length, ext_at}
use Rattle.types.proofs.Sound.{child_lower}
use Rattle.recursion.proofs.Members.{index_of, each_member}
use Rattle.recursion.proofs.Interning.{node_is, At, at_later}
use Rattle.simplification.specs.Seen.{same_tag}
use Rattle.simplification.specs.Pass.{var_of, is_removable, no_variable, remaining, is_decided, splice, first_copies, member_list, list_kind}
use Rattle.simplification.proofs.Answers.{one_same}
use Rattle.simplification.proofs.Members.{Brought, itself, spliced}
use Rattle.simplification.proofs.Copies.{listed}

-- all these numbers are there
abbrev pub Inside : Arena → List ℕ → Type 0
Inside a es = (e : ℕ) → Mem e es → e < length a

-- the children of a node of a sound arena are
children_inside : (table : ℕ) {a : Arena} → sound table a ≡ true → {n : ℕ} {t : Tag} {ds : List ℕ} → At a n (node t ds) → Inside a ds
children_inside table {a} h {n} I d i =
    let j = index_of i in
    let z = subst (λ (x : Node). (i : ℕ) → i < length (children x) → get_or (children x) i 0 < n) I.is (child_lower table a h n I.inside) j.index j.inside in
    omega (arith, j.is, I.inside)

-- so is what members that are there bring
pub brought_inside : (table : ℕ) (a : Arena) → sound table a ≡ true → (k : Polarity) (ms : List ℕ) → Inside a ms → (l : List ℕ) → member_list k a ms ≡ Ok l → Inside a l
brought_inside table a g k ms inside l e x h = let q = (listed k a ms l e).from x h in go q.0 (inside q.0 q.1) q.2
  where
    go : (m : ℕ) → m < length a → Brought k m (at a m) x → x < length a
    go m i (itself p u v) = omega arith
    go m i (spliced u h) = children_inside table g (record { inside = i; is = node_is (at a m) refl }) x h

-- m stands for a list of kind k of which something is left, and whose remaining members became es
pub data Stands (a : Arena) (k : Polarity) (es : List ℕ) (m : ℕ) : Type 0 where
  decided : is_decided k a es ≡ true → At a m (node (bound (opposite k)) []) → Stands a k es m
  single : is_decided k a es ≡ false → member_list k a es ≡ Ok (m ∷ []) → m < length a → Stands a k es m
  several : {x y : ℕ} {zs : List ℕ} → is_decided k a es ≡ false → member_list k a es ≡ Ok (x ∷ y ∷ zs) → At a m (node (members k) (x ∷ y ∷ zs)) → Stands a k es m

-- where the variables R are removable, node c becomes node m
pub data Becomes (a : Arena) : (ℕ → Bool) → ℕ → ℕ → Type 0 where
  other : {R : ℕ → Bool} {c m : ℕ} {t : Tag} (ds es : List ℕ) → At a c (node t ds) → list_kind t ≡ none → length es ≡ length ds
      → ((i : ℕ) → i < length ds → Becomes a R (get_or ds i 0) (get_or es i 0)) → At a m (node t es) → Becomes a R c m
  list : {R : ℕ → Bool} {c m : ℕ} (k : Polarity) (ds es : List ℕ) → At a c (node (members k) ds) → length es ≡ length (remaining R a ds)
      → ((i : ℕ) → i < length (remaining R a ds) → Becomes a R (get_or (remaining R a ds) i 0) (get_or es i 0)) → Stands a k es m → Becomes a R c m
  emptied : {R : ℕ → Bool} {c m : ℕ} (k : Polarity) (ds es : List ℕ) → At a c (node (members k) ds) → 0 < length ds → length es ≡ length (remaining R a ds)
      → ((i : ℕ) → i < length (remaining R a ds) → Becomes a R (get_or (remaining R a ds) i 0) (get_or es i 0)) → is_decided k a es ≡ false → member_list k a es ≡ Ok []
      → Becomes a no_variable (get_or ds 0 0) m → Becomes a R c m

pub becomes_inside : {a : Arena} {R : ℕ → Bool} {c m : ℕ} → Becomes a R c m → m < length a
becomes_inside (other ds es ic n q sub im) = im.inside
becomes_inside (list k ds es ic q sub (decided e im)) = im.inside
becomes_inside (list k ds es ic q sub (single e f l)) = l
becomes_inside (list k ds es ic q sub (several e f im)) = im.inside
becomes_inside (emptied k ds es ic p q sub e f first) = becomes_inside first

-- the numbers es are what the numbers cs become, one by one
abbrev pub AllBecome : Arena → (ℕ → Bool) → List ℕ → List ℕ → Type 0
AllBecome a R cs es = (length es ≡ length cs) × ((i : ℕ) → i < length cs → Becomes a R (get_or cs i 0) (get_or es i 0))

pub all_inside : {a : Arena} (R : ℕ → Bool) (cs es : List ℕ) → AllBecome a R cs es → Inside a es
all_inside {a} R cs es h = each_member (λ (e : ℕ). e < length a) (length cs) es h.0 (λ i l. becomes_inside (h.1 i l))

-- ---- in a grown arena
module _ (table : ℕ) (a b : Arena) (h : sound table a ≡ true) (ext : Ext a b) where
  pub at_kept : {n : ℕ} {x : Node} → At a n x → At b n x
  at_kept = at_later ext

  first_child : (n : ℕ) → n < length a → (cs : List ℕ) → children (at a n) ≡ cs → get_or cs 0 0 < length a
  first_child n l [] e = omega arith
  first_child n l (c ∷ cs) e = let z = subst (λ (ds : List ℕ). (i : ℕ) → i < length ds → get_or ds i 0 < n) e (child_lower table a h n l) 0 (omega arith) in omega arith

  pub removable_kept : (R : ℕ → Bool) (n : ℕ) → n < length a → is_removable R b n ≡ is_removable R a n
  unfolding is_removable
  removable_kept R n l =
      let p = ext_at a b ext n l in
      let q : at b (get_or (children (at b n)) 0 0) ≡ at a (get_or (children (at a n)) 0 0)
      = ap (λ (x : Node). at b (get_or (children x) 0 0)) p ∙ ext_at a b ext (get_or (children (at a n)) 0 0) (first_child n l (children (at a n)) refl) in
      ap₂ (λ (x y : Node). elim (same_tag (tag x) neg) as (λ _. Bool) [ true ↦ var_of R (tag y) | false ↦ var_of R (tag x) ]) p q

  pub remaining_kept : (R : ℕ → Bool) (cs : List ℕ) → Inside a cs → remaining R b cs ≡ remaining R a cs
  unfolding remaining
  remaining_kept R [] f = refl
  remaining_kept R (c ∷ cs) f =
      let p = removable_kept R c (f c (head refl)) in
      let q = remaining_kept R cs (λ d i. f d (tail i)) in
      λ i. elim (p i) as (λ _. List ℕ) [ true ↦ q i | false ↦ c ∷ q i ]

  pub decided_kept : (k : Polarity) (es : List ℕ) → Inside a es → is_decided k b es ≡ is_decided k a es
  unfolding is_decided
  decided_kept k es f = one_same _ _ es (λ e i. ap (λ (x : Node). same_tag (tag x) (bound (opposite k))) (ext_at a b ext e (f e i)))

  splice_kept : (k : Polarity) (es : List ℕ) → Inside a es → flat_map (λ (m : ℕ). splice k m (at b m)) es ≡ flat_map (λ (m : ℕ). splice k m (at a m)) es
  unfolding flat_map
  splice_kept k [] f = refl
  splice_kept k (e ∷ es) f = ap₂ ◌++◌ (ap (splice k e) (ext_at a b ext e (f e (head refl)))) (splice_kept k es (λ d i. f d (tail i)))

  pub listed_kept : (k : Polarity) (es : List ℕ) → Inside a es → member_list k b es ≡ member_list k a es
  unfolding member_list
  listed_kept k es f = ap (first_copies []) (splice_kept k es f)

  stands_kept : {k : Polarity} {es : List ℕ} {m : ℕ} → Inside a es → Stands a k es m → Stands b k es m
  stands_kept {k} {es} f (decided e im) = decided (decided_kept k es f ∙ e) (at_kept im)
  stands_kept {k} {es} f (single e g l) = single (decided_kept k es f ∙ e) (listed_kept k es f ∙ g) (omega (arith, ext_length a b ext))
  stands_kept {k} {es} f (several e g im) = several (decided_kept k es f ∙ e) (listed_kept k es f ∙ g) (at_kept im)

  -- the members that remain, from what became of them in the old arena
  pub members_kept : {R : ℕ → Bool} {c : ℕ} {t : Tag} (ds es : List ℕ) → At a c (node t ds) → AllBecome b R (remaining R a ds) es → AllBecome b R (remaining R b ds) es
  members_kept {R} ds es ic q = subst (λ (cs : List ℕ). AllBecome b R cs es) (sym (remaining_kept R ds (children_inside table h ic))) q

  pub becomes_kept : {R : ℕ → Bool} {c m : ℕ} → Becomes a R c m → Becomes b R c m
  becomes_kept (other ds es ic n q sub im) = other ds es (at_kept ic) n q (λ i l. becomes_kept (sub i l)) (at_kept im)
  becomes_kept {R} (list k ds es ic q sub end) =
      let later = members_kept {R = R} ds es ic (q, λ i l. becomes_kept (sub i l)) in
      list k ds es (at_kept ic) later.0 later.1 (stands_kept (all_inside R (remaining R a ds) es (q, sub)) end)
  becomes_kept {R} (emptied k ds es ic p q sub e g first) =
      let later = members_kept {R = R} ds es ic (q, λ i l. becomes_kept (sub i l)) in
      let f = all_inside R (remaining R a ds) es (q, sub) in
      emptied k ds es (at_kept ic) p later.0 later.1 (decided_kept k es f ∙ e) (listed_kept k es f ∙ g) (becomes_kept first)
