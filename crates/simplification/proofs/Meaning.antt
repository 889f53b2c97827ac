-- A pass keeps the set of a type, if each member that it drops is neutral. A member decides about a mark if it has it (in a union) or lacks it
-- (in an intersection). A list's set says whether some member does, and so dropping, splicing and first copies are facts on members.
use Prim.Native.Nat.{ℕ, ◌<◌, Fin}
use mathlib.Core.Path.{◌≡◌, refl, sym, ap, ◌∙◌, subst, fun_ext}
use mathlib.Core.Bool.{Bool, true, false}
use mathlib.Core.List.Memᴰ.{eq_of_singleton}
use mathlib.Core.List.Memᴰ.{head}
use mathlib.Core.List.Memᴰ.{not-nil}
use mathlib.Core.List.Memᴰ.{tail}
use mathlib.Core.List.{List, [], ◌∷◌, map, Memᴰ as Mem}
use mathlib.Core.Logic.{◌⊎◌, inl, inr}
use native.Mathlib.Omega.{arith}
use lib.ListN.{length, get_or}
use Rattle.std.specs.Prelude.{Ok}
use Rattle.types.specs.Node.{Polarity, positive, negative, Tag, members, bound, Node, node, tag, children}
use Rattle.types.specs.Arena.{Arena, at, sound, Ext}
use Rattle.types.specs.Places.{opposite, child_sign, Place, self}
use Rattle.types.proofs.Tests.{true_false, same_truth}
use Rattle.types.proofs.Walks.{step}
use Rattle.types.proofs.Lists.{map_each}
use Rattle.types.proofs.Sound.{fold_at, ext_fold}
use Rattle.recursion.proofs.Interning.{node_is, At}
use Rattle.recursion.proofs.Members.{index_of, member_at}
use Rattle.simplification.specs.Seen.{same_tag}
use Rattle.simplification.specs.Pass.{is_removable, no_variable, remaining, member_list}
use Rattle.simplification.specs.Reading.{Set, Reading, in_bound, combine, in_members, set_node, set_of}
use Rattle.simplification.proofs.Answers.{same_tag_true, same_tag_false}
use Rattle.simplification.proofs.Members.{remaining_from, remaining_onto, decided_by, Brought, itself, spliced}
use Rattle.simplification.proofs.Copies.{listed}
use Rattle.simplification.proofs.Becoming.{Inside, Stands, decided, single, several, Becomes, other, list, emptied, all_inside}
use Rattle.simplification.proofs.Removing.{removable, variable, negated}

-- ---- the value that decides a union or an intersection
abbrev pub deciding : Polarity → Bool
deciding k = in_bound (opposite k)

not_deciding : (k : Polarity) → in_bound k ≡ deciding k → ⊥
not_deciding positive e = true_false (sym e)
not_deciding negative e = true_false e

-- two values are equal if both are the deciding one or neither is
same_deciding : (k : Polarity) (x y : Bool) → (x ≡ deciding k → y ≡ deciding k) → (y ≡ deciding k → x ≡ deciding k) → x ≡ y
same_deciding positive x y f g = same_truth x y f g
same_deciding negative true true f g = refl
same_deciding negative true false f g = g refl
same_deciding negative false y f g = sym (f refl)

combine_deciding : (k : Polarity) (x y : Bool) → combine k x y ≡ deciding k → (x ≡ deciding k) ⊎ (y ≡ deciding k)
combine_deciding positive true y e = inl refl
combine_deciding positive false y e = inr e
combine_deciding negative true y e = inr e
combine_deciding negative false y e = inl refl

deciding_left : (k : Polarity) (x y : Bool) → x ≡ deciding k → combine k x y ≡ deciding k
deciding_left positive x y e = rw e
deciding_left negative x y e = rw e

deciding_right : (k : Polarity) (x y : Bool) → y ≡ deciding k → combine k x y ≡ deciding k
deciding_right positive true y e = refl
deciding_right positive false y e = e
deciding_right negative true y e = e
deciding_right negative false y e = refl

-- ---- lists of sets
module _ {j : ℕ} (k : Polarity) (f : ℕ → Set j) (x : Fin j) where
  -- a member that decides
  abbrev DeciderOf : List ℕ → Type 0
  DeciderOf cs = (c : ℕ) × Mem c cs × (f c x ≡ deciding k)

  members_decider : (cs : List ℕ) → in_members k (map f cs) x ≡ deciding k → DeciderOf cs
  unfolding in_members
  members_decider [] e = absurd (not_deciding k e)
  members_decider (c ∷ cs) e = go (combine_deciding k (f c x) (in_members k (map f cs) x) e) (members_decider cs)
    where
      go : (f c x ≡ deciding k) ⊎ (in_members k (map f cs) x ≡ deciding k) → (in_members k (map f cs) x ≡ deciding k → DeciderOf cs) → DeciderOf (c ∷ cs)
      go (inl q) h = (c, head refl, q)
      go (inr q) h = let r = h q in (r.0, tail r.1, r.2)

  decider_members : (cs : List ℕ) (c : ℕ) → Mem c cs → f c x ≡ deciding k → in_members k (map f cs) x ≡ deciding k
  unfolding in_members
  decider_members [] c x3 q = elim x3 [ ]
  decider_members (d ∷ cs) c (head e) q = deciding_left k (f d x) (in_members k (map f cs) x) (ap (λ (c : ℕ). f c x) (sym e) ∙ q)
  decider_members (d ∷ cs) c (tail i) q = deciding_right k (f d x) (in_members k (map f cs) x) (decider_members cs c i q)

-- a grown arena keeps the sets of its old numbers
pub set_kept : (r : Reading) (a b : Arena) → Ext a b → (n : ℕ) → n < length a → set_of r b n ≡ set_of r a n
unfolding set_of
set_kept r = ext_fold (set_node r)

module _ (r : Reading) (table : ℕ) (a : Arena) (g : sound table a ≡ true) where
  -- a node's set, from its children's
  pub set_at : {n : ℕ} {t : Tag} {cs : List ℕ} → At a n (node t cs) → set_of r a n ≡ set_node r t (map (set_of r a) cs)
  unfolding set_of
  set_at {n} I = fold_at (set_node r) table a g n I.inside ∙ ap (λ (x : Node). set_node r (tag x) (map (set_of r a) (children x))) I.is

  module _ (k : Polarity) (x : Fin r.marks) where
    abbrev Decider : List ℕ → Type 0
    Decider = DeciderOf k (set_of r a) x

    list_decider : (n : ℕ) (cs : List ℕ) → At a n (node (members k) cs) → set_of r a n x ≡ deciding k → Decider cs
    list_decider n cs I e = members_decider k (set_of r a) x cs (sym (λ i. set_at I i x) ∙ e)

    decider_list : (n : ℕ) (cs : List ℕ) → At a n (node (members k) cs) → Decider cs → set_of r a n x ≡ deciding k
    decider_list n cs I h = (λ i. set_at I i x) ∙ decider_members k (set_of r a) x cs h.0 h.1 h.2

    -- some member decides if some of what they bring does
    module _ (es : List ℕ) (inside : Inside a es) (l : List ℕ) (m : member_list k a es ≡ Ok l) where
      at_tag : (e : ℕ) → Mem e es → {t : Tag} → tag (at a e) ≡ t → At a e (node t (children (at a e)))
      at_tag e i q = record { inside = inside e i; is = node_is (at a e) q }

      brought_decider : Decider l → Decider es
      brought_decider h = let q = (listed k a es l m).from h.0 h.1 in go q.0 q.1 q.2
        where
          go : (e : ℕ) → Mem e es → Brought k e (at a e) h.0 → Decider es
          go e i (itself p u v) = (e, i, ap (λ (c : ℕ). set_of r a c x) (sym p) ∙ h.2)
          go e i (spliced q j) = (e, i, decider_list e (children (at a e)) (at_tag e i q) (h.0, j, h.2))

      decider_brought : Decider es → Decider l
      decider_brought h = go (same_tag (tag (at a h.0)) (members k)) refl (same_tag (tag (at a h.0)) (bound k)) refl
        where
          go : (b : Bool) → same_tag (tag (at a h.0)) (members k) ≡ b → (d : Bool) → same_tag (tag (at a h.0)) (bound k) ≡ d → Decider l
          go true p d q =
              let t = same_tag_true _ _ p in
              let c = list_decider h.0 (children (at a h.0)) (at_tag h.0 h.1 t) h.2 in
              (c.0, (listed k a es l m).onto h.0 c.0 h.1 (spliced t c.1), c.2)
          go false p true q = absurd (not_deciding k (sym (λ i. set_at (at_tag h.0 h.1 (same_tag_true _ _ q)) i x) ∙ h.2))
          go false p false q = (h.0, (listed k a es l m).onto h.0 h.0 h.1 (itself refl (same_tag_false _ _ p) (same_tag_false _ _ q)), h.2)

    stood_decider : (es : List ℕ) (m : ℕ) → Inside a es → Stands a k es m → (set_of r a m x ≡ deciding k → Decider es) × (Decider es → set_of r a m x ≡ deciding k)
    stood_decider es m f (decided e im) =
        let q = decided_by k a es e in
        ((λ _. (q.0, q.1, λ i. set_at (record { inside = f q.0 q.1; is = node_is (at a q.0) q.2 }) i x)), (λ _. λ i. set_at im i x))
    stood_decider es m f (single e q l) =
        ((λ h. brought_decider es f (m ∷ []) q (m, head refl, h)), (λ h. let c = decider_brought es f (m ∷ []) q h in ap (λ (c : ℕ). set_of r a c x) (sym (eq_of_singleton c.1)) ∙ c.2))
    stood_decider es m f (several {x = y} {y = z} {zs = zs} e q im) =
        ((λ h. brought_decider es f (y ∷ z ∷ zs) q (list_decider m (y ∷ z ∷ zs) im h)), (λ h. decider_list m (y ∷ z ∷ zs) im (decider_brought es f (y ∷ z ∷ zs) q h)))

  -- ---- members that are dropped
  -- in the type of c, each member that may be dropped is neutral in its list
  pub record Safe (R : ℕ → Bool) (c : ℕ) : Type 0 where
    pub sign : Polarity
    pub neutral : (u : ℕ) (p : Polarity) → Place a c sign u p → (k : Polarity) → tag (at a u) ≡ members k → (d : ℕ) → Mem d (children (at a u)) → is_removable R a d ≡ true → (x : Fin r.marks) → set_of r a d x ≡ in_bound k

  safe_child : {R : ℕ → Bool} {c : ℕ} {t : Tag} (ds : List ℕ) → At a c (node t ds) → Safe R c → (d : ℕ) → Mem d ds → Safe R d
  safe_child {R} {c} {t} ds I S d i =
      let j = index_of i in
      subst (Safe R) j.is (record { sign = child_sign t j.index S.sign; neutral = λ u p q. S.neutral u p (step a c (node t ds) I.is j.index j.inside q) })

  safe_none : (c : ℕ) → Safe no_variable c
  safe_none c = record { sign = positive; neutral = λ u p q k e d i b. absurd (none d b) }
    where
      none : (d : ℕ) → is_removable no_variable a d ≡ true → ⊥
      none d b = elim (removable no_variable a d b) [ variable v e q ↦ true_false (sym q) | negated v e f q ↦ true_false (sym q) ]

  module _ (R : ℕ → Bool) (c : ℕ) (k : Polarity) (ds es : List ℕ) (I : At a c (node (members k) ds)) (S : Safe R c) (q : length es ≡ length (remaining R a ds))
      (h : (i : ℕ) → i < length (remaining R a ds) → set_of r a (get_or es i 0) ≡ set_of r a (get_or (remaining R a ds) i 0)) (inside : Inside a es) where
    -- some of what the remaining members became decides if the list's set says so
    remained_decider : (x : Fin r.marks) → Decider k x es → set_of r a c x ≡ deciding k
    remained_decider x (e, i, p) =
        let j = index_of i in
        let l : j.index < length (remaining R a ds) = omega (arith, j.inside) in
        let d = get_or (remaining R a ds) j.index 0 in
        decider_list k x c ds I (d, remaining_from R a ds d (member_at (remaining R a ds) j.index l), sym (λ i. h j.index l i x) ∙ ap (λ (e : ℕ). set_of r a e x) j.is ∙ p)

    decider_remained : (x : Fin r.marks) → set_of r a c x ≡ deciding k → Decider k x es
    decider_remained x e = let m = list_decider k x c ds I e in go m.0 m.1 m.2 (is_removable R a m.0) refl
      where
        go : (d : ℕ) → Mem d ds → set_of r a d x ≡ deciding k → (b : Bool) → is_removable R a d ≡ b → Decider k x es
        go d i p true b = absurd (not_deciding k (sym (S.neutral c S.sign self k (ap tag I.is) d (subst (λ (y : Node). Mem d (children y)) (sym I.is) i) b x) ∙ p))
        go d i p false b =
            let j = index_of (remaining_onto R a ds d i b) in
            (get_or es j.index 0, member_at es j.index (omega (arith, j.inside)), (λ i. h j.index j.inside i x) ∙ ap (λ (e : ℕ). set_of r a e x) j.is ∙ p)

    list_meaning : (m : ℕ) → Stands a k es m → set_of r a m ≡ set_of r a c
    list_meaning m end = fun_ext (λ x. let H = stood_decider k x es m inside end in same_deciding k (set_of r a m x) (set_of r a c x) (λ e. remained_decider x (H.0 e)) (λ e. H.1 (decider_remained x e)))

    -- nothing is left that could decide: the list's set is neutral, and so is each member's
    emptied_meaning : member_list k a es ≡ Ok [] → (d : ℕ) → Mem d ds → set_of r a d ≡ set_of r a c
    emptied_meaning f d i = fun_ext (λ x.
        same_deciding k (set_of r a d x) (set_of r a c x) (λ w. decider_list k x c ds I (d, i, w)) (λ w. absurd (not-nil (decider_brought k x es inside [] f (decider_remained x w)).1)))

  pub meaning : {R : ℕ → Bool} {c m : ℕ} → Becomes a R c m → Safe R c → set_of r a m ≡ set_of r a c
  meaning {R} {c} {m} (other {t = t} ds es ic n q sub im) S =
      set_at im ∙ ap (set_node r t) (map_each (set_of r a) (set_of r a) es ds q (λ i l. meaning (sub i l) (safe_child ds ic S _ (member_at ds i l)))) ∙ sym (set_at ic)
  meaning {R} {c} {m} (list k ds es ic q sub end) S =
      list_meaning R c k ds es ic S q (λ i l. meaning (sub i l) (safe_child ds ic S _ (remaining_from R a ds _ (member_at (remaining R a ds) i l)))) (all_inside R (remaining R a ds) es (q, sub)) m end
  meaning {R} {c} {m} (emptied k ds es ic p q sub e f first) S =
      meaning first (safe_none (get_or ds 0 0))
      ∙ emptied_meaning R c k ds es ic S q (λ i l. meaning (sub i l) (safe_child ds ic S _ (remaining_from R a ds _ (member_at (remaining R a ds) i l)))) (all_inside R (remaining R a ds) es (q, sub)) f (get_or ds 0 0) (member_at ds 0 p)
