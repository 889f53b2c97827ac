-- A value that depends on member lists only as sets is the same of a type and of what a finished run makes of it: flattening splices lists of the same kind, first copies
-- and the sort keep which members there are, a single member has its list's value, and a grown arena keeps the values of its nodes.
use Prim.Native.Nat.{ℕ, zero, suc, ◌<◌, ◌≤◌}
use mathlib.Core.Path.{◌≡◌, refl, sym, ap, ap₂, ◌∙◌, subst}
use mathlib.Core.Bool.{Bool, true, false}
use mathlib.Core.List.Memᴰ
use mathlib.Core.List.{List, [], ◌∷◌, ◌++◌, map, append-nil, append_assoc, map-append}
use mathlib.Core.List.Memᴰ.{cases_cons}
use mathlib.Core.List.Memᴰ.{eq_of_singleton}
use mathlib.Core.List.Memᴰ.{head}
use mathlib.Core.List.Memᴰ.{not-nil}
use mathlib.Core.List.Memᴰ.{tail}
use mathlib.Core.List.{Memᴰ as Mem}
use mathlib.Core.List.Memᴰ.{append_cases}
use mathlib.Core.List.Memᴰ.{append_left}
use mathlib.Core.List.Memᴰ.{append_right}
use mathlib.Core.Logic.{⊎_elim}
use mathlib.Core.Option.{Option, none, some}
use native.Mathlib.Omega.{arith}
use native.Mathlib.Nat.{not-suc-le-zero}
use native.Mathlib.Decide.{ℕ_discrete}
use lib.ListN.{length, get_or}
use Rattle.std.specs.Prelude.{Ok}
use Rattle.types.specs.Out.{◌>>=◌}
use Rattle.types.specs.Node.{Polarity, Tag, members, Node, node, tag, children}
use Rattle.types.specs.Arena.{Arena, at, fold, sound, Ext, here}
use Rattle.types.proofs.Growth.{ext_trans, ext_length}
use Rattle.types.proofs.Sound.{child_lower, map_below, fold_at, ext_fold}
use Rattle.node_store.specs.Intern.{intern}
use Rattle.node_store.proofs.Interning.{Done, done, done_ext, done_at}
use Rattle.recursion.specs.Jobs.{each, rebuild}
use Rattle.recursion.proofs.Answers.{ok_same, bind_parts}
use Rattle.recursion.proofs.Members.{index_of, member_below}
use Rattle.simplification.specs.Seen.{same_tag}
use Rattle.simplification.specs.Pass.{first_copies, list_kind}
use Rattle.simplification.proofs.Answers.{same_tag_true, same_tag_false}
use Rattle.simplification.proofs.Copies.{Copies, copies}
use Rattle.simplification.proofs.Applying.{list_kind_some}
use Rattle.member_sorting.specs.Sort.{sort}
use Rattle.member_sorting.proofs.Sorted.{sorted}
use Rattle.set_op_lists.specs.SetOps.{brings, flatten_set_op, stand_for, normalize, normalize_set_ops}
use Rattle.set_op_lists.proofs.Bringing.{brings_list, brings_other}
use Rattle.set_op_lists.proofs.Closing.{stand_for_one, stand_for_several}
use Rattle.set_ops_pass.proofs.Normalizing.{at_list, at_other, normalize_steady}
use Rattle.set_ops.specs.Theorems.{ByMembers, NormalizedFold}

-- ---- members of lists
abbrev Within : {Y : Type 0} → List Y → List Y → Type 0
Within {Y} xs ys = (y : Y) → Mem y xs → Mem y ys

module _ {Y : Type 0} where
  map_within : (f : ℕ → Y) (xs ys : List ℕ) → Within xs ys → Within (map f xs) (map f ys)
  map_within f xs ys h y i = let r = Memᴰ.of_map f xs i in Memᴰ.cast (sym r.2) (Memᴰ.map f (h r.0 r.1))

  append_within : (xs ys zs : List Y) → Within xs ys → Within (xs ++ zs) (ys ++ zs)
  append_within xs ys zs h y i = ⊎_elim (λ j. append_left zs (h y j)) (append_right ys) (append_cases xs i)

  -- the first may stand further on
  later : (x : Y) (xs ys : List Y) → Within (x ∷ (xs ++ ys)) (xs ++ (x ∷ ys))
  later x xs ys y i = ⊎_elim (λ e. append_right xs (head e)) (λ j. ⊎_elim (append_left (x ∷ ys)) (λ k. append_right xs (tail k)) (append_cases xs j)) (cases_cons i)

  earlier : (x : Y) (xs ys : List Y) → Within (xs ++ (x ∷ ys)) (x ∷ (xs ++ ys))
  earlier x xs ys y i = ⊎_elim (λ j. tail (append_left ys j)) (λ j. ⊎_elim head (λ k. tail (append_right xs k)) (cases_cons j)) (append_cases xs i)

single : (xs : List ℕ) → length xs ≡ 1 → xs ≡ get_or xs 0 0 ∷ []
single [] e = absurd (omega arith)
single (x ∷ []) e = refl
single (x ∷ y ∷ xs) e = absurd (omega arith)

abbrev Low : Arena → List ℕ → Type 0
Low a xs = (x : ℕ) → Mem x xs → x < length a

module _ {Y : Type 0} (value : Tag → List Y → Y) where
  -- ---- values in a grown arena
  values_kept : (a b : Arena) → Ext a b → (xs : List ℕ) → Low a xs → map (fold value b) xs ≡ map (fold value a) xs
  values_kept a b x xs l = map_below (fold value b) (fold value a) (length a) xs (member_below (length a) xs l) (ext_fold value a b x)

  -- a node that was interned has the value of its tag over the values its children had
  interned_value : (table : ℕ) {words starts : ℕ} {t : Tag} {xs : List ℕ} {a b : Arena} {m : ℕ} → Done words starts (node t xs) a m b → sound table b ≡ true → Low a xs → fold value b m ≡ value t (map (fold value a) xs)
  interned_value table {t = t} {xs = xs} {a} {b} {m} D s l =
      let y = done_at D in
      fold_at value table b s m y.0 ∙ ap (λ (z : Node). value (tag z) (map (fold value b) (children z))) y.1 ∙ ap (value t) (values_kept a b (done_ext D) xs l)

module _ {Y : Type 0} (value : Tag → List Y → Y) (M : ByMembers value) (table : ℕ) (a : Arena) (g : sound table a ≡ true) (k : Polarity) where
  -- ---- what member m brings has its value in a list of kind k
  record Brought (m : ℕ) (xs : List ℕ) : Type 0 where
    pub low : Low a xs
    pub is : (ys : List Y) → value (members k) (map (fold value a) xs ++ ys) ≡ value (members k) (fold value a m ∷ ys)

  brought : (m : ℕ) → m < length a → Brought m (brings k m (at a m))
  brought m l = go (same_tag (tag (at a m)) (members k)) refl
    where
      go : (b : Bool) → same_tag (tag (at a m)) (members k) ≡ b → Brought m (brings k m (at a m))
      go true e =
          let t = same_tag_true (tag (at a m)) (members k) e in
          subst (Brought m) (sym (brings_list k m (at a m) t)) (record {
            low = λ x i. let j = index_of i in omega (arith, j.is, child_lower table a g m l j.index j.inside, l);
            is = λ ys. sym (ap (λ (y : Y). value (members k) (y ∷ ys)) (fold_at value table a g m l ∙ ap (λ (z : Tag). value z (map (fold value a) (children (at a m)))) t) ∙ M.spliced k (map (fold value a) (children (at a m))) ys);
          })
      go false e =
          subst (Brought m) (sym (brings_other k m (at a m) (same_tag_false (tag (at a m)) (members k) e))) (record {
            low = λ x i. omega (arith, eq_of_singleton i, l);
            is = λ ys. refl;
          })

  -- the list so far and what is brought, each once
  module _ {m : ℕ} {acc xs l : List ℕ} (B : Brought m xs) (C : Copies acc xs l) where
    copied_low : Low a acc → Low a l
    copied_low h x i = ⊎_elim (h x) (B.low x) (C.from x i)

    copied_value : (ys : List Y) → value (members k) (map (fold value a) l ++ ys) ≡ value (members k) (map (fold value a) acc ++ (fold value a m ∷ ys))
    copied_value ys =
        let f = fold value a in
        M.same k (map f l ++ ys) (map f (xs ++ acc) ++ ys)
        (append_within (map f l) (map f (xs ++ acc)) ys (map_within f l (xs ++ acc) (λ x i. ⊎_elim (append_right xs) (append_left acc) (C.from x i))))
        (append_within (map f (xs ++ acc)) (map f l) ys (map_within f (xs ++ acc) l (λ x i. ⊎_elim (C.new x) (C.old x) (append_cases xs i))))
        ∙ ap (λ (zs : List Y). value (members k) (zs ++ ys)) (map-append f xs acc) ∙ ap (value (members k)) (append_assoc (map f xs) (map f acc) ys)
        ∙ B.is (map f acc ++ ys)
        ∙ M.same k (f m ∷ (map f acc ++ ys)) (map f acc ++ (f m ∷ ys)) (later (f m) (map f acc) ys) (earlier (f m) (map f acc) ys)

-- ---- the run
module _ {Y : Type 0} (value : Tag → List Y → Y) (M : ByMembers value) (words starts table : ℕ) (few : starts ≤ 4096) (u : Arena) (g : sound table u ≡ true) where
  -- node c became m, which has its value
  record Became (c : ℕ) (a : Arena) (m : ℕ) (b : Arena) : Type 0 where
    pub ext : Ext a b
    pub good : sound table b ≡ true
    pub inside : m < length b
    pub is : fold value b m ≡ fold value u c

  abbrev Becomes : ℕ → Type 0
  Becomes c = (a b : Arena) (m : ℕ) → Ext u a → sound table a ≡ true → normalize words starts u c a ≡ Ok (m, b) → Became c a m b

  -- several in turn
  record BecameAll (cs : List ℕ) (a : Arena) (ms : List ℕ) (b : Arena) : Type 0 where
    pub ext : Ext a b
    pub low : Low b ms
    pub is : map (fold value b) ms ≡ map (fold value u) cs

  became_more : {c m : ℕ} {cs ms : List ℕ} {a d b : Arena} → Became c a m d → BecameAll cs d ms b → BecameAll (c ∷ cs) a (m ∷ ms) b
  became_more {m = m} {d = d} {b = b} R S = record {
    ext = ext_trans R.ext S.ext;
    low = λ x i. ⊎_elim (λ e. omega (arith, e, R.inside, ext_length d b S.ext)) (S.low x) (cases_cons i);
    is = ap₂ ◌∷◌ (ext_fold value d b S.ext m R.inside ∙ R.is) S.is;
  }

  each_becomes : (cs : List ℕ) → ((c : ℕ) → Mem c cs → Becomes c) → (a b : Arena) (ms : List ℕ) → Ext u a → sound table a ≡ true → each (normalize words starts u) cs a ≡ Ok (ms, b) → BecameAll cs a ms b
  unfolding each
  each_becomes [] h a b ms x s e = subst (λ (v : List ℕ × Arena). BecameAll [] a v.0 v.1) (ok_same e) (record { ext = here; low = λ y i. absurd (not-nil i); is = refl })
  each_becomes (c ∷ cs) h a b ms x s e =
      let p = bind_parts (normalize words starts u c a) _ e in
      let q = bind_parts (each (normalize words starts u) cs p.0.1) _ p.2 in
      let R = h c (head refl) a p.0.1 p.0.0 x s p.1 in
      let S = each_becomes cs (λ d i. h d (tail i)) p.0.1 q.0.1 q.0.0 (ext_trans x R.ext) R.good q.1 in
      subst (λ (v : List ℕ × Arena). BecameAll (c ∷ cs) a v.0 v.1) (ok_same q.2) (became_more R S)

  -- the members of a list, with those so far
  record Flattened (k : Polarity) (acc cs : List ℕ) (a : Arena) (l : List ℕ) (b : Arena) : Type 0 where
    pub low : Low b l
    pub is : value (members k) (map (fold value b) l) ≡ value (members k) (map (fold value a) acc ++ map (fold value u) cs)

  flatten_becomes : (k : Polarity) (cs : List ℕ) → ((c : ℕ) → Mem c cs → Becomes c) → (acc : List ℕ) (a b : Arena) (l : List ℕ) → Ext u a → sound table a ≡ true → Low a acc → flatten_set_op k (normalize words starts u) acc cs a ≡ Ok (l, b) → Flattened k acc cs a l b
  unfolding flatten_set_op
  flatten_becomes k [] h acc a b l x s low e = subst (λ (v : List ℕ × Arena). Flattened k acc [] a v.0 v.1) (ok_same e) (record { low = low; is = ap (value (members k)) (sym (append-nil (map (fold value a) acc))) })
  flatten_becomes k (c ∷ cs) h acc a b l x s low e =
      let f = normalize words starts u in
      let p = bind_parts (f c a) (λ r. first_copies acc (brings k r.0 (at r.1 r.0)) >>= λ (l : List ℕ). flatten_set_op k f l cs r.1) e in
      let m = p.0.0 in
      let d = p.0.1 in
      let q = bind_parts (first_copies acc (brings k m (at d m))) (λ (l : List ℕ). flatten_set_op k f l cs d) p.2 in
      let R = h c (head refl) a d m x s p.1 in
      let B = brought value M table d R.good k m R.inside in
      let C = copies acc (brings k m (at d m)) q.0 q.1 in
      let kept : Low d acc = λ y i. omega (arith, low y i, ext_length a d R.ext) in
      let T = flatten_becomes k cs (λ y i. h y (tail i)) q.0 d b l (ext_trans x R.ext) R.good (copied_low value M table d R.good k B C kept) q.2 in
      record {
        low = T.low;
        is = T.is ∙ copied_value value M table d R.good k B C (map (fold value u) cs)
            ∙ ap₂ (λ (ys : List Y) (y : Y). value (members k) (ys ++ (y ∷ map (fold value u) cs))) (values_kept value a d R.ext acc low) R.is;
      }

  -- what stands for it
  close_value : (k : Polarity) (l : List ℕ) (b : Arena) → Low b l → (m : ℕ) (d : Arena) → sound table d ≡ true → stand_for words starts k (sort b l) b ≡ Ok (m, d) → fold value d m ≡ value (members k) (map (fold value b) l)
  close_value k l b low m d s e =
      go (ℕ_discrete (length (sort b l)) 1)
      ∙ M.same k (map f (sort b l)) (map f l) (map_within f (sort b l) l (sorted b l).from) (map_within f l (sort b l) (sorted b l).onto)
    where
      f : ℕ → Y
      f = fold value b

      go : Dec (length (sort b l) ≡ 1) → fold value d m ≡ value (members k) (map f (sort b l))
      go (yes q) =
          sym (ap (λ (v : ℕ × Arena). fold value v.1 v.0) (ok_same (sym (stand_for_one words starts k (sort b l) b q) ∙ e)))
          ∙ sym (M.one k (f (get_or (sort b l) 0 0))) ∙ ap (λ (xs : List ℕ). value (members k) (map f xs)) (sym (single (sort b l) q))
      go (no h) =
          interned_value value table (done words starts (node (members k) (sort b l)) b m d (sym (stand_for_several words starts k (sort b l) b h) ∙ e)) s (λ x i. low x ((sorted b l).from x i))

  node_becomes : (n : ℕ) → n < length u → ((c : ℕ) → Mem c (children (at u n)) → Becomes c) → Becomes n
  unfolding rebuild
  node_becomes n l h a b m x s e =
      let F = (normalize_steady words starts table few u g n l).is a b m x s e in
      record { ext = F.ext; good = F.good; inside = F.inside; is = go F.good (list_kind (tag (at u n))) refl ∙ sym (fold_at value table u g n l) }
    where
      cs : List ℕ
      cs = children (at u n)

      go : sound table b ≡ true → (o : Option Polarity) → list_kind (tag (at u n)) ≡ o → fold value b m ≡ value (tag (at u n)) (map (fold value u) cs)
      go r none q =
          let p = bind_parts (each (normalize words starts u) cs a) (λ r. intern words starts (node (tag (at u n)) r.0) r.1) (sym (at_other words starts table u g n l a q) ∙ e) in
          let R = each_becomes cs h a p.0.1 p.0.0 x s p.1 in
          interned_value value table (done words starts (node (tag (at u n)) p.0.0) p.0.1 m b p.2) r R.low ∙ ap (value (tag (at u n))) R.is
      go r (some k) q =
          let t = list_kind_some (tag (at u n)) k q in
          let p = bind_parts (flatten_set_op k (normalize words starts u) [] cs a) (λ (r : List ℕ × Arena). stand_for words starts k (sort r.1 r.0) r.1) (sym (at_list words starts table u g n l a k t) ∙ e) in
          let F = flatten_becomes k cs h [] a p.0.1 p.0.0 x s (λ y i. absurd (not-nil i)) p.1 in
          close_value k p.0.0 p.0.1 F.low m b r p.2 ∙ F.is ∙ ap (λ (z : Tag). value z (map (fold value u) cs)) (sym t)

  below_becomes : (most n : ℕ) → n < most → n < length u → Becomes n
  below_becomes zero n k l = absurd (not-suc-le-zero k)
  below_becomes (suc most) n k l =
      node_becomes n l (λ c i.
      let j = index_of i in
      let z = child_lower table u g n l j.index j.inside in
      below_becomes most c (omega (arith, z, j.is, k)) (omega (arith, z, j.is, l)))

-- a value that depends on member lists only as sets is kept by `normalize_set_ops`
pub normalized_fold : {Y : Type 0} (value : Tag → List Y → Y) → NormalizedFold value
unfolding normalize_set_ops
normalized_fold value M words starts table a root m b N = (below_becomes value M words starts table N.few a N.good (suc root) root (omega arith) N.inside a b m here N.good N.run).is
