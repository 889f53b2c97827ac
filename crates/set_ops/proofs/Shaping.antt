-- In the type that a finished run gives, each list has two members or more, all different, and none of its own kind. What the members bring is so before the list
-- is sorted and interned, and what was so in an arena stays so as it grows.
use Prim.Native.Nat.{ℕ, zero, suc, ◌<◌, ◌≤◌}
use mathlib.Core.Path.{◌≡◌, refl, sym, ap, ◌∙◌, subst}
use mathlib.Core.Bool.{Bool, true, false}
use mathlib.Core.List.Memᴰ.{cases_cons}
use mathlib.Core.List.Memᴰ.{eq_of_singleton}
use mathlib.Core.List.Memᴰ.{head}
use mathlib.Core.List.Memᴰ.{not-nil}
use mathlib.Core.List.Memᴰ.{tail}
use mathlib.Core.List.{List, [], ◌∷◌, Memᴰ as Mem}
use mathlib.Core.Logic.{⊎_elim}
use mathlib.Core.Option.{Option, none, some}
use native.Mathlib.Omega.{arith}
use native.Mathlib.Nat.{not-suc-le-zero}
use native.Mathlib.Decide.{ℕ_discrete}
use lib.ListN.{length, get_or}
use Rattle.std.specs.Prelude.{Ok}
use Rattle.types.specs.Out.{◌>>=◌}
use Rattle.types.specs.Node.{Polarity, Tag, members, Node, node, tag, children}
use Rattle.types.specs.Arena.{Arena, at, sound, Ext, here}
use Rattle.types.proofs.Growth.{ext_trans, ext_length, ext_at}
use Rattle.types.proofs.Sound.{child_lower}
use Rattle.node_store.specs.Intern.{intern}
use Rattle.node_store.proofs.Interning.{done, done_ext, done_at}
use Rattle.recursion.specs.Jobs.{each, rebuild}
use Rattle.recursion.proofs.Answers.{ok_same, bind_parts}
use Rattle.recursion.proofs.Members.{index_of, member_at}
use Rattle.recursion.specs.Theorems.{There, Finished}
use Rattle.simplification.specs.Seen.{same_tag}
use Rattle.simplification.specs.Pass.{first_copies, list_kind}
use Rattle.simplification.proofs.Answers.{same_tag_true, same_tag_false}
use Rattle.simplification.proofs.Copies.{Different, copies}
use Rattle.simplification.proofs.Applying.{list_kind_some}
use Rattle.member_sorting.specs.Sort.{sort}
use Rattle.member_sorting.specs.Theorems.{Inserted, Arranged}
use Rattle.member_sorting.specs.Theorems as arrangement
use Rattle.member_sorting.proofs.Sorted.{sorted}
use Rattle.set_op_lists.specs.SetOps.{brings, flatten_set_op, stand_for, normalize, normalize_set_ops}
use Rattle.set_op_lists.proofs.Bringing.{brings_list, brings_other}
use Rattle.set_op_lists.proofs.Closing.{stand_for_one, stand_for_several}
use Rattle.set_ops.specs.Theorems.{Distinct, empty, several, NeatList, Neat, neat, NormalizedNeat}
use Rattle.set_ops_pass.proofs.Normalizing.{at_list, at_other, normalize_steady, flat_list}

-- ---- lists without repeats
distinct : (xs : List ℕ) → Different xs → Distinct xs
distinct [] d = empty
distinct (x ∷ xs) d =
    several {xs = xs} (λ h. let j = index_of h in d 0 (suc j.index) (omega arith) (omega (arith, j.inside)) (sym j.is)) (distinct xs (λ i j l k e. d (suc i) (suc j) (omega (arith, l)) (omega (arith, k)) e))

apart : {m x : ℕ} {xs ys : List ℕ} → Inserted m xs ys → (x ≡ m → ⊥) → (Mem x xs → ⊥) → Mem x ys → ⊥
apart arrangement.here f g i = ⊎_elim f g (cases_cons i)
apart (arrangement.later h) f g i = ⊎_elim (λ e. g (head e)) (apart h f (λ k. g (tail k))) (cases_cons i)

inserted_distinct : {m : ℕ} {xs ys : List ℕ} → Inserted m xs ys → (Mem m xs → ⊥) → Distinct xs → Distinct ys
inserted_distinct arrangement.here f d = several f d
inserted_distinct (arrangement.later h) f (several g d) = several (apart h (λ e. f (head (sym e))) g) (inserted_distinct h (λ k. f (tail k)) d)

arranged_distinct : {xs ms l : List ℕ} → Arranged xs ms l → Distinct xs → Distinct ms → ((x : ℕ) → Mem x ms → Mem x xs → ⊥) → Distinct l
arranged_distinct arrangement.none d e f = d
arranged_distinct (arrangement.one {m} h k) d (several {xs = ms} g e) f =
    arranged_distinct k (inserted_distinct h (f m (head refl)) d) e (λ x i. apart h (λ q. g (subst (λ (y : ℕ). Mem y ms) q i)) (f x (tail i)))

-- ---- neat types
module _ (table : ℕ) (a : Arena) (g : sound table a ≡ true) where
  child_low : {m : ℕ} → m < length a → (c : ℕ) → Mem c (children (at a m)) → c < length a
  child_low {m} l c i = let j = index_of i in omega (arith, j.is, child_lower table a g m l j.index j.inside, l)

  module _ (b : Arena) (x : Ext a b) where
    neat_kept : {m : ℕ} → Neat a m → m < length a → Neat b m
    neat_kept {m} (neat f h) l =
        let e = ext_at a b x m l in
        neat (λ c i. let j = subst (λ (y : Node). Mem c (children y)) e i in neat_kept (f c j) (child_low l c j))
        (λ k t.
        let L = h k (ap tag (sym e) ∙ t) in
        subst (λ (y : Node). NeatList b k (children y)) (sym e)
        (record { two = L.two; different = L.different; no_own_kind = λ c i q. L.no_own_kind c i (ap tag (sym (ext_at a b x c (child_low l c i))) ∙ q) }))

-- what a list of kind k may have as a member
record Member (a : Arena) (k : Polarity) (x : ℕ) : Type 0 where
  pub low : x < length a
  pub neat : Neat a x
  pub other : tag (at a x) ≡ members k → ⊥

module _ (table : ℕ) (a : Arena) (g : sound table a ≡ true) (k : Polarity) where
  member_kept : (b : Arena) → Ext a b → {x : ℕ} → Member a k x → Member b k x
  member_kept b y {x} M = record { low = omega (arith, M.low, ext_length a b y); neat = neat_kept table a g b y M.neat M.low; other = λ t. M.other (ap tag (sym (ext_at a b y x M.low)) ∙ t) }

  brought : (m : ℕ) → m < length a → Neat a m → (x : ℕ) → Mem x (brings k m (at a m)) → Member a k x
  brought m l (neat f h) x i = go (same_tag (tag (at a m)) (members k)) refl
    where
      go : (b : Bool) → same_tag (tag (at a m)) (members k) ≡ b → Member a k x
      go true e =
          let t = same_tag_true (tag (at a m)) (members k) e in
          let j = subst (Mem x) (brings_list k m (at a m) t) i in
          record { low = child_low table a g l x j; neat = f x j; other = (h k t).no_own_kind x j }
      go false e =
          let t = same_tag_false (tag (at a m)) (members k) e in
          subst (Member a k) (sym (eq_of_singleton (subst (Mem x) (brings_other k m (at a m) t) i))) (record { low = l; neat = neat f h; other = t })

-- ---- the run
module _ (words starts table : ℕ) (few : starts ≤ 4096) (u : Arena) (g : sound table u ≡ true) where
  -- what node c becomes is neat
  NeatAt : ℕ → Type 0
  NeatAt c = (a b : Arena) (m : ℕ) → Ext u a → sound table a ≡ true → normalize words starts u c a ≡ Ok (m, b) → Neat b m

  record Ready (c : ℕ) : Type 0 where
    pub low : c < length u
    pub neat : NeatAt c

  step : {c : ℕ} → Ready c → (a b : Arena) (m : ℕ) → Ext u a → sound table a ≡ true → normalize words starts u c a ≡ Ok (m, b) → Finished table There (normalize words starts u c) a m b
  step {c} R a b m x h e = (normalize_steady words starts table few u g c R.low).is a b m x h e

  -- the children of a node that is no list
  record Rebuilt (a : Arena) (ms : List ℕ) (b : Arena) : Type 0 where
    pub ext : Ext a b
    pub good : sound table b ≡ true
    pub low : (x : ℕ) → Mem x ms → x < length b
    pub all : (x : ℕ) → Mem x ms → Neat b x

  each_neat : (cs : List ℕ) → ((c : ℕ) → Mem c cs → Ready c) → (a b : Arena) (ms : List ℕ) → Ext u a → sound table a ≡ true → each (normalize words starts u) cs a ≡ Ok (ms, b) → Rebuilt a ms b
  unfolding each NeatAt
  each_neat [] h a b ms x s e =
      subst (λ (v : List ℕ × Arena). Rebuilt a v.0 v.1) (ok_same e) (record { ext = here; good = s; low = λ y i. absurd (not-nil i); all = λ y i. absurd (not-nil i) })
  each_neat (c ∷ cs) h a b ms x s e =
      let f = normalize words starts u in
      let p = bind_parts (f c a) (λ r. each f cs r.1 >>= λ q. Ok (r.0 ∷ q.0, q.1)) e in
      let q = bind_parts (each f cs p.0.1) (λ q. Ok (p.0.0 ∷ q.0, q.1)) p.2 in
      let F = step (h c (head refl)) a p.0.1 p.0.0 x s p.1 in
      let N = (h c (head refl)).neat a p.0.1 p.0.0 x s p.1 in
      let T = each_neat cs (λ d i. h d (tail i)) p.0.1 q.0.1 q.0.0 (ext_trans x F.ext) F.good q.1 in
      subst (λ (v : List ℕ × Arena). Rebuilt a v.0 v.1) (ok_same q.2) (joined p.0.0 p.0.1 q.0.0 q.0.1 F N T)
    where
      joined : (m : ℕ) (d : Arena) (ns : List ℕ) (b : Arena) → Finished table There (normalize words starts u c) a m d → Neat d m → Rebuilt d ns b → Rebuilt a (m ∷ ns) b
      joined m d ns b F N T = record {
        ext = ext_trans F.ext T.ext;
        good = T.good;
        low = λ y i. ⊎_elim (λ z. omega (arith, z, F.inside, ext_length d b T.ext)) (T.low y) (cases_cons i);
        all = λ y i. ⊎_elim (λ z. subst (Neat b) (sym z) (neat_kept table d F.good b T.ext N F.inside)) (T.all y) (cases_cons i);
      }

  -- the members of a list
  record Flattened (k : Polarity) (a : Arena) (l : List ℕ) (b : Arena) : Type 0 where
    pub ext : Ext a b
    pub good : sound table b ≡ true
    pub different : Different l
    pub all : (x : ℕ) → Mem x l → Member b k x

  flatten_neat : (k : Polarity) (cs : List ℕ) → ((c : ℕ) → Mem c cs → Ready c) → (acc : List ℕ) (a b : Arena) (l : List ℕ) → Ext u a → sound table a ≡ true → Different acc → ((x : ℕ) → Mem x acc → Member a k x)
      → flatten_set_op k (normalize words starts u) acc cs a ≡ Ok (l, b) → Flattened k a l b
  unfolding flatten_set_op NeatAt
  flatten_neat k [] h acc a b l x s D M e = subst (λ (v : List ℕ × Arena). Flattened k a v.0 v.1) (ok_same e) (record { ext = here; good = s; different = D; all = M })
  flatten_neat k (c ∷ cs) h acc a b l x s D M e =
      let f = normalize words starts u in
      let p = bind_parts (f c a) (λ r. first_copies acc (brings k r.0 (at r.1 r.0)) >>= λ (l : List ℕ). flatten_set_op k f l cs r.1) e in
      let m = p.0.0 in
      let d = p.0.1 in
      let q = bind_parts (first_copies acc (brings k m (at d m))) (λ (l : List ℕ). flatten_set_op k f l cs d) p.2 in
      let F = step (h c (head refl)) a d m x s p.1 in
      let N = (h c (head refl)).neat a d m x s p.1 in
      let C = copies acc (brings k m (at d m)) q.0 q.1 in
      let T = flatten_neat k cs (λ y i. h y (tail i)) q.0 d b l (ext_trans x F.ext) F.good (C.different D)
      (λ y i. ⊎_elim (λ j. member_kept table a s k d F.ext (M y j)) (brought table d F.good k m F.inside N y) (C.from y i)) q.2 in
      record { ext = ext_trans F.ext T.ext; good = T.good; different = T.different; all = T.all }

  close_neat : (k : Polarity) (a : Arena) (l : List ℕ) (b : Arena) → Flattened k a l b → 0 < length l → (m : ℕ) (d : Arena) → stand_for words starts k (sort b l) b ≡ Ok (m, d) → Neat d m
  close_neat k a l b F p m d e = go (ℕ_discrete (length (sort b l)) 1)
    where
      go : Dec (length (sort b l) ≡ 1) → Neat d m
      go (yes q) =
          let M = F.all (get_or (sort b l) 0 0) ((sorted b l).from (get_or (sort b l) 0 0) (member_at (sort b l) 0 (omega (arith, q)))) in
          subst (λ (v : ℕ × Arena). Neat v.1 v.0) (ok_same (sym (stand_for_one words starts k (sort b l) b q) ∙ e)) M.neat
      go (no f) =
          let D = done words starts (node (members k) (sort b l)) b m d (sym (stand_for_several words starts k (sort b l) b f) ∙ e) in
          let x = (done_at D).1 in
          let y = done_ext D in
          let M : (c : ℕ) → Mem c (sort b l) → Member d k c = λ c i. member_kept table b F.good k d y (F.all c ((sorted b l).from c i)) in
          neat (λ c i. (M c (subst (λ (z : Node). Mem c (children z)) x i)).neat)
          (λ j t.
          let same : members j ≡ members k = sym t ∙ ap tag x in
          let s : k ≡ j = cc in
          subst (λ (z : Polarity). NeatList d z (children (at d m))) s (subst (λ (z : Node). NeatList d k (children z)) (sym x)
          (record {
            two = let n = (sorted b l).count in let h : length (sort b l) ≡ 1 → ⊥ = f in omega (arith, n, h, p);
            different = arranged_distinct (sorted b l).arranged empty (distinct l F.different) (λ c i j. absurd (not-nil j));
            no_own_kind = λ c i. (M c i).other;
          })))

  no_list : (t : Tag) (k : Polarity) → list_kind t ≡ none → t ≡ members k → ⊥
  no_list t k e q = let z : ◌≡◌ {A = Option Polarity} none (some k) = sym e ∙ ap list_kind q in let y : ◌≡◌ {A = ℕ} 0 1 = cc in omega (arith, y)

  node_neat : (n : ℕ) → n < length u → ((c : ℕ) → Mem c (children (at u n)) → Ready c) → NeatAt n
  unfolding NeatAt rebuild
  node_neat n l h a b m x s e = go (list_kind (tag (at u n))) refl
    where
      go : (o : Option Polarity) → list_kind (tag (at u n)) ≡ o → Neat b m
      go none q =
          let p = bind_parts (each (normalize words starts u) (children (at u n)) a) (λ r. intern words starts (node (tag (at u n)) r.0) r.1) (sym (at_other words starts table u g n l a q) ∙ e) in
          let R = each_neat (children (at u n)) h a p.0.1 p.0.0 x s p.1 in
          let D = done words starts (node (tag (at u n)) p.0.0) p.0.1 m b p.2 in
          let y = (done_at D).1 in
          neat (λ c i. let j = subst (λ (z : Node). Mem c (children z)) y i in neat_kept table p.0.1 R.good b (done_ext D) (R.all c j) (R.low c j))
          (λ k t. absurd (no_list (tag (at u n)) k q (sym (ap tag y) ∙ t)))
      go (some k) q =
          let t = list_kind_some (tag (at u n)) k q in
          let p = bind_parts (flatten_set_op k (normalize words starts u) [] (children (at u n)) a) (λ (r : List ℕ × Arena). stand_for words starts k (sort r.1 r.0) r.1) (sym (at_list words starts table u g n l a k t) ∙ e) in
          let F = flatten_neat k (children (at u n)) h [] a p.0.1 p.0.0 x s (λ i j z y. absurd (not-suc-le-zero y)) (λ y i. absurd (not-nil i)) p.1 in
          let L = (flat_list words starts table few u g n l k t).is a p.0.1 p.0.0 x s p.1 in
          close_neat k a p.0.0 p.0.1 F (L.inside.some (omega arith)) m b p.2

  below_neat : (most n : ℕ) → n < most → n < length u → NeatAt n
  below_neat zero n k l = absurd (not-suc-le-zero k)
  below_neat (suc most) n k l =
      node_neat n l (λ c i.
      let j = index_of i in
      let z = child_lower table u g n l j.index j.inside in
      record { low = omega (arith, z, j.is, l); neat = below_neat most c (omega (arith, z, j.is, k)) (omega (arith, z, j.is, l)) })

-- the type that `normalize_set_ops` gives is neat
pub normalized_neat : NormalizedNeat
unfolding normalize_set_ops NeatAt
normalized_neat words starts table few a g root l m b e = below_neat words starts table few a g (suc root) root (omega arith) l a b m here g e
