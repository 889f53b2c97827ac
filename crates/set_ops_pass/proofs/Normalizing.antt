-- The definition at one node, and that the cache law holds of it: each of its steps is steady. What the members bring is there, at most 64, and not nothing,
-- since a list has a member and each brings something; so the list that is interned is well formed.
use Prim.Native.Nat.{ℕ, suc, ◌+◌, ◌<◌, ◌≤◌}
use mathlib.Core.Path.{◌≡◌, refl, sym, ap, ◌∙◌, subst}
use mathlib.Core.Bool.{Bool, true, false}
use mathlib.Core.List.Memᴰ.{eq_of_singleton}
use mathlib.Core.List.Memᴰ.{head}
use mathlib.Core.List.Memᴰ.{tail}
use mathlib.Core.List.{List, [], ◌∷◌, Memᴰ as Mem}
use mathlib.Core.Logic.{⊎_elim}
use mathlib.Core.Option.{Option, none, some}
use native.Mathlib.Omega.{arith}
use native.Mathlib.Decide.{ℕ_discrete}
use lib.ListN.{length, get_or}
use Rattle.std.specs.Prelude.{Ok, Err}
use Rattle.types.specs.declared.refusal.Refusal.TheVariants as refusal
use Rattle.types.specs.Out.{Out, ◌>>=◌}
use Rattle.types.specs.Node.{Polarity, Tag, members, Node, node, tag, children, below, formed}
use Rattle.types.specs.Arena.{Arena, at, sound, Ext, here, more}
use Rattle.types.proofs.Lists.{below_at, below_more}
use Rattle.types.proofs.Decodes.{well_parts}
use Rattle.types.proofs.Growth.{ext_tail, ext_length, ext_at, ext_rec, before, rec_at}
use Rattle.types.proofs.Sound.{child_lower}
use Rattle.node_store.specs.Intern.{intern}
use Rattle.recursion.specs.Jobs.{Job, rebuild}
use Rattle.recursion.specs.Inner.Work.{Grown}
use Rattle.recursion.proofs.Answers.{rebuild_same}
use Rattle.recursion.proofs.Members.{index_of, member_at, member_below}
use Rattle.recursion.specs.Theorems.{Steady, There}
use Rattle.recursion.proofs.Steady.{steady_later, steady_as, refusal_steady, answer_steady, then_steady, intern_steady, rebuild_steady, step_well, step_child, rec_steady}
use Rattle.recursion.proofs.Leading.{Lawful, grown_lawful}
use Rattle.simplification.specs.Seen.{same_tag}
use Rattle.simplification.specs.Pass.{first_copies, list_kind}
use Rattle.simplification.proofs.Answers.{same_tag_true, same_tag_false}
use Rattle.simplification.proofs.Copies.{copies}
use Rattle.simplification.proofs.Rebuilding.{formed_list, has_member, list_well}
use Rattle.simplification.proofs.Applying.{list_kind_some}
use Rattle.member_sorting.specs.Sort.{sort}
use Rattle.member_sorting.proofs.Sorted.{sorted, sort_kept, sort_below}
use Rattle.set_op_lists.specs.SetOps.{brings, flatten_set_op, stand_for, set_ops_step, normalize}
use Rattle.set_op_lists.proofs.Bringing.{brings_list, brings_other}
use Rattle.set_op_lists.proofs.Closing.{stand_for_one, stand_for_several}

-- ---- what a member brings is there, and it isn't nothing
record Brought (a : Arena) (xs : List ℕ) : Type 0 where
  pub inside : (x : ℕ) → Mem x xs → x < length a
  pub some : 0 < length xs

brought : (table : ℕ) (a : Arena) → sound table a ≡ true → (k : Polarity) (m : ℕ) → m < length a → Brought a (brings k m (at a m))
brought table a g k m l = go (same_tag (tag (at a m)) (members k)) refl
  where
    go : (b : Bool) → same_tag (tag (at a m)) (members k) ≡ b → Brought a (brings k m (at a m))
    go true e =
        let t = same_tag_true (tag (at a m)) (members k) e in
        subst (Brought a) (sym (brings_list k m (at a m) t)) (record {
          inside = λ x h. let j = index_of h in omega (arith, j.is, child_lower table a g m l j.index j.inside, l);
          some = has_member table a g m l k t;
        })
    go false e =
        subst (Brought a) (sym (brings_other k m (at a m) (same_tag_false (tag (at a m)) (members k) e))) (record {
          inside = λ x h. omega (arith, eq_of_singleton h, l);
          some = omega arith;
        })

-- ---- the flattened list
-- its members are there, 64 at most, and there is one if there should be
pub record Flat (least : ℕ) (l : List ℕ) (a : Arena) : Type 0 where
  pub low : below (length a) l ≡ true
  pub few : length l ≤ 64
  pub some : 0 < least → 0 < length l

flat_later : {least : ℕ} {l : List ℕ} {a b : Arena} → Ext a b → Flat least l a → Flat least l b
flat_later {l = l} {a} {b} x F = record { low = below_more (length a) (length b) l (ext_length a b x) F.low; few = F.few; some = F.some }

flat_more : (table : ℕ) (a : Arena) → sound table a ≡ true → (k : Polarity) (m : ℕ) → m < length a → (least : ℕ) (acc l : List ℕ) → below (length a) acc ≡ true → length acc ≤ 64 → first_copies acc (brings k m (at a m)) ≡ Ok l → Flat (suc least) l a
flat_more table a g k m h least acc l low few e =
    let C = copies acc (brings k m (at a m)) l e in
    let B = brought table a g k m h in
    let x = member_at (brings k m (at a m)) 0 B.some in
    record {
      low = member_below (length a) l (λ y i. ⊎_elim (λ j. let q = index_of j in omega (arith, q.is, below_at (length a) acc low q.index q.inside)) (B.inside y) (C.from y i));
      few = C.few few;
      some = λ z. let q = index_of (C.new (get_or (brings k m (at a m)) 0 0) x) in omega (arith, q.inside);
    }

module _ (table : ℕ) (k : Polarity) (f : ℕ → Job) where
  -- what follows the member m, normalized
  follow : List ℕ → List ℕ → ℕ → Arena → Out (List ℕ × Arena)
  follow acc cs m a = first_copies acc (brings k m (at a m)) >>= λ (l : List ℕ). flatten_set_op k f l cs a

  pub flatten_steady : (least : ℕ) (acc cs : List ℕ) (start : Arena) → below (length start) acc ≡ true → length acc ≤ 64 → (0 < least → 0 < length acc + length cs) → ((c : ℕ) → Mem c cs → Steady table start There (f c)) → Steady table start (Flat least) (flatten_set_op k f acc cs)
  unfolding flatten_set_op follow
  flatten_steady least acc [] start low few p h =
      answer_steady start acc (λ a e. flat_later e (record { low = low; few = few; some = λ z. let q = p z in omega (arith, q) }))
  flatten_steady least acc (c ∷ cs) start low few p h =
      then_steady (f c) (follow acc cs) (h c (head refl))
      (λ m a e g l. go m a e g l (first_copies acc (brings k m (at a m))) refl (λ x. flatten_steady least x cs a))
    where
      kept : (m : ℕ) (a : Arena) → m < length a → {o : Out (List ℕ)} → first_copies acc (brings k m (at a m)) ≡ o → (b : Arena) → Ext a b → follow acc cs m b ≡ (o >>= λ (l : List ℕ). flatten_set_op k f l cs b)
      kept m a l q b x = ap (λ (o : Out (List ℕ)). o >>= λ (l : List ℕ). flatten_set_op k f l cs b) (ap (λ (y : Node). first_copies acc (brings k m y)) (ext_at a b x m l) ∙ q)

      go : (m : ℕ) (a : Arena) → Ext start a → sound table a ≡ true → m < length a → (o : Out (List ℕ)) → first_copies acc (brings k m (at a m)) ≡ o
          → ((x : List ℕ) → below (length a) x ≡ true → length x ≤ 64 → (0 < least → 0 < length x + length cs) → ((d : ℕ) → Mem d cs → Steady table a There (f d)) → Steady table a (Flat least) (flatten_set_op k f x cs)) → Steady table a (Flat least) (follow acc cs m)
      go m a e g l (Ok x) q ih =
          let F = flat_more table a g k m l 0 acc x (below_more (length start) (length a) acc (ext_length start a e) low) few q in
          steady_as (follow acc cs m) (flatten_set_op k f x cs) (kept m a l q) (ih x F.low F.few (λ z. let p = F.some (omega arith) in omega (arith, p)) (λ d i. steady_later e (h d (tail i))))
      go m a e g l (Err n) q ih = steady_as (follow acc cs m) (λ (b : Arena). Err n) (kept m a l q) (refusal_steady n)

-- ---- what stands for it
module _ (words starts table : ℕ) (few : starts ≤ 4096) (k : Polarity) (l : List ℕ) (a : Arena) (F : Flat 1 l a) where
  low_sorted : below (length a) (sort a l) ≡ true
  low_sorted = sort_below a (length a) l F.low

  count_sorted : length (sort a l) ≡ length l
  count_sorted = (sorted a l).count

  -- in a later arena the sort is the same
  closes : (b : Arena) → Ext a b → stand_for words starts k (sort b l) b ≡ stand_for words starts k (sort a l) b
  closes b x = ap (λ (y : List ℕ). stand_for words starts k y b) (sort_kept a b x l F.low)

  closed_steady : Steady table a There (λ (b : Arena). stand_for words starts k (sort b l) b)
  closed_steady = go (ℕ_discrete (length (sort a l)) 1)
    where
      go : Dec (length (sort a l) ≡ 1) → Steady table a There (λ (b : Arena). stand_for words starts k (sort b l) b)
      go (yes e) =
          let m = get_or (sort a l) 0 0 in
          steady_as (λ (b : Arena). stand_for words starts k (sort b l) b) (λ (b : Arena). Ok (m, b)) (λ b x. closes b x ∙ stand_for_one words starts k (sort a l) b e)
          (answer_steady a m (λ b x. let h = below_at (length a) (sort a l) low_sorted 0 (omega (arith, e)) in omega (arith, h, ext_length a b x)))
      go (no f) =
          steady_as (λ (b : Arena). stand_for words starts k (sort b l) b) (intern words starts (node (members k) (sort a l))) (λ b x. closes b x ∙ stand_for_several words starts k (sort a l) b f)
          (intern_steady words starts table few a (node (members k) (sort a l))
          (λ b x h. list_well table (length b) h k (sort a l) (let p = F.some (omega arith) in omega (arith, p, count_sorted)) (omega (arith, F.few, count_sorted)) (below_more (length a) (length b) (sort a l) (ext_length a b x) low_sorted)))

-- ---- one step
module _ (words starts : ℕ) where
  step_other : (s : Arena) (x : Node) (f : ℕ → Job) (a : Arena) → list_kind (tag x) ≡ none → set_ops_step words starts s x f a ≡ rebuild words starts (tag x) (children x) f a
  unfolding set_ops_step
  step_other s x f a e = rw (set_ops_step, e)

  step_list : (s : Arena) (x : Node) (f : ℕ → Job) (a : Arena) (k : Polarity) → list_kind (tag x) ≡ some k
      → set_ops_step words starts s x f a ≡ (flatten_set_op k f [] (children x) a >>= λ (r : List ℕ × Arena). stand_for words starts k (sort r.1 r.0) r.1)
  unfolding set_ops_step
  step_list s x f a k e = rw (set_ops_step, e)

  flatten_same : (k : Polarity) (f g : ℕ → Job) (acc cs : List ℕ) → ((c : ℕ) → Mem c cs → f c ≡ g c) → (a : Arena) → flatten_set_op k f acc cs a ≡ flatten_set_op k g acc cs a
  unfolding flatten_set_op
  flatten_same k f g acc [] h a = refl
  flatten_same k f g acc (c ∷ cs) h a = λ i. h c (head refl) i a >>= λ r. first_copies acc (brings k r.0 (at r.1 r.0)) >>= λ (l : List ℕ). flatten_same k f g l cs (λ d j. h d (tail j)) r.1 i

  module _ (table : ℕ) (u : Arena) (g : sound table u ≡ true) (n : ℕ) (l : n < length u) (b : Arena) where
    at_step : normalize words starts u n b ≡ set_ops_step words starts (before u n l).older (at u n) (normalize words starts (before u n l).older) b
    unfolding normalize
    at_step = λ i. rec_at (set_ops_step words starts) (λ a. Err refusal.NoSuchRoot) u n l i b

    -- the jobs of its children
    jobs : (c : ℕ) → Mem c (children (at u n)) → normalize words starts (before u n l).older c ≡ normalize words starts u c
    unfolding normalize
    jobs c k =
        let B = before u n l in
        let j = index_of k in
        sym (ext_rec (set_ops_step words starts) (λ a. Err refusal.NoSuchRoot) B.older u (ext_tail B.ext) c (omega (arith, j.is, B.count, child_lower table u g n l j.index j.inside)))

    pub at_other : list_kind (tag (at u n)) ≡ none → normalize words starts u n b ≡ rebuild words starts (tag (at u n)) (children (at u n)) (normalize words starts u) b
    at_other e =
        let f = normalize words starts (before u n l).older in
        at_step ∙ step_other (before u n l).older (at u n) f b e ∙ rebuild_same words starts (tag (at u n)) f (normalize words starts u) (children (at u n)) jobs b

    pub at_list : (k : Polarity) → tag (at u n) ≡ members k → normalize words starts u n b ≡ (flatten_set_op k (normalize words starts u) [] (children (at u n)) b >>= λ (r : List ℕ × Arena). stand_for words starts k (sort r.1 r.0) r.1)
    at_list k e =
        let f = normalize words starts (before u n l).older in
        at_step ∙ step_list (before u n l).older (at u n) f b k (ap list_kind e)
        ∙ ap (λ (o : Out (List ℕ × Arena)). o >>= λ (r : List ℕ × Arena). stand_for words starts k (sort r.1 r.0) r.1) (flatten_same k f (normalize words starts u) [] (children (at u n)) jobs b)

  -- ---- steady
  module _ (table : ℕ) (few : starts ≤ 4096) where
    step_steady : (x : Node) (s : Arena) (f : ℕ → Job) → sound table (x ∷ s) ≡ true → ((c : ℕ) → c < length s → (i : Unit {0}) → Steady table s There (f c)) → (i : Unit {0}) → Steady table (x ∷ s) There (set_ops_step words starts s x f)
    unfolding below
    step_steady x s f g h i = go (list_kind (tag x)) refl
      where
        child : (c : ℕ) → Mem c (children x) → Steady table (x ∷ s) There (f c)
        child c k = steady_later (more x here) (h c (step_child table x s g c k) i)

        go : (o : Option Polarity) → list_kind (tag x) ≡ o → Steady table (x ∷ s) There (set_ops_step words starts s x f)
        go none e =
            steady_as (set_ops_step words starts s x f) (rebuild words starts (tag x) (children x) f) (λ b y. step_other s x f b e)
            (rebuild_steady words starts table few (x ∷ s) (length s) (tag x) (children x) f (step_well table x s g) child)
        go (some k) e =
            let w = subst (λ (t : Tag). formed (node t (children x)) ≡ true) (list_kind_some (tag x) k e) (well_parts table (length s) (node (tag x) (children x)) (step_well table x s g)).formed_so in
            steady_as (set_ops_step words starts s x f) (λ (b : Arena). flatten_set_op k f [] (children x) b >>= λ (r : List ℕ × Arena). stand_for words starts k (sort r.1 r.0) r.1) (λ b y. step_list s x f b k e)
            (then_steady (flatten_set_op k f [] (children x)) (λ (l : List ℕ) (b : Arena). stand_for words starts k (sort b l) b) (flatten_steady table k f 1 [] (children x) (x ∷ s) refl (omega arith) (λ _. let q = formed_list k (children x) w in omega (arith, q)) child)
            (λ l a y q F. closed_steady words starts table few k l a F))

    pub normalize_steady : (u : Arena) → sound table u ≡ true → (n : ℕ) → n < length u → Steady table u There (normalize words starts u n)
    unfolding normalize
    normalize_steady u g n l = rec_steady table table (λ (v : Job) (i : Unit {0}). v) (set_ops_step words starts) (λ a. Err refusal.NoSuchRoot) (λ (s : Arena). s) (λ x s. more x here) step_steady u g n l tt

    -- the list that the members of node n make
    pub flat_list : (u : Arena) → sound table u ≡ true → (n : ℕ) → n < length u → (k : Polarity) → tag (at u n) ≡ members k → Steady table u (Flat 1) (flatten_set_op k (normalize words starts u) [] (children (at u n)))
    unfolding below
    flat_list u g n l k e =
        flatten_steady table k (normalize words starts u) 1 [] (children (at u n)) u refl (omega arith) (λ _. let q = has_member table u g n l k e in omega (arith, q))
        (λ c i. let j = index_of i in normalize_steady u g c (omega (arith, j.is, child_lower table u g n l j.index j.inside, l)))

pub lawful : Lawful normalize Grown
lawful = grown_lawful normalize (λ words starts table few u g n l. normalize_steady words starts table few u g n l)
