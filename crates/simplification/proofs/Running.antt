-- What `apply` answers is what the node becomes, in the arena that it leaves: that arena grew from the present one and is sound.
use Prim.Native.Nat.{ℕ, zero, suc, ◌<◌, ◌≤◌}
use mathlib.Core.Path.{◌≡◌, refl, sym, ap, ◌∙◌, subst}
use mathlib.Core.Bool.{Bool, true, false}
use mathlib.Core.List.Memᴰ.{head}
use mathlib.Core.List.Memᴰ.{tail}
use mathlib.Core.List.{List, [], ◌∷◌, Memᴰ as Mem}
use mathlib.Core.Option.{Option, none, some}
use native.Mathlib.Omega.{arith}
use native.Mathlib.Nat.{le_of_suc-le-suc}
use lib.ListN.{length, get_or}
use Rattle.std.specs.Prelude.{Ok}
use Rattle.types.specs.Out.{◌>>=◌}
use Rattle.types.specs.Node.{Polarity, Tag, members, bound, Node, node, tag, children, well}
use Rattle.types.specs.Arena.{Arena, at, sound, Ext, here}
use Rattle.types.specs.Places.{opposite}
use Rattle.types.proofs.Growth.{ext_trans, ext_length}
use Rattle.types.proofs.Sound.{at_well, child_lower}
use Rattle.node_store.specs.Intern.{intern}
use Rattle.recursion.specs.Jobs.{Job, each, rebuild}
use Rattle.recursion.proofs.Answers.{ok_same, bind_parts}
use Rattle.recursion.proofs.Interning.{node_is, At, well_again, interned}
use Rattle.recursion.proofs.Members.{index_of, member_at, member_below}
use Rattle.simplification.specs.Pass.{no_variable, remaining, is_decided, member_list, list_kind, close, gather, apply_step, apply}
use Rattle.simplification.specs.Theorems.{ApplySound}
use Rattle.simplification.proofs.Members.{remaining_from}
use Rattle.simplification.proofs.Copies.{listed}
use Rattle.simplification.proofs.Becoming.{Stands, decided, single, several, Becomes, other, list, emptied, AllBecome, all_inside, at_kept, Inside, brought_inside, decided_kept, listed_kept, members_kept, becomes_kept, becomes_inside}
use Rattle.simplification.proofs.Rebuilding.{list_well, bound_well, has_member}
use Rattle.simplification.proofs.Applying.{list_kind_some, apply_kept, step_other, step_list, apply_at, gather_decided, gather_open}

-- a finished job: node n became node m
pub record Run (table : ℕ) (R : ℕ → Bool) (a : Arena) (n m : ℕ) (b : Arena) : Type 0 where
  pub ext : Ext a b
  pub good : sound table b ≡ true
  pub becomes : Becomes b R n m

-- finished jobs, one after another
record Runs (table : ℕ) (R : ℕ → Bool) (a : Arena) (cs es : List ℕ) (b : Arena) : Type 0 where
  pub ext : Ext a b
  pub good : sound table b ≡ true
  pub become : AllBecome b R cs es

module _ (table : ℕ) (R : ℕ → Bool) (s : Arena) (f : ℕ → Job) where
  abbrev RunsIn : ℕ → Type 0
  RunsIn c = (a b : Arena) (m : ℕ) → Ext s a → sound table a ≡ true → f c a ≡ Ok (m, b) → Run table R a c m b

  each_runs : (cs : List ℕ) → ((c : ℕ) → Mem c cs → RunsIn c) → (a b : Arena) (es : List ℕ) → Ext s a → sound table a ≡ true → each f cs a ≡ Ok (es, b) → Runs table R a cs es b
  unfolding each
  each_runs [] h a b es x g e =
      subst (λ (v : List ℕ × Arena). Runs table R a [] v.0 v.1) (ok_same e) (record { ext = here; good = g; become = (refl, λ i l. absurd (omega arith)) })
  each_runs (c ∷ cs) h a b es x g e =
      let p = bind_parts (f c a) (λ r. each f cs r.1 >>= λ q. Ok (r.0 ∷ q.0, q.1)) e in
      let q = bind_parts (each f cs p.0.1) (λ q. Ok (p.0.0 ∷ q.0, q.1)) p.2 in
      let H = h c (head refl) a p.0.1 p.0.0 x g p.1 in
      let T = each_runs cs (λ d i. h d (tail i)) p.0.1 q.0.1 q.0.0 (ext_trans x H.ext) H.good q.1 in
      subst (λ (v : List ℕ × Arena). Runs table R a (c ∷ cs) v.0 v.1) (ok_same q.2) (joined p.0.0 p.0.1 q.0.0 q.0.1 H T)
    where
      joined : (m : ℕ) (d : Arena) (es : List ℕ) (b : Arena) → Run table R a c m d → Runs table R d cs es b → Runs table R a (c ∷ cs) (m ∷ es) b
      joined m d es b H T = record { ext = ext_trans H.ext T.ext; good = T.good; become = (ap suc T.become.0, both) }
        where
          both : (i : ℕ) → i < length (c ∷ cs) → Becomes b R (get_or (c ∷ cs) i 0) (get_or (m ∷ es) i 0)
          both zero l = becomes_kept table d b H.good T.ext H.becomes
          both (suc i) l = T.become.1 i (le_of_suc-le-suc l)

module _ (words starts table : ℕ) (few : starts ≤ 4096) where
  -- the members of the list at node n became ms, all in the arena a; `first` simplifies the first of them
  module _ (R : ℕ → Bool) (a : Arena) (g : sound table a ≡ true) (n : ℕ) (k : Polarity) (cs ms : List ℕ) (I : At a n (node (members k) cs)) (sub : AllBecome a R (remaining R a cs) ms) (first : Job)
      (back : (m : ℕ) (b : Arena) → first a ≡ Ok (m, b) → Run table no_variable a (get_or cs 0 0) m b) where
    -- the list in a grown arena, if it is known what stands for it there
    stood : (m : ℕ) (b : Arena) → Ext a b → sound table b ≡ true → Stands b k ms m → Run table R a n m b
    stood m b x h S =
        let later = members_kept table a b g x {R = R} cs ms I (sub.0, λ i l. becomes_kept table a b g x (sub.1 i l)) in
        record { ext = x; good = h; becomes = list k cs ms (at_kept table a b g x I) later.0 later.1 S }

    inside : Inside a ms
    inside = all_inside R (remaining R a cs) ms sub

    brought : (l : List ℕ) → member_list k a ms ≡ Ok l → Inside a l
    brought = brought_inside table a g k ms inside

    closed : is_decided k a ms ≡ false → (l : List ℕ) → member_list k a ms ≡ Ok l → (m : ℕ) (b : Arena) → close words starts k first l a ≡ Ok (m, b) → Run table R a n m b
    unfolding close
    closed u [] q m b e =
        let B = back m b e in
        let later = members_kept table a b g B.ext {R = R} cs ms I (sub.0, λ i l. becomes_kept table a b g B.ext (sub.1 i l)) in
        record {
          ext = B.ext;
          good = B.good;
          becomes =
              emptied k cs ms (at_kept table a b g B.ext I) (subst (λ (x : Node). 0 < length (children x)) I.is (has_member table a g n I.inside k (ap tag I.is))) later.0 later.1
              (decided_kept table a b g B.ext k ms inside ∙ u) (listed_kept table a b g B.ext k ms inside ∙ q) B.becomes;
        }
    closed u (x ∷ []) q m b e =
        subst (λ (v : ℕ × Arena). Run table R a n v.0 v.1) (ok_same e) (stood x a here g (single u q (brought (x ∷ []) q x (head refl))))
    closed u (x ∷ y ∷ zs) q m b e =
        let w : length a ≤ 4096 → well table (length a) (node (members k) (x ∷ y ∷ zs)) ≡ true
        = λ f. list_well table (length a) f k (x ∷ y ∷ zs) (omega arith) (listed k a ms (x ∷ y ∷ zs) q).few (member_below (length a) (x ∷ y ∷ zs) (brought (x ∷ y ∷ zs) q)) in
        let J = interned words starts table few (node (members k) (x ∷ y ∷ zs)) a g m b w e in
        stood m b J.ext J.good (several (decided_kept table a b g J.ext k ms inside ∙ u) (listed_kept table a b g J.ext k ms inside ∙ q) J.is)

    gathered : (m : ℕ) (b : Arena) → gather words starts k first ms a ≡ Ok (m, b) → Run table R a n m b
    gathered m b e = go (is_decided k a ms) refl
      where
        go : (d : Bool) → is_decided k a ms ≡ d → Run table R a n m b
        go true u =
            let J = interned words starts table few (node (bound (opposite k)) []) a g m b (λ f. bound_well table (length a) (opposite k)) (sym (gather_decided words starts k first ms a u) ∙ e) in
            stood m b J.ext J.good (decided (decided_kept table a b g J.ext k ms inside ∙ u) J.is)
        go false u =
            let p = bind_parts (member_list k a ms) (λ (l : List ℕ). close words starts k first l a) (sym (gather_open words starts k first ms a u) ∙ e) in
            closed u p.0 p.1 m b p.2

  -- a node's job, if its children's do what they should
  module _ (R : ℕ → Bool) (a : Arena) (g : sound table a ≡ true) (n : ℕ) (l : n < length a)
      (ih : (c : ℕ) → Mem c (children (at a n)) → (R : ℕ → Bool) → RunsIn table R a (λ c. apply words starts a c R) c) where
    itself_at : At a n (node (tag (at a n)) (children (at a n)))
    itself_at = record { inside = l; is = node_is (at a n) refl }

    other_run : (m : ℕ) (b : Arena) → list_kind (tag (at a n)) ≡ none → rebuild words starts (tag (at a n)) (children (at a n)) (λ c. apply words starts a c R) a ≡ Ok (m, b) → Run table R a n m b
    unfolding rebuild
    other_run m b q e =
        let t = tag (at a n) in
        let cs = children (at a n) in
        let p = bind_parts (each (λ c. apply words starts a c R) cs a) (λ r. intern words starts (node t r.0) r.1) e in
        let E = each_runs table R a (λ c. apply words starts a c R) cs (λ c i. ih c i R) a p.0.1 p.0.0 here g p.1 in
        let w : length p.0.1 ≤ 4096 → well table (length p.0.1) (node t p.0.0) ≡ true
        = λ f. well_again table (length p.0.1) f n t cs p.0.0 (subst (λ (x : Node). well table n x ≡ true) (node_is (at a n) refl) (at_well table a g n l)) E.become.0 (member_below (length p.0.1) p.0.0 (all_inside R cs p.0.0 E.become)) in
        let J = interned words starts table few (node t p.0.0) p.0.1 E.good m b w p.2 in
        let x = ext_trans E.ext J.ext in
        record { ext = x; good = J.good; becomes = other cs p.0.0 (at_kept table a b g x itself_at) q E.become.0 (λ i k. becomes_kept table p.0.1 b E.good J.ext (E.become.1 i k)) J.is }

    list_run : (m : ℕ) (b : Arena) (k : Polarity) → tag (at a n) ≡ members k
        → (each (λ c. apply words starts a c R) (remaining R a (children (at a n))) a >>= λ r. gather words starts k (apply words starts a (get_or (children (at a n)) 0 0) no_variable) r.0 r.1) ≡ Ok (m, b) → Run table R a n m b
    list_run m b k q e =
        let cs = children (at a n) in
        let p = bind_parts (each (λ c. apply words starts a c R) (remaining R a cs) a) (λ r. gather words starts k (apply words starts a (get_or cs 0 0) no_variable) r.0 r.1) e in
        let E = each_runs table R a (λ c. apply words starts a c R) (remaining R a cs) (λ c i. ih c (remaining_from R a cs c i) R) a p.0.1 p.0.0 here g p.1 in
        let I : At a n (node (members k) cs) = subst (λ (t : Tag). At a n (node t cs)) q itself_at in
        let G = gathered R p.0.1 E.good n k cs p.0.0 (at_kept table a p.0.1 g E.ext I) (members_kept table a p.0.1 g E.ext {R = R} cs p.0.0 I E.become) (apply words starts a (get_or cs 0 0) no_variable)
        (λ m b. ih (get_or cs 0 0) (member_at cs 0 (has_member table a g n l k q)) no_variable p.0.1 b m E.ext E.good) m b p.2 in
        record { ext = ext_trans E.ext G.ext; good = G.good; becomes = G.becomes }

    node_run : (m : ℕ) (b : Arena) → apply words starts a n R a ≡ Ok (m, b) → Run table R a n m b
    node_run m b e = go (list_kind (tag (at a n))) refl
      where
        step : apply_step words starts a (at a n) (apply words starts a) R a ≡ Ok (m, b)
        step = sym (apply_at words starts table a g n l R a) ∙ e

        go : (o : Option Polarity) → list_kind (tag (at a n)) ≡ o → Run table R a n m b
        go none q = other_run m b q (sym (step_other words starts a (at a n) (apply words starts a) R a q) ∙ step)
        go (some k) q = list_run m b k (list_kind_some (tag (at a n)) k q) (sym (step_list words starts a (at a n) (apply words starts a) R a k q) ∙ step)

  -- by induction on a bound of the number
  bounded_run : (i n : ℕ) → n < i → (R : ℕ → Bool) (s : Arena) → n < length s → RunsIn table R s (λ c. apply words starts s c R) n
  bounded_run zero n j R s l a b m x g e = absurd (omega arith)
  bounded_run (suc i) n j R s l a b m x g e =
      let r : n < length a = omega (arith, ext_length s a x) in
      node_run R a g n r (λ c h R. bounded_run i c (omega (arith, low r c h)) R a (omega (arith, low r c h))) m b ((λ i. apply_kept words starts s a x n l i R a) ∙ e)
    where
      low : n < length a → (c : ℕ) → Mem c (children (at a n)) → c < n
      low r c h = let q = index_of h in rw q.is at (child_lower table a g n r q.index q.inside)

  module _ (R : ℕ → Bool) (s a b : Arena) (n m : ℕ) (x : Ext s a) (g : sound table a ≡ true) (l : n < length s) (e : apply words starts s n R a ≡ Ok (m, b)) where
    pub apply_runs : Run table R a n m b
    apply_runs = bounded_run (suc n) n (omega arith) R s l a b m x g e

-- in a sound arena that grew from the one whose node is simplified: the arena left grew again and is sound, and the answer is there
pub apply_sound : ApplySound
apply_sound words starts table few R s a b n m x g l e =
    let r = apply_runs words starts table few R s a b n m x g l e in
    (r.ext, r.good, becomes_inside r.becomes)
