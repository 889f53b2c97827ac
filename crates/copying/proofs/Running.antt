-- What a finished copy gives: a copy of the node, in a target whose other new nodes are copies of nodes reachable from it. So from the empty target
-- the copied type unfolds to the same tree as the type, and the target has exactly the copies of the reachable nodes.
use Prim.Native.Nat.{ℕ, zero, suc, ◌<◌, ◌≤◌}
use mathlib.Core.Path.{◌≡◌, refl, sym, ap, ◌∙◌, subst}
use mathlib.Core.Bool.{true}
use mathlib.Core.List.Memᴰ.{head}
use mathlib.Core.List.Memᴰ.{tail}
use mathlib.Core.List.{List, [], ◌∷◌, Memᴰ as Mem}
use native.Mathlib.Omega.{arith}
use native.Mathlib.Decide.{dec_lt}
use lib.ListN.{length, get_or}
use Rattle.std.specs.Prelude.{Ok}
use Rattle.types.specs.Node.{Polarity, positive, Tag, Node, node, tag, children, well}
use Rattle.types.specs.Arena.{Arena, at, sound, Ext, here}
use Rattle.types.specs.Places.{child_sign, Place, self, down}
use Rattle.types.proofs.Tests.{same_truth}
use Rattle.types.proofs.Lists.{below_by}
use Rattle.types.proofs.Growth.{ext_trans}
use Rattle.types.proofs.Sound.{at_well, child_lower}
use Rattle.node_store.specs.Intern.{intern}
use Rattle.node_store.proofs.Interning.{Done, stored, added, done}
use Rattle.bits.proofs.Sets.{count_same}
use Rattle.walks.specs.Reach.{reaches, reach_count}
use Rattle.walks.proofs.Reaching.{reaches_place, place_reaches}
use Rattle.recursion.specs.Jobs.{each, rebuild}
use Rattle.recursion.proofs.Members.{index_of}
use Rattle.recursion.proofs.Answers.{ok_same, bind_parts}
use Rattle.recursion.proofs.Interning.{node_is, well_again, Interned, interned}
use Rattle.copying.specs.Copy.{copy}
use Rattle.copying.specs.Theorems.{Compacts, CompactFold, CopyOf, CompactOnly, CompactAll, CompactCount}
use Rattle.copying.proofs.Steps.{copy_at}
use Rattle.copying.proofs.Copies.{copy_inside, copy_made, copy_later, copy_injective, copy_fold, copy_place}
use Rattle.copying.proofs.Counts.{Counted, counted_none, counted_more}

-- c has a place below node n, where n has the sign s
pub record Under (a : Arena) (n : ℕ) (s : Polarity) (c : ℕ) : Type 0 where
  pub sign : Polarity
  pub place : Place a n s c sign

-- node k of the target is the copy of a node below n
pub record From (u b : Arena) (n k : ℕ) : Type 0 where
  pub source : ℕ
  pub under : (s : Polarity) → Under u n s source
  pub copy : CopyOf u b source k

from_later : {u b d : Arena} {n k : ℕ} → Ext b d → From u b n k → From u d n k
from_later e F = record { source = F.source; under = F.under; copy = copy_later e F.copy }

from_child : {u b : Arena} (n i : ℕ) {k : ℕ} → i < length (children (at u n)) → From u b (get_or (children (at u n)) i 0) k → From u b n k
from_child {u} n i l F = record {
  source = F.source;
  under = λ s. let P = F.under (child_sign (tag (at u n)) i s) in record { sign = P.sign; place = down i l P.place };
  copy = F.copy;
}

-- a finished copy of one node
pub record Ran (table : ℕ) (u a : Arena) (n m : ℕ) (b : Arena) : Type 0 where
  pub ext : Ext a b
  pub good : sound table b ≡ true
  pub is : CopyOf u b n m
  pub new : (k : ℕ) → length a ≤ k → k < length b → From u b n k
  pub counts : Counted u a → Counted u b

pub record FromOne (u b : Arena) (cs : List ℕ) (k : ℕ) : Type 0 where
  pub index : ℕ
  pub inside : index < length cs
  pub from : From u b (get_or cs index 0) k

-- of several nodes in turn
pub record RanAll (table : ℕ) (u a : Arena) (cs ms : List ℕ) (b : Arena) : Type 0 where
  pub ext : Ext a b
  pub good : sound table b ≡ true
  pub count : length ms ≡ length cs
  pub each_is : (i : ℕ) → i < length cs → CopyOf u b (get_or cs i 0) (get_or ms i 0)
  pub new : (k : ℕ) → length a ≤ k → k < length b → FromOne u b cs k
  pub counts : Counted u a → Counted u b

ran_none : {table : ℕ} {u a : Arena} → sound table a ≡ true → RanAll table u a [] [] a
ran_none g = record { ext = here; good = g; count = refl; each_is = λ i l. absurd (omega arith); new = λ k l h. absurd (omega arith); counts = λ K. K }

ran_more : {table : ℕ} {u a b d : Arena} {c m : ℕ} {cs ms : List ℕ} → Ran table u a c m b → RanAll table u b cs ms d → RanAll table u a (c ∷ cs) (m ∷ ms) d
ran_more {u = u} {a} {b} {d} {c} {m} {cs} {ms} R S = record { ext = ext_trans R.ext S.ext; good = S.good; count = ap suc S.count; each_is = each_is; new = λ k l h. go k l h (dec_lt k (length b)); counts = λ K. S.counts (R.counts K) }
  where
    each_is : (i : ℕ) → i < length (c ∷ cs) → CopyOf u d (get_or (c ∷ cs) i 0) (get_or (m ∷ ms) i 0)
    each_is zero l = copy_later S.ext R.is
    each_is (suc i) l = S.each_is i (omega arith)

    go : (k : ℕ) → length a ≤ k → k < length d → Dec (k < length b) → FromOne u d (c ∷ cs) k
    go k l h (yes p) = record { index = 0; inside = omega arith; from = from_later S.ext (R.new k l p) }
    go k l h (no p) = let F = S.new k (omega (arith, p)) h in record { index = suc F.index; inside = omega (arith, F.inside); from = F.from }

-- a node that was added is the last
pub last_added : {lw ls : ℕ} {x : Node} {a b : Arena} {m : ℕ} → Done lw ls x a m b → (k : ℕ) → length a ≤ k → k < length b → k ≡ m
last_added (stored p) k l h = absurd (omega arith)
last_added (added p q) k l h = omega arith

counted_done : (table : ℕ) {lw ls : ℕ} {x : Node} {u a b : Arena} {n m : ℕ} → sound table u ≡ true → sound table b ≡ true → n < length u → CopyOf u b n m → Done lw ls x a m b → Counted u a → Counted u b
counted_done table g h l C (stored p) K = K
counted_done table g h l C (added p q) K = counted_more table g h l C K

module _ (words starts table : ℕ) (few : starts ≤ 4096) (u : Arena) (g : sound table u ≡ true) where
  abbrev Runs : ℕ → Type 0
  Runs c = (a : Arena) (m : ℕ) (b : Arena) → sound table a ≡ true → copy words starts u c a ≡ Ok (m, b) → Ran table u a c m b

  each_runs : (cs : List ℕ) → ((c : ℕ) → Mem c cs → Runs c) → (a : Arena) (ms : List ℕ) (b : Arena) → sound table a ≡ true → each (copy words starts u) cs a ≡ Ok (ms, b) → RanAll table u a cs ms b
  unfolding each
  each_runs [] h a ms b k e = subst (λ (v : List ℕ × Arena). RanAll table u a [] v.0 v.1) (ok_same e) (ran_none k)
  each_runs (c ∷ cs) h a ms b k e =
      let p = bind_parts (copy words starts u c a) _ e in
      let q = bind_parts (each (copy words starts u) cs p.0.1) _ p.2 in
      let R = h c (head refl) a p.0.0 p.0.1 k p.1 in
      let S = each_runs cs (λ d i. h d (tail i)) p.0.1 q.0.0 q.0.1 R.good q.1 in
      subst (λ (v : List ℕ × Arena). RanAll table u a (c ∷ cs) v.0 v.1) (ok_same q.2) (ran_more R S)

  -- the node, once its children are copied
  made : (n : ℕ) → n < length u → {a d : Arena} {ms : List ℕ} → RanAll table u a (children (at u n)) ms d → (m : ℕ) (b : Arena) → intern words starts (node (tag (at u n)) ms) d ≡ Ok (m, b) → Ran table u a n m b
  made n l {a} {d} {ms} S m b e = record { ext = ext_trans S.ext J.ext; good = J.good; is = whole; new = λ k i h. go k i h (dec_lt k (length d)); counts = λ K. counted_done table g J.good l whole (done words starts (node (tag (at u n)) ms) d m b e) (S.counts K) }
    where
      wellformed : length d ≤ 4096 → well table (length d) (node (tag (at u n)) ms) ≡ true
      wellformed k =
          let low = below_by (length d) ms (λ j i. copy_inside (S.each_is j (omega (arith, i, S.count)))) in
          well_again table (length d) k n (tag (at u n)) (children (at u n)) ms (subst (λ (x : Node). well table n x ≡ true) (node_is (at u n) refl) (at_well table u g n l)) S.count low

      J : Interned table (node (tag (at u n)) ms) d m b
      J = interned words starts table few (node (tag (at u n)) ms) d S.good m b wellformed e

      whole : CopyOf u b n m
      whole = copy_made l J.is S.count (λ i h. copy_later J.ext (S.each_is i h))

      go : (k : ℕ) → length a ≤ k → k < length b → Dec (k < length d) → From u b n k
      go k i h (yes p) = let F = S.new k i p in from_child n F.index F.inside (from_later J.ext F.from)
      go k i h (no p) =
          let q = last_added (done words starts (node (tag (at u n)) ms) d m b e) k (omega (arith, p)) h in
          record { source = n; under = λ s. record { sign = s; place = self }; copy = subst (CopyOf u b n) (sym q) whole }

  children_runs : (n : ℕ) → n < length u → ((c : ℕ) → c < n → Runs c) → (a : Arena) (ms : List ℕ) (b : Arena) → sound table a ≡ true → each (copy words starts u) (children (at u n)) a ≡ Ok (ms, b) → RanAll table u a (children (at u n)) ms b
  children_runs n l h = each_runs (children (at u n)) (λ c i. h c (let x = index_of i in omega (arith, x.is, child_lower table u g n l x.index x.inside)))

  runs : (j n : ℕ) → n < j → n < length u → Runs n
  unfolding rebuild
  runs zero n k l a m b h e = absurd (omega arith)
  runs (suc j) n k l a m b h e =
      let p = bind_parts (each (copy words starts u) (children (at u n)) a) _ (sym (copy_at words starts table u g n l a) ∙ e) in
      made n l (children_runs n l (λ c i. runs j c (omega (arith, i, k)) (omega (arith, i, l))) a p.0.0 p.0.1 h p.1) m b p.2

  -- a finished copy of node n, and of its children
  pub copy_ran : (n : ℕ) → n < length u → Runs n
  copy_ran n = runs (suc n) n (omega arith)

  pub children_ran : (n : ℕ) → n < length u → (a : Arena) (ms : List ℕ) (b : Arena) → sound table a ≡ true → each (copy words starts u) (children (at u n)) a ≡ Ok (ms, b) → RanAll table u a (children (at u n)) ms b
  children_ran n l = children_runs n l (λ c i. runs n c i (omega (arith, i, l)))

  -- ---- from the empty target
  module _ (root m : ℕ) (b : Arena) (l : root < length u) (e : copy words starts u root [] ≡ Ok (m, b)) where
    ran : Ran table u [] root m b
    unfolding sound
    ran = copy_ran root l [] m b refl e

    -- the target is sound and has the copy
    pub compact_sound : sound table b ≡ true
    compact_sound = ran.good

    pub compact_inside : m < length b
    compact_inside = copy_inside ran.is

ran_of : {words starts table : ℕ} {u : Arena} {root m : ℕ} {b : Arena} → Compacts words starts table u root m b → Ran table u [] root m b
ran_of {words} {starts} {table} {u} {root} {m} {b} C = ran words starts table C.few u C.good root m b C.inside C.run

-- the type and its copy have the same value, whatever is read off the tags: so they unfold to the same tree
pub compact_fold : {Y : Type 0} (value : Tag → List Y → Y) → CompactFold value
compact_fold value words starts table u root m b C = let R = ran_of C in copy_fold value table u b C.good R.good R.is

-- each node of the target is the copy of a reachable node
pub compact_only : CompactOnly
compact_only words starts table u root m b C k h =
    let F = (ran_of C).new k (omega arith) h in
    let P = F.under positive in
    record { source = F.source; reachable = record { sign = P.sign; place = P.place }; copy = F.copy }

-- each reachable node has a copy that is reachable from the target's root
pub compact_all : CompactAll
compact_all words starts table u root m b C c p P = copy_place (ran_of C).is P

-- the target has as many nodes as are reachable
pub compact_count : CompactCount
unfolding reach_count
compact_count words starts table u root m b C = sym K.count ∙ count_same K.copied (reaches u root) (length u) (λ c h. same_truth (K.copied c) (reaches u root c) (reached c) (met c))
  where
    K : Counted u b
    K = (ran_of C).counts counted_none

    reached : (c : ℕ) → K.copied c ≡ true → reaches u root c ≡ true
    reached c p =
        let D = K.there c p in
        let F = compact_only words starts table u root m b C D.number (copy_inside D.copy) in
        subst (λ (i : ℕ). reaches u root i ≡ true) (sym (copy_injective table C.good D.copy F.copy)) (place_reaches table u C.good F.source F.reachable.place C.inside)

    met : (c : ℕ) → reaches u root c ≡ true → K.copied c ≡ true
    met c p =
        let P = reaches_place table u C.good c root C.inside p in
        let D = compact_all words starts table u root m b C c P.sign P.place in
        K.only c D.number D.copy
