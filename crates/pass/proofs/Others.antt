-- A node: which of its children are simplified, and, where it is no member list, the node with what they became.
use Prim.Native.Nat.{ℕ, ◌+◌, ◌*◌, ◌<◌}
use mathlib.Core.Path.{◌≡◌, sym, ap, ◌∙◌, subst}
use mathlib.Core.Bool.{Bool, true, false, ◌||◌}
use mathlib.Core.List.{List}
use mathlib.Core.Option.{none}
use native.Mathlib.Omega.{arith}
use lib.ListN.{length, take}
use lib.Seq.{length-take-le}
use lib.Dec.{eqb}
use Rattle.std.specs.Prelude.{Ok, Err}
use Rattle.types.specs.Out.{Out, ◌>>=◌}
use Rattle.types.specs.Kind.{disc}
use Rattle.types.specs.Node.{Polarity, Tag, Node, members, node, tag, kind, children, below}
use Rattle.types.specs.Arena.{Arena, at, here}
use Rattle.types.specs.Memory.{Holds}
use Rattle.types.specs.declared.Counters.{Counters}
use Rattle.types.specs.declared.refusal.Refusal.{Refusal}
use Rattle.types.proofs.Growth.{ext_length, ext_at}
use Rattle.types.proofs.Sound.{children_below}
use Rattle.types.proofs.Lists.{below_at}
use Rattle.node_store.specs.Inner.Stored.{InRange}
use Rattle.node_store.specs.Intern.{intern}
use Rattle.node_store.proofs.Interning.{done, done_ext}
use Rattle.node_reading.specs.Inner.{KindAt}
use Rattle.recursion.specs.Jobs.{Job, each, rebuild}
use Rattle.recursion.proofs.Members.{index_of, member_below}
use Rattle.simplification.specs.Pass.{remaining, list_kind, apply}
use Rattle.simplification.proofs.Members.{remaining_from}
use Rattle.simplification.proofs.Applying.{apply_at, step_other}
use Rattle.simplification.proofs.Running.{apply_sound}
use Rattle.member_lists.proofs.BoundKinds.{list_tag, other_tag}
use Rattle.rebuilding.specs.Inner.Children.{setting, Agrees, Remains}
use Rattle.rebuilding.proofs.Copying.{all_listed}
use Rattle.rebuilding.specs.Inner.Rebuilt.{Rebuilding, Rebuilds}
use Rattle.pass.specs.Inner.Caches.{Caches}
use Rattle.pass.specs.Inner.Applied.{Leads, Ready, Applies, EachReady, AppliesEach}
use Rattle.rebuilding.specs.declared.children.Children.{Children}
use Rattle.pass.proofs.Leading.{stop_leads, EachDone, each_done, each_stop, reply_leads}

-- node n is a member list of the kind with this number
pub record ListReady (w s : List ℕ) (c : Counters) (n kind_number : ℕ) (removable dropped kept : List ℕ) : Type 0 where
  pub ready : Ready w s c n removable dropped kept
  pub side : Polarity
  pub tag_is : tag (at ready.view n) ≡ members side
  pub kind_is : kind_number ≡ disc (kind (members side))

module _ {w s : List ℕ} {c : Counters} {n : ℕ} {removable dropped kept : List ℕ} (P : Ready w s c n removable dropped kept) where
  pub ready_range : InRange w s c n
  ready_range = record { lent = record { table = P.table; view = P.view; holds = P.holds }; inside = P.inside }

  pub ready_wide : {x : ℕ} → x ≡ n → InRange w s c x
  ready_wide e = subst (InRange w s c) (sym e) ready_range

  pub ready_inside : {table : ℕ} {a : Arena} → Holds table w s c a → n < length a
  ready_inside H = omega (arith, P.inside, H.nodes)

  module _ {x k : ℕ} (e : x ≡ n) (K : KindAt w s c x k) where
    kind_of : (table : ℕ) (a : Arena) → Holds table w s c a → k ≡ disc (kind (tag (at a n)))
    kind_of table a H = K.is table a H ∙ ap (λ (y : ℕ). disc (kind (tag (at a y)))) e

    pub list_ready : (eqb k 7 || eqb k 8) ≡ true → ListReady w s c n k removable dropped kept
    list_ready q =
        let p = kind_of P.table P.view P.holds in
        let t = list_tag (tag (at P.view n)) (ap (λ (y : ℕ). eqb y 7 || eqb y 8) (sym p) ∙ q) in
        record { ready = P; side = t.0; tag_is = t.1; kind_is = p ∙ ap (λ (y : Tag). disc (kind y)) t.1 }

    pub no_list : (eqb k 7 || eqb k 8) ≡ false → (table : ℕ) (a : Arena) → Holds table w s c a → list_kind (tag (at a n)) ≡ none
    no_list q table a H = other_tag (tag (at a n)) (ap (λ (y : ℕ). eqb y 7 || eqb y 8) (sym (kind_of table a H)) ∙ q)

  pub first_below : {t : ℕ} → 4 * n + 2 ≡ t → 4 * n + 1 < t
  first_below e = omega (arith, e)

  pub each_falls : {t : ℕ} → 4 * n + 2 ≡ t → 4 * n < t
  each_falls e = omega (arith, e)

  -- ---- its children, or those that remain
  pub children_ready : {keep : Bool} {r : Children} → Remains w s c n removable keep r → EachReady w s c n r.items r.count removable dropped kept
  children_ready {keep} L =
      let X = L.is P.table P.view P.variables P.holds P.agrees in
      let B = children_below P.table P.view P.holds.good n (ready_inside P.holds) in
      record {
        ready = P;
        long = X.long;
        few = X.few;
        low = ap (below n) X.is
            ∙ member_below n (remaining (setting keep P.variables) P.view (children (at P.view n)))
            (λ x h.
            let j = index_of (remaining_from (setting keep P.variables) P.view (children (at P.view n)) x h) in
            subst (λ (y : ℕ). y < n) j.is (below_at n (children (at P.view n)) B j.index j.inside));
      }

  module _ {r : Children} (L : Remains w s c n removable true r) where
    module _ {keep : Bool} {w' s' items' dropped' kept' : List ℕ} {g : Out Counters} (E : AppliesEach w s c n r.items r.count removable keep dropped kept w' s' items' dropped' kept' g) where
      -- the run of the children, in one arena
      module _ {table : ℕ} {a : Arena} {R : ℕ → Bool} (H : Holds table w s c a) (A : Agrees removable R a n) (C : Caches (length w) (length s) R a dropped kept) where
        f : ℕ → Job
        f x = apply (length w) (length s) a x (setting keep R)

        run_is : each f (take r.count r.items) a ≡ each f (children (at a n)) a
        run_is = ap (λ (cs : List ℕ). each f cs a) (all_listed L H A).is

        whole : list_kind (tag (at a n)) ≡ none → apply (length w) (length s) a n (setting keep R) a ≡ (each f (take r.count r.items) a >>= λ (q : List ℕ × Arena). intern (length w) (length s) (node (tag (at a n)) q.0) q.1)
        unfolding rebuild f
        whole e =
            apply_at (length w) (length s) table a H.good n (ready_inside H) (setting keep R) a
            ∙ step_other (length w) (length s) a (at a n) (apply (length w) (length s) a) (setting keep R) a e
            ∙ ap (λ (o : Out (List ℕ × Arena)). o >>= λ (q : List ℕ × Arena). intern (length w) (length s) (node (tag (at a n)) q.0) q.1) (sym run_is)

        ended : {d : Counters} → g ≡ Ok d → EachDone table a R w' s' dropped' kept' items' r.count d (each f (take r.count r.items) a)
        unfolding f
        ended q = each_done (E.is table a R H A C) q

      pub other_refused : {x k : ℕ} {u : Refusal} → x ≡ n → KindAt w s c x k → (eqb k 7 || eqb k 8) ≡ false → g ≡ Err u → Applies w s c n removable keep dropped kept w' s' dropped' kept' (Err u)
      unfolding ◌>>=◌ f
      other_refused {u = u} e K q p = record {
        is = λ table a R H A C.
            let S = each_stop (E.is table a R H A C) p in
            let o = whole H A C (no_list e K q table a H) ∙ ap (λ (z : Out (List ℕ × Arena)). z >>= λ (y : List ℕ × Arena). intern (length w) (length s) (node (tag (at a n)) y.0) y.1) S.is in
            stop_leads (record { is = o; stands = S.stands });
      }

      module _ {d : Counters} (q : g ≡ Ok d) where
        pub rebuilding : Rebuilding w' s' d n items' r.count
        rebuilding =
            let D = ended P.holds P.agrees P.caches q in
            let l = ready_inside P.holds in
            let x = ext_at P.view D.arena D.ext n l in
            let y : length (take r.count r.items) ≡ r.count = let X = all_listed L P.holds P.agrees in length-take-le r.count r.items (omega (arith, X.long, X.few)) in
            record {
              lent = record { table = P.table; view = D.arena; holds = D.holds };
              inside = omega (arith, l, ext_length P.view D.arena D.ext, D.holds.nodes);
              long = D.long;
              count_is = sym y ∙ ap length (all_listed L P.holds P.agrees).is ∙ ap (λ (z : Node). length (children z)) (sym x);
              low = ap (λ (z : ℕ). below z (take r.count items')) D.holds.nodes ∙ D.low;
            }

        pub other_done : {w'' s'' : List ℕ} {i : Out (ℕ × Counters)} → Rebuilds w' s' d n items' r.count w'' s'' i → {x k : ℕ} → x ≡ n → KindAt w s c x k → (eqb k 7 || eqb k 8) ≡ false
            → length w' ≡ length w → length s' ≡ length s → length w'' ≡ length w' → length s'' ≡ length s' → Applies w s c n removable keep dropped kept w'' s'' dropped' kept' i
        unfolding ◌>>=◌ f
        other_done {w''} {s''} {i} B e K v lw ls lw' ls' = record {
          is = λ table a R H A C.
              let D = ended H A C q in
              let l = ready_inside H in
              let x = sym (ext_at a D.arena D.ext n l) in
              let pw = sym lw in
              let ps = sym ls in
              let o : apply (length w) (length s) a n (setting keep R) a ≡ intern (length w') (length s') (node (tag (at D.arena n)) (take r.count items')) D.arena =
              whole H A C (no_list e K v table a H)
              ∙ ap (λ (z : Out (List ℕ × Arena)). z >>= λ (y : List ℕ × Arena). intern (length w) (length s) (node (tag (at a n)) y.0) y.1) D.is
              ∙ (λ z. intern (pw z) (ps z) (node (tag (x z)) (take r.count items')) D.arena) in
              subst (Leads table a R w'' s'' dropped' kept' i) (sym o)
              (reply_leads i (intern (length w') (length s') (node (tag (at D.arena n)) (take r.count items')) D.arena) D.holds D.ext D.caches lw' ls'
              (λ m b p.
              let S = apply_sound (length w) (length s) table H.few_starts (setting keep R) a a b n m here H.good l (o ∙ p) in
              record { ext = done_ext (done (length w') (length s') (node (tag (at D.arena n)) (take r.count items')) D.arena m b p); good = S.1; low = S.2 })
              (B.is table D.arena D.holds));
        }
