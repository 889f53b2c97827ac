-- A member list: the members that remain, then what becomes of the list; if nothing is left of it, its first member with no variable removable.
use Prim.Native.Nat.{ℕ, ◌+◌, ◌*◌, ◌<◌}
use mathlib.Core.Path.{◌≡◌, refl, sym, ap, ◌∙◌, subst}
use mathlib.Core.Bool.{Bool, true, false, not, ◌||◌}
use mathlib.Core.List.{List, [], ◌∷◌}
use native.Mathlib.Omega.{arith}
use lib.ListN.{length, get_or, take}
use lib.Dec.{eqb}
use borrow.Author.Tests.{not-true, not-false}
use Rattle.std.specs.Prelude as std
use Rattle.words.specs.Words.{child}
use Rattle.std.specs.Prelude.{Ok, Err, Some, None}
use Rattle.types.specs.declared.refusal.Refusal.{Refusal}
use Rattle.types.specs.Out.{Out, ◌>>=◌}
use Rattle.types.specs.Node.{Polarity, members, bound, Node, node, tag, children, encode, below}
use Rattle.types.specs.Arena.{Arena, at, Ext, here}
use Rattle.types.specs.Fault.{children_in}
use Rattle.types.specs.Places.{opposite}
use Rattle.types.specs.Memory.{Holds}
use Rattle.types.specs.Reply.{reply_of}
use Rattle.types.specs.declared.Counters.{Counters}
use Rattle.types.proofs.Growth.{ext_length, ext_at}
use Rattle.types.proofs.Sound.{at_formed, child_lower}
use Rattle.types.proofs.Faults.{children_encode}
use Rattle.types.proofs.Memories.{unique}
use Rattle.node_store.specs.Inner.Stored.{NodeAt}
use Rattle.node_store.specs.Intern.{left}
use Rattle.node_store.proofs.Interning.{done, done_ext}
use Rattle.node_store.specs.Inner.Children.{ChildWords}
use Rattle.node_store.proofs.Offspring.{as_many, child_is}
use Rattle.node_reading.specs.Inner.{KindAt}
use Rattle.recursion.specs.Jobs.{Job, each}
use Rattle.recursion.proofs.Answers.{ok_same, bind_parts}
use Rattle.simplification.specs.Pass.{no_variable, is_decided, member_list, list_kind, close, gather, apply}
use Rattle.simplification.proofs.Rebuilding.{has_member}
use Rattle.simplification.proofs.Applying.{apply_kept, apply_at, step_list, gather_decided, gather_open}
use Rattle.simplification.proofs.Running.{apply_sound}
use Rattle.rebuilding.specs.Inner.Children.{setting, Agrees, Remains}
use Rattle.rebuilding.specs.Inner.Rebuilt.{Rebuilding, Rebuilds}
use Rattle.member_lists.specs.Inner.Closed.{Closing, ClosesTo, Closes}
use Rattle.member_lists.specs.Inner.Closed as closing
use Rattle.pass.specs.Inner.Caches.{Caches}
use Rattle.pass.specs.Inner.Applied.{Leads, Ready, Applies, AppliesFirst, ListAt, FirstMember, AppliesEach}
use Rattle.rebuilding.specs.declared.children.Children.{Children}
use Rattle.pass.proofs.Leading.{leads_ext, caches_moved, stop_leads, EachDone, each_done, each_stop, reply_leads}
use Rattle.pass.proofs.Turns.{agrees_kept}
use Rattle.pass.proofs.Others.{ListReady, ready_inside, list_ready, other_refused, rebuilding, other_done}

-- ---- the first member
module _ {w s : List ℕ} {c : Counters} {n : ℕ} (L : ListAt w s c n) where
  within : {table : ℕ} {a : Arena} → Holds table w s c a → n < length a
  within H = omega (arith, L.inside, H.nodes)

  read : {x : ℕ} → x ≡ n → {ws : List ℕ} → NodeAt w s c x ws → (table : ℕ) (a : Arena) → Holds table w s c a → children_in ws ≡ children (at a n)
  read e N table a H =
      ap children_in (N.is table a H ∙ ap (λ (y : ℕ). encode (at a y)) e) ∙ children_encode (at a n) (at_formed table a H.good n (within H))

  pub member_there : {x : ℕ} → x ≡ n → {ws b : List ℕ} → NodeAt w s c x ws → ChildWords ws b → 0 < length b
  member_there e {ws} N B =
      let H = L.lent.holds in
      let h = has_member L.lent.table L.lent.view H.good n (within H) L.side L.tag_is in
      omega (arith, h, as_many B, ap length (read e N L.lent.table L.lent.view H))

  pub member_read : {x : ℕ} → x ≡ n → {ws b : List ℕ} {r : ℕ} → NodeAt w s c x ws → ChildWords ws b → r ≡ child (get_or b 0 0) → FirstMember w s c n r
  member_read e N B q = record { is = λ table a H. child_is B 0 q ∙ ap (λ (y : List ℕ). get_or y 0 0) (read e N table a H) }

-- ---- what it becomes
module _ {w s : List ℕ} {c : Counters} {n : ℕ} {removable dropped kept : List ℕ} (P : Ready w s c n removable dropped kept) (L : ListAt w s c n) {x : ℕ} (F : FirstMember w s c n x) where
  x_low : x < n
  x_low =
      let U = L.lent in
      let low = within L U.holds in
      subst (λ (y : ℕ). y < n) (sym (F.is U.table U.view U.holds))
      (child_lower U.table U.view U.holds.good n low 0 (has_member U.table U.view U.holds.good n low L.side L.tag_is))

  agrees_first : {table : ℕ} {a : Arena} {R : ℕ → Bool} → Holds table w s c a → Agrees removable R a n → Agrees removable R a x
  agrees_first H = agrees_kept here (let l = within L H in omega (arith, l)) (omega (arith, x_low))

  pub first_falls : {t : ℕ} → 4 * n + 1 ≡ t → 4 * x + 3 < t
  first_falls p = omega (arith, p, x_low)

  pub first_ready : Ready w s c x removable dropped kept
  first_ready = record { table = P.table; view = P.view; variables = P.variables; holds = P.holds; inside = omega (arith, x_low, P.inside); agrees = agrees_first P.holds P.agrees; caches = P.caches }

  pub first_done : {w' s' dropped' kept' : List ℕ} {i : Out (ℕ × Counters)} → Applies w s c x removable true dropped kept w' s' dropped' kept' i → AppliesFirst w s c n removable dropped kept w' s' dropped' kept' i
  first_done {w'} {s'} {dropped'} {kept'} {i} Y = record {
    is = λ table a R H A C.
        subst (λ (y : ℕ). Leads table a R w' s' dropped' kept' i (apply (length w) (length s) a y no_variable a)) (F.is table a H) (Y.is table a R H (agrees_first H A) C);
  }

-- ---- what becomes of the list grew from what it was gathered in
gather_ext : (lw ls : ℕ) (k : Polarity) (first : Job) (ms : List ℕ) (b : Arena) (m : ℕ) (d : Arena) → (first b ≡ Ok (m, d) → Ext b d) → gather lw ls k first ms b ≡ Ok (m, d) → Ext b d
unfolding close
gather_ext lw ls k first ms b m d h e = go (is_decided k b ms) refl
  where
    closes : (l : List ℕ) → close lw ls k first l b ≡ Ok (m, d) → Ext b d
    closes [] p = h p
    closes (x ∷ []) p = subst (Ext b) (ap (λ (z : ℕ × Arena). z.1) (ok_same p)) here
    closes (x ∷ y ∷ l) p = done_ext (done lw ls (node (members k) (x ∷ y ∷ l)) b m d p)

    go : (u : Bool) → is_decided k b ms ≡ u → Ext b d
    go true u = done_ext (done lw ls (node (bound (opposite k)) []) b m d (sym (gather_decided lw ls k first ms b u) ∙ e))
    go false u =
        let p = bind_parts (member_list k b ms) (λ (l : List ℕ). close lw ls k first l b) (sym (gather_open lw ls k first ms b u) ∙ e) in
        closes p.0 p.2

-- ---- what the closing of a list says
closes_done : {w s w' s' : List ℕ} {c : Counters} {z : std.Option (Out (ℕ × Counters))} {o f : Out (ℕ × Arena)} {i : Out (ℕ × Counters)} → ClosesTo w s c w' s' z o f → z ≡ Some i → left c i w' s' ≡ reply_of w s c o
closes_done {w' = w'} {s'} {c = c} {i = i} (closing.done {r = r} e) q = let p : r ≡ i = cc in ap (λ (x : Out (ℕ × Counters)). left c x w' s') (sym p) ∙ e
closes_done (closing.emptied e p q) z = let y : ◌≡◌ {A = ℕ} 0 1 = cc in absurd (omega arith)

record Emptied (w s w' s' : List ℕ) (o f : Out (ℕ × Arena)) : Type 0 where
  pub is : o ≡ f
  pub words : w' ≡ w
  pub starts : s' ≡ s

closes_empty : {w s w' s' : List ℕ} {c : Counters} {z : std.Option (Out (ℕ × Counters))} {o f : Out (ℕ × Arena)} → ClosesTo w s c w' s' z o f → z ≡ None → Emptied w s w' s' o f
closes_empty (closing.done e) q = let y : ◌≡◌ {A = ℕ} 0 1 = cc in absurd (omega arith)
closes_empty (closing.emptied e p q) z = record { is = e; words = p; starts = q }

module _ {w s : List ℕ} {c : Counters} {n kind_number : ℕ} {removable dropped kept : List ℕ} (P : ListReady w s c n kind_number removable dropped kept) where
  tag_in : (table : ℕ) (a : Arena) → Holds table w s c a → tag (at a n) ≡ members P.side
  tag_in table a H = ap (λ (b : Arena). tag (at b n)) (unique H P.ready.holds) ∙ P.tag_is

  module _ {keep : Bool} {r : Children} (L : Remains w s c n removable keep r) where
    module _ {w' s' items' dropped' kept' : List ℕ} {g : Out Counters} (E : AppliesEach w s c n r.items r.count removable keep dropped kept w' s' items' dropped' kept' g) where
      module _ {table : ℕ} {a : Arena} {R : ℕ → Bool} (H : Holds table w s c a) (A : Agrees removable R a n) (C : Caches (length w) (length s) R a dropped kept) where
        f : ℕ → Job
        f x = apply (length w) (length s) a x (setting keep R)

        first : Job
        first = apply (length w) (length s) a (get_or (children (at a n)) 0 0) no_variable

        -- the run of the whole, from that of the members
        whole : apply (length w) (length s) a n (setting keep R) a ≡ (each f (take r.count r.items) a >>= λ (q : List ℕ × Arena). gather (length w) (length s) P.side first q.0 q.1)
        unfolding f first
        whole =
            apply_at (length w) (length s) table a H.good n (ready_inside P.ready H) (setting keep R) a
            ∙ step_list (length w) (length s) a (at a n) (apply (length w) (length s) a) (setting keep R) a P.side (ap list_kind (tag_in table a H))
            ∙ ap (λ (cs : List ℕ). each (λ (x : ℕ). apply (length w) (length s) a x (setting keep R)) cs a >>= λ (q : List ℕ × Arena). gather (length w) (length s) P.side first q.0 q.1) (sym (L.is table a R H A).is)

        ended : {d : Counters} → g ≡ Ok d → EachDone table a R w' s' dropped' kept' items' r.count d (each f (take r.count r.items) a)
        unfolding f
        ended q = each_done (E.is table a R H A C) q

      list_refused : {u : Refusal} → g ≡ Err u → Applies w s c n removable keep dropped kept w' s' dropped' kept' (Err u)
      unfolding ◌>>=◌ f
      list_refused p = record {
        is = λ table a R H A C.
            let S = each_stop (E.is table a R H A C) p in
            let o = whole H A C ∙ ap (λ (z : Out (List ℕ × Arena)). z >>= λ (q : List ℕ × Arena). gather (length w) (length s) P.side (first H A C) q.0 q.1) S.is in
            stop_leads (record { is = o; stands = S.stands });
      }

      module _ {d : Counters} (q : g ≡ Ok d) where
        -- the list itself is still there
        near_inside : n < d.nodes
        near_inside =
            let R = P.ready in
            let D = ended R.holds R.agrees R.caches q in
            omega (arith, R.inside, R.holds.nodes, D.holds.nodes, ext_length R.view D.arena D.ext)

        closing_ready : Closing w' s' d kind_number items' r.count
        closing_ready =
            let R = P.ready in
            let D = ended R.holds R.agrees R.caches q in
            record { lent = record { table = R.table; view = D.arena; holds = D.holds }; side = P.side; kind_is = P.kind_is; long = D.long; low = ap (λ (z : ℕ). below z (take r.count items')) D.holds.nodes ∙ D.low }

        module _ {w'' s'' : List ℕ} {z : std.Option (Out (ℕ × Counters))} (Z : Closes w' s' d kind_number items' r.count w'' s'' z) where
          module _ {table : ℕ} {a : Arena} {R : ℕ → Bool} (H : Holds table w s c a) (A : Agrees removable R a n) (C : Caches (length w) (length s) R a dropped kept) where
            b : Arena
            b = (ended H A C q).arena

            ms : List ℕ
            ms = take r.count items'

            -- what becomes of the list
            become : Out (ℕ × Arena)
            become = gather (length w') (length s') P.side (first H A C) ms b

            is_become : length w' ≡ length w → length s' ≡ length s → apply (length w) (length s) a n (setting keep R) a ≡ become
            unfolding ◌>>=◌ become b ms
            is_become lw ls =
                let D = ended H A C q in
                let pw = sym lw in
                let ps = sym ls in
                whole H A C ∙ ap (λ (o : Out (List ℕ × Arena)). o >>= λ (y : List ℕ × Arena). gather (length w) (length s) P.side (first H A C) y.0 y.1) D.is
                ∙ (λ i. gather (pw i) (ps i) P.side (first H A C) ms D.arena)

            closes_to : ClosesTo w' s' d w'' s'' z become (first H A C b)
            unfolding become b ms
            closes_to = Z.is table (ended H A C q).arena P.side (first H A C) (ended H A C q).holds P.kind_is

            low : n < length a
            low = ready_inside P.ready H

            first_low : get_or (children (at a n)) 0 0 < n
            first_low = child_lower table a H.good n low 0 (has_member table a H.good n low P.side (tag_in table a H))

          list_done : {i : Out (ℕ × Counters)} → z ≡ Some i → length w' ≡ length w → length s' ≡ length s → length w'' ≡ length w' → length s'' ≡ length s' → Applies w s c n removable keep dropped kept w'' s'' dropped' kept' i
          unfolding become b first
          list_done {i} e lw ls lw' ls' = record {
            is = λ table a R H A C.
                let D = ended H A C q in
                subst (Leads table a R w'' s'' dropped' kept' i) (sym (is_become H A C lw ls))
                (reply_leads i (become H A C) D.holds D.ext D.caches lw' ls'
                (λ m d' p.
                let S = apply_sound (length w) (length s) table H.few_starts (setting keep R) a a d' n m here H.good (low H A C) (is_become H A C lw ls ∙ p) in
                record {
                  ext = gather_ext (length w') (length s') P.side (first H A C) (ms H A C) D.arena m d'
                      (λ x. (apply_sound (length w) (length s) table H.few_starts no_variable a D.arena d' (get_or (children (at a n)) 0 0) m D.ext D.holds.good (omega (arith, first_low H A C, low H A C)) x).0) p;
                  good = S.1;
                  low = S.2;
                })
                (closes_done (closes_to H A C) e));
          }

          module _ (e : z ≡ None) where
            -- memory is as the members left it
            module _ {table : ℕ} {a : Arena} {R : ℕ → Bool} (H : Holds table w s c a) (A : Agrees removable R a n) (C : Caches (length w) (length s) R a dropped kept) where
              left_so : Emptied w' s' w'' s'' (become H A C) (first H A C (b H A C))
              left_so = closes_empty (closes_to H A C) e

              holds_so : Holds table w'' s'' d (b H A C)
              unfolding b
              holds_so = subst (λ (y : List ℕ). Holds table y s'' d (b H A C)) (sym left_so.words) (subst (λ (y : List ℕ). Holds table w' y d (b H A C)) (sym left_so.starts) (ended H A C q).holds)

              caches_so : Caches (length w'') (length s'') R (b H A C) dropped' kept'
              unfolding b
              caches_so = caches_moved w' s' w'' s'' (ap length left_so.words) (ap length left_so.starts) (ended H A C q).caches

              agrees_so : Agrees removable R (b H A C) n
              unfolding b
              agrees_so = agrees_kept (ended H A C q).ext (let l = low H A C in omega (arith, l)) (omega arith) A

              same_node : at (b H A C) n ≡ at a n
              unfolding b
              same_node = ext_at a (ended H A C q).arena (ended H A C q).ext n (low H A C)

            still_ready : Ready w'' s'' d n removable dropped' kept'
            still_ready =
                let R = P.ready in
                record { table = R.table; view = b R.holds R.agrees R.caches; variables = R.variables; holds = holds_so R.holds R.agrees R.caches; inside = near_inside; agrees = agrees_so R.holds R.agrees R.caches; caches = caches_so R.holds R.agrees R.caches }

            still_list : ListAt w'' s'' d n
            still_list =
                let R = P.ready in
                record {
                  lent = record { table = R.table; view = b R.holds R.agrees R.caches; holds = holds_so R.holds R.agrees R.caches };
                  inside = near_inside;
                  side = P.side;
                  tag_is = ap tag (same_node R.holds R.agrees R.caches) ∙ P.tag_is;
                }

            list_emptied : {w''' s''' dropped'' kept'' : List ℕ} {i : Out (ℕ × Counters)} → AppliesFirst w'' s'' d n removable dropped' kept' w''' s''' dropped'' kept'' i → length w' ≡ length w → length s' ≡ length s → Applies w s c n removable keep dropped kept w''' s''' dropped'' kept'' i
            unfolding b first
            list_emptied {w'''} {s'''} {dropped''} {kept''} {i} Y lw ls = record {
              is = λ table a R H A C.
                  let D = ended H A C q in
                  let pw : length w'' ≡ length w = ap length (left_so H A C).words ∙ lw in
                  let ps : length s'' ≡ length s = ap length (left_so H A C).starts ∙ ls in
                  let u = ap (λ (y : Node). get_or (children y) 0 0) (same_node H A C) in
                  let o : apply (length w'') (length s'') D.arena (get_or (children (at D.arena n)) 0 0) no_variable D.arena ≡ apply (length w) (length s) a n (setting keep R) a =
                  (λ j. apply (pw j) (ps j) D.arena (u j) no_variable D.arena)
                  ∙ ap (λ (k : (ℕ → Bool) → Job). k no_variable D.arena) (apply_kept (length w) (length s) a D.arena D.ext (get_or (children (at a n)) 0 0) (omega (arith, first_low H A C, low H A C)))
                  ∙ sym (is_become H A C lw ls ∙ (left_so H A C).is) in
                  subst (Leads table a R w''' s''' dropped'' kept'' i) o (leads_ext D.ext (Y.is table D.arena R (holds_so H A C) (agrees_so H A C) (caches_so H A C)));
            }

-- ---- a node of either kind: that of a list has the members that remain, any other all children
module _ {w s : List ℕ} {c : Counters} {n : ℕ} {removable dropped kept : List ℕ} (P : Ready w s c n removable dropped kept) {x k : ℕ} (e : x ≡ n) (K : KindAt w s c x k) (keep : Bool) {r : Children}
    (L : Remains w s c n removable (not (eqb k 7 || eqb k 8) || keep) r) where
  with_kind : {b : Bool} → (eqb k 7 || eqb k 8) ≡ b → Remains w s c n removable (not b || keep) r
  with_kind p = subst (λ (b : Bool). Remains w s c n removable (not b || keep) r) p L

  module _ {w' s' items' dropped' kept' : List ℕ} {g : Out Counters} (E : AppliesEach w s c n r.items r.count removable keep dropped kept w' s' items' dropped' kept' g) where
    pub node_refused : {u : Refusal} → g ≡ Err u → Applies w s c n removable keep dropped kept w' s' dropped' kept' (Err u)
    node_refused {u} p = go (eqb k 7 || eqb k 8) refl
      where
        go : (b : Bool) → (eqb k 7 || eqb k 8) ≡ b → Applies w s c n removable keep dropped kept w' s' dropped' kept' (Err u)
        go true q = list_refused (list_ready P e K q) (with_kind q) E p
        go false q = other_refused P (with_kind q) E e K q p

    module _ {d : Counters} (q : g ≡ Ok d) where
      module _ (t : not (eqb k 7 || eqb k 8) ≡ true) where
        no : (eqb k 7 || eqb k 8) ≡ false
        no = not-true (eqb k 7 || eqb k 8) t

        pub node_rebuilding : Rebuilding w' s' d n items' r.count
        node_rebuilding = rebuilding P (with_kind no) E q

        pub node_rebuilt : {w'' s'' : List ℕ} {i : Out (ℕ × Counters)} → Rebuilds w' s' d n items' r.count w'' s'' i → length w' ≡ length w → length s' ≡ length s → length w'' ≡ length w' → length s'' ≡ length s'
            → Applies w s c n removable keep dropped kept w'' s'' dropped' kept' i
        node_rebuilt B lw ls lw' ls' = other_done P (with_kind no) E q B e K no lw ls lw' ls'

      module _ (t : not (eqb k 7 || eqb k 8) ≡ false) where
        yes : (eqb k 7 || eqb k 8) ≡ true
        yes = not-false (eqb k 7 || eqb k 8) t

        the_list : ListReady w s c n k removable dropped kept
        the_list = list_ready P e K yes

        pub node_closing : Closing w' s' d k items' r.count
        node_closing = closing_ready the_list (with_kind yes) E q

        pub node_near : n < d.nodes
        node_near = near_inside the_list (with_kind yes) E q

        module _ {w'' s'' : List ℕ} {z : std.Option (Out (ℕ × Counters))} (Z : Closes w' s' d k items' r.count w'' s'' z) where
          pub node_closed : {i : Out (ℕ × Counters)} → z ≡ Some i → length w' ≡ length w → length s' ≡ length s → length w'' ≡ length w' → length s'' ≡ length s' → Applies w s c n removable keep dropped kept w'' s'' dropped' kept' i
          node_closed = list_done the_list (with_kind yes) E q Z

          module _ (u : z ≡ None) where
            pub node_ready : Ready w'' s'' d n removable dropped' kept'
            node_ready = still_ready the_list (with_kind yes) E q Z u

            pub node_list : ListAt w'' s'' d n
            node_list = still_list the_list (with_kind yes) E q Z u

            pub node_emptied : {w''' s''' dropped'' kept'' : List ℕ} {i : Out (ℕ × Counters)} → AppliesFirst w'' s'' d n removable dropped' kept' w''' s''' dropped'' kept'' i → length w' ≡ length w → length s' ≡ length s
                → Applies w s c n removable keep dropped kept w''' s''' dropped'' kept'' i
            node_emptied = list_emptied the_list (with_kind yes) E q Z u
