-- A member list in memory: the members in turn. The list so far is what those done bring, and the rest of the definition's run is still to make.
use Prim.Native.Nat.{ℕ, suc, ◌+◌, ◌*◌, ◌<◌, ◌≤◌}
use mathlib.Core.Path.{◌≡◌, refl, sym, ap, ◌∙◌, subst}
use mathlib.Core.List.{List, [], ◌∷◌}
use native.Mathlib.Omega.{arith}
use native.Mathlib.Numerals.{add-one}
use native.Mathlib.Decide.{ℕ_discrete}
use lib.ListN.{length, get_or, take, drop, replicate, drop_of_length-le}
use lib.Seq.{drop-cons}
use Rattle.std.specs.Prelude.{Ok, Err}
use Rattle.types.specs.declared.refusal.Refusal.{Refusal}
use Rattle.types.specs.Out.{Out, ◌>>=◌}
use Rattle.types.specs.Kind.{disc}
use Rattle.types.specs.Node.{Polarity, members, Node, node, tag, kind, children, below}
use Rattle.types.specs.Arena.{Arena, at, Ext, here}
use Rattle.types.specs.Memory.{Holds}
use Rattle.types.specs.declared.Counters.{Counters}
use Rattle.types.proofs.Growth.{ext_length, ext_trans, ext_at}
use Rattle.types.proofs.Memories.{unique}
use Rattle.types.proofs.Sound.{sound_ext, child_lower}
use Rattle.node_store.specs.Inner.Stored.{InRange}
use Rattle.node_store.proofs.Interning.{done_ext}
use Rattle.node_store.proofs.Interning as interning
use Rattle.node_filter.specs.Inner.Filter.{CoversLent, CoversAfter}
use Rattle.recursion.specs.Jobs.{Job}
use Rattle.recursion.specs.Inner.Cache.{Cache}
use Rattle.recursion.specs.Inner.Work.{Grown, Leads, done, stop, Ready, Does}
use Rattle.recursion.proofs.Answers.{ok_same}
use Rattle.recursion.proofs.Leading.{holds_stands, stands_ext, leads_done, Stopped, stop_leads, reply_leads}
use Rattle.simplification.specs.Pass.{first_copies}
use Rattle.member_lists.specs.Inner.Members.{Growing, Filled}
use Rattle.member_lists.proofs.MemberBits.{growing_none}
use Rattle.member_lists.proofs.Copying.{room_length}
use Rattle.member_sorting.specs.Sort.{sort}
use Rattle.set_op_lists.specs.SetOps.{brings, flatten_set_op, stand_for, normalize}
use Rattle.set_op_lists.specs.Inner.{brought_out, Bringing, Brings, StandsFor}
use Rattle.set_op_lists.proofs.Closing.{stand_for_one, stand_for_several}
use Rattle.set_ops_pass.specs.Inner.{ListReady, MemberCount, MemberThere, MemberAt}
use Rattle.set_ops_pass.proofs.Normalizing.{Flat, at_list, flat_list, normalize_steady, lawful}

-- ---- one member: its outcome, and what it brings
-- what the definition does after it, with the list so far
abbrev brings_then : Polarity → List ℕ → (List ℕ → Arena → Out (List ℕ × Arena)) → Out (ℕ × Arena) → Out (List ℕ × Arena)
brings_then k acc g o = o >>= λ (r : ℕ × Arena). first_copies acc (brings k r.0 (at r.1 r.0)) >>= λ (l : List ℕ). g l r.1

record Carried (table : ℕ) (a : Arena) (f : ℕ → Job) (size : ℕ) (k : Polarity) (acc : List ℕ) (g : List ℕ → Arena → Out (List ℕ × Arena)) (w s entries items : List ℕ) (next : ℕ) (d : Counters) (o : Out (ℕ × Arena)) : Type 0 where
  pub arena : Arena
  pub holds : Holds table w s d arena
  pub ext : Ext a arena
  pub cache : Cache f size arena entries
  pub is : brings_then k acc g o ≡ g (take next items) arena

module _ {table : ℕ} {a : Arena} {f : ℕ → Job} {size : ℕ} {w s entries : List ℕ} (k : Polarity) {number : ℕ} (q : number ≡ disc (kind (members k))) {items : List ℕ} {held : ℕ} {items' met' : List ℕ} {b : Out (ℕ × Counters)} (g : List ℕ → Arena → Out (List ℕ × Arena)) where
  stopped : {r : Out (ℕ × Counters)} {o : Out (ℕ × Arena)} → Leads table a f size w s entries r o → Brings w s r number items held items' met' b → {v : Refusal} → b ≡ Err v → Stopped a w s v (brings_then k (take held items) g o)
  unfolding ◌>>=◌
  stopped (done {m = m} {d = d} {b = c} H E l C) B p =
      let e = (B.node m d refl).is table c k H q in
      record { is = ap (λ (x : Out (List ℕ)). x >>= λ (l : List ℕ). g l c) (sym e ∙ ap (brought_out items') p); stands = stands_ext E (holds_stands H) }
  stopped (stop {e = e} S) B {v} p = let z : e ≡ v = let y = sym (B.refused e refl) ∙ p in cc in record { is = ap Err z; stands = S }

  carried : {r : Out (ℕ × Counters)} {o : Out (ℕ × Arena)} → Leads table a f size w s entries r o → Brings w s r number items held items' met' b → {next : ℕ} {d : Counters} → b ≡ Ok (next, d)
      → Carried table a f size k (take held items) g w s entries items' next d o
  unfolding ◌>>=◌
  carried (done {m = m} {d = e} {b = c} H E l C) B {next} {d} p =
      let N = B.node m e refl in
      record {
        arena = c;
        holds = subst (λ (x : Counters). Holds table w s x c) (N.counters next d p) H;
        ext = E;
        cache = C;
        is = ap (λ (x : Out (List ℕ)). x >>= λ (l : List ℕ). g l c) (sym (N.is table c k H q) ∙ ap (brought_out items') p);
      }
  carried (stop {e = e} S) B p = let y = sym (B.refused e refl) ∙ p in let z : ◌≡◌ {A = ℕ} 0 1 = cc in absurd (omega arith)

  held_growing : {r : Out (ℕ × Counters)} {o : Out (ℕ × Arena)} → Leads table a f size w s entries r o → Brings w s r number items held items' met' b → {next : ℕ} {d : Counters} → b ≡ Ok (next, d) → Growing items' next met'
  held_growing (done {m = m} {d = e} H E l C) B {next} {d} p = (B.node m e refl).growing next d p
  held_growing (stop {e = e} S) B p = let y = sym (B.refused e refl) ∙ p in let z : ◌≡◌ {A = ℕ} 0 1 = cc in absurd (omega arith)

-- the counters are those after the member, and the bits of every node are set then
pub brought_covers : {w s f : List ℕ} {r : Out (ℕ × Counters)} {number : ℕ} {items : List ℕ} {held : ℕ} {items' met' : List ℕ} {b : Out (ℕ × Counters)} → CoversAfter w s r f → Brings w s r number items held items' met' b → {next : ℕ} {d : Counters} → b ≡ Ok (next, d) → CoversLent w s d f
brought_covers {w} {s} {f} {r} C B {next} {d} p = go r refl
  where
    go : (x : Out (ℕ × Counters)) → r ≡ x → CoversLent w s d f
    go (Ok (m, e)) q = subst (λ (c : Counters). CoversLent w s c f) ((B.node m e q).counters next d p) (C.is m e q)
    go (Err e) q = let y = sym (B.refused e q) ∙ p in let z : ◌≡◌ {A = ℕ} 0 1 = cc in absurd (omega arith)

-- ---- the members in turn
-- what is known of the turn i in one arena
pub record FlatIn (table : ℕ) (a : Arena) (f : ℕ → Job) (size : ℕ) (k : Polarity) (cs w s entries items : List ℕ) (held : ℕ) (last : Counters) (i : ℕ) : Type 0 where
  pub arena : Arena
  pub holds : Holds table w s last arena
  pub ext : Ext a arena
  pub cache : Cache f size arena entries
  pub same : flatten_set_op k f [] cs a ≡ flatten_set_op k f (take held items) (drop i cs) arena

pub record FlatTurn (w₀ s₀ : List ℕ) (c₀ : Counters) (n number : ℕ) (entries₀ : List ℕ) (total : ℕ) (w s entries items : List ℕ) (held : ℕ) (met : List ℕ) (last : Counters) (i : ℕ) : Type 0 where
  pub ready : ListReady w₀ s₀ c₀ n number entries₀
  pub counted : MemberCount w₀ s₀ c₀ n total
  pub turn : i ≤ total
  pub words_long : length w ≡ length w₀
  pub starts_long : length s ≡ length s₀
  pub growing : Growing items held met
  pub there : (table : ℕ) (u a : Arena) → Holds table w₀ s₀ c₀ a → Ext u a → n < length u → Cache (normalize (length w₀) (length s₀) u) (length u) a entries₀
      → FlatIn table a (normalize (length w₀) (length s₀) u) (length u) ready.side (children (at u n)) w s entries items held last i

module _ {w₀ s₀ : List ℕ} {c₀ : Counters} {n number : ℕ} {entries₀ : List ℕ} (P : ListReady w₀ s₀ c₀ n number entries₀) where
  pub list_range : InRange w₀ s₀ c₀ n
  list_range =
      let R = P.ready in
      record { lent = record { table = R.table; view = R.view; holds = R.holds }; inside = omega (arith, R.inside, ext_length R.source R.view R.beside, R.holds.nodes) }

  pub flat_start : {total : ℕ} → MemberCount w₀ s₀ c₀ n total → FlatTurn w₀ s₀ c₀ n number entries₀ total w₀ s₀ entries₀ (replicate 64 0) 0 (replicate 64 0) c₀ 0
  flat_start M = record {
    ready = P;
    counted = M;
    turn = omega arith;
    words_long = refl;
    starts_long = refl;
    growing = growing_none;
    there = λ table u a H E l C. record { arena = a; holds = H; ext = here; cache = C; same = refl };
  }

module _ {w₀ s₀ : List ℕ} {c₀ : Counters} {n number : ℕ} {entries₀ : List ℕ} {total : ℕ} {w s entries items : List ℕ} {held : ℕ} {met : List ℕ} {last : Counters} {i : ℕ} (T : FlatTurn w₀ s₀ c₀ n number entries₀ total w s entries items held met last i) where
  -- the arena that is known to be held, and its turn
  now : let R = T.ready.ready in FlatIn R.table R.view (normalize (length w₀) (length s₀) R.source) (length R.source) T.ready.side (children (at R.source n)) w s entries items held last i
  now = let R = T.ready.ready in T.there R.table R.source R.view R.holds R.beside R.inside R.cache

  -- as many members as there are turns
  total_is : {table : ℕ} {u a : Arena} → Holds table w₀ s₀ c₀ a → Ext u a → n < length u → total ≡ length (children (at u n))
  total_is {table} {u} {a} H E l = T.counted.is table a H ∙ ap (λ (x : Node). length (children x)) (ext_at u a E n l)

  tag_in : {table : ℕ} {u a : Arena} → Holds table w₀ s₀ c₀ a → Ext u a → n < length u → tag (at u n) ≡ members T.ready.side
  tag_in {table} {u} {a} H E l = ap tag (sym (ext_at u a E n l)) ∙ ap (λ (b : Arena). tag (at b n)) (unique H T.ready.ready.holds) ∙ T.ready.tag_is

  -- the list itself is still there
  pub flat_near : n < last.nodes
  flat_near = let R = T.ready.ready in omega (arith, R.inside, ext_length R.source now.arena (ext_trans R.beside now.ext), now.holds.nodes)

  pub flat_member : i < total → MemberThere w s last n i
  flat_member h =
      let R = T.ready.ready in
      let x = ext_at R.source now.arena (ext_trans R.beside now.ext) n R.inside in
      record {
        range = record { lent = record { table = R.table; view = now.arena; holds = now.holds }; inside = flat_near };
        inside = omega (arith, h, total_is R.holds R.beside R.inside, ap (λ (y : Node). length (children y)) x);
      }

  module _ (h : i < total) {x : ℕ} (M : MemberAt w s last n i x) where
    -- the member to come is that of the source
    member_is : {table : ℕ} {u a : Arena} → Holds table w₀ s₀ c₀ a → Ext u a → n < length u → Cache (normalize (length w₀) (length s₀) u) (length u) a entries₀ → x ≡ get_or (children (at u n)) i 0
    member_is {table} {u} {a} H E l C =
        let I = T.there table u a H E l C in
        M.is table I.arena I.holds ∙ ap (λ (y : Node). get_or (children y) i 0) (ext_at u I.arena (ext_trans E I.ext) n l)

    lower : x < n
    lower =
        let R = T.ready.ready in
        let g = sound_ext R.table R.beside R.holds.good in
        let y = child_lower R.table R.source g n R.inside i (omega (arith, h, total_is R.holds R.beside R.inside)) in
        omega (arith, y, member_is R.holds R.beside R.inside R.cache)

    pub flat_falls : {t : ℕ} → 4 * n + 1 ≡ t → 4 * x + 4 < t
    flat_falls q = omega (arith, lower, q)

    -- the limits are as at the start
    moved : (u : Arena) {a : Arena} → Cache (normalize (length w₀) (length s₀) u) (length u) a entries → Cache (normalize (length w) (length s) u) (length u) a entries
    moved u {a} C = subst (λ (y : ℕ). Cache (normalize y (length s) u) (length u) a entries) (sym T.words_long) (subst (λ (y : ℕ). Cache (normalize (length w₀) y u) (length u) a entries) (sym T.starts_long) C)

    pub flat_ready : Ready normalize Grown w s last x entries
    flat_ready =
        let R = T.ready.ready in
        record {
          table = R.table;
          source = R.source;
          view = now.arena;
          holds = now.holds;
          beside = ext_trans R.beside now.ext;
          inside = omega (arith, lower, R.inside);
          cache = moved R.source now.cache;
        }

    module _ {w' s' entries' : List ℕ} {r : Out (ℕ × Counters)} (D : Does normalize Grown w s last x entries w' s' entries' r) where
      pub flat_brings : Bringing w' s' r number items held met
      flat_brings = record {
        side = T.ready.side;
        kind_is = T.ready.kind_is;
        range = λ m d q.
            let R = flat_ready in
            let X = leads_done (D.is R.table R.source R.view R.holds R.beside R.inside R.cache) q in
            record { lent = record { table = R.table; view = X.arena; holds = X.holds }; inside = omega (arith, X.low, X.holds.nodes) };
        growing = T.growing;
      }

      module _ {items' met' : List ℕ} {b : Out (ℕ × Counters)} (B : Brings w' s' r number items held items' met' b) where
        module _ {table : ℕ} {u a : Arena} (H : Holds table w₀ s₀ c₀ a) (E : Ext u a) (l : n < length u) (C : Cache (normalize (length w₀) (length s₀) u) (length u) a entries₀) where
          f : ℕ → Job
          f = normalize (length w₀) (length s₀) u

          I : FlatIn table a f (length u) T.ready.side (children (at u n)) w s entries items held last i
          unfolding f
          I = T.there table u a H E l C

          -- the outcome of the member, from the arena so far
          led : Leads table I.arena f (length u) w' s' entries' r (f x I.arena)
          unfolding f I
          led =
              let p : normalize (length w) (length s) u ≡ normalize (length w₀) (length s₀) u = λ z. normalize (T.words_long z) (T.starts_long z) u in
              subst (λ (g : ℕ → Job). Leads table I.arena g (length u) w' s' entries' r (g x I.arena)) p
              (D.is table u I.arena I.holds (ext_trans E I.ext) (omega (arith, lower, l)) (moved u I.cache))

          rest : List ℕ → Arena → Out (List ℕ × Arena)
          rest l = flatten_set_op T.ready.side f l (drop (suc i) (children (at u n)))

          next : flatten_set_op T.ready.side f [] (children (at u n)) a ≡ brings_then T.ready.side (take held items) rest (f x I.arena)
          unfolding flatten_set_op rest
          next =
              let cs = children (at u n) in
              let j : i < length cs = omega (arith, h, total_is H E l) in
              I.same ∙ ap (λ (y : List ℕ). flatten_set_op T.ready.side f (take held items) y I.arena) (drop-cons cs i 0 j ∙ ap (λ (y : ℕ). y ∷ drop (suc i) cs) (sym (member_is H E l C)))

          whole : normalize (length w₀) (length s₀) u n a ≡ (flatten_set_op T.ready.side f [] (children (at u n)) a >>= λ (q : List ℕ × Arena). stand_for (length w₀) (length s₀) T.ready.side (sort q.1 q.0) q.1)
          unfolding f
          whole = at_list (length w₀) (length s₀) table u (sound_ext table E H.good) n l a T.ready.side (tag_in H E l)

        pub flat_refused : {v : Refusal} → b ≡ Err v → Does normalize Grown w₀ s₀ c₀ n entries₀ w' s' entries' (Err v)
        unfolding ◌>>=◌ f I rest
        flat_refused {v} q = record {
          is = λ table u a H E l C.
              let S = stopped T.ready.side T.ready.kind_is (rest H E l C) (led H E l C) B q in
              let o = whole H E l C ∙ ap (λ (z : Out (List ℕ × Arena)). z >>= λ (y : List ℕ × Arena). stand_for (length w₀) (length s₀) T.ready.side (sort y.1 y.0) y.1) (next H E l C ∙ S.is) in
              stop_leads (record { is = o; stands = stands_ext (I H E l C).ext S.stands });
        }

        pub flat_more : {m : ℕ} {d : Counters} → b ≡ Ok (m, d) → length w' ≡ length w → length s' ≡ length s → FlatTurn w₀ s₀ c₀ n number entries₀ total w' s' entries' items' m met' d (i + 1)
        unfolding f I rest
        flat_more {m} {d} q lw ls = record {
          ready = T.ready;
          counted = T.counted;
          turn = omega (arith, h);
          words_long = lw ∙ T.words_long;
          starts_long = ls ∙ T.starts_long;
          growing =
              let R = T.ready.ready in
              held_growing T.ready.side T.ready.kind_is (rest R.holds R.beside R.inside R.cache) (led R.holds R.beside R.inside R.cache) B q;
          there = λ table u a H E l C.
              let X = carried T.ready.side T.ready.kind_is (rest H E l C) (led H E l C) B q in
              record {
                arena = X.arena;
                holds = X.holds;
                ext = ext_trans (I H E l C).ext X.ext;
                cache = X.cache;
                same = next H E l C ∙ X.is ∙ ap (λ (j : ℕ). flatten_set_op T.ready.side (normalize (length w₀) (length s₀) u) (take m items') (drop j (children (at u n))) X.arena) (sym (add-one i));
              };
        }

  -- ---- all of them
  module _ (h : total ≤ i) where
    module _ {table : ℕ} {u a : Arena} (H : Holds table w₀ s₀ c₀ a) (E : Ext u a) (l : n < length u) (C : Cache (normalize (length w₀) (length s₀) u) (length u) a entries₀) where
      J : FlatIn table a (normalize (length w₀) (length s₀) u) (length u) T.ready.side (children (at u n)) w s entries items held last i
      J = T.there table u a H E l C

      made : flatten_set_op T.ready.side (normalize (length w₀) (length s₀) u) [] (children (at u n)) a ≡ Ok (take held items, J.arena)
      unfolding flatten_set_op J
      made =
          let none : drop i (children (at u n)) ≡ [] = drop_of_length-le (children (at u n)) {i = i} (omega (arith, h, total_is H E l)) in
          J.same ∙ ap (λ (y : List ℕ). flatten_set_op T.ready.side (normalize (length w₀) (length s₀) u) (take held items) y J.arena) none

      flat : Flat 1 (take held items) J.arena
      unfolding J
      flat = ((flat_list (length w₀) (length s₀) table H.few_starts u (sound_ext table E H.good) n l T.ready.side (tag_in H E l)).is a J.arena (take held items) E H.good made).inside

    pub flat_filled : Filled w s last number items held
    unfolding J
    flat_filled =
        let R = T.ready.ready in
        let F = flat R.holds R.beside R.inside R.cache in
        let X = J R.holds R.beside R.inside R.cache in
        record {
          listing = record {
            gathering = record { lent = record { table = R.table; view = X.arena; holds = X.holds }; side = T.ready.side; kind_is = T.ready.kind_is; low = ap (λ (z : ℕ). below z (take held items)) X.holds.nodes ∙ F.low };
            room = T.growing.room;
          };
          some = omega (arith, F.some (omega arith), room_length T.growing.room);
        }

    -- what stands for it grew from the arena that it was made in
    stand_for_ext : (lw ls : ℕ) (k : Polarity) (l : List ℕ) (a : Arena) (m : ℕ) (d : Arena) → stand_for lw ls k l a ≡ Ok (m, d) → Ext a d
    stand_for_ext lw ls k l a m d e = go (ℕ_discrete (length l) 1)
      where
        go : Dec (length l ≡ 1) → Ext a d
        go (yes q) = subst (Ext a) (ap (λ (z : ℕ × Arena). z.1) (ok_same (sym (stand_for_one lw ls k l a q) ∙ e))) here
        go (no f) = done_ext (interning.done lw ls (node (members k) l) a m d (sym (stand_for_several lw ls k l a f) ∙ e))

    pub flat_done : {w' s' : List ℕ} {r : Out (ℕ × Counters)} → StandsFor w s last number items held w' s' r → length w' ≡ length w → length s' ≡ length s → Does normalize Grown w₀ s₀ c₀ n entries₀ w' s' entries r
    unfolding ◌>>=◌ J
    flat_done {w'} {s'} {r} S lw ls = record {
      is = λ table u a H E l C.
          let X = J H E l C in
          let g = sound_ext table E H.good in
          let list = sort X.arena (take held items) in
          let pw = sym T.words_long in
          let ps = sym T.starts_long in
          let o : normalize (length w₀) (length s₀) u n a ≡ stand_for (length w) (length s) T.ready.side list X.arena =
          at_list (length w₀) (length s₀) table u g n l a T.ready.side (tag_in H E l)
          ∙ ap (λ (z : Out (List ℕ × Arena)). z >>= λ (y : List ℕ × Arena). stand_for (length w₀) (length s₀) T.ready.side (sort y.1 y.0) y.1) (made H E l C)
          ∙ (λ z. stand_for (pw z) (ps z) T.ready.side list X.arena) in
          subst (Leads table a (normalize (length w₀) (length s₀) u) (length u) w' s' entries r) (sym o)
          (reply_leads lawful r (stand_for (length w) (length s) T.ready.side list X.arena) H.few_starts X.holds X.ext (ext_trans E X.ext) X.cache lw ls
          (λ m b p.
          let N = (normalize_steady (length w₀) (length s₀) table H.few_starts u g n l).is a b m E H.good (o ∙ p) in
          record { ext = stand_for_ext (length w) (length s) T.ready.side list X.arena m b p; good = N.good; low = N.inside })
          (S.is table X.arena T.ready.side X.holds T.ready.kind_is));
    }
