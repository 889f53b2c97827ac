-- A node in memory: a variable, or any other node, whose children are renumbered before it.
use Prim.Native.Nat.{ℕ, ◌+◌, ◌*◌, ◌<◌, ◌≤◌}
use mathlib.Core.Path.{◌≡◌, refl, sym, ap, ◌∙◌, subst}
use mathlib.Core.List.{List}
use mathlib.Core.Option.{none}
use native.Mathlib.Omega.{arith}
use lib.ListN.{length, take}
use lib.Seq.{length-take-le}
use Rattle.std.specs.Prelude.{Ok, Err}
use Rattle.types.specs.declared.refusal.Refusal.{Refusal}
use Rattle.types.specs.Out.{Out}
use Rattle.types.specs.Kind.{disc}
use Rattle.types.specs.Node.{Tag, members, bound, var, neg, form, Node, node, tag, kind, children, below}
use Rattle.types.specs.Arena.{at, here}
use Rattle.types.specs.Reply.{reply_of}
use Rattle.types.specs.declared.Counters.{Counters}
use Rattle.types.proofs.Growth.{ext_length, ext_at}
use Rattle.types.proofs.Sound.{sound_ext, children_below}
use Rattle.node_store.specs.Inner.Stored.{InRange}
use Rattle.node_store.specs.Intern.{intern}
use Rattle.node_reading.specs.Inner.{KindAt}
use Rattle.rebuilding.specs.Inner.Children.{AllChildren}
use Rattle.rebuilding.specs.Inner.Rebuilt.{Rebuilding, Rebuilds}
use Rattle.rebuilding.specs.declared.children.Children.{Children}
use Rattle.recursion.specs.Inner.Work.{Leads, Ready, Does, EachReady, DoesEach}
use Rattle.recursion.proofs.Leading.{each_done, reply_leads}
use Rattle.recursion.proofs.Nodes.{Rebuilt, InternsAs, node_refused, node_done}
use Rattle.free_vars.proofs.Occurrences.{kind_var}
use Rattle.renumbering.specs.Renumbered.{index, var_number, var_node, renumbered}
use Rattle.renumbering.specs.Inner.{Numbered, VarAt, RenumbersVar}
use Rattle.renumbering.proofs.Renumbering.{at_var, at_other, renumbered_steady, lawful}

pub no_var : (t : Tag) → (disc (kind t) ≡ 3 → ⊥) → var_number t ≡ none
no_var (members k) f = refl
no_var (bound k) f = refl
no_var (var v) f = absurd (f refl)
no_var neg f = refl
no_var (form x) f = refl

module _ {vars w s : List ℕ} {c : Counters} {n : ℕ} {entries : List ℕ} (P : Ready (renumbered vars) (Numbered vars) w s c n entries) where
  inside : n < c.nodes
  inside = omega (arith, P.inside, ext_length P.source P.view P.beside.grown, P.holds.nodes)

  pub ready_range : InRange w s c n
  ready_range = record { lent = record { table = P.table; view = P.view; holds = P.holds }; inside = inside }

  pub ready_wide : {x : ℕ} → x ≡ n → InRange w s c x
  ready_wide e = subst (InRange w s c) (sym e) ready_range

  pub ready_few : length vars ≤ 4096
  ready_few = P.beside.few

  pub each_falls : {t : ℕ} → 3 * n + 1 ≡ t → 3 * n < t
  each_falls e = omega (arith, e)

  pub same_falls : {t : ℕ} → 3 * n + 2 ≡ t → 3 * n + 1 < t
  same_falls e = omega (arith, e)

  module _ {x k : ℕ} (e : x ≡ n) (K : KindAt w s c x k) where
    kind_here : KindAt w s c n k
    kind_here = subst (λ (i : ℕ). KindAt w s c i k) e K

    -- ---- a variable
    pub ready_var : k ≡ 3 → VarAt w s c n
    ready_var q = record { lent = record { table = P.table; view = P.view; holds = P.holds }; inside = inside; kind_is = subst (KindAt w s c n) q kind_here }

    pub var_done : k ≡ 3 → {w' s' : List ℕ} {r : Out (ℕ × Counters)} → RenumbersVar vars w s c n w' s' r → length w' ≡ length w → length s' ≡ length s → Does (renumbered vars) (Numbered vars) w s c n entries w' s' entries r
    var_done q {w'} {s'} {r} R lw ls = record {
      is = λ table u a H N l C.
          let T = kind_var (tag (at a n)) (sym (kind_here.is table a H) ∙ q) in
          let t : tag (at u n) ≡ var T.number = ap tag (sym (ext_at u a N.grown n l)) ∙ T.is in
          let x = var_node (index vars T.number) in
          let g = sound_ext table N.grown H.good in
          let o : renumbered vars (length w) (length s) u n a ≡ intern (length w) (length s) x a = at_var vars (length w) (length s) table u g n l a T.number t in
          subst (Leads table a (renumbered vars (length w) (length s) u) (length u) w' s' entries r) (sym o)
          (reply_leads lawful r (intern (length w) (length s) x a) H.few_starts H here N C lw ls
          (λ m b p.
          let S = (renumbered_steady vars (length w) (length s) table H.few_starts N.few u g n l).is a b m N.grown H.good (o ∙ p) in
          record { ext = S.ext; good = S.good; low = S.inside })
          (R.is table a T.number H T.is));
    }

  -- ---- its children
  module _ {r : Children} (L : AllChildren w s c n r) where
    pub children_ready : EachReady (renumbered vars) (Numbered vars) w s c n r.items r.count entries
    children_ready =
        let X = L.is P.table P.view P.holds in
        record { ready = P; long = X.long; few = X.few; low = ap (below n) X.is ∙ children_below P.table P.view P.holds.good n (omega (arith, inside, P.holds.nodes)) }

    module _ {w' s' items' entries' : List ℕ} {g : Out Counters} (E : DoesEach (renumbered vars) (Numbered vars) w s c n r.items r.count entries w' s' items' entries' g) {d : Counters} (q : g ≡ Ok d) where
      pub rebuilding : Rebuilding w' s' d n items' r.count
      rebuilding =
          let D = each_done (E.is P.table P.source P.view P.holds P.beside P.inside P.cache) q in
          let l : n < length P.view = omega (arith, inside, P.holds.nodes) in
          let x = ext_at P.view D.arena D.ext n l in
          let X = L.is P.table P.view P.holds in
          let y : length (take r.count r.items) ≡ r.count = length-take-le r.count r.items (omega (arith, X.long, X.few)) in
          record {
            lent = record { table = P.table; view = D.arena; holds = D.holds };
            inside = omega (arith, l, ext_length P.view D.arena D.ext, D.holds.nodes);
            long = D.long;
            count_is = sym y ∙ ap length X.is ∙ ap (λ (z : Node). length (children z)) (sym x);
            low = ap (λ (z : ℕ). below z (take r.count items')) D.holds.nodes ∙ D.low;
          }

-- the answer is that of the node with the children that it has by then
interns_as : {vars w s : List ℕ} {c : Counters} {n : ℕ} {items : List ℕ} {count : ℕ} {w' s' : List ℕ} {r : Out (ℕ × Counters)} → Rebuilds w s c n items count w' s' r → InternsAs (Numbered vars) (λ t. t) w s c n items count w' s' r
interns_as {w = w} {s} {c} {n} {items} {count} R = record {
  is = λ table u a H N l. R.is table a H ∙ ap (λ (y : Node). reply_of w s c (intern (length w) (length s) (node (tag y) (take count items)) a)) (ext_at u a N.grown n l);
}

-- ---- any other node
module _ {vars w s : List ℕ} {c : Counters} {n : ℕ} {entries : List ℕ} (P : Ready (renumbered vars) (Numbered vars) w s c n entries) {x k : ℕ} (e : x ≡ n) (K : KindAt w s c x k) {r : Children} (L : AllChildren w s c n r)
    {w' s' items' entries' : List ℕ} {g : Out Counters} (E : DoesEach (renumbered vars) (Numbered vars) w s c n r.items r.count entries w' s' items' entries' g) where
  rebuilt : (k ≡ 3 → ⊥) → Rebuilt (renumbered vars) (Numbered vars) (λ t. t) w s c n r.items r.count
  rebuilt f = record {
    kids = λ table u a H N l. (L.is table a H).is ∙ ap children (ext_at u a N.grown n l);
    step = λ table u a H N l b.
        at_other vars (length w) (length s) table u (sound_ext table N.grown H.good) n l b
        (no_var (tag (at u n)) (λ z. f (K.is table a H ∙ ap (λ (i : ℕ). disc (kind (tag (at a i)))) e ∙ ap (λ (y : Node). disc (kind (tag y))) (ext_at u a N.grown n l) ∙ z)));
  }

  pub other_refused : {v : Refusal} → g ≡ Err v → (k ≡ 3 → ⊥) → Does (renumbered vars) (Numbered vars) w s c n entries w' s' entries' (Err v)
  other_refused q f = node_refused lawful (rebuilt f) E q

  pub other_done : {d : Counters} → g ≡ Ok d → {w'' s'' : List ℕ} {i : Out (ℕ × Counters)} → Rebuilds w' s' d n items' r.count w'' s'' i → (k ≡ 3 → ⊥) → length w' ≡ length w → length s' ≡ length s → length w'' ≡ length w' → length s'' ≡ length s'
      → Does (renumbered vars) (Numbered vars) w s c n entries w'' s'' entries' i
  other_done q R f lw ls lw' ls' = node_done lawful (rebuilt f) E q (interns_as R) lw ls lw' ls'
