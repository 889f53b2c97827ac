-- A whole call in an arena that is known to be sound: the list of variables, the unknown variable, and an empty cache.
use Prim.Native.Nat.{ℕ, ◌<◌, ◌≤◌}
use mathlib.Core.Path.{◌≡◌, refl, sym, ap, ◌∙◌, subst}
use mathlib.Core.Bool.{Bool, true, false, ◌&&◌}
use mathlib.Core.List.{List, [], ◌∷◌}
use native.Mathlib.Omega.{arith}
use lib.ListN.{length, take, replicate}
use lib.Seq.{take_at, length-take-le}
use lib.Dec.{eqb}
use borrow.Author.Tests.{eqb-true, eq-eqb}
use Rattle.std.specs.Prelude.{Ok}
use Rattle.types.specs.Out.{Out}
use Rattle.types.specs.Node.{var, tag, kind}
use Rattle.types.specs.Kind.{disc}
use Rattle.types.specs.Arena.{Arena, at, here}
use Rattle.types.specs.Memory.{Holds}
use Rattle.types.specs.declared.Counters.{Counters}
use Rattle.types.proofs.Tests.{true_false, and_true}
use Rattle.types.proofs.Lists.{length_padded}
use Rattle.types.proofs.Addresses.{start_room}
use Rattle.node_store.specs.Inner.Stored.{InRange}
use Rattle.node_store.specs.Intern.{intern}
use Rattle.node_store.specs.Inner.Added.{Interns}
use Rattle.walks.specs.Inner.Asked.{Says}
use Rattle.node_reading.specs.Inner.{KindAt}
use Rattle.recursion.specs.Inner.Work.{Leads, Ready, Does}
use Rattle.recursion.specs.Inner.Hosted.{LeadsOnce, done, Works}
use Rattle.recursion.proofs.Steady.{intern_steady}
use Rattle.recursion.proofs.Leading.{leads_once, reply_once}
use Rattle.recursion.proofs.Remembering.{cache_none}
use Rattle.free_vars.specs.FreeVars.{free_type_vars, free_list}
use Rattle.free_vars.specs.declared.VarList.{VarList}
use Rattle.free_vars.proofs.Occurrences.{kind_var}
use Rattle.free_vars.proofs.VarPlaces.{listed_few}
use Rattle.renumbering.specs.Renumbered.{var_node, renumbered}
use Rattle.types.specs.Tyvar.{unknown}
use Rattle.renumber.specs.Renumber.{by_vars, normalize_vars, normalize}
use Rattle.renumbering.specs.Inner.{Numbered, VarWords}
use Rattle.renumbering.proofs.VarNodes.{var_well}
use Rattle.renumbering.proofs.Working.{no_var}

-- ---- normalize_vars
module _ {w s : List ℕ} {c : Counters} {root : ℕ} (P : InRange w s c root) {array : List ℕ} {count : ℕ} (S : Says free_list w s c root (record { vars = array; count = count })) where
  inside : {table : ℕ} {a : Arena} → Holds table w s c a → root < length a
  inside H = omega (arith, P.inside, H.nodes)

  few_nodes : {table : ℕ} {a : Arena} → Holds table w s c a → length a ≤ 4096
  few_nodes H = omega (arith, start_room H, H.few_starts, H.nodes)

  count_is : {table : ℕ} {a : Arena} → Holds table w s c a → count ≡ length (free_type_vars a root)
  unfolding free_list
  count_is {table} {a} H = ap (λ (r : VarList). r.count) (S.is table a H)

  pub listed : {table : ℕ} {a : Arena} → Holds table w s c a → take count array ≡ free_type_vars a root
  unfolding free_list
  listed {table} {a} H = ap (λ (r : VarList). take r.count r.vars) (S.is table a H) ∙ take_at (free_type_vars a root) _ (length (free_type_vars a root)) refl

  few_listed : {table : ℕ} {a : Arena} → Holds table w s c a → length (free_type_vars a root) ≤ 4096
  few_listed {table} {a} H = omega (arith, few_nodes H, listed_few table a H.good root (inside H))

  pub vars_room : count ≤ length array
  unfolding free_list
  vars_room =
      let H = P.lent.holds in
      let vs = free_type_vars P.lent.view root in
      let q : length array ≡ 4096 = ap (λ (r : VarList). length r.vars) (S.is P.lent.table P.lent.view H) ∙ length_padded 4096 vs (few_listed H) in
      omega (arith, q, count_is H, few_listed H)

  pub vars_counted : count ≡ length (take count array)
  vars_counted = sym (length-take-le count array vars_room)

  pub vars_ready : Ready (renumbered (take count array)) (Numbered (take count array)) w s c root (replicate 4096 0)
  vars_ready =
      let H = P.lent.holds in
      record {
        table = P.lent.table;
        source = P.lent.view;
        view = P.lent.view;
        holds = H;
        beside = record { grown = here; few = subst (λ (vs : List ℕ). length vs ≤ 4096) (sym (listed H)) (few_listed H) };
        inside = inside H;
        cache = cache_none;
      }

  none_left : (vs : List ℕ) (a : Arena) → length vs ≡ 0 → by_vars (length w) (length s) root vs a ≡ Ok (root, a)
  unfolding by_vars
  none_left [] a e = refl
  none_left (v ∷ vs) a e = absurd (omega arith)

  some_left : (vs : List ℕ) (a : Arena) → (length vs ≡ 0 → ⊥) → by_vars (length w) (length s) root vs a ≡ renumbered vs (length w) (length s) a root a
  unfolding by_vars
  some_left [] a f = absurd (f refl)
  some_left (v ∷ vs) a f = refl

  -- a type without variables
  pub vars_none : count ≡ 0 → Works normalize_vars w s c root w s (Ok (root, c))
  unfolding normalize_vars
  vars_none e = record {
    is = λ table a H. subst (LeadsOnce table a w s (Ok (root, c))) (sym (none_left (free_type_vars a root) a (sym (count_is H) ∙ e))) (done H here (inside H));
  }

  pub vars_done : (count ≡ 0 → ⊥) → {w' s' entries : List ℕ} {r : Out (ℕ × Counters)} → Does (renumbered (take count array)) (Numbered (take count array)) w s c root (replicate 4096 0) w' s' entries r → Works normalize_vars w s c root w' s' r
  unfolding normalize_vars
  vars_done f {w'} {s'} {entries} {r} D = record {
    is = λ table a H.
        let vs = free_type_vars a root in
        let o = some_left vs a (λ z. f (count_is H ∙ z)) in
        subst (LeadsOnce table a w' s' r) (sym o)
        (leads_once (subst (λ (us : List ℕ). Leads table a (renumbered us (length w) (length s) a) (length a) w' s' entries r (renumbered us (length w) (length s) a root a)) (listed H)
        (D.is table a a H (record { grown = here; few = subst (λ (us : List ℕ). length us ≤ 4096) (sym (listed H)) (few_listed H) }) (inside H) cache_none)));
  }

-- ---- the unknown variable
module _ (words starts root : ℕ) (a : Arena) where
  unknown_var : (v : ℕ) → tag (at a root) ≡ var v → normalize true words starts root a ≡ intern words starts (var_node unknown) a
  unfolding normalize
  unknown_var v e = rw (normalize, e)

  known_type : (u : Bool) → (u ≡ true → disc (kind (tag (at a root))) ≡ 3 → ⊥) → normalize u words starts root a ≡ normalize_vars words starts root a
  unfolding normalize
  known_type false f = refl
  known_type true f = rw (normalize, no_var (tag (at a root)) (f refl))

module _ {w s : List ℕ} {c : Counters} {root x k : ℕ} (e : x ≡ root) (K : KindAt w s c x k) where
  kind_is : {table : ℕ} {a : Arena} → Holds table w s c a → k ≡ disc (kind (tag (at a root)))
  kind_is {table} {a} H = K.is table a H ∙ ap (λ (i : ℕ). disc (kind (tag (at a i)))) e

  pub unknown_done : (u : Bool) → (u && eqb k 3) ≡ true → {ws w' s' : List ℕ} {r : Out (ℕ × Counters)} → VarWords unknown ws → Interns w s c ws w' s' r → length w' ≡ length w → length s' ≡ length s → Works (normalize u) w s c root w' s' r
  unknown_done u q {w' = w'} {s'} {r} X I lw ls = record {
    is = λ table a H.
        let b = and_true u (eqb k 3) q in
        let T = kind_var (tag (at a root)) (sym (kind_is H) ∙ eqb-true k 3 b.1) in
        let o : normalize u (length w) (length s) root a ≡ intern (length w) (length s) (var_node unknown) a
        = ap (λ (z : Bool). normalize z (length w) (length s) root a) b.0 ∙ unknown_var (length w) (length s) root a T.number T.is in
        subst (LeadsOnce table a w' s' r) (sym o)
        (reply_once r (intern (length w) (length s) (var_node unknown) a) H lw ls
        (λ m d p.
        let F = (intern_steady (length w) (length s) table H.few_starts a (var_node unknown) (λ y z f. var_well table (length y) unknown (omega arith))).is a d m here H.good p in
        record { ext = F.ext; good = F.good; low = F.inside })
        (I.is table a (var_node unknown) H (X.is table (length a))));
  }

  pub known_done : (u : Bool) → (u && eqb k 3) ≡ false → {w' s' : List ℕ} {r : Out (ℕ × Counters)} → Works normalize_vars w s c root w' s' r → Works (normalize u) w s c root w' s' r
  known_done u q {w'} {s'} {r} N = record {
    is = λ table a H. subst (LeadsOnce table a w' s' r) (sym (known_type (length w) (length s) root a u (λ z t. true_false (sym (ap (λ (b : Bool). b && eqb k 3) z ∙ eq-eqb k 3 (kind_is H ∙ t)) ∙ q)))) (N.is table a H);
  }
