-- From an empty list to the answer: the variables of the root, or the number of a refusal.
use Prim.Native.Nat.{ℕ, ◌<◌, ◌≤◌}
use mathlib.Core.Path.{◌≡◌, refl, sym, ap, ◌∙◌, subst}
use mathlib.Core.List.{List, []}
use native.Mathlib.Omega.{arith}
use lib.ListN.{replicate, length-replicate}
use Rattle.std.specs.Prelude.{Ok, Err}
use Rattle.types.specs.Out.{Out}
use Rattle.types.specs.Arena.{Arena}
use Rattle.types.specs.Memory.{padded}
use Rattle.types.specs.declared.Counters.{Counters}
use Rattle.types.proofs.Tests.{true_false}
use Rattle.types.proofs.Memories.{unique}
use Rattle.bits.proofs.Sets.{has_none}
use Rattle.types.specs.declared.refusal.Refusal.TheVariants as refusal
use Rattle.types.specs.declared.refusal.Refusal.{Refusal}
use Rattle.node_store.specs.Inner.Stored.{InRange}
use Rattle.soundness.specs.Inner.Sound.{lent_reply}
use Rattle.soundness.proofs.Verdicts.{lent_known}
use Rattle.walks.specs.Asked.{asking, ask_reply}
use Rattle.walks.specs.Inner.Asked.{Says, Answers}
use Rattle.walks.proofs.Asking.{root_out, root_in, ask_refused, ask_done}
use Rattle.free_vars.specs.FreeVars.{contains, free_list, distinct}
use Rattle.free_vars.specs.Theorems.{AnsweredOut}
use Rattle.free_vars.specs.Inner.{Listing, Collecting, Collects, Lists, ListsIn}
use Rattle.free_vars.specs.declared.VarList.{VarList}

-- ---- nothing is marked, nothing is listed
none_there : replicate 4096 0 ≡ padded 4096 []
none_there = refl

none_listed : (a : Arena) {vars : List ℕ} → vars ≡ padded 4096 [] → Listing a (replicate 64 0) vars 0 []
unfolding distinct contains
none_listed a e = record {
  rows = length-replicate {A = ℕ} 64 0;
  array = e;
  counted = refl;
  once = refl;
  closed = λ n h. absurd (true_false (sym h ∙ has_none 64 n));
  marked = λ v h. absurd (true_false (sym h));
}

module _ {w s : List ℕ} {c : Counters} {n : ℕ} {vars : List ℕ} (e : vars ≡ padded 4096 []) where
  pub collect_start : InRange w s c n → Collecting w s c n (replicate 64 0) vars 0
  collect_start R = record { lent = R.lent; inside = R.inside; list = []; listing = none_listed R.lent.view e }

  pub vars_said : {done vars' : List ℕ} {count : ℕ} → Collects w s c n (replicate 64 0) vars 0 done vars' count → Says free_list w s c n (record { vars = vars'; count = count })
  unfolding free_list
  vars_said D = record { is = λ table a H. let L = D.is table a H [] (none_listed a e) in λ i. record { vars = L.array i; count = L.counted i } }

-- ---- after 6
module _ {w s : List ℕ} {c : Counters} {root x : ℕ} (e : x ≡ root) where
  pub list_six : c.nodes ≤ x → {vars : List ℕ} → ListsIn w s c root vars vars (Err refusal.NoSuchRoot)
  list_six h = record { is = λ table a H. record { is = (root_out free_list (subst (λ (k : ℕ). c.nodes ≤ k) e h)).is table a H; kept = λ n p. refl } }

  pub list_root : x < c.nodes → {vars vars' : List ℕ} {count : ℕ} → Says free_list w s c root (record { vars = vars'; count = count }) → ListsIn w s c root vars vars' (Ok count)
  list_root h S = record {
    is = λ table a H. record {
      is = (root_in free_list (subst (λ (k : ℕ). k < c.nodes) e h) S).is table a H;
      kept = λ n p. let z : ◌≡◌ {A = ℕ} 0 1 = cc in absurd (omega arith);
    };
  }

-- ---- after the verdict
module _ (t w s : List ℕ) (c : Counters) (root : ℕ) where
  pub list_refused : {e : Refusal} → Err e ≡ lent_reply t w s c → {vars : List ℕ} → Lists (ask_reply free_list t w s c root) vars vars (Err e)
  list_refused e = record { is = ask_refused free_list t w s c root e; kept = λ n q. refl }

  pub list_done : {k : ℕ} → Ok k ≡ lent_reply t w s c → {vars vars' : List ℕ} {r : Out ℕ} → ListsIn w s c root vars vars' r → Lists (ask_reply free_list t w s c root) vars vars' r
  list_done e {vars} {vars'} {r} I =
      let L = lent_known t w s c e in
      let A : Answers free_list w s c root (asking free_list root L.view) = record { is = λ k a H. ap (asking free_list root) (unique L.holds H) } in
      subst (λ (o : Out VarList). Lists o vars vars' r) (ask_done free_list t w s c root e refl A) (I.is _ L.view L.holds)

-- ---- the list by value
pub list_given : {o : Out VarList} {vars vars' : List ℕ} {n : ℕ} → Lists o vars vars' (Ok n) → Ok (record { vars = vars'; count = n }) ≡ o
list_given L = L.is

pub none_given : {o : Out VarList} {vars vars' : List ℕ} {e : Refusal} → Lists o vars vars' (Err e) → Err e ≡ o
none_given L = L.is

-- ---- an answer read back
pub answered_out : AnsweredOut
answered_out vars (Ok l) = refl
answered_out vars (Err e) = refl
