-- `normalize_set_ops` doesn't change whether a fix fits: what a node takes, and whether it has a variable, depends on member lists only as sets, since a list passes each of
-- some tests exactly if a member does. What the run leaves has room, and so the call `fits` finds it.
use Prim.Native.Nat.{ℕ, ◌-◌, ◌<◌}
use mathlib.Core.Path.{◌≡◌, refl, sym, ap, ap₂, ◌∙◌, subst}
use mathlib.Core.Bool.{Bool, true, false, not, ◌&&◌, ◌||◌, or-false, not-not}
use mathlib.Core.List.{List, [], ◌∷◌, ◌++◌, Memᴰ as Mem}
use lib.ListN.{length}
use lib.Dec.{eqb}
use Rattle.std.specs.Prelude.{Ok, Err}
use Rattle.types.specs.declared.refusal.Refusal.TheVariants as refusal
use Rattle.types.specs.Out.{Out, required, ◌>>=◌}
use Rattle.types.specs.Kind.{disc}
use Rattle.types.specs.Node.{Polarity, positive, negative, Tag, members, Node, node, tag, kind, children}
use Rattle.types.specs.Arena.{Arena, at, here}
use Rattle.types.specs.Reply.{reply, reply_of, rooted}
use Rattle.types.specs.declared.Counters.{Counters}
use Rattle.types.proofs.Tests.{same_truth}
use Rattle.types.proofs.Replies.{rooted_yes}
use Rattle.names.specs.Table.{Name}
use Rattle.node_store.proofs.Interning.{done}
use Rattle.soundness.specs.Lent.{lent_to}
use Rattle.soundness.specs.Inner.Sides.{Side}
use Rattle.soundness.proofs.Sides.{side_to}
use Rattle.walks.specs.Reach.{some_of}
use Rattle.questions.specs.Vars.{kind_has, has_var, has_type_vars}
use Rattle.recursion.specs.Jobs.{Job}
use Rattle.recursion.specs.Hosted.{work_reply}
use Rattle.recursion.proofs.Answers.{ok_same, ok_err, bind_parts}
use Rattle.simplification.specs.Pass.{one_of, first_copies, list_kind}
use Rattle.simplification.proofs.Answers.{one_true, one_if, one_append}
use Rattle.copying.proofs.Rooms.{Roomy, Keeps, done_roomy, rebuild_keeps}
use Rattle.member_sorting.specs.Sort.{sort}
use Rattle.set_op_lists.specs.SetOps.{brings, flatten_set_op, stand_for, set_ops_step, normalize, normalize_set_ops}
use Rattle.set_ops_pass.proofs.Normalizing.{normalize_steady}
use Rattle.set_ops.specs.Theorems.{Normalizes, ByMembers}
use Rattle.set_ops.proofs.Folding.{normalized_fold}
use Rattle.fix_values.specs.Fix.{Fix, fix_of}
use Rattle.fitting.specs.Fits.{Test, some_pass, all_pass, node_takes, takes, fits}
use Rattle.fits.specs.Fits.{fits_type, fits_root, fits_reply}
use Rattle.lang_ty.specs.Theorems.{FitsNormalizes}
use Rattle.lang_ty.proofs.Numbers.{by_test, by_option, rec_all}
use Rattle.lang_ty.proofs.Copies.{lent_cases, rooted_cases, reply_not, left_so, left_held}
use Rattle.lang_ty.proofs.Imports.{roomy}

-- ---- one of a list passes
module _ {A : Type 0} (p : A → Bool) where
  one_within : (xs ys : List A) → ((x : A) → Mem x xs → Mem x ys) → one_of p xs ≡ true → one_of p ys ≡ true
  one_within xs ys h e = let r = one_true p xs e in one_if p ys r.0 (h r.0 r.1) r.2

-- ---- a value that tests tell apart depends on member lists only as sets, if a list passes each test exactly if a member does
module _ {Y I : Type 0} (value : Tag → List Y → Y) (test : Polarity → I → Y → Bool) where
  by_tests : ((k : Polarity) (x y : Y) → ((i : I) → test k i x ≡ test k i y) → x ≡ y) → ((k : Polarity) (i : I) (ys : List Y) → test k i (value (members k) ys) ≡ one_of (test k i) ys) → ByMembers value
  unfolding one_of
  by_tests apart is = record {
    one = λ k y. apart k _ _ (λ i. is k i (y ∷ []) ∙ or-false (test k i y));
    same = λ k xs ys f g. apart k _ _ (λ i. is k i xs ∙ same_truth _ _ (one_within (test k i) xs ys f) (one_within (test k i) ys xs g) ∙ sym (is k i ys));
    spliced = λ k xs ys. apart k _ _ (λ i.
        is k i (value (members k) xs ∷ ys) ∙ ap (λ (b : Bool). b || one_of (test k i) ys) (is k i xs) ∙ sym (one_append (test k i) xs ys) ∙ sym (is k i (xs ++ ys)));
  }

-- ---- what a node takes: a union takes a value if a member does, and an intersection leaves one out if a member does
some_one : (ts : List Test) (v : ℕ) → some_pass ts v ≡ one_of (λ (t : Test). t v) ts
unfolding some_pass one_of
some_one [] v = refl
some_one (t ∷ ts) v = ap (λ (b : Bool). t v || b) (some_one ts v)

all_one : (ts : List Test) (v : ℕ) → not (all_pass ts v) ≡ one_of (λ (t : Test). not (t v)) ts
unfolding all_pass one_of
all_one [] v = refl
all_one (t ∷ ts) v = go (t v) (all_one ts v)
  where
    go : (b : Bool) → not (all_pass ts v) ≡ one_of (λ (t : Test). not (t v)) ts → not (b && all_pass ts v) ≡ (not b || one_of (λ (t : Test). not (t v)) ts)
    go true e = e
    go false e = refl

not_injective : (x y : Bool) → not x ≡ not y → x ≡ y
not_injective x y e = sym (not-not x) ∙ ap not e ∙ not-not y

tells : Polarity → ℕ → Test → Bool
tells positive v t = t v
tells negative v t = not (t v)

takes_by_members : (f : Fix) → ByMembers (node_takes f)
unfolding node_takes tells
takes_by_members f = by_tests (node_takes f) tells apart is
  where
    apart : (k : Polarity) (x y : Test) → ((v : ℕ) → tells k v x ≡ tells k v y) → x ≡ y
    apart positive x y h = λ i v. h v i
    apart negative x y h = λ i v. not_injective (x v) (y v) (h v) i

    is : (k : Polarity) (v : ℕ) (ts : List Test) → tells k v (node_takes f (members k) ts) ≡ one_of (tells k v) ts
    is positive v ts = some_one ts v
    is negative v ts = all_one ts v

-- ---- a list has a variable if a member has
some_of_one : (bs : List Bool) → some_of bs ≡ one_of (λ (b : Bool). b) bs
unfolding some_of one_of
some_of_one [] = refl
some_of_one (b ∷ bs) = ap (λ (x : Bool). b || x) (some_of_one bs)

abbrev var_value : Tag → List Bool → Bool
var_value t bs = kind_has false (disc (kind t)) bs

vars_by_members : ByMembers var_value
vars_by_members = by_tests var_value (λ (k : Polarity) (i : Unit {0}) (b : Bool). b) (λ k x y h. h tt) is
  where
    is : (k : Polarity) (i : Unit {0}) (bs : List Bool) → var_value (members k) bs ≡ one_of (λ (b : Bool). b) bs
    is positive i bs = some_of_one bs
    is negative i bs = some_of_one bs

-- ---- over the definitions
module _ (words starts table : ℕ) (a : Arena) (root m : ℕ) (b : Arena) (N : Normalizes words starts table a root m b) where
  same_values : (f : Fix) → takes f b m ≡ takes f a root
  unfolding takes
  same_values f = normalized_fold (node_takes f) (takes_by_members f) words starts table a root m b N

  same_variables : has_type_vars b m ≡ has_type_vars a root
  unfolding has_var
  same_variables = normalized_fold var_value vars_by_members words starts table a root m b N

  same_type : (f : Fix) → fits_type b m f ≡ fits_type a root f
  unfolding fits_type fits
  same_type f = ap₂ (λ (x y : Bool). elim x as (λ _. Out Bool) [ true ↦ Err refusal.HasVariable | false ↦ Ok y ]) same_variables (ap (λ (t : Test). t (length f - 1)) (same_values f))

  same_root : m < length b → (names : ℕ) (ws : List ℕ) → fits_root names m ws b ≡ fits_root names root ws a
  unfolding fits_root
  same_root l names ws =
      rooted_yes m (λ (x : Arena). required refusal.MalformedFix (fix_of names ws) (fits_type x m)) b l
      ∙ (λ i. required refusal.MalformedFix (fix_of names ws) (λ (f : Fix). same_type f i))
      ∙ sym (rooted_yes root (λ (x : Arena). required refusal.MalformedFix (fix_of names ws) (fits_type x root)) a N.inside)

-- ---- a finished run leaves room where there was
module _ (words starts : ℕ) where
  flatten_keeps : (k : Polarity) (f : ℕ → Job) → ((n : ℕ) → Keeps words starts (f n)) → (acc cs : List ℕ) (a : Arena) (l : List ℕ) (b : Arena) → Roomy words starts a → flatten_set_op k f acc cs a ≡ Ok (l, b) → Roomy words starts b
  unfolding flatten_set_op
  flatten_keeps k f h acc [] a l b r e = subst (λ (v : List ℕ × Arena). Roomy words starts v.1) (ok_same e) r
  flatten_keeps k f h acc (c ∷ cs) a l b r e =
      let p = bind_parts (f c a) (λ q. first_copies acc (brings k q.0 (at q.1 q.0)) >>= λ (l : List ℕ). flatten_set_op k f l cs q.1) e in
      let q = bind_parts (first_copies acc (brings k p.0.0 (at p.0.1 p.0.0))) (λ (l : List ℕ). flatten_set_op k f l cs p.0.1) p.2 in
      flatten_keeps k f h q.0 cs p.0.1 l b (h c a p.0.0 p.0.1 r p.1) q.2

  stand_for_keeps : (k : Polarity) (ms : List ℕ) → Keeps words starts (stand_for words starts k ms)
  unfolding stand_for
  stand_for_keeps k ms a m b r =
      by_test (λ (o : Out (ℕ × Arena)). o ≡ Ok (m, b) → Roomy words starts b) (eqb (length ms) 1) (λ e. subst (λ (v : ℕ × Arena). Roomy words starts v.1) (ok_same e) r)
      (λ e. done_roomy r (done words starts (node (members k) ms) a m b e))

  step_keeps : (s : Arena) (x : Node) (f : ℕ → Job) → ((n : ℕ) → Keeps words starts (f n)) → Keeps words starts (set_ops_step words starts s x f)
  unfolding set_ops_step
  step_keeps s x f h a m b r =
      by_option (λ (o : Out (ℕ × Arena)). o ≡ Ok (m, b) → Roomy words starts b) (list_kind (tag x))
      (λ k e.
      let p = bind_parts (flatten_set_op k f [] (children x) a) (λ (q : List ℕ × Arena). stand_for words starts k (sort q.1 q.0) q.1) e in
      stand_for_keeps k (sort p.0.1 p.0.0) p.0.1 m b (flatten_keeps k f h [] (children x) a p.0.0 p.0.1 r p.1) p.2)
      (rebuild_keeps words starts (tag x) f (children x) (λ c _. h c) a m b r)

  set_ops_keeps : (root : ℕ) → Keeps words starts (normalize_set_ops words starts root)
  unfolding normalize_set_ops normalize
  set_ops_keeps root a = rec_all (Keeps words starts) (λ a m b r e. absurd (ok_err e)) step_keeps a root a

-- ---- over the two calls
module _ (t w s : List ℕ) (c : Counters) (root m : ℕ) (d : Counters) (w' s' : List ℕ) (ws : List ℕ) where
  abbrev run : Arena → Out (ℕ × Arena)
  run = normalize_set_ops (length w) (length s) root

  abbrev Answered : Out (ℕ × Arena) → Type 0
  Answered o = reply_of w s c o ≡ reply (Ok m) d w' s' → fits_reply t w' s' d m ws ≡ fits_reply t w s c root ws

  answered : (S : Side t w s c) → root < length S.view → Answered (run S.view)
  unfolding fits_reply normalize_set_ops
  answered S l e =
      let L = left_so w s c (run S.view) e in
      let H = S.holds in
      let F = (normalize_steady (length w) (length s) (length S.names) H.few_starts S.view H.good root l).is S.view L.target m here H.good L.run in
      let R = set_ops_keeps (length w) (length s) root S.view m L.target (roomy H) L.run in
      let T : Side t w' s' d = record { names = S.names; is = S.is; view = L.target; holds = left_held L H.few_words H.few_starts R F.good } in
      sym (side_to T (λ (ns : List Name). fits_root (length ns) m ws))
      ∙ same_root (length w) (length s) (length S.names) S.view root m L.target (record { few = H.few_starts; good = H.good; inside = l; run = L.run }) F.inside (length S.names) ws
      ∙ side_to S (λ (ns : List Name). fits_root (length ns) root ws)

  same_answer : work_reply normalize_set_ops t w s c root ≡ reply (Ok m) d w' s' → fits_reply t w' s' d m ws ≡ fits_reply t w s c root ws
  unfolding work_reply lent_to reply_of
  same_answer = lent_cases Answered t w s c (λ (ns : List Name). rooted root run) (λ e. absurd (reply_not e)) (λ e. absurd (reply_not e)) (λ S. rooted_cases Answered root run S.view (λ e. absurd (reply_not e)) (answered S))

pub fits_normalizes : FitsNormalizes
fits_normalizes = record {
  values = λ words starts table a root m b N f v i. same_values words starts table a root m b N f i v;
  variables = same_variables;
  answer = λ t w s c root m d w' s' e ws. same_answer t w s c root m d w' s' ws e;
}
