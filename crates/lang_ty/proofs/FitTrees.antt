-- Whether a value fits a type depends on the two trees alone: a tag's label says all that the test of a node uses but for names, and two numbers of names are equal in one table exactly if those of the same texts are in the other.
use Prim.Native.Nat.{ℕ, ◌+◌}
use mathlib.Core.Path.{◌≡◌, refl, sym, ap, ap₂, ◌∙◌, subst₂}
use mathlib.Core.Bool.{Bool, true, false, not, ◌&&◌, ◌||◌}
use mathlib.Core.List.{List, [], ◌∷◌, map}
use mathlib.Core.Option.{some}
use native.Mathlib.Omega.{arith}
use lib.ListN.{length, get_or, drop}
use lib.Dec.{eqb, ltb}
use borrow.Author.Tests.{eqb-true, eq-eqb, ne_eqb, ltb-true}
use Rattle.types.specs.Kind as kinds
use Rattle.types.specs.Kind.{Kind, disc, kind_of}
use Rattle.types.specs.Node.{positive, negative, Field, field, primitive, list, lambda, attrset, named, Tag, members, bound, var, neg, form, kind, data_of, field_names, below}
use Rattle.types.proofs.Tests.{true_false, and_true, same_truth}
use Rattle.types.proofs.Lists.{below_cons}
use Rattle.types.proofs.KindNumbers.{kind_of_disc}
use Rattle.names.specs.Table.{Name, names_of}
use Rattle.names.proofs.Numbers.{text_number}
use Rattle.questions.specs.Vars.{kind_has, has_var}
use Rattle.equal.specs.Equal.{spell, label_of}
use Rattle.equal.proofs.OnePartner.{over_parts}
use Rattle.fix_values.specs.Values as values
use Rattle.fix_values.specs.Values.{Value, value}
use Rattle.fix_values.specs.Fix.{Fix, value_at, good}
use Rattle.fitting.specs.Fits.{Test, some_pass, all_pass, first, each, primitive_takes, list_takes, among, none_missing, field_test, other_test, fields_pass, set_takes, node_takes, takes}
use Rattle.lang_ty.specs.FixTrees.{spell_name, value_tree}
use Rattle.lang_ty.specs.Theorems.{FitsByTrees, VarsByTrees}
use Rattle.lang_ty.proofs.ValueTrees.{known}
use Rattle.lang_ty.proofs.TreeFolds.{Pairs, end, next, pairs_equal, Same, paired, SameTags, folds_related}

-- ---- a tag, from what its label says and its fields
made : Kind → List ℕ → List Field → Bool → Bool → Tag
made kinds.bottom ks fs d o = bound positive
made kinds.top ks fs d o = bound negative
made kinds.primitive ks fs d o = form (primitive (get_or ks 0 0))
made kinds.ty_var ks fs d o = var (get_or ks 0 0)
made kinds.list ks fs d o = form list
made kinds.lambda ks fs d o = form lambda
made kinds.attr_set ks fs d o = form (attrset fs d o)
made kinds.union ks fs d o = members positive
made kinds.intersection ks fs d o = members negative
made kinds.named ks fs d o = form (named (get_or (field_names fs) 0 0))
made kinds.neg ks fs d o = neg

made_again : (t : Tag) → made (kind t) (data_of t).numbers (data_of t).fields (data_of t).dynamic (data_of t).opened ≡ t
unfolding made
made_again (members positive) = refl
made_again (members negative) = refl
made_again (bound positive) = refl
made_again (bound negative) = refl
made_again (var v) = refl
made_again neg = refl
made_again (form (primitive c)) = refl
made_again (form list) = refl
made_again (form lambda) = refl
made_again (form (attrset fs d o)) = refl
made_again (form (named n)) = refl

-- tags of one label differ in their fields at most
relabelled : (ns ms : List Name) (t u : Tag) → label_of ns t ≡ label_of ms u → u ≡ made (kind t) (data_of t).numbers (data_of u).fields (data_of t).dynamic (data_of t).opened
relabelled ns ms t u e =
    let z : disc (kind t) ≡ disc (kind u) = cc in
    let y = sym (kind_of_disc (kind t)) ∙ ap kind_of z ∙ kind_of_disc (kind u) in
    let k : kind t ≡ kind u = cc in
    let n : (data_of t).numbers ≡ (data_of u).numbers = cc in
    let d : (data_of t).dynamic ≡ (data_of u).dynamic = cc in
    let o : (data_of t).opened ≡ (data_of u).opened = cc in
    sym ((λ i. made (k i) (n i) (data_of u).fields (d i) (o i)) ∙ made_again u)

-- ---- a list type takes a value of kind 6, and a set type one of kind 7
other_kind : (k n : ℕ) → ltb k 6 ≡ true → eqb k (6 + n) ≡ false
other_kind k n e = ne_eqb k (6 + n) (λ q. omega (arith, ltb-true k 6 e))

list_kind : (t : Test) (x : Value) → values.matched (values.shape x) (length (values.children x)) ≡ true → list_takes t x ≡ (eqb (values.kind (values.shape x)) 6 && each t (values.children x))
unfolding list_takes
list_kind t (value (values.plain k) cs) e = ap (λ (b : Bool). b && each t cs) (sym (other_kind k 0 (and_true (ltb k 6) _ e).0))
list_kind t (value values.list cs) e = refl
list_kind t (value (values.set ns) cs) e = refl

-- whether the fields of a value fit a set type
abbrev fields_take : List Field → Bool → Bool → List Test → List ℕ → List ℕ → Bool
fields_take fs d o ts ns cs = none_missing fs ns && fields_pass (field_test fs ts (other_test d o (drop (length fs) ts))) ns cs

set_kind : (fs : List Field) (d o : Bool) (ts : List Test) (x : Value) → values.matched (values.shape x) (length (values.children x)) ≡ true → set_takes fs d o ts x ≡ (eqb (values.kind (values.shape x)) 7 && fields_take fs d o ts (values.names (values.shape x)) (values.children x))
unfolding set_takes
set_kind fs d o ts (value (values.plain k) cs) e = ap (λ (b : Bool). b && fields_take fs d o ts [] cs) (sym (other_kind k 1 (and_true (ltb k 6) _ e).0))
set_kind fs d o ts (value values.list cs) e = refl
set_kind fs d o ts (value (values.set ns) cs) e = refl

-- what is left of two lists without as many items as two other lists have
beyond : {A B C D : Type 0} {Q : A → B → Type 0} {R : C → D → Type 0} {xs : List A} {ys : List B} {cs : List C} {ds : List D} → Pairs Q xs ys → Pairs R cs ds → Pairs R (drop (length xs) cs) (drop (length ys) ds)
beyond end P = P
beyond (next q Q) end = end
beyond (next q Q) (next r P) = beyond Q P

-- one of two tests
abbrev pick : Bool → Test → Test → Test
pick x a b = elim x [ true ↦ a | false ↦ b ]

-- ---- under two tables
module _ (t u : List ℕ) (ns ms : List Name) (p : names_of t ≡ some ns) (q : names_of u ≡ some ms) where
  abbrev SameName : ℕ → ℕ → Type 0
  SameName = Same (spell_name ns) (spell_name ms) (length ns) (length ms)

  abbrev SameField : Field → Field → Type 0
  SameField (field o i) (field c j) = (o ≡ c) × SameName i j

  fields_paired : (fs gs : List Field) → below (length ns) (field_names fs) ≡ true → below (length ms) (field_names gs) ≡ true → map (spell ns) fs ≡ map (spell ms) gs → Pairs SameField fs gs
  fields_paired [] [] h k e = end
  fields_paired [] (g ∷ gs) h k e = let z : ◌≡◌ {A = ℕ} 0 1 = cc in absurd (omega arith)
  fields_paired (f ∷ fs) [] h k e = let z : ◌≡◌ {A = ℕ} 0 1 = cc in absurd (omega arith)
  fields_paired (field o i ∷ fs) (field c j ∷ gs) h k e =
      let l = below_cons (length ns) i (field_names fs) h in
      let r = below_cons (length ms) j (field_names gs) k in
      let x : o ≡ c = cc in
      let y : spell_name ns i ≡ spell_name ms j = cc in
      let z : map (spell ns) fs ≡ map (spell ms) gs = cc in
      let S : SameField (field o i) (field c j) = (x, record { left = l.0; right = r.0; is = y }) in
      next S (fields_paired fs gs l.1 r.1 z)

  -- two names are one on both sides or on neither
  name_test : (i j k l : ℕ) → SameName i j → SameName k l → eqb i k ≡ eqb j l
  name_test i j k l S T =
      same_truth (eqb i k) (eqb j l)
      (λ e.
      let z = eqb-true i k e in
      let x : get_or ms j [] ≡ get_or ms l [] = cc in
      eq-eqb j l (text_number u ms q j l S.right T.right x))
      (λ e.
      let z = eqb-true j l e in
      let x : get_or ns i [] ≡ get_or ns k [] = cc in
      eq-eqb i k (text_number t ns p i k S.left T.left x))

  among_alike : (i j : ℕ) → SameName i j → {xs ys : List ℕ} → Pairs SameName xs ys → among i xs ≡ among j ys
  unfolding among
  among_alike i j S end = refl
  among_alike i j S (next {x = k} {y = l} T P) = ap₂ ◌||◌ (name_test i j k l S T) (among_alike i j S P)

  none_missing_alike : {fs gs : List Field} {xs ys : List ℕ} → Pairs SameField fs gs → Pairs SameName xs ys → none_missing fs xs ≡ none_missing gs ys
  unfolding none_missing
  none_missing_alike end N = refl
  none_missing_alike (next {x = field o i} {y = field c j} S P) N = ap₂ ◌&&◌ (ap₂ ◌||◌ S.0 (among_alike i j S.1 N)) (none_missing_alike P N)

  -- ---- and two fixes
  module _ (f g : Fix) (h : good (length ns) f ≡ true) (k : good (length ms) g ≡ true) where
    abbrev SameValue : ℕ → ℕ → Type 0
    SameValue = Same (value_tree ns f) (value_tree ms g) (length f) (length g)

    -- what values with one tree have in common
    record Parts (x y : Value) : Type 0 where
      pub kinds : values.kind (values.shape x) ≡ values.kind (values.shape y)
      pub names : Pairs SameName (values.names (values.shape x)) (values.names (values.shape y))
      pub children : Pairs SameValue (values.children x) (values.children y)
      pub left : values.matched (values.shape x) (length (values.children x)) ≡ true
      pub right : values.matched (values.shape y) (length (values.children y)) ≡ true

    parts : (v w : ℕ) → SameValue v w → Parts (value_at f v) (value_at g w)
    parts v w S =
        let x = value_at f v in
        let y = value_at g w in
        let K = known ns f h v S.left in
        let L = known ms g k w S.right in
        let e = over_parts _ _ _ _ (sym K.tree ∙ S.is ∙ L.tree) in
        let l = e.0 in
        let i : values.kind (values.shape x) ≡ values.kind (values.shape y) = cc in
        let n : map (spell_name ns) (values.names (values.shape x)) ≡ map (spell_name ms) (values.names (values.shape y)) = cc in
        record {
          kinds = i;
          names = paired (spell_name ns) (spell_name ms) (length ns) (length ms) _ _ K.inside L.inside n;
          children = paired (value_tree ns f) (value_tree ms g) (length f) (length g) _ _ K.low L.low e.1;
          left = K.matches;
          right = L.matches;
        }

    -- two tests that say the same of values with one tree
    abbrev Alike : Test → Test → Type 0
    Alike a b = (v w : ℕ) → SameValue v w → a v ≡ b w

    some_alike : {ts us : List Test} → Pairs Alike ts us → Alike (some_pass ts) (some_pass us)
    unfolding some_pass
    some_alike end v w S = refl
    some_alike (next A P) v w S = ap₂ ◌||◌ (A v w S) (some_alike P v w S)

    all_alike : {ts us : List Test} → Pairs Alike ts us → Alike (all_pass ts) (all_pass us)
    unfolding all_pass
    all_alike end v w S = refl
    all_alike (next A P) v w S = ap₂ ◌&&◌ (A v w S) (all_alike P v w S)

    first_alike : {ts us : List Test} → Pairs Alike ts us → Alike (first ts) (first us)
    first_alike end v w S = refl
    first_alike (next A P) v w S = A v w S

    each_alike : {a b : Test} → Alike a b → {xs ys : List ℕ} → Pairs SameValue xs ys → each a xs ≡ each b ys
    unfolding each
    each_alike A end = refl
    each_alike A (next {x = v} {y = w} S P) = ap₂ ◌&&◌ (A v w S) (each_alike A P)

    pick_alike : (x y : Bool) → x ≡ y → {a b c d : Test} → Alike a b → Alike c d → Alike (pick x a c) (pick y b d)
    pick_alike true true e A C = A
    pick_alike true false e A C = absurd (true_false e)
    pick_alike false true e A C = absurd (true_false (sym e))
    pick_alike false false e A C = C

    field_alike : {fs gs : List Field} {ts us : List Test} {a b : Test} → Pairs SameField fs gs → Pairs Alike ts us → Alike a b → (i j : ℕ) → SameName i j → Alike (field_test fs ts a i) (field_test gs us b j)
    unfolding field_test
    field_alike end P A i j S = A
    field_alike (next F Q) end A i j S = A
    field_alike (next {x = field o m} {y = field c n} F Q) (next B P) A i j S = pick_alike (eqb i m) (eqb j n) (name_test i j m n S F.1) B (field_alike Q P A i j S)

    -- the test of the fields that a set type doesn't name
    other_alike : (d o : Bool) {ts us : List Test} → Pairs Alike ts us → Alike (other_test d o ts) (other_test d o us)
    other_alike true o P v w S = first_alike P v w S
    other_alike false o P v w S = refl

    fields_alike : (a b : ℕ → Test) → ((i j : ℕ) → SameName i j → Alike (a i) (b j)) → {xs ys : List ℕ} {cs ds : List ℕ} → Pairs SameName xs ys → Pairs SameValue cs ds → fields_pass a xs cs ≡ fields_pass b ys ds
    unfolding fields_pass
    fields_alike a b A end Q = refl
    fields_alike a b A (next S P) end = refl
    fields_alike a b A (next {x = i} {y = j} S P) (next {x = v} {y = w} T Q) = ap₂ ◌&&◌ (A i j S v w T) (fields_alike a b A P Q)

    -- ---- what nodes take, from what their children take
    list_alike : {a b : Test} → Alike a b → (v w : ℕ) → SameValue v w → list_takes a (value_at f v) ≡ list_takes b (value_at g w)
    list_alike {a} {b} A v w S =
        let P = parts v w S in
        list_kind a (value_at f v) P.left ∙ ap₂ (λ (n : ℕ) (x : Bool). eqb n 6 && x) P.kinds (each_alike A P.children) ∙ sym (list_kind b (value_at g w) P.right)

    set_alike : (d o : Bool) {fs gs : List Field} {ts us : List Test} → Pairs SameField fs gs → Pairs Alike ts us → (v w : ℕ) → SameValue v w → set_takes fs d o ts (value_at f v) ≡ set_takes gs d o us (value_at g w)
    set_alike d o {fs} {gs} {ts} {us} F T v w S =
        let P = parts v w S in
        let A = fields_alike (field_test fs ts (other_test d o (drop (length fs) ts))) (field_test gs us (other_test d o (drop (length gs) us))) (field_alike F T (other_alike d o (beyond F T))) P.names P.children in
        set_kind fs d o ts (value_at f v) P.left ∙ ap₂ (λ (n : ℕ) (x : Bool). eqb n 7 && x) P.kinds (ap₂ ◌&&◌ (none_missing_alike F P.names) A) ∙ sym (set_kind gs d o us (value_at g w) P.right)

    made_alike : (i : Kind) (ks : List ℕ) (d o : Bool) {fs gs : List Field} {ts us : List Test} → Pairs SameField fs gs → Pairs Alike ts us → Alike (node_takes f (made i ks fs d o) ts) (node_takes g (made i ks gs d o) us)
    unfolding made node_takes
    made_alike kinds.bottom ks d o F T v w S = refl
    made_alike kinds.top ks d o F T v w S = refl
    made_alike kinds.primitive ks d o F T v w S = ap (primitive_takes (get_or ks 0 0)) (parts v w S).kinds
    made_alike kinds.ty_var ks d o F T v w S = refl
    made_alike kinds.list ks d o F T v w S = list_alike (first_alike T) v w S
    made_alike kinds.lambda ks d o F T v w S = refl
    made_alike kinds.attr_set ks d o F T v w S = set_alike d o F T v w S
    made_alike kinds.union ks d o F T v w S = some_alike T v w S
    made_alike kinds.intersection ks d o F T v w S = all_alike T v w S
    made_alike kinds.named ks d o F T v w S = first_alike T v w S
    made_alike kinds.neg ks d o F T v w S = ap not (first_alike T v w S)

    node_alike : (x y : Tag) → SameTags ns ms x y → (ts us : List Test) → Pairs Alike ts us → Alike (node_takes f x ts) (node_takes g y us)
    node_alike x y E ts us T =
        let l = E.is in
        let z : map (spell ns) (data_of x).fields ≡ map (spell ms) (data_of y).fields = cc in
        let F = fields_paired (data_of x).fields (data_of y).fields E.left E.right z in
        subst₂ (λ (i j : Tag). Alike (node_takes f i ts) (node_takes g j us)) (made_again x) (sym (relabelled ns ms x y l)) (made_alike (kind x) (data_of x).numbers (data_of x).dynamic (data_of x).opened F T)

-- ---- the theorems
pub fits_by_trees : FitsByTrees
unfolding takes
fits_by_trees t u ns ms p q a b c d m n i j f g h k v w x y e r =
    folds_related ns ms (Alike t u ns ms p q f g h k) (node_takes f) (node_takes g) (node_alike t u ns ms p q f g h k) a b c d m n i j e v w (record { left = x; right = y; is = r })

pub vars_by_trees : VarsByTrees
unfolding has_var
vars_by_trees ns ms =
    let has : Tag → List Bool → Bool = λ t bs. kind_has false (disc (kind t)) bs in
    folds_related ns ms ◌≡◌ has has (λ t u E xs ys P.
    let l = E.is in
    let z : disc (kind t) ≡ disc (kind u) = cc in
    ap₂ (kind_has false) z (pairs_equal P))
