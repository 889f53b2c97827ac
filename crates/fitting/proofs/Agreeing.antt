-- What a node takes hangs only on what its children take of the value itself and of the value's own children: tests that agree on the values of a fix give the same answer.
use Prim.Native.Nat.{ℕ, zero, suc, ◌≤◌, ◌<◌}
use mathlib.Core.Path.{◌≡◌, refl, ap}
use mathlib.Core.Bool.{Bool, true, false, not, ◌&&◌, ◌||◌}
use mathlib.Core.List.{List, [], ◌∷◌, map}
use lib.ListN.{length, drop}
use lib.Dec.{eqb}
use Rattle.types.specs.Node.{positive, negative, Field, field, primitive, list, lambda, attrset, named, Tag, members, bound, var, neg, form, below}
use Rattle.types.proofs.Lists.{below_cons, below_more}
use Rattle.fix_values.specs.Values as values
use Rattle.fix_values.specs.Values.{Value, value, children, well}
use Rattle.fix_values.specs.Fix.{Fix, value_at}
use Rattle.fix_values.proofs.ValueWords.{well_parts}
use Rattle.fitting.specs.Fits.{Test, some_pass, all_pass, first, each, list_takes, field_test, other_test, fields_pass, none_missing, set_takes, node_takes}

-- tests that agree on the values below count, one by one
pub data Agree (count : ℕ) : List Test → List Test → Type 0 where
  none : Agree count [] []
  also : {t u : Test} {ts us : List Test} → ((v : ℕ) → v < count → t v ≡ u v) → Agree count ts us → Agree count (t ∷ ts) (u ∷ us)

-- where they are those of the same children
pub agree_map : (count n : ℕ) (F G : ℕ → Test) → ((c : ℕ) → c < n → (v : ℕ) → v < count → F c v ≡ G c v) → (cs : List ℕ) → below n cs ≡ true → Agree count (map F cs) (map G cs)
agree_map count n F G h [] e = none
agree_map count n F G h (c ∷ cs) e = let (p, q) = below_cons n c cs e in also (h c p) (agree_map count n F G h cs q)

agree_drop : {count : ℕ} {ts us : List Test} (k : ℕ) → Agree count ts us → Agree count (drop k ts) (drop k us)
agree_drop zero A = A
agree_drop (suc k) none = none
agree_drop (suc k) (also h A) = agree_drop k A

module _ {count v : ℕ} (l : v < count) where
  some_agree : {ts us : List Test} → Agree count ts us → some_pass ts v ≡ some_pass us v
  unfolding some_pass
  some_agree none = refl
  some_agree (also h A) = λ i. h v l i || some_agree A i

  all_agree : {ts us : List Test} → Agree count ts us → all_pass ts v ≡ all_pass us v
  unfolding all_pass
  all_agree none = refl
  all_agree (also h A) = λ i. h v l i && all_agree A i

  first_agree : {ts us : List Test} → Agree count ts us → first ts v ≡ first us v
  first_agree none = refl
  first_agree (also h A) = h v l

  other_agree : (d o : Bool) {ts us : List Test} → Agree count ts us → other_test d o ts v ≡ other_test d o us v
  other_agree true o A = first_agree A
  other_agree false o A = refl

  field_agree : (fs : List Field) {ts us : List Test} → Agree count ts us → (x y : Test) → x v ≡ y v → (n : ℕ) → field_test fs ts x n v ≡ field_test fs us y n v
  unfolding field_test
  field_agree [] A x y e n = e
  field_agree (f ∷ fs) none x y e n = e
  field_agree (field o m ∷ fs) (also {t} {u} {ts} {us} h A) x y e n = go (eqb n m) (field_agree fs A x y e n)
    where
      go : (b : Bool) → field_test fs ts x n v ≡ field_test fs us y n v
          → (elim b as (λ _. Test) [ true ↦ t | false ↦ field_test fs ts x n ]) v ≡ (elim b as (λ _. Test) [ true ↦ u | false ↦ field_test fs us y n ]) v
      go true q = h v l
      go false q = q

each_agree : {count : ℕ} {t u : Test} → ((v : ℕ) → v < count → t v ≡ u v) → (vs : List ℕ) → below count vs ≡ true → each t vs ≡ each u vs
unfolding each
each_agree h [] e = refl
each_agree {count} h (v ∷ vs) e = let (p, q) = below_cons count v vs e in λ i. h v p i && each_agree h vs q i

fields_agree : {count : ℕ} {t u : ℕ → Test} → ((n v : ℕ) → v < count → t n v ≡ u n v) → (ns vs : List ℕ) → below count vs ≡ true → fields_pass t ns vs ≡ fields_pass u ns vs
unfolding fields_pass
fields_agree h [] vs e = refl
fields_agree h (n ∷ ns) [] e = refl
fields_agree {count} h (n ∷ ns) (v ∷ vs) e = let (p, q) = below_cons count v vs e in λ i. h n v p i && fields_agree h ns vs q i

-- ---- a value
module _ {count : ℕ} {ts us : List Test} (A : Agree count ts us) where
  list_agree : (x : Value) → below count (children x) ≡ true → list_takes (first ts) x ≡ list_takes (first us) x
  unfolding list_takes
  list_agree (value (values.plain k) cs) e = refl
  list_agree (value values.list cs) e = each_agree (λ v l. first_agree l A) cs e
  list_agree (value (values.set ns) cs) e = refl

  set_agree : (fs : List Field) (d o : Bool) (x : Value) → below count (children x) ≡ true → set_takes fs d o ts x ≡ set_takes fs d o us x
  unfolding set_takes
  set_agree fs d o (value (values.plain k) cs) e = refl
  set_agree fs d o (value values.list cs) e = refl
  set_agree fs d o (value (values.set ns) cs) e =
      ap (λ (b : Bool). none_missing fs ns && b) (fields_agree (λ n v l. field_agree l fs A _ _ (other_agree l d o (agree_drop (length fs) A)) n) ns cs e)

  pub node_agree : (f : Fix) (t : Tag) (v : ℕ) → v < count → below count (children (value_at f v)) ≡ true → node_takes f t ts v ≡ node_takes f t us v
  unfolding node_takes
  node_agree f (members positive) v l e = some_agree l A
  node_agree f (members negative) v l e = all_agree l A
  node_agree f (bound positive) v l e = refl
  node_agree f (bound negative) v l e = refl
  node_agree f (var x) v l e = refl
  node_agree f neg v l e = ap not (first_agree l A)
  node_agree f (form (primitive c)) v l e = refl
  node_agree f (form list) v l e = list_agree (value_at f v) e
  node_agree f (form lambda) v l e = refl
  node_agree f (form (attrset fs d o)) v l e = set_agree fs d o (value_at f v) e
  node_agree f (form (named n)) v l e = first_agree l A

-- the children of a value that may stand after v values are among those before count
pub children_few : (table count v : ℕ) (x : Value) → well table v x ≡ true → v ≤ count → below count (children x) ≡ true
children_few table count v (value s cs) e l = below_more v count cs l (well_parts table v s cs e).linked
