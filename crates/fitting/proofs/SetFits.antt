-- A field passes by the test for its name, which stands where the walk comes to or nowhere; the fields passed decide nothing, so those still to come do.
use Prim.Native.Nat.{ℕ, zero, suc, ◌+◌, ◌<◌, ◌≤◌}
use mathlib.Core.Path.{◌≡◌, refl, sym, ap, ap₂, ◌∙◌}
use mathlib.Core.Bool.{Bool, true, false, not, ◌&&◌, ◌||◌}
use mathlib.Core.List.{List, [], ◌∷◌, map}
use native.Mathlib.Omega.{arith}
use native.Mathlib.Numerals.{add-one}
use lib.ListN.{length, get_or, drop, drop_of_length-le}
use lib.Seq.{drop-cons}
use lib.Dec.{eqb}
use borrow.Author.Tests.{eq-eqb, ne_eqb, not-true as negated, not-false}
use Rattle.words.specs.Words.{field_name, field_optional, child}
use Rattle.types.specs.Node.{field_of}
use Rattle.fitting.specs.Fits.{among, none_missing, field_test, fields_pass}
use Rattle.fitting.specs.Inner.Rows.{pair, HasPair}
use Rattle.fitting.specs.Inner.Sets.{other_of, OtherAsks, Seeks, CanAsk, Asks, Risen, Stands, FieldTakes, BothRise, test_of, named_at, words_take}
use Rattle.fitting.specs.declared.sets.Other.{Other}
use Rattle.fitting.specs.declared.sets.Other.TheVariants as other
use Rattle.fitting.proofs.Seeking.{named_so, unnamed, Trails, trails_stands, trails_more}

-- ---- a field that the type doesn't name
module _ (ps : List ℕ) (width v : ℕ) {o : Other} {n : ℕ} (e : o ≡ other.Type n) where
  pub other_asked : OtherAsks ps width o v → HasPair ps width n v
  other_asked A = A.dynamic n e

-- ---- the test for a name
module _ (ps : List ℕ) (width : ℕ) (o : Other) (name v : ℕ) where
  test_found : (fs : List ℕ) (i : ℕ) → i < length fs → field_name (get_or fs i 0) ≡ name → ((k : ℕ) → k < i → field_name (get_or fs k 0) < name)
      → test_of fs ps width o name v ≡ pair ps width (child (get_or fs i 0)) v
  unfolding field_test
  test_found [] i l e h = absurd (omega arith)
  test_found (w ∷ fs) zero l e h = rw (eq-eqb name (field_name w) (sym e), field_test)
  test_found (w ∷ fs) (suc i) l e h =
      rw (ne_eqb name (field_name w) (λ q. omega (arith, q, h 0 (omega arith))), field_test) (test_found fs i (omega arith) e (λ k g. h (suc k) (omega arith)))

  test_other : (fs : List ℕ) → ((k : ℕ) → k < length fs → field_name (get_or fs k 0) ≡ name → ⊥) → test_of fs ps width o name v ≡ other_of ps width o v
  unfolding field_test
  test_other [] h = refl
  test_other (w ∷ fs) h =
      rw (ne_eqb name (field_name w) (λ q. h 0 (omega arith) (sym q)), field_test) (test_other fs (λ k l. h (suc k) (omega arith)))

module _ (fs : List ℕ) (i name : ℕ) {b : Bool} (q : b ≡ named_at fs i name) where
  pub named_place : b ≡ true → i < length fs
  named_place p = (named_so fs i name (sym q ∙ p)).0

  module _ {ps : List ℕ} {width v : ℕ} {o : Other} where
    pub field_asked : b ≡ true → CanAsk fs ps width o v → {m : ℕ} → m ≡ child (get_or fs i 0) → HasPair ps width m v
    field_asked p A e = rw e (A.fields i (named_place p))

    pub named_takes : b ≡ true → {m : ℕ} → m ≡ child (get_or fs i 0) → {r : Bool} → r ≡ pair ps width m v → FieldTakes fs i name ps width o v r
    named_takes p e s =
        record { is = λ R S. s ∙ ap (λ (x : ℕ). pair ps width x v) e ∙ sym (test_found ps width o name v fs i (named_place p) (named_so fs i name (sym q ∙ p)).1 S.before) }

    pub other_field : b ≡ false → {r : Bool} → r ≡ other_of ps width o v → FieldTakes fs i name ps width o v r
    other_field p s = record { is = λ R S. s ∙ sym (test_other ps width o name v fs (unnamed R S (sym q ∙ p))) }

-- ---- the fields of the value
pub record Taking (fs vs ps : List ℕ) (width : ℕ) (o : Other) (i j : ℕ) : Type 0 where
  pub asks : Asks fs vs ps width o
  pub trails : Trails fs i vs j
  pub rest : fields_pass (test_of fs ps width o) (map field_name vs) (map child vs) ≡ fields_pass (test_of fs ps width o) (map field_name (drop j vs)) (map child (drop j vs))

module _ {fs vs ps : List ℕ} {width : ℕ} {o : Other} where
  module _ {i j : ℕ} (T : Taking fs vs ps width o i j) where
    module _ {m name v : ℕ} (S : Seeks fs i name m) {b : Bool} (F : FieldTakes fs m name ps width o v b) (l : j < length vs) (e : name ≡ field_name (get_or vs j 0)) (q : v ≡ child (get_or vs j 0)) where
      next : fields_pass (test_of fs ps width o) (map field_name vs) (map child vs) ≡ (b && fields_pass (test_of fs ps width o) (map field_name (drop (j + 1) vs)) (map child (drop (j + 1) vs)))
      unfolding fields_pass
      next =
          let t = F.is T.asks.type_rises (trails_stands T.trails S l e) in
          T.rest ∙ ap (λ (l : List ℕ). fields_pass (test_of fs ps width o) (map field_name l) (map child l)) (drop-cons vs j 0 l)
          ∙ ap₂ (λ (x : Bool) (k : ℕ). x && fields_pass (test_of fs ps width o) (map field_name (drop k vs)) (map child (drop k vs))) (sym (t ∙ ap₂ (test_of fs ps width o) e q)) (sym (add-one j))

      pub taking_fails : not b ≡ true → false ≡ fields_pass (test_of fs ps width o) (map field_name vs) (map child vs)
      taking_fails p = sym (next ∙ rw (negated b p))

      pub taking_more : not b ≡ false → Taking fs vs ps width o m (j + 1)
      taking_more p = record { asks = T.asks; trails = trails_more T.trails S l e T.asks.value_rises; rest = next ∙ rw (not-false b p) }

    pub taking_done : length vs ≤ j → true ≡ fields_pass (test_of fs ps width o) (map field_name vs) (map child vs)
    unfolding fields_pass
    taking_done h = sym (T.rest ∙ ap (λ (l : List ℕ). fields_pass (test_of fs ps width o) (map field_name l) (map child l)) (drop_of_length-le vs h))

-- ---- the fields of the type
module _ (name : ℕ) where
  or_true : (x : Bool) {y : Bool} → y ≡ true → (x || y) ≡ true
  or_true true p = refl
  or_true false p = p

  among_found : (ws : List ℕ) (k : ℕ) → k < length ws → field_name (get_or ws k 0) ≡ name → among name (map field_name ws) ≡ true
  unfolding among
  among_found [] k l e = absurd (omega arith)
  among_found (w ∷ ws) zero l e = rw (eq-eqb name (field_name w) (sym e))
  among_found (w ∷ ws) (suc k) l e = or_true (eqb name (field_name w)) (among_found ws k (omega arith) e)

  among_none : (ws : List ℕ) → ((k : ℕ) → k < length ws → field_name (get_or ws k 0) ≡ name → ⊥) → among name (map field_name ws) ≡ false
  unfolding among
  among_none [] h = refl
  among_none (w ∷ ws) h = rw (ne_eqb name (field_name w) (λ q. h 0 (omega arith) (sym q))) (among_none ws (λ k l. h (suc k) (omega arith)))

  among_named : (vs : List ℕ) (j : ℕ) → Risen vs → Stands vs j name → among name (map field_name vs) ≡ named_at vs j name
  among_named vs j R S = go (named_at vs j name) refl
    where
      go : (b : Bool) → named_at vs j name ≡ b → among name (map field_name vs) ≡ b
      go true e = let p = named_so vs j name e in among_found vs j p.0 p.1
      go false e = among_none vs (unnamed R S e)

pub record Missing (fs vs : List ℕ) (i j : ℕ) : Type 0 where
  pub rise : BothRise fs vs
  pub trails : Trails vs j fs i
  pub rest : none_missing (map field_of fs) (map field_name vs) ≡ none_missing (map field_of (drop i fs)) (map field_name vs)

module _ {fs vs : List ℕ} where
  module _ {i j : ℕ} (M : Missing fs vs i j) where
    module _ {m name : ℕ} (S : Seeks vs j name m) (l : i < length fs) (e : name ≡ field_name (get_or fs i 0)) {o b : Bool} (p : o ≡ field_optional (get_or fs i 0)) (q : b ≡ named_at vs m name) where
      step : none_missing (map field_of fs) (map field_name vs) ≡ ((o || b) && none_missing (map field_of (drop (i + 1) fs)) (map field_name vs))
      unfolding none_missing
      step =
          let t = among_named name vs m M.rise.second (trails_stands M.trails S l e) in
          M.rest ∙ ap (λ (l : List ℕ). none_missing (map field_of l) (map field_name vs)) (drop-cons fs i 0 l)
          ∙ ap₂ (λ (x : Bool) (k : ℕ). x && none_missing (map field_of (drop k fs)) (map field_name vs))
          (sym (ap₂ ◌||◌ p (q ∙ sym t ∙ ap (λ (x : ℕ). among x (map field_name vs)) e))) (sym (add-one i))

      pub missing_fails : not (o || b) ≡ true → false ≡ none_missing (map field_of fs) (map field_name vs)
      missing_fails r = sym (step ∙ rw (negated (o || b) r))

      pub missing_more : not (o || b) ≡ false → Missing fs vs (i + 1) m
      missing_more r = record { rise = M.rise; trails = trails_more M.trails S l e M.rise.first; rest = step ∙ rw (not-false (o || b) r) }

    pub missing_done : length fs ≤ i → true ≡ none_missing (map field_of fs) (map field_name vs)
    unfolding none_missing
    missing_done h = sym (M.rest ∙ ap (λ (l : List ℕ). none_missing (map field_of l) (map field_name vs)) (drop_of_length-le fs h))

-- ---- both
module _ (fs vs ps : List ℕ) (width : ℕ) (o : Other) {b : Bool} (q : b ≡ none_missing (map field_of fs) (map field_name vs)) where
  pub some_missing : not b ≡ true → false ≡ words_take fs vs ps width o
  unfolding words_take
  some_missing p = rw (← q, negated b p)

  pub all_there : not b ≡ false → {r : Bool} → r ≡ fields_pass (test_of fs ps width o) (map field_name vs) (map child vs) → r ≡ words_take fs vs ps width o
  unfolding words_take
  all_there p e = e ∙ sym (rw (← q, not-false b p))
