-- The set of variables' nodes that were taken finds two nodes that take the same variable exactly where there are two.
use Prim.Native.Nat.{ℕ, zero, suc, ◌+◌, ◌<◌, ◌≤◌}
use mathlib.Core.Path.{◌≡◌, refl, sym, ap, ◌∙◌, subst}
use mathlib.Core.Bool.{Bool, true, false, ◌&&◌, ◌||◌}
use mathlib.Core.List.{List}
use mathlib.Core.Option.{Option, none, some}
use native.Mathlib.Omega.{arith}
use native.Mathlib.Decide.{ℕ_discrete}
use lib.ListN.{length, replicate, length-replicate}
use lib.Dec.{eqb}
use borrow.Author.Tests.{eqb-true, eq-eqb, ne_eqb}
use Rattle.std.specs.Prelude as std
use Rattle.std.specs.Prelude.{Some, None}
use Rattle.types.specs.Out.{option_of}
use Rattle.types.specs.Same.{same}
use Rattle.types.specs.Kind as kinds
use Rattle.types.specs.Node.{Node, node_dec}
use Rattle.types.specs.Arena.{Arena, at, find, sound}
use Rattle.types.specs.Memory.{Holds}
use Rattle.types.specs.declared.Counters.{Counters}
use Rattle.types.proofs.Tests.{true_false, and_true, both, not_true, same_true, same_if}
use Rattle.types.proofs.Sound.{at_formed, child_lower, at_find}
use Rattle.types.proofs.Addresses.{start_room}
use Rattle.bits.specs.Bits.{has}
use Rattle.bits.proofs.Sets.{has_none}
use Rattle.node_store.specs.Inner.Stored.{Lent, InRange}
use Rattle.walks.specs.Inner.Asked.{Says}
use Rattle.walks.specs.Reach.{reaches}
use Rattle.walks.specs.Inner.Sets.{ReachIn}
use Rattle.walks.proofs.Reaching.{or_right}
use Rattle.walks.proofs.Marks.{root_small}
use Rattle.node_reading.specs.Nodes.{of_kind, is_var}
use Rattle.node_reading.specs.Inner.{KindAt, ParentAt, FirstChild}
use Rattle.questions.specs.Lambdas.{param_of, takes_var, same_var, some_below, shared_in, has_shared_tyvar_across_lambda_params}
use Rattle.questions.specs.Inner.Lambdas.{taken, passes, ParamAt, ParamRow, Seeing, Shares}
use Rattle.node_reading.proofs.NodeReads.{first_there, first_range}

-- ---- what one node takes
module _ {w s : List ℕ} {c : Counters} {n k : ℕ} (R : InRange w s c n) (K : KindAt w s c n k) where
  lambda_is : (table : ℕ) (a : Arena) → Holds table w s c a → of_kind kinds.lambda (at a n) ≡ eqb k 5
  lambda_is table a H = ap (λ (x : ℕ). eqb x 5) (sym (K.is table a H))

  pub no_lambda : (k ≡ 5 → ⊥) → ParamAt w s c true n None
  unfolding taken
  no_lambda f = record { is = λ table a H. sym (rw (taken, lambda_is table a H, ne_eqb k 5 f)) }

  pub lambda_parent : k ≡ 5 → ParentAt w s c n
  lambda_parent e = record { lent = R.lent; inside = R.inside; number = k; kind = K; parent = rw e }

  module _ (e : k ≡ 5) {p : ℕ} (F : FirstChild w s c n p) where
    pub param_here : InRange w s c p
    param_here = first_range (lambda_parent e) F

    module _ {j : ℕ} (P : KindAt w s c p j) where
      var_is : (table : ℕ) (a : Arena) → Holds table w s c a → is_var (at a (param_of a n)) ≡ eqb j 3
      var_is table a H = ap (λ (x : ℕ). is_var (at a x)) (sym (F.is table a H)) ∙ ap (λ (x : ℕ). eqb x 3) (sym (P.is table a H))

      pub no_variable : (j ≡ 3 → ⊥) → ParamAt w s c true n None
      unfolding taken
      no_variable f = record { is = λ table a H. sym (rw (taken, lambda_is table a H, eq-eqb k 5 e, var_is table a H, ne_eqb j 3 f)) }

      pub takes_one : j ≡ 3 → ParamAt w s c true n (Some p)
      unfolding taken
      takes_one q = record {
        is = λ table a H. ap some (F.is table a H) ∙ sym (rw (taken, lambda_is table a H, eq-eqb k 5 e, var_is table a H, eq-eqb j 3 q));
      }

module _ {w s : List ℕ} {c : Counters} (met : List ℕ) (n : ℕ) {b : Bool} (e : b ≡ has met n) where
  pub param_unmet : b ≡ false → ParamAt w s c (has met n) n None
  unfolding taken
  param_unmet f = record { is = λ table a H. sym (rw (taken, sym e ∙ f)) }

-- ---- the set

module _ {seen : List ℕ} {o : std.Option ℕ} {p : ℕ} (R : ParamRow seen (option_of o)) (e : o ≡ Some p) where
  out : option_of o ≡ some p
  out = ap option_of e

-- ---- pairs
some_none : (f : ℕ → Bool) (n : ℕ) → ((m : ℕ) → m < n → f m ≡ false) → some_below f n ≡ false
unfolding some_below
some_none f zero h = refl
some_none f (suc n) h = rw (h n (omega arith)) (some_none f n (λ m l. h m (omega arith)))

some_one : (f : ℕ → Bool) (n m : ℕ) → m < n → f m ≡ true → some_below f n ≡ true
unfolding some_below
some_one f zero m l e = absurd (omega arith)
some_one f (suc n) m l e = go (ℕ_discrete m n) (λ k. some_one f n m k e)
  where
    go : Dec (m ≡ n) → (m < n → some_below f n ≡ true) → (f n || some_below f n) ≡ true
    go (yes q) r = rw (ap f (sym q) ∙ e)
    go (no q) r = or_right (f n) (some_below f n) (r (omega (arith, q, l)))

some_same : (f g : ℕ → Bool) (n : ℕ) → ((m : ℕ) → m < n → f m ≡ g m) → some_below f n ≡ some_below g n
unfolding some_below
some_same f g zero h = refl
some_same f g (suc n) h = λ i. h n (omega arith) i || some_same f g n (λ m l. h m (omega arith)) i

-- the node n is in the set and takes the variable of node p
record Takes (b : Bool) (a : Arena) (n p : ℕ) : Type 0 where
  pub met : b ≡ true
  pub takes : takes_var a n ≡ true
  pub is : param_of a n ≡ p

some_value : (x y : ℕ) → Path (Option ℕ) (some x) (some y) → x ≡ y
some_value x y e = cc

takes_some : (b : Bool) (a : Arena) (n p : ℕ) → taken b a n ≡ some p → Takes b a n p
unfolding taken
takes_some b a n p e = go (b && takes_var a n) refl
  where
    go : (x : Bool) → (b && takes_var a n) ≡ x → Takes b a n p
    go true q =
        let r = and_true b (takes_var a n) q in
        let g : taken b a n ≡ some (param_of a n) = rw (taken, q) in
        record { met = r.0; takes = r.1; is = some_value (param_of a n) p (sym g ∙ e) }
    go false q = let g : taken b a n ≡ none = rw (taken, q) in let z : ◌≡◌ {A = ℕ} 0 1 = cc in absurd (omega arith)

some_takes : {b : Bool} {a : Arena} {n p : ℕ} → Takes b a n p → taken b a n ≡ some p
unfolding taken
some_takes {b} {a} {n} T = let g : taken b a n ≡ some (param_of a n) = rw (taken, T.met, T.takes) in g ∙ ap some T.is

pair_true : {b d : Bool} {a : Arena} {m n p : ℕ} → Takes b a m p → Takes d a n p → ((b && d) && same_var a m n) ≡ true
unfolding same_var
pair_true {a = a} {m} {n} T U = both (both T.met U.met) (both (both T.takes U.takes) (same_if node_dec (at a (param_of a m)) (at a (param_of a n)) (ap (at a) (T.is ∙ sym U.is))))

module _ (table : ℕ) (a : Arena) (h : sound table a ≡ true) where
  -- a node has one number
  once : (p q : ℕ) → p < length a → q < length a → at a p ≡ at a q → p ≡ q
  once p q k l e = some_value p q (sym (at_find table a h p k) ∙ ap (λ (x : Node). find x a) e ∙ at_find table a h q l)

  param_low : (n : ℕ) → n < length a → takes_var a n ≡ true → param_of a n < n
  param_low n l e =
      let q = (and_true (of_kind kinds.lambda (at a n)) (is_var (at a (param_of a n))) e).0 in
      child_lower table a h n l 0 (first_there (at a n) (at_formed table a h n l) (rw q))

  takes_low : {b : Bool} {n p : ℕ} → n < length a → Takes b a n p → p < n
  takes_low {n = n} l T = subst (λ (x : ℕ). x < n) T.is (param_low n l T.takes)

  pair_takes : (b d : Bool) (m n : ℕ) → m < length a → n < length a → ((b && d) && same_var a m n) ≡ true → Takes b a m (param_of a m) × Takes d a n (param_of a m)
  unfolding same_var
  pair_takes b d m n k l e =
      let x = and_true (b && d) (same_var a m n) e in
      let y = and_true b d x.0 in
      let z = and_true (takes_var a m && takes_var a n) (same node_dec (at a (param_of a m)) (at a (param_of a n))) x.1 in
      let t = and_true (takes_var a m) (takes_var a n) z.0 in
      let p = param_low m k t.0 in
      let q = param_low n l t.1 in
      let s = once (param_of a m) (param_of a n) (omega (arith, p, k)) (omega (arith, q, l)) (same_true node_dec (at a (param_of a m)) (at a (param_of a n)) z.1) in
      (record { met = y.0; takes = t.0; is = refl }, record { met = y.1; takes = t.1; is = sym s })

-- ---- the loop
-- a node passed takes the variable of node p
pub record Earlier (f : ℕ → Bool) (a : Arena) (n p : ℕ) : Type 0 where
  pub node : ℕ
  pub low : node < n
  pub is : taken (f node) a node ≡ some p

passes_some : (f : ℕ → Bool) (o : Option ℕ) → passes f o ≡ true → (p : ℕ) × (o ≡ some p) × (f p ≡ true)
passes_some f none e = absurd (true_false (sym e))
passes_some f (some p) e = (p, refl, e)

pub record Sharing (w s : List ℕ) (c : Counters) (met seen : List ℕ) (n : ℕ) : Type 0 where
  pub lent : Lent w s c
  pub turn : n ≤ c.nodes
  pub long : length seen ≡ 64
  pub out : (table : ℕ) (a : Arena) → Holds table w s c a → (p : ℕ) → has seen p ≡ true → Earlier (has met) a n p
  pub into : (table : ℕ) (a : Arena) → Holds table w s c a → (m p : ℕ) → m < n → taken (has met m) a m ≡ some p → has seen p ≡ true
  pub none : (table : ℕ) (a : Arena) → Holds table w s c a → (m k : ℕ) → m < k → k < n → ((has met m && has met k) && same_var a m k) ≡ false

module _ {w s : List ℕ} {c : Counters} {met : List ℕ} where
  pub sharing_start : Lent w s c → Sharing w s c met (replicate 64 0) 0
  sharing_start L = record {
    lent = L;
    turn = omega arith;
    long = length-replicate {A = ℕ} 64 0;
    out = λ table a H p e. absurd (true_false (sym e ∙ has_none 64 p));
    into = λ table a H m p l. absurd (omega arith);
    none = λ table a H m k l j. absurd (omega arith);
  }

  module _ {seen : List ℕ} {n : ℕ} (S : Sharing w s c met seen n) where
    pub sharing_here : n < c.nodes → InRange w s c n
    sharing_here l = record { lent = S.lent; inside = l }

    within : {table : ℕ} {a : Arena} → n < c.nodes → Holds table w s c a → n < length a
    within l H = subst (λ (k : ℕ). n < k) H.nodes l

    pub sharing_row : n < c.nodes → {r : std.Option ℕ} → ParamAt w s c (has met n) n r → ParamRow seen (option_of r)
    sharing_row l {r} P = record {
      long = S.long;
      small = λ p e.
          let H = S.lent.holds in
          let T = takes_some (has met n) S.lent.view n p (sym (P.is _ S.lent.view H) ∙ e) in
          let low = takes_low _ S.lent.view H.good (within l H) T in
          let k = root_small (sharing_here l) in
          omega (arith, low, k);
    }

    module _ (l : n < c.nodes) {r : std.Option ℕ} (P : ParamAt w s c (has met n) n r) {seen' : List ℕ} {b : Bool} (G : Seeing seen (option_of r) seen' b) where
      pub sharing_found : b ≡ true → Shares w s c met true
      unfolding shared_in
      sharing_found e = record {
        is = λ table a H.
            let x = passes_some (has seen) (option_of r) (sym G.is ∙ e) in
            let E = S.out table a H x.0 x.2 in
            let T = takes_some (has met E.node) a E.node x.0 E.is in
            let U = takes_some (has met n) a n x.0 (sym (P.is table a H) ∙ x.1) in
            sym (some_one (pairs a) (length a) n (within l H) (some_one (λ (m : ℕ). (has met m && has met n) && same_var a m n) n E.node E.low (pair_true T U)));
      }
        where
          pairs : Arena → ℕ → Bool
          pairs a k = some_below (λ (m : ℕ). (has met m && has met k) && same_var a m k) k

      pub sharing_more : b ≡ false → Sharing w s c met seen' (n + 1)
      sharing_more e = record { lent = S.lent; turn = omega arith; long = G.long ∙ S.long; out = out; into = into; none = none' }
        where
          out : (table : ℕ) (a : Arena) → Holds table w s c a → (p : ℕ) → has seen' p ≡ true → Earlier (has met) a (n + 1) p
          out table a H p x = go (passes (eqb p) (option_of r)) refl (sym (G.grown e p) ∙ x)
            where
              go : (d : Bool) → passes (eqb p) (option_of r) ≡ d → (d || has seen p) ≡ true → Earlier (has met) a (n + 1) p
              go true q y =
                  let z = passes_some (eqb p) (option_of r) q in
                  record { node = n; low = omega arith; is = sym (P.is table a H) ∙ z.1 ∙ ap some (sym (eqb-true p z.0 z.2)) }
              go false q y = let E = S.out table a H p y in record { node = E.node; low = omega (arith, E.low); is = E.is }

          into : (table : ℕ) (a : Arena) → Holds table w s c a → (m p : ℕ) → m < n + 1 → taken (has met m) a m ≡ some p → has seen' p ≡ true
          into table a H m p k x = G.grown e p ∙ go (ℕ_discrete m n)
            where
              go : Dec (m ≡ n) → (passes (eqb p) (option_of r) || has seen p) ≡ true
              go (yes q) =
                  let y : option_of r ≡ some p = P.is table a H ∙ ap (λ (j : ℕ). taken (has met j) a j) (sym q) ∙ x in
                  rw (y, eq-eqb p p refl)
              go (no q) = or_right (passes (eqb p) (option_of r)) (has seen p) (S.into table a H m p (omega (arith, k, q)) x)

          new : (table : ℕ) (a : Arena) → Holds table w s c a → (m : ℕ) → m < n → ((has met m && has met n) && same_var a m n) ≡ true → ⊥
          new table a H m k x =
              let y = pair_takes table a H.good (has met m) (has met n) m n (let j = within l H in omega (arith, k, j)) (within l H) x in
              let z = S.into table a H m (param_of a m) k (some_takes y.0) in
              let o : option_of r ≡ some (param_of a m) = P.is table a H ∙ some_takes y.1 in
              true_false (sym (G.is ∙ ap (passes (has seen)) o ∙ z) ∙ e)

          none' : (table : ℕ) (a : Arena) → Holds table w s c a → (m k : ℕ) → m < k → k < n + 1 → ((has met m && has met k) && same_var a m k) ≡ false
          none' table a H m k x y = go (ℕ_discrete k n)
            where
              go : Dec (k ≡ n) → ((has met m && has met k) && same_var a m k) ≡ false
              go (yes q) = subst (λ (j : ℕ). ((has met m && has met j) && same_var a m j) ≡ false) (sym q) (not_true _ (new table a H m (omega (arith, x, q))))
              go (no q) = S.none table a H m k x (omega (arith, y, q))

    pub sharing_done : c.nodes ≤ n → Shares w s c met false
    unfolding shared_in
    sharing_done h = record {
      is = λ table a H.
          sym (some_none (pairs a) (length a) (λ k y. some_none (λ (m : ℕ). (has met m && has met k) && same_var a m k) k (λ m x. S.none table a H m k x (omega (arith, y, h, H.nodes)))));
    }
      where
        pairs : Arena → ℕ → Bool
        pairs a k = some_below (λ (m : ℕ). (has met m && has met k) && same_var a m k) k

  -- the set is that of the reachable nodes
  pub shared_said : {root : ℕ} {b : Bool} → ReachIn w s c root met → Shares w s c met b → Says has_shared_tyvar_across_lambda_params w s c root b
  unfolding has_shared_tyvar_across_lambda_params shared_in
  shared_said {root} R S = record {
    is = λ table a H.
        let same : (m : ℕ) → m < length a → has met m ≡ reaches a root m = λ m l. R.is table a H m (omega (arith, l, start_room H, H.nodes, H.few_starts)) in
        S.is table a H
        ∙ some_same (pairs (has met) a) (pairs (reaches a root) a) (length a) (λ k l.
        some_same (pair (has met) a k) (pair (reaches a root) a k) k (λ m j. λ i. (same m (omega (arith, j, l)) i && same k l i) && same_var a m k));
  }
    where
      pair : (ℕ → Bool) → Arena → ℕ → ℕ → Bool
      pair f a k m = (f m && f k) && same_var a m k

      pairs : (ℕ → Bool) → Arena → ℕ → Bool
      pairs f a k = some_below (pair f a k) k
