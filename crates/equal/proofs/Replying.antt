-- What the call answers on each of its ways.
use Prim.Native.Nat.{ℕ, ◌<◌, ◌≤◌}
use mathlib.Core.Path.{◌≡◌, sym, ap, ◌∙◌}
use mathlib.Core.Bool.{Bool}
use mathlib.Core.List.{List}
use native.Mathlib.Omega.{arith}
use Rattle.std.specs.Prelude.{Ok, Err}
use Rattle.types.specs.declared.refusal.Refusal.{Refusal}
use Rattle.types.specs.declared.refusal.Refusal.TheVariants as refusal
use Rattle.types.specs.Out.{Out}
use Rattle.types.specs.Arena.{Arena}
use Rattle.types.specs.Reply.{rooted}
use Rattle.types.specs.declared.Counters.{Counters}
use Rattle.types.proofs.Replies.{rooted_no, rooted_yes}
use Rattle.names.specs.Table.{Name}
use Rattle.soundness.specs.Inner.Sound.{lent_reply}
use Rattle.soundness.specs.Lent.{lent_to}
use Rattle.soundness.specs.Inner.Sides.{Side}
use Rattle.soundness.proofs.Sides.{side_known, refused_to, side_to}
use Rattle.equal.specs.Equal.{equal}
use Rattle.equal.specs.Reply.{equal_roots, equal_reply}
use Rattle.equal.specs.Inner.Pairs.{Sides, Tells, Answers, RightAnswers}

-- ---- 6 for either root
abbrev answer : ℕ → ℕ → List Name → List Name → Arena → Arena → Out Bool
answer m n ns ms x y = Ok (equal ns x m ms y n)

abbrev right_rooted : ℕ → ℕ → List Name → List Name → Arena → Arena → Out Bool
right_rooted m n ns ms b x = rooted n (answer m n ns ms x) b

left_in : {t w s : List ℕ} {c : Counters} {u v r : List ℕ} {d : Counters} (m n : ℕ) → m < c.nodes → (L : Side t w s c) (R : Side u v r d) → right_rooted m n L.names R.names R.view L.view ≡ equal_roots m n L.names L.view R.names R.view
unfolding equal_roots
left_in m n l L R = sym (rooted_yes m (right_rooted m n L.names R.names R.view) L.view (omega (arith, l, L.holds.nodes)))

module _ {t w s : List ℕ} {c : Counters} {m : ℕ} {u v r : List ℕ} {d : Counters} {n : ℕ} where
  pub left_out : c.nodes ≤ m → Answers t w s c m u v r d n (Err refusal.NoSuchRoot)
  unfolding equal_roots
  left_out h = record { is = λ L R. sym (rooted_no m (right_rooted m n L.names R.names R.view) L.view (omega (arith, h, L.holds.nodes))) }

  module _ (l : m < c.nodes) where
    pub right_out : d.nodes ≤ n → Answers t w s c m u v r d n (Err refusal.NoSuchRoot)
    right_out h = record { is = λ L R. sym (rooted_no n (answer m n L.names R.names L.view) R.view (omega (arith, h, R.holds.nodes))) ∙ left_in m n l L R }

    pub roots_in : n < d.nodes → {o : Bool} → Tells t w s c m u v r d n o → Answers t w s c m u v r d n (Ok o)
    roots_in h T = record {
      is = λ L R. ap Ok (T.is L R) ∙ sym (rooted_yes n (answer m n L.names R.names L.view) R.view (omega (arith, h, R.holds.nodes))) ∙ left_in m n l L R;
    }

-- ---- both sides
module _ (u v r : List ℕ) (d : Counters) where
  pub right_refused : {t w s : List ℕ} {c : Counters} {m n : ℕ} {e : Refusal} → Err e ≡ lent_reply u v r d → RightAnswers t w s c m u v r d n (Err e)
  right_refused {m = m} {n = n} e = record { is = λ L. refused_to u v r d (λ (ms : List Name) (b : Arena). equal_roots m n L.names L.view ms b) e }

  pub both_known : {t w s : List ℕ} {c : Counters} {k : ℕ} → Ok k ≡ lent_reply u v r d → Side t w s c → Sides t w s c u v r d
  both_known e L = record { left = L; right = side_known u v r d e }

  pub right_done : {t w s : List ℕ} {c : Counters} {m n k x y : ℕ} {o : Out Bool} → Ok k ≡ lent_reply u v r d → x ≡ m → y ≡ n → Answers t w s c x u v r d y o → RightAnswers t w s c m u v r d n o
  right_done {m = m} {n = n} e q z A = record {
    is = λ L.
        let R = side_known u v r d e in
        A.is L R ∙ (λ i. equal_roots (q i) (z i) L.names L.view R.names R.view) ∙ side_to R (λ (ms : List Name) (b : Arena). equal_roots m n L.names L.view ms b);
  }

abbrev on_the_right : ℕ → List ℕ → List ℕ → List ℕ → Counters → ℕ → List Name → Arena → Out Bool
on_the_right m u v r d n ns a = lent_to u v r d (λ (ms : List Name) (b : Arena). equal_roots m n ns a ms b)

module _ (t w s : List ℕ) (c : Counters) (m : ℕ) (u v r : List ℕ) (d : Counters) (n : ℕ) where
  pub left_refused : {e : Refusal} → Err e ≡ lent_reply t w s c → Err e ≡ equal_reply t w s c m u v r d n
  unfolding equal_reply
  left_refused e = refused_to t w s c (on_the_right m u v r d n) e

  pub left_done : {k : ℕ} → Ok k ≡ lent_reply t w s c → {o : Out Bool} → RightAnswers t w s c m u v r d n o → o ≡ equal_reply t w s c m u v r d n
  unfolding equal_reply
  left_done e A = let L = side_known t w s c e in A.is L ∙ side_to L (on_the_right m u v r d n)
