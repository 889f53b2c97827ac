-- One node added: without a fault and not there yet, it is what interning adds.
use Prim.Native.Nat.{ℕ, ◌<◌, ◌≤◌}
use mathlib.Core.Path.{◌≡◌, refl, sym, ap, ◌∙◌, subst}
use mathlib.Core.Bool.{Bool, true, false}
use mathlib.Core.List.{List, ◌∷◌}
use mathlib.Core.Option.{Option, none, some}
use native.Mathlib.Omega.{arith}
use lib.ListN.{length}
use Rattle.words.specs.declared.Layout.TheVariants as layout
use Rattle.std.specs.Prelude.{Ok, Err}
use Rattle.types.specs.declared.refusal.Refusal.{Refusal}
use Rattle.types.specs.declared.refusal.Refusal.TheVariants as refusal
use Rattle.types.specs.Out.{Out, checked, ◌>>=◌}
use Rattle.types.specs.Node.{Node, decode}
use Rattle.types.specs.Arena.{Arena, find}
use Rattle.types.specs.Memory.{words_of, starts_of, counters_of, Holds}
use Rattle.types.specs.Reply.{reply_of}
use Rattle.types.specs.declared.Counters.{Counters}
use Rattle.types.proofs.Refusals.{checked_err}
use Rattle.types.proofs.Decodes.{decode_ok, Faultless}
use Rattle.types.proofs.Sound.{find_at}
use Rattle.node_store.specs.Intern.{has_room, intern, left}
use Rattle.node_store.specs.Inner.Added.{Interns}
use Rattle.node_store.proofs.Additions.{intern_stored, intern_full, intern_new, node_in}
use Rattle.node_store.proofs.Interning as interning
use Rattle.node_store.proofs.Interning.{done_holds}
use Rattle.sheet_reading.specs.Sheet.{placed, added}
use Rattle.sheet_reading.specs.Inner.Steps.{Adds, done, stop, AddsNode}

-- ---- the definition, case by case
module _ (lw ls table : ℕ) (ws : List ℕ) (a : Arena) where
  added_fault : {e : Refusal} → decode table (length a) ws ≡ Err e → added layout.New lw ls table ws a ≡ Err e
  unfolding added
  added_fault p = ap (λ (o : Out Node). o >>= placed lw ls a) p

  module _ {x : Node} (p : decode table (length a) ws ≡ Ok x) where
    added_is : added layout.New lw ls table ws a ≡ placed lw ls a x
    unfolding added
    added_is = ap (λ (o : Out Node). o >>= placed lw ls a) p

    added_stored : {n : ℕ} → find x a ≡ some n → added layout.New lw ls table ws a ≡ Err refusal.MalformedSheet
    unfolding placed
    added_stored f = added_is ∙ rw (placed, f)

    added_full : find x a ≡ none → has_room lw ls (x ∷ a) ≡ false → added layout.New lw ls table ws a ≡ Err refusal.NoRoom
    unfolding placed
    added_full f r = added_is ∙ rw (placed, f, r)

    added_new : find x a ≡ none → has_room lw ls (x ∷ a) ≡ true → added layout.New lw ls table ws a ≡ Ok (x ∷ a)
    unfolding placed
    added_new f r = added_is ∙ rw (placed, f, r)

-- ---- outcomes made from equations
module _ {table : ℕ} {w s : List ℕ} where
  adds_stop : {e : Refusal} {o : Out Arena} → o ≡ Err e → Adds table w s (Err e) o
  adds_stop {e} p = subst (Adds table w s (Err e)) (sym p) stop

  adds_done : {n : ℕ} {d : Counters} {b : Arena} {o : Out Arena} → o ≡ Ok b → Holds table w s d b → Adds table w s (Ok (n, d)) o
  adds_done {n} {d} p H = subst (Adds table w s (Ok (n, d))) (sym p) (done H)

-- ---- the ways that interning may go
by_cases : (lw ls : ℕ) (x : Node) (a : Arena) {P : Type 0} → ((n : ℕ) → find x a ≡ some n → P) → (find x a ≡ none → has_room lw ls (x ∷ a) ≡ false → P) → (find x a ≡ none → has_room lw ls (x ∷ a) ≡ true → P) → P
by_cases lw ls x a {P} old full new = go (find x a) refl
  where
    room : find x a ≡ none → (t : Bool) → has_room lw ls (x ∷ a) ≡ t → P
    room g false q = full g q
    room g true q = new g q

    go : (o : Option ℕ) → find x a ≡ o → P
    go (some n) g = old n g
    go none g = room g (has_room lw ls (x ∷ a)) refl

-- ---- what the function answers
module _ {table : ℕ} {w s : List ℕ} {c : Counters} {ws : List ℕ} where
  pub add_fault : {e : Refusal} → Err e ≡ checked (decode table c.nodes ws) → AddsNode table w s c ws w s (Err e)
  add_fault {e} q = record {
    is = λ a H. adds_stop (added_fault (length w) (length s) table ws a (checked_err _ (q ∙ ap (λ (i : ℕ). checked (decode table i ws)) H.nodes)));
  }

  module _ (z : Ok tt ≡ checked (decode table c.nodes ws)) {w' s' : List ℕ} {r : Out (ℕ × Counters)} (I : Interns w s c ws w' s' r) where
    node_of : (a : Arena) → Holds table w s c a → Faultless table (length a) ws
    node_of = node_in z

    decoded : (a : Arena) (H : Holds table w s c a) → decode table (length a) ws ≡ Ok (node_of a H).node
    decoded a H = decode_ok table (length a) ws (node_of a H).node (node_of a H).is

    cases : (a : Arena) (H : Holds table w s c a) {P : Type 0} → ((n : ℕ) → find (node_of a H).node a ≡ some n → P)
        → (find (node_of a H).node a ≡ none → has_room (length w) (length s) ((node_of a H).node ∷ a) ≡ false → P)
        → (find (node_of a H).node a ≡ none → has_room (length w) (length s) ((node_of a H).node ∷ a) ≡ true → P)
        → P
    cases a H = by_cases (length w) (length s) (node_of a H).node a

    -- what interning left, told by its answer
    told : {q : Out (ℕ × Counters)} → r ≡ q → (a : Arena) (H : Holds table w s c a) {o : Out (ℕ × Arena)} → intern (length w) (length s) (node_of a H).node a ≡ o → left c q w' s' ≡ reply_of w s c o
    told p a H e = sym (ap (λ (q : Out (ℕ × Counters)). left c q w' s') p) ∙ I.is table a (node_of a H).node H (node_of a H).is ∙ ap (reply_of w s c) e

    pub add_refused : {e : Refusal} → r ≡ Err e → AddsNode table w s c ws w' s' r
    unfolding reply_of
    add_refused {e} p = subst (AddsNode table w s c ws w' s') (sym p) (record {
      is = λ a H. cases a H
          (λ n g. let t = told p a H (intern_stored (length w) (length s) (node_of a H).node a n g) in let y : ◌≡◌ {A = ℕ} 0 1 = cc in absurd (omega arith))
          (λ g q. let t = told p a H (intern_full (length w) (length s) (node_of a H).node a g q) in let i : refusal.NoRoom ≡ e = cc in adds_stop (added_full (length w) (length s) table ws a (decoded a H) g q ∙ ap Err i))
          (λ g q. let t = told p a H (intern_new (length w) (length s) (node_of a H).node a g q) in let y : ◌≡◌ {A = ℕ} 0 1 = cc in absurd (omega arith));
    })

    module _ {n : ℕ} {d : Counters} (p : r ≡ Ok (n, d)) {v : ℕ} (q : v ≡ n) where
      never_full : (a : Arena) (H : Holds table w s c a) → find (node_of a H).node a ≡ none → has_room (length w) (length s) ((node_of a H).node ∷ a) ≡ false → ⊥
      unfolding reply_of
      never_full a H g y =
          let t = told p a H (intern_full (length w) (length s) (node_of a H).node a g y) in
          let x : ◌≡◌ {A = ℕ} 0 1 = cc in omega arith

      -- a stored node has a number below the count, and a new one has the count
      pub add_old : v < c.nodes → AddsNode table w s c ws w' s' (Err refusal.MalformedSheet)
      unfolding reply_of
      add_old l = record {
        is = λ a H. cases a H
            (λ k g. adds_stop (added_stored (length w) (length s) table ws a (decoded a H) g))
            (λ g y. absurd (never_full a H g y))
            (λ g y. let t = told p a H (intern_new (length w) (length s) (node_of a H).node a g y) in let i : n ≡ length a = cc in absurd (omega (arith, l, q, i, H.nodes)));
      }

      pub add_new : c.nodes ≤ v → AddsNode table w s c ws w' s' (Ok (n, d))
      unfolding reply_of
      add_new l = record {
        is = λ a H. cases a H
            (λ k g.
            let t = told p a H (intern_stored (length w) (length s) (node_of a H).node a k g) in
            let i : n ≡ k = cc in
            absurd (omega (arith, l, q, i, (find_at (node_of a H).node a k g).0, H.nodes)))
            (λ g y. absurd (never_full a H g y))
            (λ g y.
            let x = (node_of a H).node in
            let t = told p a H (intern_new (length w) (length s) x a g y) in
            let i : d ≡ counters_of (x ∷ a) = cc in
            let j : w' ≡ words_of (length w) (x ∷ a) = cc in
            let k : s' ≡ starts_of (length s) (x ∷ a) = cc in
            adds_done (added_new (length w) (length s) table ws a (decoded a H) g y) (moved x a i j k (done_holds H (node_of a H).is.good (interning.added g y))));
      }
        where
          moved : (x : Node) (a : Arena) → d ≡ counters_of (x ∷ a) → w' ≡ words_of (length w) (x ∷ a) → s' ≡ starts_of (length s) (x ∷ a)
              → Holds table (words_of (length w) (x ∷ a)) (starts_of (length s) (x ∷ a)) (counters_of (x ∷ a)) (x ∷ a) → Holds table w' s' d (x ∷ a)
          moved x a i j k = subst (λ (h : Type 0). h) (λ t. Holds table (sym j t) (sym k t) (sym i t) (x ∷ a))
