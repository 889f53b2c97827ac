-- What the call answers on each of its ways: 6, 13, 14, or what the rows say.
use Prim.Native.Nat.{ℕ, ◌≤◌, ◌<◌}
use mathlib.Core.Path.{◌≡◌, sym, ap, ◌∙◌, subst}
use mathlib.Core.Bool.{Bool, true, false}
use mathlib.Core.List.{List}
use mathlib.Core.Option.{Option}
use native.Mathlib.Omega.{arith}
use lib.ListN.{length, replicate, length-replicate}
use Rattle.std.specs.Prelude.{Ok, Err}
use Rattle.types.specs.declared.refusal.Refusal.{Refusal}
use Rattle.types.specs.declared.refusal.Refusal.TheVariants as refusal
use Rattle.types.specs.Out.{Out, required}
use Rattle.types.specs.Arena.{Arena}
use Rattle.types.specs.Memory.{Holds}
use Rattle.types.specs.Reply.{judged}
use Rattle.types.specs.declared.Counters.{Counters}
use Rattle.types.proofs.Replies.{tabled_yes, judged_yes, rooted_no, rooted_yes}
use Rattle.names.specs.Table.{Name, names_of}
use Rattle.node_store.specs.Inner.Stored.{Lent}
use Rattle.soundness.specs.Lent.{lent_to}
use Rattle.soundness.specs.Inner.Sound.{lent_reply}
use Rattle.soundness.proofs.Verdicts.{lent_names, lent_refused}
use Rattle.walks.specs.Inner.Asked.{Says}
use Rattle.questions.specs.Vars.{has_var}
use Rattle.fix_values.specs.Fix.{Fix, fix_of}
use Rattle.fix_values.specs.Inner.{Unplaced, Checks}
use Rattle.fix_values.proofs.Checking.{held_few}
use Rattle.fitting.specs.Fits.{fits}
use Rattle.fitting.specs.Inner.Pairs.{Decidable, Decides}
use Rattle.fits.specs.Fits.{fits_type, fits_root, fits_reply}
use Rattle.fits.specs.Inner.{FitsIn}

pub no_places : Unplaced (replicate 1024 0)
no_places = record { long = length-replicate {A = ℕ} 1024 0 }

pub places_long : {table : ℕ} {ws ps : List ℕ} {n : ℕ} → Checks table ws ps n → length ps ≡ 1024
places_long C = C.long

module _ (table : ℕ) (root : ℕ) (ws : List ℕ) where
  -- what follows 6
  abbrev after : Arena → Out Bool
  after a = required refusal.MalformedFix (fix_of table ws) (fits_type a root)

  fixed : (a : Arena) {o : Option Fix} → fix_of table ws ≡ o → after a ≡ required refusal.MalformedFix o (fits_type a root)
  fixed a e = ap (λ (o : Option Fix). required refusal.MalformedFix o (fits_type a root)) e

  typed : (a : Arena) (f : Fix) {b : Bool} → has_var false a root ≡ b → fits_type a root f ≡ elim b as (λ _. Out Bool) [ true ↦ Err refusal.HasVariable | false ↦ Ok (fits f a root) ]
  unfolding fits_type
  typed a f e = λ i. elim (e i) as (λ _. Out Bool) [ true ↦ Err refusal.HasVariable | false ↦ Ok (fits f a root) ]

  module _ {w s : List ℕ} {c : Counters} where
    pub no_root : c.nodes ≤ root → FitsIn table w s c root ws (Err refusal.NoSuchRoot)
    unfolding fits_root
    no_root h = record { is = λ k a H. sym (rooted_no root after a (omega (arith, H.nodes))) }

    module _ (l : root < c.nodes) where
      rooted_so : {o : Out Bool} → ((k : ℕ) (a : Arena) → Holds k w s c a → o ≡ after a) → FitsIn table w s c root ws o
      unfolding fits_root
      rooted_so I = record { is = λ k a H. I k a H ∙ sym (rooted_yes root after a (subst (λ (n : ℕ). root < n) H.nodes l)) }

      module _ {ps : List ℕ} {n : ℕ} (C : Checks table ws ps n) where
        pub no_fix : n ≡ 0 → FitsIn table w s c root ws (Err refusal.MalformedFix)
        unfolding required
        no_fix e = rooted_so (λ k a H. sym (fixed a (C.broken e)))

        module _ (z : n ≡ 0 → ⊥) where
          pub has_variable : {b : Bool} → Says (has_var false) w s c root b → b ≡ true → FitsIn table w s c root ws (Err refusal.HasVariable)
          unfolding required
          has_variable S e = let (f, F) = C.fix z in rooted_so (λ k a H. sym (fixed a F.is ∙ typed a f (sym (S.is k a H) ∙ e)))

          pub decidable : Lent w s c → Decidable w s c root ws ps n
          decidable L =
              let (f, F) = C.fix z in
              let (p, q) = held_few F in
              record { range = record { lent = L; inside = l }; table = table; view = f; holds = F; some_value = p; few = q }

          pub decided : {b : Bool} → Says (has_var false) w s c root b → b ≡ false → {r : Bool} → Decides w s c root ws ps n r → FitsIn table w s c root ws (Ok r)
          unfolding required
          decided S e D = let (f, F) = C.fix z in rooted_so (λ k a H. ap Ok (D.is k a H table f F) ∙ sym (fixed a F.is ∙ typed a f (sym (S.is k a H) ∙ e)))

-- ---- in any memory
abbrev going_on : ℕ → List ℕ → List Name → Arena → Out Bool
going_on root ws ns = fits_root (length ns) root ws

module _ (t w s : List ℕ) (c : Counters) (root : ℕ) (ws : List ℕ) where
  pub fits_refused : {e : Refusal} → Err e ≡ lent_reply t w s c → Err e ≡ fits_reply t w s c root ws
  unfolding fits_reply lent_to
  fits_refused e = lent_refused t w s c (going_on root ws) e

  pub fits_done : {k x : ℕ} {o : Out Bool} → Ok k ≡ lent_reply t w s c → x ≡ root → FitsIn k w s c x ws o → o ≡ fits_reply t w s c root ws
  unfolding fits_reply lent_to
  fits_done {k} e u I =
      let L = lent_names t w s c e in
      let H : Holds (length L.names) w s c L.view = subst (λ (i : ℕ). Holds i w s c L.view) L.count L.holds in
      I.is k L.view L.holds
      ∙ (λ i. fits_root (L.count i) (u i) ws L.view)
      ∙ sym (tabled_yes (λ (ns : List Name). judged (length ns) w s c (going_on root ws ns)) (names_of t) L.names L.is
      ∙ judged_yes (length L.names) w s c (going_on root ws L.names) L.view H)
