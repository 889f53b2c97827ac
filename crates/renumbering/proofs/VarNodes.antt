-- The node of a variable: its words, and that it may stand anywhere.
use Prim.Native.Nat.{ℕ, ◌^◌, ◌<◌, ◌≤◌}
use mathlib.Core.Path.{◌≡◌, refl, sym, ap, ◌∙◌, subst}
use mathlib.Core.Bool.{true, false}
use mathlib.Core.List.{List, [], ◌∷◌}
use native.Mathlib.Omega.{arith}
use lib.ListN.{length, get_or}
use borrow.Author.Tests.{lt-ltb}
use Rattle.words.specs.Words.{head_word}
use Rattle.types.specs.Out.{Out}
use Rattle.types.specs.Kind.{body_count}
use Rattle.types.specs.Node.{var, tag, child_words_in, head_of, encode, encode_in, well, well_in}
use Rattle.types.specs.Arena.{Arena, at}
use Rattle.types.specs.Memory.{Holds}
use Rattle.types.specs.Reply.{reply_of}
use Rattle.types.specs.declared.Counters.{Counters}
use Rattle.types.proofs.Sound.{at_formed}
use Rattle.node_store.specs.Inner.Stored.{Lent, InRange, NodeAt}
use Rattle.node_store.specs.Intern.{intern, left}
use Rattle.node_store.specs.Inner.Added.{Fresh, Interns}
use Rattle.free_vars.proofs.Occurrences.{kind_var, var_alone}
use Rattle.renumbering.specs.Renumbered.{index, var_node}
use Rattle.renumbering.specs.Inner.{VarAt, VarIs, VarWords, RenumbersVar}
use Rattle.renumbering.proofs.Indexing.{index_few}

pub var_well : (table nodes v : ℕ) → v < 2 ^ 32 → well table nodes (var_node v) ≡ true
unfolding well_in body_count child_words_in
var_well table nodes v h = rw (lt-ltb v (2 ^ 32) h)

var_words : (v : ℕ) → encode (var_node v) ≡ head_word 3 false false 1 ∷ v ∷ []
unfolding encode_in head_of child_words_in head_word
var_words v = refl

-- ---- read
module _ {w s : List ℕ} {c : Counters} {n : ℕ} (T : VarAt w s c n) where
  pub var_range : InRange w s c n
  var_range = record { lent = T.lent; inside = T.inside }

  module _ {ws : List ℕ} (N : NodeAt w s c n ws) where
    read : (table : ℕ) (a : Arena) → Holds table w s c a → (v : ℕ) × ((tag (at a n) ≡ var v) × (ws ≡ head_word 3 false false 1 ∷ v ∷ []))
    read table a H =
        let I = kind_var (tag (at a n)) (sym (T.kind_is.is table a H)) in
        (I.number, (I.is, N.is table a H ∙ ap encode (var_alone (at a n) I.number (at_formed table a H.good n (omega (arith, T.inside, H.nodes))) I.is) ∙ var_words I.number))

    pub var_second : 1 < length ws
    var_second = let L = T.lent in let R = read L.table L.view L.holds in let z = ap length R.1.1 in omega (arith, z)

    pub var_read : {r : ℕ} → r ≡ get_or ws 1 0 → VarIs w s c n r
    var_read e = record { is = λ table a H. let R = read table a H in R.1.0 ∙ ap var (sym (e ∙ ap (λ (l : List ℕ). get_or l 1 0) R.1.1)) }

-- ---- made
pub var_made : {v h : ℕ} → h ≡ head_word 3 false false 1 → v < 2 ^ 32 → VarWords v (h ∷ v ∷ [])
var_made {v} e b = record { is = λ table nodes. record { words = ap (λ (x : ℕ). x ∷ v ∷ []) e ∙ sym (var_words v); good = var_well table nodes v b } }

pub var_fresh : {w s : List ℕ} {c : Counters} {v : ℕ} {ws : List ℕ} → VarWords v ws → Lent w s c → Fresh w s c ws
var_fresh {v = v} X L = record { table = L.table; view = L.view; holds = L.holds; node = var_node v; is = X.is L.table (length L.view) }

-- ---- renumbered
pub place_fits : (vars : List ℕ) (v : ℕ) {p : ℕ} → length vars ≤ 4096 → p ≡ index vars v → p < 2 ^ 32
place_fits vars v l e = omega (arith, l, e, index_few vars v)

pub var_renumbered : {vars w s : List ℕ} {c : Counters} {n x v p : ℕ} {ws w' s' : List ℕ} {r : Out (ℕ × Counters)} → x ≡ n → VarIs w s c x v → p ≡ index vars v → VarWords p ws → Interns w s c ws w' s' r → RenumbersVar vars w s c n w' s' r
var_renumbered {vars} {w} {s} {c} {n} {x} {v} {p} {w' = w'} {s'} {r} e T q X I = record {
  is = λ table a u H t.
      let z = sym (T.is table a H) ∙ ap (λ (i : ℕ). tag (at a i)) e ∙ t in
      let y : v ≡ u = cc in
      subst (λ (i : ℕ). left c r w' s' ≡ reply_of w s c (intern (length w) (length s) (var_node i) a)) (q ∙ ap (index vars) y) (I.is table a (var_node p) H (X.is table (length a)));
}

pub var_wide : {w s : List ℕ} {c : Counters} {n x : ℕ} → x ≡ n → VarAt w s c n → VarAt w s c x
var_wide {w} {s} {c} e T = subst (VarAt w s c) (sym e) T
