-- The label of a formed node in its words below kind 4, where the body is the node's own number.
use Prim.Native.Nat.{ℕ, suc, ◌<◌, ◌≤◌}
use mathlib.Core.Path.{◌≡◌, refl, sym, ap, ◌∙◌}
use mathlib.Core.Bool.{false}
use mathlib.Core.List.{List, [], ◌∷◌}
use native.Mathlib.Omega.{arith}
use lib.ListN.{length, get_or}
use borrow.Author.Tests.{eqb-true}
use Rattle.types.specs.Kind.{disc, body_count}
use Rattle.types.specs.Node.{positive, negative, primitive, list, lambda, attrset, named, Tag, members, bound, var, neg, form, node, kind, child_words_in, body}
use Rattle.types.proofs.Nodes.{nil, cons, Formed}
use Rattle.names.specs.Table.{Name}
use Rattle.equal.specs.Equal.{label, label_of}

pub record Plain (ns : List Name) (t : Tag) (cs : List ℕ) : Type 0 where
  pub labelled : label_of ns t ≡ label (disc (kind t)) (body (node t cs)) [] false false
  pub childless : length cs ≡ 0
  pub short : length (body (node t cs)) ≤ 1

pub plain : (ns : List Name) (t : Tag) (cs : List ℕ) → Formed t cs → disc (kind t) < 4 → Plain ns t cs
unfolding body_count child_words_in
plain ns (members positive) cs F h = absurd (omega arith)
plain ns (members negative) cs F h = absurd (omega arith)
plain ns (bound positive) cs F h =
    let e = eqb-true (length cs) 0 F.counted in
    record { labelled = ap (λ (b : List ℕ). label 0 b [] false false) (sym (nil cs e)); childless = e; short = omega arith }
plain ns (bound negative) cs F h =
    let e = eqb-true (length cs) 0 F.counted in
    record { labelled = ap (λ (b : List ℕ). label 1 b [] false false) (sym (nil cs e)); childless = e; short = omega arith }
plain ns (var v) cs F h =
    let e : length cs ≡ 0 = omega (arith, eqb-true (suc (length cs)) 1 F.counted) in
    record { labelled = ap (λ (b : List ℕ). label 3 (v ∷ b) [] false false) (sym (nil cs e)); childless = e; short = omega arith }
plain ns neg cs F h = absurd (omega arith)
plain ns (form (primitive c)) cs F h =
    let e : length cs ≡ 0 = omega (arith, eqb-true (suc (length cs)) 1 F.counted) in
    record { labelled = ap (λ (b : List ℕ). label 2 (c ∷ b) [] false false) (sym (nil cs e)); childless = e; short = omega arith }
plain ns (form list) cs F h = absurd (omega arith)
plain ns (form lambda) cs F h = absurd (omega arith)
plain ns (form (attrset fs d o)) cs F h = absurd (omega arith)
plain ns (form (named n)) cs F h = absurd (omega arith)

pub one_word : (b d : List ℕ) → length b ≡ length d → length b ≤ 1 → get_or b 0 0 ≡ get_or d 0 0 → b ≡ d
one_word [] [] e h q = refl
one_word [] (y ∷ d) e h q = absurd (omega arith)
one_word (x ∷ b) [] e h q = absurd (omega arith)
one_word (x ∷ b) (y ∷ d) e h q = cons q (nil b (omega arith) ∙ sym (nil d (omega arith)))
