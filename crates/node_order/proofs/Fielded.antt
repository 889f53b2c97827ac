-- The fields of a formed node in its words: from kind 4 on they are its first words.
use Prim.Native.Nat.{ℕ, ◌+◌, ◌-◌, ◌≤◌}
use mathlib.Core.Path.{◌≡◌, refl, sym, ap, ◌∙◌}
use mathlib.Core.Bool.{false}
use mathlib.Core.List.{List, [], ◌∷◌, map}
use native.Mathlib.Omega.{arith}
use lib.ListN.{length, take, length-append}
use borrow.Author.Tests.{eqb-true}
use Rattle.words.specs.Words.{bit}
use Rattle.types.specs.Kind.{disc, body_count}
use Rattle.types.specs.Node.{positive, negative, field, primitive, list, lambda, attrset, named, Tag, members, bound, var, neg, form, node, kind, data_of, child_words, child_words_in, body, field_of}
use Rattle.types.proofs.Nodes.{Formed, length_child_words, fields_back}
use Rattle.node_order.specs.WordsOrder.{field_count}

pub record Fielded (t : Tag) (cs : List ℕ) : Type 0 where
  pub numberless : (data_of t).numbers ≡ []
  pub fields : (data_of t).fields ≡ map field_of (take (field_count (disc (kind t)) (data_of t).dynamic (length (body (node t cs)))) (body (node t cs)))

pub fielded : (t : Tag) (cs : List ℕ) → Formed t cs → 4 ≤ disc (kind t) → Fielded t cs
unfolding field_count child_words_in body_count
fielded (members positive) cs F h = record { numberless = refl; fields = refl }
fielded (members negative) cs F h = record { numberless = refl; fields = refl }
fielded (bound positive) cs F h = absurd (omega arith)
fielded (bound negative) cs F h = absurd (omega arith)
fielded (var v) cs F h = absurd (omega arith)
fielded neg cs F h = record { numberless = refl; fields = refl }
fielded (form (primitive c)) cs F h = absurd (omega arith)
fielded (form list) cs F h = record { numberless = refl; fields = refl }
fielded (form lambda) cs F h = record { numberless = refl; fields = refl }
fielded (form (attrset fs d o)) cs F h =
    let l : length cs ≡ length fs + bit d = eqb-true (length cs) (length fs + bit d) F.matches in
    let k : length (child_words fs cs) - bit d ≡ length fs = omega (arith, length_child_words fs cs) in
    record { numberless = refl; fields = rw k (sym (fields_back fs cs F.few_names F.few_nodes (omega arith))) }
fielded (form (named n)) cs F h =
    let k : length (child_words (field false n ∷ []) cs) ≡ 1 = eqb-true _ 1 F.counted in
    record { numberless = refl; fields = rw k (sym (fields_back (field false n ∷ []) cs F.few_names F.few_nodes (omega (arith, length_child_words (field false n ∷ []) cs)))) }

pub body_length : (t : Tag) (cs : List ℕ) → length (body (node t cs)) ≡ length (data_of t).numbers + length cs
body_length t cs = length-append (data_of t).numbers (child_words (data_of t).fields cs) ∙ ap (λ (k : ℕ). length (data_of t).numbers + k) (length_child_words (data_of t).fields cs)
