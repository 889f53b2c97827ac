use mathlib.Core.Path.{◌≡◌, refl, sym, ◌∙◌}
use borrow.Author.Rules.{rules}
use Rattle.std.proofs.lemmas.Iterator.{YieldsList-from_slice, IsFirst-from_position, index_from_first}
use Rattle.renumbering.specs.Renumbered.{index}
use Rattle.renumbering.proofs.Indexing.{index_here, index_on}
use Rattle.renumbering.proofs.vars.index_of.Goals as goal

pub returns : goal.returns
unfolding index
returns c =
    let v = c.args.v in
    let vars = c.args.vars.now in
    let first = IsFirst-from_position c.position.new.self _ c.position.result (λ x. x ≡ v) (λ x. x ≡ v → ⊥) c.position.ensures.ran (YieldsList-from_slice vars c.iter.ensures.rest) (λ x q k. search rules) (λ x q k. search rules) in
    c.unwrap_or.ensures ∙ sym (index_from_first (λ l. index l v) (λ x. x ≡ v) (λ x. x ≡ v → ⊥) refl (λ x xs e. index_here x v xs e) (λ x xs f. index_on x v xs f) vars c.position.result first)
