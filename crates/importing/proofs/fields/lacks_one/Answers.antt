use mathlib.Core.Path.{◌≡◌, ◌∙◌}
use borrow.Author.Rules.{rules}
use Rattle.std.specs.List.{list_any}
use Rattle.std.proofs.lemmas.Iterator.{YieldsList-from_slice}
use Rattle.std.proofs.lemmas.Iterator.Search.{any_from_yields_List}
use Rattle.importing.proofs.FieldWords.{is_lacking, any_lacking}
use Rattle.importing.proofs.fields.lacks_one.Goals as goal

pub returns : goal.returns
returns c =
    let e : c.any.result ≡ list_any (is_lacking c.args.names.now) c.args.fields.now = any_from_yields_List _ c.any.new.self _ c.any.result c.any.ensures.ran (YieldsList-from_slice c.args.fields.now c.iter.ensures.rest) (λ x b q k. search rules) in
    e ∙ any_lacking c.args.names.now c.args.fields.now
