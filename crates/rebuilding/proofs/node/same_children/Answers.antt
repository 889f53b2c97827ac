-- The chain tells whether each word has its item, which is the same.
use Rattle.std.proofs.Common.{◌≡◌, take, rules, ◌∙◌}
use Rattle.std.specs.List.{list_all, zip}
use Rattle.std.proofs.lemmas.Iterator.{YieldsList-from_slice, YieldsList-from_zip}
use Rattle.std.proofs.lemmas.Iterator.Consumers.{YieldsList-at}
use Rattle.std.proofs.lemmas.Iterator.Search.{all_from_yields_List}
use Rattle.words.specs.Words.{child}
use Rattle.rebuilding.proofs.Exchanging.{fits, same_fits}
use Rattle.rebuilding.proofs.node.same_children.Goals as goal

pub returns : goal.returns
unfolding child
returns c =
    let xs = take c.args.count c.args.items.now in
    let road = YieldsList-from_zip (YieldsList-at c.zip.ensures.first (YieldsList-from_slice c.args.body.now c.iter.ensures.rest)) (YieldsList-from_slice {s = c.zip.result.b} xs c.zip.ensures.second.0) in
    let e : c.all.result ≡ list_all fits (zip c.args.body.now xs) = all_from_yields_List _ c.all.new.self _ c.all.result c.all.ensures.ran road (λ x b q k. search rules) in
    e ∙ same_fits c.args.body.now xs (search rules)
