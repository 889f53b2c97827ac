-- `fields_zero` tests each word.
use Rattle.std.proofs.Common.{rules}
use Rattle.std.proofs.lemmas.Iterator.{YieldsList-from_slice}
use Rattle.std.proofs.lemmas.Iterator.Search.{all_from_yields_List}
use borrow.Author.Tests.{tests}
use lib.Dec.{eqb}
use mathlib.Core.Path.{◌∙◌}
use Rattle.words.specs.Words.{field_zero}
use Rattle.node_faults.proofs.Passing.{all_zero}
use Rattle.node_faults.proofs.fields_zero.Goals as goal

pub returns : goal.returns
returns c = all_from_yields_List (λ w. eqb (field_zero w) 0) _ _ _ c.all.ensures.ran (YieldsList-from_slice c.args.words.now cc) (λ x b q k. search (rules, tests)) ∙ all_zero field_zero c.args.words.now
