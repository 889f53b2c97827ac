-- `names_rise` compares each name with the one before.
use Rattle.std.proofs.Common.{rules}
use Rattle.std.proofs.lemmas.List.Sorted.{answers_always}
use borrow.Author.Tests.{tests}
use lib.Dec.{ltb}
use Rattle.words.specs.Words.{field_name}
use Rattle.node_faults.proofs.Rising.{rising_sorted}
use Rattle.node_faults.proofs.names_rise.Goals as goal

pub returns : goal.returns
returns c = rising_sorted field_name c.args.words.now c.is_sorted_by.result (c.is_sorted_by.ensures.cases (λ x y. ltb (field_name x) (field_name y)) (answers_always _ _ _ (λ f a r g k. search (rules, tests))))
