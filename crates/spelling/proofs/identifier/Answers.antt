-- The first byte begins an identifier, and each other goes on with it.
use Rattle.std.proofs.Common.{rules}
use Rattle.std.proofs.lemmas.Iterator.{YieldsList-from_slice}
use Rattle.std.proofs.lemmas.Iterator.Search.{all_from_yields_List}
use borrow.Author.Tests.{tests}
use Rattle.spelling.specs.Spelling.{continues}
use Rattle.spelling.proofs.Identifiers.{identifier_none, first_not, first_then}
use Rattle.spelling.proofs.identifier.Goals as goal

pub returns-in_default : goal.returns-in_default
returns-in_default c = search (identifier_none, c.in_default.ensures.cases)

pub returns-then-begins : goal.returns-then-begins
returns-then-begins c =
    first_then c.in-Some.ensures.cases.0 c.begins.ensures c.if-begins.true
    (all_from_yields_List continues _ _ _ c.all.ensures.ran (YieldsList-from_slice c.in-Some.rest.now cc) (λ x b q k. search (rules, tests)))

pub returns-else-begins : goal.returns-else-begins
returns-else-begins c = first_not c.in-Some.ensures.cases.0 c.begins.ensures c.if-begins.false
