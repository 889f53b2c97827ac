use Rattle.name_lookup.proofs.Halving.{halving_start, low_fits, middle_fits, halving_higher, halving_lower, halving_found, halving_done, turn_higher, turn_lower}
use borrow.Author.Rules.{rules}
use Rattle.name_lookup.proofs.find_by_halves.Goals as goal

pub loop-size-init : goal.loop-size-init
loop-size-init c = search halving_start

pub overflow_add-middle : goal.overflow_add-middle
overflow_add-middle c = search (middle_fits, rules)

pub overflow_add-low : goal.overflow_add-low
overflow_add-low c = search (middle_fits, rules)

pub loop-size-smaller-in-Less : goal.loop-size-smaller-in-Less
loop-size-smaller-in-Less c = search turn_higher

pub loop-size-preserved-in-Less : goal.loop-size-preserved-in-Less
loop-size-preserved-in-Less c = search halving_higher

pub overflow_cast-result : goal.overflow_cast-result
overflow_cast-result c = search (middle_fits, rules)

pub returns-in-Equal : goal.returns-in-Equal
returns-in-Equal c = search halving_found

pub loop-size-smaller : goal.loop-size-smaller
loop-size-smaller c = search turn_lower

pub loop-size-preserved : goal.loop-size-preserved
loop-size-preserved c = search halving_lower

pub overflow_cast-result-2 : goal.overflow_cast-result-2
overflow_cast-result-2 c = search (low_fits, rules)

pub returns : goal.returns
returns c = search halving_done
