-- The loop's invariant: the text is one of the names from `low` on, `size` of them, or lies beside one. Its measure, how often `size` can be halved, is at most 13 and less at each turn: so many names are compared.
use Rattle.name_lookup.specs.Turns.{halvings}
use Rattle.name_lookup.proofs.Halving.{Halving}
use Rattle.name_lookup.proofs.find_by_halves.Given as goal

abbrev pub invariant-loop-size : goal.invariant-loop-size
invariant-loop-size l = Halving l.table l.text l.low l.size

abbrev pub decreases-loop-size : goal.decreases-loop-size
decreases-loop-size l = halvings 13 l.size
