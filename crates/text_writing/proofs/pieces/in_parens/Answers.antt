-- By the kind.
use Rattle.text_writing.proofs.NodePieces.{parens_union, parens_intersection, parens_negation, parens_param, parens_body, parens_not}
use Rattle.text_writing.proofs.pieces.in_parens.Goals as goal

pub returns-then-parent-eq-UNION : goal.returns-then-parent-eq-UNION
returns-then-parent-eq-UNION c = search parens_union

pub returns-then-parent-eq-INTERSECTION : goal.returns-then-parent-eq-INTERSECTION
returns-then-parent-eq-INTERSECTION c = search parens_intersection

pub returns-then-parent-eq-NEG : goal.returns-then-parent-eq-NEG
returns-then-parent-eq-NEG c = search parens_negation

pub returns-then-i-eq0 : goal.returns-then-i-eq0
returns-then-i-eq0 c = search parens_param

pub returns-else-i-eq0 : goal.returns-else-i-eq0
returns-else-i-eq0 c = search parens_body

pub returns-else-parent-eq-LAMBDA : goal.returns-else-parent-eq-LAMBDA
returns-else-parent-eq-LAMBDA c = search parens_not
