-- 6 for a number past the last node; else how the nodes stand.
use Rattle.arena.proofs.Comparisons.{first_out, second_out, both_stand}
use Rattle.arena.proofs.compare_in.Goals as goal
use Rattle.arena.proofs.compare_in.Goals.{then-m-c-via-then-m-c, then-m-c-via-else-m-c+then-n-c}

pub returns-then-m-c : goal.returns-then-m-c
returns-then-m-c c = elim c.then-m-c.branch [ then-m-c-via-then-m-c w ↦ search first_out | then-m-c-via-else-m-c+then-n-c w ↦ search second_out ]

pub returns : goal.returns
returns c = search both_stand
