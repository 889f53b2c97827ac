-- Every text stands as its case says, by evaluation.
use mathlib.Core.Path.{refl}
use Rattle.names.specs.Table.{table}
use Rattle.name_lookup.specs.Lookup.{find_reply}
use Rattle.name_lookup.specs.Theorems.{WorkedSo}

pub worked_so : WorkedSo
unfolding find_reply table
worked_so = refl
