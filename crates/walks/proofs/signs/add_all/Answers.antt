use borrow.Author.Rules.{rules}
use Rattle.walks.proofs.Sweeps.{adding_none, adding_room, adding_more}
use Rattle.walks.proofs.signs.add_all.Goals as goal

pub returns-then-is_empty : goal.returns-then-is_empty
returns-then-is_empty c = adding_none c.requires (search rules)

pub add-requires : goal.add-requires
add-requires c = search adding_room

pub loop-i-preserved : goal.loop-i-preserved
loop-i-preserved c = search adding_more
