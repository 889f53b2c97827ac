-- Each way out gives what the definition says of the sheet that memory held.
use mathlib.Core.Path.{refl}
use Rattle.types.proofs.Refusals.{passed}
use Rattle.names.proofs.Places.{table_listable}
use Rattle.sheet_format.proofs.Answering.{after_range, type_stopped, type_refused, type_given}
use Rattle.sheet_format.proofs.answer_type.Goals as goal

pub returns-in_default : goal.returns-in_default
returns-in_default c = type_stopped c.requires c.simplify_in-simplified.ensures c.unwrap_err.ensures

pub display_in-requires-clause-in_range : goal.display_in-requires-clause-in_range
display_in-requires-clause-in_range c = after_range c.requires c.simplify_in-simplified.ensures c.in-Ok.is

pub display_in-requires-clause-listable : goal.display_in-requires-clause-listable
display_in-requires-clause-listable c = table_listable c.requires.table

pub returns-in_err-length : goal.returns-in_err-length
returns-in_err-length c = rw (passed _ _ c.from_residual.ensures.1) (type_refused c.requires c.simplify_in-simplified.ensures c.in-Ok.is c.in_err-length.ensures refl)

pub returns : goal.returns
returns c = type_given c.requires c.simplify_in-simplified.ensures c.in-Ok.is c.in_ok-length.ensures refl
