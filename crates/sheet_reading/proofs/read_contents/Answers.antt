-- Each fault in the order of the definition; a sheet without one is what its names and nodes say.
use mathlib.Core.Path.{refl}
use borrow.Author.Rules.{rules}
use Rattle.types.proofs.Refusals.{passed}
use Rattle.sheet_reading.proofs.Sheets.{too_many, names_refused, nodes_ready, nodes_refused, left_over, no_root, read_whole}
use Rattle.sheet_reading.proofs.read_contents.Goals as goal

pub returns-then-names-most_names : goal.returns-then-names-most_names
returns-then-names-most_names c = search too_many

pub returns-in_err-end : goal.returns-in_err-end
returns-in_err-end c = rw (passed _ _ c.from_residual.ensures.1) (names_refused _ c.requires _ _ _ c.most_names.ensures c.if-names-most_names.false c.in_err-end.ensures refl)

pub read_nodes-requires : goal.read_nodes-requires
read_nodes-requires c = nodes_ready _ c.requires c.args.names c.args.nodes c.args.root c.most_names.ensures c.if-names-most_names.false c.in_ok-end.ensures refl

pub returns-in_err-at : goal.returns-in_err-at
returns-in_err-at c = rw (passed _ _ c.from_residual-in_err-at.ensures.1) (nodes_refused _ c.requires _ _ _ c.most_names.ensures c.if-names-most_names.false c.in_ok-end.ensures refl c.in_err-at.ensures refl)

pub returns-then-at-input : goal.returns-then-at-input
returns-then-at-input c = left_over _ c.requires _ _ _ c.most_names.ensures c.if-names-most_names.false c.in_ok-end.ensures refl c.in_ok-at.ensures refl c.if-at-input.true

pub returns-then-wide-c : goal.returns-then-wide-c
returns-then-wide-c c = no_root _ c.requires _ _ _ c.most_names.ensures c.if-names-most_names.false c.in_ok-end.ensures refl c.in_ok-at.ensures refl (search rules) c.wide.ensures (search rules)

pub returns : goal.returns
returns c = read_whole _ c.requires _ _ _ c.most_names.ensures c.if-names-most_names.false c.in_ok-end.ensures refl c.in_ok-at.ensures refl (search rules) c.wide.ensures (search rules)
