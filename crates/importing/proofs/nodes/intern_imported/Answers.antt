-- Two cases: a node without children, and one whose children are exchanged and whose fields are renamed.
use Rattle.importing.proofs.InternImported.{import_here, import_head, import_few, import_fits, leaf_fresh, leaf_imported, import_exchanging, import_renaming, import_prefix, import_length, import_fresh, imported}
use Rattle.importing.proofs.nodes.intern_imported.Goals as goal

pub node_at-node-requires : goal.node_at-node-requires
node_at-node-requires c = search import_here

pub intern_likely-requires-clause-fresh : goal.intern_likely-requires-clause-fresh
intern_likely-requires-clause-fresh c = search leaf_fresh

pub returns-then-count-eq0-clause-imports : goal.returns-then-count-eq0-clause-imports
returns-then-count-eq0-clause-imports c = search leaf_imported

pub exchange-requires : goal.exchange-requires
exchange-requires c = search import_exchanging

pub bounds-node-0 : goal.bounds-node-0
bounds-node-0 c = search import_head

pub rename_fields-requires : goal.rename_fields-requires
rename_fields-requires c = search import_renaming

pub overflow_add-len : goal.overflow_add-len
overflow_add-len c = search import_fits

pub near_after-next-requires : goal.near_after-next-requires
near_after-next-requires c = search import_few

pub slice_bounds-new-end : goal.slice_bounds-new-end
slice_bounds-new-end c = search import_prefix

pub slice_bounds-intern_likely-end : goal.slice_bounds-intern_likely-end
slice_bounds-intern_likely-end c = search import_length

pub intern_likely-requires-2-clause-fresh : goal.intern_likely-requires-2-clause-fresh
intern_likely-requires-2-clause-fresh c = search import_fresh

pub returns-clause-imports : goal.returns-clause-imports
returns-clause-imports c = imported c.requires.import_ready c.wide.ensures c.node_at-node.ensures c.requires.complete c.if-count-eq0.false c.exchange.ensures c.field_count.ensures c.rename_fields.ensures c.intern_likely-2.ensures.interns
