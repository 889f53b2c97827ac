-- The kind of a node, as a test.
use Rattle.std.specs.Prelude.{Bool, eqb}
use Rattle.types.specs.Kind as kinds
use Rattle.types.specs.Kind.{Kind, disc}
use Rattle.types.specs.Node.{Node, tag, kind}

-- has the node this kind?
abbrev pub of_kind : Kind → Node → Bool
of_kind k x = eqb (disc (kind (tag x))) (disc k)

-- is it a variable?
abbrev pub is_var : Node → Bool
is_var = of_kind kinds.ty_var
