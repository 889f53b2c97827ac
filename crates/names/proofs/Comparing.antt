-- Names stand as std compares their bytes.
use mathlib.Core.Path.{◌≡◌, ◌∙◌}
use Rattle.std.specs.Ordering.{nat_cmp}
use Rattle.std.specs.Cmp.Lexicographic.{slice_cmp}
use Rattle.std.specs.declared.cmp.Ordering.{Ordering}
use Rattle.types.proofs.Orders.{cmp_lexicographic}
use Rattle.names.specs.Table.{Name, name_order}

pub cmp_names : (a b : Name) {o : Ordering} → o ≡ slice_cmp nat_cmp a b → o ≡ name_order a b
unfolding name_order
cmp_names a b e = e ∙ cmp_lexicographic a b
