-- At which signs a type has a variable, as computed tests (01, "Places and passes"; the theorem `sees_places` says them with places).
use Rattle.std.specs.Prelude.{ℕ, zero, suc, Bool, false, ◌&&◌, ◌||◌, List, [], ◌∷◌}
use Rattle.std.proofs.Math.Bool.{xor}
use Rattle.std.proofs.Math.Decide.{ℕ_discrete}
use Rattle.types.specs.Same.{same}
use Rattle.types.specs.Node.{Polarity, positive, negative, Polarity-dec, Tag, var, Tag-dec, form_dec}
use Rattle.types.specs.Arena.{Arena, fold}
use Rattle.types.specs.Places.{child_sign}

-- are the two tags equal?
unfoldable pub same_tag : Tag → Tag → Bool
unfolding same ℕ_discrete form_dec
same_tag = same (Tag-dec Polarity-dec ℕ_discrete form_dec)

-- does one of the children pass, child i at the sign `sign i`?
unfoldable pub some_child : (ℕ → Polarity) → List (Polarity → Bool) → Bool
some_child sign [] = false
some_child sign (y ∷ ys) = y (sign zero) || some_child (λ i. sign (suc i)) ys

-- the same test of a node, from its children's: it is the variable itself, or one of them has it
abbrev pub sees_node : ℕ → Polarity → Tag → List (Polarity → Bool) → Polarity → Bool
sees_node v p t ys s = (same_tag t (var v) && same Polarity-dec s p) || some_child (λ i. child_sign t i s) ys

-- has the type of node n, at the sign s, the variable v at a place of the sign p?
unfoldable pub sees : Arena → ℕ → Polarity → ℕ → Polarity → Bool
unfolding fold same same_tag some_child child_sign
sees a n s v p = fold (sees_node v p) a n s

-- has the type of the root, which is positive, the variable v at places of one sign only?
unfoldable pub one_signed : Arena → ℕ → ℕ → Bool
unfolding xor sees
one_signed a root v = xor (sees a root positive v positive) (sees a root positive v negative)
