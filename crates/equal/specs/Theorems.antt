-- What is shown of these definitions beyond the contracts. A statement with parameters holds for all of them.
use Rattle.std.specs.Prelude.{ℕ, ◌<◌, ◌≡◌, true, List, map, length}
use Rattle.std.proofs.Math.Option.{some}
use Rattle.types.specs.Arena.{Arena, sound}
use Rattle.names.specs.Table.{Name, names_of}
use Rattle.equal.specs.Equal.{tree}
use Rattle.equal.specs.Worked.{Case, worked}

-- in a sound arena nodes with equal trees are one node, so that a node of another arena is equal to at most one (01, "arena")
abbrev pub OnePartner : Type 0
OnePartner =
    (t : List ℕ) (ns : List Name) → names_of t ≡ some ns → (a : Arena) → sound (length ns) a ≡ true → (p q : ℕ) → p < length a
    → q < length a → tree ns a p ≡ tree ns a q → p ≡ q

-- every pair is as its case says
abbrev pub WorkedSo : Type 0
WorkedSo = map (λ (c : Case). c.gives) worked ≡ map (λ (c : Case). c.says) worked
