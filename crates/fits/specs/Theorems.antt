-- What is shown of the call beyond its contract.
use Rattle.std.specs.Prelude.{ℕ, ◌-◌, ◌≡◌, Bool, true, false, List, [], length, get_or, Ok, Err}
use Rattle.std.proofs.Math.Option.{some}
use Rattle.types.specs.Bytes.{bytes}
use Rattle.types.specs.declared.refusal.Refusal.TheVariants as refusal
use Rattle.types.specs.Out.{Out}
use Rattle.types.specs.Arena.{Arena}
use Rattle.types.specs.Memory.{Holds}
use Rattle.types.specs.declared.Counters.{Counters}
use Rattle.names.specs.Table.{Name, names_of}
use Rattle.questions.specs.Vars.{has_type_vars}
use Rattle.fix_values.specs.Values.{shape, names}
use Rattle.fix_values.specs.Fix.{Fix, value_at, fix_of}
use Rattle.fitting.specs.Fits.{among}
use Rattle.fitting.specs.Theorems.{Demands}
use Rattle.fits.specs.Fits.{fits_reply}

-- the type of the root demands a field of the name x
pub record DemandsName (ns : List Name) (a : Arena) (root : ℕ) (x : Name) : Type 0 where
  pub number : ℕ
  pub is : get_or ns number [] ≡ x
  pub demands : Demands a number root

-- the fix itself, a set or not, has no field of the name x
abbrev pub LacksName : List Name → Fix → Name → Type 0
LacksName ns f x = (n : ℕ) → among n (names (shape (value_at f (length f - 1)))) ≡ true → get_or ns n [] ≡ x → ⊥

-- a set needs every field that isn't optional: for a fix without the field that the type demands the answer is no, or 14 where the type has
-- a variable (02, A5)
abbrev pub NoFixWithoutName : Name → Type 0
NoFixWithoutName x =
    (t w s : List ℕ) (c : Counters) (ns : List Name) (a : Arena) (root : ℕ) (ws : List ℕ) (f : Fix) → names_of t ≡ some ns
    → Holds (length ns) w s c a → fix_of (length ns) ws ≡ some f → DemandsName ns a root x → LacksName ns f x
    → fits_reply t w s c root ws ≡ elim (has_type_vars a root) as (λ _. Out Bool) [ true ↦ Err refusal.HasVariable | false ↦ Ok false ]

-- so a fix without `roll` never fits a type that demands it
abbrev pub NoFixWithoutRoll : Type 0
NoFixWithoutRoll = NoFixWithoutName (bytes "roll")
