-- What is shown of a fix beyond the contracts: its words and its values say the same (02, A5).
use Rattle.std.specs.Prelude.{ℕ, ◌≤◌, ◌<◌, ◌≡◌, true, List, map, length}
use Rattle.std.proofs.Math.Option.{some}
use Rattle.fix_values.specs.Fix.{Fix, flat, good, fix_of}
use Rattle.fix_values.specs.Worked.{Case, worked}

-- f is a fix: 1 to 1,024 values, each of which may stand where it does
pub record IsFix (table : ℕ) (f : Fix) : Type 0 where
  pub some_value : 0 < length f
  pub few : length f ≤ 1024
  pub good_so : good table f ≡ true

-- the words of a fix give the fix back; a table has at most 4,096 names (02, A2)
abbrev pub FixEncode : Type 0
FixEncode = (table : ℕ) → table ≤ 4096 → (f : Fix) → IsFix table f → fix_of table (flat f) ≡ some f

-- and words that give a fix are its words
pub record Decoded (table : ℕ) (ws : List ℕ) (f : Fix) : Type 0 where
  pub is_fix : IsFix table f
  pub words : ws ≡ flat f

abbrev pub FixDecode : Type 0
FixDecode = (table : ℕ) (ws : List ℕ) (f : Fix) → fix_of table ws ≡ some f → Decoded table ws f

-- every case is as it says
abbrev pub WorkedSo : Type 0
WorkedSo = map (λ (c : Case). c.gives) worked ≡ map (λ (c : Case). c.says) worked
