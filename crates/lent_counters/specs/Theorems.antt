-- What is shown of lent counters beyond the contracts.
use Rattle.std.specs.Prelude.{ℕ, ◌≡◌, List, Err}
use Rattle.types.specs.declared.refusal.Refusal.{Refusal}
use Rattle.types.specs.Reply.{reply}
use Rattle.types.specs.declared.Counters.{Counters}
use Rattle.arena.specs.Intern.{intern_reply}

-- a refusal leaves the lent counters as they were
abbrev pub RefusedKept : Type 0
RefusedKept =
    (t w s : List ℕ) (c : Counters) (ws : List ℕ) (e : Refusal) (d : Counters) (w' s' : List ℕ)
    → reply (Err e) d w' s' ≡ intern_reply t w s c ws → d ≡ c
