-- `simplify`: one pass, then more until one changes nothing (01, "simplify" and "Places and passes").
use Prim.Native.Nat.{ℕ, zero, suc}
use Rattle.std.proofs.Math.Bool.{true, false}
use Rattle.std.specs.Prelude.{List, [], ◌∷◌, eqb, Ok}
use Rattle.types.specs.Out.{Out, ◌>>=◌}
use Rattle.types.specs.Arena.{Arena}
use Rattle.simplification.specs.Pass.{pass}

-- a type that a pass takes: its root, and the arena in which it is read
pub record Taken : Type 0 where
  pub root : ℕ
  pub arena : Arena

-- the root and the arena after, and the type that each pass took: there were as many passes as there are types here
pub record AfterPasses : Type 0 where
  pub root : ℕ
  pub arena : Arena
  pub taken : List Taken

-- the result with one pass more before it
abbrev pub after : ℕ → Arena → AfterPasses → AfterPasses
after root a q = record { root = q.root; arena = q.arena; taken = record { root = root; arena = a } ∷ q.taken }

-- no pass
abbrev pub unchanged : ℕ → Arena → AfterPasses
unchanged root a = record { root = root; arena = a; taken = [] }

-- how many passes may follow the first
abbrev pub more_passes : ℕ
more_passes = 5

module _ (words starts : ℕ) where
  -- up to n passes, until one changes nothing
  unfoldable pub passes : ℕ → ℕ → Arena → Out AfterPasses
  unfolding pass ◌>>=◌
  passes zero root a = Ok (unchanged root a)
  passes (suc n) root a = pass words starts root a >>= λ r. elim (eqb r.0 root) [
    | true ↦ Ok (after root a (unchanged r.0 r.1))
    | false ↦ passes n r.0 r.1 >>= λ q. Ok (after root a q)
  ]

  -- a pass, and then up to n more
  unfoldable pub simplify_by : ℕ → ℕ → Arena → Out AfterPasses
  unfolding pass passes ◌>>=◌
  simplify_by n root a = pass words starts root a >>= λ r. passes n r.0 r.1 >>= λ q. Ok (after root a q)

  unfoldable pub simplify : ℕ → Arena → Out AfterPasses
  unfolding simplify_by
  simplify = simplify_by more_passes
