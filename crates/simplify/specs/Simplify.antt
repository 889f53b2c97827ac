-- What `simplify` answers, leaves and promises (01, "simplify", "Who can cause which number" and "How far the contracts go").
use Rattle.std.specs.Prelude.{ℕ, ◌≡◌, List, length, Ok, Err}
use Rattle.types.specs.Out.{Out, ◌>>=◌}
use Rattle.types.specs.Arena.{Arena}
use Rattle.types.specs.Memory.{Holds}
use Rattle.types.specs.Reply.{Reply, reply, reply_of, tabled, judged, rooted}
use Rattle.types.specs.declared.Counters.{Counters}
use Rattle.names.specs.Table.{Name, names_of}
use Rattle.simplification.specs.Passes.{AfterPasses, simplify}
use Rattle.simplification.specs.Demand.{Demand}
use Rattle.simplify.specs.declared.Simplified.{Simplified}

-- the root after and how many passes were made
pub record Answer : Type 0 where
  pub root : ℕ
  pub made : ℕ

-- what a run gives a host, and the arena that it leaves
unfoldable pub answered : Out AfterPasses → Out (Answer × Arena)
unfolding ◌>>=◌
answered o = o >>= λ q. Ok (record { root = q.root; made = length q.taken }, q.arena)

-- after 1, 2 and 6, what the passes give; 7 and 8 come from them
unfoldable pub simplify_reply : List ℕ → List ℕ → List ℕ → Counters → ℕ → Reply Answer
unfolding reply_of tabled names_of judged rooted answered simplify
simplify_reply t w s c root =
    reply_of w s c (tabled (names_of t)
    (λ (ns : List Name). judged (length ns) w s c (rooted root (λ (a : Arena). answered (simplify (length w) (length s) root a)))))

-- an answer with the counters after, which a refusal leaves as they were
abbrev pub left : Counters → Out Simplified → List ℕ → List ℕ → Reply Answer
left c (Ok q) w s = reply (Ok (record { root = q.root; made = q.passes })) q.counters w s
left c (Err e) w s = reply (Err e) c w s

-- what a finished call has done: memory held the arena `given` and holds that of the result, and demand 3 holds from the given root to the
-- returned one
pub record Fulfilled (w s : List ℕ) (c : Counters) (root n : ℕ) (d : Counters) (w' s' : List ℕ) : Type 0 where
  pub table : ℕ
  pub given : Arena
  pub held : Holds table w s c given
  pub result : AfterPasses
  pub run : simplify (length w) (length s) root given ≡ Ok result
  pub returned : n ≡ result.root
  pub holds : Holds table w' s' d result.arena
  pub demand : Demand given root result

-- the reply, and demand 3, undivided
pub record Promise (t w s : List ℕ) (c : Counters) (root : ℕ) (w' s' : List ℕ) (r : Out Simplified) : Type 0 where
  pub answer : left c r w' s' ≡ simplify_reply t w s c root
  pub fulfilled : (q : Simplified) → r ≡ Ok q → Fulfilled w s c root q.root q.counters w' s'
