use Prim.Native.Nat.{◌+◌, ◌-◌}
use mathlib.Core.Path.{◌≡◌, refl}
use native.Mathlib.Omega.{arith}
use borrow.Author.Rules.{rules}
use Rattle.types.proofs.Refusals.{passed}
use Rattle.simplify.proofs.Sequences.{passes_start, passes_range, passes_fits, passes_refused, passes_done, passes_more, passes_ended}
use Rattle.simplify.proofs.more_passes.Goals as goal

pub loop-init : goal.loop-init
loop-init c = let e : c.args.most - 0 ≡ c.args.most = omega arith in (rw e (search passes_start), search rules)

pub simplify_once-requires-clause-in_range : goal.simplify_once-requires-clause-in_range
simplify_once-requires-clause-in_range c = search passes_range

pub returns-in_err-next : goal.returns-in_err-next
returns-in_err-next c = rw (passed _ _ c.from_residual.ensures.1) (passes_refused c.loop.invariant.0 (omega arith) c.in_err-next.ensures.simplifies_once refl)

pub overflow_add-count : goal.overflow_add-count
overflow_add-count c = search passes_fits

pub returns-then-next-ty : goal.returns-then-next-ty
returns-then-next-ty c = passes_done c.loop.invariant.0 (omega arith) c.in_ok-next.ensures.simplifies_once refl c.if-next-ty.true

pub loop-preserved : goal.loop-preserved
loop-preserved c =
    let e : c.args.most - (c.loop.counter + 1) ≡ c.args.most - c.loop.counter - 1 = omega arith in
    (rw e (passes_more c.loop.invariant.0 (omega arith) c.in_ok-next.ensures.simplifies_once refl c.if-next-ty.false (search rules) (search rules)), c.in_ok-next.ensures.covers_after.is _ _ refl)

pub returns : goal.returns
returns c = passes_ended c.loop.invariant.0 (omega arith)
