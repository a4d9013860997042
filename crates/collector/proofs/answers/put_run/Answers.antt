-- `put_run` meets its contract. The invariant: the numbers so far stand from the place on.
use native.Mathlib.Omega.{arith}
use Prim.Native.Nat.{◌+◌, ◌≤◌}
use lib.ListN.{length}
use Rattle.rewriting.proofs.WritePass.Putting.{put-room}
use Rattle.collector.proofs.Runs.{run-start, run_more, run_inside, run-done}
use Rattle.collector.proofs.answers.put_run.Goals as goal
use Rattle.collector.proofs.answers.put_run.Goals.{then-to-counts-via-then-to-counts, then-to-counts-via-else-to-counts+then-width-counts}

pub loop-number-init : goal.loop-number-init
loop-number-init c = run-start _ _ _ _

pub returns-then-to-counts : goal.returns-then-to-counts
returns-then-to-counts c = λ h.
    let room : c.loop-number.to + c.args.width ≤ length c.loop-number.counts = run_inside _ _ _ _ _ _ _ c.loop-number.invariant (omega arith) h in
    elim c.then-to-counts.branch [
      | then-to-counts-via-then-to-counts w ↦ absurd (omega arith)
      | then-to-counts-via-else-to-counts+then-width-counts w ↦ absurd (omega arith)
    ]

pub loop-number-preserved : goal.loop-number-preserved
loop-number-preserved c = run_more _ _ _ _ _ _ _ _ c.loop-number.invariant (omega arith) (omega arith)
    (put-room _ _ _ _ _ c.put_big_endian.ensures (omega arith))

pub returns : goal.returns
returns c = λ h. run-done _ _ _ _ _ _ _ c.loop-number.invariant (omega arith) h
