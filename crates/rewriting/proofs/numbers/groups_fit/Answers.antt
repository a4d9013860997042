-- `groups_fit` meets its contract.
use mathlib.Core.Path.{sym, ◌∙◌}
use native.Mathlib.Omega.{arith}
use Rattle.rewriting.proofs.WritePass.Putting.{groups_none, groups-over, groups-beyond, groups-rest}
use Rattle.rewriting.proofs.numbers.groups_fit.Goals as goal
use Rattle.rewriting.proofs.numbers.groups_fit.Goals.{then-width-gt0, else-width-gt0, then-width-le10, else-width-le10}

pub returns-then-width-room : goal.returns-then-width-room
returns-then-width-room c = c.fits.ensures ∙ sym (groups-rest _ _ _ (λ e. omega arith) (omega arith) (omega arith))

pub returns-else-width-room : goal.returns-else-width-room
returns-else-width-room c =
    elim c.if-width-le10.branch [
      | then-width-le10 w ↦ cc (groups-beyond c.args.value c.args.width c.args.room (omega arith))
      | else-width-le10 w ↦ elim c.if-width-gt0.branch [
        | then-width-gt0 u ↦ cc (groups-over c.args.value c.args.width c.args.room (omega arith))
        | else-width-gt0 u ↦ cc (groups_none c.args.value c.args.width c.args.room (omega arith))
      ]
    ]
