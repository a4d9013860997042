-- `bytes_fit` meets its contract.
use mathlib.Core.Path.{sym, ◌∙◌}
use native.Mathlib.Omega.{arith}
use Rattle.rewriting.proofs.WritePass.Putting.{bytes-over, bytes-beyond, bytes_rest}
use Rattle.rewriting.proofs.numbers.bytes_fit.Goals as goal
use Rattle.rewriting.proofs.numbers.bytes_fit.Goals.{then-width-le8, else-width-le8}

pub returns-then-width-room : goal.returns-then-width-room
returns-then-width-room c = c.fits.ensures ∙ sym (bytes_rest _ _ _ (omega arith) (omega arith))

pub returns-else-width-room : goal.returns-else-width-room
returns-else-width-room c =
    elim c.if-width-le8.branch [
      | then-width-le8 w ↦ cc (bytes-beyond c.args.value c.args.width c.args.room (omega arith))
      | else-width-le8 w ↦ cc (bytes-over c.args.value c.args.width c.args.room (omega arith))
    ]
