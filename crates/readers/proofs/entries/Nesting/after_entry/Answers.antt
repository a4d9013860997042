-- `Nesting::after_entry` meets its contract. Assumes nothing.
use Rattle.readers.proofs.Nesting.{opens, opens-over, opens-none}
use Rattle.readers.proofs.entries.Nesting.after_entry.Goals as goal
use Rattle.readers.proofs.entries.Nesting.after_entry.Goals.{else-children-via-then-children+else-self-lt18446744073709551615, else-children-via-else-children}

pub returns-then-self-lt18446744073709551615 : goal.returns-then-self-lt18446744073709551615
returns-then-self-lt18446744073709551615 c = search opens

pub returns : goal.returns
returns c =
    elim c.else-children.branch [
      | else-children-via-then-children+else-self-lt18446744073709551615 w ↦ search opens-over
      | else-children-via-else-children w ↦ search opens-none
    ]
