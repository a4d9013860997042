-- `big_endian_at` meets its contract.
use Rattle.rewriting.proofs.WritePass.Putting.{read-value, read-nothing}
use Rattle.rewriting.proofs.numbers.big_endian_at.Goals as goal

pub returns-in-Some : goal.returns-in-Some
returns-in-Some c = read-value _ _ _ _ c.fixed.ensures _ _ c.in-Some.is

pub returns-in-None : goal.returns-in-None
returns-in-None c = read-nothing _ _ _ _ c.fixed.ensures c.in-None.is
