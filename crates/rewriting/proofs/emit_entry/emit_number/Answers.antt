-- `emit_number`: a number that fits, or one that does not. Assumes nothing.
use native.Mathlib.Omega.{arith}
use Rattle.rewriting.proofs.WritePass.Emissions.{within-to, within-no, number-room, number-yes, number-no}
use Rattle.rewriting.proofs.emit_entry.emit_number.Goals as goal

pub returns-then-put_number : goal.returns-then-put_number
returns-then-put_number c = record {
  within = within-to _ _ _ c.put_number.auto.out (number-room _ _ _ _ _ (omega arith) _ c.put_number.auto.out _ c.put_number.ensures c.if-put_number.true);
  bytes = number-yes _ _ _ _ _ (omega arith) _ c.put_number.auto.out _ c.put_number.ensures c.if-put_number.true;
}

pub returns : goal.returns
returns c = record {
  within = within-no _ _ _ c.put_number.auto.out;
  bytes = number-no _ _ _ _ _ (omega arith) _ c.put_number.auto.out _ c.put_number.ensures c.if-put_number.false;
}
