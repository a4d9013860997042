-- `emit_bytes`: all bytes, or none. Assumes nothing.
use Rattle.rewriting.proofs.WritePass.Putting.{over_none}
use Rattle.rewriting.proofs.WritePass.Emissions.{count_none, count-all}
use Rattle.rewriting.proofs.emit_entry.emit_bytes.Goals as goal

pub returns-then-bytes-out : goal.returns-then-bytes-out
returns-then-bytes-out c = record {
  count = count_none _ _ c.if-bytes-out.true;
  part = over_none _ _ c.if-bytes-out.true;
}

pub returns : goal.returns
returns c = record {
  count = count-all _ _ c.if-bytes-out.false;
  part = c.put_bytes.ensures;
}
