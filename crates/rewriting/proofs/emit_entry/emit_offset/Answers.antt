-- `emit_offset`: a new offset, or none. Assumes nothing.
use Rattle.readers.proofs.Refusing.{refused-none, read_some}
use mathlib.Core.Path.{refl}
use Rattle.rewriting.proofs.WritePass.Emissions.{within-no, offset-some, offset-none}
use Rattle.rewriting.proofs.emit_entry.emit_offset.Goals as goal

pub returns : goal.returns
returns c = record {
  within = c.emit_number.ensures.within;
  bytes = offset-some _ _ _ _ _ _ (read_some _ _ _ _ c.ok_or.ensures.value c.in_ok-value.was) _ _ c.emit_number.ensures.bytes;
}

pub returns-in_err-value : goal.returns-in_err-value
returns-in_err-value c = let n = refused-none _ _ _ _ _ c.ok_or.ensures.value c.in_err-value.was c.from_residual.ensures.1 in rw n.1 (record {
  within = within-no _ _ _ refl;
  bytes = offset-none _ _ _ _ _ n.0;
})
