-- `length_bytes` meets its contract. Assumes nothing.
use mathlib.Core.Path.{sym}
use Rattle.readers.proofs.Headers.{bytes-eight, bytes-other}
use Rattle.readers.proofs.header.length_bytes.Goals as goal

pub returns-then-offset_size-eq8 : goal.returns-then-offset_size-eq8
returns-then-offset_size-eq8 c = sym (bytes-eight _ c.if-offset_size-eq8.true)

pub returns-else-offset_size-eq8 : goal.returns-else-offset_size-eq8
returns-else-offset_size-eq8 c = sym (bytes-other _ c.if-offset_size-eq8.false)
