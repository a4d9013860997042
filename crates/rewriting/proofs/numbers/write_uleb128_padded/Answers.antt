-- `write_uleb128_padded` meets its contract.
use mathlib.Core.Path.{refl}
use Rattle.rewriting.proofs.WritePass.Putting.{groups-inside, padded-written, padded-refused}
use Rattle.rewriting.proofs.numbers.write_uleb128_padded.Goals as goal

pub slice_bounds-clear_bytes-count : goal.slice_bounds-clear_bytes-count
slice_bounds-clear_bytes-count c = groups-inside _ _ _ _ _ c.put_groups.ensures c.if-put_groups.true

pub slice_bounds-clear_bytes-start : goal.slice_bounds-clear_bytes-start
slice_bounds-clear_bytes-start c = groups-inside _ _ _ _ _ c.put_groups.ensures c.if-put_groups.true

pub returns-then-put_groups : goal.returns-then-put_groups
returns-then-put_groups c = let p = padded-written _ _ _ _ _ c.put_groups.ensures c.if-put_groups.true _ _ c.clear_bytes.ensures refl in record { answer = p.0; bytes = p.1 }

pub returns : goal.returns
returns c = let p = padded-refused _ _ _ _ _ c.put_groups.ensures c.if-put_groups.false _ c.clear_bytes-2.ensures in record { answer = p.0; bytes = p.1 }
