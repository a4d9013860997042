-- `emit_header`: the header copied, its length written over it. Assumes nothing.
use mathlib.Core.Path.{sym, ◌∙◌}
use Rattle.rewriting.proofs.WritePass.Putting.{bytes-room}
use Rattle.rewriting.proofs.WritePass.HeaderEmits.{header-low, header-past, header-short, header-few, header-large, header-put}
use Rattle.rewriting.proofs.emit_unit.emit_header.Goals as goal
use Rattle.rewriting.proofs.emit_unit.emit_header.Goals.{then-at-length-via-then-at-length, then-at-length-via-else-at-length+then-at-unit, then-at-length-via-else-at-length+else-at-unit+then-at-out, then-at-length-via-else-at-length+else-at-unit+else-at-out+then-bytes-length}

pub returns-then-at-length : goal.returns-then-at-length
returns-then-at-length c =
    elim c.then-at-length.branch [
      | then-at-length-via-then-at-length w ↦
          (let p = header-low _ _ _ _ _ _ c.length_bytes-length.ensures w.if-at-length.true in record { count = p.0; part = p.1 })
      | then-at-length-via-else-at-length+then-at-unit w ↦ (let p = header-past _ _ _ _ _ w.if-at-unit.true in record { count = p.0; part = p.1 })
      | then-at-length-via-else-at-length+else-at-unit+then-at-out w ↦ (let p = header-short _ _ _ _ _ w.if-at-out.true in record { count = p.0; part = p.1 })
      | then-at-length-via-else-at-length+else-at-unit+else-at-out+then-bytes-length w ↦
          (let p = header-few _ _ _ _ _ _ c.length_bytes-length.ensures w.if-bytes-length.true in record { count = p.0; part = p.1 })
    ]

pub returns-then-not-bytes_fit : goal.returns-then-not-bytes_fit
returns-then-not-bytes_fit c = let p = header-large _ _ _ _ _ _ c.length_bytes-length.ensures (sym c.bytes_fit.ensures ∙ c.if-not-bytes_fit.true) in record { count = p.0; part = p.1 }

pub overflow_sub-place : goal.overflow_sub-place
overflow_sub-place c = bytes-room _ _ _ (sym c.bytes_fit.ensures ∙ c.if-not-bytes_fit.false)

pub returns : goal.returns
returns c = let p = header-put _ _ _ _ _ _ c.length_bytes-length.ensures c.if-at-length.false c.if-at-unit.false c.if-at-out.false c.if-bytes-length.false
    (sym c.bytes_fit.ensures ∙ c.if-not-bytes_fit.false) _ c.put_bytes.ensures _ _ c.put_fixed.ensures in record { count = p.0; part = p.1 }
