-- `scan_live_die_attrs`: the invariant is that the whole is what the attributes from here on name, after what is in the table. Assumes nothing.
use mathlib.Core.Path.{◌∙◌}
use Rattle.readers.proofs.Refusing.{passed-on}
use Rattle.marking.proofs.AttributeScans.{scanning-start, scanning-end, scanning-less, scanning-refused, scanning-on}
use Rattle.marking.proofs.references.scan_live_die_attrs.Goals as goal

pub loop-a-init : goal.loop-a-init
loop-a-init c = scanning-start _ _ _ _ _ _ _

pub returns-in_default : goal.returns-in_default
returns-in_default c = scanning-end _ _ _ _ _ _ _ _ _ _ _ c.loop-a.invariant _ c.next_attribute.ensures c.in_default.is _ c.values_end.ensures

pub returns-in_err-to : goal.returns-in_err-to
returns-in_err-to c = let e = passed-on _ _ c.from_residual.ensures.1 in let s = scanning-refused _ _ _ _ _ _ _ _ _ _ _ c.loop-a.invariant _ c.next_attribute.ensures _ c.in-Some.is _ _ c.scan_attribute.ensures _ c.in_err-to.was in (e ∙ s.0, s.1)

pub loop-a-smaller : goal.loop-a-smaller
loop-a-smaller c = scanning-less _ _ _ _ _ _ _ _ _ _ _ c.loop-a.invariant _ c.next_attribute.ensures _ c.in-Some.is

pub loop-a-preserved : goal.loop-a-preserved
loop-a-preserved c = scanning-on _ _ _ _ _ _ _ _ _ _ _ c.loop-a.invariant _ c.next_attribute.ensures _ c.in-Some.is _ _ c.scan_attribute.ensures _ c.in_ok-to.was
