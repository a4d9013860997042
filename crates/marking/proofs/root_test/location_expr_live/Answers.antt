-- `location_expr_live` answers by the operations. The invariant: the answer is that from here on, with the flag so far. Assumes nothing.
use Rattle.std.specs.Prelude.{Ok}
use mathlib.Core.Path.{ap, ◌∙◌}
use Rattle.readers.proofs.Refusing.{refused-none, read_some, passed-on}
use Rattle.marking.proofs.Lists.{location-start, location-live, location-dead, location-none, location-less, operation-met, operation-passed, operation-refused}
use Rattle.marking.proofs.root_test.location_expr_live.Goals as goal

pub loop-c-init : goal.loop-c-init
loop-c-init c = search location-start

pub returns-in_err-op : goal.returns-in_err-op
returns-in_err-op c = let n = refused-none _ _ _ _ _ c.ok_or.ensures.value c.in_err-op.was c.from_residual.ensures.1 in n.1 ∙ let q = n.0 in search location-none

pub returns-in_err-operation_live : goal.returns-in_err-operation_live
returns-in_err-operation_live c = let r = read_some _ _ _ _ c.ok_or.ensures.value c.in_ok-op.was in passed-on _ _ c.from_residual-in_err-operation_live.ensures.1 ∙ let v = c.in_err-operation_live.was in search operation-refused

pub loop-c-smaller-in-Live : goal.loop-c-smaller-in-Live
loop-c-smaller-in-Live c = let r = read_some _ _ _ _ c.ok_or.ensures.value c.in_ok-op.was in search location-less

pub loop-c-preserved-in-Live : goal.loop-c-preserved-in-Live
loop-c-preserved-in-Live c = let r = read_some _ _ _ _ c.ok_or.ensures.value c.in_ok-op.was in let v = c.in_ok-operation_live.was ∙ ap Ok c.in-Live.is in search operation-met

pub loop-c-smaller : goal.loop-c-smaller
loop-c-smaller c = let r = read_some _ _ _ _ c.ok_or.ensures.value c.in_ok-op.was in search location-less

pub loop-c-preserved : goal.loop-c-preserved
loop-c-preserved c = let r = read_some _ _ _ _ c.ok_or.ensures.value c.in_ok-op.was in let v = c.in_ok-operation_live.was ∙ ap Ok c.in-Dead.is in search operation-passed

pub returns-then-live : goal.returns-then-live
returns-then-live c = search location-live

pub returns : goal.returns
returns c = search location-dead
