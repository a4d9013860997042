-- `locations_live` asks each location in turn. The invariant: the answer over all attributes is that over those from here on. Assumes nothing.
use Rattle.std.specs.Prelude.{Ok}
use Rattle.readers.proofs.Refusing.{passed-on}
use mathlib.Core.Path.{refl, ap, ◌∙◌}
use Rattle.marking.proofs.RootTests.{attributes-less, locations-end, locations-list, locations-live, locations-refused, locations-dead}
use Rattle.marking.proofs.root_test.locations_live.Goals as goal

pub loop-a-init : goal.loop-a-init
loop-a-init c = refl

pub returns-in_default : goal.returns-in_default
returns-in_default c = search locations-end

pub returns-in-Live : goal.returns-in-Live
returns-in-Live c = let v = c.in_ok-location_expr_live.was ∙ ap Ok c.in-Live.is in search locations-live

pub returns-in_err-location_expr_live : goal.returns-in_err-location_expr_live
returns-in_err-location_expr_live c = passed-on _ _ c.from_residual.ensures.1 ∙ let v = c.in_err-location_expr_live.was in search locations-refused

pub loop-a-smaller-in-Dead : goal.loop-a-smaller-in-Dead
loop-a-smaller-in-Dead c = search attributes-less

pub loop-a-preserved-in-Dead : goal.loop-a-preserved-in-Dead
loop-a-preserved-in-Dead c = let v = c.in_ok-location_expr_live.was ∙ ap Ok c.in-Dead.is in search locations-dead

pub loop-a-smaller : goal.loop-a-smaller
loop-a-smaller c = search attributes-less

pub loop-a-preserved : goal.loop-a-preserved
loop-a-preserved c = search locations-list
