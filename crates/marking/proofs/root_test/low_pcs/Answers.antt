-- `low_pcs` asks each low_pc in turn. The invariant: the answer over all attributes is that over those from here on. Each specification takes bytes, so what
-- is left of the abbreviations falls. Assumes nothing.
use Rattle.std.specs.Prelude.{Ok}
use Rattle.readers.proofs.Refusing.{passed-on}
use mathlib.Core.Path.{refl, ap, ◌∙◌}
use Rattle.marking.proofs.RootTests.{attributes-less, low_end, low-live, low-refused, low-dead}
use Rattle.marking.proofs.root_test.low_pcs.Goals as goal

pub loop-a-init : goal.loop-a-init
loop-a-init c = refl

pub returns-in_default : goal.returns-in_default
returns-in_default c = search low_end

pub returns-in-Live : goal.returns-in-Live
returns-in-Live c = let v = c.in_ok-low_pc.was ∙ ap Ok c.in-Live.is in search low-live

pub returns-in_err-low_pc : goal.returns-in_err-low_pc
returns-in_err-low_pc c = passed-on _ _ c.from_residual.ensures.1 ∙ let v = c.in_err-low_pc.was in search low-refused

pub loop-a-smaller : goal.loop-a-smaller
loop-a-smaller c = search attributes-less

pub loop-a-preserved : goal.loop-a-preserved
loop-a-preserved c = let v = c.in_ok-low_pc.was ∙ ap Ok c.in-Dead.is in search low-dead
