-- `bundle::read_bundle` tests the frame and reads the sections. Assumes nothing.
use Rattle.bundle.proofs.Parts.{framed, unframed}
use Rattle.bundle.proofs.read_bundle.Goals as goal

pub returns-then-frame : goal.returns-then-frame
returns-then-frame c = search framed

pub returns : goal.returns
returns c = search unframed
