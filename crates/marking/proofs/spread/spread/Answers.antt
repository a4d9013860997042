-- `spread` meets its contract: a pass from parent to child, then the work list. Assumes nothing.
use Rattle.marking.proofs.Passes.{pairs-fit-still}
use Rattle.marking.proofs.Spreads.{parents-fit-still, spread-on, passed-parents}
use Rattle.marking.proofs.spread.spread.Goals as goal

pub visit_all-requires : goal.visit_all-requires
visit_all-requires c = record {
  parents_fit = search parents-fit-still;
  pairs_fit = search pairs-fit-still;
}

pub returns : goal.returns
returns c = spread-on (passed-parents _ _ c.down.ensures) c.visit_all.ensures
