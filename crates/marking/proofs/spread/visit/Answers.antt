-- `visit` meets its contract: the references of an entry, then its parent. Assumes nothing.
use native.Mathlib.Omega.{arith}
use Rattle.marking.proofs.Spreads.{parents-fit-still, spread-on, by-parents}
use Rattle.marking.proofs.spread.visit.Goals as goal

pub lift-requires : goal.lift-requires
lift-requires c = record {
  parents_fit = search parents-fit-still;
  i_in_bounds = omega (arith, c.place.ensures, c.follow-to.auto.marks);
}

pub returns : goal.returns
returns c = spread-on c.follow-to.ensures (by-parents _ _ c.lift.ensures)
