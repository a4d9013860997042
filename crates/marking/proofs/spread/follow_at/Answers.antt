-- `follow_at` meets its contract: a reference, then the descendants of what it names. Assumes nothing.
use native.Mathlib.Omega.{arith}
use Rattle.marking.proofs.Passes.{pair_inside}
use Rattle.marking.proofs.Spreads.{parents-fit-still, spread-on, by-parents, passed-pairs}
use Rattle.marking.proofs.spread.follow_at.Goals as goal

pub bounds-marks-at : goal.bounds-marks-at
bounds-marks-at c = omega (arith, c.place-at.ensures, (pair_inside c.args.pairs.now c.args.marks.now c.args.j c.requires.pairs_fit c.requires.j_in_bounds).1)

pub returns-then-not-along_at : goal.returns-then-not-along_at
returns-then-not-along_at c = search passed-pairs

pub descend-requires : goal.descend-requires
descend-requires c = search parents-fit-still

pub returns : goal.returns
returns c = spread-on (passed-pairs _ _ c.along_at.ensures) (by-parents _ _ c.descend.ensures)
