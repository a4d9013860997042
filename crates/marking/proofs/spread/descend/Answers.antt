-- `descend` meets its contract: the marks so far are sound where those at the start were. Assumes nothing.
use native.Mathlib.Omega.{arith}
use borrow.Author.Rules.{rules}
use Rattle.marking.proofs.Spreads.{parents-fit-still, spread-on}
use Rattle.marking.proofs.spread.descend.Goals as goal

pub reach_child-to-requires : goal.reach_child-to-requires
reach_child-to-requires c = record {
  parents_fit = search parents-fit-still;
  k_in_bounds = omega arith;
}

pub loop-k-preserved : goal.loop-k-preserved
loop-k-preserved c = (omega arith, omega arith, search rules, search rules, search spread-on)
