use Rattle.marking.proofs.Pairs.{pairing-start, pairing-as, pairing-none, pairing-more}
use Rattle.marking.proofs.units.resolve_entry.Goals as goal
use Rattle.marking.proofs.units.resolve_entry.Goals.{in-Some, in-None}

pub loop-name-init : goal.loop-name-init
loop-name-init c = pairing-start _ _ _ _ _ c.requires

pub loop-name-preserved : goal.loop-name-preserved
loop-name-preserved c =
    elim c.match-find_hinted.branch [
      | in-Some w ↦ pairing-as _ _ _ _ _ _ _ _ _ _ w.pairs-is w.place-is
          (pairing-more _ _ _ _ _ _ _ _ c.loop-name.invariant c.loop-name-test.true _ c.find_hinted.ensures _ w.in-Some.is)
      | in-None w ↦ pairing-as _ _ _ _ _ _ _ _ _ _ w.pairs-is w.place-is
          (pairing-none _ _ _ _ _ _ _ _ c.loop-name.invariant c.loop-name-test.true _ c.find_hinted.ensures w.in-None.is)
    ]
