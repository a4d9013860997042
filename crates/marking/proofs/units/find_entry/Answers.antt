-- `find_entry`: the offsets ascend, so what the search finds is the entry. Assumes nothing.
use Rattle.marking.proofs.Searches.{key-found, entry-at, entry-nowhere}
use Rattle.marking.proofs.units.find_entry.Goals as goal

pub returns-in-Ok : goal.returns-in-Ok
returns-in-Ok c =
    entry-at _ _ c.requires _ c.in-Ok.ensures.bound (key-found (λ x. x) c.args.offsets.now c.args.target.0 c.in-Ok.i 0 c.in-Ok.ensures.ok)

pub returns-in-Err : goal.returns-in-Err
returns-in-Err c = entry-nowhere _ _ c.requires _ c.in-Err.ensures.position
