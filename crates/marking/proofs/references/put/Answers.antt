-- `put`: at a place of the table, or past its end. Assumes nothing.
use mathlib.Core.Path.{refl}
use Rattle.marking.proofs.Placing.{place_inside, put-past}
use Rattle.marking.proofs.references.put.Goals as goal

pub returns-then-at-targets : goal.returns-then-at-targets
returns-then-at-targets c = record {
  place = place_inside _ _ c.if-at-targets.true;
  table = refl;
}

pub returns : goal.returns
returns c = let p = put-past _ _ _ c.if-at-targets.false in record { place = p.0; table = p.1 }
