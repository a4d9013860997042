-- `hinted_offset` meets its contract.
use mathlib.Core.Path.{sym, ◌∙◌}
use Rattle.rewriting.proofs.MapPass.Places.{looked-is, looked-held, rank-held}
use Rattle.rewriting.proofs.map.hinted_offset.Goals as goal

pub returns : goal.returns
returns c = λ ps h e.
    c.found_at.ensures
    ∙ looked-is _ _ _ _ (c.hinted_place.ensures ps h e ∙ sym (rank-held ps c.args.map.now c.args.places c.args.old.0 h e))
    ∙ looked-held ps _ _ _ h e
