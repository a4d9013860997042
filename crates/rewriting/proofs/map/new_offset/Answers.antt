-- `new_offset` meets its contract.
use mathlib.Core.Path.{◌∙◌}
use Rattle.rewriting.proofs.MapPass.Places.{looked-is}
use Rattle.rewriting.proofs.map.new_offset.Goals as goal

pub returns : goal.returns
returns c = c.found_at.ensures ∙ looked-is _ _ _ _ c.before-i.ensures
