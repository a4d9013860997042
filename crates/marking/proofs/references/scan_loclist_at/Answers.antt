-- `scan_loclist_at`: by where the list starts. Assumes nothing.
use mathlib.Core.Path.{◌∙◌}
use Rattle.readers.proofs.Refusing.{refused-none, read_some}
use Rattle.marking.proofs.LocationLists.{list_at_lem, list-unresolved}
use Rattle.marking.proofs.references.scan_loclist_at.Goals as goal

pub returns : goal.returns
returns c = list_at_lem _ _ _ _ _ _ (read_some _ _ _ _ c.ok_or.ensures.value c.in_ok-ok_or.was) _ _ c.scan_loclist_for_refs.ensures

pub returns-in_err-ok_or : goal.returns-in_err-ok_or
returns-in_err-ok_or c = let n = refused-none _ _ _ _ _ c.ok_or.ensures.value c.in_err-ok_or.was c.from_residual.ensures.1 in let l = list-unresolved _ _ _ _ _ n.0 in (n.1 ∙ l.0, l.1)
