-- `scan_loclist_for_refs`: the invariant is that the whole is what is found from here on, after what is in the table. Assumes nothing.
use Rattle.std.specs.Prelude.{Some}
use mathlib.Core.Path.{ap, ◌∙◌}
use Rattle.readers.proofs.Refusing.{refused-none, read_some, passed-on}
use mathlib.Core.List.{[]}
use Rattle.marking.proofs.LocationLists.{listing_start, listing-refused, list-less, listing-on, listing-end, listing_none}
use Rattle.marking.proofs.references.scan_loclist_for_refs.Goals as goal

pub loop-x-init : goal.loop-x-init
loop-x-init c = listing_start _ _ _ _ _

pub returns-in_err-to-in-Entry : goal.returns-in_err-to-in-Entry
returns-in_err-to-in-Entry c = let e = passed-on _ _ c.from_residual-in_err-to-in-Entry.ensures.1 in let l = listing-refused _ _ _ _ _ _ _ _ c.loop-x.invariant _ c.list_entry.ensures _ (read_some _ _ _ _ c.ok_or.ensures.value c.in_ok-x.was ∙ ap Some c.in-Entry.is) _ _ c.scan_location.ensures _ c.in_err-to-in-Entry.was in (e ∙ l.0, l.1)

pub loop-x-smaller : goal.loop-x-smaller
loop-x-smaller c = list-less _ _ _ [] _ c.list_entry.ensures _ (read_some _ _ _ _ c.ok_or.ensures.value c.in_ok-x.was ∙ ap Some c.in-Entry.is)

pub loop-x-preserved : goal.loop-x-preserved
loop-x-preserved c = listing-on _ _ _ _ c.args.start _ _ _ c.loop-x.invariant _ c.list_entry.ensures _ (read_some _ _ _ _ c.ok_or.ensures.value c.in_ok-x.was ∙ ap Some c.in-Entry.is) _ _ c.scan_location.ensures _ c.in_ok-to-in-Entry.was

pub returns-in-End : goal.returns-in-End
returns-in-End c = listing-end _ _ _ _ _ _ _ _ c.loop-x.invariant _ c.list_entry.ensures (read_some _ _ _ _ c.ok_or.ensures.value c.in_ok-x.was ∙ ap Some c.in-End.is)

pub returns-in_err-x : goal.returns-in_err-x
returns-in_err-x c = let n = refused-none _ _ _ _ _ c.ok_or.ensures.value c.in_err-x.was c.from_residual.ensures.1 in let l = listing_none _ _ _ _ _ _ _ _ c.loop-x.invariant _ c.list_entry.ensures n.0 in (n.1 ∙ l.0, l.1)
