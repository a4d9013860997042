-- `analyse_entry` answers the root test and the scan together, 4 first. Assumes nothing.
use Rattle.readers.proofs.Refusing.{refused-none, read_some}
use mathlib.Core.Path.{sym, ◌∙◌}
use Rattle.marking.specs.Analysis.{values_of_entry, test_of, root_of, names_of}
use Rattle.marking.proofs.RangeSections.{rooted}
use Rattle.marking.proofs.EntryAnswers.{no-root, judged, row-found, row-unread, row-refused}
use Rattle.marking.proofs.analysis.analyse_entry.Goals as goal

pub returns-in-Err : goal.returns-in-Err
unfolding values_of_entry test_of root_of names_of
returns-in-Err c = no-root _ _ _ _ _ _ _ (sym (rooted _ _ _ _ _ _ _ _ _ _ _ c.root_of.ensures) ∙ c.in-Err.is) c.refusal.ensures

pub returns : goal.returns
unfolding values_of_entry test_of root_of names_of
returns c = row-found _ _ _ _ _ _ (judged _ _ _ (sym (rooted _ _ _ _ _ _ _ _ _ _ _ c.root_of.ensures) ∙ c.in-Ok.is) c.root_number-root.ensures) _ c.scan_live_die_attrs.ensures.1 _ _ (sym c.in-Ok-scan_live_die_attrs.is ∙ c.scan_live_die_attrs.ensures.0) _ (read_some _ _ _ _ c.ok_or.ensures.value c.in_ok-next.was)

pub returns-in_err-next : goal.returns-in_err-next
unfolding values_of_entry test_of root_of names_of
returns-in_err-next c = let n = refused-none _ _ _ _ _ c.ok_or.ensures.value c.in_err-next.was c.from_residual.ensures.1 in let r = row-unread _ _ _ _ _ _ (judged _ _ _ (sym (rooted _ _ _ _ _ _ _ _ _ _ _ c.root_of.ensures) ∙ c.in-Ok.is) c.root_number-root.ensures) _ c.scan_live_die_attrs.ensures.1 _ _ (sym c.in-Ok-scan_live_die_attrs.is ∙ c.scan_live_die_attrs.ensures.0) n.0 in (n.1 ∙ r.0, r.1)

pub returns-in-Err-scan_live_die_attrs : goal.returns-in-Err-scan_live_die_attrs
unfolding values_of_entry test_of root_of names_of
returns-in-Err-scan_live_die_attrs c = row-refused _ _ _ _ _ _ (judged _ _ _ (sym (rooted _ _ _ _ _ _ _ _ _ _ _ c.root_of.ensures) ∙ c.in-Ok.is) c.root_number-root.ensures) _ c.scan_live_die_attrs.ensures.1 _ _ (sym c.in-Err-scan_live_die_attrs.is ∙ c.scan_live_die_attrs.ensures.0) c.refusal-in-Err-scan_live_die_attrs.ensures
