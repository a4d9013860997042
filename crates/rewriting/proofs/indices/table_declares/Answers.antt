-- `table_declares`: what all declarations declare is what those from here on do. Assumes nothing.
use Rattle.std.specs.Prelude.{Some}
use mathlib.Core.Path.{ap, ◌∙◌}
use Rattle.rewriting.proofs.ListPass.Declaring.{declaring-start, table-last, table-bad, table-less, table-yes, table-no}
use Rattle.rewriting.proofs.indices.table_declares.Goals as goal

pub loop-step-init : goal.loop-step-init
loop-step-init c = declaring-start _ _ _

pub returns-then-specs_declare : goal.returns-then-specs_declare
returns-then-specs_declare c = let r = c.in-Some.is ∙ ap Some c.in-Declaration.is in search table-yes

pub loop-step-smaller : goal.loop-step-smaller
loop-step-smaller c = let r = c.in-Some.is ∙ ap Some c.in-Declaration.is in search table-less

pub loop-step-preserved : goal.loop-step-preserved
loop-step-preserved c = let r = c.in-Some.is ∙ ap Some c.in-Declaration.is in search table-no

pub returns-in-Last : goal.returns-in-Last
returns-in-Last c = let r = c.in-Some.is ∙ ap Some c.in-Last.is in search table-last

pub returns-in_default : goal.returns-in_default
returns-in_default c = search table-bad
