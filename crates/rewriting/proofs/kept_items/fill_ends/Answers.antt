-- `fill_ends`: what the column will hold from here on makes it hold all. Assumes nothing.
use Rattle.std.specs.Prelude.{Some}
use mathlib.Core.Path.{ap, ◌∙◌}
use Rattle.rewriting.proofs.KeptPass.EndsFilled.{ending-end, ending-bad, ending-terminator-less, ending-terminator, ending-full, ending-entry-less, ending-entry}
use Rattle.rewriting.proofs.kept_items.fill_ends.Goals as goal

pub returns-then-k-ends : goal.returns-then-k-ends
returns-then-k-ends c = let r = c.in-Some.is ∙ ap Some c.in-Entry.is in search ending-full

pub loop-step-smaller-in-Entry : goal.loop-step-smaller-in-Entry
loop-step-smaller-in-Entry c = let r = c.in-Some.is ∙ ap Some c.in-Entry.is in search ending-entry-less

pub loop-step-preserved-in-Entry : goal.loop-step-preserved-in-Entry
loop-step-preserved-in-Entry c = let r = c.in-Some.is ∙ ap Some c.in-Entry.is in search ending-entry

pub loop-step-smaller : goal.loop-step-smaller
loop-step-smaller c = let r = c.in-Some.is ∙ ap Some c.in-Terminator.is in search ending-terminator-less

pub loop-step-preserved : goal.loop-step-preserved
loop-step-preserved c = let r = c.in-Some.is ∙ ap Some c.in-Terminator.is in search ending-terminator

pub returns-in-End : goal.returns-in-End
returns-in-End c = let r = c.in-Some.is ∙ ap Some c.in-End.is in search ending-end

pub returns-in_default : goal.returns-in_default
returns-in_default c = search ending-bad
