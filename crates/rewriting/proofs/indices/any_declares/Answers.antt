-- `any_declares`: what the items from the start on declare is what those from here on do. Assumes nothing.
use Rattle.std.specs.Prelude.{Some}
use mathlib.Core.Path.{ap, ◌∙◌}
use Rattle.rewriting.proofs.ListPass.IndexTurns.{any-end, any-bad, any-terminator-less, any-terminator, any-entry-less, any-yes, any-no}
use Rattle.rewriting.proofs.indices.any_declares.Goals as goal

pub returns-then-entry_declares : goal.returns-then-entry_declares
returns-then-entry_declares c = let r = c.in-Some.is ∙ ap Some c.in-Entry.is in search any-yes

pub loop-step-smaller-in-Entry : goal.loop-step-smaller-in-Entry
loop-step-smaller-in-Entry c = let r = c.in-Some.is ∙ ap Some c.in-Entry.is in search any-entry-less

pub loop-step-preserved-in-Entry : goal.loop-step-preserved-in-Entry
loop-step-preserved-in-Entry c = let r = c.in-Some.is ∙ ap Some c.in-Entry.is in search any-no

pub loop-step-smaller : goal.loop-step-smaller
loop-step-smaller c = let r = c.in-Some.is ∙ ap Some c.in-Terminator.is in search any-terminator-less

pub loop-step-preserved : goal.loop-step-preserved
loop-step-preserved c = let r = c.in-Some.is ∙ ap Some c.in-Terminator.is in search any-terminator

pub returns-in-End : goal.returns-in-End
returns-in-End c = let r = c.in-Some.is ∙ ap Some c.in-End.is in search any-end

pub returns-in_default : goal.returns-in_default
returns-in_default c = search any-bad
