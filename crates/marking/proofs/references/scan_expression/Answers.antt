-- `scan_expression`: by the walk, then each reference. Assumes nothing.
use Rattle.marking.proofs.Founds.{expression-none, expression-absolute, expression-empty, expression-put}
use Rattle.marking.proofs.references.scan_expression.Goals as goal

pub returns-in_default : goal.returns-in_default
returns-in_default c = expression-none _ _ _ _ _ c.walk_expression.ensures c.in_default.is

pub returns-then-absolute : goal.returns-then-absolute
returns-then-absolute c = expression-absolute _ _ _ _ _ c.walk_expression.ensures _ _ c.in-Some.is c.if-absolute.true

pub returns-then-references-eq0 : goal.returns-then-references-eq0
returns-then-references-eq0 c = expression-empty _ _ _ _ _ c.walk_expression.ensures _ _ c.in-Some.is c.if-absolute.false c.if-references-eq0.true

pub returns : goal.returns
returns c = expression-put _ _ _ _ _ c.walk_expression.ensures _ _ c.in-Some.is c.if-absolute.false _ _ c.put_references.ensures
