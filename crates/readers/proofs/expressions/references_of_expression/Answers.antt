-- `references_of_expression` meets its contract, return by return. Assumes nothing.
use mathlib.Core.Path.{ap, ◌∙◌}
use mathlib.Core.Bool.{not}
use Rattle.readers.specs.Header.{encoding_of}
use Rattle.readers.proofs.Refusing.{refused-none, read_some}
use Rattle.readers.proofs.Answers.{refuse-size, refuse-walk, refuse-absolute, refuse-room, has_room, accept}
use lib.ListN.{length}
use Rattle.readers.proofs.expressions.references_of_expression.Goals as goal

pub returns-then-not-sizes_known : goal.returns-then-not-sizes_known
returns-then-not-sizes_known c = let p = refuse-size _ _ _ _ _ _ c.clear.ensures _ c.sizes_known.ensures (ap not c.if-not-sizes_known.true) in record { answer = p.0; filled = p.1 }

pub returns-in_err-references : goal.returns-in_err-references
unfolding encoding_of
returns-in_err-references c = let e = refused-none _ _ _ _ _ c.ok_or.ensures.value c.in_err-references.was c.from_residual.ensures.1 in let p = refuse-walk _ _ _ _ _ _ c.clear.ensures _ c.sizes_known.ensures (ap not c.if-not-sizes_known.false) _ c.walk_expression.ensures e.0 in record { answer = e.1 ∙ p.0; filled = p.1 }

pub returns-then-absolute : goal.returns-then-absolute
unfolding encoding_of
returns-then-absolute c = let p = refuse-absolute _ _ _ _ _ _ c.clear.ensures _ c.sizes_known.ensures (ap not c.if-not-sizes_known.false) _ c.walk_expression.ensures _ _ (read_some _ _ _ _ c.ok_or.ensures.value c.in_ok-references.was) c.if-absolute.true in record { answer = p.0; filled = p.1 }

pub returns-then-references-table : goal.returns-then-references-table
unfolding encoding_of
returns-then-references-table c = let p = refuse-room _ _ _ _ _ _ c.clear.ensures _ c.sizes_known.ensures (ap not c.if-not-sizes_known.false) _ c.walk_expression.ensures _ _ (read_some _ _ _ _ c.ok_or.ensures.value c.in_ok-references.was) c.if-absolute.false c.if-references-table.true in record { answer = p.0; filled = p.1 }

pub fill_references-requires : goal.fill_references-requires
unfolding encoding_of
fill_references-requires c = has_room _ _ _ _ _ (length c.args.table.now) c.clear.ensures _ c.sizes_known.ensures (ap not c.if-not-sizes_known.false) _ c.walk_expression.ensures _ _ (read_some _ _ _ _ c.ok_or.ensures.value c.in_ok-references.was) c.if-absolute.false c.if-references-table.false

pub returns : goal.returns
unfolding encoding_of
returns c = let p = accept _ _ _ _ _ _ c.clear.ensures _ c.sizes_known.ensures (ap not c.if-not-sizes_known.false) _ c.walk_expression.ensures _ _ (read_some _ _ _ _ c.ok_or.ensures.value c.in_ok-references.was) c.if-absolute.false c.if-references-table.false _ c.fill_references.ensures in record { answer = p.0; filled = p.1 }
