-- `pairs_live` answers by the list's pairs. The invariant: the answer from the start is the answer from here on. Assumes nothing.
use Rattle.std.specs.Prelude.{Ok}
use mathlib.Core.Path.{ap, ◌∙◌}
use Rattle.readers.proofs.Refusing.{refused-none, read_some, passed-on}
use Rattle.marking.proofs.RangePairs.{pairs_start, pairs_end, pairs-none, pairs-on, pairs-less, pairs-decided, pairs-refused}
use Rattle.marking.proofs.root_test.pairs_live.Goals as goal

pub loop-c-init : goal.loop-c-init
loop-c-init c = pairs_start _ _ _

pub returns-in_err-r : goal.returns-in_err-r
returns-in_err-r c = let n = refused-none _ _ _ _ _ c.ok_or.ensures.value c.in_err-r.was c.from_residual.ensures.1 in n.1 ∙ let q = n.0 in search pairs-none

pub loop-c-smaller : goal.loop-c-smaller
loop-c-smaller c = let r = read_some _ _ _ _ c.ok_or.ensures.value c.in_ok-r.was in let f = c.in_ok-flag.was ∙ ap Ok c.in-On.is in search pairs-less

pub loop-c-preserved : goal.loop-c-preserved
loop-c-preserved c = let r = read_some _ _ _ _ c.ok_or.ensures.value c.in_ok-r.was in let f = c.in_ok-flag.was ∙ ap Ok c.in-On.is in search pairs-on

pub returns-in-Decided : goal.returns-in-Decided
returns-in-Decided c = let r = read_some _ _ _ _ c.ok_or.ensures.value c.in_ok-r.was in let f = c.in_ok-flag.was ∙ ap Ok c.in-Decided.is in search pairs-decided

pub returns-in_err-flag : goal.returns-in_err-flag
returns-in_err-flag c = let r = read_some _ _ _ _ c.ok_or.ensures.value c.in_ok-r.was in passed-on _ _ c.from_residual-in_err-flag.ensures.1 ∙ let v = c.in_err-flag.was in search pairs-refused

pub returns : goal.returns
returns c = search pairs_end
