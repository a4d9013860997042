-- `listed_header` answers a list's refusal, or the header. Assumes nothing.
use Rattle.readers.proofs.Refusing.{passed-on}
use Rattle.marking.proofs.ListedHeaders.{list-refused, list-taken}
use Rattle.marking.proofs.analysis.listed_header.Goals as goal

pub returns-in_err-judge : goal.returns-in_err-judge
returns-in_err-judge c = list-refused _ _ _ _ _ c.judge.ensures c.in_err-judge.was (passed-on _ _ c.from_residual.ensures.1)

pub returns : goal.returns
returns c = list-taken _ _ _ _ _ c.judge.ensures c.in_ok-judge.was c.unit_header.ensures
