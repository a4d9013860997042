-- `count_kept` meets its contract: how many marks the filter passes. Assumes nothing.
use mathlib.Core.Path.{◌∙◌}
use borrow.Author.Rules.{rules}
use borrow.Author.Tests.{tests}
use lib.Dec.{leb}
use Rattle.std.proofs.lemmas.Iterator.{YieldsList-from_slice}
use Rattle.std.proofs.lemmas.Iterator.Consumers.{YieldsList-at, YieldsList-from_filter, count_from_yields_List}
use Rattle.std.proofs.lemmas.List.Sums.{length-filter}
use Rattle.marking.specs.Marks.{is_kept, kept_count}
use Rattle.marking.proofs.Tables.{count-list}
use Rattle.marking.proofs.marks.count_kept.Goals as goal

pub returns : goal.returns
unfolding kept_count is_kept
returns c =
    count_from_yields_List c.filter.result _ c.count.ensures.ran (YieldsList-from_filter _ (leb 2) (YieldsList-at c.filter.ensures.source (YieldsList-from_slice c.args.marks.now cc)) c.filter.ensures.closure (λ x b q k. search (rules, tests)))
    ∙ length-filter (leb 2) c.args.marks.now
    ∙ count-list (leb 2) c.args.marks.now
