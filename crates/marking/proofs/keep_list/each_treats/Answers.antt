-- `each_treats` meets its contract: what `all` answers. Assumes nothing.
use mathlib.Core.Path.{◌∙◌}
use borrow.Author.Rules.{rules}
use borrow.Author.Tests.{tests}
use Rattle.std.proofs.lemmas.Iterator.{YieldsList-from_slice}
use Rattle.std.proofs.lemmas.Iterator.Search.{all_from_yields_List}
use Rattle.marking.specs.KeepList.{is_treatment}
use Rattle.marking.proofs.KeepLists.{treats-list}
use Rattle.marking.proofs.keep_list.each_treats.Goals as goal

pub returns : goal.returns
returns c =
    all_from_yields_List is_treatment _ _ _ c.all.ensures.ran (YieldsList-from_slice c.args.treatments.now cc) (λ x b q k. search (rules, tests))
    ∙ treats-list c.args.treatments.now
