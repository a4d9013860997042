-- `roots_fit` meets its contract: what `all` answers. Assumes nothing.
use mathlib.Core.Path.{refl, ◌∙◌}
use borrow.Author.Rules.{rules}
use borrow.Author.Tests.{tests}
use lib.Dec.{leb}
use Rattle.std.proofs.lemmas.Iterator.{YieldsList-from_slice}
use Rattle.std.proofs.lemmas.Iterator.Search.{all_from_yields_List}
use Rattle.marking.specs.Graph.{root_fits}
use Rattle.marking.proofs.Tests.{every-list}
use Rattle.marking.proofs.marks.roots_fit.Goals as goal

pub returns : goal.returns
unfolding root_fits
returns c =
    all_from_yields_List (λ q. leb q 1) _ _ _ c.all.ensures.ran (YieldsList-from_slice c.args.roots.now cc) (λ x b q k. search (rules, tests))
    ∙ every-list _ 0 _ _ _ refl (λ i h. refl)
