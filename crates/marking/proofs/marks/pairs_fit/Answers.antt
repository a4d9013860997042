-- `pairs_fit` meets its contract: what `all` answers. Assumes nothing.
use mathlib.Core.Path.{refl, ◌∙◌}
use mathlib.Core.List.{[]}
use borrow.Author.Rules.{rules}
use borrow.Author.Tests.{tests}
use lib.Dec.{ltb}
use lib.ListN.{get_or}
use Rattle.std.proofs.lemmas.Iterator.{YieldsList-from_slice}
use Rattle.std.proofs.lemmas.Iterator.Search.{all_from_yields_List}
use Rattle.readers.specs.Choice.{◌and◌}
use Rattle.marking.specs.Graph.{pair_fits}
use Rattle.marking.proofs.Tests.{every-list}
use Rattle.marking.proofs.Twos.{two_first, two_second}
use Rattle.marking.proofs.marks.pairs_fit.Goals as goal

pub returns : goal.returns
unfolding pair_fits ◌and◌
returns c =
    all_from_yields_List (λ q. ltb (get_or q 0 0) c.args.n and ltb (get_or q 1 0) c.args.n) _ _ _ c.all.ensures.ran (YieldsList-from_slice _ cc) (λ x b q k. search (rules, tests))
    ∙ every-list _ [] _ _ (pair_fits c.args.pairs.now c.args.n) c.as_chunks.ensures.front_len (λ j h. rw (two_first _ _ c.args.pairs.now j c.as_chunks.ensures.front h, two_second _ _ c.args.pairs.now j c.as_chunks.ensures.front h) refl)
