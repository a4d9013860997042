-- `parents_fit` meets its contract: what `all` answers. Assumes nothing.
use Prim.Native.Nat.{ℕ, ◌+◌}
use mathlib.Core.Path.{◌≡◌, refl, ◌∙◌}
use native.Mathlib.Omega.{arith}
use borrow.Author.Rules.{rules}
use borrow.Author.Tests.{tests}
use lib.Dec.{ltb, eqb}
use lib.ListN.{length}
use Rattle.std.proofs.lemmas.Iterator.{YieldsList-from_slice}
use Rattle.std.proofs.lemmas.Iterator.Consumers.{YieldsList-from_enumerate}
use Rattle.std.proofs.lemmas.Iterator.Search.{all_from_yields_List}
use Rattle.std.proofs.lemmas.List.FromFn.{length-enumerate_from, get_or-enumerate_from}
use Rattle.readers.specs.Choice.{◌or◌}
use Rattle.readers.specs.Nesting.{no_parent}
use Rattle.marking.specs.Graph.{parent_fits}
use Rattle.marking.proofs.Tests.{every-list}
use Rattle.marking.proofs.marks.parents_fit.Goals as goal

pub returns : goal.returns
unfolding parent_fits ◌or◌
returns c =
    all_from_yields_List (λ q. eqb q.1 no_parent or ltb q.1 q.0) _ _ _ c.all.ensures.ran (YieldsList-from_enumerate (YieldsList-from_slice c.args.parents.now cc) cc) (λ x b q k. search (rules, tests))
    ∙ every-list (λ (q : ℕ × ℕ). eqb q.1 no_parent or ltb q.1 q.0) (0, 0) _ (length c.args.parents.now) (parent_fits c.args.parents.now) (length-enumerate_from 0 c.args.parents.now) (λ i h. rw (get_or-enumerate_from 0 c.args.parents.now i (0, 0) h, let z : 0 + i ≡ i = omega arith in z) refl)
