-- `Nesting::after_terminator` meets its contract. Assumes nothing.
use mathlib.Core.Path.{◌≡◌, ap, ◌∙◌}
use Prim.Native.Nat.{◌-◌}
use borrow.Author.Rules.{rules}
use lib.ListN.{get_or}
use Rattle.readers.specs.Nesting.{no_parent}
use Rattle.readers.proofs.Nesting.{nesting, closes-none, closes}
use Rattle.readers.proofs.entries.Nesting.after_terminator.Goals as goal

pub returns-then-self-eq0 : goal.returns-then-self-eq0
returns-then-self-eq0 c = search closes-none

pub returns : goal.returns
returns c =
    let e : c.unwrap_or.result ≡ get_or c.args.parents.now c.args.self.parent.0 no_parent = search rules in
    ap (nesting (c.args.self.depth - 1)) e ∙ closes _ _ c.if-self-eq0.false
