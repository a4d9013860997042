-- `next_named`: the invariant is that those of the name from the start are those from here on. Assumes nothing.
use Rattle.marking.specs.Inner.Named.{NamedAt}
use Rattle.std.specs.Prelude.{Some}
use mathlib.Core.Path.{refl, ap, ◌∙◌, subst, sym}
use native.Mathlib.Omega.{arith}
use Rattle.marking.proofs.NamedAttributes.{named-last, named-bad, named-less, named-on, named-read, named-unread, named_past}
use Rattle.marking.proofs.named.next_named.Goals as goal

pub loop-a-init : goal.loop-a-init
loop-a-init c = (refl, omega arith)

pub returns-then-a-name : goal.returns-then-a-name
returns-then-a-name c = let q = c.in_ok-a.was ∙ ap Some c.in-Attribute.is in search named-read

pub returns-in_err-past-in-Attribute : goal.returns-in_err-past-in-Attribute
returns-in_err-past-in-Attribute c = subst (λ o. NamedAt c.args.e c.args.abbreviations.now c.args.specs.at c.args.unit.now c.args.values.at c.args.name o) (sym c.from_residual-in_err-past-in-Attribute.ensures)
    (let q = c.in_ok-a.was ∙ ap Some c.in-Attribute.is in let m = c.in_err-past-in-Attribute.was in search named-unread)

pub loop-a-smaller : goal.loop-a-smaller
loop-a-smaller c = let q = c.in_ok-a.was ∙ ap Some c.in-Attribute.is in search named-less

pub loop-a-preserved : goal.loop-a-preserved
loop-a-preserved c = let q = c.in_ok-a.was ∙ ap Some c.in-Attribute.is in let m = c.in_ok-past-in-Attribute.was in (search named_past, search named-on)

pub returns-in-Last : goal.returns-in-Last
returns-in-Last c = let q = c.in_ok-a.was ∙ ap Some c.in-Last.is in search named-last

pub returns-in_err-a : goal.returns-in_err-a
returns-in_err-a c = subst (λ o. NamedAt c.args.e c.args.abbreviations.now c.args.specs.at c.args.unit.now c.args.values.at c.args.name o) (sym c.from_residual.ensures)
    (let q = c.in_err-a.was in search named-bad)
