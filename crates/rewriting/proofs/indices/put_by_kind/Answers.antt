-- `put_by_kind`: the list of the kind gets the value, the others stay. Assumes nothing.
use mathlib.Core.Path.{◌≡◌}
use native.Mathlib.Omega.{arith}
use Rattle.readers.proofs.FormKinds.{number-some, number-none}
use Rattle.rewriting.proofs.ListPass.Holdings.{puts-kind, puts-apart}
use Rattle.rewriting.proofs.indices.put_by_kind.Goals as goal

pub returns-in-Ranges : goal.returns-in-Ranges
returns-in-Ranges c =
    let q : c.args.list ≡ 0 = number-some _ _ c.list.view_is _ _ c.in-Some.is c.in-Ranges.is in
    (puts-kind _ _ _ 0 _ q _ _ c.add.ensures, (puts-apart _ _ _ 1 _ 0 q (λ z. omega arith), puts-apart _ _ _ 2 _ 0 q (λ z. omega arith)))

pub returns-in-Locations : goal.returns-in-Locations
returns-in-Locations c =
    let q : c.args.list ≡ 1 = number-some _ _ c.list.view_is _ _ c.in-Some.is c.in-Locations.is in
    (puts-apart _ _ _ 0 _ 1 q (λ z. omega arith), (puts-kind _ _ _ 1 _ q _ _ c.add-in-Locations.ensures, puts-apart _ _ _ 2 _ 1 q (λ z. omega arith)))

pub returns-in-Strings : goal.returns-in-Strings
returns-in-Strings c =
    let q : c.args.list ≡ 2 = number-some _ _ c.list.view_is _ _ c.in-Some.is c.in-Strings.is in
    (puts-apart _ _ _ 0 _ 2 q (λ z. omega arith), (puts-apart _ _ _ 1 _ 2 q (λ z. omega arith), puts-kind _ _ _ 2 _ q _ _ c.add-in-Strings.ensures))

pub returns-in_default : goal.returns-in_default
returns-in_default c =
    let q : c.args.list ≡ 3 = number-none _ _ c.list.view_is c.in_default.is in
    (puts-apart _ _ _ 0 _ 3 q (λ z. omega arith), (puts-apart _ _ _ 1 _ 3 q (λ z. omega arith), puts-apart _ _ _ 2 _ 3 q (λ z. omega arith)))
