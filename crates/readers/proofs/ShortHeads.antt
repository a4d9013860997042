-- Heads of declarations whose code and tag have one byte each. Assumes nothing.
use Rattle.std.specs.Prelude.{Some}
use Prim.Native.Nat.{ℕ, ◌+◌, ◌≤◌}
use mathlib.Core.Path.{◌≡◌, sym}
use mathlib.Core.Bool.{false}
use mathlib.Core.List.{List}
use native.Mathlib.Omega.{arith}
use lib.ListN.{length, get_or}
use lib.Dec.{eqb}
use Rattle.readers.specs.Cursors.{cursor}
use Rattle.readers.specs.Abbreviations.{head_at}
use Rattle.readers.specs.Inner.Abbreviations.{PlainHead}
use Rattle.readers.specs.declared.abbreviations.DeclarationStep.TheVariants.{Declaration as Declared}
use Rattle.readers.proofs.Lebs.{uleb-one, short-one}
use Rattle.readers.proofs.Widths.{fixed-one}
use Rattle.readers.proofs.Declarations.{head-whole}

pub head_plain : (s : List ℕ) (at : ℕ) → at + 3 ≤ length s → PlainHead (get_or s at 0) (get_or s (at + 1) 0) (get_or s (at + 2) 0)
    → Some (Declared (record {
      code = get_or s at 0;
      tag = get_or s (at + 1) 0;
      children = eqb (get_or s (at + 2) 0) 1;
      attributes = cursor (at + 3);
    }) (cursor (at + 3))) ≡ head_at s at
head_plain s at h p =
    let a : at + 3 ≡ at + 1 + 1 + 1 = omega arith in
    let b : at + 2 ≡ at + 1 + 1 = omega arith in
    rw (a, b)
    (head-whole s at _ (cursor (at + 1)) (sym (uleb-one s at (omega arith) p.short_code)) p.coded
    _ (cursor (at + 1 + 1)) (sym (short-one s (at + 1) (omega arith) p.short_tag)) p.tagged
    _ (cursor (at + 1 + 1 + 1)) (fixed-one false s (at + 1 + 1) (omega arith)) (rw b at p.known))
