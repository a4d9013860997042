-- `range_entry` answers an entry of a range list by its kind. Assumes nothing.
use Rattle.std.specs.Prelude.{Ok}
use mathlib.Core.Path.{ap, ◌∙◌}
use Rattle.readers.proofs.Refusing.{passed-on}
use Rattle.marking.proofs.Verdicts.{base_live, base-dead, base-fails, start-live, start-dead, start-fails, pair-dead, pair-live, base-address, left_out, kept}
use Rattle.marking.proofs.root_test.range_entry.Goals as goal

pub returns-in-Live : goal.returns-in-Live
returns-in-Live c = let v = c.in_ok-lookup.was ∙ ap Ok c.in-Live.is in search base_live

pub returns-in-Dead : goal.returns-in-Dead
returns-in-Dead c = let v = c.in_ok-lookup.was ∙ ap Ok c.in-Dead.is in search base-dead

pub returns-in_err-lookup : goal.returns-in_err-lookup
returns-in_err-lookup c = passed-on _ _ c.from_residual.ensures.1 ∙ let v = c.in_err-lookup.was in search base-fails

pub returns-in-Live-2 : goal.returns-in-Live-2
returns-in-Live-2 c = let v = c.in_ok-lookup-2.was ∙ ap Ok c.in-Live-2.is in search start-live

pub returns-in-Dead-2 : goal.returns-in-Dead-2
returns-in-Dead-2 c = let v = c.in_ok-lookup-2.was ∙ ap Ok c.in-Dead-2.is in search start-dead

pub returns-in_err-lookup-2 : goal.returns-in_err-lookup-2
returns-in_err-lookup-2 c = passed-on _ _ c.from_residual-in_err-lookup-2.ensures.1 ∙ let v = c.in_err-lookup-2.was in search start-fails

pub returns-then-dead : goal.returns-then-dead
returns-then-dead c = search pair-dead

pub returns-then-kind-eq-DW_RLE_offset_pair : goal.returns-then-kind-eq-DW_RLE_offset_pair
returns-then-kind-eq-DW_RLE_offset_pair c = search pair-live

pub returns-then-kind-eq-DW_RLE_base_address : goal.returns-then-kind-eq-DW_RLE_base_address
returns-then-kind-eq-DW_RLE_base_address c = search base-address

pub returns-then-left_out : goal.returns-then-left_out
returns-then-left_out c = search left_out

pub returns : goal.returns
returns c = search kept
