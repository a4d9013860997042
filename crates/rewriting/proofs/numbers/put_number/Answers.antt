-- `put_number`: a padded number in a part of its width, or a number in so many bytes. Assumes nothing.
use mathlib.Core.Path.{refl, sym}
use Rattle.rewriting.proofs.WritePass.Putting.{taken-length, number-beyond, number-written, number-zeros, number-fixed}
use Rattle.rewriting.proofs.numbers.put_number.Goals as goal

pub returns-then-width-out : goal.returns-then-width-out
returns-then-width-out c = number-beyond _ _ _ _ _ c.if-leb.true c.if-width-out.true

pub returns-in-Ok : goal.returns-in-Ok
returns-in-Ok c = number-written _ _ _ _ _ c.if-leb.true c.if-width-out.false _ (sym (taken-length _ _ c.if-width-out.false)) _ _ c.write_uleb128_padded.ensures.answer c.write_uleb128_padded.ensures.bytes _ refl c.in-Ok.is

pub returns-in-Err : goal.returns-in-Err
returns-in-Err c = number-zeros _ _ _ _ _ c.if-leb.true c.if-width-out.false _ (sym (taken-length _ _ c.if-width-out.false)) _ _ c.write_uleb128_padded.ensures.answer c.write_uleb128_padded.ensures.bytes _ refl _ c.in-Err.is

pub returns : goal.returns
returns c = number-fixed _ _ _ _ _ c.if-leb.false _ _ c.put_fixed.ensures
