-- `put_fixed` meets its contract: one order or the other, where the number fits.
use mathlib.Core.Path.{sym, ◌∙◌}
use mathlib.Core.Bool.{true, false}
use Rattle.rewriting.proofs.WritePass.Putting.{refused, bytes-room, put_first, fixed-written}
use Rattle.rewriting.proofs.numbers.put_fixed.Goals as goal

pub returns-then-not-bytes_fit : goal.returns-then-not-bytes_fit
returns-then-not-bytes_fit c = refused _ _ _ _ _ (sym c.bytes_fit.ensures ∙ c.if-not-bytes_fit.true)

pub returns-then-big_endian : goal.returns-then-big_endian
returns-then-big_endian c = let fit = sym c.bytes_fit.ensures ∙ c.if-not-bytes_fit.false in
    fixed-written _ _ _ true _ _ c.if-big_endian.true fit (put_first _ _ _ _ c.put_big_endian.ensures (bytes-room _ _ _ fit))

pub put_little_endian-requires : goal.put_little_endian-requires
put_little_endian-requires c = bytes-room _ _ _ (sym c.bytes_fit.ensures ∙ c.if-not-bytes_fit.false)

pub returns : goal.returns
returns c = let fit = sym c.bytes_fit.ensures ∙ c.if-not-bytes_fit.false in
    fixed-written _ _ _ false _ _ c.if-big_endian.false fit c.put_little_endian.ensures
