-- `put_place` meets its contract.
use native.Mathlib.Omega.{arith}
use Rattle.rewriting.proofs.WritePass.Putting.{put-room}
use Rattle.rewriting.proofs.MapPass.Places.{place-put}
use Rattle.rewriting.proofs.map.put_place.Goals as goal

pub returns : goal.returns
returns c = λ ps h e r. place-put ps _ _ _ _ _ _ _ _ r (put-room _ _ _ _ _ c.put_big_endian.ensures) (put-room _ _ _ _ _ c.put_big_endian-2.ensures) (put-room _ _ _ _ _ c.put_big_endian-3.ensures) h e (omega arith) (omega arith) (omega arith)
