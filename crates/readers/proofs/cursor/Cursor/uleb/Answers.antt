-- `Cursor::uleb` meets its contract: one byte that says that none follows, or groups. Assumes nothing.
use Rattle.readers.proofs.Lebs.{uleb-one}
use Rattle.readers.proofs.cursor.Cursor.uleb.Goals as goal

pub returns-then-b-lt128 : goal.returns-then-b-lt128
returns-then-b-lt128 c = search uleb-one
