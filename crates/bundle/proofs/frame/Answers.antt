-- `bundle::frame` tests the length of the rest and the version byte. Assumes nothing.
use Rattle.bundle.proofs.Frames.{too_long, no_length, too_short, wrong-length, version-one, by-version}
use Rattle.bundle.proofs.frame.Goals as goal
use Rattle.bundle.proofs.frame.Goals.{then-s-gt-MOST-via-then-s-gt-MOST, then-s-gt-MOST-via-else-s-gt-MOST+then-s-lt5}

pub returns-then-s-gt-MOST : goal.returns-then-s-gt-MOST
returns-then-s-gt-MOST c =
    elim c.then-s-gt-MOST.branch [
      | then-s-gt-MOST-via-then-s-gt-MOST w ↦ search too_long
      | then-s-gt-MOST-via-else-s-gt-MOST+then-s-lt5 w ↦ search too_short
    ]

pub returns-in_default : goal.returns-in_default
returns-in_default c = search no_length

pub returns-then-v-eq1 : goal.returns-then-v-eq1
returns-then-v-eq1 c = search version-one

pub returns-else-v-eq1 : goal.returns-else-v-eq1
returns-else-v-eq1 c = search by-version

pub returns-else-length-s : goal.returns-else-length-s
returns-else-length-s c = search wrong-length
