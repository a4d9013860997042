-- Marks that are spread in steps: each step leaves them sound.
use mathlib.Core.Path.{◌≡◌, ◌∙◌}
use mathlib.Core.List.{List}
use mathlib.Core.Bool.{Bool}
use Prim.Native.Nat.{ℕ}
use lib.ListN.{length}
use Rattle.marking.specs.Graph.{Graph}
use Rattle.marking.specs.Inner.Passes.{Pass, Spread, WithParents, WithPairs, WithBoth, ParentsFit}

pub parents-fit-still : (ps m m' : List ℕ) → ParentsFit ps m → length m' ≡ length m → ParentsFit ps m'
parents-fit-still ps m m' w e = record { long = e ∙ w.long; fit = w.fit }

-- one step after another
pub spread-on : {On : Graph → Type 0} {m m' m'' : List ℕ} → Spread On m m' → Spread On m' m'' → Spread On m m''
spread-on p q = record { sound = λ g o s. q.sound g o (p.sound g o s) }

-- a step that looks at parents alone, or at pairs alone
pub by-parents : (ps rs : List ℕ) {m m' : List ℕ} → Spread (WithParents ps) m m' → Spread (WithBoth ps rs) m m'
by-parents ps rs p = record { sound = λ g o s. p.sound g o.0 s }

pub passed-parents : (ps rs : List ℕ) {C : Type 0} {m m' : List ℕ} {r : Bool} → Pass (WithParents ps) C m m' r → Spread (WithBoth ps rs) m m'
passed-parents ps rs p = by-parents ps rs p.spread

pub passed-pairs : (ps rs : List ℕ) {C : Type 0} {m m' : List ℕ} {r : Bool} → Pass (WithPairs rs) C m m' r → Spread (WithBoth ps rs) m m'
passed-pairs ps rs p = record { sound = λ g o s. p.spread.sound g o.1 s }
