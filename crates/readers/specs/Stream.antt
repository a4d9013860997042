-- The entries and terminators of a unit, one after the other (DWARF 5, 2.3 and 7.5.2): from a place on, up to the
-- unit's end or to what can't be read.
use Rattle.std.specs.Prelude.{ℕ, zero, suc, ◌-◌, Bool, true, false, List, [], ◌∷◌, length, None, Option, Some}
use Rattle.readers.specs.Entries.{step_at}
use Rattle.readers.specs.declared.cursor.Encoding.{Encoding}
use Rattle.readers.specs.declared.abbreviations.Declaration.{Declaration}
use Rattle.readers.specs.declared.entries.Step.{Step}
use Rattle.readers.specs.declared.entries.Entry.{Entry}
use Rattle.readers.specs.declared.entries.Step.TheVariants.{Entry as Entry', Terminator, End}

-- an entry, or a terminator by where it starts and where it ends
pub data Item : Type 0 where
  entry : Entry → Item
  terminator : ℕ → ℕ → Item

-- the items, and whether the unit's end is what follows them
abbrev pub Items : Type 0
Items = List Item × Bool

unfoldable pub push : Item → Items → Items
push i r = (i ∷ r.0, r.1)

unfoldable pub on_step : ℕ → Option Step → (ℕ → Items) → Items
on_step at (Some (Entry' x)) k = push (entry x) (k x.next.at)
on_step at (Some (Terminator c)) k = push (terminator at c.at) (k c.at)
on_step at (Some End) k = ([], true)
on_step at None k = ([], false)

module _ (e : Encoding) (abbreviations : List ℕ) (look : ℕ → Option Declaration) (unit : List ℕ) where
  -- a count bounds how often
  unfoldable pub items_within : ℕ → ℕ → Items
  items_within zero at = ([], false)
  items_within (suc k) at = on_step at (step_at e abbreviations look unit at) (λ next. items_within k next)

  unfoldable pub items_from : ℕ → Items
  items_from at = items_within (suc (length unit - at)) at

-- how many of the items are entries
unfoldable pub entry_count : List Item → ℕ
entry_count [] = 0
entry_count (terminator a b ∷ rest) = entry_count rest
entry_count (entry y ∷ rest) = suc (entry_count rest)
