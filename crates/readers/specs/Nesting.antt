-- How entries nest (DWARF 5, 2.3): an entry whose declaration says so opens a list of children, a terminator closes
-- the innermost open one, and one that closes none changes nothing.
use Rattle.std.specs.Prelude.{ℕ, ◌+◌, ◌-◌, ◌^◌, Bool, true, false, List, [], ◌∷◌, length, get_or, ltb, eqb}
use Rattle.readers.specs.Choice.{pick}
use Rattle.readers.specs.declared.entries.Nesting.{Nesting}

-- The definition: the open entries, the innermost first; of each its number, or whatever else is known of it.
module _ {A : Type 0} where
  unfoldable pub opened : Bool → A → List A → List A
  opened true k stack = k ∷ stack
  opened false k stack = stack

  unfoldable pub closed : List A → List A
  closed [] = []
  closed (k ∷ stack) = stack

-- what stands for no parent (document 02, Point 6: "64-bit from then on, with all ones for no parent")
abbrev pub no_parent : ℕ
no_parent = 0xffffffffffffffff

unfoldable pub top : List ℕ → ℕ
top [] = no_parent
top (k ∷ stack) = k

-- What the code keeps of it: how many are open, and the innermost. The parents of the entries so far are the rest of
-- the stack.
unfoldable pub nesting_of : List ℕ → Nesting
nesting_of stack = record { depth = length stack; parent = record { 0 = top stack } }

unfoldable pub nesting_opened : Bool → ℕ → Nesting → Nesting
nesting_opened children k n =
    pick children (pick (ltb n.depth (2 ^ 64 - 1)) (record { depth = n.depth + 1; parent = record { 0 = k } }) n) n

unfoldable pub nesting_closed : List ℕ → Nesting → Nesting
nesting_closed parents n =
    pick (eqb n.depth 0) n
    (record { depth = n.depth - 1; parent = record { 0 = get_or parents n.parent.0 no_parent } })
