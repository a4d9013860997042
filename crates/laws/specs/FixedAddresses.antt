-- Variables at a fixed address (document 02, Point 7): the words of `as-live-index` (proofs/fixed/FixedOperations.antt),
-- `fixed-roots-law`, `ended-law` (FixedRoots.antt) and `fixed-kept-law` (FixedSurvivors.antt).
use Rattle.std.specs.Prelude.{ℕ, ◌≡◌, false, List, ◌⊎◌, get_or, Some, Ok, Result}
use Rattle.readers.specs.Codes.{DW_AT_location, DW_FORM_exprloc, DW_OP_addr, DW_TAG_variable}
use Rattle.readers.specs.EntryAttributes.{Valued}
use Rattle.readers.specs.Fields.{part_of}
use Rattle.readers.specs.Steps.{operation_at}
use Rattle.readers.specs.declared.cursor.Encoding.{Encoding}
use Rattle.readers.specs.declared.entries.Entry.{Entry}
use Rattle.readers.specs.declared.operations.Operation.{Operation}
use Rattle.marking.specs.Addresses.{is_tombstone}
use Rattle.marking.specs.Analysis.{Sections, tag_of, values_of_entry}
use Rattle.marking.specs.Members.{Member}
use Rattle.marking.specs.declared.addresses.Verdict.{Verdict}
use Rattle.marking.specs.declared.addresses.Verdict.TheVariants.{Live, Dead}

-- the places at which operations of an expression start, and its end: those nested in an operand are not among them
pub data Outermost (e : Encoding) (s : List ℕ) : ℕ → Type 0 where
  start : Outermost e s 0
  past : {at : ℕ} {op : Operation} → Outermost e s at → operation_at e s at ≡ Some op → Outermost e s op.next.at

-- an operation's address, its first operand, is no tombstone of the unit's address size
abbrev pub NoTombstone : Encoding → Operation → Type 0
NoTombstone e op = is_tombstone op.first.value e.address_size ≡ false

-- "has a DW_OP_addr whose address isn't a tombstone", "Nested entry values are not searched"
pub record FixedAddress (e : Encoding) (s : List ℕ) : Type 0 where
  pub at : ℕ
  pub outermost : Outermost e s at
  pub code : get_or s at 0 ≡ DW_OP_addr
  pub op : Operation
  pub read : operation_at e s at ≡ Some op
  pub live : NoTombstone e op

-- "its exprloc location" has one: an entry's attributes, whose values stand in a unit
pub record FixedLocation (e : Encoding) (unit : List ℕ) (attributes : List Valued) : Type 0 where
  pub location : Valued
  pub among : Member location attributes
  pub name : location.name ≡ DW_AT_location
  pub form : location.value.form ≡ DW_FORM_exprloc
  pub has : FixedAddress e (part_of unit location.value.field)

-- "a variable .. if its exprloc location has" one: an entry of a unit
pub record FixedVariable (e : Encoding) (x : Sections) (unit : List ℕ) (y : Entry) : Type 0 where
  pub tag : tag_of y ≡ DW_TAG_variable
  pub has : FixedLocation e unit (values_of_entry e x unit y)

-- The root test of an entry where fixed addresses do not count, and where they do; Has is that it is such a variable.
pub record AlsoRoot (off on : Result Verdict ℕ) (Has : Type 0) : Type 0 where
  -- "is also a root if ..": it is not dead
  pub also : Has → on ≡ Ok Dead → ⊥
  -- and by nothing else: the verdict, a refusal too, is the one without the choice, or it is live and this the reason
  pub only : (on ≡ off) ⊎ ((on ≡ Ok Live) × Has)
