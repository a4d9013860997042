-- Which entries are roots (document 01, "Roots"; gc.rs: `is_root`, `rnglist_has_live_entry`, `ranges_has_live_entry`,
-- `location_expr_live`).
use Rattle.std.specs.Prelude.{ℕ, ◌+◌, Bool, true, false, not, List, [], ◌∷◌, length, ltb, leb, eqb, None, Option, Some, Err, Ok, Result}
use Rattle.readers.specs.Choice.{pick, ◌and◌, ◌or◌}
use Rattle.readers.specs.Codes.{DW_AT_location, DW_AT_low_pc, DW_AT_ranges, DW_FORM_addr, DW_FORM_addrx}
use Rattle.readers.specs.Codes.{DW_FORM_addrx1, DW_FORM_addrx4, DW_FORM_exprloc, DW_FORM_rnglistx}
use Rattle.readers.specs.Codes.{DW_FORM_sec_offset, DW_RLE_base_address, DW_RLE_base_addressx}
use Rattle.readers.specs.Codes.{DW_RLE_offset_pair, DW_RLE_startx_length, DW_TAG_compile_unit}
use Rattle.readers.specs.Codes.{DW_TAG_subprogram, DW_TAG_variable, DW_FORM_GNU_addr_index}
use Rattle.readers.specs.Operations.{row_address, row_address_index, row_address_address}
use Rattle.readers.specs.Fields.{part_of, row_at}
use Rattle.readers.specs.Steps.{operation_at, list_entry_at}
use Rattle.readers.specs.Refusals.{refusal_of_list, refusal_of_operation}
use Rattle.readers.specs.Lists.{list_offset, list_start}
use Rattle.readers.specs.declared.cursor.Encoding.{Encoding}
use Rattle.readers.specs.declared.attributes.Attribute.{Attribute}
use Rattle.readers.specs.declared.fields.Operands.{Operands}
use Rattle.readers.specs.declared.cursor.Cursor.{Cursor}
use Rattle.readers.specs.declared.operations.ListStep.{ListStep}
use Rattle.readers.specs.declared.operations.Operation.{Operation}
use Rattle.readers.specs.declared.operations.ListEntry.{ListEntry}
use Rattle.readers.specs.declared.operations.ListStep.TheVariants.{Entry, End}
use Rattle.marking.specs.Walking.{Next, go, stop, walk}
use Rattle.marking.specs.Addresses.{is_tombstone, lookup_at}
use Rattle.marking.specs.declared.addresses.Verdict.{Verdict}
use Rattle.marking.specs.declared.root_test.RangeTurn.{RangeTurn}
use Rattle.marking.specs.declared.root_test.RangeTurn.TheVariants.{On, Decided}
use Rattle.marking.specs.declared.addresses.Verdict.TheVariants.{Live as is_live, Dead as is_dead}
use Rattle.readers.specs.EntryAttributes.{Valued}

-- the first that does not say dead
unfoldable pub or_else : Result Verdict ℕ → Result Verdict ℕ → Result Verdict ℕ
or_else (Ok is_dead) w = w
or_else (Ok is_live) w = Ok is_live
or_else (Err n) w = Err n

-- an index of the address table, and what follows if it is live, if it is dead; a failure is refused with its number
unfoldable pub on_lookup : {X : Type 0} → Result Verdict ℕ → (Result Verdict ℕ → X) → X → X → X
on_lookup (Ok is_live) refuse live dead = live
on_lookup (Ok is_dead) refuse live dead = dead
on_lookup (Err n) refuse live dead = refuse (Err n)

-- ---- lists and expressions, from a place on, with a flag: in a range list, that the latest base was dead; in an expression,
-- that a live index or a fixed address was met

pub record Flagged : Type 0 where
  pub at : ℕ
  pub flag : Bool

abbrev pub place : Flagged → ℕ
place p = p.at

abbrev pub RootTurn : Type 0
RootTurn = Next Flagged (Result Verdict ℕ)

abbrev pub toward : ListEntry → Bool → RootTurn
toward x b = go (record { at = x.next.at; flag = b })

-- as the code answers it
unfoldable pub turn_of : RootTurn → Result RangeTurn ℕ
turn_of (go p) = Ok (On p.flag)
turn_of (stop (Ok v)) = Ok (Decided v)
turn_of (stop (Err n)) = Err n

module _ (e : Encoding) (table : List ℕ) where
  -- 7.25: base_addressx 1, startx_endx 2, startx_length 3, offset_pair 4, base_address 5, start_end 6, start_length 7
  unfoldable pub range_entry : Bool → ListEntry → RootTurn
  range_entry dead x =
      pick (eqb x.kind DW_RLE_base_addressx) (on_lookup (lookup_at table x.first.value) stop (toward x false) (toward x true))
      (pick (leb x.kind DW_RLE_startx_length) (on_lookup (lookup_at table x.first.value) stop (stop (Ok is_live)) (toward x dead))
      (pick (eqb x.kind DW_RLE_offset_pair) (pick dead (toward x dead) (stop (Ok is_live)))
      (pick (eqb x.kind DW_RLE_base_address) (toward x (is_tombstone x.first.value e.address_size))
      (pick (is_tombstone x.first.value e.address_size) (toward x dead) (stop (Ok is_live))))))

  unfoldable pub range_step : Bool → Option ListStep → RootTurn
  range_step dead (Some (Entry x)) = range_entry dead x
  range_step dead (Some End) = stop (Ok is_dead)
  range_step dead None = stop (Err (refusal_of_list None))

  -- the list of a rnglistx: what can't be resolved is live
  unfoldable pub ranges_live : List ℕ → Option Cursor → Result Verdict ℕ
  ranges_live s (Some c) =
      walk place (length s) (λ (p : Flagged). range_step p.flag (list_entry_at e false s p.at)) (Ok is_dead) (record { at = c.at; flag = false })
  ranges_live s None = Ok is_live

-- ---- a variable's location: `fixed` is whether fixed addresses count (document 02, Point 7; off, as in gc.rs, they do not)

module _ (e : Encoding) (fixed : Bool) (table : List ℕ) where
  -- What an operation says: DW_OP_addrx and DW_OP_GNU_addr_index (row_address_index, theirs alone) what the table says of
  -- their index; DW_OP_addr (row_address, its alone), where fixed addresses count, that it is live unless a tombstone of
  -- the unit's address size; any other operation nothing, as a dead index does.
  unfoldable pub operation_live : Operation → Result Verdict ℕ
  operation_live op =
      pick (eqb op.row row_address_index) (lookup_at table op.first.value)
      (pick (fixed and eqb op.row row_address and not (is_tombstone op.first.value e.address_size)) (Ok is_live) (Ok is_dead))

  unfoldable pub operation_step : Bool → Option Operation → RootTurn
  operation_step live (Some op) =
      on_lookup (operation_live op) stop (go (record { at = op.next.at; flag = true })) (go (record { at = op.next.at; flag = live }))
  operation_step live None = stop (Err (refusal_of_operation None))

  -- a location with a live index or, where they count, a fixed address; read to its end, nested entry values stepped over
  unfoldable pub location_live : List ℕ → Result Verdict ℕ
  location_live s =
      walk place (length s)
      (λ (p : Flagged). pick (ltb p.at (length s)) (operation_step p.flag (operation_at e s p.at)) (stop (pick p.flag (Ok is_live) (Ok is_dead))))
      (Ok is_dead) (record { at = 0; flag = false })

-- the older test (document 01), of .debug_rnglists in version 5: base_address only is skipped; every other entry is live
unfoldable pub older_step : Option ListStep → RootTurn
older_step (Some (Entry x)) = pick (eqb x.kind DW_RLE_base_address) (toward x false) (stop (Ok is_live))
older_step (Some End) = stop (Ok is_dead)
older_step None = stop (Err (refusal_of_list None))

unfoldable pub older_live : Encoding → List ℕ → Option Cursor → Result Verdict ℕ
older_live e s (Some c) = walk place (length s) (λ (p : Flagged). older_step (list_entry_at e false s p.at)) (Ok is_dead) (record { at = c.at; flag = false })
older_live e s None = Ok is_live

-- ---- .debug_ranges of version 4 (DWARF 4, 2.17.3): pairs of addresses, of which 0 and 0 end the list, and a begin of all
-- ones makes the second the base of those after it

abbrev pub past_pair : Operands → Bool → RootTurn
past_pair r b = go (record { at = r.third.end; flag = b })

-- Document 02, Point 4: "A pair is live unless its base is a tombstone or its own begin is one; before any base entry the
-- base counts as live. So a begin of 0 under a live base counts dead". A tombstone other than 0 is all ones.
unfoldable pub range_pair : Encoding → Bool → Operands → RootTurn
range_pair e dead r =
    let begin = r.first.value in
    let end = r.second.value in
    pick (eqb begin 0 and eqb end 0) (stop (Ok is_dead))
    (pick (is_tombstone begin e.address_size and not (eqb begin 0)) (past_pair r (is_tombstone end e.address_size))
    (pick (dead or is_tombstone begin e.address_size) (past_pair r dead) (stop (Ok is_live))))

unfoldable pub pair_step : Encoding → Bool → Option Operands → RootTurn
pair_step e dead (Some r) = range_pair e dead r
pair_step e dead None = stop (Err (refusal_of_list None))

-- a list ends at its end pair or where the section ends between two pairs, as every list does; cut inside one it is 5
unfoldable pub pairs_live : Encoding → List ℕ → Option Cursor → Result Verdict ℕ
pairs_live e s (Some c) =
    walk place (length s)
    (λ (p : Flagged). pick (ltb p.at (length s)) (pair_step e p.flag (row_at e s p.at row_address_address)) (stop (Ok is_dead)))
    (Ok is_dead) (record { at = c.at; flag = false })
pairs_live e s None = Ok is_live

-- DW_AT_low_pc: addrx and GNU_addr_index ask the table, addr the tombstone test, any other form is live
unfoldable pub low_pc : Encoding → List ℕ → Attribute → Result Verdict ℕ
low_pc e table v =
    pick
    (eqb v.form DW_FORM_addrx or (leb DW_FORM_addrx1 v.form and leb v.form DW_FORM_addrx4)
    or eqb v.form DW_FORM_GNU_addr_index)
    (on_lookup (lookup_at table v.field.value) (λ r. r) (Ok is_live) (Ok is_dead))
    (pick (eqb v.form DW_FORM_addr) (pick (is_tombstone v.field.value e.address_size) (Ok is_dead) (Ok is_live)) (Ok is_live))

-- ---- the attributes of an entry

-- each low_pc in turn
unfoldable pub low_pcs : Encoding → List ℕ → List Valued → Result Verdict ℕ
low_pcs e table [] = Ok is_dead
low_pcs e table (a ∷ rest) = pick (eqb a.name DW_AT_low_pc) (or_else (low_pc e table a.value) (low_pcs e table rest)) (low_pcs e table rest)

-- DW_AT_location in exprloc, each in turn
unfoldable pub locations : Encoding → Bool → List ℕ → List ℕ → List Valued → Result Verdict ℕ
locations e fixed table unit [] = Ok is_dead
locations e fixed table unit (a ∷ rest) =
    pick (eqb a.name DW_AT_location and eqb a.value.form DW_FORM_exprloc)
    (or_else (location_live e fixed table (part_of unit a.value.field)) (locations e fixed table unit rest))
    (locations e fixed table unit rest)

-- what ranges are read by: the range lists of the unit's version, the address table, the caller's ranges base, and the
-- range lists' own base
pub record Ranges : Type 0 where
  pub ranges : List ℕ
  pub table : List ℕ
  pub ranges_base : ℕ
  pub rnglists_base : ℕ

abbrev pub ranges_by : List ℕ → List ℕ → ℕ → ℕ → Ranges
ranges_by ranges table ranges_base rnglists_base = record { ranges = ranges; table = table; ranges_base = ranges_base; rnglists_base = rnglists_base }

-- a list that is named by its offset: by its pairs in version 4, else by the older test
unfoldable pub offset_live : Encoding → List ℕ → Option Cursor → Result Verdict ℕ
offset_live e s start = pick (eqb e.version 4) (pairs_live e s start) (older_live e s start)

-- DW_AT_ranges not in rnglistx: sec_offset by its list, another form live. The sum has no bound here: above 64 bits it
-- lies past the section's end.
unfoldable pub other_ranges : Encoding → List ℕ → ℕ → Attribute → Result Verdict ℕ
other_ranges e ranges base v = pick (eqb v.form DW_FORM_sec_offset) (offset_live e ranges (list_start ranges (base + v.field.value))) (Ok is_live)

module _ (e : Encoding) (x : Ranges) where
  -- DW_AT_ranges: rnglistx by its list
  unfoldable pub ranges_of : Attribute → Result Verdict ℕ
  ranges_of v =
      pick (eqb v.form DW_FORM_rnglistx) (ranges_live e x.table x.ranges (list_offset e x.ranges x.rnglists_base v.field.value))
      (other_ranges e x.ranges x.ranges_base v)

  -- the first ranges attribute decides
  unfoldable pub first_ranges : List Valued → Result Verdict ℕ
  first_ranges [] = Ok is_dead
  first_ranges (a ∷ rest) = pick (eqb a.name DW_AT_ranges) (ranges_of a.value) (first_ranges rest)

  -- THE root test of an entry: a subprogram, a variable; other tags never
  unfoldable pub root_test : Bool → List ℕ → ℕ → List Valued → Result Verdict ℕ
  root_test fixed unit tag attributes =
      pick (eqb tag DW_TAG_subprogram) (or_else (low_pcs e x.table attributes) (first_ranges attributes))
      (pick (eqb tag DW_TAG_variable) (locations e fixed x.table unit attributes) (Ok is_dead))

-- ---- list bases: what a compile unit entry's own attribute in sec_offset says, from that entry on; of several the last counts

unfoldable pub base_from : ℕ → ℕ → List Valued → ℕ
base_from name base [] = base
base_from name base (a ∷ rest) = base_from name (pick (eqb a.name name and eqb a.value.form DW_FORM_sec_offset) a.value.field.value base) rest

-- DW_AT_rnglists_base, DW_AT_loclists_base; DW_TAG_compile_unit
unfoldable pub base_after : ℕ → ℕ → ℕ → List Valued → ℕ
base_after name base tag attributes = pick (eqb tag DW_TAG_compile_unit) (base_from name base attributes) base
