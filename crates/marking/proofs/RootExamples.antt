-- The root test computed, by the definitions alone: the address table, range lists, the older test, locations, entries
-- and list bases, with decided points of documents 01 and 02 (docs/DECISIONS.md).
use mathlib.Core.Bool.{true, false}
use mathlib.Core.Path.{◌≡◌, refl}
use Prim.Native.Nat.{ℕ, suc}
use mathlib.Core.List.{List, [], ◌∷◌, ◌++◌}
use lib.ListN.{length, get_or}
use lib.Dec.{ltb, eqb}
use native.Mathlib.Omega.{arith}
use borrow.Author.Tests.{ne_eqb}
use Rattle.readers.specs.Choice.{pick, check, bind, ◌and◌, ◌or◌}
use Rattle.readers.specs.Numbers.{groups, below, uleb, unsigned64, padded, ordered}
use Rattle.readers.specs.Numbers.{little_bytes, little_value, fixed_bytes, fixed_value}
use Rattle.readers.specs.Layout.{within16, short, as_bytes, width, as_leb, copy, as_number, as_link, as_bounded}
use Rattle.readers.specs.Layout.{as_block, as_expression, before, number_in, token_in, read_in}
use Rattle.readers.specs.Layout.{number_bytes, piece_bytes, bytes_of}
use Rattle.readers.specs.Tokens.{number_as, token_of}
use Rattle.readers.specs.Operations.{unreadable_row, rows, row_of, row_layout, operations, row_among, operation_row}
use Rattle.readers.specs.Operations.{operation, range_entries, list_row}
use Rattle.readers.specs.Forms.{form_tokens, token_among, form_token, use_of, in_version, value_token, attribute_layout}
use Rattle.readers.specs.Cursors.{as_leb_number, leb_at, fixed_at, as_fixed}
use Rattle.readers.specs.Fields.{linked_value, size, field_of, row_of_reads, as_row, row_at, part_of}
use Rattle.readers.specs.Steps.{row_operation, operation_of_reads, as_operation, operation_at, list_entry, row_entry}
use Rattle.readers.specs.Steps.{entry_of_reads, as_list_step, list_entry_at}
use Rattle.readers.specs.Lists.{list_base, list_start, from_base, list_offset}
use Rattle.readers.specs.Header.{length_bytes, encoding_of}
use Rattle.readers.specs.declared.cursor.Encoding.{Encoding}
use Rattle.std.specs.Prelude.{None, Option, Some, Err, Ok, Result}
use Rattle.readers.specs.declared.operations.ListStep.{ListStep}
use Rattle.readers.specs.declared.operations.ListStep.TheVariants.{Entry as Entry', End as ListEnd}
use Rattle.readers.specs.Abbreviations.{number_spec, implicit_spec, spec_at}
use Rattle.readers.specs.Entries.{attribute_of_reads, as_attribute, attribute_at}
use Rattle.marking.specs.Addresses.{is_tombstone, byte_liveness, lookup_at}
use Rattle.marking.specs.Walking.{on_next, walk_within, walk}
use Rattle.marking.specs.Roots.{or_else, on_lookup, range_entry, range_step, ranges_live, operation_live, operation_step, location_live}
use Rattle.marking.specs.Roots.{older_step, older_live, range_pair, pair_step, pairs_live, low_pc}
use Rattle.marking.specs.Analysis.{ranges_for}
use Rattle.readers.specs.EntryAttributes.{Valued, on_attribute, values_of, on_spec, specs_within, specs_from, entry_values}
use Rattle.marking.specs.Roots.{low_pcs, locations, ranges_by, offset_live, other_ranges, ranges_of}
use Rattle.marking.specs.Roots.{first_ranges, root_test, base_from, base_after}
use Rattle.marking.specs.declared.addresses.Verdict.{Verdict}
use Rattle.marking.specs.declared.addresses.Verdict.TheVariants.{Live, Dead}

-- an empty table says live of every index; one of a byte or more says what its bytes say, and 17 past them
lookups :
    ((index : ℕ) → lookup_at [] index ≡ Ok Live)
    × ((b : ℕ) (rest : List ℕ) (index : ℕ)
    → lookup_at (b ∷ rest) index ≡ pick (ltb index (suc (length rest))) (byte_liveness (get_or (b ∷ rest) index 0)) (Err 17))
    × (byte_liveness 2 ≡ Err 6) × (byte_liveness 255 ≡ Err 6)
unfolding lookup_at byte_liveness pick
lookups = (λ index. refl, λ b rest index. rw (ne_eqb (suc (length rest)) 0 (λ z. omega arith)), refl, refl)

-- the encodings of the examples
abbrev pub little8 : Encoding
little8 = encoding_of false 5 4 8

abbrev pub big8 : Encoding
big8 = encoding_of true 5 4 8

abbrev pub big4 : Encoding
big4 = encoding_of true 5 4 4

-- the list with index 0 of a section: a header of twelve bytes, a table of one offset, and the list
ranged : Encoding → List ℕ → List ℕ → Result Verdict ℕ
ranged e table list = ranges_live e table section (list_offset e section 12 0)
  where
    section : List ℕ
    section = 0 ∷ 0 ∷ 0 ∷ 0 ∷ 0 ∷ 0 ∷ 0 ∷ 0 ∷ 0 ∷ 0 ∷ 0 ∷ 0 ∷ (fixed_bytes e.big_endian 4 4 ++ list)

range-lists :
    (ranged little8 [] [] ≡ Ok Dead)  -- the section's end is an empty list
    × (ranged little8 [] (4 ∷ 0 ∷ 0 ∷ 0xff ∷ []) ≡ Ok Live)  -- what stands behind a live range is not read
    × (ranged little8 [] (0xff ∷ []) ≡ Err 5)  -- an unknown kind
    × (ranged little8 [] (2 ∷ 0 ∷ []) ≡ Err 5)  -- an entry is read whole before it is judged
    × (ranged little8 (2 ∷ []) (1 ∷ 0 ∷ []) ≡ Err 6)  -- a base asks the table though no pair follows
    × (ranged little8 (2 ∷ []) (1 ∷ 1 ∷ []) ≡ Err 17)  -- past the table's end, whatever its bytes are
    × (ranged little8 (2 ∷ []) (2 ∷ 0 ∷ 1 ∷ 0 ∷ []) ≡ Err 6)
    × (ranged little8 (1 ∷ []) (2 ∷ 1 ∷ 0 ∷ 0 ∷ []) ≡ Err 17)
    × (ranged little8 (2 ∷ []) (3 ∷ 0 ∷ 1 ∷ 0 ∷ []) ≡ Err 6)
    × (ranged little8 (1 ∷ []) (3 ∷ 1 ∷ 1 ∷ 0 ∷ []) ≡ Err 17)
    × (ranged little8 (2 ∷ []) (3 ∷ 1 ∷ 1 ∷ 3 ∷ 0 ∷ 1 ∷ 0 ∷ []) ≡ Err 17)  -- the failure that is met first
    × (ranged little8 (2 ∷ []) (3 ∷ 0 ∷ 1 ∷ 3 ∷ 1 ∷ 1 ∷ 0 ∷ []) ≡ Err 6)
    × (ranged little8 (0 ∷ []) (1 ∷ 0 ∷ 4 ∷ 0 ∷ 1 ∷ 0 ∷ []) ≡ Ok Dead)  -- a pair after a dead base
    × (ranged little8 (1 ∷ []) (1 ∷ 0 ∷ 4 ∷ 0 ∷ 1 ∷ 0 ∷ []) ≡ Ok Live)
    × (ranged little8 (0 ∷ []) (3 ∷ 0 ∷ 1 ∷ 0 ∷ []) ≡ Ok Dead)
    × (ranged little8 [] (1 ∷ 5 ∷ 0 ∷ []) ≡ Ok Dead)  -- no table: a base with no pair behind it is no range
    × (ranged little8 [] (1 ∷ 5 ∷ 4 ∷ 0 ∷ 1 ∷ 0 ∷ []) ≡ Ok Live)
    × (ranged little8 [] (2 ∷ 7 ∷ 8 ∷ 0 ∷ []) ≡ Ok Live)
    × (ranged little8 [] (3 ∷ 7 ∷ 1 ∷ 0 ∷ []) ≡ Ok Live)
    × (ranged little8 [] (5 ∷ 0 ∷ 0 ∷ 0 ∷ 0 ∷ 0 ∷ 0 ∷ 0 ∷ 0 ∷ 4 ∷ 0 ∷ 1 ∷ 0 ∷ []) ≡ Ok Dead)  -- direct addresses keep their test
    × (ranged little8 [] (6 ∷ 0 ∷ 0 ∷ 0 ∷ 0 ∷ 0 ∷ 0 ∷ 0 ∷ 0 ∷ 1 ∷ 0 ∷ 0 ∷ 0 ∷ 0 ∷ 0 ∷ 0 ∷ 0 ∷ 0 ∷ []) ≡ Ok Dead)
    × (ranged little8 [] (7 ∷ 0 ∷ 0 ∷ 0 ∷ 0 ∷ 0 ∷ 0 ∷ 0 ∷ 0 ∷ 1 ∷ 0 ∷ []) ≡ Ok Dead)
    -- big-endian: offsets of the table, addresses and so tombstones
    × (ranged big8 (0 ∷ 1 ∷ []) [] ≡ Ok Dead)
    × (ranged big8 (0 ∷ 1 ∷ []) (4 ∷ 0 ∷ 0 ∷ []) ≡ Ok Live)
    × (ranged big8 (0 ∷ 1 ∷ []) (3 ∷ 0 ∷ 1 ∷ 3 ∷ 1 ∷ 1 ∷ 0 ∷ []) ≡ Ok Live)
    × (ranged big4 (0 ∷ 1 ∷ []) (7 ∷ 0 ∷ 0 ∷ 0 ∷ 1 ∷ 9 ∷ 0 ∷ []) ≡ Ok Live)
    × (ranged big4 (0 ∷ 1 ∷ []) (7 ∷ 0 ∷ 0 ∷ 0 ∷ 0 ∷ 9 ∷ 0 ∷ []) ≡ Ok Dead)
    × (ranged big4 (0 ∷ 1 ∷ []) (7 ∷ 0xff ∷ 0xff ∷ 0xff ∷ 0xff ∷ 9 ∷ 0 ∷ []) ≡ Ok Dead)
    × (ranged big4 (0 ∷ 1 ∷ []) (6 ∷ 0xff ∷ 0xff ∷ 0xff ∷ 0xfe ∷ 0 ∷ 0 ∷ 0 ∷ 0 ∷ 0 ∷ []) ≡ Ok Live)
    × (ranged big8 (0 ∷ 1 ∷ []) (5 ∷ 0 ∷ 0 ∷ 0 ∷ 0 ∷ 0 ∷ 0 ∷ 0 ∷ 0 ∷ 4 ∷ 0 ∷ 1 ∷ 0 ∷ []) ≡ Ok Dead)
    × (ranged big8 (0 ∷ 1 ∷ []) (5 ∷ 1 ∷ 0 ∷ 0 ∷ 0 ∷ 0 ∷ 0 ∷ 0 ∷ 0 ∷ 4 ∷ 0 ∷ 1 ∷ 0 ∷ []) ≡ Ok Live)
unfolding ranged ranges_live fixed_bytes little_bytes range_step range_entry on_lookup lookup_at byte_liveness is_tombstone walk walk_within on_next
    list_offset from_base list_start fixed_at as_fixed encoding_of list_entry_at as_list_step entry_of_reads row_entry list_entry
    list_row range_entries row_among row_of rows unreadable_row row_layout token_of number_as read_in token_in number_in before
    as_number as_bounded as_link as_block as_expression as_leb as_bytes copy uleb groups below unsigned64 fixed_value ordered
    little_value width size bytes_of piece_bytes number_bytes field_of linked_value row_of_reads pick check bind ◌and◌ ◌or◌
range-lists = (refl, refl, refl, refl, refl, refl, refl, refl, refl, refl, refl, refl, refl, refl, refl, refl, refl, refl, refl, refl, refl, refl, refl, refl, refl, refl, refl, refl, refl, refl, refl)

-- an address is read in the unit's order: the first operand of a list entry of kind start_length
unfoldable first_operand : Option ListStep → ℕ
first_operand (Some (Entry' x)) = x.first.value
first_operand (Some ListEnd) = 0
first_operand None = 0

addresses :
    (first_operand (list_entry_at little8 false (7 ∷ 1 ∷ 2 ∷ 3 ∷ 4 ∷ 5 ∷ 6 ∷ 7 ∷ 8 ∷ 9 ∷ []) 0) ≡ 0x0807060504030201)
    × (first_operand (list_entry_at big8 false (7 ∷ 1 ∷ 2 ∷ 3 ∷ 4 ∷ 5 ∷ 6 ∷ 7 ∷ 8 ∷ 9 ∷ []) 0) ≡ 0x0102030405060708)
    × (first_operand (list_entry_at big4 false (7 ∷ 1 ∷ 2 ∷ 3 ∷ 4 ∷ 9 ∷ []) 0) ≡ 0x01020304)
unfolding first_operand list_entry_at as_list_step entry_of_reads row_entry list_entry list_row range_entries row_among row_of rows
    unreadable_row row_layout encoding_of token_of number_as read_in token_in number_in before as_number as_bounded as_link as_block
    as_expression as_leb as_bytes copy uleb groups below unsigned64 fixed_value ordered little_value width size bytes_of
    piece_bytes number_bytes field_of linked_value row_of_reads pick check bind ◌and◌ ◌or◌
addresses = (refl, refl, refl)

-- a location is read to its end though a live index was met; a nested entry value is stepped over; constx asks nothing
locations-live :
    (location_live little8 false (0 ∷ 1 ∷ []) (0xa1 ∷ 1 ∷ []) ≡ Ok Live)
    × (location_live little8 false (0 ∷ 1 ∷ []) (0xa1 ∷ 1 ∷ 0xa1 ∷ 2 ∷ []) ≡ Err 17)
    × (location_live little8 false (0 ∷ 2 ∷ []) (0xa1 ∷ 1 ∷ 0xa1 ∷ 2 ∷ []) ≡ Err 6)  -- the failure that is met first
    × (location_live little8 false (0 ∷ 2 ∷ []) (0xfb ∷ 2 ∷ 0xa1 ∷ 1 ∷ 0xff ∷ []) ≡ Err 17)
    × (location_live little8 false (0 ∷ 2 ∷ 0 ∷ []) (0xfb ∷ 1 ∷ 0xff ∷ []) ≡ Err 6)
    × (location_live little8 false (0 ∷ 1 ∷ []) (0xa3 ∷ 1 ∷ 0xff ∷ 0xfb ∷ 1 ∷ []) ≡ Ok Live)
    × (location_live little8 false [] (0xa2 ∷ 7 ∷ []) ≡ Ok Dead)
    × (location_live little8 false [] (0x03 ∷ 1 ∷ 0 ∷ 0 ∷ 0 ∷ 0 ∷ 0 ∷ 0 ∷ 0 ∷ []) ≡ Ok Dead)
    × (location_live little8 false [] (0xff ∷ []) ≡ Err 5)
    × (location_live little8 false [] (0xa1 ∷ 7 ∷ []) ≡ Ok Live)  -- no table
    × (location_live little8 false [] (0xfb ∷ 7 ∷ []) ≡ Ok Live)
    × (location_live little8 false [] (0xa3 ∷ 2 ∷ 0xa1 ∷ 7 ∷ []) ≡ Ok Dead)
    × (location_live little8 false [] (0xa1 ∷ 7 ∷ 0xff ∷ []) ≡ Err 5)
unfolding location_live operation_live operation_step on_lookup lookup_at byte_liveness walk walk_within on_next encoding_of operation_at
    as_operation operation_of_reads row_operation operation operation_row operations row_among row_of rows unreadable_row
    row_layout token_of number_as read_in token_in number_in before as_number as_bounded as_link as_block as_expression as_leb
    as_bytes copy uleb groups below unsigned64 fixed_value ordered little_value width size bytes_of piece_bytes number_bytes
    field_of linked_value row_of_reads pick check bind ◌and◌ ◌or◌
locations-live = (refl, refl, refl, refl, refl, refl, refl, refl, refl, refl, refl, refl, refl)

-- ---- entries, from the bytes of their specifications and of their values

entry_of : Encoding → List ℕ → List ℕ → List Valued
entry_of e specs values = entry_values e specs 0 values 0

-- the test of an entry with a tag; the range lists have two lists, index 0 an empty one, index 1 a live range
tested : Encoding → List ℕ → ℕ → List ℕ → List ℕ → Result Verdict ℕ
tested e table tag specs values = root_test e (ranges_by section table 0 12) false values tag (entry_of e specs values)
  where
    number : ℕ → List ℕ
    number n = fixed_bytes e.big_endian 4 n

    section : List ℕ
    section = 0 ∷ 0 ∷ 0 ∷ 0 ∷ 0 ∷ 0 ∷ 0 ∷ 0 ∷ 0 ∷ 0 ∷ 0 ∷ 0 ∷ (number 8 ++ (number 9 ++ (0 ∷ 4 ∷ 0 ∷ 1 ∷ 0 ∷ [])))

entries :
    (tested little8 (1 ∷ []) 0x2e (0x11 ∷ 0x1b ∷ 0 ∷ 0 ∷ []) (0 ∷ []) ≡ Ok Live)  -- low_pc in addrx
    × (tested little8 (0 ∷ []) 0x2e (0x11 ∷ 0x1b ∷ 0 ∷ 0 ∷ []) (0 ∷ []) ≡ Ok Dead)
    × (tested little8 (2 ∷ []) 0x2e (0x11 ∷ 0x1b ∷ 0 ∷ 0 ∷ []) (0 ∷ []) ≡ Err 6)
    × (tested little8 (1 ∷ []) 0x2e (0x11 ∷ 0x1b ∷ 0 ∷ 0 ∷ []) (1 ∷ []) ≡ Err 17)
    × (tested little8 (0 ∷ 2 ∷ []) 0x2e (0x11 ∷ 0x1b ∷ 0x11 ∷ 0x1b ∷ 0 ∷ 0 ∷ []) (2 ∷ 1 ∷ []) ≡ Err 17)  -- the failure that is met first
    × (tested little8 (0 ∷ 2 ∷ []) 0x2e (0x11 ∷ 0x1b ∷ 0x11 ∷ 0x1b ∷ 0 ∷ 0 ∷ []) (1 ∷ 2 ∷ []) ≡ Err 6)
    × (tested little8 (0 ∷ 1 ∷ []) 0x2e (0x11 ∷ 0x1b ∷ 0x11 ∷ 0x1b ∷ 0 ∷ 0 ∷ []) (0 ∷ 1 ∷ []) ≡ Ok Live)  -- each low_pc in turn
    × (tested little8 [] 0x2e (0x55 ∷ 0x23 ∷ 0x55 ∷ 0x23 ∷ 0 ∷ 0 ∷ []) (0 ∷ 1 ∷ []) ≡ Ok Dead)  -- the first ranges decide
    × (tested little8 [] 0x2e (0x55 ∷ 0x23 ∷ 0x55 ∷ 0x23 ∷ 0 ∷ 0 ∷ []) (1 ∷ 0 ∷ []) ≡ Ok Live)
    × (tested little8 (0 ∷ []) 0x2e (0x55 ∷ 0x23 ∷ 0x11 ∷ 0x1b ∷ 0 ∷ 0 ∷ []) (1 ∷ 0 ∷ []) ≡ Ok Live)  -- after a dead low_pc
    × (tested little8 (2 ∷ []) 0x2e (0x55 ∷ 0x23 ∷ 0x11 ∷ 0x1b ∷ 0 ∷ 0 ∷ []) (1 ∷ 0 ∷ []) ≡ Err 6)  -- low_pc is asked before ranges, though it stands behind them
    × (tested little8 [] 0x2e (0x55 ∷ 0x17 ∷ 0 ∷ 0 ∷ []) (20 ∷ 0 ∷ 0 ∷ 0 ∷ []) ≡ Ok Dead)  -- ranges in sec_offset: the older test
    × (tested little8 [] 0x2e (0x55 ∷ 0x17 ∷ 0 ∷ 0 ∷ []) (21 ∷ 0 ∷ 0 ∷ 0 ∷ []) ≡ Ok Live)
    × (tested little8 [] 0x2e (0x55 ∷ 0x17 ∷ 0 ∷ 0 ∷ []) (26 ∷ 0 ∷ 0 ∷ 0 ∷ []) ≡ Ok Live)  -- past the section's end
    × (tested little8 (1 ∷ []) 0x34 (0x02 ∷ 0x18 ∷ 0 ∷ 0 ∷ []) (2 ∷ 0xa1 ∷ 0 ∷ []) ≡ Ok Live)  -- a variable's location in exprloc
    × (tested little8 (0 ∷ []) 0x34 (0x02 ∷ 0x18 ∷ 0 ∷ 0 ∷ []) (2 ∷ 0xa1 ∷ 0 ∷ []) ≡ Ok Dead)
    × (tested little8 (1 ∷ []) 0x34 (0x02 ∷ 0x18 ∷ 0 ∷ 0 ∷ []) (2 ∷ 0xa1 ∷ 1 ∷ []) ≡ Err 17)
    × (tested little8 [] 0x34 (0x02 ∷ 0x18 ∷ 0 ∷ 0 ∷ []) (0 ∷ []) ≡ Ok Dead)  -- one of no bytes
    × (tested little8 (1 ∷ []) 0x34 (0x11 ∷ 0x1b ∷ 0 ∷ 0 ∷ []) (0 ∷ []) ≡ Ok Dead)  -- a variable's low_pc is not asked
    × (tested little8 [] 0x11 (0x11 ∷ 0x1b ∷ 0 ∷ 0 ∷ []) (0 ∷ []) ≡ Ok Dead)  -- another tag asks nothing
    × (tested little8 (0 ∷ []) 0x2e (0x11 ∷ 0x0b ∷ 0 ∷ 0 ∷ []) (0 ∷ []) ≡ Ok Live)  -- low_pc in another form
    × (tested little8 [] 0x2e (0x11 ∷ 0x1b ∷ 0 ∷ 0 ∷ []) (7 ∷ []) ≡ Ok Live)  -- no table: every index that is asked is live
    × (tested little8 [] 0x34 (0x02 ∷ 0x18 ∷ 0 ∷ 0 ∷ []) (2 ∷ 0xa1 ∷ 7 ∷ []) ≡ Ok Live)
    × (tested little8 [] 0x2e (0x11 ∷ 0x01 ∷ 0 ∷ 0 ∷ []) (0 ∷ 0 ∷ 0 ∷ 0 ∷ 0 ∷ 0 ∷ 0 ∷ 0 ∷ []) ≡ Ok Dead)  -- a direct address is not asked of it
    -- big-endian
    × (tested big8 (0 ∷ 1 ∷ []) 0x2e (0x11 ∷ 0x2a ∷ 0 ∷ 0 ∷ []) (0 ∷ 1 ∷ []) ≡ Ok Live)  -- low_pc in addrx2, addrx3, addrx4
    × (tested big8 (0 ∷ 1 ∷ []) 0x2e (0x11 ∷ 0x2b ∷ 0 ∷ 0 ∷ []) (0 ∷ 0 ∷ 1 ∷ []) ≡ Ok Live)
    × (tested big8 (0 ∷ 1 ∷ []) 0x2e (0x11 ∷ 0x2c ∷ 0 ∷ 0 ∷ []) (0 ∷ 0 ∷ 0 ∷ 1 ∷ []) ≡ Ok Live)
    × (tested big8 (0 ∷ 1 ∷ []) 0x2e (0x11 ∷ 0x2a ∷ 0 ∷ 0 ∷ []) (1 ∷ 0 ∷ []) ≡ Err 17)
    × (tested big8 [] 0x2e (0x55 ∷ 0x23 ∷ 0 ∷ 0 ∷ []) (0 ∷ []) ≡ Ok Dead)
    × (tested big8 [] 0x2e (0x55 ∷ 0x23 ∷ 0 ∷ 0 ∷ []) (1 ∷ []) ≡ Ok Live)
    × (tested big8 [] 0x2e (0x55 ∷ 0x17 ∷ 0 ∷ 0 ∷ []) (0 ∷ 0 ∷ 0 ∷ 20 ∷ []) ≡ Ok Dead)
    × (tested big8 [] 0x2e (0x55 ∷ 0x17 ∷ 0 ∷ 0 ∷ []) (0 ∷ 0 ∷ 0 ∷ 21 ∷ []) ≡ Ok Live)
    × (tested big8 [] 0x2e (0x11 ∷ 0x01 ∷ 0 ∷ 0 ∷ []) (0 ∷ 0 ∷ 0 ∷ 0 ∷ 0 ∷ 0 ∷ 0 ∷ 1 ∷ []) ≡ Ok Live)
    × (tested big8 [] 0x2e (0x11 ∷ 0x01 ∷ 0 ∷ 0 ∷ []) (0 ∷ 0 ∷ 0 ∷ 0 ∷ 0 ∷ 0 ∷ 0 ∷ 0 ∷ []) ≡ Ok Dead)
    × (tested big8 (1 ∷ []) 0x34 (0x02 ∷ 0x18 ∷ 0 ∷ 0 ∷ []) (2 ∷ 0xa1 ∷ 0 ∷ []) ≡ Ok Live)
unfolding tested fixed_bytes little_bytes root_test or_else low_pcs low_pc first_ranges ranges_of other_ranges offset_live older_live older_step ranges_live range_step
    range_entry list_offset from_base list_start fixed_at as_fixed list_entry_at as_list_step entry_of_reads row_entry list_entry
    list_row range_entries row_among row_of rows unreadable_row row_layout locations part_of location_live operation_live operation_step
    operation_at as_operation operation_of_reads row_operation operation operation_row operations on_lookup lookup_at
    byte_liveness is_tombstone walk walk_within on_next entry_of entry_values values_of on_attribute specs_from specs_within on_spec spec_at
    implicit_spec number_spec leb_at as_leb_number short within16 attribute_at as_attribute attribute_of_reads attribute_layout
    value_token in_version use_of form_token token_among form_tokens encoding_of token_of number_as read_in token_in number_in before as_number
    as_link as_expression as_leb as_bytes copy uleb groups below unsigned64 fixed_value ordered little_value width size
    bytes_of piece_bytes number_bytes padded field_of linked_value row_of_reads pick check bind ◌and◌ ◌or◌
entries = (refl, refl, refl, refl, refl, refl, refl, refl, refl, refl, refl, refl, refl, refl, refl, refl, refl, refl, refl, refl, refl, refl, refl, refl, refl, refl, refl, refl, refl, refl, refl, refl, refl, refl, refl)

-- ---- a variable at a fixed address (document 02, Point 7)

-- DW_OP_addr with an address
at : Encoding → ℕ → List ℕ
at e n = 0x03 ∷ fixed_bytes e.big_endian e.address_size n

little4 : Encoding
little4 = encoding_of false 4 8 4

-- off it says nothing, on it is live but for a tombstone of the address size
fixed-off-on :
    (location_live little8 false [] (at little8 1) ≡ Ok Dead)
    × (location_live little8 true [] (at little8 1) ≡ Ok Live)
    × (location_live big8 true [] (at big8 1) ≡ Ok Live)
    × (location_live big4 true [] (at big4 1) ≡ Ok Live)
    × (location_live little4 true [] (at little4 1) ≡ Ok Live)  -- of version 4, in the 64-bit format
    × (location_live little8 true [] (at little8 0) ≡ Ok Dead)
    × (location_live little4 true [] (at little4 0) ≡ Ok Dead)
    × (location_live little4 true [] (at little4 0xffffffff) ≡ Ok Dead)
    × (location_live big4 true [] (at big4 0xffffffff) ≡ Ok Dead)
    × (location_live little4 true [] (at little4 0xfffffffe) ≡ Ok Live)
    × (location_live little8 true [] (at little8 0xffffffff) ≡ Ok Live)  -- a tombstone of four bytes in eight
    × (location_live big8 true [] (at big8 0xffffffffffffffff) ≡ Ok Dead)
    -- the expression is read to its end, and its indices are asked
    × (location_live little4 true (0 ∷ []) (at little4 1 ++ (0xa1 ∷ 1 ∷ [])) ≡ Err 17)
    × (location_live little4 true (2 ∷ []) (at little4 1 ++ (0xa1 ∷ 0 ∷ [])) ≡ Err 6)
    × (location_live little4 true [] (at little4 1 ++ (0xff ∷ [])) ≡ Err 5)
    × (location_live little4 true (0 ∷ []) (at little4 1 ++ (0xa1 ∷ 0 ∷ [])) ≡ Ok Live)  -- a dead index takes nothing back
    × (location_live little4 true (0 ∷ []) ((0xa1 ∷ 0 ∷ []) ++ at little4 1) ≡ Ok Live)
    × (location_live little4 true (1 ∷ []) (at little4 0 ++ (0xa1 ∷ 0 ∷ [])) ≡ Ok Live)  -- nor does a tombstone
    × (location_live little4 true [] (at little4 1 ++ (0x23 ∷ 8 ∷ [])) ≡ Ok Live)  -- with an offset added
    -- a nested entry value is stepped over; a constant is no address
    × (location_live little4 true [] ((0xa3 ∷ 5 ∷ []) ++ at little4 1) ≡ Ok Dead)
    × (location_live little4 true [] ((0xf3 ∷ 5 ∷ []) ++ at little4 1) ≡ Ok Dead)
    × (location_live little4 true [] (0x0c ∷ 1 ∷ 0 ∷ 0 ∷ 0 ∷ 0x9b ∷ []) ≡ Ok Dead)
unfolding at little4 fixed_bytes little_bytes location_live operation_live operation_step on_lookup lookup_at byte_liveness is_tombstone walk walk_within on_next
    encoding_of operation_at as_operation operation_of_reads row_operation operation operation_row operations row_among row_of
    rows unreadable_row row_layout token_of number_as read_in token_in number_in before as_number as_bounded as_link as_block
    as_expression as_leb as_bytes copy uleb groups below unsigned64 fixed_value ordered little_value width size bytes_of
    piece_bytes number_bytes field_of linked_value row_of_reads pick check bind ◌and◌ ◌or◌
fixed-off-on = (refl, refl, refl, refl, refl, refl, refl, refl, refl, refl, refl, refl, refl, refl, refl, refl, refl, refl, refl, refl, refl, refl)

-- an entry of the 32-bit format with four bytes an address, where fixed addresses count
counted : List ℕ → ℕ → List ℕ → List ℕ → Result Verdict ℕ
counted table tag specs values = root_test four (ranges_by [] table 0 8) true values tag (entry_of four specs values)
  where
    four : Encoding
    four = encoding_of false 5 4 4

-- it ends the test: a later location is not asked, behind a tombstone it is; a variable's location in exprloc alone
fixed-ends :
    (counted (0 ∷ []) 0x34 (0x02 ∷ 0x18 ∷ 0x02 ∷ 0x18 ∷ 0 ∷ 0 ∷ []) (5 ∷ 0x03 ∷ 1 ∷ 0 ∷ 0 ∷ 0 ∷ 2 ∷ 0xa1 ∷ 9 ∷ []) ≡ Ok Live)
    × (counted (0 ∷ []) 0x34 (0x02 ∷ 0x18 ∷ 0x02 ∷ 0x18 ∷ 0 ∷ 0 ∷ []) (5 ∷ 0x03 ∷ 0 ∷ 0 ∷ 0 ∷ 0 ∷ 2 ∷ 0xa1 ∷ 9 ∷ []) ≡ Err 17)
    × (counted [] 0x34 (0x02 ∷ 0x18 ∷ 0 ∷ 0 ∷ []) (5 ∷ 0x03 ∷ 1 ∷ 0 ∷ 0 ∷ 0 ∷ []) ≡ Ok Live)
    × (counted [] 0x34 (0x02 ∷ 0x0a ∷ 0 ∷ 0 ∷ []) (5 ∷ 0x03 ∷ 1 ∷ 0 ∷ 0 ∷ 0 ∷ []) ≡ Ok Dead)  -- in a block
    × (counted [] 0x05 (0x02 ∷ 0x18 ∷ 0 ∷ 0 ∷ []) (5 ∷ 0x03 ∷ 1 ∷ 0 ∷ 0 ∷ 0 ∷ []) ≡ Ok Dead)  -- a formal parameter
    × (counted [] 0x34 (0x40 ∷ 0x18 ∷ 0 ∷ 0 ∷ []) (5 ∷ 0x03 ∷ 1 ∷ 0 ∷ 0 ∷ 0 ∷ []) ≡ Ok Dead)  -- its frame base
unfolding counted root_test or_else locations part_of location_live operation_live operation_step operation_at as_operation
    operation_of_reads row_operation operation operation_row operations row_among row_of rows unreadable_row row_layout on_lookup
    lookup_at byte_liveness is_tombstone walk walk_within on_next entry_of entry_values values_of on_attribute specs_from
    specs_within on_spec spec_at implicit_spec number_spec leb_at as_leb_number short within16 attribute_at as_attribute
    attribute_of_reads attribute_layout value_token in_version use_of form_token token_among form_tokens encoding_of token_of
    number_as read_in token_in number_in before as_number as_bounded as_link as_block as_expression as_leb as_bytes copy uleb groups
    below unsigned64 fixed_value ordered little_value width size bytes_of piece_bytes number_bytes padded field_of linked_value
    row_of_reads pick check bind ◌and◌ ◌or◌
fixed-ends = (refl, refl, refl, refl, refl, refl)

-- ---- .debug_ranges of version 4 (document 02, Point 4)

-- two addresses of four bytes, both below 256 or all ones
byte4 : ℕ → List ℕ
byte4 n = pick (eqb n 0xffffffff) (0xff ∷ 0xff ∷ 0xff ∷ 0xff ∷ []) (n ∷ 0 ∷ 0 ∷ 0 ∷ [])

pair4 : ℕ → ℕ → List ℕ
pair4 begin end = byte4 begin ++ byte4 end

-- the verdict of a section that begins with the list, at the address sizes 4 and 8
of4 : List ℕ → Result Verdict ℕ
of4 s = pairs_live (encoding_of false 4 4 4) s (Some (record { at = 0 }))

of8 : List ℕ → Result Verdict ℕ
of8 s = pairs_live (encoding_of true 4 8 8) s (Some (record { at = 0 }))

-- before any base entry; a begin of 0; under a base of 0, of all ones, and under a live one again; two equal numbers; the
-- end pair whatever the base; the section's end; cut inside a pair, and behind a live one; no list is at such an offset
pairs :
    (of4 (pair4 5 9 ++ pair4 0 0) ≡ Ok Live)
    × (of4 (pair4 0 9 ++ pair4 0 0) ≡ Ok Dead)
    × (of4 (pair4 0xffffffff 0 ++ pair4 5 9 ++ pair4 0 0) ≡ Ok Dead)
    × (of4 (pair4 0xffffffff 0xffffffff ++ pair4 5 9 ++ pair4 0 0) ≡ Ok Dead)
    × (of4 (pair4 0xffffffff 7 ++ pair4 0 9 ++ pair4 0 0) ≡ Ok Dead)
    × (of4 (pair4 0xffffffff 0 ++ pair4 0xffffffff 7 ++ pair4 5 9) ≡ Ok Live)
    × (of4 (pair4 0 9 ++ pair4 5 5 ++ pair4 0 0) ≡ Ok Live)
    × (of4 (pair4 0xffffffff 7 ++ pair4 0 0 ++ pair4 5 9) ≡ Ok Dead)
    × (of4 (pair4 0 9) ≡ Ok Dead)
    × (of4 (pair4 0 9 ++ byte4 5) ≡ Err 5)
    × (of4 (pair4 5 9 ++ byte4 5) ≡ Ok Live)
    × (of4 [] ≡ Ok Dead)
    × (pairs_live (encoding_of false 4 4 4) [] None ≡ Ok Live)
    -- big-endian, of eight bytes: 0xffffffff is an address, all ones are a base
    × (of8 (0 ∷ 0 ∷ 0 ∷ 0 ∷ 0xff ∷ 0xff ∷ 0xff ∷ 0xff ∷ 0 ∷ 0 ∷ 0 ∷ 0 ∷ 0 ∷ 0 ∷ 0 ∷ 0 ∷ []) ≡ Ok Live)
    × (of8 (0xff ∷ 0xff ∷ 0xff ∷ 0xff ∷ 0xff ∷ 0xff ∷ 0xff ∷ 0xff ∷ 0 ∷ 0 ∷ 0 ∷ 0 ∷ 0 ∷ 0 ∷ 0 ∷ 0
    ∷ 0 ∷ 0 ∷ 0 ∷ 0 ∷ 0 ∷ 0 ∷ 0 ∷ 5 ∷ 0 ∷ 0 ∷ 0 ∷ 0 ∷ 0 ∷ 0 ∷ 0 ∷ 9 ∷ []) ≡ Ok Dead)
    -- the section of the unit's version
    × (ranges_for (encoding_of false 4 4 8) (1 ∷ []) (2 ∷ []) ≡ 2 ∷ [])
    × (ranges_for (encoding_of false 5 4 8) (1 ∷ []) (2 ∷ []) ≡ 1 ∷ [])
unfolding byte4 pair4 of4 of8 pairs_live pair_step range_pair ranges_for is_tombstone row_at as_row row_of_reads row_of rows unreadable_row row_layout
    token_of number_as encoding_of walk walk_within on_next read_in token_in number_in before as_number copy width fixed_value ordered
    little_value size bytes_of piece_bytes field_of linked_value as_bytes pick check bind ◌and◌ ◌or◌
pairs = (refl, refl, refl, refl, refl, refl, refl, refl, refl, refl, refl, refl, refl, refl, refl, refl, refl)

-- rnglists_base in sec_offset: of several the last counts; another form, another name and another tag leave the base
list-bases :
    (base_after 0x74 12 0x11 (entry_of little8 (0x74 ∷ 0x17 ∷ 0x74 ∷ 0x17 ∷ 0 ∷ 0 ∷ []) (16 ∷ 0 ∷ 0 ∷ 0 ∷ 20 ∷ 0 ∷ 0 ∷ 0 ∷ [])) ≡ 20)
    × (base_after 0x74 12 0x11 (entry_of little8 (0x74 ∷ 0x17 ∷ 0x74 ∷ 0x06 ∷ 0 ∷ 0 ∷ []) (16 ∷ 0 ∷ 0 ∷ 0 ∷ 20 ∷ 0 ∷ 0 ∷ 0 ∷ [])) ≡ 16)
    × (base_after 0x8c 12 0x11 (entry_of little8 (0x74 ∷ 0x17 ∷ 0 ∷ 0 ∷ []) (16 ∷ 0 ∷ 0 ∷ 0 ∷ [])) ≡ 12)
    × (base_after 0x74 12 0x2e (entry_of little8 (0x74 ∷ 0x17 ∷ 0 ∷ 0 ∷ []) (16 ∷ 0 ∷ 0 ∷ 0 ∷ [])) ≡ 12)
    × (base_after 0x74 12 0x11 (entry_of big8 (0x74 ∷ 0x17 ∷ 0 ∷ 0 ∷ []) (0 ∷ 0 ∷ 1 ∷ 16 ∷ [])) ≡ 0x0110)  -- big-endian
    -- the 64-bit format: a base as wide as an offset; the default
    × (base_after 0x74 20 0x11 (entry_of (encoding_of false 5 8 8) (0x74 ∷ 0x17 ∷ 0 ∷ 0 ∷ []) (4 ∷ 0 ∷ 0 ∷ 0 ∷ 1 ∷ 0 ∷ 0 ∷ 0 ∷ [])) ≡ 0x100000004)
    × (list_base little8 ≡ 12)
    × (list_base (encoding_of false 5 8 8) ≡ 20)
unfolding list_base length_bytes base_after base_from entry_of entry_values values_of on_attribute specs_from specs_within on_spec spec_at implicit_spec
    number_spec leb_at as_leb_number short within16 attribute_at as_attribute attribute_of_reads attribute_layout value_token in_version
    use_of form_token token_among form_tokens encoding_of token_of number_as read_in token_in number_in before as_number copy
    groups below fixed_value ordered little_value width size bytes_of piece_bytes field_of linked_value pick check bind ◌and◌
    ◌or◌
list-bases = (refl, refl, refl, refl, refl, refl, refl, refl)
