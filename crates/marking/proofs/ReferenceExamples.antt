-- The scan of references computed, by the definitions alone (docs/DECISIONS.md has the points).
use mathlib.Core.Path.{◌≡◌, refl}
use mathlib.Core.Bool.{true, false}
use mathlib.Core.List.{[], ◌∷◌}
use Rattle.readers.specs.Choice.{pick, check, bind, ◌and◌, ◌or◌}
use Rattle.readers.specs.Numbers.{groups, below, uleb, unsigned64, ordered, little_value, fixed_value}
use Rattle.readers.specs.Layout.{as_bytes, width, as_leb, copy, as_number, as_link, as_bounded, as_block, as_expression}
use Rattle.readers.specs.Layout.{before, number_in, token_in, read_in, number_bytes, piece_bytes, bytes_of}
use Rattle.readers.specs.Tokens.{number_as, token_of}
use Rattle.readers.specs.Operations.{unreadable_row, rows, row_of, row_layout, operations, row_among, operation_row}
use Rattle.readers.specs.Operations.{operation, location_entries, location_entries4, list_row}
use Rattle.readers.specs.Expression.{all_pieces, and_rest, expression_within, expression_in}
use Rattle.readers.specs.References.{name_in, names_in, is_absolute, any_absolute, as_walk, walk_of, names_or, references_in}
use Rattle.readers.specs.References.{walk_answer, references_answer, numbers_of, answer_table, references_table}
use Rattle.std.specs.Prelude.{Err, None, Ok, Some}
use Rattle.readers.specs.Cursors.{cursor}
use Rattle.readers.specs.Fields.{linked_value, size, field_of, row_of_reads}
use Rattle.readers.specs.Steps.{list_entry, row_entry, entry_of_reads, as_list_step, list_entry_at}
use Rattle.readers.specs.Header.{encoding_of}
use Rattle.marking.specs.Walking.{on_next, walk_within, walk}
use Rattle.marking.specs.EntryReferences.{found, refused, targets, walk_found, expression_found, part_of}
use Rattle.marking.specs.EntryReferences.{location_found, on_location, location_step, list_found}
use Rattle.marking.proofs.RootExamples.{little8, big8, big4}

expressions :
    (expression_found little8 (0x98 ∷ 0 ∷ 0 ∷ []) ≡ found (0 ∷ []))  -- call2 names 0 too
    × (expression_found little8 (0xa8 ∷ 0 ∷ []) ≡ found [])  -- convert to no type
    × (expression_found little8 (0xa3 ∷ 3 ∷ 0x98 ∷ 7 ∷ 0 ∷ 0xa8 ∷ 9 ∷ []) ≡ found (7 ∷ 9 ∷ []))  -- an entry value's, in walk order
    × (expression_found little8 (0xfd ∷ 0 ∷ 0 ∷ 0 ∷ 0 ∷ []) ≡ refused [] 7)
    × (expression_found little8 (0x9a ∷ 0 ∷ 0 ∷ 0 ∷ 0 ∷ 0xa3 ∷ 1 ∷ 0xff ∷ []) ≡ refused [] 5)  -- 5 before 7, nested ones too
    × (expression_found big8 (0x98 ∷ 1 ∷ 7 ∷ []) ≡ found (0x0107 ∷ []))  -- big-endian: call2, call4
    × (expression_found big8 (0x99 ∷ 0 ∷ 0 ∷ 1 ∷ 7 ∷ []) ≡ found (0x0107 ∷ []))
    × (expression_found big8 (0xfa ∷ 0 ∷ 0 ∷ 1 ∷ 7 ∷ []) ≡ found (0x0107 ∷ []))  -- GNU_parameter_ref
    × (expression_found big8 (0xa3 ∷ 3 ∷ 0x98 ∷ 0 ∷ 7 ∷ 0xa8 ∷ 0x87 ∷ 2 ∷ []) ≡ found (7 ∷ 0x0107 ∷ []))  -- ULEB128 is the same
unfolding expression_found walk_found targets walk_of as_walk references_in names_or names_in name_in any_absolute is_absolute
    expression_in expression_within and_rest all_pieces encoding_of operation operation_row operations row_among row_of rows
    unreadable_row row_layout token_of number_as read_in token_in number_in before as_number as_bounded as_link as_block
    as_expression as_leb copy uleb groups below unsigned64 fixed_value ordered little_value width bytes_of piece_bytes
    number_bytes pick check bind ◌and◌ ◌or◌
expressions = (refl, refl, refl, refl, refl, refl, refl, refl, refl)

lists :
    (list_found little8 (5 ∷ 3 ∷ 0x98 ∷ 0x63 ∷ 0 ∷ 0 ∷ []) (Some (cursor 0)) ≡ found (0x63 ∷ []))  -- a default location, and the end
    × (list_found little8 (5 ∷ 5 ∷ 0x9a ∷ 0 ∷ 0 ∷ 0 ∷ 0 ∷ 0xff ∷ []) (Some (cursor 0)) ≡ refused [] 7)  -- judged before the next entry is read
    × (list_found little8 (1 ∷ 0 ∷ 9 ∷ []) (Some (cursor 0)) ≡ refused [] 5)  -- an unknown kind
    × (list_found little8 [] None ≡ refused [] 5)
    × (list_found big4 (8 ∷ 1 ∷ 2 ∷ 3 ∷ 4 ∷ 9 ∷ 3 ∷ 0x98 ∷ 0 ∷ 0x63 ∷ 0 ∷ []) (Some (cursor 0)) ≡ found (0x63 ∷ []))  -- big-endian: start_length
    -- version 4: base, start and end, start and length, offsets, end; the same numbers of four bytes in the 64-bit format
    × (list_found (encoding_of false 4 4 8)
    (1 ∷ 0 ∷ 2 ∷ 0 ∷ 0x80 ∷ 1 ∷ 3 ∷ 0 ∷ 0x98 ∷ 7 ∷ 0 ∷ 3 ∷ 0 ∷ 9 ∷ 0 ∷ 0 ∷ 0 ∷ 3 ∷ 0 ∷ 0x98 ∷ 8 ∷ 0
    ∷ 4 ∷ 1 ∷ 0 ∷ 0 ∷ 0 ∷ 2 ∷ 0 ∷ 0 ∷ 0 ∷ 3 ∷ 0 ∷ 0x98 ∷ 9 ∷ 0 ∷ 0 ∷ []) (Some (cursor 0)) ≡ found (7 ∷ 8 ∷ 9 ∷ []))
    × (list_found (encoding_of true 4 8 4) (3 ∷ 0 ∷ 0 ∷ 0 ∷ 0 ∷ 9 ∷ 0 ∷ 3 ∷ 0x98 ∷ 0 ∷ 8 ∷ 0 ∷ []) (Some (cursor 0)) ≡ found (8 ∷ []))
    × (list_found (encoding_of false 4 4 8) (5 ∷ 0 ∷ 0 ∷ []) (Some (cursor 0)) ≡ refused [] 5)  -- default_location is version 5's
    × (list_found (encoding_of false 4 4 8) (3 ∷ 0 ∷ 9 ∷ 1 ∷ 0x96 ∷ []) (Some (cursor 0)) ≡ refused [] 5)  -- as version 5 has them
unfolding list_found location_step on_location location_found part_of walk walk_within on_next list_entry_at as_list_step entry_of_reads
    row_entry list_entry list_row location_entries location_entries4 as_bytes size field_of linked_value row_of_reads expression_found walk_found
    targets walk_of as_walk references_in names_or names_in name_in any_absolute is_absolute expression_in expression_within
    and_rest all_pieces encoding_of operation operation_row operations row_among row_of rows unreadable_row row_layout token_of
    number_as read_in token_in number_in before as_number as_bounded as_link as_block as_expression as_leb copy uleb groups below
    unsigned64 fixed_value ordered little_value width bytes_of piece_bytes number_bytes pick check bind ◌and◌ ◌or◌
lists = (refl, refl, refl, refl, refl, refl, refl, refl, refl)

-- references of an expression: place, offset and width, by the sizes and the byte order that are told
calls :
    (references_answer 8 4 false 6 (0x98 ∷ 1 ∷ 7 ∷ []) ≡ Ok 1)
    × (references_table 8 4 false 6 (0x98 ∷ 1 ∷ 7 ∷ []) ≡ 1 ∷ 0x0701 ∷ 2 ∷ 0 ∷ 0 ∷ 0 ∷ [])
    × (references_answer 8 4 true 6 (0x98 ∷ 1 ∷ 7 ∷ []) ≡ Ok 1)
    × (references_table 8 4 true 6 (0x98 ∷ 1 ∷ 7 ∷ []) ≡ 1 ∷ 0x0107 ∷ 2 ∷ 0 ∷ 0 ∷ 0 ∷ [])
    × (references_answer 8 4 false 6 (0x9a ∷ 0 ∷ 0 ∷ 0 ∷ 0 ∷ []) ≡ Err 7)
    × (references_answer 8 8 false 6 (0x9a ∷ 0 ∷ 0 ∷ 0 ∷ 0 ∷ []) ≡ Err 5)
    × (references_answer 3 4 true 6 [] ≡ Err 2)
    × (references_answer 4 3 true 6 [] ≡ Err 2)
    × (references_answer 3 3 true 6 [] ≡ Err 2)
unfolding references_answer references_table answer_table walk_answer numbers_of walk_of as_walk references_in names_or names_in
    name_in any_absolute is_absolute expression_in expression_within and_rest all_pieces encoding_of operation operation_row
    operations row_among row_of rows unreadable_row row_layout token_of number_as read_in token_in number_in before as_number
    as_bounded as_link as_block as_expression as_leb copy uleb groups below unsigned64 fixed_value ordered little_value width
    bytes_of piece_bytes number_bytes pick check bind ◌and◌ ◌or◌
calls = (refl, refl, refl, refl, refl, refl, refl, refl, refl)
