-- P1 to P10 of document 01, computed by the definitions alone: the five-entry unit, padded numbers, tombstones; the
-- five-entry unit with no address table (document 02, Point 2), and P1 in each encoding that is read (Points 4, 6 and 12).
use Prim.Native.Nat.{ℕ}
use mathlib.Core.Path.{◌≡◌, refl, ap, sym, subst}
use mathlib.Core.Logic.{◌⊎◌, ⊎_elim}
use mathlib.Core.Bool.{Bool, true, false}
use Rattle.readers.specs.Choice.{pick, ◌and◌, ◌or◌, check, bind}
use Rattle.readers.proofs.Choice.{All}
use Rattle.readers.specs.Numbers.{below, groups, unsigned64, uleb, negative, signed64, sleb, padded, little_bytes, little_value, ordered, fixed_bytes, fixed_value}
use Rattle.readers.specs.Layout.{as_bytes, width, as_leb, string_in, within16, short, after_form, forms_within, forms_in, copy, as_number, as_link, as_bounded, as_forms, as_signed, as_string, as_block, as_expression, before, number_in, token_in, read_in, number_bytes, piece_bytes, bytes_of, write_all, patch_piece, patch_pieces, patch_read, patch_all, fits}
use Rattle.readers.proofs.LayoutLaws.{kind_of, FitPiece, FitPieces, FitAll}
use Rattle.readers.specs.Tokens.{number_as, token_of}
use Rattle.readers.specs.Operations.{unreadable_row, rows, row_of, row_layout, operations, row_among, operation_row, operation, range_entries, location_entries, location_entries4, list_row}
use Rattle.readers.specs.Scan.{push, on_turn, scan_within, scan}
use Rattle.readers.proofs.Scan.{Goes}
use Rattle.readers.specs.Expression.{all_pieces, and_rest, expression_within, expression_in}
use Rattle.readers.specs.Forms.{form_tokens, token_among, form_token, use_of, in_version, value_token, attribute_layout}
use Rattle.readers.specs.Cursors.{as_groups, groups_at, as_leb_number, leb_at, as_fixed, fixed_at, skip_at, as_moved, string_at, as_form_number, forms_at}
use Rattle.readers.specs.Fields.{linked_value, size, field_of, as_field, row_of_reads, as_row, token_at, field_at, row_at, block_field, part_of, exprloc_at}
use Rattle.readers.specs.Inner.Fields.{number_field, bounded_field, number_at}
use Rattle.readers.specs.Steps.{row_operation, operation_of_reads, as_operation, operation_at, list_entry, row_entry, entry_of_reads, as_list_step, list_entry_at}
use Rattle.readers.specs.References.{name_in, names_in, is_absolute, any_absolute, as_walk, walk_of, named, named_type, reference_of, yield_turn, operation_turn, walk_turn, yielded, next_reference, names_of, flat_operation, flat_turn, flat, flattened, flat_from, walk_answer, references_answer, numbers_of, names_or, references_in, answer_table, references_table}
use Rattle.readers.specs.Inner.References.{counted, own_walk}
use Rattle.readers.specs.Header.{present, right, length_bytes, encoding_of, header_made, fields4, fields5, header_fields, header_in, header_of, Known}
use Rattle.readers.specs.declared.cursor.Encoding.{Encoding}
use Rattle.readers.specs.Lists.{list_base, list_start, from_base, list_offset}
use Rattle.readers.specs.Abbreviations.{number_spec, implicit_spec, spec_at, spec_turn, attributes_from, scanned_to, past_attributes, number_declaration, moved_declaration, head_at, whole_declaration, declaration_at, declaration_turn, declarations_from, declared_in, is_found, distinct, check_distinct, abbreviations_of, as_checked, checked_of, indexed, index_for, index_of, search_turn, found_by, search_at, declaration_found, find_at}
use Rattle.readers.specs.Entries.{attribute_of_reads, as_attribute, attribute_at, then, attributes_layout, specs_layout, as_past, values_at, found_layout, entry_layout, entry_found, step_of_reads, as_step, step_at}
use Rattle.readers.specs.Nesting.{opened, closed, top, nesting_of, nesting_opened, nesting_closed}
use Rattle.marking.specs.Addresses.{is_tombstone, byte_liveness, lookup_at}
use Rattle.marking.specs.Walking.{on_next, walk_within, walk}
use Rattle.marking.proofs.Walking.{Forward}
use Rattle.marking.specs.Roots.{or_else, on_lookup, turn_of, range_entry, range_step, ranges_live, operation_live, operation_step, location_live, older_step, older_live, range_pair, pair_step, pairs_live, offset_live, low_pc, low_pcs, locations, other_ranges, ranges_of, first_ranges, root_test, base_from, base_after}
use Rattle.readers.specs.EntryAttributes.{on_attribute, values_of, on_spec, specs_within, specs_from, entry_values, taken, taken_by, next_attribute}
use Rattle.marking.specs.EntryReferences.{after, and_then, targets, walk_found, expression_found, location_found, on_location, location_step, list_found, attribute_found, attributes_found}
use Rattle.marking.specs.Below.{any, every, count, tab}
use Rattle.marking.specs.Graph.{is_parent, is_root, references, names, parent_fits, pair_fits, root_fits, well_formed, takes}
use Rattle.marking.specs.Markings.{climbs, is_descendant, named_by, is_top, is_live, justified}
use Rattle.laws.specs.FiveEntries.{P1toP10, P1In, BytesIn, ByKeepLists}
use Rattle.laws.specs.Markings.{accepts, step, run, nothing}
use Rattle.marking.specs.Marks.{has, round, rounds, kept_of, mark_of, marks_of, is_kept, kept_count, mark_answer, end_marks}
use Rattle.readers.specs.Stream.{push as push'_stream, on_step, items_within, items_from}
use Rattle.marking.specs.Analysis.{onto, on_verdict, on_found, values_of_entry, ranges_for, test_of, root_of, after_list, header_by, names_of as names_of'_analysis, base_of, analyse_items, on_declared, unit_analysed, header_analysed, analysis_of}
use Rattle.marking.specs.Columns.{offsets_in, parents_in, roots_in, names_in as names_in'_columns, ends_in, pad_to, column}
use Rattle.marking.specs.Resolution.{entry_from, pair_for, pairs_of_entry, pairs_from, pairs_in, graph_of, marks_in, unit_marks, Ascending}
use Rattle.marking.specs.Inner.Resolution.{as_entry}
use Rattle.marking.specs.KeepList.{tags_in, is_treatment, each_treats, ascends, keep_refusal, treatment_in, treated}
use Rattle.rewriting.specs.Places.{innermost, with_if, kept_from, offset_of, size_of, places_from, size_from, new_of, first_from, or_else as or_else'_places, sibling_of}
use Rattle.rewriting.specs.Indices.{insert, insert_all, rank_in, index_in, indices_in, read_indices, declares, rank_or, count_of}
use Rattle.rewriting.specs.Emission.{header_bytes}
use Rattle.rewriting.specs.Rewriting.{items_in, reads_or, reads_at, indices_from, item_declares, any_declares, list_of, lists_of, or_self, is_some, list_at, new_value, has_place, piece_refusal, or_next, pieces_refusal, reads_refusal, refusal_from, bytes_from, unit_bytes, lists_fit, or_refused, rewrite_of, marks_collected, rows_collected, analysed_collected, declared_collected, header_collected, collect_of}
use Rattle.rewriting.specs.Written.{groups_fit, padded_answer, padded_out}

-- all of it computed at once
computed : P1toP10
    × P1In (encoding_of false 4 4 4) × P1In (encoding_of false 4 4 8)
    × P1In (encoding_of false 4 8 4) × P1In (encoding_of false 4 8 8)
    × P1In (encoding_of false 5 4 4) × P1In (encoding_of false 5 4 8)
    × P1In (encoding_of false 5 8 4) × P1In (encoding_of false 5 8 8)
    × P1In (encoding_of true 4 4 4) × P1In (encoding_of true 4 4 8)
    × P1In (encoding_of true 4 8 4) × P1In (encoding_of true 4 8 8)
    × P1In (encoding_of true 5 4 4) × P1In (encoding_of true 5 4 8)
    × P1In (encoding_of true 5 8 4) × P1In (encoding_of true 5 8 8)
    × BytesIn
    × ByKeepLists
unfolding groups_fit padded_answer padded_out pick ◌and◌ ◌or◌ check bind All below groups unsigned64 uleb negative signed64 sleb padded little_bytes little_value ordered fixed_bytes fixed_value as_bytes width kind_of as_leb string_in within16 short after_form forms_within forms_in copy as_number as_link as_bounded as_forms as_signed as_string as_block as_expression before number_in token_in read_in number_bytes piece_bytes bytes_of write_all patch_piece patch_pieces patch_read patch_all FitPiece FitPieces FitAll number_as token_of unreadable_row rows row_of row_layout operations row_among operation_row operation range_entries location_entries location_entries4 list_row push on_turn scan_within scan Goes all_pieces and_rest expression_within expression_in form_tokens token_among form_token use_of in_version value_token attribute_layout as_groups groups_at as_leb_number leb_at as_fixed fixed_at skip_at as_moved string_at as_form_number forms_at linked_value size field_of as_field row_of_reads as_row token_at field_at row_at number_field bounded_field block_field number_at part_of exprloc_at row_operation operation_of_reads as_operation operation_at list_entry row_entry entry_of_reads as_list_step list_entry_at name_in names_in is_absolute any_absolute as_walk walk_of named named_type reference_of counted own_walk yield_turn operation_turn walk_turn yielded next_reference names_of flat_operation flat_turn flat flattened flat_from walk_answer references_answer numbers_of names_or references_in answer_table references_table present right length_bytes encoding_of header_made fields4 fields5 header_fields header_in header_of list_base list_start from_base list_offset number_spec implicit_spec spec_at spec_turn attributes_from scanned_to past_attributes number_declaration moved_declaration head_at whole_declaration declaration_at declaration_turn declarations_from declared_in is_found distinct check_distinct abbreviations_of as_checked checked_of indexed index_for index_of search_turn found_by search_at declaration_found find_at attribute_of_reads as_attribute attribute_at then attributes_layout specs_layout as_past values_at found_layout entry_layout entry_found step_of_reads as_step step_at opened closed top nesting_of nesting_opened nesting_closed is_tombstone byte_liveness lookup_at on_next walk_within walk Forward or_else on_lookup turn_of range_entry range_step ranges_live operation_live operation_step location_live older_step older_live range_pair pair_step pairs_live offset_live low_pc on_attribute values_of on_spec specs_within specs_from entry_values taken taken_by next_attribute low_pcs locations other_ranges ranges_of first_ranges root_test base_from base_after after and_then targets walk_found expression_found location_found on_location location_step list_found attribute_found attributes_found any every count tab is_parent is_root references names parent_fits pair_fits root_fits well_formed takes climbs is_descendant named_by is_top is_live justified accepts step run nothing has round rounds kept_of mark_of marks_of is_kept kept_count mark_answer end_marks push'_stream on_step items_within items_from onto on_verdict on_found values_of_entry ranges_for test_of root_of treated tags_in treatment_in keep_refusal is_treatment each_treats ascends after_list header_by names_of'_analysis base_of analyse_items on_declared unit_analysed header_analysed analysis_of offsets_in parents_in roots_in names_in'_columns ends_in pad_to column entry_from pair_for pairs_of_entry pairs_from pairs_in graph_of marks_in unit_marks as_entry Ascending innermost with_if kept_from offset_of size_of places_from size_from new_of first_from or_else'_places sibling_of insert insert_all rank_in index_in indices_in read_indices declares rank_or count_of items_in reads_or reads_at indices_from item_declares any_declares list_of lists_of or_self is_some list_at new_value has_place fits piece_refusal or_next pieces_refusal reads_refusal refusal_from bytes_from header_bytes unit_bytes lists_fit or_refused rewrite_of marks_collected rows_collected analysed_collected declared_collected header_collected collect_of
computed = (
  (refl, refl, refl, refl, refl, refl, refl, (refl, refl, refl, refl), refl, (refl, refl, refl), refl),
  record { one = refl; four = refl; eight = refl; named = refl },
  record { one = refl; four = refl; eight = refl; named = refl },
  record { one = refl; four = refl; eight = refl; named = refl },
  record { one = refl; four = refl; eight = refl; named = refl },
  record { one = refl; four = refl; eight = refl; named = refl },
  record { one = refl; four = refl; eight = refl; named = refl },
  record { one = refl; four = refl; eight = refl; named = refl },
  record { one = refl; four = refl; eight = refl; named = refl },
  record { one = refl; four = refl; eight = refl; named = refl },
  record { one = refl; four = refl; eight = refl; named = refl },
  record { one = refl; four = refl; eight = refl; named = refl },
  record { one = refl; four = refl; eight = refl; named = refl },
  record { one = refl; four = refl; eight = refl; named = refl },
  record { one = refl; four = refl; eight = refl; named = refl },
  record { one = refl; four = refl; eight = refl; named = refl },
  record { one = refl; four = refl; eight = refl; named = refl },
  (refl, refl, refl, refl, refl, refl, refl, refl, refl, refl, refl, refl, refl, refl),
  (refl, refl, refl, refl, refl, refl, refl, refl, refl, refl, refl, refl, refl, refl, refl, refl, refl, refl, refl),
)

pub p1-to-p10 : P1toP10
p1-to-p10 = computed.0

-- the encodings that are read are these sixteen
known_is : (big : Bool) (e : Encoding) → Known big e → e ≡ encoding_of big e.version e.offset_size e.address_size
unfolding encoding_of
known_is big e k =
    ap (λ (b : Bool). record { version = e.version; offset_size = e.offset_size; address_size = e.address_size; big_endian = b }) k.order_is

abbrev BothSizes : Bool → ℕ → ℕ → Type 0
BothSizes big v w = P1In (encoding_of big v w 4) × P1In (encoding_of big v w 8)

each-order : (big : Bool) → (BothSizes big 4 4 × BothSizes big 4 8) × (BothSizes big 5 4 × BothSizes big 5 8)
each-order false = (((computed.1, computed.2), (computed.3, computed.4)), ((computed.5, computed.6), (computed.7, computed.8)))
each-order true = (((computed.9, computed.10), (computed.11, computed.12)), ((computed.13, computed.14), (computed.15, computed.16)))

-- the bytes of the five-entry unit in four encodings
pub bytes-in : BytesIn
bytes-in = computed.17

-- the five-entry unit with keep lists
pub by-keep-lists : ByKeepLists
by-keep-lists = computed.18

-- what holds at each of two numbers holds at one of them
at-either : (P : ℕ → Type 0) (a b n : ℕ) → (n ≡ a) ⊎ (n ≡ b) → P a → P b → P n
at-either P a b n is p q = ⊎_elim (λ z. subst P (sym z) p) (λ z. subst P (sym z) q) is

pub p1-in-every-encoding : (big : Bool) (e : Encoding) → Known big e → P1In e
p1-in-every-encoding big e k =
    subst P1In (sym (known_is big e k))
    (at-either (λ (a : ℕ). P1In (encoding_of big e.version e.offset_size a)) 4 8 e.address_size k.address_is sizes.0 sizes.1)
  where
    sizes : BothSizes big e.version e.offset_size
    sizes =
        at-either (BothSizes big e.version) 4 8 e.offset_size k.offset_is
        (at-either (λ (v : ℕ). BothSizes big v 4) 4 5 e.version k.version_is (each-order big).0.0 (each-order big).1.0)
        (at-either (λ (v : ℕ). BothSizes big v 8) 4 5 e.version k.version_is (each-order big).0.1 (each-order big).1.1)
