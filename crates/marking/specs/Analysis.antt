-- The analysis of a unit (document 01, "collect"; document 02, Points 5 and 10): 19 and 20 of the keep list, 1 and 2 of
-- the header, 3, then entry by entry 4 unreadable, 10 entry table full, 5, 6 or 17 of the root test, 5 or 7 of the
-- references in attribute order, 11 reference table full. "Full" is that the count up to and including the present entry
-- exceeds what is lent.
use Rattle.std.specs.Prelude.{ℕ, suc, ◌+◌, Bool, true, false, List, [], ◌∷◌, length, take, ltb, leb, eqb, Err, None, Ok, Option, Result, Some}
use Rattle.readers.specs.declared.header.UnitHeader.{UnitHeader}
use Rattle.readers.specs.Choice.{pick}
use Rattle.readers.specs.Codes.{DW_AT_loclists_base, DW_AT_rnglists_base}
use Rattle.readers.specs.Header.{header_of}
use Rattle.readers.specs.Lists.{list_base}
use Rattle.readers.specs.Abbreviations.{Placed, declared_in, abbreviations_of}
use Rattle.readers.specs.Refusals.{refusal_of_checked, refusal_of_step}
use Rattle.readers.specs.Nesting.{opened, closed, top}
use Rattle.readers.specs.declared.cursor.Encoding.{Encoding}
use Rattle.readers.specs.declared.entries.Entry.{Entry}
use Rattle.marking.specs.Roots.{ranges_by, root_test, base_after}
use Rattle.marking.specs.KeepList.{KeepList, keep_refusal, treatment_of, treated}
use Rattle.readers.specs.EntryAttributes.{Valued, entry_values}
use Rattle.marking.specs.EntryReferences.{ReferencesFound, found, refused as refused_after, locations_by, attributes_found}
use Rattle.marking.specs.declared.addresses.Verdict.{Verdict}
use Rattle.marking.specs.declared.setting.Setting.{Setting}
use Rattle.marking.specs.declared.addresses.Verdict.TheVariants.{Live, Dead}
use Rattle.readers.specs.Stream.{Item, entry, terminator, items_from}

-- what a unit is read by: the other sections, already relocated, the address table, .debug_ranges, a keep list, and what a
-- call tells beside them: the base of range lists that are named by an offset, the byte order, and whether fixed addresses
-- count
pub record Sections : Type 0 where
  pub abbreviations : List ℕ
  pub locations : List ℕ
  pub ranges : List ℕ
  pub addresses : List ℕ
  pub debug_ranges : List ℕ
  pub keep : KeepList
  pub setting : Setting

abbrev pub sections : List ℕ → List ℕ → List ℕ → List ℕ → List ℕ → KeepList → Setting → Sections
sections a l r t o k s =
    record { abbreviations = a; locations = l; ranges = r; addresses = t; debug_ranges = o; keep = k; setting = s }

-- the one section that range lists are read in, by the unit's version: .debug_ranges in version 4, else.debug_rnglists
-- (document 02, Point 4)
unfoldable pub ranges_for : Encoding → List ℕ → List ℕ → List ℕ
ranges_for e rnglists debug_ranges = pick (eqb e.version 4) debug_ranges rnglists

-- how many entries and references the tables have room for
pub record Rooms : Type 0 where
  pub entries : ℕ
  pub references : ℕ

abbrev pub rooms : ℕ → ℕ → Rooms
rooms n m = record { entries = n; references = m }

-- what is found of an entry: where it starts, its parent or no_parent, 1 for a root or 0, and the offsets that it names
pub record EntryRow : Type 0 where
  pub offset : ℕ
  pub parent : ℕ
  pub root : ℕ
  pub names : List ℕ

pub data Analysed : Type 0 where
  analysed : List EntryRow → Analysed
  refused : ℕ → Analysed

unfoldable pub onto : EntryRow → Analysed → Analysed
onto r (analysed rs) = analysed (r ∷ rs)
onto r (refused n) = refused n

unfoldable pub on_verdict : Result Verdict ℕ → (ℕ → Analysed) → Analysed
on_verdict (Ok Live) k = k 1
on_verdict (Ok Dead) k = k 0
on_verdict (Err n) k = refused n

unfoldable pub on_found : ReferencesFound → (List ℕ → Analysed) → Analysed
on_found (found xs) k = k xs
on_found (refused_after xs n) k = refused n

-- where an analysis stands: how many entries and references there were, which entries are open (the innermost first),
-- and the list bases
pub record Reached : Type 0 where
  pub count : ℕ
  pub references : ℕ
  pub stack : List ℕ
  pub rnglists_base : ℕ
  pub loclists_base : ℕ

abbrev pub reached : ℕ → ℕ → List ℕ → ℕ → ℕ → Reached
reached n m stack rb lb = record { count = n; references = m; stack = stack; rnglists_base = rb; loclists_base = lb }

abbrev pub start_of : Encoding → Reached
start_of e = reached 0 0 [] (list_base e) (list_base e)

abbrev pub tag_of : Entry → ℕ
tag_of x = x.declaration.tag

module _ (e : Encoding) (x : Sections) (unit : List ℕ) where
  unfoldable pub values_of_entry : Entry → List Valued
  values_of_entry y = entry_values e x.abbreviations y.declaration.attributes.at unit y.values.at

  -- the root test of an entry; DW_AT_rnglists_base, DW_AT_loclists_base: from this entry's root test on
  unfoldable pub test_of : ℕ → Entry → Result Verdict ℕ
  test_of base y =
      let ranges = ranges_for e x.ranges x.debug_ranges in
      let lists = ranges_by ranges x.addresses x.setting.ranges_base base in
      root_test e lists x.setting.fixed_addresses unit (tag_of y) (values_of_entry y)

  -- whether an entry is a root: by its root test and the treatment of its tag
  unfoldable pub root_of : ℕ → Entry → Result Verdict ℕ
  root_of base y = treated (treatment_of x.keep (tag_of y)) (test_of base y)

  unfoldable pub names_of : ℕ → Entry → ReferencesFound
  names_of base y = attributes_found e (locations_by unit x.locations base) (values_of_entry y)

  unfoldable pub base_of : ℕ → ℕ → Entry → ℕ
  base_of name base y = base_after name base (tag_of y) (values_of_entry y)

  module _ (room : Rooms) where
    -- THE analysis of the items of a unit
    unfoldable pub analyse_items : Reached → List Item → Bool → Analysed
    analyse_items p [] true = analysed []
    analyse_items p [] false = refused (refusal_of_step None)
    analyse_items p (terminator a b ∷ rest) whole =
        analyse_items
        (reached p.count p.references (closed p.stack) p.rnglists_base p.loclists_base)
        rest whole
    analyse_items p (entry y ∷ rest) whole =
        pick (ltb p.count room.entries)
        (on_verdict (root_of (base_of DW_AT_rnglists_base p.rnglists_base y) y) (λ root.
        on_found (names_of (base_of DW_AT_loclists_base p.loclists_base y) y) (λ names.
        pick (leb (p.references + length names) room.references)
        (onto (record { offset = y.offset.0; parent = top p.stack; root = root; names = names })
        (analyse_items
        (reached (suc p.count) (p.references + length names)
        (opened y.declaration.children p.count p.stack)
        (base_of DW_AT_rnglists_base p.rnglists_base y) (base_of DW_AT_loclists_base p.loclists_base y))
        rest whole))
        (refused 11))))
        (refused 10)

-- ---- the first unit of a section

unfoldable pub on_declared : Option (List Placed) → (List Placed → Analysed) → Analysed
on_declared None k = refused (refusal_of_checked (Err 3))
on_declared (Some ds) k = k ds

-- a unit by what its header says: how it is read, where its declarations start and where its first entry does
unfoldable pub unit_analysed : Encoding → Sections → List ℕ → Rooms → ℕ → ℕ → Analysed
unit_analysed e x unit room from first =
    on_declared (abbreviations_of x.abbreviations from)
    (λ ds.
    let items = items_from e x.abbreviations (declared_in ds) unit first in
    analyse_items e x unit room (start_of e) items.0 items.1)

-- the header once a keep list was judged, by the list's refusal or 0: "both before 1", whatever the section holds
unfoldable pub after_list : ℕ → Result (Option UnitHeader) ℕ → Result (Option UnitHeader) ℕ
after_list n r = pick (eqb n 0) r (Err n)

unfoldable pub header_by : Sections → List ℕ → Result (Option UnitHeader) ℕ
header_by x section = after_list (keep_refusal x.keep) (header_of x.setting.big_endian section)

-- an empty section has no entries; 19 and 20 of the keep list, 1 and 2 of the header, then 3
unfoldable pub header_analysed : Sections → List ℕ → Rooms → Result (Option UnitHeader) ℕ → Analysed
header_analysed x section room (Ok None) = analysed []
header_analysed x section room (Err n) = refused n
header_analysed x section room (Ok (Some h)) =
    unit_analysed h.encoding x (take h.end section) room h.abbreviations h.first.0

-- THE analysis of the first unit of a section
unfoldable pub analysis_of : Sections → List ℕ → Rooms → Analysed
analysis_of x section room = header_analysed x section room (header_by x section)
