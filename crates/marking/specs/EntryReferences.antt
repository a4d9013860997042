-- The references of an entry (document 01, "References"; gc.rs: `scan_live_die_attrs`, `scan_loclist_for_refs`): every
-- one that its attributes hold, in attribute order, repeats and dangling ones included; 5 and 7 as they are met.
use Rattle.std.specs.Prelude.{ℕ, true, false, not, List, [], ◌∷◌, ◌++◌, length, leb, eqb, Bool, None, Option, Some}
use Rattle.readers.specs.Choice.{pick, ◌and◌, ◌or◌}
use Rattle.readers.specs.Codes.{DW_AT_location, DW_AT_sibling, DW_FORM_exprloc, DW_FORM_loclistx}
use Rattle.readers.specs.Codes.{DW_FORM_ref1, DW_FORM_ref_addr, DW_FORM_ref_udata, DW_FORM_sec_offset}
use Rattle.readers.specs.Codes.{DW_LLE_base_address, DW_LLE_base_addressx, DW_LLE_default_location}
unfoldable pub use Rattle.readers.specs.Fields.{part_of}
use Rattle.readers.specs.Steps.{list_entry_at}
use Rattle.readers.specs.Refusals.{refusal_of_walk, refusal_of_list, refusal_of_locations}
use Rattle.readers.specs.Lists.{list_offset, list_start}
use Rattle.readers.specs.References.{Named, walk_of, references_in}
use Rattle.readers.specs.declared.cursor.Encoding.{Encoding}
use Rattle.readers.specs.declared.cursor.Cursor.{Cursor}
use Rattle.readers.specs.declared.operations.ListStep.{ListStep}
use Rattle.readers.specs.declared.operations.ListEntry.{ListEntry}
use Rattle.readers.specs.declared.operations.ListStep.TheVariants.{Entry, End}
use Rattle.marking.specs.Walking.{Next, go, stop, walk}
use Rattle.readers.specs.EntryAttributes.{Valued}

-- the offsets that are named; on a refusal those named before it, and its number
pub data ReferencesFound : Type 0 where
  found : List ℕ → ReferencesFound
  refused : List ℕ → ℕ → ReferencesFound

-- what one finds, and then another: the first refusal counts
unfoldable pub after : List ℕ → ReferencesFound → ReferencesFound
after xs (found ys) = found (xs ++ ys)
after xs (refused ys n) = refused (xs ++ ys) n

unfoldable pub and_then : ReferencesFound → ReferencesFound → ReferencesFound
and_then (found xs) f = after xs f
and_then (refused xs n) f = refused xs n

-- ---- expressions: in one expression 5 goes before 7

unfoldable pub targets : List Named → List ℕ
targets [] = []
targets (r ∷ rs) = r.1 ∷ targets rs

unfoldable pub walk_found : List ℕ → Option (ℕ × Bool) → ReferencesFound
walk_found xs None = refused [] (refusal_of_walk None)
walk_found xs (Some (n, true)) = refused [] (refusal_of_walk (Some (n, true)))
walk_found xs (Some (n, false)) = found xs

unfoldable pub expression_found : Encoding → List ℕ → ReferencesFound
expression_found e s = walk_found (targets (references_in e s)) (walk_of e s)

-- ---- location lists, entry by entry: each expression is judged before the next entry is read

pub record ListReached : Type 0 where
  pub at : ℕ
  pub sofar : List ℕ

abbrev pub reached_at : ListReached → ℕ
reached_at p = p.at

-- 7.7.3: base_addressx 1 and base_address 6 have no expression, default_location 5 has it first, the others third
unfoldable pub location_found : Encoding → List ℕ → ListEntry → ReferencesFound
location_found e s x =
    pick (eqb x.kind DW_LLE_base_addressx or eqb x.kind DW_LLE_base_address) (found [])
    (expression_found e (part_of s (pick (eqb x.kind DW_LLE_default_location) x.first x.third)))

unfoldable pub on_location : List ℕ → ListEntry → ReferencesFound → Next ListReached ReferencesFound
on_location sofar x (found ys) = go (record { at = x.next.at; sofar = sofar ++ ys })
on_location sofar x (refused ys n) = stop (refused (sofar ++ ys) n)

unfoldable pub location_step : Encoding → List ℕ → List ℕ → Option ListStep → Next ListReached ReferencesFound
location_step e s sofar (Some (Entry x)) = on_location sofar x (location_found e s x)
location_step e s sofar (Some End) = stop (found sofar)
location_step e s sofar None = stop (refused sofar (refusal_of_list None))

-- an offset that can't be resolved is 5
unfoldable pub list_found : Encoding → List ℕ → Option Cursor → ReferencesFound
list_found e s (Some c) =
    walk reached_at (length s) (λ (p : ListReached). location_step e s p.sofar (list_entry_at e true s p.at)) (found []) (record { at = c.at; sofar = [] })
list_found e s None = refused [] (refusal_of_locations None)

-- ---- attributes

-- what a scan reads by: the unit, the location lists and their base
pub record Locations : Type 0 where
  pub unit : List ℕ
  pub locations : List ℕ
  pub loclists_base : ℕ

abbrev pub locations_by : List ℕ → List ℕ → ℕ → Locations
locations_by unit locations base = record { unit = unit; locations = locations; loclists_base = base }

module _ (e : Encoding) (x : Locations) where
  -- Sibling attributes name nothing. ref_addr is 7 where it is declared; behind indirect it is copied.
  -- ref1 to ref8 and ref_udata name their value, behind indirect too. exprloc by its expression.
  -- Location lists count only under DW_AT_location: loclistx, sec_offset.
  unfoldable pub attribute_found : Valued → ReferencesFound
  attribute_found a =
      pick (eqb a.name DW_AT_sibling) (found [])
      (pick (eqb a.declared DW_FORM_ref_addr) (refused [] 7)
      (pick (leb DW_FORM_ref1 a.value.form and leb a.value.form DW_FORM_ref_udata) (found (a.value.field.value ∷ []))
      (pick (eqb a.value.form DW_FORM_exprloc) (expression_found e (part_of x.unit a.value.field))
      (pick (not (eqb a.name DW_AT_location)) (found [])
      (pick (eqb a.value.form DW_FORM_loclistx) (list_found e x.locations (list_offset e x.locations x.loclists_base a.value.field.value))
      (pick (eqb a.value.form DW_FORM_sec_offset) (list_found e x.locations (list_start x.locations a.value.field.value))
      (found [])))))))

  -- THE references of an entry, by its attributes
  unfoldable pub attributes_found : List Valued → ReferencesFound
  attributes_found [] = found []
  attributes_found (a ∷ rest) = and_then (attribute_found a) (attributes_found rest)
