-- A unit as the code reads it, and as `collect` is defined: the same items, what is kept of them, the parents column and the map. Assumes nothing.
use mathlib.Core.Path.{◌≡◌, ap}
use Prim.Native.Nat.{ℕ, ◌*◌, ◌≤◌}
use mathlib.Core.List.{List, []}
use Rattle.std.specs.Prelude.{Some}
use lib.ListN.{length}
use Rattle.readers.specs.Choice.{zeros}
use Rattle.readers.specs.Abbreviations.{Placed, declared_in, abbreviations_of, index_of, find_at}
use Rattle.readers.specs.Stream.{Item, Items, items_from}
use Rattle.readers.specs.declared.cursor.Encoding.{Encoding}
use Rattle.readers.proofs.Declarations.{find-plain}
use Rattle.readers.proofs.Streams.{items-look}
use Rattle.marking.specs.Analysis.{Sections}
use Rattle.rewriting.specs.Places.{places_from}
use Rattle.rewriting.specs.Written.{place_size}
use Rattle.rewriting.specs.Inner.Written.{MapHeld}
use Rattle.rewriting.specs.Rewriting.{Unit as Unit'}
use Rattle.rewriting.specs.Inner.NextKept.{items_by}
use Rattle.rewriting.specs.Inner.Measures.{ColumnsHeld, kept_of_unit}
use Rattle.rewriting.specs.Inner.MapFilled.{Fills}
use Rattle.rewriting.specs.declared.kept_items.Reading.{Reading}
use Rattle.rewriting.proofs.MapPass.Ascending.{items-ascending, olds-ascending}

abbrev pub reading : ℕ → Encoding → Reading
reading from e = record { from = from; encoding = e }

-- by an index of any length
pub items-read : (from : ℕ) (e : Encoding) (abbreviations unit : List ℕ) (n : ℕ) (ds : List Placed) → abbreviations_of abbreviations from ≡ Some ds → (at : ℕ)
    → items_by (reading from e) abbreviations (index_of abbreviations from n) unit at ≡ (items_from e abbreviations (declared_in ds) unit at).0
items-read from e abbreviations unit n ds h at =
    ap (λ (i : Items). i.0) (items-look e abbreviations (find_at abbreviations from (index_of abbreviations from n)) (declared_in ds) (find-plain abbreviations from n ds h) unit at)

module _ (x : Sections) (u : Unit') (from n : ℕ) (h : abbreviations_of x.abbreviations from ≡ Some u.declared) where
  abbrev pub read : ℕ → List Item
  read = items_by (reading from u.header.encoding) x.abbreviations (index_of x.abbreviations from n) u.bytes

-- a map that was filled can be searched
pub map-held : (r : Reading) (abbreviations index unit parents ends marks : List ℕ) (first : ℕ) (before after : List ℕ)
    → Fills (items_by r abbreviations index unit) unit parents ends marks first before after → ColumnsHeld (items_by r abbreviations index unit) parents ends first
    → place_size * length (kept_of_unit (items_by r abbreviations index unit) marks first) ≤ length before → before ≡ zeros (length before)
    → MapHeld (places_from first (kept_of_unit (items_by r abbreviations index unit) marks first)) after
map-held r abbreviations index unit parents ends marks first before after f h m z =
    record {
      held = f.holds h m z;
      ascending = olds-ascending marks 0 first [] (items_by r abbreviations index unit first) (items-ascending r.encoding abbreviations (find_at abbreviations r.from index) unit first);
    }
