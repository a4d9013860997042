-- A location list's references, one entry at a time: what is found from a place on, by what is read there. Assumes nothing.
use mathlib.Core.Path.{◌≡◌, refl, ap, sym, ◌∙◌}
use Prim.Native.Nat.{ℕ, ◌-◌, ◌≤◌, ◌<◌}
use native.Mathlib.Omega.{arith}
use mathlib.Core.List.{List, [], ◌++◌}
use mathlib.Core.Bool.{true}
use lib.ListN.{length}
use Rattle.readers.specs.Steps.{list_entry_at}
use Rattle.readers.proofs.Steps.{entry-inside}
use Rattle.readers.specs.declared.cursor.Encoding.{Encoding}
use Rattle.readers.specs.declared.cursor.Cursor.{Cursor}
use Rattle.std.specs.Prelude.{None, Option, Some, Err, Ok, Result}
use Rattle.readers.specs.declared.operations.ListStep.{ListStep}
use Rattle.readers.specs.declared.operations.ListEntry.{ListEntry}
use Rattle.readers.specs.declared.operations.ListStep.TheVariants.{Entry, End}
use Rattle.marking.specs.Walking.{Next, on_next, walk}
use Rattle.marking.proofs.Walking.{Forward, walk_step}
use Rattle.marking.specs.EntryReferences.{ReferencesFound, found, refused, ListReached, reached_at, location_found, on_location, location_step, list_found}
use Rattle.marking.specs.ReferenceTable.{written}
use Rattle.marking.proofs.Placing.{Put, put-none, put-size}
use Rattle.marking.proofs.Founds.{Scans, scans-same, scans-put, scans-refused, scans-no, Onto, onto, Broken, broken}

module _ (e : Encoding) (s : List ℕ) where
  abbrev turn : ListReached → Next ListReached ReferencesFound
  turn p = location_step e s p.sofar (list_entry_at e true s p.at)

  -- what is found from a place on, after what is found already
  unfoldable pub list_from : ℕ → List ℕ → ReferencesFound
  list_from at sofar = walk reached_at (length s) turn (found []) (record { at = at; sofar = sofar })

  pub list-start : (c : Cursor) → list_found e s (Some c) ≡ list_from c.at []
  unfolding list_found list_from
  list-start c = refl

  found-forward : (p : ListReached) (x : ListEntry) (f : ReferencesFound) → p.at < x.next.at → x.next.at ≤ length s → Forward reached_at (length s) p (on_location p.sofar x f)
  unfolding on_location Forward
  found-forward p x (found ys) lo hi = (lo, hi)
  found-forward p x (refused ys n) lo hi = tt

  list-forward : (p : ListReached) (o : Option ListStep) → list_entry_at e true s p.at ≡ o → Forward reached_at (length s) p (location_step e s p.sofar o)
  unfolding location_step Forward
  list-forward p (Some (Entry x)) q = found-forward p x (location_found e s x) (entry-inside e true s p.at x q).0 (entry-inside e true s p.at x q).1
  list-forward p (Some End) q = tt
  list-forward p None q = tt

  module _ (at : ℕ) (sofar : List ℕ) (o : Option ListStep) (q : o ≡ list_entry_at e true s at) where
    list-turn : list_from at sofar ≡ on_next (location_step e s sofar o) (walk reached_at (length s) turn (found []))
    unfolding list_from
    list-turn =
        walk_step reached_at (length s) turn (found []) (λ p. list-forward p (list_entry_at e true s p.at) refl) (record { at = at; sofar = sofar })
        ∙ ap (λ (w : Option ListStep). on_next (location_step e s sofar w) (walk reached_at (length s) turn (found []))) (sym q)

    list-end : o ≡ Some End → list_from at sofar ≡ found sofar
    unfolding on_next location_step
    list-end r = list-turn ∙ rw r

    list-none : o ≡ None → list_from at sofar ≡ refused sofar 5
    unfolding on_next location_step
    list-none r = list-turn ∙ rw r

    module _ (x : ListEntry) (r : o ≡ Some (Entry x)) where
      pub list-less : length s - x.next.at < length s - at
      list-less = omega (arith, (entry-inside e true s at x (sym q ∙ r)).0, (entry-inside e true s at x (sym q ∙ r)).1)

      list_on : (ys : List ℕ) → location_found e s x ≡ found ys → list_from at sofar ≡ list_from x.next.at (sofar ++ ys)
      unfolding list_from on_next location_step on_location
      list_on ys k = list-turn ∙ rw (r, k)

      list-refused : (ys : List ℕ) (n : ℕ) → location_found e s x ≡ refused ys n → list_from at sofar ≡ refused (sofar ++ ys) n
      unfolding on_next location_step on_location
      list-refused ys n k = list-turn ∙ rw (r, k)

-- ---- the loop: what is in the table, and what is found from here on

pub record Listing (e : Encoding) (s table₀ : List ℕ) (start at : ℕ) (table : List ℕ) (from to : ℕ) : Type 0 where
  pub sofar : List ℕ
  pub put : Put table₀ at sofar table to
  pub whole : list_from e s start [] ≡ list_from e s from sofar

module _ (e : Encoding) (s table₀ : List ℕ) (at : ℕ) where
  pub listing_start : (start : ℕ) → Listing e s table₀ start at table₀ start at
  listing_start start = record { sofar = []; put = put-none table₀ at; whole = refl }

  pub listing-size : (start : ℕ) (table : List ℕ) (from to : ℕ) → Listing e s table₀ start at table from to → length table ≡ length table₀
  listing-size start table from to h = put-size table₀ at h.sofar table to h.put

  module _ (c : Cursor) (table : List ℕ) (from to : ℕ) (h : Listing e s table₀ c.at at table from to) (o : Option ListStep) (q : o ≡ list_entry_at e true s from) where
    whole_from : list_found e s (Some c) ≡ list_from e s from h.sofar
    whole_from = list-start e s c ∙ h.whole

    pub listing-end : o ≡ Some End → Scans table₀ at (list_found e s (Some c)) (Ok to) table
    listing-end r = scans-put table₀ at (list_found e s (Some c)) h.sofar table to (whole_from ∙ list-end e s from h.sofar o q r) h.put

    pub listing_none : o ≡ None → Scans table₀ at (list_found e s (Some c)) (Err 5) table
    listing_none r = scans-refused table₀ at (list_found e s (Some c)) h.sofar table 5 (whole_from ∙ list-none e s from h.sofar o q r) h.put.numbers

    module _ (x : ListEntry) (r : o ≡ Some (Entry x)) (w : Result ℕ ℕ) (table' : List ℕ) (k : Scans table to (location_found e s x) w table') where
      pub listing-refused : (n : ℕ) → w ≡ Err n → Scans table₀ at (list_found e s (Some c)) (Err n) table'
      unfolding Broken
      listing-refused n p =
          let b : (ys : List ℕ) × (location_found e s x ≡ refused ys n) × (table' ≡ written table₀ at (h.sofar ++ ys)) =
          broken table₀ at h.sofar table to h.put w table' (location_found e s x) k n p in
          scans-refused table₀ at (list_found e s (Some c)) (h.sofar ++ b.0) table' n (whole_from ∙ list-refused e s from h.sofar o q x r b.0 n b.1) b.2

      pub listing-on : (to' : ℕ) → w ≡ Ok to' → Listing e s table₀ c.at at table' x.next.at to'
      unfolding Onto
      listing-on to' p =
          let b : (ys : List ℕ) × (location_found e s x ≡ found ys) × Put table₀ at (h.sofar ++ ys) table' to' =
          onto table₀ at h.sofar table to h.put w table' (location_found e s x) k to' p in
          record { sofar = h.sofar ++ b.0; put = b.2; whole = h.whole ∙ list_on e s from h.sofar o q x r b.0 b.1 }

-- ---- a list that may not be resolved

module _ (e : Encoding) (s table : List ℕ) (at : ℕ) (start : Option Cursor) where
  pub list_at_lem : (c : Cursor) → start ≡ Some c → (w : Result ℕ ℕ) (table' : List ℕ) → Scans table at (list_found e s (Some c)) w table' → Scans table at (list_found e s start) w table'
  list_at_lem c p w table' h = scans-same table at (list_found e s start) (list_found e s (Some c)) (ap (list_found e s) p) w table' h

  pub list-unresolved : start ≡ None → Scans table at (list_found e s start) (Err 5) table
  unfolding list_found
  list-unresolved p = scans-no table at (list_found e s start) 5 (ap (list_found e s) p)
