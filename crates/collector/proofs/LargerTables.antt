-- Larger tables change no answer but 10 and 11. Assumes nothing.
use mathlib.Core.Path.{◌≡◌, refl, ap, ◌∙◌}
use Prim.Native.Nat.{ℕ, suc, ◌+◌, ◌≤◌, ◌<◌}
use native.Mathlib.Omega.{arith}
use mathlib.Core.Bool.{Bool, true, false}
use mathlib.Core.List.{List, [], ◌∷◌}
use mathlib.Core.Logic.{◌⊎◌, inl, inr, ⊎_elim}
use Rattle.std.specs.Prelude.{Err, None, Ok, Option, Result, Some}
use lib.ListN.{length, take}
use lib.Dec.{T, ltb, leb}
use mir.Facts.{ltb_yes, leb_yes, yes_ltb, yes_leb}
use Rattle.readers.specs.Choice.{pick}
use Rattle.readers.specs.Codes.{DW_AT_loclists_base, DW_AT_rnglists_base}
use Rattle.readers.specs.Abbreviations.{Placed, declared_in, abbreviations_of}
use Rattle.readers.specs.Nesting.{opened, closed, top}
use Rattle.readers.specs.Stream.{Item, entry, terminator, items_from}
use Rattle.readers.specs.declared.cursor.Encoding.{Encoding}
use Rattle.readers.specs.declared.header.UnitHeader.{UnitHeader}
use Rattle.marking.specs.EntryReferences.{ReferencesFound, found, refused as refused_after}
use Rattle.marking.specs.declared.addresses.Verdict.{Verdict}
use Rattle.marking.specs.declared.addresses.Verdict.TheVariants.{Live, Dead}
use Rattle.marking.specs.Analysis.{Sections, Rooms, EntryRow, Analysed, analysed, refused as not_analysed, onto, on_verdict, on_found, Reached, reached, start_of, root_of, names_of, base_of, analyse_items, on_declared, unit_analysed, header_analysed, analysis_of, header_by}
use Rattle.rewriting.specs.Rewriting.{Unit as Unit', unit_of, Collected, refused, lists_fit, or_refused, rewrite_of, marks_collected, rows_collected, analysed_collected, declared_collected, header_collected, collect_of}
use Rattle.rewriting.specs.Outputs.{room_by}

-- ---- an analysis

-- a verdict and what is found are the same for both
pub both-verdict : (Q : Analysed → Analysed → Type 0) (v : Result Verdict ℕ) (k j : ℕ → Analysed) → ((root : ℕ) → Q (k root) (j root)) → ((n : ℕ) → Q (not_analysed n) (not_analysed n)) → Q (on_verdict v k) (on_verdict v j)
unfolding on_verdict
both-verdict Q (Ok Live) k j h z = h 1
both-verdict Q (Ok Dead) k j h z = h 0
both-verdict Q (Err n) k j h z = z n

pub both_found : (Q : Analysed → Analysed → Type 0) (f : ReferencesFound) (k j : List ℕ → Analysed) → ((names : List ℕ) → Q (k names) (j names)) → ((n : ℕ) → Q (not_analysed n) (not_analysed n)) → Q (on_found f k) (on_found f j)
unfolding on_found
both_found Q (found xs) k j h z = h xs
both_found Q (refused_after xs n) k j h z = z n

abbrev IsFull : ℕ → Type 0
IsFull n = (n ≡ 10) ⊎ (n ≡ 11)

-- the one is the other, or a table is full
abbrev AnalysedOrFull : Analysed → Analysed → Type 0
AnalysedOrFull a b = (a ≡ b) ⊎ ((a ≡ not_analysed 10) ⊎ (a ≡ not_analysed 11))

-- the same of answers
abbrev pub OrFull : Collected → Collected → Type 0
OrFull c d = (c ≡ d) ⊎ ((c ≡ refused 10) ⊎ (c ≡ refused 11))

full : (n : ℕ) (b : Analysed) → IsFull n → AnalysedOrFull (not_analysed n) b
full n b h = inr (⊎_elim (λ e. inl (ap not_analysed e)) (λ e. inr (ap not_analysed e)) h)

onto-full : (r : EntryRow) (a b : Analysed) → AnalysedOrFull a b → AnalysedOrFull (onto r a) (onto r b)
unfolding onto
onto-full r a b h =
    ⊎_elim (λ e. inl (ap (onto r) e)) (λ f. inr (⊎_elim (λ e. inl (ap (onto r) e)) (λ e. inr (ap (onto r) e)) f)) h

-- a test of room that holds of the larger table where it does of the smaller
pick-full : (b c : Bool) (n : ℕ) (s l : Analysed) → (T b → T c) → IsFull n → AnalysedOrFull s l → AnalysedOrFull (pick b s (not_analysed n)) (pick c l (not_analysed n))
unfolding pick
pick-full true true n s l h f o = o
pick-full true false n s l h f o = absurd (h tt)
pick-full false true n s l h f o = full n l f
pick-full false false n s l h f o = inl refl

module _ (x : Sections) (small large : Rooms) (entries : small.entries ≤ large.entries) (references : small.references ≤ large.references) where
  more-entries : (n : ℕ) → T (ltb n small.entries) → T (ltb n large.entries)
  more-entries n t = let h : n < small.entries = ltb_yes t in yes_ltb (let l : n < large.entries = omega arith in l)

  more-references : (n : ℕ) → T (leb n small.references) → T (leb n large.references)
  more-references n t = let h : n ≤ small.references = leb_yes t in yes_leb (let l : n ≤ large.references = omega arith in l)

  module _ (e : Encoding) (unit : List ℕ) where
    items-full : (p : Reached) (items : List Item) (whole : Bool) → AnalysedOrFull (analyse_items e x unit small p items whole) (analyse_items e x unit large p items whole)
    unfolding analyse_items
    items-full p [] true = inl refl
    items-full p [] false = inl refl
    items-full p (terminator a b ∷ rest) whole = items-full (reached p.count p.references (closed p.stack) p.rnglists_base p.loclists_base) rest whole
    items-full p (entry y ∷ rest) whole =
        let rb : ℕ = base_of e x unit DW_AT_rnglists_base p.rnglists_base y in
        let lb : ℕ = base_of e x unit DW_AT_loclists_base p.loclists_base y in
        pick-full (ltb p.count small.entries) (ltb p.count large.entries) 10 _ _ (more-entries p.count) (inl refl)
        (both-verdict AnalysedOrFull (root_of e x unit rb y) _ _
        (λ root. both_found AnalysedOrFull (names_of e x unit lb y) _ _
        (λ names.
        pick-full (leb (p.references + length names) small.references) (leb (p.references + length names) large.references) 11 _ _
        (more-references (p.references + length names)) (inr refl)
        (onto-full (record { offset = y.offset.0; parent = top p.stack; root = root; names = names }) _ _
        (items-full (reached (suc p.count) (p.references + length names) (opened y.declaration.children p.count p.stack) rb lb) rest whole)))
        (λ n. inl refl))
        (λ n. inl refl))

    declared-full : (first : ℕ) (o : Option (List Placed))
        → AnalysedOrFull (on_declared o (λ ds. analyse_items e x unit small (start_of e) (items_from e x.abbreviations (declared_in ds) unit first).0 (items_from e x.abbreviations (declared_in ds) unit first).1))
        (on_declared o (λ ds. analyse_items e x unit large (start_of e) (items_from e x.abbreviations (declared_in ds) unit first).0 (items_from e x.abbreviations (declared_in ds) unit first).1))
    unfolding on_declared
    declared-full first None = inl refl
    declared-full first (Some ds) = items-full (start_of e) (items_from e x.abbreviations (declared_in ds) unit first).0 (items_from e x.abbreviations (declared_in ds) unit first).1

  header-full : (section : List ℕ) (o : Result (Option UnitHeader) ℕ) → AnalysedOrFull (header_analysed x section small o) (header_analysed x section large o)
  unfolding header_analysed unit_analysed
  header-full section (Ok None) = inl refl
  header-full section (Err n) = inl refl
  header-full section (Ok (Some h)) = declared-full h.encoding (take h.end section) h.first.0 (abbreviations_of x.abbreviations h.abbreviations)

  analysis-full : (section : List ℕ) → AnalysedOrFull (analysis_of x section small) (analysis_of x section large)
  unfolding analysis_of
  analysis-full section = header-full section (header_by x section)

  -- ---- an answer

  module _ (map ranges locations strings out : ℕ) (type_units : Bool) where
    -- what comes after the analysis asks nothing of the tables
    abbrev after : Rooms → Unit' → Analysed → Collected
    after t u a = analysed_collected x (room_by t map ranges locations strings out) type_units u a

    same_after : (u : Unit') (a : Analysed) → after small u a ≡ after large u a
    unfolding analysed_collected rows_collected marks_collected rewrite_of or_refused lists_fit
    same_after u (analysed []) = refl
    same_after u (analysed (r ∷ rows)) = refl
    same_after u (not_analysed n) = refl

    after-full : (u : Unit') (a b : Analysed) → AnalysedOrFull a b → OrFull (after small u a) (after large u b)
    unfolding analysed_collected
    after-full u a b h =
        ⊎_elim (λ e. inl (ap (after small u) e ∙ same_after u b)) (λ f. inr (⊎_elim (λ e. inl (ap (after small u) e)) (λ e. inr (ap (after small u) e)) f)) h

    unit-full : (section : List ℕ) (h : UnitHeader) (o : Option (List Placed))
        → OrFull (declared_collected x (room_by small map ranges locations strings out) type_units section h o) (declared_collected x (room_by large map ranges locations strings out) type_units section h o)
    unfolding declared_collected
    unit-full section h None = inl refl
    unit-full section h (Some ds) = after-full (unit_of h section ds) (analysis_of x section small) (analysis_of x section large) (analysis-full section)

    by-header : (section : List ℕ) (o : Result (Option UnitHeader) ℕ)
        → OrFull (header_collected x (room_by small map ranges locations strings out) type_units section o) (header_collected x (room_by large map ranges locations strings out) type_units section o)
    unfolding header_collected
    by-header section (Ok None) = inl refl
    by-header section (Err n) = inl refl
    by-header section (Ok (Some h)) = unit-full section h (abbreviations_of x.abbreviations h.abbreviations)

    -- THE law of larger tables
    pub larger-tables : (section : List ℕ)
        → OrFull (collect_of x (room_by small map ranges locations strings out) type_units section) (collect_of x (room_by large map ranges locations strings out) type_units section)
    unfolding collect_of
    larger-tables section = by-header section (header_by x section)
