-- What stands behind a failure of the address table is not read: of several failures the first that is met decides, and no later refusal
-- comes before it (document 02, Point 5: "at 6's place"). Assumes nothing.
use mathlib.Core.Path.{◌≡◌, refl, ap, sym, ◌∙◌, subst}
use Prim.Native.Nat.{ℕ, zero, suc, ◌+◌, ◌≤◌, ◌<◌}
use native.Mathlib.Omega.{arith}
use mathlib.Core.Bool.{Bool, true, false}
use mathlib.Core.List.{List, [], ◌∷◌, ◌++◌, append_assoc}
use mathlib.Core.Logic.{◌⊎◌, inl, inr, ⊎_elim}
use Rattle.std.specs.Prelude.{None, Option, Some, Err, Ok, Result}
use Rattle.readers.specs.declared.cursor.Cursor.{Cursor}
use Rattle.readers.specs.declared.operations.ListStep.{ListStep}
use lib.ListN.{length, take, drop, length-append, take-append-drop}
use lib.Seq.{drop-append-le}
use lib.Dec.{T, ltb, leb, eqb}
use mir.Facts.{ltb_yes, yes_ltb}
use Rattle.readers.specs.Choice.{pick, ◌and◌, ◌or◌}
use Rattle.readers.specs.Codes.{DW_AT_location, DW_AT_low_pc, DW_FORM_exprloc}
use Rattle.readers.specs.EntryAttributes.{Valued}
use Rattle.readers.specs.Fields.{part_of}
use Rattle.readers.specs.Stream.{Item, entry, terminator}
use Rattle.readers.proofs.Choice.{All, either, pick_yes, pick_no}
use Rattle.readers.specs.Layout.{Layout, RunOf, as_bytes, read_in, write_all}
use Rattle.readers.proofs.LayoutLaws.{ReadLaw, read-law, as-bytes-law}
use Rattle.readers.specs.Operations.{operation}
use Rattle.readers.specs.Steps.{list_entry}
use Rattle.readers.specs.Steps.{as_operation, operation_at, as_list_step, list_entry_at}
use Rattle.readers.proofs.Steps.{operation-stepped, entry-entered}
use Rattle.readers.specs.declared.cursor.Encoding.{Encoding}
use Rattle.readers.specs.declared.operations.Operation.{Operation}
use Rattle.readers.specs.declared.operations.ListEntry.{ListEntry}
use Rattle.readers.specs.declared.operations.ListStep.TheVariants.{Entry, End}
use Rattle.marking.specs.declared.addresses.Verdict.{Verdict}
use Rattle.marking.specs.declared.addresses.Verdict.TheVariants.{Live, Dead}
use Rattle.marking.specs.Walking.{go, stop, on_next, walk_within, walk}
use Rattle.marking.specs.EntryReferences.{ReferencesFound, found, refused as refused_after}
use Rattle.marking.specs.Roots.{Flagged, RootTurn, or_else, range_step, ranges_live, operation_step, location_live}
use Rattle.marking.specs.Roots.{low_pc, low_pcs, locations}
use Rattle.marking.specs.Analysis.{Sections, Rooms, EntryRow, Analysed, analysed, refused as not_analysed, onto, on_verdict, on_found}
use Rattle.marking.specs.Analysis.{Reached, analyse_items}
use Rattle.laws.specs.RefusalNumbers.{OneOf, table_numbers}
use Rattle.laws.proofs.Refusals.ReaderRefusals.{is_one_of, not-one-of}
use Rattle.laws.proofs.Tables.FromLookups.{live-no-refusal, dead-no-refusal, rows-no-refusal}

-- ---- what is read of a slice is read so of a longer one

-- a run with the same reads
record SameReads (r : RunOf) (o : Option RunOf) : Type 0 where
  pub rest : List ℕ
  pub is : o ≡ Some (r.0, rest)

read-longer : (big : Bool) (g : Layout) (s more : List ℕ) (r : RunOf) → read_in big as_bytes g s ≡ Some r
    → SameReads r (read_in big as_bytes g (s ++ more))
unfolding All
read-longer big g s more r q =
    let law : ReadLaw big as_bytes g s r = subst (All (ReadLaw big as_bytes g s)) q (read-law big as_bytes (as-bytes-law big) g s) in
    let n : ℕ = length (write_all big r.0) in
    record {
      rest = drop n s ++ more;
      is = ap (read_in big as_bytes g) (ap (λ (x : List ℕ). x ++ more) (sym (take-append-drop n s)) ∙ append_assoc (take n s) (drop n s) more)
          ∙ law.2 (drop n s ++ more);
    }

inside-longer : (s more : List ℕ) (at : ℕ) → at < length s → T (ltb at (length (s ++ more)))
inside-longer s more at h = yes_ltb {a = at} {b = length (s ++ more)} (omega (arith, length-append s more))

module _ (e : Encoding) (s more : List ℕ) (at : ℕ) where
  as-operation : (o : Option RunOf) (x : Operation) → read_in e.big_endian as_bytes (operation e) (drop at s) ≡ o
      → as_operation e.big_endian at o ≡ Some x
      → as_operation e.big_endian at (read_in e.big_endian as_bytes (operation e) (drop at s ++ more)) ≡ Some x
  unfolding as_operation
  as-operation None x q a = let z : ◌≡◌ {A = ℕ} 0 1 = cc in absurd (omega arith)
  as-operation (Some r) x q a = ap (as_operation e.big_endian at) (read-longer e.big_endian (operation e) (drop at s) more r q).is ∙ a

  operation-longer : (x : Operation) → operation_at e s at ≡ Some x → operation_at e (s ++ more) at ≡ Some x
  unfolding operation_at
  operation-longer x q =
      let h : at < length s = (operation-stepped e s at x q).here in
      ap (λ (y : List ℕ). as_operation e.big_endian at (read_in e.big_endian as_bytes (operation e) y)) (drop-append-le at s more (omega arith))
      ∙ as-operation _ x refl q

  as-entry : (o : Option RunOf) (x : ListEntry) → read_in e.big_endian as_bytes (list_entry e false) (drop at s) ≡ o
      → as_list_step e.big_endian at o ≡ Some (Entry x)
      → as_list_step e.big_endian at (read_in e.big_endian as_bytes (list_entry e false) (drop at s ++ more)) ≡ Some (Entry x)
  unfolding as_list_step
  as-entry None x q a = let z : ◌≡◌ {A = ℕ} 0 1 = cc in absurd (omega arith)
  as-entry (Some r) x q a = ap (as_list_step e.big_endian at) (read-longer e.big_endian (list_entry e false) (drop at s) more r q).is ∙ a

  entry-longer : (x : ListEntry) → list_entry_at e false s at ≡ Some (Entry x) → list_entry_at e false (s ++ more) at ≡ Some (Entry x)
  unfolding list_entry_at
  entry-longer x q =
      let h : at < length s = (entry-entered e false s at x q).here in
      pick_yes (ltb at (length (s ++ more))) _ _ (inside-longer s more at h)
      ∙ ap (λ (y : List ℕ). as_list_step e.big_endian at (read_in e.big_endian as_bytes (list_entry e false) y)) (drop-append-le at s more (omega arith))
      ∙ as-entry _ x refl (sym (pick_yes (ltb at (length s)) _ _ (yes_ltb h)) ∙ q)

-- ---- walks

module _ (n : ℕ) where
  -- a turn that stops with another answer
  record Otherwise (t : RootTurn) : Type 0 where
    pub verdict : Result Verdict ℕ
    pub is : t ≡ stop verdict
    pub other : verdict ≡ Err n → ⊥

  next-longer : (t : RootTurn) (k k' : Flagged → Result Verdict ℕ) → ((p : Flagged) → k p ≡ Err n → k' p ≡ Err n)
      → on_next t k ≡ Err n → on_next t k' ≡ Err n
  unfolding on_next
  next-longer (go p) k k' each q = each p q
  next-longer (stop v) k k' each q = q

  module _ (f f' : Flagged → RootTurn) (each : (p : Flagged) → (f' p ≡ f p) ⊎ Otherwise (f p)) where
    walk-longer : (k k' : ℕ) → k ≤ k' → (p : Flagged) → walk_within k f (Ok Dead) p ≡ Err n → walk_within k' f' (Ok Dead) p ≡ Err n
    unfolding walk_within on_next
    walk-longer zero k' l p q = absurd (dead-no-refusal n q)
    walk-longer (suc k) zero l p q = absurd (omega arith)
    walk-longer (suc k) (suc k') l p q =
        ⊎_elim
        (λ s. ap (λ (t : RootTurn). on_next t (λ r. walk_within k' f' (Ok Dead) r)) s
        ∙ next-longer (f p) (λ r. walk_within k f (Ok Dead) r) _ (λ r h. walk-longer k k' (omega arith) r h) q)
        (λ o. absurd (o.other (sym (ap (λ (t : RootTurn). on_next t (λ r. walk_within k f (Ok Dead) r)) o.is) ∙ q)))
        (each p)

-- ---- expressions and range lists, of a table that fails

five-apart : (n : ℕ) → OneOf table_numbers n → ◌≡◌ {A = Result Verdict ℕ} (Err 5) (Err n) → ⊥
unfolding is_one_of ◌or◌
five-apart n o q = let e : n ≡ 5 = cc in not-one-of table_numbers n 5 e tt o

module _ (e : Encoding) (fixed : Bool) (table s more : List ℕ) (n : ℕ) (o : OneOf table_numbers n) where
  end-apart : (live : Bool) → pick live (Ok Live) (Ok Dead) ≡ Err n → ⊥
  unfolding pick
  end-apart true q = live-no-refusal n q
  end-apart false q = dead-no-refusal n q

  abbrev operation_turn : List ℕ → Flagged → RootTurn
  operation_turn s p = pick (ltb p.at (length s)) (operation_step e fixed table p.flag (operation_at e s p.at)) (stop (pick p.flag (Ok Live) (Ok Dead)))

  by-operation : (p : Flagged) → p.at < length s → (r : Option Operation) → operation_at e s p.at ≡ r
      → (operation_turn (s ++ more) p ≡ operation_turn s p) ⊎ Otherwise n (operation_turn s p)
  unfolding operation_step
  by-operation p h (Some x) q =
      inl (pick_yes (ltb p.at (length (s ++ more))) _ _ (inside-longer s more p.at h)
      ∙ ap (operation_step e fixed table p.flag) (operation-longer e s more p.at x q ∙ sym q)
      ∙ sym (pick_yes (ltb p.at (length s)) _ _ (yes_ltb h)))
  by-operation p h None q =
      inr (record {
        verdict = Err 5;
        is = pick_yes (ltb p.at (length s)) _ _ (yes_ltb h) ∙ ap (operation_step e fixed table p.flag) q;
        other = five-apart n o;
      })

  operation-turns : (p : Flagged) → (operation_turn (s ++ more) p ≡ operation_turn s p) ⊎ Otherwise n (operation_turn s p)
  operation-turns p =
      ⊎_elim (λ t. by-operation p (ltb_yes t) (operation_at e s p.at) refl)
      (λ t. inr (record { verdict = pick p.flag (Ok Live) (Ok Dead); is = pick_no (ltb p.at (length s)) _ _ t; other = end-apart p.flag }))
      (either (ltb p.at (length s)))

  -- an expression that is refused so is, whatever stands behind it
  pub behind-location : location_live e fixed table s ≡ Err n → location_live e fixed table (s ++ more) ≡ Err n
  unfolding location_live walk
  behind-location q = walk-longer n (operation_turn s) (operation_turn (s ++ more)) operation-turns _ _ (omega (arith, length-append s more)) _ q

  abbrev range_turn : List ℕ → Flagged → RootTurn
  range_turn s p = range_step e table p.flag (list_entry_at e false s p.at)

  by-entry : (p : Flagged) (r : Option ListStep) → list_entry_at e false s p.at ≡ r
      → (range_turn (s ++ more) p ≡ range_turn s p) ⊎ Otherwise n (range_turn s p)
  unfolding range_step
  by-entry p (Some (Entry x)) q = inl (ap (range_step e table p.flag) (entry-longer e s more p.at x q ∙ sym q))
  by-entry p (Some End) q = inr (record { verdict = Ok Dead; is = ap (range_step e table p.flag) q; other = dead-no-refusal n })
  by-entry p None q = inr (record { verdict = Err 5; is = ap (range_step e table p.flag) q; other = five-apart n o })

  -- and so is a list of a section
  pub behind-ranges : (l : Option Cursor) → ranges_live e table s l ≡ Err n → ranges_live e table (s ++ more) l ≡ Err n
  unfolding ranges_live walk
  behind-ranges (Some c) q =
      walk-longer n (range_turn s) (range_turn (s ++ more)) (λ p. by-entry p (list_entry_at e false s p.at) refl) _ _
      (omega (arith, length-append s more)) _ q
  behind-ranges None q = absurd (live-no-refusal n q)

-- ---- attributes and entries

pick-stays : {X : Type 0} (c : X) (b : Bool) (x y x' y' : X) → (x ≡ c → x' ≡ c) → (y ≡ c → y' ≡ c) → pick b x y ≡ c → pick b x' y' ≡ c
unfolding pick
pick-stays c true x y x' y' f g q = f q
pick-stays c false x y x' y' f g q = g q

else-stays : (c v w w' : Result Verdict ℕ) → (w ≡ c → w' ≡ c) → or_else v w ≡ c → or_else v w' ≡ c
unfolding or_else
else-stays c (Ok Live) w w' f q = q
else-stays c (Ok Dead) w w' f q = f q
else-stays c (Err m) w w' f q = q

-- a verdict that is not dead ends the test
module _ (c : Result Verdict ℕ) (ends : Ok Dead ≡ c → ⊥) (e : Encoding) (table : List ℕ) (more : List Valued) where
  -- of the low_pc, whatever attributes stand behind it
  pub behind-low-pcs : (vs : List Valued) → low_pcs e table vs ≡ c → low_pcs e table (vs ++ more) ≡ c
  unfolding low_pcs
  behind-low-pcs [] q = absurd (ends q)
  behind-low-pcs (a ∷ vs) q =
      pick-stays c (eqb a.name DW_AT_low_pc) _ _ _ _ (else-stays c (low_pc e table a.value) _ _ (behind-low-pcs vs)) (behind-low-pcs vs) q

  -- of the location
  pub behind-locations : (fixed : Bool) (unit : List ℕ) (vs : List Valued) → locations e fixed table unit vs ≡ c
      → locations e fixed table unit (vs ++ more) ≡ c
  unfolding locations
  behind-locations fixed unit [] q = absurd (ends q)
  behind-locations fixed unit (a ∷ vs) q =
      pick-stays c (eqb a.name DW_AT_location and eqb a.value.form DW_FORM_exprloc) _ _ _ _
      (else-stays c (location_live e fixed table (part_of unit a.value.field)) _ _ (behind-locations fixed unit vs)) (behind-locations fixed unit vs) q

module _ (n : ℕ) where
  verdict-stays : (v : Result Verdict ℕ) (k k' : ℕ → Analysed) → ((r : ℕ) → k r ≡ not_analysed n → k' r ≡ not_analysed n)
      → on_verdict v k ≡ not_analysed n → on_verdict v k' ≡ not_analysed n
  unfolding on_verdict
  verdict-stays (Ok Live) k k' f q = f 1 q
  verdict-stays (Ok Dead) k k' f q = f 0 q
  verdict-stays (Err m) k k' f q = q

  found-stays : (r : ReferencesFound) (k k' : List ℕ → Analysed) → ((xs : List ℕ) → k xs ≡ not_analysed n → k' xs ≡ not_analysed n)
      → on_found r k ≡ not_analysed n → on_found r k' ≡ not_analysed n
  unfolding on_found
  found-stays (found xs) k k' f q = f xs q
  found-stays (refused_after xs m) k k' f q = q

  onto-stays : (r : EntryRow) (a b : Analysed) → (a ≡ not_analysed n → b ≡ not_analysed n) → onto r a ≡ not_analysed n → onto r b ≡ not_analysed n
  unfolding onto
  onto-stays r (analysed rows) b f q = absurd (rows-no-refusal _ n q)
  onto-stays r (not_analysed m) b f q = ap (onto r) (f q)

  -- by the entries
  behind-items : OneOf table_numbers n → (e : Encoding) (x : Sections) (unit : List ℕ) (room : Rooms) (is : List Item) (p : Reached) (more : List Item)
      (whole whole' : Bool) → analyse_items e x unit room p is whole ≡ not_analysed n → analyse_items e x unit room p (is ++ more) whole' ≡ not_analysed n
  unfolding analyse_items is_one_of ◌or◌
  behind-items o e x unit room [] p more true whole' q = absurd (rows-no-refusal _ n q)
  behind-items o e x unit room [] p more false whole' q = let four : n ≡ 4 = cc in absurd (not-one-of table_numbers n 4 four tt o)
  behind-items o e x unit room (terminator a b ∷ is) p more whole whole' q = behind-items o e x unit room is _ more whole whole' q
  behind-items o e x unit room (entry y ∷ is) p more whole whole' q =
      pick-stays (not_analysed n) (ltb p.count room.entries) _ _ _ _
      (verdict-stays _ _ _ (λ root. found-stays _ _ _ (λ names. pick-stays (not_analysed n) (leb (p.references + length names) room.references) _ _ _ _
      (onto-stays _ _ _ (behind-items o e x unit room is _ more whole whole')) (λ r. r)))) (λ r. r) q

  -- an entry, whatever entries stand behind it, readable or not
  pub behind-entries : OneOf table_numbers n → (e : Encoding) (x : Sections) (unit : List ℕ) (room : Rooms) (p : Reached) (is more : List Item)
      (whole whole' : Bool) → analyse_items e x unit room p is whole ≡ not_analysed n → analyse_items e x unit room p (is ++ more) whole' ≡ not_analysed n
  behind-entries o e x unit room p is more whole whole' q = behind-items o e x unit room is p more whole whole' q
