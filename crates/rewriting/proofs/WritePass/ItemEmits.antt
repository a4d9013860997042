-- The emission of the kept items of a unit, one after the other. Assumes nothing.
use mathlib.Core.Path.{◌≡◌, refl, ap, ap₂, sym, ◌∙◌, subst}
use Prim.Native.Nat.{ℕ, ◌+◌, ◌≤◌, ◌<◌}
use native.Mathlib.Omega.{arith}
use mathlib.Core.Bool.{Bool, true, false}
use Rattle.std.specs.Prelude.{Option, Some, Err, None, Ok, Result}
use Rattle.readers.specs.declared.abbreviations.Declaration.{Declaration}
use Rattle.readers.specs.declared.entries.Step.{Step}
use mathlib.Core.List.{List, [], ◌∷◌, ◌++◌, append-nil}
use mathlib.Core.Logic.{⊎_elim}
use lib.ListN.{length, take, drop}
use lib.Seq.{length-take-le}
use Rattle.readers.proofs.Choice.{All, all-some, all_of, all-bind, all-triv}
use Rattle.readers.specs.Layout.{leb128, width, number, Layout, field, verbatim, Piece, Read, ReadOf, RunOf, ExpressionReader, number_in, as_number, copy, token_in, read_in, before, bytes_of, piece_bytes, write_all, Patch, patch_all}
use Rattle.readers.proofs.LayoutLaws.{NumberLaw, number-law}
use Rattle.readers.specs.Expression.{expression_in}
use Rattle.readers.proofs.Expression.{expression-law}
use Rattle.readers.specs.Cursors.{cursor}
use Rattle.readers.specs.Abbreviations.{declared_in, find_at}
use Rattle.readers.specs.Entries.{entry_layout, step_at}
use Rattle.readers.specs.Nesting.{nesting_of}
use Rattle.readers.specs.Stream.{Item}
use Rattle.readers.proofs.Streams.{step-look}
use Rattle.readers.specs.declared.cursor.Encoding.{Encoding}
use Rattle.readers.specs.declared.cursor.Cursor.{Cursor}
use Rattle.readers.specs.declared.entries.Entry.{Entry}
use Rattle.readers.specs.declared.entries.Nesting.{Nesting}
use Rattle.readers.specs.declared.entries.Step.TheVariants.{Entry as Entry', Terminator}
use Rattle.marking.specs.Analysis.{Sections}
use Rattle.rewriting.specs.Places.{Place, NestedItem, kept_from, offset_of}
use Rattle.rewriting.specs.Rewriting.{Unit as Unit', Lists, items_in, reads_or, reads_at, new_value, or_next, reads_refusal, refusal_from, bytes_from}
use Rattle.rewriting.specs.Inner.NextKept.{open_kept, items_by, Stood, kept_at, NextItem, Answers}
use Rattle.rewriting.specs.Inner.IndexLists.{ReadDeep, AllRead, PassInput}
use Rattle.rewriting.specs.Emission.{between}
use Rattle.rewriting.specs.declared.kept_items.Reading.{Reading}
use Rattle.rewriting.specs.declared.kept_items.PassPosition.{PassPosition}
use Rattle.rewriting.specs.declared.kept_items.KeptItem.{KeptItem}
use Rattle.rewriting.proofs.KeptPass.DeepReads.{TerminatorRead, deep-kind, deep-terminator, deep-entry}
use Rattle.rewriting.proofs.WritePass.Emissions.{EmitsAt, emits_none, emits-as, emits_then, emits-stop}
use Rattle.rewriting.proofs.WritePass.ValueParts.{between-from, copied-refusal, copied-written}
use Rattle.rewriting.proofs.KeptPass.KeptSteps.{stand}
use Rattle.rewriting.proofs.KeptPass.KeptPasses.{shown-offset, next-forward, next-item, next-end, stood-start}
use Rattle.rewriting.proofs.KeptPass.KeptItems.{next-entry, next-terminator}
use Rattle.rewriting.proofs.ListPass.ListAnswers.{items-are}

-- ---- a terminator: its code, verbatim

module _ (big : Bool) (ex : ExpressionReader) (s : List ℕ) where
  -- what was read begins with a verbatim number
  pub record Headed (r : RunOf) : Type 0 where
    pub code : Read
    pub others : List Read
    pub wide : ℕ
    pub fits : wide ≤ length s
    pub is : r.0 ≡ code ∷ others
    pub pieces : code.pieces ≡ verbatim (take wide s) ∷ []

  abbrev Copied : ReadOf → Type 0
  Copied r = (n : ℕ) × ((n ≤ length s) × (r.0.pieces ≡ verbatim (take n s) ∷ []))

  headed : (k : ℕ → Layout) → All Headed (read_in big ex (field (number leb128) k) s)
  unfolding read_in token_in as_number copy before
  headed k =
      all-bind Copied Headed (token_in big ex (number leb128) s) _
      (all-bind (NumberLaw big leb128 s) Copied (number_in big leb128 s) _ (number-law big leb128 s) (λ t q law. all-some Copied (width t.0, (law.1.0, refl))))
      (λ r q h. all-bind (λ _. Unit {0}) Headed (read_in big ex (k r.0.seen) r.1) _ (all-triv _)
      (λ r' q' _. all-some Headed (record { code = r.0; others = r'.0; wide = h.0; fits = h.1.0; is = refl; pieces = h.1.1 })))

module _ (e : Encoding) (abbreviations : List ℕ) (look : ℕ → Option Declaration) (unit : List ℕ) (start end : ℕ)
    (step : step_at e abbreviations look unit start ≡ Some (Terminator (cursor end))) (rs : List Read) (rest : List ℕ)
    (deep : read_in e.big_endian (expression_in e) (entry_layout e abbreviations look) (drop start unit) ≡ Some (rs, rest)) where
  abbrev big : Bool
  big = e.big_endian

  sort : TerminatorRead e abbreviations look rs
  sort =
      ⊎_elim
      (λ t. t)
      (λ y. let z : Some (Entry' _) ≡ Some (Terminator (cursor end)) = sym (deep-entry e abbreviations look (expression_in e) (expression-law e) unit start rs rest deep y) ∙ step in
      let n : ◌≡◌ {A = ℕ} 0 1 = cc in absurd (omega arith))
      (deep-kind e abbreviations look (expression_in e) (expression-law e) unit start rs rest deep)

  head : Headed big (expression_in e) (drop start unit) (rs, rest)
  unfolding entry_layout
  head = all_of (Headed big (expression_in e) (drop start unit)) (headed big (expression_in e) (drop start unit) _) deep

  abbrev its-bytes : List ℕ
  its-bytes = take head.wide (drop start unit)

  alone : rs ≡ head.code ∷ []
  alone =
      let z : head.code ∷ head.others ≡ sort.code ∷ [] = sym head.is ∙ sort.is in
      let o : head.others ≡ [] = cc in
      head.is ∙ ap (λ (q : List Read). head.code ∷ q) o

  terminator-patched : (f : Patch) → write_all big (patch_all f rs) ≡ its-bytes
  unfolding write_all patch_all
  terminator-patched f = ap (λ z. write_all big (patch_all f z)) alone ∙ copied-written big f head.code its-bytes head.pieces [] ∙ append-nil its-bytes

  terminator-written : write_all big rs ≡ its-bytes
  unfolding write_all bytes_of piece_bytes
  terminator-written =
      ap (write_all big) alone ∙ append-nil (bytes_of big head.code.pieces) ∙ ap (λ (q : List Piece). bytes_of big q) head.pieces ∙ append-nil its-bytes

  terminator-end : end ≡ start + head.wide
  terminator-end =
      let n : ℕ = start + length (write_all big rs) in
      let z : Some (Terminator (cursor end)) ≡ Some (Terminator (cursor n)) =
      sym step ∙ deep-terminator e abbreviations look (expression_in e) (expression-law e) unit start rs rest deep sort in
      let w : cursor end ≡ cursor n = cc in
      ap (λ (c : Cursor). c.at) w ∙ ap (λ (q : List ℕ). start + length q) terminator-written
      ∙ ap (λ (m : ℕ). start + m) (length-take-le head.wide (drop start unit) head.fits)

  terminator-refusal : (lists : Lists) (ps : List Place) (depth : ℕ) → reads_refusal lists ps depth rs ≡ 0
  unfolding reads_refusal
  terminator-refusal lists ps depth = ap (reads_refusal lists ps depth) alone ∙ copied-refusal lists ps depth head.code its-bytes head.pieces []

  -- its bytes are those of the unit, and nothing is refused
  pub terminator-emits : (lists : Lists) (ps : List Place) (depth : ℕ) (out : List ℕ) (at : ℕ) (a : Result ℕ ℕ) (out₁ : List ℕ) → EmitsAt 0 (between unit start end) out at a out₁
      → EmitsAt (reads_refusal lists ps depth rs) (write_all big (patch_all (new_value lists ps depth) rs)) out at a out₁
  terminator-emits lists ps depth out at a out₁ h =
      emits-as (sym (terminator-refusal lists ps depth))
      (ap (between unit start) terminator-end ∙ between-from unit start head.wide ∙ sym (terminator-patched (new_value lists ps depth))) h

-- ---- the loop

module _ (r : Reading) (s table unit parents ends marks : List ℕ) (first : ℕ) where
  abbrev look : ℕ → Option Declaration
  look = find_at s r.from table

  abbrev items : ℕ → List Item
  items at = items_by r s table unit at

  module _ (x : Sections) (u : Unit') (lists : Lists) (ps : List Place) where
    abbrev pub Whole : List ℕ → Result ℕ ℕ → List ℕ → Type 0
    Whole out₀ z out' = EmitsAt (refusal_from x u lists ps (kept_from marks 0 [] (items_in x u))) (bytes_from x u lists ps (kept_from marks 0 [] (items_in x u))) out₀ 0 z out'

    abbrev From : List NestedItem → List ℕ → ℕ → Result ℕ ℕ → List ℕ → Type 0
    From kept out to z out' = EmitsAt (refusal_from x u lists ps kept) (bytes_from x u lists ps kept) out to z out'

    -- a pass that has written what it met: what is said of the items from here on is said of all
    pub record Writing (out₀ : List ℕ) (t : PassPosition) (out : List ℕ) (to : ℕ) : Type 0 where
      pub stack : List ℕ
      pub stood : Stood items parents ends t stack
      pub deep : AllRead x u (kept_at items parents ends marks t stack)
      pub onward : (z : Result ℕ ℕ) (out' : List ℕ) → From (kept_at items parents ends marks t stack) out to z out' → Whole out₀ z out'

    module _ (p : PassInput x u r s table unit parents ends marks first) where
      pub writing_start : first ≡ u.header.first.0 → (out₀ : List ℕ) (n : Nesting) → n ≡ nesting_of [] → Writing out₀ (stand first 0 n) out₀ 0
      unfolding open_kept
      writing_start q out₀ n m =
          record {
            stack = [];
            stood = stood-start items parents ends marks unit first n m (p.holds, p.ends_hold);
            deep = p.deep;
            onward = λ z out' h.
                subst (λ (is : List Item). From (kept_from marks 0 [] is) out₀ 0 z out') (ap items q ∙ items-are x u r s table unit p.read p.found) h;
          }

      module _ (out₀ : List ℕ) (t : PassPosition) (out : List ℕ) (to : ℕ) (g : Writing out₀ t out to) (o : Option KeptItem) (a : Answers items parents ends marks unit t o) where
        pub writing-end : o ≡ None → Whole out₀ (Ok to) out
        unfolding refusal_from bytes_from
        writing-end q =
            let e : kept_at items parents ends marks t g.stack ≡ [] = next-end items parents ends marks unit t o a q g.stack g.stood in
            g.onward (Ok to) out (subst (λ (kept : List NestedItem). From kept out to (Ok to) out) (sym e) (emits_none out to))

        module _ (y : KeptItem) (q : o ≡ Some y) where
          next : NextItem items parents ends marks t g.stack y
          next = next-item items parents ends marks unit t o a y q g.stack g.stood

          abbrev others : List NestedItem
          others = kept_at items parents ends marks y.next next.after

          read_here : ReadDeep x u (offset_of next.standing.item) × AllRead x u others
          unfolding AllRead
          read_here = subst (AllRead x u) next.whole g.deep

          abbrev reads : List Read
          reads = read_here.0.run.0

          reads-are : reads_at x u (offset_of next.standing.item) ≡ reads
          unfolding reads_at reads_or
          reads-are = ap (reads_or x u) read_here.0.is

          deep-here : read_in r.encoding.big_endian (expression_in r.encoding) (entry_layout r.encoding s (declared_in u.declared)) (drop y.start.0 unit) ≡ Some (reads, read_here.0.run.1)
          deep-here =
              ap (λ (e : Encoding). read_in e.big_endian (expression_in e) (entry_layout e s (declared_in u.declared)) (drop y.start.0 unit)) (sym p.read.encoding_is)
              ∙ ap (λ (z : List ℕ). read_in u.header.encoding.big_endian (expression_in u.header.encoding) (entry_layout u.header.encoding z (declared_in u.declared)) (drop y.start.0 unit)) (sym p.read.abbreviations_are)
              ∙ ap₂ (λ (n : ℕ) (z : List ℕ). read_in u.header.encoding.big_endian (expression_in u.header.encoding) (entry_layout u.header.encoding x.abbreviations (declared_in u.declared)) (drop n z))
              (sym (shown-offset y next.standing.item next.shows)) (sym p.read.bytes_are)
              ∙ read_here.0.is

          step-here : (z : Option Step) → step_at r.encoding s look unit y.start.0 ≡ z → step_at r.encoding s (declared_in u.declared) unit y.start.0 ≡ z
          step-here z h = sym (step-look r.encoding s look (declared_in u.declared) p.found unit y.start.0) ∙ h

          -- the emission of this item alone
          abbrev Here : Result ℕ ℕ → List ℕ → Type 0
          Here b out₁ = EmitsAt (reads_refusal lists ps y.depth reads) (write_all r.encoding.big_endian (patch_all (new_value lists ps y.depth) reads)) out to b out₁

          together : (z : Result ℕ ℕ) (out' : List ℕ)
              → EmitsAt (or_next (reads_refusal lists ps y.depth reads) (refusal_from x u lists ps others))
              (write_all r.encoding.big_endian (patch_all (new_value lists ps y.depth) reads) ++ bytes_from x u lists ps others) out to z out'
              → Whole out₀ z out'
          unfolding refusal_from bytes_from
          together z out' k =
              let rest : ℕ = refusal_from x u lists ps others in
              let tail : List ℕ = bytes_from x u lists ps others in
              g.onward z out'
              (subst (λ (kept : List NestedItem). From kept out to z out') (sym next.whole)
              (emits-as
              (ap₂ (λ (d : ℕ) (zs : List Read). or_next (reads_refusal lists ps d zs) rest) next.deep (sym reads-are))
              (ap₂ (λ (d : ℕ) (zs : List Read). write_all r.encoding.big_endian (patch_all (new_value lists ps d) zs) ++ tail) next.deep (sym reads-are)
              ∙ ap (λ (e : Encoding). write_all e.big_endian (patch_all (new_value lists ps next.standing.depth) (reads_at x u (offset_of next.standing.item))) ++ tail) (sym p.read.encoding_is))
              k))

          module _ (b : Result ℕ ℕ) (out₁ : List ℕ) (f : Here b out₁) where
            refused-here : (k : ℕ) → b ≡ Err k → Whole out₀ (Err k) out₁
            refused-here k w =
                together (Err k) out₁
                (emits-stop _ (refusal_from x u lists ps others) _ (bytes_from x u lists ps others) out to k out₁ (subst (λ (z : Result ℕ ℕ). Here z out₁) w f))

            on-here : (to₁ : ℕ) → b ≡ Ok to₁ → Writing out₀ y.next out₁ to₁
            on-here to₁ w =
                record {
                  stack = next.after;
                  stood = next.stood;
                  deep = read_here.1;
                  onward = λ z out' k.
                      together z out'
                      (emits_then _ (refusal_from x u lists ps others) _ (bytes_from x u lists ps others) out to to₁ out₁ z out' (subst (λ (z : Result ℕ ℕ). Here z out₁) w f) k);
                }

          -- an entry
          module _ (i : y.is_entry ≡ true) (b : Result ℕ ℕ) (out₁ : List ℕ)
              (f : (look' : ℕ → Option Declaration) (z : Entry) (rs : List Read) (rest : List ℕ) → step_at r.encoding s look' unit y.start.0 ≡ Some (Entry' z) → y.specs ≡ z.declaration.attributes → y.values ≡ z.values
              → read_in r.encoding.big_endian (expression_in r.encoding) (entry_layout r.encoding s look') (drop y.start.0 unit) ≡ Some (rs, rest)
              → EmitsAt (reads_refusal lists ps y.depth rs) (write_all r.encoding.big_endian (patch_all (new_value lists ps y.depth) rs)) out to b out₁) where
            entry_here : Here b out₁
            entry_here =
                let w = next-entry r.encoding s look unit parents ends marks t g.stack y next i in
                f (declared_in u.declared) w.it reads read_here.0.run.1 (step-here (Some (Entry' w.it)) w.here) w.specs w.values deep-here

            pub writing-refused : (k : ℕ) → b ≡ Err k → Whole out₀ (Err k) out₁
            writing-refused = refused-here b out₁ entry_here

            pub writing-entry : (to₁ : ℕ) → b ≡ Ok to₁ → Writing out₀ y.next out₁ to₁
            writing-entry = on-here b out₁ entry_here

          -- a terminator
          pub writing-terminator : y.is_entry ≡ false → (to₁ : ℕ) (out₁ : List ℕ) → (y.start.0 ≤ y.end.at → y.end.at ≤ length unit → EmitsAt 0 (between unit y.start.0 y.end.at) out to (Ok to₁) out₁)
              → Writing out₀ y.next out₁ to₁
          writing-terminator i to₁ out₁ f =
              let w = next-terminator r.encoding s look unit parents ends marks t g.stack y next i in
              let d = next-forward items parents ends marks unit t o a y q in
              let d1 : y.start.0 < y.end.at = d.1 in
              on-here (Ok to₁) out₁
              (terminator-emits r.encoding s (declared_in u.declared) unit y.start.0 y.end.at (step-here (Some (Terminator (cursor y.end.at))) w.here) reads read_here.0.run.1 deep-here
              lists ps y.depth out to (Ok to₁) out₁ (f (omega arith) d.2))
              to₁ refl
