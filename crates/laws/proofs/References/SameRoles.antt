-- The indices and siblings of every entry of an accepted unit, by roles and by forms. Assumes nothing.
use mathlib.Core.Path.{◌≡◌, refl, ap, sym, ◌∙◌, subst}
use Prim.Native.Nat.{ℕ, suc, ◌≤◌, ◌<◌}
use mathlib.Core.Bool.{Bool, true, false}
use mathlib.Core.List.{List, [], ◌∷◌}
use Rattle.std.specs.Prelude.{Err, None, Ok, Option, Result, Some}
use Rattle.readers.specs.declared.entries.Step.{Step}
use mathlib.Core.Logic.{⊎_elim, ◌⊎◌, inl, inr, ◌↔◌}
use native.Mathlib.Omega.{arith}
use lib.ListN.{take, drop}
use lib.Dec.{T, eqb, leb}
use mir.Facts.{eqb_yes, yes_eqb, leb_yes, leb_no, yes_leb}
use Rattle.readers.specs.Lists.{list_base}
use Rattle.readers.specs.Choice.{pick, ◌and◌, ◌or◌}
use Rattle.readers.proofs.Choice.{pick_yes, pick-either, either, and_both, both-and}
use Rattle.readers.specs.Tokens.{Use, plain, as'}
use Rattle.readers.specs.Forms.{use_of, list_form}
use Rattle.readers.specs.Layout.{Role, reference, type_reference, sibling, index, absolute, Read, RunOf, read_in}
use Rattle.readers.specs.Expression.{expression_in}
use Rattle.readers.specs.Entries.{entry_layout, step_at}
use Rattle.readers.specs.Abbreviations.{Placed, declared_in, abbreviations_of}
use Rattle.readers.specs.Header.{header_of}
use Rattle.readers.specs.Nesting.{opened, closed}
use Rattle.readers.specs.Stream.{Item, entry, terminator, items_from}
use Rattle.readers.specs.declared.attributes.Attribute.{Attribute}
use Rattle.readers.specs.declared.entries.Entry.{Entry}
use Rattle.readers.specs.declared.entries.Step.TheVariants.{Entry as Entry'}
use Rattle.readers.specs.declared.header.UnitHeader.{UnitHeader}
use Rattle.readers.specs.EntryAttributes.{Valued}
use Rattle.marking.specs.Analysis.{Sections, Rooms, EntryRow, analysed, refused as not_analysed, start_of, analyse_items, on_declared, unit_analysed, header_analysed, analysis_of, values_of_entry, base_of}
use Rattle.marking.specs.Members.{Member, here, there}
use Rattle.marking.specs.EntryRows.{RowsOf}
use Rattle.rewriting.specs.Indices.{read_indices}
use Rattle.rewriting.specs.Inner.IndexLists.{form_list, value_index, value_indices}
use Rattle.rewriting.specs.Rewriting.{Unit as Unit', items_in, reads_or, reads_at, Room, unit_of}
use Rattle.laws.specs.SameReferences.{values_in, reads_in}
use Rattle.laws.specs.SameRoles.{RoleRead, FormIndex, FormSibling, SameRoles, UnitRoles}
use Rattle.marking.proofs.Members.{nothing-in, in_left, in_right, in_either}
use Rattle.laws.proofs.Again.IndexMembers.{IndexRead, read-members}
use Rattle.rewriting.proofs.KeptPass.EntryReads.{StepBy}
use Rattle.laws.proofs.References.NamedPieces.{only}
use Rattle.rewriting.proofs.ListPass.EntryIndices.{deep-indices}
use Rattle.readers.proofs.FormKinds.{form-list}
use Rattle.laws.proofs.References.EntryRoles.{reads_sought, use_sought, own_sought, values_sought, StepSought, deep-sought, reads-members}
use Rattle.rewriting.proofs.KeptPass.ItemDepths.{EveryItem, Stands, items-stand}
use Rattle.rewriting.proofs.KeptPass.ReadableItems.{Is, JudgedStep, step-deep}
use Rattle.rewriting.proofs.Whole.AcceptedUnits.{accepted-follow, Accepted}
use Rattle.marking.proofs.ListedHeaders.{analysed-listed}

-- ---- indices

module _ (k v : ℕ) where
  index_read : (rs : List Read) → IndexRead k v rs ↔ RoleRead rs (index k) v
  index_read rs = (
    λ q. record { read = q.read; among = q.among; encoded = q.operand.encoded; within = q.operand.within },
    λ q. record { read = q.read; among = q.among; operand = record { encoded = q.encoded; within = q.within } },
  )

  abbrev Own : Attribute → Type 0
  Own a = (list_form a.form ≡ k) × (v ≡ a.field.value)

  list-is : (f : ℕ) → list_form f ≡ form_list f
  unfolding form_list
  list-is f = form-list 0 f

  own-index : (a : Attribute) → Member v (value_index k a) ↔ Own a
  unfolding value_index
  own-index a = (
    pick-either (λ (l : List ℕ). Member v l → Own a) (eqb (form_list a.form) k) (a.field.value ∷ []) []
        (λ t m. (list-is a.form ∙ eqb_yes {a = form_list a.form} {b = k} t, only v a.field.value m))
        (λ t m. absurd (nothing-in v m)),
    λ q. subst (Member v) (sym (pick_yes _ (a.field.value ∷ []) [] (yes_eqb {a = form_list a.form} {b = k} (sym (list-is a.form) ∙ q.0)))) (here q.1),
  )

  index-here : (a : Valued) (rest : List Valued) → FormIndex (a ∷ rest) k v → Own a.value ⊎ FormIndex rest k v
  index-here a rest i = by_place i.attribute i.among (i.form_is, i.is)
    where
      by_place : (b : Valued) → Member b (a ∷ rest) → Own b.value → Own a.value ⊎ FormIndex rest k v
      by_place b (here q) o = inl (subst (λ (z : Valued). Own z.value) q o)
      by_place b (there m) o = inr (record { attribute = b; among = m; form_is = o.0; is = o.1 })

  value-members : (values : List Valued) → Member v (value_indices k values) ↔ FormIndex values k v
  unfolding value_indices
  value-members [] = (λ m. absurd (nothing-in v m), λ i. absurd (nothing-in i.attribute i.among))
  value-members (a ∷ rest) =
      let one : Member v (value_index k a.value) ↔ Own a.value = own-index a.value in
      let more : Member v (value_indices k rest) ↔ FormIndex rest k v = value-members rest in (
        λ m. ⊎_elim
            (λ n. let o = one.0 n in record { attribute = a; among = here refl; form_is = o.0; is = o.1 })
            (λ n. let i = more.0 n in record { attribute = i.attribute; among = there i.among; form_is = i.form_is; is = i.is })
            (in_either v (value_index k a.value) (value_indices k rest) m),
        λ i. ⊎_elim
            (λ o. in_left v (value_index k a.value) (value_indices k rest) (one.1 o))
            (λ j. in_right v (value_index k a.value) (value_indices k rest) (more.1 j))
            (index-here a rest i),
      )

-- ---- no other indices

module _ (k : ℕ) where
  unfoldable is_index : Role → Bool
  is_index reference = false
  is_index type_reference = false
  is_index sibling = false
  is_index (index j) = eqb j k
  is_index absolute = false

  index-no-reference : is_index reference ≡ false
  unfolding is_index
  index-no-reference = refl

  index-no-type : is_index type_reference ≡ false
  unfolding is_index
  index-no-type = refl

  index-no-absolute : is_index absolute ≡ false
  unfolding is_index
  index-no-absolute = refl

  index_is : T (is_index (index k))
  unfolding is_index
  index_is = yes_eqb {a = k} {b = k} refl

  only-index : (r : Role) → T (is_index r) → r ≡ index k
  unfolding is_index
  only-index reference t = absurd t
  only-index type_reference t = absurd t
  only-index sibling t = absurd t
  only-index (index j) t = ap index (eqb_yes {a = j} {b = k} t)
  only-index absolute t = absurd t

  abbrev index_use : Use → Bool
  index_use = use_sought is_index index-no-reference index-no-type index-no-absolute

  abbrev values_indices : List Valued → List ℕ
  values_indices = values_sought is_index index-no-reference index-no-type index-no-absolute

  abbrev reads_indices : List Read → List ℕ
  reads_indices = reads_sought is_index index-no-reference index-no-type index-no-absolute

  module _ (large : 3 ≤ k) where
    none_below : (j : ℕ) → j < 3 → T (eqb j k) → ⊥
    none_below j l t = let z : j ≡ k = eqb_yes {a = j} {b = k} t in omega arith

    abbrev NotIndex : Use → Type 0
    NotIndex u = T (index_use u) → ⊥

    -- no form has such a use
    no-form : (name f : ℕ) → NotIndex (use_of name f)
    unfolding use_of use_sought is_index
    no-form name f =
        pick-either NotIndex (leb 0x11 f and leb f 0x15) (as' (pick (eqb name 0x01) sibling reference)) _
        (λ _. pick-either (λ (r : Role). NotIndex (as' r)) (eqb name 0x01) sibling reference (λ _ n. n) (λ _ n. n))
        (λ _. pick-either NotIndex (eqb f 0x10) _ _ (λ _ n. n)
        (λ _. pick-either NotIndex (eqb f 0x23) _ _ (λ _ n. none_below 0 (omega arith) n)
        (λ _. pick-either NotIndex (eqb f 0x22) _ _ (λ _ n. none_below 1 (omega arith) n)
        (λ _. pick-either NotIndex (eqb f 0x1a or (leb 0x25 f and leb f 0x28) or eqb f 0x1f02) _ plain (λ _ n. none_below 2 (omega arith) n) (λ _ n. n)))))

    no-values : (v : ℕ) (values : List Valued) → Member v (values_indices values) → ⊥
    unfolding values_sought own_sought
    no-values v [] m = nothing-in v m
    no-values v (a ∷ rest) m =
        ⊎_elim
        (λ n. pick-either (λ (l : List ℕ). Member v l → ⊥) (index_use (use_of a.name a.value.form)) (a.value.field.value ∷ []) []
        (λ t _. no-form a.name a.value.form t) (λ _ o. nothing-in v o) n)
        (λ n. no-values v rest n)
        (in_either v _ (values_indices rest) m)

-- ---- siblings

unfoldable is_sibling : Role → Bool
is_sibling reference = false
is_sibling type_reference = false
is_sibling sibling = true
is_sibling (index k) = false
is_sibling absolute = false

no_reference : is_sibling reference ≡ false
unfolding is_sibling
no_reference = refl

no-type : is_sibling type_reference ≡ false
unfolding is_sibling
no-type = refl

no-absolute : is_sibling absolute ≡ false
unfolding is_sibling
no-absolute = refl

sibling-is : T (is_sibling sibling)
unfolding is_sibling
sibling-is = tt

only-sibling : (r : Role) → T (is_sibling r) → r ≡ sibling
unfolding is_sibling
only-sibling reference t = absurd t
only-sibling type_reference t = absurd t
only-sibling sibling t = refl
only-sibling (index k) t = absurd t
only-sibling absolute t = absurd t

abbrev sibling_use : Use → Bool
sibling_use = use_sought is_sibling no_reference no-type no-absolute

abbrev own_sibling : ℕ → Attribute → List ℕ
own_sibling = own_sought is_sibling no_reference no-type no-absolute

abbrev values_siblings : List Valued → List ℕ
values_siblings = values_sought is_sibling no_reference no-type no-absolute

abbrev reads_siblings : List Read → List ℕ
reads_siblings = reads_sought is_sibling no_reference no-type no-absolute

abbrev SiblingForm : ℕ → ℕ → Type 0
SiblingForm name f = (name ≡ 0x01) × ((0x11 ≤ f) × (f ≤ 0x15))

abbrev OnlySibling : ℕ → ℕ → Use → Type 0
OnlySibling name f u = T (sibling_use u) → SiblingForm name f

-- the use of a sibling is that of these forms under DW_AT_sibling
sibling-out : (name f : ℕ) → T (sibling_use (use_of name f)) → SiblingForm name f
unfolding use_of use_sought is_sibling
sibling-out name f =
    pick-either (OnlySibling name f) (leb 0x11 f and leb f 0x15) (as' (pick (eqb name 0x01) sibling reference)) _
    (λ t. let b = and_both (leb 0x11 f) (leb f 0x15) t in
    pick-either (λ (r : Role). OnlySibling name f (as' r)) (eqb name 0x01) sibling reference
    (λ s _. (eqb_yes {a = name} {b = 0x01} s, (leb_yes {a = 0x11} {b = f} b.0, leb_yes {a = f} {b = 0x15} b.1)))
    (λ _ n. absurd n))
    (λ _. pick-either (OnlySibling name f) (eqb f 0x10) _ _ (λ _ n. absurd n)
    (λ _. pick-either (OnlySibling name f) (eqb f 0x23) _ _ (λ _ n. absurd n)
    (λ _. pick-either (OnlySibling name f) (eqb f 0x22) _ _ (λ _ n. absurd n)
    (λ _. pick-either (OnlySibling name f) (eqb f 0x1a or (leb 0x25 f and leb f 0x28) or eqb f 0x1f02) _ plain (λ _ n. absurd n) (λ _ n. absurd n)))))

sibling-in : (name f : ℕ) → SiblingForm name f → T (sibling_use (use_of name f))
unfolding use_of use_sought is_sibling
sibling-in name f q =
    subst (λ (u : Use). T (sibling_use u))
    (sym (pick_yes _ _ _ (both-and (leb 0x11 f) (leb f 0x15) (yes_leb {a = 0x11} {b = f} q.1.0) (yes_leb {a = f} {b = 0x15} q.1.1))
    ∙ ap as' (pick_yes (eqb name 0x01) sibling reference (yes_eqb {a = name} {b = 0x01} q.0)))) tt

module _ (v : ℕ) where
  abbrev OwnSibling : Valued → Type 0
  OwnSibling a = SiblingForm a.name a.value.form × (v ≡ a.value.field.value)

  own-sibling : (a : Valued) → Member v (own_sibling a.name a.value) ↔ OwnSibling a
  unfolding own_sought
  own-sibling a = (
    pick-either (λ (l : List ℕ). Member v l → OwnSibling a) (sibling_use (use_of a.name a.value.form)) (a.value.field.value ∷ []) []
        (λ t m. (sibling-out a.name a.value.form t, only v a.value.field.value m))
        (λ t m. absurd (nothing-in v m)),
    λ q. subst (Member v) (sym (pick_yes _ (a.value.field.value ∷ []) [] (sibling-in a.name a.value.form q.0))) (here q.1),
  )

  sibling-here : (a : Valued) (rest : List Valued) → FormSibling (a ∷ rest) v → OwnSibling a ⊎ FormSibling rest v
  sibling-here a rest i = by_place i.attribute i.among ((i.name_is, (i.from, i.upto)), i.is)
    where
      by_place : (b : Valued) → Member b (a ∷ rest) → OwnSibling b → OwnSibling a ⊎ FormSibling rest v
      by_place b (here q) o = inl (subst OwnSibling q o)
      by_place b (there m) o =
          inr (record { attribute = b; among = m; name_is = o.0.0; from = o.0.1.0; upto = o.0.1.1; is = o.1 })

  sibling-members : (values : List Valued) → Member v (values_siblings values) ↔ FormSibling values v
  unfolding values_sought
  sibling-members [] = (λ m. absurd (nothing-in v m), λ i. absurd (nothing-in i.attribute i.among))
  sibling-members (a ∷ rest) =
      let one : Member v (own_sibling a.name a.value) ↔ OwnSibling a = own-sibling a in
      let more : Member v (values_siblings rest) ↔ FormSibling rest v = sibling-members rest in (
        λ m. ⊎_elim
            (λ n. let o = one.0 n in record { attribute = a; among = here refl; name_is = o.0.0; from = o.0.1.0; upto = o.0.1.1; is = o.1 })
            (λ n. let i = more.0 n in record { attribute = i.attribute; among = there i.among; name_is = i.name_is; from = i.from; upto = i.upto; is = i.is })
            (in_either v (own_sibling a.name a.value) (values_siblings rest) m),
        λ i. ⊎_elim
            (λ o. in_left v (own_sibling a.name a.value) (values_siblings rest) (one.1 o))
            (λ j. in_right v (own_sibling a.name a.value) (values_siblings rest) (more.1 j))
            (sibling-here a rest i),
      )

-- ---- one entry

module _ (x : Sections) (u : Unit') where
  abbrev deep_at : ℕ → Option RunOf
  deep_at at = read_in u.header.encoding.big_endian (expression_in u.header.encoding) (entry_layout u.header.encoding x.abbreviations (declared_in u.declared)) (drop at u.bytes)

  abbrev There : Entry → Type 0
  There y = step_at u.header.encoding x.abbreviations (declared_in u.declared) u.bytes y.offset.0 ≡ Some (Entry' y)

  reads-are : (at : ℕ) (all : RunOf) → deep_at at ≡ Some all → reads_at x u at ≡ all.0
  unfolding reads_at reads_or
  reads-are at all q = ap (λ (o : Option RunOf). reads_or x u o) q

  module _ (y : Entry) (s : There y) (all : RunOf) (q : deep_at y.offset.0 ≡ Some all) where
    entry-indices : (k : ℕ) → k < 3 → read_indices k (reads_in x u y) ≡ value_indices k (values_in x u y)
    unfolding StepBy values_of_entry
    entry-indices k small =
        ap (read_indices k) (reads-are y.offset.0 all q)
        ∙ subst (λ (w : Option Step). StepBy (value_indices k) u.header.encoding u.bytes x.abbreviations w (read_indices k all.0)) s
        (deep-indices k small u.header.encoding u.bytes x.abbreviations (declared_in u.declared) y.offset.0 all q)

    entry-indexed : (k v : ℕ) → k < 3 → RoleRead (reads_in x u y) (index k) v ↔ FormIndex (values_in x u y) k v
    entry-indexed k v small =
        let same = entry-indices k small in
        let reads : Member v (read_indices k (reads_in x u y)) ↔ IndexRead k v (reads_in x u y) = read-members k v (reads_in x u y) in
        let values : Member v (value_indices k (values_in x u y)) ↔ FormIndex (values_in x u y) k v = value-members k v (values_in x u y) in
        let roles : IndexRead k v (reads_in x u y) ↔ RoleRead (reads_in x u y) (index k) v = index_read k v (reads_in x u y) in (
          λ n. values.0 (subst (Member v) same (reads.1 (roles.1 n))),
          λ n. roles.0 (reads.0 (subst (Member v) (sym same) (values.1 n))),
        )

    same-indices : (k : ℕ) → reads_indices k (reads_in x u y) ≡ values_indices k (values_in x u y)
    unfolding StepBy values_of_entry
    same-indices k =
        ap (reads_indices k) (reads-are y.offset.0 all q)
        ∙ subst (λ (w : Option Step). StepSought (is_index k) (index-no-reference k) (index-no-type k) (index-no-absolute k) u.header.encoding u.bytes x.abbreviations (declared_in u.declared) w (reads_indices k all.0)) s
        (deep-sought (is_index k) (index-no-reference k) (index-no-type k) (index-no-absolute k) u.header.encoding u.bytes x.abbreviations (declared_in u.declared) y.offset.0 all q)

    entry-lists : (k v : ℕ) → RoleRead (reads_in x u y) (index k) v → k < 3
    entry-lists k v i =
        ⊎_elim
        (λ t. absurd (no-values k (leb_yes {a = 3} {b = k} t) v (values_in x u y) (subst (Member v) (same-indices k)
        ((reads-members (is_index k) (index-no-reference k) (index-no-type k) (index-no-absolute k) (index k) (index_is k) (only-index k) v (reads_in x u y)).1 i))))
        (λ t. leb_no {a = 3} {b = k} t)
        (either (leb 3 k))

    same-siblings : reads_siblings (reads_in x u y) ≡ values_siblings (values_in x u y)
    unfolding StepBy values_of_entry
    same-siblings =
        ap reads_siblings (reads-are y.offset.0 all q)
        ∙ subst (λ (w : Option Step). StepSought is_sibling no_reference no-type no-absolute u.header.encoding u.bytes x.abbreviations (declared_in u.declared) w (reads_siblings all.0)) s
        (deep-sought is_sibling no_reference no-type no-absolute u.header.encoding u.bytes x.abbreviations (declared_in u.declared) y.offset.0 all q)

    entry-siblings : (v : ℕ) → RoleRead (reads_in x u y) sibling v ↔ FormSibling (values_in x u y) v
    entry-siblings v =
        let reads : Member v (reads_siblings (reads_in x u y)) ↔ RoleRead (reads_in x u y) sibling v =
        reads-members is_sibling no_reference no-type no-absolute sibling sibling-is only-sibling v (reads_in x u y) in
        let values : Member v (values_siblings (values_in x u y)) ↔ FormSibling (values_in x u y) v = sibling-members v (values_in x u y) in (
          λ n. values.0 (subst (Member v) same-siblings (reads.1 n)),
          λ n. reads.0 (subst (Member v) (sym same-siblings) (values.1 n)),
        )

    -- an entry that stands at its offset and is read deep
    entry-roles : SameRoles x u y
    entry-roles = record { indexed = entry-indexed; lists = entry-lists; siblings = entry-siblings }

  -- one that was judged is read deep
  judged-roles : (y : Entry) → There y → JudgedStep u.header.encoding x (declared_in u.declared) u.bytes (Some (Entry' y)) → SameRoles x u y
  unfolding Is
  judged-roles y s j =
      by-reads (deep_at y.offset.0) refl
      (step-deep u.header.encoding x (declared_in u.declared) u.bytes y.offset.0
      (subst (JudgedStep u.header.encoding x (declared_in u.declared) u.bytes) (sym s) j))
    where
      by-reads : (o : Option RunOf) → deep_at y.offset.0 ≡ o → Is o → SameRoles x u y
      by-reads None q i = absurd i
      by-reads (Some all) q i = entry-roles y s all q

  -- ---- entry by entry

  abbrev range_base : ℕ → Entry → ℕ
  range_base rb y = base_of u.header.encoding x u.bytes 0x74 rb y

  abbrev location_base : ℕ → Entry → ℕ
  location_base lb y = base_of u.header.encoding x u.bytes 0x8c lb y

  items-roles : (k : ℕ) (stack : List ℕ) (rb lb : ℕ) (items : List Item) (rows : List EntryRow)
      → RowsOf u.header.encoding x u.bytes k stack rb lb items rows
      → EveryItem (Stands u.header.encoding x.abbreviations (declared_in u.declared) u.bytes) items
      → (y : Entry) → Member (entry y) items → SameRoles x u y
  unfolding RowsOf EveryItem Stands JudgedStep
  items-roles k stack rb lb [] rows f s y m = absurd (nothing-in (entry y) m)
  items-roles k stack rb lb (terminator a b ∷ rest) rows f s y (here q) = let z : ◌≡◌ {A = ℕ} 0 1 = cc in absurd (omega arith)
  items-roles k stack rb lb (terminator a b ∷ rest) rows f s y (there m) = items-roles k (closed stack) rb lb rest rows f s.1 y m
  items-roles k stack rb lb (entry w ∷ rest) [] f s y m = absurd f
  items-roles k stack rb lb (entry w ∷ rest) (r ∷ rows) f s y (here q) =
      let z : w ≡ y = (let p : entry y ≡ entry w = q in cc) in
      subst (SameRoles x u) z (judged-roles w s.0 (record { base = location_base lb w; names = r.names; names_are = f.0.names_are }))
  items-roles k stack rb lb (entry w ∷ rest) (r ∷ rows) f s y (there m) =
      items-roles (suc k) (opened w.declaration.children k stack) (range_base rb w) (location_base lb w) rest rows f.1 s.1 y m

-- ---- of an accepted unit

module _ (x : Sections) (room : Room) (section : List ℕ) (h : UnitHeader) (ds : List Placed) (rows : List EntryRow)
    (a : Accepted x room section h ds rows) where
  abbrev unit : Unit'
  unit = unit_of h section ds

  -- of every entry
  pub each-roles : (y : Entry) → Member (entry y) (items_in x unit) → SameRoles x unit y
  unfolding items_in
  each-roles y m =
      items-roles x unit 0 [] (list_base h.encoding) (list_base h.encoding) (items_in x unit) rows (accepted-follow x room section h ds rows a)
      (items-stand h.encoding x.abbreviations (declared_in ds) (take h.end section) h.first.0) y m

  pub accepted-roles : UnitRoles x section
  accepted-roles = record { header = h; declared = ds; header_is = a.header; declared_is = a.declared; each = each-roles }

-- ---- of every unit that is analysed

module _ (x : Sections) (section : List ℕ) (room : Rooms) (rows : List EntryRow) where
  -- room for the tables is all that counts here
  abbrev tables_only : Room
  tables_only = record { tables = room; ranges = 0; locations = 0; strings = 0; places = 0; bytes = 0 }

  not-analysed : (n : ℕ) → not_analysed n ≡ analysed rows → ⊥
  not-analysed n q = let z : ◌≡◌ {A = ℕ} 0 1 = cc in omega arith

  by-declared : analysis_of x section room ≡ analysed rows → (h : UnitHeader) → header_of x.setting.big_endian section ≡ Ok (Some h)
      → (o : Option (List Placed)) → abbreviations_of x.abbreviations h.abbreviations ≡ o
      → UnitRoles x section
  unfolding analysis_of header_analysed unit_analysed on_declared
  by-declared q h p None d =
      absurd (not-analysed 3 (sym (ap (header_analysed x section room) (analysed-listed x section room rows q ∙ p)
      ∙ ap (λ (o : Option (List Placed)). on_declared o (λ ds. analyse_items h.encoding x (take h.end section) room (start_of h.encoding)
      (items_from h.encoding x.abbreviations (declared_in ds) (take h.end section) h.first.0).0
      (items_from h.encoding x.abbreviations (declared_in ds) (take h.end section) h.first.0).1)) d) ∙ q))
  by-declared q h p (Some ds) d =
      accepted-roles x tables_only section h ds rows (record { header = p; declared = d; analysis = q })

  by-header : analysis_of x section room ≡ analysed rows → (o : Result (Option UnitHeader) ℕ) → header_of x.setting.big_endian section ≡ o
      → (header_of x.setting.big_endian section ≡ Ok None) ⊎ UnitRoles x section
  unfolding analysis_of header_analysed
  by-header q (Ok None) p = inl p
  by-header q (Err n) p = absurd (not-analysed n (sym (ap (header_analysed x section room) (analysed-listed x section room rows q ∙ p)) ∙ q))
  by-header q (Ok (Some h)) p = inr (by-declared q h p (abbreviations_of x.abbreviations h.abbreviations) refl)

  -- THE LAW: where a unit is analysed, what is patched by roles is what its attributes hold by names and forms
  pub analysed-roles : analysis_of x section room ≡ analysed rows → (header_of x.setting.big_endian section ≡ Ok None) ⊎ UnitRoles x section
  analysed-roles q = by-header q (header_of x.setting.big_endian section) refl
