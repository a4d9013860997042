-- The references that location lists hold, and those that an attribute names: by its value, or in its location list. Assumes nothing.
use mathlib.Core.Path.{◌≡◌, refl, ap, sym, ◌∙◌, subst}
use Prim.Native.Nat.{ℕ, zero, suc, ◌-◌, ◌≤◌, ◌<◌}
use native.Mathlib.Omega.{arith}
use mathlib.Core.Bool.{Bool, true, false, not}
use mathlib.Core.List.{List, [], ◌∷◌, ◌++◌}
use Rattle.std.specs.Prelude.{None, Option, Some}
use Rattle.readers.specs.declared.operations.ListStep.{ListStep}
use mathlib.Core.Logic.{◌⊎◌, inl, inr, ⊎_elim, ◌↔◌}
use lib.ListN.{length}
use lib.Dec.{T, eqb, leb}
use mir.Facts.{leb_yes, yes_leb, eqb_yes, eqb_no, no_eqb}
use Rattle.readers.specs.Choice.{pick, ◌and◌, ◌or◌}
use Rattle.readers.proofs.Choice.{pick_yes, pick_no, pick-either, and_both}
use Rattle.readers.specs.Layout.{Piece}
use Rattle.readers.specs.Expression.{expression_in}
use Rattle.readers.specs.References.{flat_from}
use Rattle.readers.specs.Lists.{list_offset, list_start}
use Rattle.readers.specs.Steps.{list_entry_at}
use Rattle.readers.proofs.Steps.{entry-inside}
use Rattle.readers.specs.declared.cursor.Encoding.{Encoding}
use Rattle.readers.specs.declared.cursor.Cursor.{Cursor}
use Rattle.readers.specs.declared.fields.Field.{Field}
use Rattle.readers.specs.declared.operations.ListEntry.{ListEntry}
use Rattle.readers.specs.declared.operations.ListStep.TheVariants.{Entry, End}
use Rattle.marking.specs.Walking.{Next, on_next, walk}
use Rattle.marking.proofs.Walking.{Forward, walk_step}
use Rattle.readers.specs.EntryAttributes.{Valued}
use Rattle.marking.specs.EntryReferences.{ReferencesFound, found, refused, after, and_then, targets, expression_found, part_of, ListReached, reached_at, location_found, on_location, location_step, list_found, Locations, locations_by, attribute_found, attributes_found}
use Rattle.marking.proofs.LocationLists.{list_from, list-start}
use Rattle.marking.specs.Members.{Member, here, there}
use Rattle.laws.specs.SameReferences.{NamedIn, FormNames, ExprlocNames, FormReference, InExpression, InEntry, InList, this, later, location_list, ListedBy, ListReference}
use Rattle.marking.proofs.Members.{nothing-in, in_left, in_right, in_either}
use Rattle.laws.proofs.References.NamedPieces.{names_of, expression-names, expression-operations, only, pieces-members}
use Rattle.laws.proofs.References.EntryNames.{own_names, values_names}

found-same : (xs ys : List ℕ) → found xs ≡ found ys → ys ≡ xs
found-same xs ys q = cc

not_found : (xs ys : List ℕ) (n : ℕ) → refused xs n ≡ found ys → ⊥
not_found xs ys n q = let z : ◌≡◌ {A = ℕ} 0 1 = cc in omega arith

neither : (a b : Bool) → T (not (a or b)) → T (not a) × T (not b)
unfolding ◌or◌
neither true b t = absurd t
neither false b t = (tt, t)

one_of : (a b : Bool) → T (a or b) → T a ⊎ T b
unfolding ◌or◌
one_of true b t = inl tt
one_of false b t = inr t

module _ (e : Encoding) (s : List ℕ) (v : ℕ) where
  -- ---- an expression, an entry

  in-expression : (f : Field) (o : Option (List Piece)) → expression_in e (part_of s f) ≡ o → Member v (names_of o) ↔ InExpression e s v f
  unfolding names_of
  in-expression f None p = (λ m. absurd (nothing-in v m), λ q. let r : None ≡ Some q.pieces = sym p ∙ q.read in let z : ◌≡◌ {A = ℕ} 0 1 = cc in absurd (omega arith))
  in-expression f (Some ps) p = (
    λ m. record { pieces = ps; read = p; held = (pieces-members v ps).0 m },
    λ q. let r : Some q.pieces ≡ Some ps = sym q.read ∙ p in
        let z : q.pieces ≡ ps = cc in
        (pieces-members v ps).1 (subst (λ (l : List Piece). NamedIn l v) z q.held),
  )

  in_entry : (x : ListEntry) (ys : List ℕ) → location_found e s x ≡ found ys → Member v ys ↔ InEntry e s v x
  unfolding location_found
  in_entry x ys =
      let f : Field = pick (eqb x.kind 5) x.first x.third in
      pick-either (λ (g : ReferencesFound). g ≡ found ys → Member v ys ↔ InEntry e s v x) (eqb x.kind 1 or eqb x.kind 6) (found []) (expression_found e (part_of s f))
      (λ t q. (
        λ m. absurd (nothing-in v (subst (Member v) (found-same [] ys q) m)),
        λ i. absurd (⊎_elim (λ y. i.no_index (eqb_yes {a = x.kind} {b = 1} y)) (λ y. i.no_address (eqb_yes {a = x.kind} {b = 6} y)) (one_of (eqb x.kind 1) (eqb x.kind 6) t)),
      ))
      (λ t q.
      let n = neither (eqb x.kind 1) (eqb x.kind 6) t in
      let same : ys ≡ names_of (expression_in e (part_of s f)) = expression-names e (part_of s f) ys q in
      let iff : Member v (names_of (expression_in e (part_of s f))) ↔ InExpression e s v f = in-expression f (expression_in e (part_of s f)) refl in (
        λ m. record { no_index = eqb_no {a = x.kind} {b = 1} n.0; no_address = eqb_no {a = x.kind} {b = 6} n.1; inside = iff.0 (subst (Member v) same m) },
        λ i. subst (Member v) (sym same) (iff.1 i.inside),
      ))

  -- ---- a list, from a place on

  found-forward : (p : ListReached) (x : ListEntry) (f : ReferencesFound) → p.at < x.next.at → x.next.at ≤ length s → Forward reached_at (length s) p (on_location p.sofar x f)
  unfolding on_location Forward
  found-forward p x (found ys) lo hi = (lo, hi)
  found-forward p x (refused ys n) lo hi = tt

  list-forward : (p : ListReached) (o : Option ListStep) → list_entry_at e true s p.at ≡ o → Forward reached_at (length s) p (location_step e s p.sofar o)
  unfolding location_step Forward
  list-forward p (Some (Entry x)) q = found-forward p x (location_found e s x) (entry-inside e true s p.at x q).0 (entry-inside e true s p.at x q).1
  list-forward p (Some End) q = tt
  list-forward p None q = tt

  abbrev turn : ListReached → Next ListReached ReferencesFound
  turn p = location_step e s p.sofar (list_entry_at e true s p.at)

  list-turn : (at : ℕ) (sofar : List ℕ) (o : Option ListStep) → list_entry_at e true s at ≡ o → list_from e s at sofar ≡ on_next (location_step e s sofar o) (walk reached_at (length s) turn (found []))
  unfolding list_from
  list-turn at sofar o q =
      walk_step reached_at (length s) turn (found []) (λ p. list-forward p (list_entry_at e true s p.at) refl) (record { at = at; sofar = sofar })
      ∙ ap (λ (w : Option ListStep). on_next (location_step e s sofar w) (walk reached_at (length s) turn (found []))) q

  -- what follows an entry, by what is found in it
  list_on : (at : ℕ) (sofar : List ℕ) (x : ListEntry) → list_entry_at e true s at ≡ Some (Entry x) → (f : ReferencesFound) → location_found e s x ≡ f
      → list_from e s at sofar ≡ on_next (on_location sofar x f) (walk reached_at (length s) turn (found []))
  unfolding location_step
  list_on at sofar x q f p = list-turn at sofar (Some (Entry x)) q ∙ ap (λ (g : ReferencesFound). on_next (on_location sofar x g) (walk reached_at (length s) turn (found []))) p

  in-ended : {at : ℕ} → InList e s v at → list_entry_at e true s at ≡ Some End → ⊥
  in-ended (this x p i) q = let r : Some (Entry x) ≡ Some End = sym p ∙ q in let z : ◌≡◌ {A = ℕ} 0 1 = cc in omega arith
  in-ended (later x p i) q = let r : Some (Entry x) ≡ Some End = sym p ∙ q in let z : ◌≡◌ {A = ℕ} 0 1 = cc in omega arith

  in-here : {at : ℕ} → InList e s v at → (y : ListEntry) → list_entry_at e true s at ≡ Some (Entry y) → InEntry e s v y ⊎ InList e s v y.next.at
  in-here (this x p i) y q = let r : Some (Entry x) ≡ Some (Entry y) = sym p ∙ q in let z : x ≡ y = cc in inl (subst (λ (w : ListEntry). InEntry e s v w) z i)
  in-here (later x p i) y q = let r : Some (Entry x) ≡ Some (Entry y) = sym p ∙ q in let z : x ≡ y = cc in inr (subst (λ (w : ListEntry). InList e s v w.next.at) z i)

  abbrev From : ℕ → Type 0
  From at = (sofar ys : List ℕ) → list_from e s at sofar ≡ found ys → Member v ys ↔ (Member v sofar ⊎ InList e s v at)

  by-found : (at : ℕ) (x : ListEntry) → list_entry_at e true s at ≡ Some (Entry x) → From x.next.at → (f : ReferencesFound) → location_found e s x ≡ f → From at
  unfolding on_next on_location list_from
  by-found at x q ih (refused zs n) p sofar ys r = absurd (not_found (sofar ++ zs) ys n (sym (list_on at sofar x q (refused zs n) p) ∙ r))
  by-found at x q ih (found zs) p sofar ys r =
      let iff : Member v ys ↔ (Member v (sofar ++ zs) ⊎ InList e s v x.next.at) = ih (sofar ++ zs) ys (sym (list_on at sofar x q (found zs) p) ∙ r) in
      let one : Member v zs ↔ InEntry e s v x = in_entry x zs p in (
        λ m. ⊎_elim (λ n. ⊎_elim (λ k. inl k) (λ k. inr (this x q (one.0 k))) (in_either v sofar zs n)) (λ i. inr (later x q i)) (iff.0 m),
        λ m. ⊎_elim
            (λ n. iff.1 (inl (in_left v sofar zs n)))
            (λ i. ⊎_elim (λ k. iff.1 (inl (in_right v sofar zs (one.1 k)))) (λ k. iff.1 (inr k)) (in-here i x q)) m,
      )

  by-step : (at : ℕ) → ((n : ℕ) → at < n → n ≤ length s → From n) → (o : Option ListStep) → list_entry_at e true s at ≡ o → From at
  unfolding on_next location_step
  by-step at ih (Some (Entry x)) q sofar ys r =
      by-found at x q (ih x.next.at (entry-inside e true s at x q).0 (entry-inside e true s at x q).1) (location_found e s x) refl sofar ys r
  by-step at ih (Some End) q sofar ys r =
      let same : ys ≡ sofar = found-same sofar ys (sym (list-turn at sofar (Some End) q) ∙ r) in
      (λ m. inl (subst (Member v) same m), λ m. ⊎_elim (λ n. subst (Member v) (sym same) n) (λ i. absurd (in-ended i q)) m)
  by-step at ih None q sofar ys r = absurd (not_found sofar ys 5 (sym (list-turn at sofar None q) ∙ r))

  from-within : (k at : ℕ) → length s - at < k → From at
  from-within zero at h = absurd (omega arith)
  from-within (suc k) at h = by-step at (λ n lo hi. from-within k n (omega arith)) (list_entry_at e true s at) refl

  -- ---- the list of a value

  record ListAt (o : Option Cursor) : Type 0 where
    pub start : Cursor
    pub starts : o ≡ Some start
    pub inside : InList e s v start.at

  in_list : (o : Option Cursor) (ys : List ℕ) → list_found e s o ≡ found ys → Member v ys ↔ ListAt o
  unfolding list_found
  in_list None ys q = absurd (not_found [] ys 5 q)
  in_list (Some c) ys q =
      let iff : Member v ys ↔ (Member v [] ⊎ InList e s v c.at) = from-within (suc (length s - c.at)) c.at (omega arith) [] ys (sym (list-start e s c) ∙ q) in (
        λ m. ⊎_elim (λ n. absurd (nothing-in v n)) (λ i. record { start = c; starts = refl; inside = i }) (iff.0 m),
        λ l. let r : Some c ≡ Some l.start = l.starts in let z : c ≡ l.start = cc in iff.1 (inr (subst (λ (d : Cursor). InList e s v d.at) (sym z) l.inside)),
      )

-- ---- an attribute

module _ (e : Encoding) (unit locations : List ℕ) (base v : ℕ) where
  abbrev l : Locations
  l = locations_by unit locations base

  module _ (a : Valued) where
    abbrev form : ℕ
    form = a.value.form

    abbrev part : List ℕ
    part = part_of unit a.value.field

    abbrev own : List ℕ
    own = own_names e unit a.name form a.value.field

    abbrev Listed : Type 0
    Listed = ListedBy e locations v base a

    abbrev Same : List ℕ → ReferencesFound → Type 0
    Same ys f = f ≡ found ys → Member v ys ↔ (Member v own ⊎ Listed)

    own-only : (ys xs : List ℕ) → ys ≡ xs → own ≡ xs → (Listed → ⊥) → Member v ys ↔ (Member v own ⊎ Listed)
    own-only ys xs q p n = (
      λ m. inl (subst (Member v) (q ∙ sym p) m),
      λ m. ⊎_elim (λ k. subst (Member v) (p ∙ sym q) k) (λ i. absurd (n i)) m,
    )

    listed-only : (ys : List ℕ) → own ≡ [] → (o : Option Cursor) → a.name ≡ 0x02 → location_list e locations v base a.value ≡ o → list_found e locations o ≡ found ys
        → Member v ys ↔ (Member v own ⊎ Listed)
    listed-only ys p o n k q =
        let iff : Member v ys ↔ ListAt e locations v o = in_list e locations v o ys q in (
          λ m. let i : ListAt e locations v o = iff.0 m in inr (record { location = n; start = i.start; starts = k ∙ i.starts; inside = i.inside }),
          λ m. ⊎_elim (λ j. absurd (nothing-in v (subst (Member v) p j))) (λ i. iff.1 (record { start = i.start; starts = sym k ∙ i.starts; inside = i.inside })) m,
        )

    not-location : (a.name ≡ 0x02 → ⊥) → Listed → ⊥
    not-location n i = n i.location

    not-list : (form ≡ 0x22 → ⊥) → (form ≡ 0x17 → ⊥) → Listed → ⊥
    unfolding location_list
    not-list n m i =
        let r : None ≡ Some i.start = sym (pick_no _ _ _ (no_eqb {a = form} {b = 0x22} n) ∙ pick_no _ _ _ (no_eqb {a = form} {b = 0x17} m)) ∙ i.starts in
        let z : ◌≡◌ {A = ℕ} 0 1 = cc in omega arith

    is-not : (b : Bool) → T (not (not b)) → T b
    is-not true t = tt
    is-not false t = t

    -- what an attribute names: by its value, or in its location list
    in-attribute : (ys : List ℕ) → Same ys (attribute_found e l a)
    unfolding attribute_found own_names location_list
    in-attribute ys =
        pick-either (Same ys) (eqb a.name 0x01) (found []) _
        (λ t q. own-only ys [] (found-same [] ys q) (pick_yes _ _ _ t) (not-location (λ z. let w : a.name ≡ 0x01 = eqb_yes {a = a.name} {b = 0x01} t in omega arith)))
        (λ t1. pick-either (Same ys) (eqb a.declared 0x10) (refused [] 7) _
        (λ t q. absurd (not_found [] ys 7 q))
        (λ t2. pick-either (Same ys) (leb 0x11 form and leb form 0x15) (found (a.value.field.value ∷ [])) _
        (λ t q. own-only ys (a.value.field.value ∷ []) (found-same _ ys q) (pick_no _ _ _ t1 ∙ pick_yes _ _ _ t)
        (let h : form ≤ 0x15 = leb_yes {a = form} {b = 0x15} (and_both (leb 0x11 form) (leb form 0x15) t).1 in not-list (λ z. omega arith) (λ z. omega arith)))
        (λ t3. pick-either (Same ys) (eqb form 0x18) (expression_found e part) _
        (λ t q. own-only ys (names_of (expression_in e part)) (expression-names e part ys q) (pick_no _ _ _ t1 ∙ pick_no _ _ _ t3 ∙ pick_yes _ _ _ t)
        (let h : form ≡ 0x18 = eqb_yes {a = form} {b = 0x18} t in not-list (λ z. omega arith) (λ z. omega arith)))
        (λ t4.
        let None : own ≡ [] = pick_no _ _ _ t1 ∙ pick_no _ _ _ t3 ∙ pick_no _ _ _ t4 in
        pick-either (Same ys) (not (eqb a.name 0x02)) (found []) _
        (λ t q. own-only ys [] (found-same [] ys q) None (not-location (eqb_no {a = a.name} {b = 0x02} t)))
        (λ t5.
        let n : a.name ≡ 0x02 = eqb_yes {a = a.name} {b = 0x02} (is-not (eqb a.name 0x02) t5) in
        pick-either (Same ys) (eqb form 0x22) (list_found e locations (list_offset e locations base a.value.field.value)) _
        (λ t q. listed-only ys None (list_offset e locations base a.value.field.value) n (pick_yes _ _ _ t) q)
        (λ t6. pick-either (Same ys) (eqb form 0x17) (list_found e locations (list_start locations a.value.field.value)) (found [])
        (λ t q. listed-only ys None (list_start locations a.value.field.value) n (pick_no _ _ _ t6 ∙ pick_yes _ _ _ t) q)
        (λ t7 q. own-only ys [] (found-same [] ys q) None (not-list (eqb_no {a = form} {b = 0x22} t6) (eqb_no {a = form} {b = 0x17} t7)))))))))

    -- ---- what its value names, by its form

    abbrev Named : Type 0
    Named = (a.name ≡ 0x01 → ⊥) × (FormNames e unit v a.value ⊎ ExprlocNames e unit v a.value)

    abbrev ByForm : ReferencesFound → Type 0
    ByForm f = (ys : List ℕ) → f ≡ found ys → Member v own ↔ Named

    none_named : own ≡ [] → (Named → ⊥) → Member v own ↔ Named
    none_named p n = (λ m. absurd (nothing-in v (subst (Member v) p m)), λ i. absurd (n i))

    not-both : (a b : Bool) → T (not (a and b)) → T a → T b → ⊥
    unfolding ◌and◌
    not-both true true t u w = t
    not-both true false t u w = w
    not-both false b t u w = u

    by_form_lem : ByForm (attribute_found e l a)
    unfolding attribute_found own_names
    by_form_lem =
        pick-either ByForm (eqb a.name 0x01) (found []) _
        (λ t ys q. none_named (pick_yes _ _ _ t) (λ i. i.0 (eqb_yes {a = a.name} {b = 0x01} t)))
        (λ t1.
        let n : a.name ≡ 0x01 → ⊥ = eqb_no {a = a.name} {b = 0x01} t1 in
        pick-either ByForm (eqb a.declared 0x10) (refused [] 7) _
        (λ t ys q. absurd (not_found [] ys 7 q))
        (λ t2. pick-either ByForm (leb 0x11 form and leb form 0x15) (found (a.value.field.value ∷ [])) _
        (λ t ys q.
        let p : own ≡ a.value.field.value ∷ [] = pick_no _ _ _ t1 ∙ pick_yes _ _ _ t in
        let b = and_both (leb 0x11 form) (leb form 0x15) t in
        let lo : 0x11 ≤ form = leb_yes {a = 0x11} {b = form} b.0 in
        let hi : form ≤ 0x15 = leb_yes {a = form} {b = 0x15} b.1 in (
          λ m. (n, inl (record { from = lo; upto = hi; is = only v _ (subst (Member v) p m) })),
          λ i. subst (Member v) (sym p) (⊎_elim (λ k. here k.is) (λ k. let z : form ≡ 0x18 = k.exprloc in absurd (omega arith)) i.1),
        ))
        (λ t3. pick-either ByForm (eqb form 0x18) (expression_found e part) _
        (λ t ys q.
        let p : own ≡ names_of (expression_in e part) = pick_no _ _ _ t1 ∙ pick_no _ _ _ t3 ∙ pick_yes _ _ _ t in
        let z : form ≡ 0x18 = eqb_yes {a = form} {b = 0x18} t in
        let same : targets (flat_from e part 0) ≡ names_of (expression_in e part) = expression-operations e part ys q in (
          λ m. (n, inr (record { exprloc = z; among = subst (Member v) (p ∙ sym same) m })),
          λ i. ⊎_elim (λ k. let w : form ≤ 0x15 = k.upto in absurd (omega arith)) (λ k. subst (Member v) (same ∙ sym p) k.among) i.1,
        ))
        (λ t4 ys q. none_named (pick_no _ _ _ t1 ∙ pick_no _ _ _ t3 ∙ pick_no _ _ _ t4)
        (λ i. ⊎_elim
        (λ k. not-both (leb 0x11 form) (leb form 0x15) t3 (yes_leb {a = 0x11} {b = form} k.from) (yes_leb {a = form} {b = 0x15} k.upto))
        (λ k. eqb_no {a = form} {b = 0x18} t4 k.exprloc)
        i.1)))))

  -- ---- the attributes of an entry

  record Both (f g : ReferencesFound) (names : List ℕ) : Type 0 where
    pub ys : List ℕ
    pub zs : List ℕ
    pub first : f ≡ found ys
    pub next : g ≡ found zs
    pub names_are : names ≡ ys ++ zs

  both_found : (f g : ReferencesFound) (names : List ℕ) → and_then f g ≡ found names → Both f g names
  unfolding and_then after
  both_found (found ys) (found zs) names q = record { ys = ys; zs = zs; first = refl; next = refl; names_are = found-same (ys ++ zs) names q }
  both_found (found ys) (refused zs n) names q = absurd (not_found (ys ++ zs) names n q)
  both_found (refused ys n) g names q = absurd (not_found ys names n q)

  abbrev Listed' : List Valued → Type 0
  Listed' values = ListReference e locations v base values

  listed_here : (a : Valued) (rest : List Valued) → Listed' (a ∷ rest) → ListedBy e locations v base a ⊎ Listed' rest
  listed_here a rest i = by_place i.attribute i.among i.listed
    where
      by_place : (b : Valued) → Member b (a ∷ rest) → ListedBy e locations v base b → ListedBy e locations v base a ⊎ Listed' rest
      by_place b (here q) k = inl (subst (ListedBy e locations v base) q k)
      by_place b (there m) k = inr (record { attribute = b; among = m; listed = k })

  -- THE names of an entry's attributes: those of their values, and those in location lists
  pub in-attributes : (values : List Valued) (names : List ℕ) → attributes_found e l values ≡ found names
      → Member v names ↔ (Member v (values_names e unit values) ⊎ ListReference e locations v base values)
  unfolding attributes_found values_names
  in-attributes [] names q = (
    λ m. absurd (nothing-in v (subst (Member v) (found-same [] names q) m)),
    λ m. ⊎_elim (λ n. absurd (nothing-in v n)) (λ i. absurd (nothing-in i.attribute i.among)) m,
  )
  in-attributes (a ∷ rest) names q =
      let b : Both (attribute_found e l a) (attributes_found e l rest) names = both_found (attribute_found e l a) (attributes_found e l rest) names q in
      let one : Member v b.ys ↔ (Member v (own a) ⊎ Listed a) = in-attribute a b.ys b.first in
      let more : Member v b.zs ↔ (Member v (values_names e unit rest) ⊎ Listed' rest) = in-attributes rest b.zs b.next in
      let left : Member v b.ys → Member v names = (λ n. subst (Member v) (sym b.names_are) (in_left v b.ys b.zs n)) in
      let right : Member v b.zs → Member v names = (λ n. subst (Member v) (sym b.names_are) (in_right v b.ys b.zs n)) in (
        λ m. ⊎_elim
            (λ n. ⊎_elim (λ k. inl (in_left v (own a) (values_names e unit rest) k)) (λ k. inr (record { attribute = a; among = here refl; listed = k })) (one.0 n))
            (λ n. ⊎_elim (λ k. inl (in_right v (own a) (values_names e unit rest) k)) (λ k. inr (record { attribute = k.attribute; among = there k.among; listed = k.listed })) (more.0 n))
            (in_either v b.ys b.zs (subst (Member v) b.names_are m)),
        λ m. ⊎_elim
            (λ n. ⊎_elim (λ k. left (one.1 (inl k))) (λ k. right (more.1 (inl k))) (in_either v (own a) (values_names e unit rest) n))
            (λ i. ⊎_elim (λ k. left (one.1 (inr k))) (λ k. right (more.1 (inr k))) (listed_here a rest i)) m,
      )

  -- and those of their values, by their forms
  named_here : (a : Valued) (rest : List Valued) → FormReference e unit v (a ∷ rest) → Named a ⊎ FormReference e unit v rest
  named_here a rest i = by_place i.attribute i.among (i.no_sibling, i.named)
    where
      by_place : (b : Valued) → Member b (a ∷ rest) → Named b → Named a ⊎ FormReference e unit v rest
      by_place b (here q) k = inl (subst Named q k)
      by_place b (there m) k = inr (record { attribute = b; among = m; no_sibling = k.0; named = k.1 })

  pub in-values : (values : List Valued) (names : List ℕ) → attributes_found e l values ≡ found names
      → Member v (values_names e unit values) ↔ FormReference e unit v values
  unfolding attributes_found values_names
  in-values [] names q = (λ m. absurd (nothing-in v m), λ i. absurd (nothing-in i.attribute i.among))
  in-values (a ∷ rest) names q =
      let b : Both (attribute_found e l a) (attributes_found e l rest) names = both_found (attribute_found e l a) (attributes_found e l rest) names q in
      let one : Member v (own a) ↔ Named a = by_form_lem a b.ys b.first in
      let more : Member v (values_names e unit rest) ↔ FormReference e unit v rest = in-values rest b.zs b.next in (
        λ m. ⊎_elim
            (λ k. let i = one.0 k in record { attribute = a; among = here refl; no_sibling = i.0; named = i.1 })
            (λ k. let i = more.0 k in record { attribute = i.attribute; among = there i.among; no_sibling = i.no_sibling; named = i.named })
            (in_either v (own a) (values_names e unit rest) m),
        λ i. ⊎_elim
            (λ k. in_left v (own a) (values_names e unit rest) (one.1 k))
            (λ k. in_right v (own a) (values_names e unit rest) (more.1 k))
            (named_here a rest i),
      )
