-- The emission of an attribute at each place where it is decided. Assumes nothing.
use mathlib.Core.Path.{◌≡◌, refl, ap, sym, ◌∙◌}
use Prim.Native.Nat.{ℕ, ◌-◌, ◌≤◌}
use mathlib.Core.Bool.{Bool, false}
use Rattle.std.specs.Prelude.{Option, Some, Ok, Result}
use mathlib.Core.List.{List}
use lib.ListN.{length, drop}
use lib.Dec.{T, leb}
use lib.Pow.{are_bytes}
use native.Mathlib.Omega.{arith}
use mir.Facts.{yes_eqb, no_eqb}
use Rattle.readers.specs.Choice.{pick, ◌and◌}
use Rattle.readers.proofs.Choice.{pick_yes, pick_no}
use Rattle.readers.specs.Layout.{index, Piece, Read, read_in, write_all, patch_all, patch_pieces, bytes_of, number_bytes}
use Rattle.readers.specs.Expression.{expression_in}
use Rattle.readers.specs.References.{encoded_by}
use Rattle.readers.specs.Forms.{use_of, form_token, attribute_layout, list_form}
use Rattle.readers.specs.Entries.{attribute_at}
use Rattle.readers.specs.declared.cursor.Encoding.{Encoding}
use Rattle.readers.specs.declared.attributes.Attribute.{Attribute}
use Rattle.marking.specs.EntryReferences.{part_of}
use Rattle.rewriting.specs.Places.{Place, new_of, sibling_of}
use Rattle.rewriting.specs.Indices.{rank_or}
use Rattle.rewriting.specs.Inner.Written.{as_mapped}
use Rattle.rewriting.specs.Rewriting.{Lists, new_value, pieces_refusal, reads_refusal, or_self, list_at}
use Rattle.rewriting.specs.Emission.{between}
use Rattle.rewriting.specs.Inner.Plans.{Copies}
use Rattle.rewriting.specs.Inner.Emission.{Wide, number_refusal, offset_refusal, leb_form, Lent}
use Rattle.readers.specs.declared.offsets.UnitOffset.{UnitOffset}
use Rattle.rewriting.proofs.WritePass.Emissions.{EmitsAt}
use Rattle.rewriting.proofs.MapPass.Exact.{token-ok}
use Rattle.rewriting.proofs.WritePass.ValueForms.{only_absolute, expression-form, reference-form, ranges-form, locations-form, strings-form, copied-use, copied-plain, own}
use Rattle.rewriting.proofs.WritePass.ValueParts.{Value, value_of, direct-form}
use Rattle.rewriting.proofs.WritePass.ValueEmits.{expression-emits, reference-emits, sibling-emits, index-emits, copied-emits, copied-whole}

module _ (e : Encoding) (unit : List ℕ) (values name declared : ℕ) (value : Attribute) (b : T (are_bytes unit)) (i : values ≤ length unit)
    (attribute : attribute_at e unit values name declared ≡ Some value) (rs : List Read) (rest : List ℕ)
    (deep : read_in e.big_endian (expression_in e) (attribute_layout e name declared) (drop values unit) ≡ Some (rs, rest))
    (out : List ℕ) (at to : ℕ) (out₁ : List ℕ)
    (first : values ≤ value.field.start → value.field.start ≤ length unit → EmitsAt 0 (between unit values value.field.start) out at (Ok to) out₁)
    (lists : Lists) (map : List Place) (depth : ℕ) where
  abbrev w : Value e unit values name value rs
  w = value_of e unit values name declared value i attribute rs rest deep

  abbrev Whole : Result ℕ ℕ → List ℕ → Type 0
  Whole r out₂ = EmitsAt (reads_refusal lists map depth rs) (write_all e.big_endian (patch_all (new_value lists map depth) rs)) out at r out₂

  pub attribute-expression : value.form ≡ 0x18 → (part : List ℕ) → part ≡ part_of unit value.field → (r : Result ℕ ℕ) (out₂ : List ℕ)
      → ((pieces : List Piece) → expression_in e part ≡ Some pieces → EmitsAt (pieces_refusal lists map depth pieces) (bytes_of e.big_endian (patch_pieces (new_value lists map depth) pieces)) out₁ to r out₂)
      → Whole r out₂
  attribute-expression x part p r out₂ h =
      expression-emits e unit values name value rs w b out at to out₁ first lists map depth (expression-form e name value.form x) part p r out₂ h

  module _ (leb' : Bool) (p : leb' ≡ leb_form value.form) (n : ℕ) (q : n ≡ value.field.end - value.field.start) (r : Result ℕ ℕ) (out₂ : List ℕ) where
    abbrev Offsets : Option UnitOffset → Type 0
    Offsets new = (o : Option ℕ) (v : ℕ) → new ≡ as_mapped o → Wide leb' n → EmitsAt (offset_refusal (encoded_by leb' n) v o) (number_bytes e.big_endian (encoded_by leb' n) (or_self v o)) out₁ to r out₂

    pub attribute-sibling : 0x11 ≤ value.form → value.form ≤ 0x15 → name ≡ 0x01 → (new : Option UnitOffset) → new ≡ as_mapped (sibling_of map depth value.field.value) → Offsets new → Whole r out₂
    attribute-sibling lo hi k new x h =
        sibling-emits e unit values name value rs w b out at to out₁ first lists map depth (own e name) (reference-form e name value.form lo hi) leb' p n q
        (pick_yes _ _ _ (yes_eqb {a = name} {b = 0x01} k)) r out₂ new x h

    pub attribute-reference : 0x11 ≤ value.form → value.form ≤ 0x15 → (name ≡ 0x01 → ⊥) → (new : Option UnitOffset) → new ≡ as_mapped (new_of map value.field.value) → Offsets new → Whole r out₂
    attribute-reference lo hi k new x h =
        reference-emits e unit values name value rs w b out at to out₁ first lists map depth (own e name) (reference-form e name value.form lo hi) leb' p n q
        (pick_no _ _ _ (no_eqb {a = name} {b = 0x01} k)) r out₂ new x h

    module _ (v : ℕ) (list : List ℕ) (count : Option ℕ) (is : (o : Option (List ℕ)) → Lent o list count → v ≡ rank_or o value.field.value) (kind : ℕ) (k : kind ≡ list_form value.form)
        (h : Wide leb' n → EmitsAt (number_refusal (encoded_by leb' n) v) (number_bytes e.big_endian (encoded_by leb' n) v) out₁ to r out₂) where
      pub attribute-ranges : kind ≡ 0 → Lent lists.ranges list count → Whole r out₂
      unfolding list_at pick
      attribute-ranges z lent =
          index-emits e unit values name value rs w b out at to out₁ first lists map depth (index 0) (ranges-form e name value.form (sym k ∙ z)) leb' p n q
          0 refl v (is lists.ranges lent) r out₂ h

      pub attribute-locations : kind ≡ 1 → Lent lists.locations list count → Whole r out₂
      unfolding list_at pick
      attribute-locations z lent =
          index-emits e unit values name value rs w b out at to out₁ first lists map depth (index 1) (locations-form e name value.form (sym k ∙ z)) leb' p n q
          1 refl v (is lists.locations lent) r out₂ h

      pub attribute-strings : kind ≡ 2 → Lent lists.strings list count → Whole r out₂
      unfolding list_at pick
      attribute-strings z lent =
          index-emits e unit values name value rs w b out at to out₁ first lists map depth (index 2) (strings-form e name value.form (sym k ∙ z)) leb' p n q
          2 refl v (is lists.strings lent) r out₂ h

  pub attribute-copied : (value.form ≡ 0x18 → ⊥) → (leb 0x11 value.form and leb value.form 0x15) ≡ false → (kind : ℕ) → kind ≡ list_form value.form
      → (kind ≡ 0 → ⊥) → (kind ≡ 1 → ⊥) → (kind ≡ 2 → ⊥) → (to₂ : ℕ) (out₂ : List ℕ)
      → (value.field.start ≤ value.field.end → value.field.end ≤ length unit → EmitsAt 0 (between unit value.field.start value.field.end) out₁ to (Ok to₂) out₂)
      → Whole (Ok to₂) out₂
  attribute-copied x y kind k n0 n1 n2 to₂ out₂ h =
      copied-emits e unit values name value rs w b out at to out₁ first lists map depth
      (token-ok only_absolute e (use_of name value.form) (form_token value.form) (copied-use e name value.form x y (λ z. n0 (k ∙ z)) (λ z. n1 (k ∙ z)) (λ z. n2 (k ∙ z))))
      (copied-plain e name value.form x y (λ z. n0 (k ∙ z)) (λ z. n1 (k ∙ z)) (λ z. n2 (k ∙ z)))
      to₂ out₂ h

-- at once, where its declared form says so
pub attribute-whole : (e : Encoding) (unit : List ℕ) (values name declared : ℕ) (value : Attribute) → T (are_bytes unit) → values ≤ length unit
    → attribute_at e unit values name declared ≡ Some value → (rs : List Read) (rest : List ℕ)
    → read_in e.big_endian (expression_in e) (attribute_layout e name declared) (drop values unit) ≡ Some (rs, rest)
    → (lists : Lists) (map : List Place) (depth : ℕ) → Copies declared → (out : List ℕ) (at to₂ : ℕ) (out₂ : List ℕ)
    → EmitsAt 0 (between unit values value.field.end) out at (Ok to₂) out₂
    → EmitsAt (reads_refusal lists map depth rs) (write_all e.big_endian (patch_all (new_value lists map depth) rs)) out at (Ok to₂) out₂
attribute-whole e unit values name declared value b i attribute rs rest deep lists map depth c out at to₂ out₂ h =
    let f : declared ≡ value.form = direct-form e unit values name declared value i attribute c.no_indirect in
    let k : 3 ≡ list_form value.form = sym c.no_index ∙ ap list_form f in
    let x : value.form ≡ 0x18 → ⊥ = (λ z. c.no_expression (f ∙ z)) in
    let y : (leb 0x11 value.form and leb value.form 0x15) ≡ false = ap (λ g. leb 0x11 g and leb g 0x15) (sym f) ∙ c.no_reference in
    let n0 : list_form value.form ≡ 0 → ⊥ = (λ z. omega (arith, k, z)) in
    let n1 : list_form value.form ≡ 1 → ⊥ = (λ z. omega (arith, k, z)) in
    let n2 : list_form value.form ≡ 2 → ⊥ = (λ z. omega (arith, k, z)) in
    copied-whole e unit values name value rs (value_of e unit values name declared value i attribute rs rest deep) b
    (token-ok only_absolute e (use_of name value.form) (form_token value.form) (copied-use e name value.form x y n0 n1 n2))
    (copied-plain e name value.form x y n0 n1 n2)
    lists map depth out at to₂ out₂ h
