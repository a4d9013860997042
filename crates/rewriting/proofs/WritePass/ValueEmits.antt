-- The emission of a value, by its form: an expression, a reference, an index, or verbatim bytes. Assumes nothing.
use mathlib.Core.Path.{◌≡◌, refl, ap, ap₂, sym, ◌∙◌, subst}
use Prim.Native.Nat.{ℕ, suc, ◌+◌, ◌-◌, ◌≤◌}
use native.Mathlib.Omega.{arith}
use mathlib.Core.Bool.{Bool, false}
use Rattle.std.specs.Prelude.{Option, Some, Ok, Result}
use mathlib.Core.List.{List, [], ◌∷◌, ◌++◌, append_assoc, append-nil}
use lib.ListN.{length, take, drop, length-append}
use lib.Seq.{length-take-le, take_at, drop-drop}
use lib.Dec.{T}
use lib.Pow.{are_bytes}
use mir.Facts.{leb_yes, yes_leb}
use Rattle.readers.specs.Choice.{pick, bind}
use Rattle.readers.proofs.Choice.{check-yes, bind-at, All, all-some, all_of, all-check, all-bind, all_both, all-triv}
use Rattle.readers.specs.Numbers.{Groups, uleb}
use Rattle.readers.specs.Layout.{Kind, Encoded, infixed, inleb, width, Role, reference, type_reference, sibling, index, absolute, link, expression, Piece, verbatim, patchable, Read, ReadOf, ReadFound, as_bytes, number_in, as_link, as_expression, token_in, number_bytes, bytes_of, piece_bytes, write_all, patch_piece, patch_pieces, patch_all, Fit}
use Rattle.readers.proofs.LayoutLaws.{kind_of, NumberLaw, number-law, LebLaw, uleb-law, length-number}
use Rattle.readers.specs.Expression.{expression_in}
use Rattle.readers.specs.References.{encoded_by}
use Rattle.readers.specs.Forms.{value_token}
use Rattle.readers.specs.Fields.{linked_value, size, field_of, as_field, token_at}
use Rattle.readers.specs.declared.cursor.Encoding.{Encoding}
use Rattle.readers.specs.declared.fields.Field.{Field}
use Rattle.readers.specs.declared.attributes.Attribute.{Attribute}
use Rattle.readers.proofs.OperationPieces.{is_leb, is_expression}
use Rattle.readers.proofs.Deep.{plain-token}
use Rattle.readers.proofs.Tokens.{Inside, token-inside}
use Rattle.marking.specs.EntryReferences.{part_of}
use Rattle.rewriting.specs.Places.{Place, new_of, sibling_of}
use Rattle.rewriting.specs.Indices.{rank_or}
use Rattle.rewriting.specs.Inner.Written.{as_mapped}
use Rattle.rewriting.specs.Rewriting.{Lists, new_value, has_place, piece_refusal, pieces_refusal, reads_refusal, or_next, or_self, list_at}
use Rattle.rewriting.specs.Emission.{between}
use Rattle.rewriting.specs.Inner.Emission.{Wide, number_refusal, offset_refusal, leb_form}
use Rattle.readers.specs.declared.offsets.UnitOffset.{UnitOffset}
use Rattle.rewriting.proofs.WritePass.Emissions.{EmitsAt, emits-as, emits_then}
use Rattle.rewriting.proofs.MapPass.Exact.{token_ok, Right, Rights, ExactReader, Exactly, TokenExact, number-exact, token-exact, are-drop}
use Rattle.rewriting.proofs.WritePass.Splices.{next-zero, absolute-none, reference-refusal, Sound, fit-sound, wide_of}
use Rattle.rewriting.proofs.WritePass.ValueForms.{only_absolute, form_number_is, LinkForm}
use Rattle.rewriting.proofs.WritePass.ValueParts.{between-from, between_join, next_last, Value}
use Rattle.rewriting.proofs.KeptPass.FormTokens.{token-known}

-- ---- refusals by role

module _ (lists : Lists) (map : List Place) (depth : ℕ) where
  sibling-refusal : (e : Encoded) (v : ℕ) → piece_refusal lists map depth (patchable e sibling v) ≡ offset_refusal e v (sibling_of map depth v)
  unfolding piece_refusal offset_refusal number_refusal has_place new_value
  sibling-refusal e v = refl

  index-refusal : (e : Encoded) (k v : ℕ) → piece_refusal lists map depth (patchable e (index k) v) ≡ number_refusal e (rank_or (list_at lists k) v)
  unfolding piece_refusal number_refusal has_place new_value pick
  index-refusal e k v = refl

  -- pieces that stay
  stay-bytes : (big : Bool) (ps : List Piece) → Rights only_absolute ps → bytes_of big (patch_pieces (new_value lists map depth) ps) ≡ bytes_of big ps
  unfolding bytes_of patch_pieces patch_piece piece_bytes Rights Right only_absolute new_value
  stay-bytes big [] h = refl
  stay-bytes big (verbatim l ∷ ps) h = ap (λ x. l ++ x) (stay-bytes big ps h.1)
  stay-bytes big (patchable e reference v ∷ ps) h = absurd h.0.1
  stay-bytes big (patchable e type_reference v ∷ ps) h = absurd h.0.1
  stay-bytes big (patchable e sibling v ∷ ps) h = absurd h.0.1
  stay-bytes big (patchable e (index k) v ∷ ps) h = absurd h.0.1
  stay-bytes big (patchable e absolute v ∷ ps) h = ap (λ x. number_bytes big e v ++ x) (stay-bytes big ps h.1)

  copied-stays : (l : List ℕ) → piece_refusal lists map depth (verbatim l) ≡ 0
  unfolding piece_refusal
  copied-stays l = refl

  stay-refusal : (ps : List Piece) → Rights only_absolute ps → pieces_refusal lists map depth ps ≡ 0
  unfolding pieces_refusal Rights Right only_absolute
  stay-refusal [] h = refl
  stay-refusal (verbatim l ∷ ps) h = ap₂ or_next (copied-stays l) (stay-refusal ps h.1) ∙ next-zero 0
  stay-refusal (patchable e reference v ∷ ps) h = absurd h.0.1
  stay-refusal (patchable e type_reference v ∷ ps) h = absurd h.0.1
  stay-refusal (patchable e sibling v ∷ ps) h = absurd h.0.1
  stay-refusal (patchable e (index k) v ∷ ps) h = absurd h.0.1
  stay-refusal (patchable e absolute v ∷ ps) h = ap₂ or_next (absolute-none lists map depth e v h.0.0) (stay-refusal ps h.1) ∙ next-zero 0

  one_link : (e : Encoded) (r : Role) (v : ℕ) → pieces_refusal lists map depth (patchable e r v ∷ []) ≡ piece_refusal lists map depth (patchable e r v)
  unfolding pieces_refusal
  one_link e r v = next_last (piece_refusal lists map depth (patchable e r v))

  first-copied : (l : List ℕ) (ps : List Piece) → pieces_refusal lists map depth (verbatim l ∷ ps) ≡ pieces_refusal lists map depth ps
  unfolding pieces_refusal
  first-copied l ps = ap (λ n. or_next n (pieces_refusal lists map depth ps)) (copied-stays l) ∙ next-zero _

-- ---- tokens

encoded-is : (c : Encoded) → encoded_by (is_leb (kind_of c)) (width c) ≡ c
unfolding encoded_by is_leb kind_of width
encoded-is (infixed w) = refl
encoded-is (inleb n) = ap inleb (let h : suc n - 1 ≡ n = omega arith in h)

record LinkRead (kind : Kind) (role : Role) (r : ReadOf) : Type 0 where
  pub code : Encoded
  pub number : ℕ
  pub sort : kind_of code ≡ kind
  pub fit : Fit code number
  pub is : r.0 ≡ record { seen = 0; start = 0; pieces = patchable code role number ∷ [] }

link-read : (e : Encoding) (kind : Kind) (role : Role) (s : List ℕ) → T (are_bytes s) → All (LinkRead kind role) (token_in e.big_endian (expression_in e) (link kind role) s)
unfolding token_in as_link
link-read e kind role s h =
    all-bind (λ (t : ReadFound). NumberLaw e.big_endian kind s t × ((number_bytes e.big_endian t.0 t.1 ++ t.2 ≡ s) × Fit t.0 t.1)) _ (number_in e.big_endian kind s) _
    (all_both _ _ _ (number-law e.big_endian kind s) (number-exact e.big_endian only_absolute kind s h))
    (λ t q p. all-some (LinkRead kind role) (record { code = t.0; number = t.1; sort = p.0.0; fit = p.1.1; is = refl }))

record ExpressionRead (e : Encoding) (s : List ℕ) (r : ReadOf) : Type 0 where
  pub t : Groups
  pub there : uleb s ≡ Some t
  pub law : LebLaw uleb s t
  pub fits_in : t.1 ≤ length t.2
  pub pieces : List Piece
  pub inner : expression_in e (take t.1 t.2) ≡ Some pieces
  pub is : r.0 ≡ record { seen = 0; start = suc t.0; pieces = verbatim (take (suc t.0) s) ∷ pieces }

expression-read : (e : Encoding) (s : List ℕ) → All (ExpressionRead e s) (token_in e.big_endian (expression_in e) expression s)
unfolding token_in as_expression
expression-read e s =
    all-bind (LebLaw uleb s) _ (uleb s) _ (uleb-law s)
    (λ t q law. all-check _ _ _ (λ u.
    all-bind _ (ExpressionRead e s) (expression_in e (take t.1 t.2)) _ (all-triv _)
    (λ ps k _. all-some (ExpressionRead e s) (record { t = t; there = q; law = law; fits_in = leb_yes u; pieces = ps; inner = k; is = refl }))))

as-bytes-exact : (big : Bool) (ok : Role → Bool) → ExactReader big ok as_bytes
unfolding as_bytes bytes_of piece_bytes Rights Right
as-bytes-exact big ok s h = all-some (Exactly big ok s) (append-nil s, (tt, tt))

field_is : (big : Bool) (o : ℕ) (r : ReadOf) (f : Field) → as_field big o (Some r) ≡ Some f → field_of big o r.0 ≡ f
unfolding as_field
field_is big o r f h = cc

-- ---- a value

module _ (e : Encoding) (unit : List ℕ) (values name : ℕ) (value : Attribute) (rs : List Read) (w : Value e unit values name value rs)
    (b : T (are_bytes unit)) where
  abbrev big : Bool
  big = e.big_endian

  abbrev f : ℕ
  f = value.form

  abbrev there : List ℕ
  there = drop w.o unit

  known : value_token e w.indirect name f ≡ form_number_is e name f
  known = token-known e w.indirect name f big (expression_in e) there (w.v, w.rest) w.deep

  deeply : token_in big (expression_in e) (form_number_is e name f) there ≡ Some (w.v, w.rest)
  deeply = ap (λ g. token_in big (expression_in e) g there) (sym known) ∙ w.deep

  shallowly : as_field big w.o (token_in big as_bytes (form_number_is e name f) there) ≡ Some value.field
  unfolding token_at
  shallowly = ap (λ g. as_field big w.o (token_in big as_bytes g there)) (sym known) ∙ w.shallow

  within : Inside unit w.o value.field
  within = token-inside e unit w.o value.field _ w.shallow

  pub start-after : values ≤ value.field.start
  start-after = omega (arith, w.after, within.after)

  pub start-inside : value.field.start ≤ length unit
  start-inside = omega (arith, w.inside, within.forward, within.within)

  pub end-inside : value.field.end ≤ length unit
  end-inside = omega (arith, w.inside, within.within)

  -- the field of a token that is no expression
  plain-field : is_expression (form_number_is e name f) ≡ false → field_of big w.o w.v ≡ value.field
  plain-field p =
      field_is big w.o (w.v, w.rest) value.field
      (ap (as_field big w.o) (sym deeply ∙ plain-token big (expression_in e) as_bytes (form_number_is e name f) there p) ∙ shallowly)

  -- what is verbatim
  module _ (u : T (token_ok only_absolute (form_number_is e name f))) (p : is_expression (form_number_is e name f) ≡ false) where
    exactly : TokenExact big only_absolute there (w.v, w.rest)
    exactly =
        all_of (TokenExact big only_absolute there) (token-exact big only_absolute as_bytes (as-bytes-exact big only_absolute) (form_number_is e name f) u there (are-drop w.o unit b))
        (plain-token big as_bytes (expression_in e) (form_number_is e name f) there p ∙ deeply)

    copied-end : value.field.end ≡ w.o + length (bytes_of big w.v.pieces)
    unfolding field_of size
    copied-end = ap (λ (y : Field). y.end) (sym (plain-field p))

    copied-bytes : bytes_of big w.v.pieces ≡ between unit w.o value.field.end
    copied-bytes =
        sym (take_at (bytes_of big w.v.pieces) w.rest (length (bytes_of big w.v.pieces)) refl)
        ∙ ap (take (length (bytes_of big w.v.pieces))) exactly.0
        ∙ sym (between-from unit w.o (length (bytes_of big w.v.pieces)))
        ∙ ap (between unit w.o) (sym copied-end)

    pub copied-whole : (lists : Lists) (map : List Place) (depth : ℕ) (out : List ℕ) (at to₂ : ℕ) (out₂ : List ℕ)
        → EmitsAt 0 (between unit values value.field.end) out at (Ok to₂) out₂
        → EmitsAt (reads_refusal lists map depth rs) (write_all big (patch_all (new_value lists map depth) rs)) out at (Ok to₂) out₂
    copied-whole lists map depth out at to₂ out₂ h =
        emits-as (sym (w.refused lists map depth ∙ stay-refusal lists map depth w.v.pieces exactly.1))
        (sym (w.written (new_value lists map depth)
        ∙ ap (λ y. between unit values w.o ++ y) (stay-bytes lists map depth big w.v.pieces exactly.1 ∙ copied-bytes)
        ∙ between_join unit values w.o value.field.end w.after (omega (arith, within.after, within.forward))))
        h

  module _ (out : List ℕ) (at to : ℕ) (out₁ : List ℕ)
      (first : values ≤ value.field.start → value.field.start ≤ length unit → EmitsAt 0 (between unit values value.field.start) out at (Ok to) out₁)
      (lists : Lists) (map : List Place) (depth : ℕ) where
    abbrev Whole : Result ℕ ℕ → List ℕ → Type 0
    Whole r out₂ = EmitsAt (reads_refusal lists map depth rs) (write_all big (patch_all (new_value lists map depth) rs)) out at r out₂

    -- what stands before the payload, and then the rest
    after-start : (n : ℕ) (bytes : List ℕ) (r : Result ℕ ℕ) (out₂ : List ℕ) → n ≡ pieces_refusal lists map depth w.v.pieces
        → between unit values value.field.start ++ bytes ≡ between unit values w.o ++ bytes_of big (patch_pieces (new_value lists map depth) w.v.pieces)
        → EmitsAt n bytes out₁ to r out₂ → Whole r out₂
    after-start n bytes r out₂ p q h =
        emits-as (next-zero n ∙ p ∙ sym (w.refused lists map depth)) (q ∙ sym (w.written (new_value lists map depth)))
        (emits_then 0 n (between unit values value.field.start) bytes out at to out₁ r out₂ (first start-after start-inside) h)

    -- ---- an expression

    module _ (x : form_number_is e name f ≡ expression) where
      read_of : ExpressionRead e there (w.v, w.rest)
      read_of = all_of (ExpressionRead e there) (expression-read e there) (ap (λ g. token_in big (expression_in e) g there) (sym x) ∙ deeply)

      abbrev k : ℕ
      k = suc read_of.t.0

      abbrev m : ℕ
      m = read_of.t.1

      abbrev bytes_read : Read
      bytes_read = record { seen = 0; start = k; pieces = verbatim (take k there) ∷ verbatim (take m read_of.t.2) ∷ [] }

      as-bytes-read : token_in big as_bytes expression there ≡ Some (bytes_read, drop m read_of.t.2)
      unfolding token_in as_expression as_bytes bind
      as-bytes-read = bind-at _ read_of.there ∙ check-yes _ _ (yes_leb {a = m} {b = length read_of.t.2} read_of.fits_in)

      the_field : field_of big w.o bytes_read ≡ value.field
      the_field =
          field_is big w.o (bytes_read, drop m read_of.t.2) value.field
          (ap (as_field big w.o) (sym as-bytes-read ∙ ap (λ g. token_in big as_bytes g there) (sym x)) ∙ shallowly)

      starts : value.field.start ≡ w.o + k
      unfolding field_of
      starts = ap (λ (y : Field). y.start) (sym the_field)

      ends : value.field.end ≡ w.o + (k + m)
      unfolding field_of size bytes_of piece_bytes
      ends =
          ap (λ (y : Field). y.end) (sym the_field)
          ∙ (let a : List ℕ = take k there in
          let c : List ℕ = take m read_of.t.2 in
          let la : length a ≡ k = length-take-le k there read_of.law.0.0 in
          let lc : length c ≡ m = length-take-le m read_of.t.2 read_of.fits_in in
          let z : w.o + length (a ++ (c ++ [])) ≡ w.o + (k + m) = omega (arith, length-append a (c ++ []), length-append c []) in z)

      the-part : part_of unit value.field ≡ take m read_of.t.2
      unfolding part_of
      the-part =
          ap₂ (λ (n o : ℕ). take n (drop o unit)) (let z : value.field.end - value.field.start ≡ m = omega (arith, starts, ends) in z) starts
          ∙ ap (take m) (sym (drop-drop k w.o unit) ∙ sym read_of.law.0.1)

      its-pieces : w.v.pieces ≡ verbatim (take k there) ∷ read_of.pieces
      its-pieces = ap (λ (y : Read). y.pieces) read_of.is

      pub expression-emits : (part : List ℕ) → part ≡ part_of unit value.field → (r : Result ℕ ℕ) (out₂ : List ℕ)
          → ((pieces : List Piece) → expression_in e part ≡ Some pieces → EmitsAt (pieces_refusal lists map depth pieces) (bytes_of big (patch_pieces (new_value lists map depth) pieces)) out₁ to r out₂)
          → Whole r out₂
      unfolding bytes_of piece_bytes patch_pieces patch_piece
      expression-emits part p r out₂ h =
          let tail : List ℕ = bytes_of big (patch_pieces (new_value lists map depth) read_of.pieces) in
          after-start (pieces_refusal lists map depth read_of.pieces) tail r out₂
          (sym (ap (pieces_refusal lists map depth) its-pieces ∙ first-copied lists map depth (take k there) read_of.pieces))
          (ap (λ o. between unit values o ++ tail) starts
          ∙ ap (λ y. y ++ tail) (sym (between_join unit values w.o (w.o + k) w.after (omega arith)) ∙ ap (λ y. between unit values w.o ++ y) (between-from unit w.o k))
          ∙ append_assoc (between unit values w.o) (take k there) tail
          ∙ ap (λ ps. between unit values w.o ++ bytes_of big (patch_pieces (new_value lists map depth) ps)) (sym its-pieces))
          (h read_of.pieces (ap (expression_in e) (p ∙ the-part) ∙ read_of.inner))

    -- ---- a number that becomes another

    module _ (role : Role) (lf : LinkForm e name role f) where
      link-of : LinkRead lf.kind role (w.v, w.rest)
      link-of =
          all_of (LinkRead lf.kind role) (link-read e lf.kind role there (are-drop w.o unit b))
          (ap (λ g. token_in big (expression_in e) g there) (sym lf.token) ∙ deeply)

      abbrev code : Encoded
      code = link-of.code

      abbrev the_number : ℕ
      the_number = link-of.number

      abbrev the-read : Read
      the-read = record { seen = 0; start = 0; pieces = patchable code role the_number ∷ [] }

      link-plain : is_expression (form_number_is e name f) ≡ false
      unfolding is_expression
      link-plain = ap is_expression lf.token

      link-field : field_of big w.o the-read ≡ value.field
      link-field = ap (field_of big w.o) (sym link-of.is) ∙ plain-field link-plain

      link-value : value.field.value ≡ the_number
      unfolding field_of linked_value
      link-value = ap (λ (y : Field). y.value) (sym link-field)

      link_start : value.field.start ≡ w.o
      unfolding field_of
      link_start = ap (λ (y : Field). y.start) (sym link-field) ∙ (let z : w.o + 0 ≡ w.o = omega arith in z)

      link-end : value.field.end ≡ w.o + width code
      unfolding field_of size bytes_of piece_bytes
      link-end =
          ap (λ (y : Field). y.end) (sym link-field)
          ∙ ap (λ n. w.o + n) (ap length (append-nil (number_bytes big code the_number)) ∙ length-number big code the_number)

      module _ (leb' : Bool) (p : leb' ≡ leb_form f) (n : ℕ) (q : n ≡ value.field.end - value.field.start) where
        n-is : n ≡ width code
        n-is = q ∙ (let z : value.field.end - value.field.start ≡ width code = omega (arith, link_start, link-end) in z)

        code_is : encoded_by leb' n ≡ code
        code_is = ap₂ encoded_by (p ∙ sym lf.way ∙ ap is_leb (sym link-of.sort)) n-is ∙ encoded-is code

        pub link-wide : Wide leb' n
        link-wide =
            wide_of leb' n (subst Sound (sym code_is) (fit-sound code the_number link-of.fit)) (ap width code_is ∙ sym n-is)

        link-emits : (z : ℕ) (v : ℕ) → z ≡ piece_refusal lists map depth (patchable code role the_number) → v ≡ new_value lists map depth role the_number
            → (r : Result ℕ ℕ) (out₂ : List ℕ) → EmitsAt z (number_bytes big code v) out₁ to r out₂ → Whole r out₂
        unfolding bytes_of piece_bytes patch_pieces patch_piece
        link-emits z v y x r out₂ h =
            let ps : w.v.pieces ≡ patchable code role the_number ∷ [] = ap (λ (y : Read). y.pieces) link-of.is in
            after-start z (number_bytes big code v) r out₂
            (y ∙ sym (ap (pieces_refusal lists map depth) ps ∙ one_link lists map depth code role the_number))
            (ap (λ o. between unit values o ++ number_bytes big code v) link_start
            ∙ ap (λ y. between unit values w.o ++ y) (ap (number_bytes big code) x ∙ sym (append-nil (number_bytes big code (new_value lists map depth role the_number))))
            ∙ ap (λ y. between unit values w.o ++ bytes_of big (patch_pieces (new_value lists map depth) y)) (sym ps))
            h

        abbrev Offset : Option ℕ → Result ℕ ℕ → List ℕ → Type 0
        Offset o r out₂ = EmitsAt (offset_refusal (encoded_by leb' n) value.field.value o) (number_bytes big (encoded_by leb' n) (or_self value.field.value o)) out₁ to r out₂

        offset-emits : (o : ℕ → Option ℕ) → ((v : ℕ) → piece_refusal lists map depth (patchable code role v) ≡ offset_refusal code v (o v)) → ((v : ℕ) → new_value lists map depth role v ≡ or_self v (o v))
            → (r : Result ℕ ℕ) (out₂ : List ℕ) → Offset (o value.field.value) r out₂ → Whole r out₂
        offset-emits o y x r out₂ h =
            link-emits (offset_refusal code the_number (o the_number)) (or_self the_number (o the_number)) (sym (y the_number)) (sym (x the_number)) r out₂
            (emits-as (ap₂ (λ (c : Encoded) (v : ℕ). offset_refusal c v (o v)) code_is link-value) (ap₂ (λ (c : Encoded) (v : ℕ). number_bytes big c (or_self v (o v))) code_is link-value) h)

        pub index-emits : (k : ℕ) → role ≡ index k → (v : ℕ) → v ≡ rank_or (list_at lists k) value.field.value → (r : Result ℕ ℕ) (out₂ : List ℕ)
            → (Wide leb' n → EmitsAt (number_refusal (encoded_by leb' n) v) (number_bytes big (encoded_by leb' n) v) out₁ to r out₂) → Whole r out₂
        unfolding new_value
        index-emits k y v x r out₂ h =
            let is : v ≡ rank_or (list_at lists k) the_number = x ∙ ap (rank_or (list_at lists k)) link-value in
            link-emits (number_refusal code v) v
            (ap (number_refusal code) is ∙ sym (ap (λ z. piece_refusal lists map depth (patchable code z the_number)) y ∙ index-refusal lists map depth code k the_number))
            (is ∙ ap (λ z. new_value lists map depth z the_number) (sym y)) r out₂
            (emits-as (ap (λ c. number_refusal c v) code_is) (ap (λ c. number_bytes big c v) code_is) (h link-wide))

        pub reference-emits : role ≡ reference → (r : Result ℕ ℕ) (out₂ : List ℕ) (new : Option UnitOffset) → new ≡ as_mapped (new_of map value.field.value)
            → ((o : Option ℕ) (v : ℕ) → new ≡ as_mapped o → Wide leb' n → EmitsAt (offset_refusal (encoded_by leb' n) v o) (number_bytes big (encoded_by leb' n) (or_self v o)) out₁ to r out₂)
            → Whole r out₂
        unfolding new_value
        reference-emits y r out₂ new x h =
            offset-emits (new_of map) (λ v. ap (λ z. piece_refusal lists map depth (patchable code z v)) y ∙ reference-refusal lists map depth code v) (λ v. ap (λ z. new_value lists map depth z v) y) r out₂
            (h (new_of map value.field.value) value.field.value x link-wide)

        pub sibling-emits : role ≡ sibling → (r : Result ℕ ℕ) (out₂ : List ℕ) (new : Option UnitOffset) → new ≡ as_mapped (sibling_of map depth value.field.value)
            → ((o : Option ℕ) (v : ℕ) → new ≡ as_mapped o → Wide leb' n → EmitsAt (offset_refusal (encoded_by leb' n) v o) (number_bytes big (encoded_by leb' n) (or_self v o)) out₁ to r out₂)
            → Whole r out₂
        unfolding new_value
        sibling-emits y r out₂ new x h =
            offset-emits (sibling_of map depth) (λ v. ap (λ z. piece_refusal lists map depth (patchable code z v)) y ∙ sibling-refusal lists map depth code v) (λ v. ap (λ z. new_value lists map depth z v) y) r out₂
            (h (sibling_of map depth value.field.value) value.field.value x link-wide)

    -- ---- what is verbatim

    module _ (u : T (token_ok only_absolute (form_number_is e name f))) (p : is_expression (form_number_is e name f) ≡ false) where
      pub copied-emits : (to₂ : ℕ) (out₂ : List ℕ)
          → (value.field.start ≤ value.field.end → value.field.end ≤ length unit → EmitsAt 0 (between unit value.field.start value.field.end) out₁ to (Ok to₂) out₂)
          → Whole (Ok to₂) out₂
      copied-emits to₂ out₂ h =
          let s : ℕ = value.field.start in
          let z : ℕ = value.field.end in
          after-start 0 (between unit s z) (Ok to₂) out₂
          (sym (stay-refusal lists map depth w.v.pieces (exactly u p).1))
          (between_join unit values s z start-after within.forward
          ∙ sym (between_join unit values w.o z w.after (omega (arith, within.after, within.forward)))
          ∙ ap (λ y. between unit values w.o ++ y) (sym (stay-bytes lists map depth big w.v.pieces (exactly u p).1 ∙ copied-bytes u p)))
          (h within.forward end-inside)
