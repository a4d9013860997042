-- An expression verbatim up to each reference, with the new offset in its place: the bytes of its pieces with new values. The first reference that is refused is the first piece that is.
-- Assumes nothing.
use mathlib.Core.Path.{◌≡◌, refl, ap, ap₂, sym, ◌∙◌, subst}
use Prim.Native.Nat.{ℕ, suc, ◌+◌, ◌-◌, ◌≤◌, ◌<◌}
use native.Mathlib.Omega.{arith}
use mathlib.Core.Bool.{Bool, true, false, not}
use Rattle.std.specs.Prelude.{None, Option, Some, Err, Ok, Result}
use mathlib.Core.List.{List, [], ◌∷◌, ◌++◌, append_assoc}
use mathlib.Core.Logic.{⊎_elim}
use lib.ListN.{length, take, drop, length-append, length-drop, take-append-drop}
use lib.Seq.{take_at, drop_at, take-add, drop-drop, take_all}
use lib.Dec.{T, eqb}
use lib.Pow.{are_bytes}
use mir.Facts.{eqb_yes}
use Rattle.readers.specs.Choice.{pick, ◌or◌}
use Rattle.readers.proofs.Choice.{pick_yes, pick_no, either, all_of}
use Rattle.readers.specs.Layout.{Encoded, infixed, inleb, width, Role, reference, type_reference, sibling, index, absolute, Piece, verbatim, patchable, Patch, patch_piece, patch_pieces, number_bytes, piece_bytes, bytes_of, fits, Fit}
use Rattle.readers.proofs.LayoutLaws.{length-number, fixed-fit, leb-fit}
use Rattle.readers.specs.Expression.{expression_in}
use Rattle.readers.specs.References.{Named, name_in, names_in, encoded_by, flat_from, next_reference}
use Rattle.readers.specs.declared.cursor.Encoding.{Encoding}
use Rattle.readers.specs.declared.expressions.Reference.{Reference}
use Rattle.readers.proofs.Yields.{flat_by, flat-next, next-wide, yields-all}
use Rattle.rewriting.specs.Places.{Place, new_of}
use Rattle.rewriting.specs.Inner.Written.{as_mapped}
use Rattle.rewriting.specs.Rewriting.{Lists, new_value, has_place, piece_refusal, pieces_refusal, or_next, or_self, is_some}
use Rattle.rewriting.specs.Emission.{between}
use Rattle.rewriting.specs.Inner.Emission.{Wide, number_refusal, offset_refusal}
use Rattle.readers.specs.declared.offsets.UnitOffset.{UnitOffset}
use Rattle.rewriting.proofs.WritePass.Emissions.{EmitsAt, emits-as, emits_then, emits-stop}
use Rattle.rewriting.proofs.MapPass.Exact.{Right, Rights, in_expression, Exactly, expression-exactly}

-- ---- numbers that fit

pub next-zero : (m : ℕ) → or_next 0 m ≡ m
unfolding or_next pick
next-zero m = refl

module _ (lists : Lists) (map : List Place) (depth : ℕ) where
  -- what stays as it is is not refused
  pub stays : (e : Encoded) (r : Role) (v : ℕ) → T (has_place lists map depth r v) → new_value lists map depth r v ≡ v → Fit e v → piece_refusal lists map depth (patchable e r v) ≡ 0
  unfolding piece_refusal
  stays e r v p q h =
      pick_yes _ _ _ p ∙ pick_yes _ _ _ (subst (Fit e) (sym q) h)

  abbrev new : ℕ → ℕ
  new v = or_self v (new_of map v)

  pub reference-refusal : (e : Encoded) (v : ℕ) → piece_refusal lists map depth (patchable e reference v) ≡ offset_refusal e v (new_of map v)
  unfolding piece_refusal offset_refusal number_refusal has_place new_value
  reference-refusal e v = refl

  or_no : (a b : Bool) → T (not a) → (a or b) ≡ b
  unfolding ◌or◌
  or_no true b h = absurd h
  or_no false b h = refl

  or_yes : (a b : Bool) → T a → T (a or b)
  unfolding ◌or◌
  or_yes true b h = tt
  or_yes false b h = absurd h

  type-refusal : (e : Encoded) (v : ℕ) → T (not (eqb v 0)) → piece_refusal lists map depth (patchable e type_reference v) ≡ offset_refusal e v (new_of map v)
  unfolding piece_refusal offset_refusal number_refusal has_place new_value
  type-refusal e v t =
      ap₂ (λ (a : Bool) (n : ℕ). pick a (pick (fits e n) 0 9) 8) (or_no (eqb v 0) (is_some (new_of map v)) t) (pick_no _ _ _ t)

  type-zero : (e : Encoded) (v : ℕ) → T (eqb v 0) → Fit e v → piece_refusal lists map depth (patchable e type_reference v) ≡ 0
  unfolding has_place new_value
  type-zero e v t h = stays e type_reference v (or_yes (eqb v 0) _ t) (pick_yes _ _ _ t ∙ sym (eqb_yes {a = v} {b = 0} t)) h

  pub absolute-none : (e : Encoded) (v : ℕ) → Fit e v → piece_refusal lists map depth (patchable e absolute v) ≡ 0
  unfolding has_place new_value
  absolute-none e v h = stays e absolute v tt refl h

  -- ---- what is spliced

  unfoldable pub names_refusal : List Named → ℕ
  names_refusal [] = 0
  names_refusal (r ∷ rs) = or_next (offset_refusal r.2 r.1 (new_of map r.1)) (names_refusal rs)

  module _ (big : Bool) where
    unfoldable pub splice : List ℕ → ℕ → List Named → List ℕ
    splice s c [] = drop c s
    splice s c (r ∷ rs) = between s c r.0 ++ (number_bytes big r.2 (new r.1) ++ splice s (r.0 + width r.2) rs)

    pub refusal-names : (ps : List Piece) (o : ℕ) → Rights in_expression ps → pieces_refusal lists map depth ps ≡ names_refusal (names_in big o ps)
    unfolding pieces_refusal names_refusal names_in name_in Rights Right in_expression piece_refusal piece_bytes
    refusal-names [] o h = refl
    refusal-names (verbatim l ∷ ps) o h = next-zero (pieces_refusal lists map depth ps) ∙ refusal-names ps (o + length l) h.1
    refusal-names (patchable e reference v ∷ ps) o h =
        ap₂ or_next (reference-refusal e v) (refusal-names ps (o + length (number_bytes big e v)) h.1)
    refusal-names (patchable e type_reference v ∷ ps) o h =
        let rest : List Named = names_in big (o + length (piece_bytes big (patchable e type_reference v))) ps in
        ⊎_elim
        (λ t. ap₂ or_next (type-zero e v t h.0.0) (refusal-names ps (o + length (piece_bytes big (patchable e type_reference v))) h.1)
        ∙ next-zero (names_refusal rest)
        ∙ ap (λ x. names_refusal (x ++ rest)) (sym (pick_yes (eqb v 0) [] ((o, v, e) ∷ []) t)))
        (λ t. ap₂ or_next (type-refusal e v t) (refusal-names ps (o + length (piece_bytes big (patchable e type_reference v))) h.1)
        ∙ ap (λ x. names_refusal (x ++ rest)) (sym (pick_no (eqb v 0) [] ((o, v, e) ∷ []) t)))
        (either (eqb v 0))
    refusal-names (patchable e sibling v ∷ ps) o h = absurd h.0.1
    refusal-names (patchable e (index k) v ∷ ps) o h = absurd h.0.1
    refusal-names (patchable e absolute v ∷ ps) o h =
        ap (λ n. or_next n (pieces_refusal lists map depth ps)) (absolute-none e v h.0.0)
        ∙ next-zero (pieces_refusal lists map depth ps)
        ∙ refusal-names ps (o + length (piece_bytes big (patchable e absolute v))) h.1

    -- ---- their bytes

    module _ (s : List ℕ) where
      past-piece : (o : ℕ) (l rest : List ℕ) → drop o s ≡ l ++ rest → drop (o + length l) s ≡ rest
      past-piece o l rest h = sym (drop-drop (length l) o s) ∙ ap (drop (length l)) h ∙ drop_at l rest (length l) refl

      with-piece : (c o : ℕ) (l rest : List ℕ) → c ≤ o → drop o s ≡ l ++ rest → between s c (o + length l) ≡ between s c o ++ l
      unfolding between
      with-piece c o l rest le h =
          ap (λ n. take n (drop c s)) (let k : o + length l - c ≡ (o - c) + length l = omega arith in k)
          ∙ take-add (o - c) (length l) (drop c s)
          ∙ ap (λ x. take (o - c) (drop c s) ++ take (length l) x)
          (drop-drop (o - c) c s ∙ ap (λ n. drop n s) (let k : c + (o - c) ≡ o = omega arith in k) ∙ h)
          ∙ ap (λ x. take (o - c) (drop c s) ++ x) (take_at l rest (length l) refl)

      nothing-between : (c : ℕ) → between s c c ≡ []
      unfolding between
      nothing-between c = ap (λ n. take n (drop c s)) (let k : c - c ≡ 0 = omega arith in k)

      abbrev f : Patch
      f = new_value lists map depth

      abbrev Spliced : List Piece → ℕ → ℕ → Type 0
      Spliced ps c o = splice s c (names_in big o ps) ≡ between s c o ++ bytes_of big (patch_pieces f ps)

      -- a piece that stays
      kept_piece : (ps : List Piece) (c o : ℕ) (l : List ℕ) → c ≤ o → drop o s ≡ l ++ bytes_of big ps → Spliced ps c (o + length l)
          → splice s c (names_in big (o + length l) ps) ≡ between s c o ++ (l ++ bytes_of big (patch_pieces f ps))
      kept_piece ps c o l le h ih =
          ih ∙ ap (λ x. x ++ bytes_of big (patch_pieces f ps)) (with-piece c o l (bytes_of big ps) le h) ∙ append_assoc (between s c o) l _

      -- a piece that is spliced in
      new-piece : (ps : List Piece) (c o : ℕ) (e : Encoded) (v : ℕ) → Spliced ps (o + width e) (o + length (number_bytes big e v))
          → splice s c ((o, v, e) ∷ names_in big (o + length (number_bytes big e v)) ps) ≡ between s c o ++ (number_bytes big e (new v) ++ bytes_of big (patch_pieces f ps))
      unfolding splice
      new-piece ps c o e v ih =
          let w : o + length (number_bytes big e v) ≡ o + width e = ap (λ n. o + n) (length-number big e v) in
          ap (λ x. between s c o ++ (number_bytes big e (new v) ++ x))
          (ih ∙ ap (λ n. between s (o + width e) n ++ bytes_of big (patch_pieces f ps)) w ∙ ap (λ x. x ++ bytes_of big (patch_pieces f ps)) (nothing-between (o + width e)))

      whole : (c o : ℕ) → c ≤ o → drop o s ≡ [] → splice s c [] ≡ between s c o ++ []
      unfolding splice between
      whole c o le h =
          sym (take-append-drop (o - c) (drop c s))
          ∙ ap (λ x. take (o - c) (drop c s) ++ x) (drop-drop (o - c) c s ∙ ap (λ n. drop n s) (let k : c + (o - c) ≡ o = omega arith in k) ∙ h)

      pub spliced : (ps : List Piece) (c o : ℕ) → c ≤ o → drop o s ≡ bytes_of big ps → Rights in_expression ps → Spliced ps c o
      unfolding names_in name_in bytes_of piece_bytes patch_pieces patch_piece Rights Right in_expression new_value
      spliced [] c o le h r = whole c o le h
      spliced (verbatim l ∷ ps) c o le h r =
          kept_piece ps c o l le h (spliced ps c (o + length l) (omega arith) (past-piece o l (bytes_of big ps) h) r.1)
      spliced (patchable e reference v ∷ ps) c o le h r =
          new-piece ps c o e v (spliced ps (o + width e) (o + length (number_bytes big e v)) (omega (arith, length-number big e v)) (past-piece o (number_bytes big e v) (bytes_of big ps) h) r.1)
      spliced (patchable e type_reference v ∷ ps) c o le h r =
          let nb : List ℕ = number_bytes big e v in
          let rest : List Named = names_in big (o + length nb) ps in
          ⊎_elim
          (λ t. ap (λ x. splice s c (x ++ rest)) (pick_yes (eqb v 0) [] ((o, v, e) ∷ []) t)
          ∙ kept_piece ps c o nb le h (spliced ps c (o + length nb) (omega arith) (past-piece o nb (bytes_of big ps) h) r.1)
          ∙ ap (λ n. between s c o ++ (number_bytes big e n ++ bytes_of big (patch_pieces f ps))) (eqb_yes {a = v} {b = 0} t ∙ sym (pick_yes (eqb v 0) 0 (new v) t)))
          (λ t. ap (λ x. splice s c (x ++ rest)) (pick_no (eqb v 0) [] ((o, v, e) ∷ []) t)
          ∙ new-piece ps c o e v (spliced ps (o + width e) (o + length nb) (omega (arith, length-number big e v)) (past-piece o nb (bytes_of big ps) h) r.1)
          ∙ ap (λ n. between s c o ++ (number_bytes big e n ++ bytes_of big (patch_pieces f ps))) (sym (pick_no (eqb v 0) 0 (new v) t)))
          (either (eqb v 0))
      spliced (patchable e sibling v ∷ ps) c o le h r = absurd r.0.1
      spliced (patchable e (index k) v ∷ ps) c o le h r = absurd r.0.1
      spliced (patchable e absolute v ∷ ps) c o le h r =
          kept_piece ps c o (number_bytes big e v) le h (spliced ps c (o + length (number_bytes big e v)) (omega arith) (past-piece o (number_bytes big e v) (bytes_of big ps) h) r.1)

-- ---- where they stand

unfoldable pub Sound : Encoded → Type 0
Sound (infixed w) = w ≤ 8
Sound (inleb n) = n < 10

-- references one after the other from c on, none past n
unfoldable pub InOrder : ℕ → ℕ → List Named → Type 0
InOrder c n [] = c ≤ n
InOrder c n (r ∷ rs) = (c ≤ r.0) × (r.0 + width r.2 ≤ n) × Sound r.2 × InOrder (r.0 + width r.2) n rs

pub fit-sound : (e : Encoded) (v : ℕ) → Fit e v → Sound e
unfolding Sound
fit-sound (infixed w) v h = (fixed-fit w v h).0
fit-sound (inleb n) v h = (leb-fit n v h).0

order-more : (rs : List Named) (c o n : ℕ) → c ≤ o → InOrder o n rs → InOrder c n rs
unfolding InOrder
order-more [] c o n h i = omega arith
order-more (r ∷ rs) c o n h i = let k : o ≤ r.0 = i.0 in (omega arith, i.1, i.2, i.3)

order-last : (rs : List Named) (c n : ℕ) → InOrder c n rs → c ≤ n
unfolding InOrder
order-last [] c n i = i
order-last (r ∷ rs) c n i = let k : c ≤ r.0 = i.0 in let l : r.0 + width r.2 ≤ n = i.1 in omega arith

order-none : (o n : ℕ) → o + 0 ≡ n → InOrder o n []
unfolding InOrder
order-none o n q = omega arith

module _ (big : Bool) where
  order-named : (ps : List Piece) (o n : ℕ) (e : Encoded) (v : ℕ) → Fit e v → InOrder (o + length (number_bytes big e v)) n (names_in big (o + length (number_bytes big e v)) ps)
      → InOrder o n ((o, v, e) ∷ names_in big (o + length (number_bytes big e v)) ps)
  unfolding InOrder
  order-named ps o n e v h i =
      let w : length (number_bytes big e v) ≡ width e = length-number big e v in
      let rest : List Named = names_in big (o + length (number_bytes big e v)) ps in
      let l : o + length (number_bytes big e v) ≤ n = order-last rest (o + length (number_bytes big e v)) n i in
      (omega arith, omega arith, fit-sound e v h, order-more rest (o + width e) (o + length (number_bytes big e v)) n (omega arith) i)

  pub in_order : (ps : List Piece) (o n : ℕ) → o + length (bytes_of big ps) ≡ n → Rights in_expression ps → InOrder o n (names_in big o ps)
  unfolding names_in name_in bytes_of piece_bytes Rights Right in_expression
  in_order [] o n q r = order-none o n q
  in_order (verbatim l ∷ ps) o n q r = order-more (names_in big (o + length l) ps) o (o + length l) n (omega arith) (in_order ps (o + length l) n (let k : o + length l + length (bytes_of big ps) ≡ n = omega (arith, length-append l (bytes_of big ps)) in k) r.1)
  in_order (patchable e reference v ∷ ps) o n q r =
      let nb : List ℕ = number_bytes big e v in
      order-named ps o n e v r.0.0 (in_order ps (o + length nb) n (let k : o + length nb + length (bytes_of big ps) ≡ n = omega (arith, length-append nb (bytes_of big ps)) in k) r.1)
  in_order (patchable e type_reference v ∷ ps) o n q r =
      let nb : List ℕ = number_bytes big e v in
      let rest : List Named = names_in big (o + length nb) ps in
      let ih : InOrder (o + length nb) n rest = in_order ps (o + length nb) n (let k : o + length nb + length (bytes_of big ps) ≡ n = omega (arith, length-append nb (bytes_of big ps)) in k) r.1 in
      ⊎_elim
      (λ t. subst (λ x. InOrder o n (x ++ rest)) (sym (pick_yes (eqb v 0) [] ((o, v, e) ∷ []) t)) (order-more rest o (o + length nb) n (omega arith) ih))
      (λ t. subst (λ x. InOrder o n (x ++ rest)) (sym (pick_no (eqb v 0) [] ((o, v, e) ∷ []) t)) (order-named ps o n e v r.0.0 ih))
      (either (eqb v 0))
  in_order (patchable e sibling v ∷ ps) o n q r = absurd r.0.1
  in_order (patchable e (index k) v ∷ ps) o n q r = absurd r.0.1
  in_order (patchable e absolute v ∷ ps) o n q r =
      let nb : List ℕ = number_bytes big e v in
      order-more (names_in big (o + length nb) ps) o (o + length nb) n (omega arith) (in_order ps (o + length nb) n (let k : o + length nb + length (bytes_of big ps) ≡ n = omega (arith, length-append nb (bytes_of big ps)) in k) r.1)

-- ---- the loop: the answer from here on is that of the whole

pub wide_of : (leb' : Bool) (w : ℕ) → Sound (encoded_by leb' w) → width (encoded_by leb' w) ≡ w → Wide leb' w
unfolding Sound encoded_by width Wide
wide_of true w h q = let k : w - 1 < 10 = h in let p : suc (w - 1) ≡ w = q in (omega arith, omega arith)
wide_of false w h q = h

pub record Going (lists : Lists) (map : List Place) (depth : ℕ) (pieces : List Piece) (e : Encoding) (s out₀ : List ℕ) (at : ℕ) (out : List ℕ) (from verbatim to : ℕ) : Type 0 where
  pub places : InOrder verbatim (length s) (flat_from e s from)
  pub onward : (r : Result ℕ ℕ) (out' : List ℕ)
      → EmitsAt (names_refusal lists map depth (flat_from e s from)) (splice lists map depth e.big_endian s verbatim (flat_from e s from)) out to r out'
      → EmitsAt (pieces_refusal lists map depth pieces) (bytes_of e.big_endian (patch_pieces (new_value lists map depth) pieces)) out₀ at r out'

module _ (lists : Lists) (map : List Place) (depth : ℕ) (pieces : List Piece) (e : Encoding) (s out₀ : List ℕ) (at : ℕ) where
  pub going_start : T (are_bytes s) → expression_in e s ≡ Some pieces → Going lists map depth pieces e s out₀ at out₀ 0 0 at
  going_start b q =
      let big : Bool = e.big_endian in
      let x : Exactly big in_expression s pieces = all_of (Exactly big in_expression s) (expression-exactly e s b) q in
      let n : flat_from e s 0 ≡ names_in big 0 pieces = yields-all e s pieces q in
      record {
        places =
            subst (InOrder 0 (length s)) (sym n)
            (in_order big pieces 0 (length s) (let k : 0 + length (bytes_of big pieces) ≡ length s = omega (arith, ap length x.0) in k) x.1);
        onward = λ r out' h.
            emits-as
            (ap (names_refusal lists map depth) n ∙ sym (refusal-names lists map depth big pieces 0 x.1))
            (ap (splice lists map depth big s 0) n ∙ spliced lists map depth big s pieces 0 0 (omega arith) (sym x.0) x.1
            ∙ ap (λ y. y ++ bytes_of big (patch_pieces (new_value lists map depth) pieces)) (nothing-between lists map depth big s 0))
            h;
      }

  module _ (out : List ℕ) (from verbatim to : ℕ) (g : Going lists map depth pieces e s out₀ at out from verbatim to) (y : Option Reference) (q : y ≡ next_reference e s from) where
    none_left : y ≡ None → flat_from e s from ≡ []
    unfolding flat_by
    none_left p = flat-next e s from ∙ ap (flat_by e s) (sym q ∙ p)

    pub going_end : y ≡ None → (to' : ℕ) (out' : List ℕ)
        → (verbatim ≤ length s → length s ≤ length s → EmitsAt 0 (between s verbatim (length s)) out to (Ok to') out')
        → EmitsAt (pieces_refusal lists map depth pieces) (bytes_of e.big_endian (patch_pieces (new_value lists map depth) pieces)) out₀ at (Ok to') out'
    unfolding InOrder names_refusal splice between
    going_end p to' out' f =
        let n : flat_from e s from ≡ [] = none_left p in
        let c : verbatim ≤ length s = subst (InOrder verbatim (length s)) n g.places in
        g.onward (Ok to') out'
        (emits-as (ap (names_refusal lists map depth) (sym n)) (take_all (length s - verbatim) (drop verbatim s) (omega (arith, length-drop verbatim s)) ∙ ap (splice lists map depth e.big_endian s verbatim) (sym n)) (f c (omega arith)))

    module _ (r : Reference) (p : y ≡ Some r) where
      abbrev code : Encoded
      code = encoded_by r.leb r.width

      abbrev rest : List Named
      rest = flat_from e s r.next.at

      one_more : flat_from e s from ≡ (r.place, r.target.0, code) ∷ rest
      unfolding flat_by
      one_more = flat-next e s from ∙ ap (flat_by e s) (sym q ∙ p)

      is_wide : width code ≡ r.width
      is_wide = next-wide e s from r (sym q ∙ p)

      where-it-is : (verbatim ≤ r.place) × (r.place + width code ≤ length s) × Sound code × InOrder (r.place + width code) (length s) rest
      unfolding InOrder
      where-it-is = subst (InOrder verbatim (length s)) one_more g.places

      pub going-place : r.place + r.width ≤ length s
      going-place = let l : r.place + width code ≤ length s = where-it-is.1 in let w : width code ≡ r.width = is_wide in omega arith

      module _ (to₁ : ℕ) (out₁ : List ℕ) (f : verbatim ≤ r.place → r.place ≤ length s → EmitsAt 0 (between s verbatim r.place) out to (Ok to₁) out₁)
          (mapped : Option UnitOffset) (m : mapped ≡ as_mapped (new_of map r.target.0)) (a : Result ℕ ℕ) (out₂ : List ℕ)
          (h : (o : Option ℕ) (v : ℕ) → mapped ≡ as_mapped o → Wide r.leb r.width → EmitsAt (offset_refusal code v o) (number_bytes e.big_endian code (or_self v o)) out₁ to₁ a out₂) where
        before-it : EmitsAt 0 (between s verbatim r.place) out to (Ok to₁) out₁
        before-it =
            let c : verbatim ≤ r.place = where-it-is.0 in
            let l : r.place + width code ≤ length s = where-it-is.1 in
            f c (omega arith)

        abbrev no : ℕ
        no = offset_refusal code r.target.0 (new_of map r.target.0)

        abbrev its : List ℕ
        its = number_bytes e.big_endian code (new lists map depth r.target.0)

        it : EmitsAt no its out₁ to₁ a out₂
        it = h (new_of map r.target.0) r.target.0 m (wide_of r.leb r.width where-it-is.2 is_wide)

        -- what is said of it and the rest is said of the whole
        together : (z : Result ℕ ℕ) (out₃ : List ℕ)
            → EmitsAt (or_next (offset_refusal code r.target.0 (new_of map r.target.0)) (names_refusal lists map depth rest))
            (number_bytes e.big_endian code (new lists map depth r.target.0) ++ splice lists map depth e.big_endian s (r.place + width code) rest) out₁ to₁ z out₃
            → EmitsAt (pieces_refusal lists map depth pieces) (bytes_of e.big_endian (patch_pieces (new_value lists map depth) pieces)) out₀ at z out₃
        unfolding names_refusal splice
        together z out₃ k =
            g.onward z out₃
            (emits-as
            (next-zero _ ∙ ap (names_refusal lists map depth) (sym one_more))
            (ap (splice lists map depth e.big_endian s verbatim) (sym one_more))
            (emits_then 0 _ (between s verbatim r.place) _ out to to₁ out₁ z out₃ before-it k))

        pub going-refused : (k : ℕ) → a ≡ Err k
            → EmitsAt (pieces_refusal lists map depth pieces) (bytes_of e.big_endian (patch_pieces (new_value lists map depth) pieces)) out₀ at (Err k) out₂
        going-refused k w =
            together (Err k) out₂
            (emits-stop no (names_refusal lists map depth rest) its (splice lists map depth e.big_endian s (r.place + width code) rest) out₁ to₁ k out₂
            (subst (λ b. EmitsAt no its out₁ to₁ b out₂) w it))

        pub going_on : (to₂ : ℕ) → a ≡ Ok to₂ → (copied' : ℕ) → (r.place + r.width ≤ length s → copied' ≡ r.place + r.width)
            → Going lists map depth pieces e s out₀ at out₂ r.next.at copied' to₂
        going_on to₂ w copied' c =
            let k : r.place + width code ≡ copied' = sym (c going-place ∙ ap (λ n. r.place + n) (sym is_wide)) in
            record {
              places = subst (λ n. InOrder n (length s) rest) k where-it-is.3;
              onward = λ z out₃ x.
                  together z out₃
                  (emits_then no (names_refusal lists map depth rest) its (splice lists map depth e.big_endian s (r.place + width code) rest) out₁ to₁ to₂ out₂ z out₃
                  (subst (λ b. EmitsAt no its out₁ to₁ b out₂) w it)
                  (subst (λ n. EmitsAt (names_refusal lists map depth rest) (splice lists map depth e.big_endian s n rest) out₂ to₂ z out₃) (sym k) x));
            }
