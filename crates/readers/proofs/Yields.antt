-- One reference after the other (specs/References.antt): together they are the references of the whole expression, nested ones included.
use mathlib.Core.Path.{◌≡◌, refl, ap, ap₂, sym, ◌∙◌, subst}
use Prim.Native.Nat.{ℕ, zero, suc, ◌+◌, ◌-◌, ◌≤◌, ◌<◌}
use mathlib.Core.Bool.{Bool, not}
use mathlib.Core.Logic.{⊎_elim, ◌≢◌}
use Rattle.std.specs.Prelude.{None, Option, Some}
use mathlib.Core.List.{List, [], ◌∷◌, ◌++◌, append_assoc, append-nil}
use native.Mathlib.Omega.{arith}
use lib.ListN.{length, take, drop, length-append, length-drop, take-append-drop}
use lib.Seq.{drop-drop, length-take-le, take-take, take-nil, take-length}
use lib.Dec.{T, ltb, eqb}
use mir.Facts.{eqb_yes, eqb_no, yes_eqb, no_eqb, no_ltb, yes_ltb, ltb_yes, ltb_no}
use Rattle.readers.specs.Choice.{bind}
use Rattle.readers.proofs.Choice.{pick_yes, pick_no, pick-either, either, bind-none, All, all-some, all_none, all_of, all-bind, all_both, all_map}
use Rattle.readers.specs.Scan.{Turn, more, stop, bad, Scanned, push, scan}
use Rattle.readers.proofs.Scan.{Goes, scan-stop, scan-more}
use Rattle.readers.specs.Layout.{Piece, width, Read, as_bytes, bytes_of, write_all, read_in}
use Rattle.readers.proofs.LayoutLaws.{bytes-append, ReadLaw, read-law, as-bytes-law, WholeLaw}
use Rattle.readers.specs.Operations.{operation}
use Rattle.readers.specs.Expression.{expression_in}
use Rattle.readers.proofs.Expression.{expression-none, expression-more, expression-law, write-pieces}
use Rattle.readers.specs.Fields.{size, field_of, row_of_reads}
use Rattle.readers.specs.Steps.{as_operation, row_operation, operation_of_reads, operation_at}
use Rattle.readers.specs.References.{Named, names_in, reference_of, named, named_type, encoded_by, names_of, yield_turn, operation_turn, walk_turn, yielded, next_reference, flat_operation, flat_turn, flat, flattened, flat_from}
use Rattle.readers.specs.declared.cursor.Encoding.{Encoding}
use Rattle.readers.specs.declared.cursor.Cursor.{Cursor}
use Rattle.readers.specs.declared.fields.Field.{Field}
use Rattle.readers.specs.declared.operations.Operation.{Operation}
use Rattle.readers.specs.declared.expressions.Reference.{Reference}
use Rattle.readers.proofs.OperationReads.{OperationHeld, Cases, cases, read-four, span, rest-is, past, held-inside, code_is, operation-held, operation-inside}
use Rattle.readers.proofs.OperationPieces.{names-append, Wide}
use Rattle.readers.proofs.Deep.{own, own-names, own-wide, own-size, deep-plain, lead, inner, deep-entry, lead-names, lead-size, inner-size, inner-is, inner-ends, unreadable}

-- ---- the cursor that a reference hands on

-- a reference of an operation goes on past it
unfoldable pub GoesOn : Cursor → Option Reference → Type 0
GoesOn c (Some r) = r.next ≡ c
GoesOn c None = Unit {0}

pub type-goes : (f : Field) (c : Cursor) → GoesOn c (named_type f c)
unfolding named_type named GoesOn
type-goes f c = pick-either (GoesOn c) _ _ _ (λ _. tt) (λ _. refl)

pub reference-goes : (op : Operation) → GoesOn op.next (reference_of op)
unfolding reference_of named GoesOn
reference-goes op =
    pick-either (GoesOn op.next) _ _ _ (λ _. tt) (λ _.
    pick-either (GoesOn op.next) _ _ _ (λ _. refl) (λ _.
    pick-either (GoesOn op.next) _ _ _ (λ _. type-goes op.first op.next) (λ _.
    pick-either (GoesOn op.next) _ _ _ (λ _. type-goes op.second op.next) (λ _.
    pick-either (GoesOn op.next) _ _ _ (λ _. type-goes op.first op.next) (λ _. tt)))))

drop-take : (m n : ℕ) (l : List ℕ) → drop m (take n l) ≡ take (n - m) (drop m l)
drop-take zero n l = ap (λ j. take j l) (let h : n ≡ n - 0 = omega arith in h)
drop-take (suc m) zero l = sym (ap (λ j. take j (drop (suc m) l)) (let h : 0 - suc m ≡ 0 = omega arith in h))
drop-take (suc m) (suc n) [] = sym (take-nil (suc n - suc m))
drop-take (suc m) (suc n) (b ∷ l) = drop-take m n l ∙ ap (λ j. take j (drop m l)) (let h : n - m ≡ suc n - suc m = omega arith in h)

module _ (e : Encoding) (s : List ℕ) where
  abbrev big : Bool
  big = e.big_endian

  -- ---- the walk goes on, inside the slice

  turn-goes : (at : ℕ) (op : Operation) (y : Option Reference) → at < op.next.at → op.next.at ≤ length s → Goes (length s) at (yield_turn y op.next)
  unfolding yield_turn Goes
  turn-goes at op (Some r) lo hi = tt
  turn-goes at op None lo hi = (lo, hi)

  operation-goes : (at : ℕ) (o : Option Operation) → operation_at e s at ≡ o → Goes (length s) at (operation_turn o)
  unfolding operation_turn Goes
  operation-goes at None q = tt
  operation-goes at (Some op) q =
      let i : (at < op.next.at) × (op.next.at ≤ length s) × (at < op.first.start) × (op.first.start ≤ op.first.end) × (op.first.end ≤ op.next.at) = operation-inside e s at op q in
      pick-either (Goes (length s) at) _ _ _ (λ _. (i.2, omega arith)) (λ _. turn-goes at op (reference_of op) i.0 i.1)

  pub walk-goes : (at : ℕ) → Goes (length s) at (walk_turn e s at)
  unfolding walk_turn Goes
  walk-goes at = pick-either (Goes (length s) at) _ _ _ (λ _. operation-goes at _ refl) (λ _. tt)

  flat-operation-goes : (at : ℕ) (o : Option Operation) → operation_at e s at ≡ o → Goes (length s) at (flat_operation o)
  unfolding flat_operation Goes
  flat-operation-goes at None q = tt
  flat-operation-goes at (Some op) q =
      let i : (at < op.next.at) × (op.next.at ≤ length s) × (at < op.first.start) × (op.first.start ≤ op.first.end) × (op.first.end ≤ op.next.at) = operation-inside e s at op q in
      pick-either (Goes (length s) at) _ _ _ (λ _. (i.2, omega arith)) (λ _. (i.0, i.1))

  pub flat_goes : (at : ℕ) → Goes (length s) at (flat_turn e s at)
  unfolding flat_turn Goes
  flat_goes at = pick-either (Goes (length s) at) _ _ _ (λ _. flat-operation-goes at _ refl) (λ _. tt)

  -- ---- the steps of the next reference

  yielded-push : (o : Option (Scanned (Unit {0}) (Option Reference))) → yielded (bind o (push tt)) ≡ yielded o
  unfolding yielded bind push
  yielded-push None = refl
  yielded-push (Some r) = refl

  next-stop : (at : ℕ) (y : Option Reference) → walk_turn e s at ≡ stop y → next_reference e s at ≡ y
  unfolding next_reference yielded
  next-stop at y q = ap yielded (scan-stop (length s) (walk_turn e s) walk-goes at y q)

  next_more : (at n : ℕ) → walk_turn e s at ≡ more tt n → next_reference e s at ≡ next_reference e s n
  unfolding next_reference
  next_more at n q = ap yielded (scan-more (length s) (walk_turn e s) walk-goes at tt n q) ∙ yielded-push (scan (length s) (walk_turn e s) n)

  pub next-end : (at : ℕ) → length s ≤ at → next_reference e s at ≡ None
  unfolding walk_turn
  next-end at l = next-stop at None (pick_no _ _ _ (no_ltb {a = at} {b = length s} l))

  module _ (at : ℕ) (l : at < length s) where
    turn_at : (o : Option Operation) → operation_at e s at ≡ o → walk_turn e s at ≡ operation_turn o
    unfolding walk_turn
    turn_at o q = pick_yes _ _ _ (yes_ltb {a = at} {b = length s} l) ∙ ap operation_turn q

    pub next-none : operation_at e s at ≡ None → next_reference e s at ≡ None
    unfolding operation_turn
    next-none q = next-stop at None (turn_at None q)

    module _ (op : Operation) (q : operation_at e s at ≡ Some op) where
      pub next-entry : T (eqb op.row 19) → next_reference e s at ≡ next_reference e s op.first.start
      unfolding operation_turn
      next-entry t = next_more at op.first.start (turn_at (Some op) q ∙ pick_yes _ _ _ t)

      pub next-own : T (not (eqb op.row 19)) → (r : Reference) → reference_of op ≡ Some r → next_reference e s at ≡ Some r
      unfolding operation_turn yield_turn
      next-own t r p = next-stop at (Some r) (turn_at (Some op) q ∙ pick_no _ _ _ t ∙ ap (λ y. yield_turn y op.next) p)

      pub next-pass : T (not (eqb op.row 19)) → reference_of op ≡ None → next_reference e s at ≡ next_reference e s op.next.at
      unfolding operation_turn yield_turn
      next-pass t p = next_more at op.next.at (turn_at (Some op) q ∙ pick_no _ _ _ t ∙ ap (λ y. yield_turn y op.next) p)

  -- ---- the steps of all references

  unfoldable Told : Option (Scanned (List Named) (Unit {0})) → Type 0
  Told None = ⊥
  Told (Some r) = Unit {0}

  unfoldable NotBad : Turn (List Named) (Unit {0}) → Type 0
  NotBad (more a n) = Unit {0}
  NotBad (stop b) = Unit {0}
  NotBad bad = ⊥

  of-operation : (o : Option Operation) → NotBad (flat_operation o)
  unfolding flat_operation NotBad
  of-operation None = tt
  of-operation (Some op) = pick-either NotBad _ _ _ (λ _. tt) (λ _. tt)

  flat-not-bad : (at : ℕ) → NotBad (flat_turn e s at)
  unfolding flat_turn NotBad
  flat-not-bad at = pick-either NotBad _ _ _ (λ _. of-operation (operation_at e s at)) (λ _. tt)

  some-push : (a : List Named) (o : Option (Scanned (List Named) (Unit {0}))) → Told o → Told (bind o (push a))
  unfolding Told bind push
  some-push a None h = absurd h
  some-push a (Some r) h = tt

  flat-push : (a : List Named) (o : Option (Scanned (List Named) (Unit {0}))) → Told o → flattened (bind o (push a)) ≡ a ++ flattened o
  unfolding Told bind push flattened flat
  flat-push a None h = absurd h
  flat-push a (Some r) h = refl

  abbrev all : ℕ → Option (Scanned (List Named) (Unit {0}))
  all at = scan (length s) (flat_turn e s) at

  some_turn : (at : ℕ) (t : Turn (List Named) (Unit {0})) → flat_turn e s at ≡ t → NotBad t → Goes (length s) at t → ((n : ℕ) → at < n → n ≤ length s → Told (all n)) → Told (all at)
  unfolding NotBad Goes Told
  some_turn at (more a n) q b g ih = subst Told (sym (scan-more (length s) (flat_turn e s) flat_goes at a n q)) (some-push a (all n) (ih n g.0 g.1))
  some_turn at (stop u) q b g ih = subst Told (sym (scan-stop (length s) (flat_turn e s) flat_goes at u q)) tt
  some_turn at bad q b g ih = absurd b

  some-within : (k at : ℕ) → length s - at ≤ k → Told (all at)
  some-within zero at h = some_turn at _ refl (flat-not-bad at) (flat_goes at) (λ n lo hi. absurd (omega arith))
  some-within (suc k) at h = some_turn at _ refl (flat-not-bad at) (flat_goes at) (λ n lo hi. some-within k n (omega arith))

  flat-more : (at : ℕ) (a : List Named) (n : ℕ) → flat_turn e s at ≡ more a n → flat_from e s at ≡ a ++ flat_from e s n
  unfolding flat_from
  flat-more at a n q = ap flattened (scan-more (length s) (flat_turn e s) flat_goes at a n q) ∙ flat-push a (all n) (some-within (length s - n) n (omega arith))

  flat-stop : (at : ℕ) → flat_turn e s at ≡ stop tt → flat_from e s at ≡ []
  unfolding flat_from flattened flat
  flat-stop at q = ap flattened (scan-stop (length s) (flat_turn e s) flat_goes at tt q)

  pub flat-end : (at : ℕ) → length s ≤ at → flat_from e s at ≡ []
  unfolding flat_turn
  flat-end at l = flat-stop at (pick_no _ _ _ (no_ltb {a = at} {b = length s} l))

  module _ (at : ℕ) (l : at < length s) where
    flat-at : (o : Option Operation) → operation_at e s at ≡ o → flat_turn e s at ≡ flat_operation o
    unfolding flat_turn
    flat-at o q = pick_yes _ _ _ (yes_ltb {a = at} {b = length s} l) ∙ ap flat_operation q

    pub flat-none : operation_at e s at ≡ None → flat_from e s at ≡ []
    unfolding flat_operation
    flat-none q = flat-stop at (flat-at None q)

    module _ (op : Operation) (q : operation_at e s at ≡ Some op) where
      pub flat-entry : T (eqb op.row 19) → flat_from e s at ≡ flat_from e s op.first.start
      unfolding flat_operation
      flat-entry t = flat-more at [] op.first.start (flat-at (Some op) q ∙ pick_yes _ _ _ t)

      pub flat-plain : T (not (eqb op.row 19)) → flat_from e s at ≡ names_of (reference_of op) ++ flat_from e s op.next.at
      unfolding flat_operation
      flat-plain t = flat-more at _ op.next.at (flat-at (Some op) q ∙ pick_no _ _ _ t)

  -- ---- one after the other they are all of them

  unfoldable pub flat_by : Option Reference → List Named
  flat_by (Some r) = (r.place, r.target.0, encoded_by r.leb r.width) ∷ flat_from e s r.next.at
  flat_by None = []

  flat-own : (c : Cursor) (y : Option Reference) → GoesOn c y → (z : Option Reference) → (y ≡ None → flat_from e s c.at ≡ flat_by z) → ((r : Reference) → y ≡ Some r → z ≡ Some r)
      → names_of y ++ flat_from e s c.at ≡ flat_by z
  unfolding GoesOn names_of flat_by
  flat-own c None g z f h = f refl
  flat-own c (Some r) g z f h = ap (λ (d : Cursor). (r.place, r.target.0, encoded_by r.leb r.width) ∷ flat_from e s d.at) (sym g) ∙ ap flat_by (sym (h r refl))

  by-operation : (at : ℕ) → at < length s → ((n : ℕ) → at < n → n ≤ length s → flat_from e s n ≡ flat_by (next_reference e s n)) → (o : Option Operation) → operation_at e s at ≡ o
      → flat_from e s at ≡ flat_by (next_reference e s at)
  unfolding flat_by
  by-operation at l ih None q = flat-none at l q ∙ ap flat_by (sym (next-none at l q))
  by-operation at l ih (Some op) q =
      let i : (at < op.next.at) × (op.next.at ≤ length s) × (at < op.first.start) × (op.first.start ≤ op.first.end) × (op.first.end ≤ op.next.at) = operation-inside e s at op q in
      ⊎_elim
      (λ t. flat-entry at l op q t ∙ ih op.first.start i.2 (omega arith) ∙ ap flat_by (sym (next-entry at l op q t)))
      (λ t. flat-plain at l op q t
      ∙ flat-own op.next (reference_of op) (reference-goes op) (next_reference e s at)
      (λ p. ih op.next.at i.0 i.1 ∙ ap flat_by (sym (next-pass at l op q t p)))
      (λ r p. next-own at l op q t r p))
      (either (eqb op.row 19))

  by-within : (k at : ℕ) → length s - at ≤ k → flat_from e s at ≡ flat_by (next_reference e s at)
  unfolding flat_by
  by-within zero at h = flat-end at (omega arith) ∙ ap flat_by (sym (next-end at (omega arith)))
  by-within (suc k) at h =
      ⊎_elim (λ t. let l : at < length s = ltb_yes t in by-operation at l (λ n lo hi. by-within k n (omega arith)) _ refl)
      (λ t. let l : length s ≤ at = ltb_no t in flat-end at l ∙ ap flat_by (sym (next-end at l)))
      (either (ltb at (length s)))

  -- the next reference is the first of those from here on
  pub flat-next : (at : ℕ) → flat_from e s at ≡ flat_by (next_reference e s at)
  flat-next at = by-within (length s - at) at (omega arith)

  -- ---- their widths

  wide-own : (y : Option Reference) → Wide y → (z : Option Reference) → (y ≡ None → Wide z) → ((r : Reference) → y ≡ Some r → z ≡ Some r) → Wide z
  wide-own None w z f h = f refl
  wide-own (Some r) w z f h = subst Wide (sym (h r refl)) w

  wide-operation : (at : ℕ) → at < length s → ((n : ℕ) → at < n → n ≤ length s → Wide (next_reference e s n)) → (o : Option Operation) → operation_at e s at ≡ o
      → Wide (next_reference e s at)
  unfolding Wide
  wide-operation at l ih None q = subst Wide (sym (next-none at l q)) tt
  wide-operation at l ih (Some op) q =
      let i : (at < op.next.at) × (op.next.at ≤ length s) × (at < op.first.start) × (op.first.start ≤ op.first.end) × (op.first.end ≤ op.next.at) = operation-inside e s at op q in
      ⊎_elim
      (λ t. subst Wide (sym (next-entry at l op q t)) (ih op.first.start i.2 (omega arith)))
      (λ t. wide-own (reference_of op) (own-wide e (drop at s) at op (operation-held e s at op q)) (next_reference e s at)
      (λ p. subst Wide (sym (next-pass at l op q t p)) (ih op.next.at i.0 i.1))
      (λ r p. next-own at l op q t r p))
      (either (eqb op.row 19))

  wide-within : (k at : ℕ) → length s - at ≤ k → Wide (next_reference e s at)
  unfolding Wide
  wide-within zero at h = subst Wide (sym (next-end at (omega arith))) tt
  wide-within (suc k) at h =
      ⊎_elim (λ t. let l : at < length s = ltb_yes t in wide-operation at l (λ n lo hi. wide-within k n (omega arith)) _ refl)
      (λ t. let l : length s ≤ at = ltb_no t in subst Wide (sym (next-end at l)) tt)
      (either (ltb at (length s)))

  -- a reference's width is that of how its operand is written
  pub next-wide : (at : ℕ) (r : Reference) → next_reference e s at ≡ Some r → width (encoded_by r.leb r.width) ≡ r.width
  unfolding Wide
  next-wide at r q = let w : Wide (Some r) = subst Wide q (wide-within (length s - at) at (omega arith)) in w

  -- ---- all of them are those of the pieces

  abbrev PartLaw : ℕ → ℕ → List Piece → Type 0
  PartLaw o n ps = flat_from e s o ≡ names_in big o ps ++ flat_from e s (o + n)

  module _ (o n : ℕ) (l : 0 < n) (fits : o + n ≤ length s) where
    abbrev part : List ℕ
    part = take n (drop o s)

    part_length : length part ≡ n
    part_length = length-take-le n (drop o s) (omega (arith, length-drop o s))

    module _ (op : Operation) (h : OperationHeld e part o op) where
      abbrev m : ℕ
      m = span e part o op h

      m-fits : m ≤ n
      m-fits = let q : m ≤ length part = (rest-is e part o op h).0 in omega (arith, part_length)

      -- an operation of a part is the slice's operation there
      part-operation : operation_at e s o ≡ Some op
      unfolding operation_at as_operation operation_of_reads row_of_reads row_operation field_of
      part-operation =
          let reads : List Read = h.c ∷ h.a ∷ h.b ∷ h.d ∷ [] in
          let law : ReadLaw big as_bytes (operation e) part (reads, h.rest) =
          all_of (ReadLaw big as_bytes (operation e) part) (read-law big as_bytes (as-bytes-law big) (operation e) part)
          (read-four e as_bytes part h.c h.a h.b h.d h.x1 h.x2 h.x3 h.rest h.code h.first h.second h.third) in
          let k : length (write_all big reads) ≡ m = ap length (sym (write-pieces big reads)) ∙ own-size e part o op h in
          let t : take (length (write_all big reads)) part ++ drop m (drop o s) ≡ drop o s =
          ap (λ j. take j part ++ drop m (drop o s)) k ∙ ap (λ y. y ++ drop m (drop o s)) (take-take m n (drop o s) m-fits) ∙ take-append-drop m (drop o s) in
          ap (as_operation big o) (ap (read_in big as_bytes (operation e)) (sym t) ∙ law.2 (drop m (drop o s)))
          ∙ ap (λ p. Some p) (sym h.made)

      rest_part : h.rest ≡ take (n - m) (drop (o + m) s)
      rest_part = (rest-is e part o op h).1 ∙ drop-take m n (drop o s) ∙ ap (take (n - m)) (drop-drop m o s)

      past-m : op.next.at ≡ o + m
      past-m = past e part o op h

      abbrev IH : Type 0
      IH = (o' n' : ℕ) → n' < n → o' + n' ≤ length s → All (PartLaw o' n') (expression_in e (take n' (drop o' s)))

      m-more : 0 < m
      m-more = let c : size big h.c ≡ 1 = (code_is e part o op h).2 in omega arith

      rest-law : IH → All (λ qs. flat_from e s (o + m) ≡ names_in big (o + m) qs ++ flat_from e s (o + n)) (expression_in e h.rest)
      rest-law ih =
          let k : o + m + (n - m) ≡ o + n = omega (arith, m-fits) in
          subst (λ y. All (λ qs. flat_from e s (o + m) ≡ names_in big (o + m) qs ++ flat_from e s (o + n)) (expression_in e y)) (sym rest_part)
          (subst (λ j. All (λ qs. flat_from e s (o + m) ≡ names_in big (o + m) qs ++ flat_from e s j) (expression_in e (take (n - m) (drop (o + m) s)))) k
          (ih (o + m) (n - m) (omega (arith, m-more)) (omega (arith, m-fits))))

      part-plain : IH → T (not (eqb op.row 19)) → All (PartLaw o n) (expression_in e part)
      part-plain ih t =
          subst (All (PartLaw o n)) (sym (deep-plain e part o op h t))
          (all-bind (λ qs. flat_from e s (o + m) ≡ names_in big (o + m) qs ++ flat_from e s (o + n)) _ _ _ (rest-law ih)
          (λ qs p v. all-some (PartLaw o n)
          (let ps : List Piece = own e part o op h in
          flat-plain o (omega arith) op part-operation t
          ∙ ap₂ (λ x y. x ++ y) (sym (own-names e part o op h)) (ap (flat_from e s) past-m ∙ v)
          ∙ sym (append_assoc (names_in big o ps) _ _)
          ∙ ap (λ x. x ++ flat_from e s (o + n)) (ap (λ j. names_in big o ps ++ names_in big (o + j) qs) (sym (own-size e part o op h)) ∙ sym (names-append big o ps qs)))))

      part-entry : IH → T (eqb op.row 19) → All (PartLaw o n) (expression_in e part)
      part-entry ih t =
          let i : (o < op.next.at) × (op.next.at ≤ o + length part) × (o < op.first.start) × (op.first.start ≤ op.first.end) × (op.first.end ≤ op.next.at) = held-inside e part o op h in
          let ls : List Piece = lead e part o op h t in
          let x : List ℕ = inner e part o op h t in
          let lx : length x ≡ op.first.end - op.first.start = inner-size e part o op h t in
          let fin : op.first.end ≡ op.next.at = inner-ends e part o op h t in
          let a : ℕ = op.first.start in
          let w : ℕ = op.first.end - op.first.start in
          let pm : op.next.at ≡ o + m = past-m in
          let k1 : o + (a - o) ≡ a = omega arith in
          let k2 : a + w ≡ o + m = omega arith in
          let xs : x ≡ take w (drop a s) =
          inner-is e part o op h t
          ∙ ap (take w) (drop-take (a - o) n (drop o s))
          ∙ take-take w (n - (a - o)) (drop (a - o) (drop o s)) (omega (arith, part_length))
          ∙ ap (take w) (drop-drop (a - o) o s ∙ ap (λ j. drop j s) k1) in
          subst (All (PartLaw o n)) (sym (deep-entry e part o op h t))
          (all-bind (λ ps. (flat_from e s a ≡ names_in big a ps ++ flat_from e s (a + w)) × (length (bytes_of big ps) ≡ length x)) _ (expression_in e x) _
          (all_both _ _ _
          (subst (λ y. All (PartLaw a w) (expression_in e y)) (sym xs) (ih a w (omega (arith, part_length)) (omega (arith, m-fits))))
          (all_map (WholeLaw big (expression_in e) x) (λ ps. length (bytes_of big ps) ≡ length x) _ (λ ps u. u.0) (expression-law e x)))
          (λ ps p u. all-bind (λ qs. flat_from e s (o + m) ≡ names_in big (o + m) qs ++ flat_from e s (o + n)) _ _ _ (rest-law ih)
          (λ qs p' v. all-some (PartLaw o n)
          (let ll : o + length (bytes_of big ls) ≡ a = lead-size e part o op h t in
          let both : length (bytes_of big (ls ++ ps)) ≡ length (bytes_of big ls) + length (bytes_of big ps) = ap length (bytes-append big ls ps) ∙ length-append (bytes_of big ls) (bytes_of big ps) in
          let lb : length (bytes_of big ps) ≡ length x = u.1 in
          let k3 : o + length (bytes_of big (ls ++ ps)) ≡ o + m = omega arith in
          let one : names_in big o (ls ++ ps) ≡ names_in big a ps =
          names-append big o ls ps ∙ ap₂ (λ y j. y ++ names_in big j ps) (lead-names e part o op h t o) ll in
          let two : names_in big o ((ls ++ ps) ++ qs) ≡ names_in big a ps ++ names_in big (o + m) qs =
          names-append big o (ls ++ ps) qs ∙ ap₂ (λ y j. y ++ names_in big j qs) one k3 in
          flat-entry o (omega arith) op part-operation t
          ∙ u.0
          ∙ ap (λ y. names_in big a ps ++ y) (ap (flat_from e s) k2 ∙ v)
          ∙ sym (append_assoc (names_in big a ps) _ _)
          ∙ ap (λ y. y ++ flat_from e s (o + n)) (sym two)))))

    part-case : ((o' n' : ℕ) → n' < n → o' + n' ≤ length s → All (PartLaw o' n') (expression_in e (take n' (drop o' s)))) → (r : Option Operation) → Cases e part o r
        → All (PartLaw o n) (expression_in e part)
    unfolding Cases
    part-case ih None q =
        subst (All (PartLaw o n)) (sym (expression-more e part (omega (arith, part_length)) ∙ bind-none _ (unreadable big (expression_in e) (operation e) part q))) (all_none _)
    part-case ih (Some op) h = ⊎_elim (part-entry op h ih) (part-plain op h ih) (either (eqb op.row 19))

  part_none : (o n : ℕ) → n ≡ 0 → All (PartLaw o n) (expression_in e (take n (drop o s)))
  unfolding names_in
  part_none o n z =
      subst (λ j. All (PartLaw o j) (expression_in e (take j (drop o s)))) (sym z)
      (subst (All (PartLaw o 0)) (sym (expression-none e)) (all-some (PartLaw o 0) (ap (flat_from e s) (let k : o ≡ o + 0 = omega arith in k))))

  part-within : (k o n : ℕ) → n ≤ k → o + n ≤ length s → All (PartLaw o n) (expression_in e (take n (drop o s)))
  part-within zero o n h fits = part_none o n (omega arith)
  part-within (suc k) o n h fits =
      ⊎_elim (λ t. part_none o n (eqb_yes t))
      (λ t. part-case o n (let w : n ≢ 0 = eqb_no t in omega arith) fits (λ o' n' l f. part-within k o' n' (omega arith) f) _ (cases e (take n (drop o s)) o))
      (either (eqb n 0))

  -- THE LAW: one after the other, the references are those of the expression
  pub yields-all : (ps : List Piece) → expression_in e s ≡ Some ps → flat_from e s 0 ≡ names_in big 0 ps
  yields-all ps q =
      let w : take (length s) (drop 0 s) ≡ s = take-length s in
      let p : flat_from e s 0 ≡ names_in big 0 ps ++ flat_from e s (0 + length s) =
      all_of (PartLaw 0 (length s)) (part-within (length s) 0 (length s) (omega arith) (omega arith)) (ap (expression_in e) w ∙ q) in
      p ∙ ap (λ y. names_in big 0 ps ++ y) (flat-end (0 + length s) (omega arith)) ∙ append-nil _

  -- ---- the loop that looks for the next reference

  module _ (at₀ at : ℕ) (w : next_reference e s at₀ ≡ next_reference e s at) where
    pub onward-end : length s ≤ at → None ≡ next_reference e s at₀
    onward-end l = sym (w ∙ next-end at l)

    module _ (l : at < length s) (o : Option Operation) (is : o ≡ operation_at e s at) where
      pub onward-none : o ≡ None → None ≡ next_reference e s at₀
      onward-none q = sym (w ∙ next-none at l (sym is ∙ q))

      module _ (op : Operation) (q : o ≡ Some op) where
        abbrev there : operation_at e s at ≡ Some op
        there = sym is ∙ q

        pub onward-entry : op.row ≡ 19 → next_reference e s at₀ ≡ next_reference e s op.first.start
        onward-entry t = w ∙ next-entry at l op there (yes_eqb {a = op.row} {b = 19} t)

        pub less-entry : length s - op.first.start < length s - at
        less-entry =
            let i : (at < op.next.at) × (op.next.at ≤ length s) × (at < op.first.start) × (op.first.start ≤ op.first.end) × (op.first.end ≤ op.next.at) = operation-inside e s at op there in
            omega arith

        pub less-next : length s - op.next.at < length s - at
        less-next = let i : at < op.next.at = (operation-inside e s at op there).0 in omega arith

        module _ (t : op.row ≡ 19 → ⊥) (y : Option Reference) (own_is : y ≡ reference_of op) where
          pub onward-own : (r : Reference) → y ≡ Some r → Some r ≡ next_reference e s at₀
          onward-own r p = sym (w ∙ next-own at l op there (no_eqb {a = op.row} {b = 19} t) r (sym own_is ∙ p))

          pub onward-pass : y ≡ None → next_reference e s at₀ ≡ next_reference e s op.next.at
          onward-pass p = w ∙ next-pass at l op there (no_eqb {a = op.row} {b = 19} t) (sym own_is ∙ p)
