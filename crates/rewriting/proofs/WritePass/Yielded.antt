-- Where the next reference of an expression stands: at or after the place it was asked from, inside its operation, which is inside the slice. Assumes nothing.
use mathlib.Core.Path.{◌≡◌, refl, ap, sym, ◌∙◌, subst}
use Prim.Native.Nat.{ℕ, zero, suc, ◌+◌, ◌-◌, ◌^◌, ◌≤◌, ◌<◌}
use native.Mathlib.Omega.{arith}
use mathlib.Core.Bool.{Bool}
use mathlib.Core.List.{List}
use mathlib.Core.Logic.{⊎_elim}
use lib.ListN.{length, drop}
use lib.Seq.{drop-drop}
use lib.Dec.{ltb, eqb}
use mir.Facts.{ltb_yes, ltb_no}
use Rattle.readers.proofs.Choice.{pick-either, either, Took, took-add}
use Rattle.readers.specs.Layout.{as_bytes, token_in}
use Rattle.readers.specs.Fields.{size, field_of, as_field, token_at}
use Rattle.readers.specs.Operations.{operation_row}
use Rattle.readers.specs.Steps.{operation_at}
use Rattle.readers.specs.References.{named, named_type, reference_of, next_reference}
use Rattle.readers.specs.declared.cursor.Encoding.{Encoding}
use Rattle.readers.specs.declared.cursor.Cursor.{Cursor}
use Rattle.readers.specs.declared.fields.Field.{Field}
use Rattle.std.specs.Prelude.{None, Option, Some}
use Rattle.readers.specs.declared.operations.Operation.{Operation}
use Rattle.readers.specs.declared.expressions.Reference.{Reference}
use Rattle.readers.proofs.OperationReads.{OperationHeld, token2, token-took, first-from, past, operation-held, operation-inside}
use Rattle.readers.proofs.Tokens.{Inside, token-inside}
use Rattle.readers.proofs.Yields.{next-end, next-none, next-entry, next-own, next-pass}

module _ (e : Encoding) (s : List ℕ) where
  abbrev big : Bool
  big = e.big_endian

  unfoldable Placed : ℕ → Option Reference → Type 0
  Placed at (Some r) = (at ≤ r.place) × (r.place + r.width ≤ r.next.at) × (r.next.at ≤ length s)
  Placed at None = Unit {0}

  placed-from : (at n : ℕ) (y : Option Reference) → at ≤ n → Placed n y → Placed at y
  unfolding Placed
  placed-from at n (Some r) h p = let k : n ≤ r.place = p.0 in (omega arith, p.1, p.2)
  placed-from at n None h p = tt

  -- a field of an operation
  abbrev FieldIn : ℕ → Field → Cursor → Type 0
  FieldIn at f c = (at ≤ f.start) × (f.start ≤ f.end) × (f.end ≤ c.at) × (c.at ≤ length s)

  named_in : (at : ℕ) (f : Field) (b : Bool) (c : Cursor) → FieldIn at f c → Placed at (named f b c)
  unfolding named Placed
  named_in at f b c h = let p : f.start ≤ f.end = h.1 in let q : f.end ≤ c.at = h.2 in (h.0, omega arith, h.3)

  type-in : (at : ℕ) (f : Field) (c : Cursor) → FieldIn at f c → Placed at (named_type f c)
  unfolding named_type Placed
  type-in at f c h = pick-either (Placed at) _ _ _ (λ _. tt) (λ _. named_in at f _ c h)

  reference-in : (at : ℕ) (op : Operation) → FieldIn at op.first op.next → FieldIn at op.second op.next → Placed at (reference_of op)
  unfolding reference_of Placed
  reference-in at op f g =
      pick-either (Placed at) _ _ _ (λ _. tt) (λ _.
      pick-either (Placed at) _ _ _ (λ _. named_in at op.first _ op.next f) (λ _.
      pick-either (Placed at) _ _ _ (λ _. type-in at op.first op.next f) (λ _.
      pick-either (Placed at) _ _ _ (λ _. type-in at op.second op.next g) (λ _.
      pick-either (Placed at) _ _ _ (λ _. type-in at op.first op.next f) (λ _. tt)))))

  module _ (at : ℕ) (op : Operation) (q : operation_at e s at ≡ Some op) where
    held : OperationHeld e (drop at s) at op
    held = operation-held e s at op q

    abbrev before : ℕ
    before = size big held.c + size big held.a

    took : Took (drop at s) before held.x2
    took = took-add (drop at s) _ _ held.x1 held.x2 (first-from e (drop at s) at op held) (token-took e _ held.x1 held.a held.x2 held.first)

    second_at : op.second ≡ field_of big (at + before) held.b
    second_at =
        ap (λ (o : Operation). o.second) held.made
        ∙ ap (λ n. field_of big n held.b) (let z : at + size big held.c + size big held.a ≡ at + before = omega arith in z)

    second-read : token_at e s (at + before) (token2 e (operation_row held.c.seen)) ≡ Some op.second
    unfolding token_at as_field
    second-read =
        ap (λ (x : List ℕ). as_field big (at + before) (token_in big as_bytes (token2 e (operation_row held.c.seen)) x)) (sym (drop-drop before at s) ∙ sym took.1)
        ∙ ap (as_field big (at + before)) held.second
        ∙ ap Some (sym second_at)

    second-in : FieldIn at op.second op.next
    unfolding field_of
    second-in =
        let i : Inside s (at + before) op.second = token-inside e s (at + before) op.second _ second-read in
        let a : at + before ≤ op.second.start = i.after in
        let z : op.second.end ≡ at + before + size big held.b = ap (λ (f : Field). f.end) second_at in
        let n : op.next.at ≡ at + (size big held.c + size big held.a + size big held.b + size big held.d) = past e (drop at s) at op held in
        (omega arith, i.forward, omega arith, (operation-inside e s at op q).1)

    first-in : FieldIn at op.first op.next
    first-in =
        let w : (at < op.next.at) × (op.next.at ≤ length s) × (at < op.first.start) × (op.first.start ≤ op.first.end) × (op.first.end ≤ op.next.at) = operation-inside e s at op q in
        let a : at < op.first.start = w.2 in
        (omega arith, w.3, w.4, w.1)

  placed-own : (at : ℕ) (y : Option Reference) → Placed at y → (z : Option Reference) → (y ≡ None → Placed at z) → ((r : Reference) → y ≡ Some r → z ≡ Some r) → Placed at z
  placed-own at None w z f h = f refl
  placed-own at (Some r) w z f h = subst (Placed at) (sym (h r refl)) w

  placed-operation : (at : ℕ) → at < length s → ((n : ℕ) → at < n → Placed n (next_reference e s n)) → (o : Option Operation) → operation_at e s at ≡ o → Placed at (next_reference e s at)
  unfolding Placed
  placed-operation at l ih None q = subst (Placed at) (sym (next-none e s at l q)) tt
  placed-operation at l ih (Some op) q =
      let i : (at < op.next.at) × (op.next.at ≤ length s) × (at < op.first.start) × (op.first.start ≤ op.first.end) × (op.first.end ≤ op.next.at) = operation-inside e s at op q in
      let lo : at < op.next.at = i.0 in
      let fo : at < op.first.start = i.2 in
      ⊎_elim
      (λ t. subst (Placed at) (sym (next-entry e s at l op q t)) (placed-from at op.first.start (next_reference e s op.first.start) (omega arith) (ih op.first.start fo)))
      (λ t. placed-own at (reference_of op) (reference-in at op (first-in at op q) (second-in at op q)) (next_reference e s at)
      (λ p. subst (Placed at) (sym (next-pass e s at l op q t p)) (placed-from at op.next.at (next_reference e s op.next.at) (omega arith) (ih op.next.at lo)))
      (λ r p. next-own e s at l op q t r p))
      (either (eqb op.row 19))

  placed-within : (k at : ℕ) → length s - at ≤ k → Placed at (next_reference e s at)
  unfolding Placed
  placed-within zero at h = subst (Placed at) (sym (next-end e s at (omega arith))) tt
  placed-within (suc k) at h =
      ⊎_elim
      (λ t. let l : at < length s = ltb_yes t in placed-operation at l (λ n lo. placed-within k n (omega arith)) (operation_at e s at) refl)
      (λ t. let l : length s ≤ at = ltb_no t in subst (Placed at) (sym (next-end e s at l)) tt)
      (either (ltb at (length s)))

  pub next-placed : (at : ℕ) (y : Option Reference) → y ≡ next_reference e s at → (r : Reference) → y ≡ Some r
      → (at ≤ r.place) × (r.place + r.width ≤ r.next.at) × (r.next.at ≤ length s)
  unfolding Placed
  next-placed at y q r p = subst (Placed at) (sym q ∙ p) (placed-within (length s - at) at (omega arith))

  pub next_small : (at : ℕ) (y : Option Reference) → y ≡ next_reference e s at → (r : Reference) → y ≡ Some r → length s < 2 ^ 64 → r.place + r.width < 2 ^ 64
  next_small at y q r p l =
      let i : (at ≤ r.place) × (r.place + r.width ≤ r.next.at) × (r.next.at ≤ length s) = next-placed at y q r p in
      let a : r.place + r.width ≤ r.next.at = i.1 in
      let b : r.next.at ≤ length s = i.2 in
      omega arith
