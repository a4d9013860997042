-- Attribute specifications: each takes bytes that are there, and the steps that the loop past them takes.
use Prim.Native.Nat.{ℕ, zero, suc, ◌+◌, ◌≤◌, ◌<◌}
use mathlib.Core.Path.{◌≡◌, refl, ap, sym, ◌∙◌, subst}
use Rattle.std.specs.Prelude.{None, Option, Some}
use Rattle.readers.specs.declared.abbreviations.SpecStep.{SpecStep}
use mathlib.Core.List.{List, []}
use native.Mathlib.Omega.{arith}
use lib.ListN.{length, get_or}
use lib.Dec.{eqb}
use mir.Facts.{yes_eqb, no_eqb}
use Rattle.readers.specs.Choice.{bind}
use Rattle.readers.proofs.Choice.{pick_yes, pick_no, pick-either, All, all-some, all_none, all-bind, all_of}
use Rattle.readers.specs.Numbers.{sleb}
use Rattle.readers.specs.Layout.{short}
use Rattle.readers.specs.Scan.{Scanned, push, on_turn, scan_within, scan}
use Rattle.readers.proofs.Scan.{Goes, scan-stop, scan-bad, scan-more}
use Rattle.readers.specs.Cursors.{cursor, leb_at}
use Rattle.readers.specs.Abbreviations.{number_spec, implicit_spec, spec_at, spec_turn, attributes_from, scanned_to, past_attributes}
use Rattle.readers.specs.Inner.Abbreviations.{PlainSpec}
use Rattle.readers.specs.declared.cursor.Cursor.{Cursor}
use Rattle.readers.specs.declared.abbreviations.AttributeSpec.{AttributeSpec}
use Rattle.readers.specs.declared.abbreviations.SpecStep.TheVariants.{Attribute, Last as LastSpec}
use Rattle.readers.proofs.Lebs.{short-one, sleb-inside, short-inside}

-- ---- one specification, by what was read of it

module _ (s : List ℕ) (name form at : ℕ) where
  pub implicit-plain : (form ≡ 0x21 → ⊥) → Some (Attribute (record { name = name; form = form; implicit = 0; next = cursor at })) ≡ implicit_spec s name form at
  unfolding implicit_spec
  implicit-plain h = sym (pick_no _ _ _ (no_eqb h))

  pub implicit-none : form ≡ 0x21 → leb_at sleb s at ≡ None → None ≡ implicit_spec s name form at
  unfolding implicit_spec number_spec
  implicit-none h e = sym (pick_yes _ _ _ (yes_eqb h) ∙ ap (λ n. number_spec n (λ v next. Some (Attribute (record { name = name; form = form; implicit = v; next = cursor next })))) e)

  pub implicit-value : (v : ℕ) (c : Cursor) → form ≡ 0x21 → leb_at sleb s at ≡ Some (v, c) → Some (Attribute (record { name = name; form = form; implicit = v; next = c })) ≡ implicit_spec s name form at
  unfolding implicit_spec number_spec
  implicit-value v c h e = sym (pick_yes _ _ _ (yes_eqb h) ∙ ap (λ n. number_spec n (λ v next. Some (Attribute (record { name = name; form = form; implicit = v; next = cursor next })))) e)

pub spec-no-name : (s : List ℕ) (at : ℕ) → leb_at short s at ≡ None → None ≡ spec_at s at
unfolding spec_at number_spec
spec-no-name s at e = rw e

module _ (s : List ℕ) (at name : ℕ) (c : Cursor) (e : leb_at short s at ≡ Some (name, c)) where
  pub spec-no-form : leb_at short s c.at ≡ None → None ≡ spec_at s at
  unfolding spec_at number_spec
  spec-no-form e' = rw (e, e')

  module _ (form : ℕ) (c' : Cursor) (e' : leb_at short s c.at ≡ Some (form, c')) where
    pub spec-last : name ≡ 0 → form ≡ 0 → Some (LastSpec c') ≡ spec_at s at
    unfolding spec_at number_spec
    spec-last h h' = rw (e, e') (sym (pick_yes _ _ _ (yes_eqb h) ∙ pick_yes _ _ _ (yes_eqb h')))

    pub spec-half : name ≡ 0 → (form ≡ 0 → ⊥) → None ≡ spec_at s at
    unfolding spec_at number_spec
    spec-half h h' = rw (e, e') (sym (pick_yes _ _ _ (yes_eqb h) ∙ pick_no _ _ _ (no_eqb h')))

    pub spec-unformed : (name ≡ 0 → ⊥) → form ≡ 0 → None ≡ spec_at s at
    unfolding spec_at number_spec
    spec-unformed h h' = rw (e, e') (sym (pick_no _ _ _ (no_eqb h) ∙ pick_yes _ _ _ (yes_eqb h')))

    pub spec-whole : (name ≡ 0 → ⊥) → (form ≡ 0 → ⊥) → implicit_spec s name form c'.at ≡ spec_at s at
    unfolding spec_at number_spec
    spec-whole h h' = rw (e, e') (sym (pick_no _ _ _ (no_eqb h) ∙ pick_no _ _ _ (no_eqb h')))

-- a name and a form of one byte each
module _ (s : List ℕ) (at : ℕ) (h : at + 2 ≤ length s) where
  pub spec-plain : PlainSpec (get_or s at 0) (get_or s (at + 1) 0)
      → Some (Attribute (record { name = get_or s at 0; form = get_or s (at + 1) 0; implicit = 0; next = cursor (at + 2) })) ≡ spec_at s at
  spec-plain p =
      ap (λ (n : ℕ). Some (Attribute (record { name = get_or s at 0; form = get_or s (at + 1) 0; implicit = 0; next = cursor n }))) (let e : at + 2 ≡ at + 1 + 1 = omega arith in e)
      ∙ implicit-plain s (get_or s at 0) (get_or s (at + 1) 0) (at + 1 + 1) p.other
      ∙ spec-whole s at _ (cursor (at + 1)) (sym (short-one s at (omega arith) p.short_name))
      _ (cursor (at + 1 + 1)) (sym (short-one s (at + 1) (omega arith) p.short_form)) p.named p.formed

  pub spec-zeros : get_or s at 0 ≡ 0 → get_or s (at + 1) 0 ≡ 0 → Some (LastSpec (cursor (at + 2))) ≡ spec_at s at
  spec-zeros a b =
      ap (λ (n : ℕ). Some (LastSpec (cursor n))) (let e : at + 2 ≡ at + 1 + 1 = omega arith in e)
      ∙ spec-last s at _ (cursor (at + 1)) (sym (short-one s at (omega arith) (omega arith)))
      _ (cursor (at + 1 + 1)) (sym (short-one s (at + 1) (omega arith) (omega arith))) a b

-- ---- how far it comes

unfoldable pub InsideSpec : ℕ → ℕ → Option SpecStep → Type 0
InsideSpec end at (Some (Attribute a)) = (at < a.next.at) × (a.next.at ≤ end)
InsideSpec end at (Some (LastSpec c)) = (at < c.at) × (c.at ≤ end)
InsideSpec end at None = Unit {0}

number-inside : (P : Option SpecStep → Type 0) (n : Option (ℕ × Cursor)) (k : ℕ → ℕ → Option SpecStep) → P None → ((v : ℕ) (c : Cursor) → n ≡ Some (v, c) → P (k v c.at)) → P (number_spec n k)
unfolding number_spec
number-inside P (Some (v, c)) k z h = h v c refl
number-inside P None k z h = z

implicit-inside : (s : List ℕ) (name form from at : ℕ) → from < at → at ≤ length s → InsideSpec (length s) from (implicit_spec s name form at)
unfolding implicit_spec InsideSpec
implicit-inside s name form from at h l =
    pick-either (InsideSpec (length s) from) (eqb form 0x21) _ _
    (λ _. number-inside (InsideSpec (length s) from) (leb_at sleb s at) _ tt
    (λ v c e. let q : (at < c.at) × (c.at ≤ length s) = sleb-inside s at v c e in (omega (arith, q.0), q.1)))
    (λ _. (h, l))

pub spec-inside : (s : List ℕ) (at : ℕ) → InsideSpec (length s) at (spec_at s at)
unfolding spec_at InsideSpec
spec-inside s at =
    number-inside (InsideSpec (length s) at) (leb_at short s at) _ tt (λ name c e.
    number-inside (InsideSpec (length s) at) (leb_at short s c.at) _ tt (λ form c' e'.
    let q : (at < c.at) × (c.at ≤ length s) = short-inside s at name c e in
    let q' : (c.at < c'.at) × (c'.at ≤ length s) = short-inside s c.at form c' e' in
    let h : at < c'.at = omega (arith, q.0, q'.0) in
    pick-either (InsideSpec (length s) at) (eqb name 0) _ _
    (λ _. pick-either (InsideSpec (length s) at) (eqb form 0) _ _ (λ _. (h, q'.1)) (λ _. tt))
    (λ _. pick-either (InsideSpec (length s) at) (eqb form 0) _ _ (λ _. tt) (λ _. implicit-inside s name form at c'.at h q'.1))))

pub attribute-inside : (s : List ℕ) (at : ℕ) (a : AttributeSpec) → spec_at s at ≡ Some (Attribute a) → (at < a.next.at) × (a.next.at ≤ length s)
unfolding InsideSpec
attribute-inside s at a e = subst (InsideSpec (length s) at) e (spec-inside s at)

spec-goes : (end at : ℕ) (r : Option SpecStep) → InsideSpec end at r → Goes end at (spec_turn r)
unfolding InsideSpec spec_turn Goes
spec-goes end at (Some (Attribute a)) h = h
spec-goes end at (Some (LastSpec c)) h = tt
spec-goes end at None h = tt

goes : (s : List ℕ) (at : ℕ) → Goes (length s) at (spec_turn (spec_at s at))
goes s at = spec-goes (length s) at (spec_at s at) (spec-inside s at)

-- ---- past them

module _ (s : List ℕ) (at : ℕ) where
  pub attributes-more : (a : AttributeSpec) → spec_at s at ≡ Some (Attribute a) → attributes_from s at ≡ bind (attributes_from s a.next.at) (push a)
  unfolding attributes_from spec_turn
  attributes-more a e = scan-more (length s) (λ n. spec_turn (spec_at s n)) (goes s) at a a.next.at (ap spec_turn e)

  pub attributes-last : (c : Cursor) → spec_at s at ≡ Some (LastSpec c) → attributes_from s at ≡ Some ([], c.at)
  unfolding attributes_from spec_turn
  attributes-last c e = scan-stop (length s) (λ n. spec_turn (spec_at s n)) (goes s) at c.at (ap spec_turn e)

  pub attributes-bad : spec_at s at ≡ None → attributes_from s at ≡ None
  unfolding attributes_from spec_turn
  attributes-bad e = scan-bad (length s) (λ n. spec_turn (spec_at s n)) (goes s) at (ap spec_turn e)

to_same : (a : AttributeSpec) (o : Option (Scanned AttributeSpec ℕ)) → scanned_to (bind o (push a)) ≡ scanned_to o
unfolding bind push scanned_to
to_same a None = refl
to_same a (Some r) = refl

module _ (s : List ℕ) (at : ℕ) where
  pub past_more : (a : AttributeSpec) → spec_at s at ≡ Some (Attribute a) → past_attributes s at ≡ past_attributes s a.next.at
  unfolding past_attributes
  past_more a e = ap scanned_to (attributes-more s at a e) ∙ to_same a (attributes_from s a.next.at)

  pub past-last : (c : Cursor) → spec_at s at ≡ Some (LastSpec c) → Some c ≡ past_attributes s at
  unfolding past_attributes scanned_to
  past-last c e = sym (ap scanned_to (attributes-last s at c e))

  pub past-bad : spec_at s at ≡ None → None ≡ past_attributes s at
  unfolding past_attributes scanned_to
  past-bad e = sym (ap scanned_to (attributes-bad s at e))

-- the place past them is inside
abbrev PastLaw : ℕ → ℕ → Scanned AttributeSpec ℕ → Type 0
PastLaw end at r = (at < r.1) × (r.1 ≤ end)

turn-past : (end at : ℕ) (r : Option SpecStep) (k : AttributeSpec → ℕ → Option (Scanned AttributeSpec ℕ)) → InsideSpec end at r
    → ((a : AttributeSpec) (n : ℕ) → at < n → All (PastLaw end at) (k a n)) → All (PastLaw end at) (on_turn (spec_turn r) k)
unfolding InsideSpec spec_turn on_turn
turn-past end at (Some (Attribute a)) k q h = h a a.next.at q.0
turn-past end at (Some (LastSpec c)) k q h = all-some (PastLaw end at) q
turn-past end at None k q h = all_none _

within-past : (s : List ℕ) (k at : ℕ) → All (PastLaw (length s) at) (scan_within k (λ n. spec_turn (spec_at s n)) at)
unfolding scan_within push
within-past s zero at = all_none _
within-past s (suc k) at =
    turn-past (length s) at (spec_at s at) _ (spec-inside s at)
    (λ a n lo. all-bind (PastLaw (length s) n) (PastLaw (length s) at) (scan_within k (λ n. spec_turn (spec_at s n)) n) (push a) (within-past s k n)
    (λ r e q. all-some (PastLaw (length s) at) (omega (arith, q.0), q.1)))

pub attributes-inside : (s : List ℕ) (at : ℕ) → All (PastLaw (length s) at) (attributes_from s at)
unfolding attributes_from scan
attributes-inside s at = within-past s _ at

-- what a place past them says of them
pub record Past (s : List ℕ) (at : ℕ) (c : Cursor) : Type 0 where
  pub all : List AttributeSpec
  pub read : attributes_from s at ≡ Some (all, c.at)
  pub ahead : at < c.at
  pub inside : c.at ≤ length s

pub past-read : (s : List ℕ) (at : ℕ) (c : Cursor) → past_attributes s at ≡ Some c → Past s at c
unfolding past_attributes scanned_to
past-read s at c g = read_of (attributes_from s at) refl g
  where
    read_of : (o : Option (Scanned AttributeSpec ℕ)) → attributes_from s at ≡ o → scanned_to o ≡ Some c → Past s at c
    read_of None e k = let z : ◌≡◌ {A = ℕ} 0 1 = cc in absurd (omega arith)
    read_of (Some r) e k =
        let p : cursor r.1 ≡ c = cc in
        let p' : r.1 ≡ c.at = ap (λ (x : Cursor). x.at) p in
        let q : (at < r.1) × (r.1 ≤ length s) = all_of (PastLaw (length s) at) (attributes-inside s at) e in
        record { all = r.0; read = e ∙ ap (λ (x : ℕ). Some (r.0, x)) p'; ahead = omega (arith, q.0); inside = omega (arith, q.1) }
