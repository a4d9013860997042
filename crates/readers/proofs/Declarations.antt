-- Abbreviation declarations: each takes bytes that are there; the steps of the search and of the check; the index.
use Prim.Native.Nat.{ℕ, zero, suc, ◌+◌, ◌-◌, ◌≤◌, ◌<◌}
use mathlib.Core.Path.{◌≡◌, refl, ap, ap₂, sym, ◌∙◌, subst}
use mathlib.Core.Logic.{◌⊎◌, inl, inr, ⊎_elim}
use mathlib.Core.Bool.{Bool, true, false, not}
use Rattle.std.specs.Prelude.{is_some, None, Option, Some, Result, Ok, Err}
use Rattle.readers.specs.declared.abbreviations.DeclarationStep.{DeclarationStep}
use mathlib.Core.List.{List, [], ◌∷◌, ◌++◌, append-nil}
use native.Mathlib.Omega.{arith}
use lib.ListN.{length, set, drop, take, length-set, length-append, length-drop, length-replicate, get_or}
use lib.Seq.{drop-cons, set_at, take_at, drop_at, append_snoc}
use lib.Dec.{T, eqb, leb, ltb}
use mir.Facts.{yes_eqb, no_eqb, eqb_yes, eqb_no, yes_leb, no_leb, leb_yes, yes_ltb, no_ltb, ltb_yes, ltb_no}
use Rattle.readers.specs.Choice.{pick, bind, ◌and◌, zeros}
use Rattle.readers.proofs.Choice.{pick_yes, pick_no, pick-either, either, check-yes, check-no, bind-at, bind-none}
use Rattle.readers.specs.Numbers.{uleb}
use Rattle.readers.specs.Layout.{short}
use Rattle.readers.specs.Scan.{Turn, more, stop, bad, Scanned, push, on_turn, scan_within, scan}
use Rattle.readers.proofs.Scan.{Goes, scan-stop, scan-bad, scan-more}
use Rattle.readers.specs.Cursors.{leb_at, fixed_at}
use Rattle.readers.specs.Slots.{code_of, slot_code, slot_of}
use Rattle.readers.specs.Inner.Slots.{Twice, Ordered}
use Rattle.readers.specs.Abbreviations.{scanned_to, past_attributes, number_declaration, moved_declaration, head_at, whole_declaration, declaration_at, Placed, declaration_turn, declarations_from, declared_in, is_found, distinct, check_distinct, abbreviations_of, as_checked, checked_of, insert_by_code, by_code, slots_of, indexed, index_for, index_of, search_turn, found_by, search_at, declaration_found, holds_code, head_in, find_head, find_at, whole_found}
use Rattle.readers.specs.Inner.Abbreviations.{accepted, count_of, Gathered}
use Rattle.readers.specs.declared.cursor.Cursor.{Cursor}
use Rattle.readers.specs.declared.abbreviations.AttributeSpec.{AttributeSpec}
use Rattle.readers.specs.declared.abbreviations.Declaration.{Declaration}
use Rattle.readers.specs.declared.abbreviations.DeclarationStep.TheVariants.{Declaration as Declared, Last}
use Rattle.readers.specs.declared.slots.Arranged.{Arranged}
use Rattle.readers.specs.declared.slots.Arranged.TheVariants.{Ascending, Repeated}
use Rattle.readers.proofs.Lebs.{uleb-inside, short-inside}
use Rattle.readers.proofs.Widths.{fixed-inside}
use Rattle.readers.proofs.Specs.{Past, past-read}
use Rattle.readers.proofs.SlotOrders.{code_read, swaps-length, Drawn, drawn-of, In, in-at, each_in, padded-at, zeros-at, Up, Strict, strict_of, ordered_same}

-- ---- one declaration, by what was read of it

pub head-no-code : (s : List ℕ) (at : ℕ) → leb_at uleb s at ≡ None → None ≡ head_at s at
unfolding head_at number_declaration
head-no-code s at e = rw e

module _ (s : List ℕ) (at code : ℕ) (c₁ : Cursor) (e₁ : leb_at uleb s at ≡ Some (code, c₁)) where
  pub head-last : code ≡ 0 → Some (Last c₁) ≡ head_at s at
  unfolding head_at number_declaration
  head-last z = rw e₁ (sym (pick_yes _ _ _ (yes_eqb z)))

  module _ (coded : code ≡ 0 → ⊥) where
    pub head-no-tag : leb_at short s c₁.at ≡ None → None ≡ head_at s at
    unfolding head_at number_declaration
    head-no-tag e₂ = rw (e₁, e₂) (sym (pick_no _ _ _ (no_eqb coded)))

    module _ (tag : ℕ) (c₂ : Cursor) (e₂ : leb_at short s c₁.at ≡ Some (tag, c₂)) where
      pub head-untagged : tag ≡ 0 → None ≡ head_at s at
      unfolding head_at number_declaration
      head-untagged z = rw (e₁, e₂) (sym (pick_no _ _ _ (no_eqb coded) ∙ pick_yes _ _ _ (yes_eqb z)))

      module _ (tagged : tag ≡ 0 → ⊥) where
        pub head-no-children : fixed_at false 1 s c₂.at ≡ None → None ≡ head_at s at
        unfolding head_at number_declaration
        head-no-children e₃ = rw (e₁, e₂, e₃) (sym (pick_no _ _ _ (no_eqb coded) ∙ pick_no _ _ _ (no_eqb tagged)))

        module _ (children : ℕ) (c₃ : Cursor) (e₃ : fixed_at false 1 s c₂.at ≡ Some (children, c₃)) where
          pub head-over : 1 < children → None ≡ head_at s at
          unfolding head_at number_declaration
          head-over h = rw (e₁, e₂, e₃) (sym (pick_no _ _ _ (no_eqb coded) ∙ pick_no _ _ _ (no_eqb tagged) ∙ pick_no _ _ _ (no_leb h)))

          pub head-whole : children ≤ 1 → Some (Declared (record { code = code; tag = tag; children = eqb children 1; attributes = c₃ }) c₃) ≡ head_at s at
          unfolding head_at number_declaration
          head-whole h = rw (e₁, e₂, e₃) (sym (pick_no _ _ _ (no_eqb coded) ∙ pick_no _ _ _ (no_eqb tagged) ∙ pick_yes _ _ _ (yes_leb h)))

-- ---- and its attribute specifications

module _ (s : List ℕ) (at : ℕ) (r : Option DeclarationStep) (p : r ≡ head_at s at) where
  pub declaration-none : r ≡ None → None ≡ declaration_at s at
  unfolding declaration_at whole_declaration
  declaration-none q = ap (whole_declaration s) (sym q ∙ p)

  pub declaration-last : (c : Cursor) → r ≡ Some (Last c) → Some (Last c) ≡ declaration_at s at
  unfolding declaration_at whole_declaration
  declaration-last c q = ap (whole_declaration s) (sym q ∙ p)

  module _ (d : Declaration) (c : Cursor) (q : r ≡ Some (Declared d c)) (m : Option Cursor) (l : m ≡ past_attributes s d.attributes.at) where
    pub declaration-no-attributes : m ≡ None → None ≡ declaration_at s at
    unfolding declaration_at whole_declaration moved_declaration
    declaration-no-attributes k = ap (λ (m : Option Cursor). moved_declaration m (λ c. Some (Declared d c))) (sym k ∙ l) ∙ ap (whole_declaration s) (sym q ∙ p)

    pub declaration-whole : (next : Cursor) → m ≡ Some next → Some (Declared d next) ≡ declaration_at s at
    unfolding declaration_at whole_declaration moved_declaration
    declaration-whole next k = ap (λ (m : Option Cursor). moved_declaration m (λ c. Some (Declared d c))) (sym k ∙ l) ∙ ap (whole_declaration s) (sym q ∙ p)

head-found : (s : List ℕ) (at : ℕ) (r : Option DeclarationStep) → head_at s at ≡ r → whole_found s (declaration_found r) ≡ declaration_found (declaration_at s at)
unfolding declaration_at whole_found declaration_found whole_declaration
head-found s at r e = same r ∙ sym (ap (λ (r : Option DeclarationStep). declaration_found (whole_declaration s r)) e)
  where
    same : (r : Option DeclarationStep) → whole_found s (declaration_found r) ≡ declaration_found (whole_declaration s r)
    same (Some (Declared d c)) = refl
    same (Some (Last c)) = refl
    same None = refl

-- ---- how far it comes

-- a declaration's attributes are inside, and so is what follows them
pub record Inside (s : List ℕ) (at : ℕ) (d : Declaration) (c : Cursor) : Type 0 where
  pub ahead : at < d.attributes.at
  pub past : Past s d.attributes.at c
  pub coded : d.code ≡ 0 → ⊥

unfoldable InsideStep : List ℕ → ℕ → Option DeclarationStep → Type 0
InsideStep s at (Some (Declared d c)) = Inside s at d c
InsideStep s at (Some (Last c)) = (at < c.at) × (c.at ≤ length s)
InsideStep s at None = Unit {0}

number-inside : (P : Option DeclarationStep → Type 0) (n : Option (ℕ × Cursor)) (k : ℕ → ℕ → Option DeclarationStep) → P None → ((v : ℕ) (c : Cursor) → n ≡ Some (v, c) → P (k v c.at)) → P (number_declaration n k)
unfolding number_declaration
number-inside P (Some (v, c)) k z h = h v c refl
number-inside P None k z h = z

moved_inside : (P : Option DeclarationStep → Type 0) (n : Option Cursor) (k : Cursor → Option DeclarationStep) → P None → ((c : Cursor) → n ≡ Some c → P (k c)) → P (moved_declaration n k)
unfolding moved_declaration
moved_inside P (Some c) k z h = h c refl
moved_inside P None k z h = z

abbrev Wholly : List ℕ → ℕ → Option DeclarationStep → Type 0
Wholly s at r = InsideStep s at (whole_declaration s r)

step-inside : (s : List ℕ) (at : ℕ) → InsideStep s at (declaration_at s at)
unfolding declaration_at head_at whole_declaration InsideStep
step-inside s at =
    number-inside (Wholly s at) (leb_at uleb s at) _ tt (λ code c₁ e₁.
    let q₁ : (at < c₁.at) × (c₁.at ≤ length s) = uleb-inside s at code c₁ e₁ in
    pick-either (Wholly s at) (eqb code 0) _ _ (λ _. q₁) (λ coded.
    number-inside (Wholly s at) (leb_at short s c₁.at) _ tt (λ tag c₂ e₂.
    let q₂ : (c₁.at < c₂.at) × (c₂.at ≤ length s) = short-inside s c₁.at tag c₂ e₂ in
    pick-either (Wholly s at) (eqb tag 0) _ _ (λ _. tt) (λ _.
    number-inside (Wholly s at) (fixed_at false 1 s c₂.at) _ tt (λ children c₃ e₃.
    let q₃ : (c₃.at ≡ c₂.at + 1) × (1 ≤ length s - c₂.at) = fixed-inside false 1 s c₂.at children c₃ e₃ in
    pick-either (Wholly s at) (leb children 1) _ _ (λ _.
    moved_inside (InsideStep s at) (past_attributes s c₃.at) _ tt (λ c₄ e₄.
    record { ahead = omega (arith, q₁.0, q₂.0, q₃.0); past = past-read s c₃.at c₄ e₄; coded = eqb_no coded }))
    (λ _. tt))))))

pub declaration-inside : (s : List ℕ) (at : ℕ) (d : Declaration) (c : Cursor) → declaration_at s at ≡ Some (Declared d c) → Inside s at d c
unfolding InsideStep
declaration-inside s at d c e = subst (InsideStep s at) e (step-inside s at)

pub last-inside : (s : List ℕ) (at : ℕ) (c : Cursor) → declaration_at s at ≡ Some (Last c) → (at < c.at) × (c.at ≤ length s)
unfolding InsideStep
last-inside s at c e = subst (InsideStep s at) e (step-inside s at)

-- from its place to the place past it
pub declaration-ahead : (s : List ℕ) (at : ℕ) (d : Declaration) (c : Cursor) → declaration_at s at ≡ Some (Declared d c) → (at < c.at) × (c.at ≤ length s)
declaration-ahead s at d c e =
    let q : Inside s at d c = declaration-inside s at d c e in
    let h : d.attributes.at < c.at = q.past.ahead in
    let a : at < d.attributes.at = q.ahead in
    (omega arith, q.past.inside)

-- its code is the number at its place
unfoldable CodedStep : List ℕ → ℕ → Option DeclarationStep → Type 0
CodedStep s at (Some (Declared d c)) = code_of (leb_at uleb s at) ≡ d.code
CodedStep s at (Some (Last c)) = Unit {0}
CodedStep s at None = Unit {0}

abbrev WhollyCoded : List ℕ → ℕ → Option DeclarationStep → Type 0
WhollyCoded s at r = CodedStep s at (whole_declaration s r)

step-coded : (s : List ℕ) (at : ℕ) → CodedStep s at (declaration_at s at)
unfolding declaration_at head_at whole_declaration CodedStep code_of
step-coded s at =
    number-inside (WhollyCoded s at) (leb_at uleb s at) _ tt (λ code c₁ e₁.
    pick-either (WhollyCoded s at) (eqb code 0) _ _ (λ _. tt) (λ _.
    number-inside (WhollyCoded s at) (leb_at short s c₁.at) _ tt (λ tag c₂ e₂.
    pick-either (WhollyCoded s at) (eqb tag 0) _ _ (λ _. tt) (λ _.
    number-inside (WhollyCoded s at) (fixed_at false 1 s c₂.at) _ tt (λ children c₃ e₃.
    pick-either (WhollyCoded s at) (leb children 1) _ _ (λ _.
    moved_inside (CodedStep s at) (past_attributes s c₃.at) _ tt (λ c₄ e₄. ap code_of e₁))
    (λ _. tt))))))

declaration-code : (s : List ℕ) (at : ℕ) (d : Declaration) (c : Cursor) → declaration_at s at ≡ Some (Declared d c) → slot_code s (at + 1) ≡ d.code
unfolding CodedStep
declaration-code s at d c e =
    let z : at + 1 - 1 ≡ at = omega arith in
    sym (code_read s (at + 1) (λ f. omega arith) (leb_at uleb s at) (ap (leb_at uleb s) z)) ∙ subst (CodedStep s at) e (step-coded s at)

-- ---- the search

abbrev searching : List ℕ → ℕ → ℕ → ℕ → Turn (Unit {0}) (Option Declaration)
searching s to code n = pick (ltb n to) (search_turn code (declaration_at s n)) (stop None)

turn-goes : (s : List ℕ) (code at : ℕ) (r : Option DeclarationStep) → InsideStep s at r → Goes (length s) at (search_turn code r)
unfolding InsideStep search_turn Goes
turn-goes s code at (Some (Declared d c)) h =
    let a : at < d.attributes.at = h.ahead in
    let b : d.attributes.at < c.at = h.past.ahead in
    pick-either (Goes (length s) at) (eqb d.code code) _ _ (λ _. tt) (λ _. (omega arith, h.past.inside))
turn-goes s code at (Some (Last c)) h = tt
turn-goes s code at None h = tt

search-goes : (s : List ℕ) (to code at : ℕ) → Goes (length s) at (searching s to code at)
unfolding Goes
search-goes s to code at = pick-either (Goes (length s) at) (ltb at to) _ _ (λ _. turn-goes s code at (declaration_at s at) (step-inside s at)) (λ _. tt)

found-same : (o : Option (Scanned (Unit {0}) (Option Declaration))) → found_by (bind o (push tt)) ≡ found_by o
unfolding bind push found_by
found-same None = refl
found-same (Some r) = refl

module _ (s : List ℕ) (to code at : ℕ) where
  search-stops : (f : Option Declaration) → searching s to code at ≡ stop f → f ≡ search_at s to code at
  unfolding search_at found_by
  search-stops f e = sym (ap found_by (scan-stop (length s) (searching s to code) (search-goes s to code) at f e))

  pub search-end : to ≤ at → None ≡ search_at s to code at
  search-end h = search-stops None (pick_no _ _ _ (no_ltb {a = at} {b = to} h))

  pub search-last : (c : Cursor) → at < to → declaration_at s at ≡ Some (Last c) → None ≡ search_at s to code at
  unfolding search_turn
  search-last c h e = search-stops None (pick_yes _ _ _ (yes_ltb {a = at} {b = to} h) ∙ ap (search_turn code) e)

  pub search-bad : at < to → declaration_at s at ≡ None → None ≡ search_at s to code at
  unfolding search_turn
  search-bad h e = search-stops None (pick_yes _ _ _ (yes_ltb {a = at} {b = to} h) ∙ ap (search_turn code) e)

  module _ (d : Declaration) (c : Cursor) (h : at < to) (e : declaration_at s at ≡ Some (Declared d c)) where
    pub search-hit : d.code ≡ code → Some d ≡ search_at s to code at
    unfolding search_turn
    search-hit k = search-stops (Some d) (pick_yes _ _ _ (yes_ltb {a = at} {b = to} h) ∙ ap (search_turn code) e ∙ pick_yes _ _ _ (yes_eqb k))

    pub search-more : (d.code ≡ code → ⊥) → search_at s to code at ≡ search_at s to code c.at
    unfolding search_at search_turn
    search-more k =
        ap found_by (scan-more (length s) (searching s to code) (search-goes s to code) at tt c.at (pick_yes _ _ _ (yes_ltb {a = at} {b = to} h) ∙ ap (search_turn code) e ∙ pick_no _ _ _ (no_eqb k)))
        ∙ found-same (scan (length s) (searching s to code) c.at)

-- ---- an index that is zero up to i

pub zeros-length : (index : List ℕ) (n : ℕ) → index ≡ zeros n → length index ≡ n
zeros-length index n e = ap length e ∙ length-replicate n 0

-- ---- declarations in a row

turn-declared : (s : List ℕ) (at : ℕ) (r : Option DeclarationStep) → InsideStep s at r → Goes (length s) at (declaration_turn at r)
unfolding InsideStep declaration_turn Goes
turn-declared s at (Some (Declared d c)) h =
    let a : at < d.attributes.at = h.ahead in
    let b : d.attributes.at < c.at = h.past.ahead in
    (omega arith, h.past.inside)
turn-declared s at (Some (Last c)) h = tt
turn-declared s at None h = tt

declared-goes : (s : List ℕ) (at : ℕ) → Goes (length s) at (declaration_turn at (declaration_at s at))
declared-goes s at = turn-declared s at (declaration_at s at) (step-inside s at)

module _ (s : List ℕ) (at : ℕ) where
  pub declarations-more : (d : Declaration) (c : Cursor) → declaration_at s at ≡ Some (Declared d c) → declarations_from s at ≡ bind (declarations_from s c.at) (push (at, d))
  unfolding declarations_from declaration_turn
  declarations-more d c e = scan-more (length s) (λ n. declaration_turn n (declaration_at s n)) (declared-goes s) at (at, d) c.at (ap (declaration_turn at) e)

  pub declarations-last : (c : Cursor) → declaration_at s at ≡ Some (Last c) → declarations_from s at ≡ Some ([], c.at)
  unfolding declarations_from declaration_turn
  declarations-last c e = scan-stop (length s) (λ n. declaration_turn n (declaration_at s n)) (declared-goes s) at c.at (ap (declaration_turn at) e)

  pub declarations-bad : declaration_at s at ≡ None → declarations_from s at ≡ None
  unfolding declarations_from declaration_turn
  declarations-bad e = scan-bad (length s) (λ n. declaration_turn n (declaration_at s n)) (declared-goes s) at (ap (declaration_turn at) e)

-- the declarations from one place up to another
pub data Sequence (s : List ℕ) : ℕ → List Placed → ℕ → Type 0 where
  here : {at : ℕ} → Sequence s at [] at
  link : {at to : ℕ} {d : Declaration} {c : Cursor} {ds : List Placed} → declaration_at s at ≡ Some (Declared d c) → Sequence s c.at ds to → Sequence s at ((at, d) ∷ ds) to

chain_more : {s : List ℕ} {a b : ℕ} {ds : List Placed} {d : Declaration} {c : Cursor} → Sequence s a ds b → declaration_at s b ≡ Some (Declared d c) → Sequence s a (ds ++ ((b, d) ∷ [])) c.at
chain_more here e = link e here
chain_more (link e' k) e = link e' (chain_more k e)

chain-ahead : {s : List ℕ} {a b : ℕ} {ds : List Placed} → Sequence s a ds b → a ≤ b
chain-ahead here = omega arith
chain-ahead {s} {a} (link {d = d} {c = c} e k) = let h : c.at ≤ _ = chain-ahead k in omega (arith, (declaration-ahead s a d c e).0)

-- put before
unfoldable onto : List Placed → Option (Scanned Placed ℕ) → Option (Scanned Placed ℕ)
onto ds None = None
onto ds (Some r) = Some (ds ++ r.0, r.1)

onto-none : (o : Option (Scanned Placed ℕ)) → o ≡ onto [] o
unfolding onto
onto-none None = refl
onto-none (Some r) = refl

onto-push : (p : Placed) (ds : List Placed) (o : Option (Scanned Placed ℕ)) → bind (onto ds o) (push p) ≡ onto (p ∷ ds) o
unfolding onto bind push
onto-push p ds None = refl
onto-push p ds (Some r) = refl

chain-onto : {s : List ℕ} {a b : ℕ} {ds : List Placed} → Sequence s a ds b → declarations_from s a ≡ onto ds (declarations_from s b)
chain-onto {s} {a} here = onto-none (declarations_from s a)
chain-onto {s} {a} {b} (link {d = d} {c = c} {ds = ds} e k) =
    declarations-more s a d c e ∙ ap (λ o. bind o (push (a, d))) (chain-onto k) ∙ onto-push (a, d) ds (declarations_from s b)

-- ---- what they declare

unfoldable or_else : Option Declaration → Option Declaration → Option Declaration
or_else (Some d) g = Some d
or_else None g = g

else-nothing : (f : Option Declaration) → or_else f None ≡ f
unfolding or_else
else-nothing (Some d) = refl
else-nothing None = refl

chain-search : {s : List ℕ} {a b : ℕ} {ds : List Placed} (to code : ℕ) → Sequence s a ds b → b ≤ to → search_at s to code a ≡ or_else (declared_in ds code) (search_at s to code b)
unfolding declared_in or_else
chain-search to code here h = refl
chain-search {s} {a} {b} to code (link {d = d} {c = c} {ds = ds} e k) h =
    let l : c.at ≤ b = chain-ahead k in
    let m : a < to = omega (arith, (declaration-ahead s a d c e).0) in
    ⊎_elim
    (λ t. sym (search-hit s to code a d c m e (eqb_yes t)) ∙ ap (λ f. or_else f (search_at s to code b)) (sym (pick_yes _ (Some d) (declared_in ds code) t)))
    (λ t. search-more s to code a d c m e (eqb_no t) ∙ chain-search to code k h ∙ ap (λ f. or_else f (search_at s to code b)) (sym (pick_no _ (Some d) (declared_in ds code) t)))
    (either (eqb d.code code))

-- the search up to a place finds what is declared before it
chain-searched : {s : List ℕ} {a b : ℕ} {ds : List Placed} (code : ℕ) → Sequence s a ds b → search_at s b code a ≡ declared_in ds code
chain-searched {s} {a} {b} {ds} code k =
    chain-search b code k (omega arith) ∙ ap (or_else (declared_in ds code)) (sym (search-end s b code b (omega arith))) ∙ else-nothing (declared_in ds code)

-- ---- no code twice

both : (a b : Bool) → T a → T b → T (a and b)
unfolding ◌and◌
both true b p q = q
both false b p q = absurd p

first : (a b : Bool) → T (a and b) → T a
unfolding ◌and◌
first true b h = tt
first false b h = h

second : (a b : Bool) → T (a and b) → T b
unfolding ◌and◌
second true b h = h
second false b h = absurd h

not_first : (a b : Bool) → T a → T (not (not a and b))
unfolding ◌and◌
not_first true b h = tt
not_first false b h = absurd h

not-second : (a b : Bool) → T (not b) → T (not (a and b))
unfolding ◌and◌
not-second true b h = h
not-second false b h = tt

found-later : (ds rest : List Placed) (p : Placed) (code : ℕ) → p.1.code ≡ code → T (is_found (declared_in (ds ++ (p ∷ rest)) code))
unfolding declared_in is_found
found-later [] rest p code e = subst (λ f. T (is_found f)) (sym (pick_yes _ _ _ (yes_eqb e))) tt
found-later (d ∷ ds) rest p code e = pick-either (λ f. T (is_found f)) (eqb d.1.code code) _ _ (λ _. tt) (λ _. found-later ds rest p code e)

distinct-twice : (ds rest : List Placed) (p : Placed) → T (is_found (declared_in ds p.1.code)) → T (not (distinct (ds ++ (p ∷ rest))))
unfolding declared_in is_found distinct
distinct-twice [] rest p h = absurd h
distinct-twice (d ∷ ds) rest p h =
    ⊎_elim
    (λ t. not_first (is_found (declared_in (ds ++ (p ∷ rest)) d.1.code)) (distinct (ds ++ (p ∷ rest))) (found-later ds rest p d.1.code (sym (eqb_yes t))))
    (λ t. not-second (not (is_found (declared_in (ds ++ (p ∷ rest)) d.1.code))) (distinct (ds ++ (p ∷ rest))) (distinct-twice ds rest p (subst (λ f. T (is_found f)) (pick_no _ _ _ t) h)))
    (either (eqb d.1.code p.1.code))

unfound-more : (ds : List Placed) (p : Placed) (code : ℕ) → T (not (is_found (declared_in ds code))) → (p.1.code ≡ code → ⊥) → T (not (is_found (declared_in (ds ++ (p ∷ [])) code)))
unfolding declared_in is_found
unfound-more [] p code h k = subst (λ f. T (not (is_found f))) (sym (pick_no _ _ _ (no_eqb k))) tt
unfound-more (d ∷ ds) p code h k =
    ⊎_elim
    (λ t. absurd (subst (λ f. T (not (is_found f))) (pick_yes _ _ _ t) h))
    (λ t. subst (λ f. T (not (is_found f))) (sym (pick_no _ _ _ t)) (unfound-more ds p code (subst (λ f. T (not (is_found f))) (pick_no _ _ _ t) h) k))
    (either (eqb d.1.code code))

distinct_more : (ds : List Placed) (p : Placed) → T (distinct ds) → T (not (is_found (declared_in ds p.1.code))) → T (distinct (ds ++ (p ∷ [])))
unfolding declared_in is_found distinct
distinct_more [] p h k = both true true tt tt
distinct_more (d ∷ ds) p h k =
    ⊎_elim
    (λ t. absurd (subst (λ f. T (not (is_found f))) (pick_yes _ _ _ t) k))
    (λ t. both (not (is_found (declared_in (ds ++ (p ∷ [])) d.1.code))) (distinct (ds ++ (p ∷ [])))
    (unfound-more ds p d.1.code (first (not (is_found (declared_in ds d.1.code))) (distinct ds) h) (λ e. eqb_no t (sym e)))
    (distinct_more ds p (second (not (is_found (declared_in ds d.1.code))) (distinct ds) h) (subst (λ f. T (not (is_found f))) (pick_no _ _ _ t) k)))
    (either (eqb d.1.code p.1.code))

-- ---- the slots of declarations

slots_length : (ds : List Placed) → length (slots_of ds) ≡ length ds
unfolding slots_of
slots_length [] = refl
slots_length (d ∷ ds) = ap suc (slots_length ds)

slots-more : (ds : List Placed) (p : Placed) → slots_of (ds ++ (p ∷ [])) ≡ slots_of ds ++ ((p.0 + 1) ∷ [])
unfolding slots_of
slots-more [] p = refl
slots-more (d ∷ ds) p = ap (λ (l : List ℕ). (d.0 + 1) ∷ l) (slots-more ds p)

insert-length : (p : Placed) (ds : List Placed) → length (insert_by_code p ds) ≡ suc (length ds)
unfolding insert_by_code
insert-length p [] = refl
insert-length p (d ∷ ds) = pick-either (λ (l : List Placed). length l ≡ suc (suc (length ds))) (ltb d.1.code p.1.code) _ _ (λ _. ap suc (insert-length p ds)) (λ _. refl)

order-length : (ds : List Placed) → length (by_code ds) ≡ length ds
unfolding by_code
order-length [] = refl
order-length (d ∷ ds) = insert-length d (by_code ds) ∙ ap suc (order-length ds)

insert-in : (p : Placed) (ds : List Placed) (z : ℕ) → In z (slots_of (p ∷ ds)) → In z (slots_of (insert_by_code p ds))
unfolding insert_by_code slots_of In
insert-in p [] z i = i
insert-in p (d ∷ ds) z i =
    pick-either (λ (l : List Placed). In z (slots_of l)) (ltb d.1.code p.1.code) _ _
    (λ _. ⊎_elim (λ e. inr (insert-in p ds z (inl e))) (λ j. ⊎_elim (λ e. inl e) (λ k. inr (insert-in p ds z (inr k))) j) i)
    (λ _. i)

insert-from : (p : Placed) (ds : List Placed) (z : ℕ) → In z (slots_of (insert_by_code p ds)) → In z (slots_of (p ∷ ds))
unfolding insert_by_code slots_of In
insert-from p [] z = λ i. i
insert-from p (d ∷ ds) z =
    pick-either (λ (l : List Placed). In z (slots_of l) → In z (slots_of (p ∷ d ∷ ds))) (ltb d.1.code p.1.code) _ _
    (λ _ i. ⊎_elim (λ e. inr (inl e)) (λ j. ⊎_elim (λ e. inl e) (λ k. inr (inr k)) (insert-from p ds z j)) i)
    (λ _ i. i)

order-in : (ds : List Placed) (z : ℕ) → In z (slots_of ds) → In z (slots_of (by_code ds))
unfolding by_code slots_of In
order-in [] z i = i
order-in (d ∷ ds) z i = insert-in d (by_code ds) z (⊎_elim (λ e. inl e) (λ j. inr (order-in ds z j)) i)

order_from : (ds : List Placed) (z : ℕ) → In z (slots_of (by_code ds)) → In z (slots_of ds)
unfolding by_code slots_of In
order_from [] z i = i
order_from (d ∷ ds) z i = ⊎_elim (λ e. inl e) (λ j. inr (order_from ds z j)) (insert-from d (by_code ds) z i)

-- the code at each place is that of its declaration
unfoldable Coded : List ℕ → List Placed → Type 0
Coded s [] = Unit {0}
Coded s (d ∷ ds) = (slot_code s (d.0 + 1) ≡ d.1.code) × Coded s ds

chain-coded : {s : List ℕ} {a b : ℕ} {ds : List Placed} → Sequence s a ds b → Coded s ds
unfolding Coded
chain-coded here = tt
chain-coded {s} {a} (link {d = d} {c = c} e k) = (declaration-code s a d c e, chain-coded k)

module _ (s : List ℕ) where
  insert-coded : (p : Placed) (ds : List Placed) → slot_code s (p.0 + 1) ≡ p.1.code → Coded s ds → Coded s (insert_by_code p ds)
  unfolding insert_by_code Coded
  insert-coded p [] e q = (e, tt)
  insert-coded p (d ∷ ds) e q = pick-either (Coded s) (ltb d.1.code p.1.code) _ _ (λ _. (q.0, insert-coded p ds e q.1)) (λ _. (e, q))

  order-coded : (ds : List Placed) → Coded s ds → Coded s (by_code ds)
  unfolding by_code Coded
  order-coded [] q = tt
  order-coded (d ∷ ds) q = insert-coded d (by_code ds) q.0 (order-coded ds q.1)

  insert-up : (p : Placed) (ds : List Placed) → slot_code s (p.0 + 1) ≡ p.1.code → Coded s ds → Up (slot_code s) (slots_of ds) → Up (slot_code s) (slots_of (insert_by_code p ds))
  unfolding insert_by_code slots_of Coded Up In
  insert-up p [] e q u = (λ z i. absurd i, tt)
  insert-up p (d ∷ ds) e q u =
      pick-either (λ (l : List Placed). Up (slot_code s) (slots_of l)) (ltb d.1.code p.1.code) _ _
      (λ t. let h : d.1.code < p.1.code = ltb_yes {a = d.1.code} {b = p.1.code} t in (
        λ z i. ⊎_elim (λ f. let g : slot_code s z ≡ slot_code s (p.0 + 1) = ap (slot_code s) f in omega (arith, q.0)) (λ j. u.0 z j) (insert-from p ds z i),
        insert-up p ds e q.1 u.1,
      ))
      (λ t. let h : p.1.code ≤ d.1.code = ltb_no {a = d.1.code} {b = p.1.code} t in
      (λ z i. ⊎_elim (λ f. let g : slot_code s z ≡ slot_code s (d.0 + 1) = ap (slot_code s) f in omega (arith, q.0)) (λ j. omega (arith, q.0, u.0 z j)) i, u))

  order-up : (ds : List Placed) → Coded s ds → Up (slot_code s) (slots_of (by_code ds))
  unfolding by_code slots_of Coded Up
  order-up [] q = tt
  order-up (d ∷ ds) q = insert-up d (by_code ds) q.0 (order-coded ds q.1) (order-up ds q.1)

  -- ---- codes that are declared, by the slots

  found_in : (ds : List Placed) (z code : ℕ) → Coded s ds → In z (slots_of ds) → slot_code s z ≡ code → T (is_found (declared_in ds code))
  unfolding declared_in is_found slots_of Coded In
  found_in [] z code q i e = absurd i
  found_in (d ∷ ds) z code q i e =
      pick-either (λ f. T (is_found f)) (eqb d.1.code code) _ _ (λ _. tt)
      (λ t. ⊎_elim (λ f. absurd (eqb_no t (sym q.0 ∙ ap (slot_code s) (sym f) ∙ e))) (λ j. found_in ds z code q.1 j e) i)

  unfound-in : (ds : List Placed) (code : ℕ) → Coded s ds → ((z : ℕ) → In z (slots_of ds) → slot_code s z ≡ code → ⊥) → T (not (is_found (declared_in ds code)))
  unfolding declared_in is_found slots_of Coded In
  unfound-in [] code q h = tt
  unfound-in (d ∷ ds) code q h =
      pick-either (λ f. T (not (is_found f))) (eqb d.1.code code) _ _
      (λ t. absurd (h (d.0 + 1) (inl refl) (q.0 ∙ eqb_yes t)))
      (λ _. unfound-in ds code q.1 (λ z i. h z (inr i)))

  -- codes in order, none twice: then so it was before the last was inserted, and it has another code than each
  insert-strict : (p : Placed) (ds : List Placed) → slot_code s (p.0 + 1) ≡ p.1.code → Coded s ds → Strict (slot_code s) (slots_of (insert_by_code p ds))
      → Strict (slot_code s) (slots_of ds) × ((z : ℕ) → In z (slots_of ds) → slot_code s z ≡ p.1.code → ⊥)
  unfolding insert_by_code slots_of Coded Strict In
  insert-strict p [] e q = λ u. (tt, λ z i. absurd i)
  insert-strict p (d ∷ ds) e q =
      pick-either (λ (l : List Placed). Strict (slot_code s) (slots_of l) → Strict (slot_code s) (slots_of (d ∷ ds)) × ((z : ℕ) → In z (slots_of (d ∷ ds)) → slot_code s z ≡ p.1.code → ⊥))
      (ltb d.1.code p.1.code) _ _
      (λ t u. let h : d.1.code < p.1.code = ltb_yes {a = d.1.code} {b = p.1.code} t in
      let r : Strict (slot_code s) (slots_of ds) × ((z : ℕ) → In z (slots_of ds) → slot_code s z ≡ p.1.code → ⊥) = insert-strict p ds e q.1 u.1 in (
        (λ z i. u.0 z (insert-in p ds z (inr i)), r.0),
        λ z i. ⊎_elim (λ f g. let k : slot_code s z ≡ slot_code s (d.0 + 1) = ap (slot_code s) f in omega (arith, q.0)) (λ j. r.1 z j) i,
      ))
      (λ t u. (u.1, λ z i f. omega (arith, u.0 z i, e)))

  order-distinct : (ds : List Placed) → Coded s ds → Strict (slot_code s) (slots_of (by_code ds)) → T (distinct ds)
  unfolding by_code distinct Coded
  order-distinct [] q u = tt
  order-distinct (d ∷ ds) q u =
      let r : Strict (slot_code s) (slots_of (by_code ds)) × ((z : ℕ) → In z (slots_of (by_code ds)) → slot_code s z ≡ d.1.code → ⊥) =
      insert-strict d (by_code ds) q.0 (order-coded ds q.1) u in
      both (not (is_found (declared_in ds d.1.code))) (distinct ds) (unfound-in ds d.1.code q.1 (λ z i. r.1 z (order-in ds z i))) (order-distinct ds q.1 r.0)

  alike-twice : (ds : List Placed) (i j : ℕ) → Coded s ds → i < j → j < length (slots_of ds) → slot_code s (get_or (slots_of ds) i 0) ≡ slot_code s (get_or (slots_of ds) j 0)
      → T (not (distinct ds))
  unfolding distinct slots_of Coded
  alike-twice ds i zero q h l e = absurd (omega arith)
  alike-twice [] i (suc j) q h l e = absurd (omega arith)
  alike-twice (d ∷ ds) zero (suc j) q h l e =
      not_first (is_found (declared_in ds d.1.code)) (distinct ds)
      (found_in ds (get_or (slots_of ds) j 0) d.1.code q.1 (in-at (slots_of ds) j (omega arith)) (sym e ∙ q.0))
  alike-twice (d ∷ ds) (suc i) (suc j) q h l e =
      not-second (not (is_found (declared_in ds d.1.code))) (distinct ds) (alike-twice ds i j q.1 (omega arith) (omega arith) e)

-- ---- the index

pub length-indexed : (index : List ℕ) (ds : List Placed) → length (indexed index ds) ≡ length index
unfolding indexed
length-indexed index ds =
    pick-either (λ (l : List ℕ). length l ≡ length index) (leb (length ds) (length index)) _ _
    (λ t. let h : length ds ≤ length index = leb_yes {a = length ds} {b = length index} t in
    omega (arith, length-append (slots_of (by_code ds)) (drop (length ds) index), length-drop (length ds) index, slots_length (by_code ds), order-length ds))
    (λ _. refl)

-- each slot is empty or holds the place of a declaration
index-slots : (n k : ℕ) (ds : List Placed) → (get_or (indexed (zeros n) ds) k 0 ≡ 0) ⊎ In (get_or (indexed (zeros n) ds) k 0) (slots_of ds)
unfolding indexed
index-slots n k ds =
    pick-either (λ (l : List ℕ). (get_or l k 0 ≡ 0) ⊎ In (get_or l k 0) (slots_of ds)) (leb (length ds) (length (zeros n))) _ _
    (λ _. padded-at (λ z. (z ≡ 0) ⊎ In z (slots_of ds)) (slots_of (by_code ds)) (length ds) n k (inl refl) (λ z i. inr (order_from ds z i)))
    (λ _. zeros-at (λ z. (z ≡ 0) ⊎ In z (slots_of ds)) n k (inl refl))

-- the declaration at the place that a slot holds
chain-through : {s : List ℕ} {a b : ℕ} {ds : List Placed} (z code : ℕ) → Sequence s a ds b → T (distinct ds) → In z (slots_of ds) → slot_code s z ≡ code
    → declaration_found (declaration_at s (z - 1)) ≡ declared_in ds code
unfolding declared_in distinct slots_of In declaration_found
chain-through z code here t i e = absurd i
chain-through {s} {a} z code (link {d = d} {c = c} {ds = ds} g k) t i e =
    ⊎_elim
    (λ f. let x : z - 1 ≡ a = omega arith in
    ap (λ n. declaration_found (declaration_at s n)) x ∙ ap declaration_found g
    ∙ sym (pick_yes _ _ _ (yes_eqb (sym (declaration-code s a d c g) ∙ ap (slot_code s) (sym f) ∙ e))))
    (λ j. chain-through z code k (second _ _ t) j e
    ∙ ⊎_elim
    (λ u. let x : T (is_found (declared_in ds d.code)) = found_in s ds z d.code (chain-coded k) j (e ∙ sym (eqb_yes u)) in
    let y : T (not (is_found (declared_in ds d.code))) = first _ _ t in absurd (contrary (is_found (declared_in ds d.code)) x y))
    (λ u. sym (pick_no _ _ _ u))
    (either (eqb d.code code)))
    i
  where
    contrary : (b : Bool) → T b → T (not b) → ⊥
    contrary true x y = y
    contrary false x y = x

-- the whole declaration whose place a slot holds
unfoldable through : List ℕ → ℕ → Option Declaration
through s slot = declaration_found (declaration_at s (slot - 1))

through-else : {s : List ℕ} {a b : ℕ} {ds : List Placed} (z code : ℕ) (rest : Option Declaration) → Sequence s a ds b → T (distinct ds) → (z ≡ 0) ⊎ In z (slots_of ds)
    → rest ≡ declared_in ds code → pick (holds_code s z code) (through s z) rest ≡ declared_in ds code
unfolding holds_code through
through-else {s} {a} {b} {ds} z code rest k t w e =
    ⊎_elim
    (λ y. pick_no _ _ _ (subst (λ (b : Bool). T (not b)) (sym (pick_yes _ _ _ y)) tt) ∙ e)
    (λ y.
    let n : z ≡ 0 → ⊥ = eqb_no {a = z} {b = 0} y in
    ⊎_elim
    (λ u.
    let i : In z (slots_of ds) = ⊎_elim (λ q. absurd (n q)) (λ i. i) w in
    pick_yes _ _ _ (subst T (sym (pick_no _ _ _ y)) u) ∙ chain-through z code k t i (eqb_yes u))
    (λ u. pick_no _ _ _ (subst (λ (b : Bool). T (not b)) (sym (pick_no _ _ _ y)) u) ∙ e)
    (either (eqb (slot_code s z) code)))
    (either (eqb z 0))

-- ---- the declarations gathered

-- the index and the place after some declarations
pub record Gathering (s : List ℕ) (from : ℕ) (l m : List ℕ) (at count : ℕ) : Type 0 where
  pub done : List Placed
  pub chain : Sequence s from done at
  pub counted : count ≡ length done
  pub same : length m ≡ length l
  pub written : length done ≤ length l → m ≡ slots_of done ++ drop (length done) l

chain-count : {s : List ℕ} {a b : ℕ} {ds : List Placed} → Sequence s a ds b → length ds + a ≤ b
chain-count here = omega arith
chain-count {s} {a} (link {d = d} {c = c} e k) = omega (arith, chain-count k, (declaration-ahead s a d c e).0)

pub gathering-none : (s : List ℕ) (from : ℕ) (l : List ℕ) → Gathering s from l l from 0
unfolding slots_of
gathering-none s from l = record { done = []; chain = here; counted = refl; same = refl; written = λ _. refl }

module _ (s : List ℕ) (from : ℕ) (l m : List ℕ) (at count : ℕ) (q : Gathering s from l m at count) where
  pub gathering-count : count ≤ at
  gathering-count = omega (arith, chain-count q.chain, q.counted)

  pub gathering-bad : declaration_at s at ≡ None → (None ≡ count_of (declarations_from s from)) × Gathered s from l m
  unfolding count_of onto
  gathering-bad e =
      let n : declarations_from s from ≡ None = chain-onto q.chain ∙ ap (onto q.done) (declarations-bad s at e) in
      (sym (ap count_of n), λ ds x g h. let z : ◌≡◌ {A = ℕ} 0 1 = cc in absurd (omega arith))

  pub gathering-last : (c : Cursor) → declaration_at s at ≡ Some (Last c) → (Some count ≡ count_of (declarations_from s from)) × Gathered s from l m
  unfolding count_of onto
  gathering-last c e =
      let d : declarations_from s from ≡ Some (q.done ++ [], c.at) = chain-onto q.chain ∙ ap (onto q.done) (declarations-last s at c e) in
      let d' : declarations_from s from ≡ Some (q.done, c.at) = d ∙ ap (λ (l : List Placed). Some (l, c.at)) (append-nil q.done) in (
        ap Some q.counted ∙ sym (ap count_of d'),
        λ ds x g h. let v : ◌≡◌ {A = Scanned Placed ℕ} (q.done, c.at) (ds, x) = cc in
            let w : q.done ≡ ds = ap (λ (y : Scanned Placed ℕ). y.0) v in subst (λ (y : List Placed). length y ≤ length l → m ≡ slots_of y ++ drop (length y) l) w q.written h,
      )

  module _ (d : Declaration) (c : Cursor) (e : declaration_at s at ≡ Some (Declared d c)) where
    grown : length (q.done ++ ((at, d) ∷ [])) ≡ count + 1
    grown = omega (arith, length-append q.done ((at, d) ∷ []), q.counted)

    pub gathering-more : count < length m → Gathering s from l (set m count (at + 1)) c.at (count + 1)
    gathering-more h =
        record {
          done = q.done ++ ((at, d) ∷ []);
          chain = chain_more q.chain e;
          counted = sym grown;
          same = length-set m count (at + 1) ∙ q.same;
          written = λ _.
              let i : count < length l = omega (arith, q.same) in
              let w : m ≡ slots_of q.done ++ (get_or l count 0 ∷ drop (suc count) l) =
              q.written (omega (arith, q.counted)) ∙ ap (λ (x : List ℕ). slots_of q.done ++ x) (ap (λ n. drop n l) (sym q.counted) ∙ drop-cons l count 0 i) in
              ap (λ (x : List ℕ). set x count (at + 1)) w
              ∙ set_at (slots_of q.done) (get_or l count 0) (drop (suc count) l) (at + 1) count (slots_length q.done ∙ sym q.counted)
              ∙ sym (append_snoc (slots_of q.done) (at + 1) (drop (suc count) l))
              ∙ ap (λ (x : List ℕ). x ++ drop (suc count) l) (sym (slots-more q.done (at, d)))
              ∙ ap (λ n. slots_of (q.done ++ ((at, d) ∷ [])) ++ drop n l) (let z : suc count ≡ length (q.done ++ ((at, d) ∷ [])) = omega (arith, grown) in z);
        }

    pub gathering-over : length m ≤ count → Gathering s from l m c.at (count + 1)
    gathering-over h =
        record {
          done = q.done ++ ((at, d) ∷ []);
          chain = chain_more q.chain e;
          counted = sym grown;
          same = q.same;
          written = λ g. absurd (omega (arith, q.same, grown));
        }

-- ---- the check

refused : (s : List ℕ) (from : ℕ) → abbreviations_of s from ≡ None → Err 3 ≡ checked_of s from
unfolding checked_of as_checked
refused s from e = sym (ap as_checked e)

pub refused-not : (n : ℕ) → ◌≡◌ {A = Result (Unit {0}) ℕ} (Err n) (Ok tt) → ⊥
refused-not n e = let z : ◌≡◌ {A = ℕ} 0 1 = cc in omega arith

-- the place after some declarations that have no code twice
pub record Checking (s : List ℕ) (from at : ℕ) : Type 0 where
  pub done : List Placed
  pub chain : Sequence s from done at
  pub once : T (distinct done)

pub checking-none : (s : List ℕ) (from : ℕ) → Checking s from from
unfolding distinct
checking-none s from = record { done = []; chain = here; once = tt }

-- what is found, by the library's test
some-found : (o : Option Declaration) → is_some o ≡ true → T (is_found o)
unfolding is_found
some-found None h = let z : ◌≡◌ {A = ℕ} 0 1 = cc in absurd (omega arith)
some-found (Some d) h = tt

not-found : (o : Option Declaration) → is_some o ≡ false → o ≡ None
not-found None h = refl
not-found (Some d) h = let z : ◌≡◌ {A = ℕ} 0 1 = cc in absurd (omega arith)

module _ (s : List ℕ) (from at : ℕ) (q : Checking s from at) where
  pub checking-last : (c : Cursor) → declaration_at s at ≡ Some (Last c) → Ok tt ≡ checked_of s from
  unfolding abbreviations_of checked_of as_checked check_distinct onto
  checking-last c e =
      let d : declarations_from s from ≡ Some (q.done ++ [], c.at) = chain-onto q.chain ∙ ap (onto q.done) (declarations-last s at c e) in
      let d' : declarations_from s from ≡ Some (q.done, c.at) = d ∙ ap (λ (l : List Placed). Some (l, c.at)) (append-nil q.done) in
      sym (ap as_checked (bind-at check_distinct d' ∙ check-yes _ _ q.once))

  pub checking-bad : declaration_at s at ≡ None → Err 3 ≡ checked_of s from
  unfolding abbreviations_of onto
  checking-bad e = refused s from (bind-none check_distinct (chain-onto q.chain ∙ ap (onto q.done) (declarations-bad s at e)))

  twice_of : (p : Placed) (o : Option (Scanned Placed ℕ)) → T (is_found (declared_in q.done p.1.code)) → bind (onto q.done (bind o (push p))) check_distinct ≡ None
  unfolding bind push onto check_distinct
  twice_of p None h = refl
  twice_of p (Some r) h = check-no _ _ (distinct-twice q.done r.0 p h)

  module _ (d : Declaration) (c : Cursor) (e : declaration_at s at ≡ Some (Declared d c)) where
    pub checking-found : is_some (search_at s at d.code from) ≡ true → Err 3 ≡ checked_of s from
    unfolding is_found abbreviations_of
    checking-found h =
        let t : T (is_found (declared_in q.done d.code)) = subst (λ f. T (is_found f)) (chain-searched d.code q.chain) (some-found _ h) in
        refused s from (ap (λ o. bind o check_distinct) (chain-onto q.chain ∙ ap (onto q.done) (declarations-more s at d c e))
        ∙ twice_of (at, d) (declarations_from s c.at) t)

    pub checking-more : is_some (search_at s at d.code from) ≡ false → Checking s from c.at
    unfolding is_found
    checking-more z =
        let f : declared_in q.done d.code ≡ None = sym (chain-searched d.code q.chain) ∙ not-found _ z in
        record {
          done = q.done ++ ((at, d) ∷ []);
          chain = chain_more q.chain e;
          once = distinct_more q.done (at, d) q.once (subst (λ f. T (not (is_found f))) (sym f) tt);
        }

-- a list that is refused has an index of zeros
pub refused-index : (s : List ℕ) (from n k : ℕ) → checked_of s from ≡ Err k → zeros n ≡ index_of s from n
unfolding checked_of index_of as_checked index_for
refused-index s from n k h = of (abbreviations_of s from) h
  where
    of : (o : Option (List Placed)) → as_checked o ≡ Err k → zeros n ≡ index_for n o
    of None e = refl
    of (Some ds) e = let z : ◌≡◌ {A = ℕ} 0 1 = cc in absurd (omega arith)

-- a list that is accepted, up to the code that closes it
record ClosedList (s : List ℕ) (from : ℕ) (ds : List Placed) : Type 0 where
  last : ℕ
  past : Cursor
  chain : Sequence s from ds last
  closes : declaration_at s last ≡ Some (Last past)

closed-step : (s : List ℕ) (ds : List Placed) (at e : ℕ) → ((p : Placed) (ds' : List Placed) → ds ≡ p ∷ ds' → (at e : ℕ) → declarations_from s at ≡ Some (ds', e) → ClosedList s at ds')
    → declarations_from s at ≡ Some (ds, e) → (r : Option DeclarationStep) → declaration_at s at ≡ r → ClosedList s at ds
unfolding bind push
closed-step s ds at e ih h (Some (Declared d c)) g = of (declarations_from s c.at) refl
  where
    of : (o : Option (Scanned Placed ℕ)) → declarations_from s c.at ≡ o → ClosedList s at ds
    of None k = let n : declarations_from s at ≡ None = declarations-more s at d c g ∙ ap (λ o. bind o (push (at, d))) k in
        let z : ◌≡◌ {A = ℕ} 0 1 = cc in absurd (omega arith)
    of (Some r) k =
        let n : declarations_from s at ≡ Some ((at, d) ∷ r.0, r.1) = declarations-more s at d c g ∙ ap (λ o. bind o (push (at, d))) k in
        let l : ds ≡ (at, d) ∷ r.0 = (let p : ◌≡◌ {A = Scanned Placed ℕ} (ds, e) ((at, d) ∷ r.0, r.1) = cc in ap (λ (x : Scanned Placed ℕ). x.0) p) in
        let q : ClosedList s c.at r.0 = ih (at, d) r.0 l c.at r.1 k in
        record { last = q.last; past = q.past; chain = subst (λ x. Sequence s at x q.last) (sym l) (link g q.chain); closes = q.closes }
closed-step s ds at e ih h (Some (Last c)) g =
    let n : declarations_from s at ≡ Some ([], c.at) = declarations-last s at c g in
    let l : ds ≡ [] = (let p : ◌≡◌ {A = Scanned Placed ℕ} (ds, e) ([], c.at) = cc in ap (λ (x : Scanned Placed ℕ). x.0) p) in
    record { last = at; past = c; chain = subst (λ x. Sequence s at x at) (sym l) here; closes = g }
closed-step s ds at e ih h None g =
    let n : declarations_from s at ≡ None = declarations-bad s at g in
    let z : ◌≡◌ {A = ℕ} 0 1 = cc in absurd (omega arith)

closed_of : (s : List ℕ) (ds : List Placed) (at e : ℕ) → declarations_from s at ≡ Some (ds, e) → ClosedList s at ds
closed_of s [] at e h = closed-step s [] at e (λ p ds' l. let z : ◌≡◌ {A = ℕ} 0 1 = cc in absurd (omega arith)) h (declaration_at s at) refl
closed_of s (p ∷ ds) at e h =
    closed-step s (p ∷ ds) at e (λ p' ds' l at e h. let q : ds ≡ ds' = cc in subst (ClosedList s at) q (closed_of s ds at e (h ∙ ap (λ (x : List Placed). Some (x, e)) (sym q)))) h (declaration_at s at) refl

record Accept (s : List ℕ) (from : ℕ) (ds : List Placed) : Type 0 where
  closed : ClosedList s from ds
  once : T (distinct ds)

accept-of : (s : List ℕ) (from : ℕ) (ds : List Placed) → abbreviations_of s from ≡ Some ds → Accept s from ds
unfolding abbreviations_of bind check_distinct
accept-of s from ds h = of (declarations_from s from) refl h
  where
    of : (o : Option (Scanned Placed ℕ)) → declarations_from s from ≡ o → bind o check_distinct ≡ Some ds → Accept s from ds
    of None k g = let z : ◌≡◌ {A = ℕ} 0 1 = cc in absurd (omega arith)
    of (Some r) k g =
        ⊎_elim
        (λ t. let l : Some r.0 ≡ Some ds = sym (check-yes _ _ t) ∙ g in
        let l' : r.0 ≡ ds = cc in
        record { closed = subst (ClosedList s from) l' (closed_of s r.0 from r.1 k); once = subst (λ x. T (distinct x)) l' t })
        (λ t. let l : None ≡ Some ds = sym (check-no _ _ t) ∙ g in
        let z : ◌≡◌ {A = ℕ} 0 1 = cc in absurd (omega arith))
        (either (distinct r.0))

-- ---- the index filled

module _ (s : List ℕ) (from : ℕ) where
  pub unreadable-refused : None ≡ count_of (declarations_from s from) → Err 3 ≡ checked_of s from
  unfolding abbreviations_of count_of
  unreadable-refused h = refused s from (bind-none check_distinct (of (declarations_from s from) h))
    where
      of : (o : Option (Scanned Placed ℕ)) → None ≡ count_of o → o ≡ None
      of None e = refl
      of (Some r) e = let z : ◌≡◌ {A = ℕ} 0 1 = cc in absurd (omega arith)

  -- too many for the index
  over-index : (count n : ℕ) → Some count ≡ count_of (declarations_from s from) → n < count → zeros n ≡ index_of s from n
  unfolding abbreviations_of count_of index_of index_for bind check_distinct indexed
  over-index count n h g = of (declarations_from s from) h
    where
      of : (o : Option (Scanned Placed ℕ)) → Some count ≡ count_of o → zeros n ≡ index_for n (bind o check_distinct)
      of None e = refl
      of (Some r) e =
          let z : count ≡ length r.0 = cc in
          ⊎_elim
          (λ t. sym (ap (index_for n) (check-yes (distinct r.0) (Some r.0) t) ∙ pick_no _ _ _ (no_leb {a = length r.0} {b = length (zeros n)} (omega (arith, length-replicate {A = ℕ} n 0)))))
          (λ t. sym (ap (index_for n) (check-no (distinct r.0) (Some r.0) t)))
          (either (distinct r.0))

  counted-list : (count : ℕ) (o : Option (Scanned Placed ℕ)) → Some count ≡ count_of o → (r : Scanned Placed ℕ) × (o ≡ Some r) × (count ≡ length r.0)
  unfolding count_of
  counted-list count None e = let z : ◌≡◌ {A = ℕ} 0 1 = cc in absurd (omega arith)
  counted-list count (Some r) e = (r, refl, (cc))

  module _ (ds : List Placed) (end : ℕ) (g : declarations_from s from ≡ Some (ds, end)) where
    listed-coded : Coded s ds
    listed-coded = chain-coded (closed_of s ds from end g).chain

    module _ (m : List ℕ) (o : Ordered s (slots_of ds) m Ascending) where
      ordered-slots : m ≡ slots_of (by_code ds)
      ordered-slots =
          let q : Drawn (slots_of ds) m = drawn-of o.swaps in
          let e : length m ≡ length (slots_of ds) = swaps-length o.swaps in
          ordered_same (slot_code s) m (slots_of (by_code ds)) (strict_of (slot_code s) m (o.ascending refl)) (order-up s ds listed-coded)
          (each_in (λ z. In z (slots_of (by_code ds))) m
          (λ k h. let i : k < length (slots_of ds) = omega arith in
          subst (λ z. In z (slots_of (by_code ds))) (sym (q.is k i)) (order-in ds (get_or (slots_of ds) (q.from k) 0) (in-at (slots_of ds) (q.from k) (q.inside k i)))))
          (omega (arith, slots_length ds, slots_length (by_code ds), order-length ds))

      ordered-accepted : abbreviations_of s from ≡ Some ds
      unfolding abbreviations_of check_distinct
      ordered-accepted =
          bind-at check_distinct g
          ∙ check-yes _ _ (order-distinct s ds listed-coded (subst (Strict (slot_code s)) ordered-slots (strict_of (slot_code s) m (o.ascending refl))))

    ordered-refused : (m : List ℕ) → Ordered s (slots_of ds) m Repeated → abbreviations_of s from ≡ None
    unfolding abbreviations_of check_distinct
    ordered-refused m o =
        let q : Drawn (slots_of ds) m = drawn-of o.swaps in
        let e : length m ≡ length (slots_of ds) = swaps-length o.swaps in
        let w : Twice s m = o.twice refl in
        let k : ℕ = w.place in
        let h' : suc k < length m = w.inside in
        let h : k < length (slots_of ds) = omega arith in
        let j : suc k < length (slots_of ds) = omega arith in
        let apart : q.from k ≡ q.from (suc k) → ⊥ = (λ f. let x : k ≡ suc k = sym (q.undone k h) ∙ ap q.back f ∙ q.undone (suc k) j in omega arith) in
        let alike : slot_code s (get_or (slots_of ds) (q.from k) 0) ≡ slot_code s (get_or (slots_of ds) (q.from (suc k)) 0) =
        ap (slot_code s) (sym (q.is k h)) ∙ w.alike ∙ ap (slot_code s) (q.is (suc k) j) in
        bind-at check_distinct g
        ∙ check-no _ _ (⊎_elim
        (λ t. alike-twice s ds (q.from k) (q.from (suc k)) listed-coded (ltb_yes {a = q.from k} {b = q.from (suc k)} t) (q.inside (suc k) j) alike)
        (λ t. let u : q.from (suc k) ≤ q.from k = ltb_no {a = q.from k} {b = q.from (suc k)} t in
        ⊎_elim (λ v. absurd (apart (eqb_yes v)))
        (λ v. let x : q.from k ≡ q.from (suc k) → ⊥ = eqb_no v in
        alike-twice s ds (q.from (suc k)) (q.from k) listed-coded (below (q.from (suc k)) (q.from k) u (λ y. x (sym y))) (q.inside k h) (sym alike))
        (either (eqb (q.from k) (q.from (suc k)))))
        (either (ltb (q.from k) (q.from (suc k)))))
      where
        below : (a b : ℕ) → a ≤ b → (a ≡ b → ⊥) → a < b
        below a b h d = ⊎_elim (λ t. ltb_yes {a = a} {b = b} t) (λ t. let u : b ≤ a = ltb_no {a = a} {b = b} t in absurd (d (omega arith))) (either (ltb a b))

    -- what the slots are in order, and the rest of the index
    ordered-index : (m : List ℕ) (n : ℕ) (a : Arranged) → Ordered s (slots_of ds) m a → length ds ≤ n
        → (accepted a ≡ checked_of s from) × (accepted a ≡ Ok tt → m ++ drop (length ds) (zeros n) ≡ index_of s from n)
    unfolding checked_of as_checked accepted index_of index_for indexed
    ordered-index m n Ascending o h =
        let a : abbreviations_of s from ≡ Some ds = ordered-accepted m o in (
          sym (ap as_checked a),
          λ _. ap (λ (l : List ℕ). l ++ drop (length ds) (zeros n)) (ordered-slots m o)
              ∙ sym (ap (index_for n) a ∙ pick_yes _ _ _ (yes_leb {a = length ds} {b = length (zeros n)} (omega (arith, length-replicate {A = ℕ} n 0)))),
        )
    ordered-index m n Repeated o h = (sym (ap as_checked (ordered-refused m o)), λ e. absurd (refused-not _ e))

module _ (s : List ℕ) (from count : ℕ) (l₀ l : List ℕ) (same : length l ≡ length l₀) (h : Some count ≡ count_of (declarations_from s from)) where
  pub over-filled : (m : List ℕ) → length l < count → m ≡ zeros (length l) → m ≡ index_of s from (length l₀)
  over-filled m g e = e ∙ ap zeros same ∙ over-index s from count (length l₀) h (omega arith)

  -- the slots ordered in their part of the index
  pub filled-index : (m : List ℕ) (r : Result (Unit {0}) ℕ) (a : Arranged) → l₀ ≡ zeros (length l₀) → Gathered s from l₀ l → count ≤ length l
      → Ordered s (take count l) m a → r ≡ accepted a → (r ≡ checked_of s from) × (r ≡ Ok tt → m ++ drop count l ≡ index_of s from (length l₀))
  filled-index m r a z w i o u =
      let n : ℕ = length l₀ in
      let q : (r : Scanned Placed ℕ) × (declarations_from s from ≡ Some r) × (count ≡ length r.0) = counted-list s from count (declarations_from s from) h in
      let ds : List Placed = q.0.0 in
      let k : length ds ≡ count = sym q.2 in
      let e : l ≡ slots_of ds ++ drop (length ds) (zeros n) = w ds q.0.1 q.1 (omega arith) ∙ ap (λ (y : List ℕ). slots_of ds ++ drop (length ds) y) z in
      let c : length (slots_of ds) ≡ count = slots_length ds ∙ k in
      let t : take count l ≡ slots_of ds = ap (take count) e ∙ take_at (slots_of ds) (drop (length ds) (zeros n)) count c in
      let d : drop count l ≡ drop (length ds) (zeros n) = ap (drop count) e ∙ drop_at (slots_of ds) (drop (length ds) (zeros n)) count c in
      let x : (accepted a ≡ checked_of s from) × (accepted a ≡ Ok tt → m ++ drop (length ds) (zeros n) ≡ index_of s from n) =
      ordered-index s from ds q.0.1 q.1 m n a (subst (λ (y : List ℕ). Ordered s y m a) t o) (omega arith) in
      (u ∙ x.0, λ b. ap (λ (y : List ℕ). m ++ y) d ∙ x.1 (sym u ∙ b))

-- ---- lookup

module _ (s : List ℕ) (slot code : ℕ) where
  pub holds-none : slot ≡ 0 → false ≡ holds_code s slot code
  unfolding holds_code
  holds-none z = sym (pick_yes _ _ _ (yes_eqb z))

  pub holds-some : (slot ≡ 0 → ⊥) → (c : ℕ) → c ≡ slot_code s slot → eqb c code ≡ holds_code s slot code
  unfolding holds_code
  holds-some z c q = ap (λ (c : ℕ). eqb c code) q ∙ sym (pick_no _ _ _ (no_eqb z))

pub head_in_lem : (s : List ℕ) (slot at : ℕ) → at ≡ slot - 1 → (r : Option DeclarationStep) → head_at s at ≡ r → declaration_found r ≡ head_in s slot
unfolding head_in
head_in_lem s slot at q r e = sym (ap declaration_found e) ∙ ap (λ (n : ℕ). declaration_found (head_at s n)) q

module _ (s : List ℕ) (from : ℕ) (index : List ℕ) (code i : ℕ) (i-is : i ≡ code - 1) (guess : ℕ) (guess-is : guess ≡ get_or index i 0) (b : Bool) (p : b ≡ holds_code s guess code) where
  g : guess ≡ get_or index (code - 1) 0
  g = guess-is ∙ ap (λ (n : ℕ). get_or index n 0) i-is

  at-guess : b ≡ holds_code s (get_or index (code - 1) 0) code
  at-guess = p ∙ ap (λ (n : ℕ). holds_code s n code) g

  pub find_first : b ≡ true → (f : Option Declaration) → f ≡ head_in s guess → f ≡ find_head s from index code
  unfolding find_head
  find_first t f e = e ∙ ap (head_in s) g ∙ sym (pick_yes _ _ _ (subst T (sym t ∙ at-guess) tt))

  module _ (n : b ≡ false) (j : ℕ) (j-is : j ≡ slot_of s index code) (slot : ℕ) (slot_is : slot ≡ get_or index j 0) (b' : Bool) (p' : b' ≡ holds_code s slot code) where
    h : slot ≡ get_or index (slot_of s index code) 0
    h = slot_is ∙ ap (λ (n : ℕ). get_or index n 0) j-is

    at_slot : b' ≡ holds_code s (get_or index (slot_of s index code) 0) code
    at_slot = p' ∙ ap (λ (n : ℕ). holds_code s n code) h

    past_first : find_head s from index code
        ≡ pick (holds_code s (get_or index (slot_of s index code) 0) code) (head_in s (get_or index (slot_of s index code) 0)) (search_at s (length s) code from)
    unfolding find_head
    past_first = pick_no _ _ _ (subst (λ (b : Bool). T (not b)) (sym n ∙ at-guess) tt)

    pub find-halved : b' ≡ true → (f : Option Declaration) → f ≡ head_in s slot → f ≡ find_head s from index code
    find-halved t f e = e ∙ ap (head_in s) h ∙ sym (past_first ∙ pick_yes _ _ _ (subst T (sym t ∙ at_slot) tt))

    pub find-search : b' ≡ false → search_at s (length s) code from ≡ find_head s from index code
    find-search t = sym (past_first ∙ pick_no _ _ _ (subst (λ (b : Bool). T (not b)) (sym t ∙ at_slot) tt))

-- ---- what is found is declared somewhere, and its attributes are there

pub record Somewhere (s : List ℕ) (d : Declaration) : Type 0 where
  pub place : ℕ
  pub next : Cursor
  pub is : declaration_at s place ≡ Some (Declared d next)

unfoldable FoundLaw : List ℕ → Option Declaration → Type 0
FoundLaw s (Some d) = Somewhere s d
FoundLaw s None = Unit {0}

step-found : (s : List ℕ) (at : ℕ) (r : Option DeclarationStep) → declaration_at s at ≡ r → FoundLaw s (declaration_found r)
unfolding FoundLaw declaration_found
step-found s at (Some (Declared d c)) e = record { place = at; next = c; is = e }
step-found s at (Some (Last c)) e = tt
step-found s at None e = tt

unfoldable TurnLaw : List ℕ → Turn (Unit {0}) (Option Declaration) → Type 0
TurnLaw s (more a n) = Unit {0}
TurnLaw s (stop f) = FoundLaw s f
TurnLaw s bad = Unit {0}

turn-found : (s : List ℕ) (code at : ℕ) (r : Option DeclarationStep) → declaration_at s at ≡ r → TurnLaw s (search_turn code r)
unfolding TurnLaw FoundLaw search_turn
turn-found s code at (Some (Declared d c)) e = pick-either (TurnLaw s) (eqb d.code code) _ _ (λ _. record { place = at; next = c; is = e }) (λ _. tt)
turn-found s code at (Some (Last c)) e = tt
turn-found s code at None e = tt

on-turn : (s : List ℕ) (t : Turn (Unit {0}) (Option Declaration)) (k : Unit {0} → ℕ → Option (Scanned (Unit {0}) (Option Declaration))) → TurnLaw s t → ((a : Unit {0}) (n : ℕ) → FoundLaw s (found_by (k a n)))
    → FoundLaw s (found_by (on_turn t k))
unfolding TurnLaw FoundLaw on_turn found_by
on-turn s (more a n) k q h = h a n
on-turn s (stop f) k q h = q
on-turn s bad k q h = tt

within-found : (s : List ℕ) (to code k at : ℕ) → FoundLaw s (found_by (scan_within k (searching s to code) at))
unfolding scan_within FoundLaw found_by TurnLaw
within-found s to code zero at = tt
within-found s to code (suc k) at =
    on-turn s (searching s to code at) _
    (pick-either (TurnLaw s) (ltb at to) _ _ (λ _. turn-found s code at (declaration_at s at) refl) (λ _. tt))
    (λ a n. subst (FoundLaw s) (sym (found-same (scan_within k (searching s to code) n))) (within-found s to code k n))

search-found : (s : List ℕ) (to code at : ℕ) → FoundLaw s (search_at s to code at)
unfolding search_at scan
search-found s to code at = within-found s to code _ at

-- so its attribute specifications can be read
found-whole : (s : List ℕ) (f : Option Declaration) → FoundLaw s f → whole_found s f ≡ f
unfolding FoundLaw whole_found whole_declaration moved_declaration declaration_found past_attributes scanned_to
found-whole s (Some d) q = ap (λ (o : Option (Scanned AttributeSpec ℕ)). declaration_found (moved_declaration (scanned_to o) (λ c. Some (Declared d c)))) (declaration-inside s q.place d q.next q.is).past.read
found-whole s None q = refl

search-whole : (s : List ℕ) (to code at : ℕ) → whole_found s (search_at s to code at) ≡ search_at s to code at
search-whole s to code at = found-whole s (search_at s to code at) (search-found s to code at)

whole-pick : (s : List ℕ) (b : Bool) (f g : Option Declaration) → whole_found s (pick b f g) ≡ pick b (whole_found s f) (whole_found s g)
unfolding pick
whole-pick s true f g = refl
whole-pick s false f g = refl

-- by whole declarations
find-whole : (s : List ℕ) (from : ℕ) (index : List ℕ) (code : ℕ) → find_at s from index code
    ≡ pick (holds_code s (get_or index (code - 1) 0) code) (through s (get_or index (code - 1) 0))
    (pick (holds_code s (get_or index (slot_of s index code) 0) code) (through s (get_or index (slot_of s index code) 0)) (search_at s (length s) code from))
unfolding find_at find_head head_in through
find-whole s from index code =
    whole-pick s (holds_code s (get_or index (code - 1) 0) code) _ _
    ∙ ap₂ (pick (holds_code s (get_or index (code - 1) 0) code)) (head-found s (get_or index (code - 1) 0 - 1) _ refl)
    (whole-pick s (holds_code s (get_or index (slot_of s index code) 0) code) _ _
    ∙ ap₂ (pick (holds_code s (get_or index (slot_of s index code) 0) code)) (head-found s (get_or index (slot_of s index code) 0 - 1) _ refl) (search-whole s (length s) code from))

-- the index and the search find what the list declares
pub find-plain : (s : List ℕ) (from n : ℕ) (ds : List Placed) → abbreviations_of s from ≡ Some ds → (code : ℕ) → find_at s from (index_of s from n) code ≡ declared_in ds code
unfolding index_of index_for
find-plain s from n ds h code =
    let q : Accept s from ds = accept-of s from ds h in
    let k : Sequence s from ds q.closed.last = q.closed.chain in
    let i : index_of s from n ≡ indexed (zeros n) ds = ap (index_for n) h in
    let v : (q.closed.last < q.closed.past.at) × (q.closed.past.at ≤ length s) = last-inside s q.closed.last q.closed.past q.closed.closes in
    let w : q.closed.last < length s = omega (arith, v.0, v.1) in
    let f : search_at s (length s) code from ≡ declared_in ds code =
    chain-search (length s) code k (omega arith)
    ∙ ap (or_else (declared_in ds code)) (sym (search-last s (length s) code q.closed.last q.closed.past w q.closed.closes))
    ∙ else-nothing (declared_in ds code) in
    ap (λ x. find_at s from x code) i
    ∙ find-whole s from (indexed (zeros n) ds) code
    ∙ through-else (get_or (indexed (zeros n) ds) (code - 1) 0) code _ k q.once (index-slots n (code - 1) ds)
    (through-else (get_or (indexed (zeros n) ds) (slot_of s (indexed (zeros n) ds) code) 0) code _ k q.once (index-slots n (slot_of s (indexed (zeros n) ds) code) ds) f)

-- what the reader of a head finds is, where it is whole, what is found
pub found_at : (s : List ℕ) (from : ℕ) (index : List ℕ) (code : ℕ) (f : Option Declaration) → f ≡ find_head s from index code → whole_found s f ≡ find_at s from index code
unfolding find_at
found_at s from index code f q = ap (whole_found s) q
