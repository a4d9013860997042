-- What the answers of the index lists say of the lists of a unit. Assumes nothing.
use mathlib.Core.Path.{◌≡◌, refl, ap, sym, ◌∙◌, subst}
use Prim.Native.Nat.{ℕ, ◌-◌, ◌*◌, ◌/◌, ◌≤◌, ◌<◌}
use native.Mathlib.Omega.{arith}
use mathlib.Core.Bool.{Bool, true, false, not}
use mathlib.Core.List.{List, [], ◌∷◌}
use Rattle.std.specs.Prelude.{None, Option, Some}
use mathlib.Core.Logic.{⊎_elim}
use lib.ListN.{length}
use lib.Dec.{T, ltb, leb}
use mir.Facts.{ltb_yes, ltb_no, leb_yes, leb_no}
use borrow.Author.Tests.{lt-ltb, le-ltb}
use Rattle.readers.specs.Choice.{pick, ◌or◌, zeros}
use Rattle.readers.proofs.Choice.{either}
use Rattle.readers.specs.Abbreviations.{declared_in, find_at}
use Rattle.readers.specs.Stream.{Item, Items, items_from}
use Rattle.readers.proofs.Streams.{items-look}
use Rattle.readers.specs.declared.cursor.Encoding.{Encoding}
use Rattle.marking.specs.Analysis.{Sections}
use Rattle.rewriting.specs.Places.{NestedItem, kept_from}
use Rattle.rewriting.specs.Inner.Parents.{parents_from, HoldsFrom}
use Rattle.rewriting.specs.Inner.Ends.{EndsHeld}
use Rattle.rewriting.specs.Indices.{count_of, is_short}
use Rattle.rewriting.specs.Rewriting.{Unit as Unit', items_in, list_of, lists_of}
use Rattle.rewriting.specs.Inner.NextKept.{items_by}
use Rattle.rewriting.specs.Written.{run_bytes}
use Rattle.rewriting.specs.Inner.Written.{ListHeld}
use Rattle.rewriting.specs.Inner.Gathering.{Filled}
use Rattle.rewriting.specs.Inner.IndexLists.{ReadAs, TablesFound, AllRead, PassInput, is_absent, ListAnswer}
use Rattle.rewriting.specs.declared.kept_items.Reading.{Reading}
use Rattle.rewriting.proofs.KeptPass.ItemDepths.{Every, Readable}
use Rattle.rewriting.proofs.ListPass.IndexTurns.{absent-plain, absent-named}

-- ---- a unit as the code reads it

module _ (x : Sections) (u : Unit') where
  pub all_read : (kept : List NestedItem) → Every (Readable x u) kept → AllRead x u kept
  unfolding Every AllRead
  all_read [] h = tt
  all_read (s ∷ kept) h = (record { run = h.0.run; is = h.0.is }, all_read kept h.1)

  module _ (r : Reading) (s table unit : List ℕ) (w : ReadAs x u r s unit) (f : TablesFound u r s table) where
    -- its items
    pub items-are : items_by r s table unit u.header.first.0 ≡ items_in x u
    unfolding items_in
    items-are =
        let first : ℕ = u.header.first.0 in
        ap (λ (i : Items). i.0) (items-look r.encoding s (find_at s r.from table) (declared_in u.declared) f unit first)
        ∙ ap (λ (e : Encoding). (items_from e s (declared_in u.declared) unit first).0) (sym w.encoding_is)
        ∙ ap (λ (l : List ℕ). (items_from u.header.encoding l (declared_in u.declared) unit first).0) (sym w.abbreviations_are)
        ∙ ap (λ (l : List ℕ). (items_from u.header.encoding x.abbreviations (declared_in u.declared) l first).0) (sym w.bytes_are)

    -- what a pass asks for, of the unit's own items
    pub passable : (parents ends marks : List ℕ) → HoldsFrom parents 0 (parents_from 0 [] (items_in x u)) → EndsHeld ends 0 (items_in x u)
        → Every (Readable x u) (kept_from marks 0 [] (items_in x u)) → PassInput x u r s table unit parents ends marks u.header.first.0
    passable parents ends marks h k d =
        record {
          read = w;
          found = f;
          holds = subst (λ (is : List Item). HoldsFrom parents 0 (parents_from 0 [] is)) (sym items-are) h;
          ends_hold = subst (EndsHeld ends 0) (sym items-are) k;
          deep = subst (λ (is : List Item). AllRead x u (kept_from marks 0 [] is)) (sym items-are) (all_read (kept_from marks 0 [] (items_in x u)) d);
        }

  -- ---- its lists: DW_AT_ranges 0x55, DW_AT_location 0x02, and no name for the strings

  module _ (t : Bool) (kept : List NestedItem) (h : t ≡ false) where
    unless : (b : Bool) → b ≡ t or b
    unfolding ◌or◌
    unless b = sym (ap (λ (t : Bool). t or b) h)

    pub ranges-are : list_of x u (is_absent x u 0x55 (items_in x u)) 0 kept ≡ (lists_of x u t kept).ranges
    unfolding lists_of
    ranges-are = ap (λ (b : Bool). list_of x u b 0 kept) (absent-named x u 0x55 (items_in x u) (λ q. absurd (omega arith)) ∙ unless _)

    pub locations-are : list_of x u (is_absent x u 0x02 (items_in x u)) 1 kept ≡ (lists_of x u t kept).locations
    unfolding lists_of
    locations-are = ap (λ (b : Bool). list_of x u b 1 kept) (absent-named x u 0x02 (items_in x u) (λ q. absurd (omega arith)) ∙ unless _)

    pub strings-are : list_of x u (is_absent x u 0 (items_in x u)) 2 kept ≡ (lists_of x u t kept).strings
    unfolding lists_of
    strings-are = ap (λ (b : Bool). list_of x u b 2 kept) (absent-plain x u 0 (items_in x u) refl ∙ sym h)

  -- with type units
  module _ (t : Bool) (kept : List NestedItem) (h : t ≡ true) where
    pub no-ranges : (lists_of x u t kept).ranges ≡ None
    unfolding lists_of list_of pick ◌or◌
    no-ranges = ap (λ (t : Bool). (lists_of x u t kept).ranges) h

    pub no-locations : (lists_of x u t kept).locations ≡ None
    unfolding lists_of list_of pick ◌or◌
    no-locations = ap (λ (t : Bool). (lists_of x u t kept).locations) h

    pub no-strings : (lists_of x u t kept).strings ≡ None
    unfolding lists_of list_of pick
    no-strings = ap (λ (t : Bool). (lists_of x u t kept).strings) h

-- ---- whether a list is too short, and what it holds where it is not

same_test : (a b c d : ℕ) → (a < b → c < d) → (c < d → a < b) → ltb a b ≡ ltb c d
same_test a b c d f g =
    ⊎_elim (λ t. let h : a < b = ltb_yes t in lt-ltb a b h ∙ sym (lt-ltb c d (f h)))
    (λ t. let h : b ≤ a = ltb_no {a = a} {b = b} t in le-ltb a b h ∙ sym (le-ltb c d (below h)))
    (either (ltb a b))
  where
    below : b ≤ a → d ≤ c
    below h = ⊎_elim (λ (v : T (ltb c d)). absurd (let z : a < b = g (ltb_yes v) in omega arith)) (λ (v : T (not (ltb c d))). ltb_no {a = c} {b = d} v) (either (ltb c d))

filled-short : (ys list : List ℕ) (n : ℕ) (after : List ℕ) → Filled ys list n after → ltb (length list / 8) n ≡ ltb (length list / 8) (length ys)
filled-short ys list n after f =
    let room : ℕ = length list / 8 in
    same_test room n room (length ys)
    (λ h. ⊎_elim (λ (v : T (leb (length ys) room)). absurd (let q : n ≡ length ys = f.counted (leb_yes v) in let w : length ys ≤ room = leb_yes v in omega arith))
    (λ (v : T (not (leb (length ys) room))). let w : room < length ys = leb_no {a = length ys} {b = room} v in w) (either (leb (length ys) room)))
    (λ h. f.short h)

pub answer-short : (o : Option (List ℕ)) (list : List ℕ) (c : Option ℕ) (after : List ℕ) → ListAnswer o list c after
    → is_short c (length list / 8) ≡ ltb (length list / 8) (count_of o)
unfolding ListAnswer is_short count_of
answer-short None list None after h = sym (le-ltb (length list / 8) 0 (omega arith))
answer-short None list (Some n) after h = absurd h
answer-short (Some ys) list None after h = absurd h
answer-short (Some ys) list (Some n) after h = filled-short ys list n after h

pub answer-held : (ys list : List ℕ) (c : Option ℕ) (after : List ℕ) → ListAnswer (Some ys) list c after → length ys ≤ length list / 8
    → (c ≡ Some (length ys)) × ListHeld ys after
unfolding ListAnswer
answer-held ys list None after h l = absurd h
answer-held ys list (Some n) after h l = (ap (λ (m : ℕ). Some m) (h.counted l), h.holds l)

pub answer-absent : (list : List ℕ) (c : Option ℕ) (after : List ℕ) → ListAnswer None list c after → (c ≡ None) × (after ≡ list)
unfolding ListAnswer
answer-absent list None after h = (refl, h)
answer-absent list (Some n) after h = absurd h

-- ---- a list that was gathered

-- it holds nothing where it has no number
nothing-held : (ys list after : List ℕ) → Filled ys list 0 after → after ≡ zeros (length after)
unfolding run_bytes
nothing-held [] list after f = (f.holds (omega arith)).held.are ∙ ap (λ (n : ℕ). zeros n) (let e : length after - 8 * 0 ≡ length after = omega arith in e)
nothing-held (y ∷ ys) list after f =
    absurd
    (⊎_elim (λ (v : T (leb (length (y ∷ ys)) (length list / 8))). let q : 0 ≡ length (y ∷ ys) = f.counted (leb_yes v) in omega arith)
    (λ (v : T (not (leb (length (y ∷ ys)) (length list / 8)))). let q : length list / 8 < 0 = f.short (leb_no {a = length (y ∷ ys)} {b = length list / 8} v) in omega arith)
    (either (leb (length (y ∷ ys)) (length list / 8))))

module _ (ys list₀ : List ℕ) (n : ℕ) (list : List ℕ) (z : list₀ ≡ zeros (length list)) (f : Filled ys list₀ n list) (a b : Bool) (q : b ≡ a) where
  pub settle-absent : b ≡ true → (after : List ℕ) → after ≡ zeros (length list) → ListAnswer (pick a None (Some ys)) list₀ None after
  unfolding ListAnswer pick
  settle-absent h after e = subst (λ (a : Bool). ListAnswer (pick a None (Some ys)) list₀ None after) (sym h ∙ q) (e ∙ sym z)

  pub settle-empty : b ≡ true → n ≤ 0 → ListAnswer (pick a None (Some ys)) list₀ None list
  settle-empty h l = settle-absent h list (nothing-held ys list₀ list (subst (λ (n : ℕ). Filled ys list₀ n list) (let e : n ≡ 0 = omega arith in e) f))

  pub settle-present : b ≡ false → ListAnswer (pick a None (Some ys)) list₀ (Some n) list
  unfolding ListAnswer pick
  settle-present h = subst (λ (a : Bool). ListAnswer (pick a None (Some ys)) list₀ (Some n) list) (sym h ∙ q) f
