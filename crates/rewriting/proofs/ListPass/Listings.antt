-- The three lists of a unit: too short, or made. Assumes nothing.
use mathlib.Core.Path.{◌≡◌, refl, ap, sym, ◌∙◌, subst}
use Prim.Native.Nat.{ℕ, ◌-◌, ◌*◌, ◌/◌}
use native.Mathlib.Omega.{arith}
use mathlib.Core.Bool.{Bool, true, false, false≢true}
use mathlib.Core.List.{List, [], ◌++◌}
use Rattle.std.specs.Prelude.{None, Option, Some}
use lib.ListN.{length}
use lib.Dec.{ltb, leb}
use borrow.Author.Tests.{ltb-true, ltb-false, leb-true, le-leb, lt-leb}
use Rattle.readers.specs.Choice.{◌and◌, zeros}
use Rattle.readers.specs.Stream.{Item}
use Rattle.marking.specs.Analysis.{Sections}
use Rattle.marking.specs.Columns.{pad_to}
use Rattle.rewriting.specs.Places.{kept_from}
use Rattle.rewriting.specs.Indices.{count_of, is_short}
use Rattle.rewriting.specs.Rewriting.{Unit as Unit', Lists, items_in, list_of, lists_of, lists_fit}
use Rattle.rewriting.specs.Inner.NextKept.{items_by}
use Rattle.rewriting.specs.Written.{run_bytes}
use Rattle.rewriting.specs.Inner.Written.{ListHeld}
use Rattle.rewriting.specs.Inner.IndexLists.{PassInput, Listing, is_absent, ListAnswer, Settles}
use Rattle.rewriting.specs.Inner.Emission.{Lent}
use Rattle.rewriting.specs.Outputs.{list_count, list_or, ranges_in, locations_in, strings_in}
use Rattle.rewriting.specs.Inner.Leaving.{list_room, ListsAnswer}
use Rattle.rewriting.specs.declared.kept_items.Reading.{Reading}
use Rattle.rewriting.specs.Refusals.{lists_counted}
use Rattle.rewriting.specs.declared.collect.Listed.{Listed}
use Rattle.rewriting.proofs.ListPass.Tables.{length_run}
use Rattle.rewriting.proofs.ListPass.Held.{list-none}
use Rattle.rewriting.proofs.ListPass.ListAnswers.{items-are, ranges-are, locations-are, strings-are, no-ranges, no-locations, no-strings, answer-short, answer-held, answer-absent}

-- ---- three tests

no-first : (a b c : Bool) → a ≡ false → (a and b and c) ≡ false
unfolding ◌and◌
no-first true b c q = absurd (false≢true (sym q))
no-first false b c q = refl

no_second : (a b c : Bool) → b ≡ false → (a and b and c) ≡ false
unfolding ◌and◌
no_second true true c q = absurd (false≢true (sym q))
no_second true false c q = refl
no_second false b c q = refl

no_third : (a b c : Bool) → c ≡ false → (a and b and c) ≡ false
unfolding ◌and◌
no_third true true c q = q
no_third true false c q = refl
no_third false b c q = refl

-- ---- one list

module _ (o : Option (List ℕ)) (list : List ℕ) (c : Option ℕ) (after : List ℕ) (h : ListAnswer o list c after) (l : length after ≡ length list) where
  module _ (b : Bool) (q : b ≡ is_short c (length after / 8)) where
    test : b ≡ ltb (length list / 8) (count_of o)
    test = q ∙ ap (λ (n : ℕ). is_short c (n / 8)) l ∙ answer-short o list c after h

    pub too_short : b ≡ true → leb (count_of o) (length list / 8) ≡ false
    too_short t = lt-leb (count_of o) (length list / 8) (ltb-true (length list / 8) (count_of o) (sym test ∙ t))

    pub has_room : b ≡ false → leb (count_of o) (length list / 8) ≡ true
    has_room t = le-leb (count_of o) (length list / 8) (ltb-false (length list / 8) (count_of o) (sym test ∙ t))

pub record MadeList (o : Option (List ℕ)) (n : ℕ) (c : Option ℕ) (after : List ℕ) : Type 0 where
  pub counted : c ≡ list_count o
  pub lent : Lent o after (list_count o)
  pub left : after ≡ list_or n o

made_list : (o : Option (List ℕ)) (list : List ℕ) (c : Option ℕ) (after : List ℕ) → ListAnswer o list c after → length after ≡ length list → list ≡ zeros (length list)
    → leb (count_of o) (length list / 8) ≡ true → MadeList o (length list) c after
unfolding list_count Lent list_or count_of pad_to
made_list None list c after h l z t = let p = answer-absent list c after h in record { counted = p.0; lent = tt; left = p.1 ∙ z }
made_list (Some ys) list c after h l z t =
    let p = answer-held ys list c after h (leb-true (length ys) (length list / 8) t) in
    record {
      counted = p.0;
      lent = (p.1, refl);
      left = p.1.held.are ∙ ap (λ (n : ℕ). run_bytes 8 ys ++ zeros n) (let e : length after - 8 * length ys ≡ length list - length (run_bytes 8 ys) = omega (arith, length_run 8 ys) in e);
    }

-- ---- the three

module _ (t : Bool) (r : Reading) (s table unit parents ends marks : List ℕ) (first : ℕ) where
  abbrev items : List Item
  items = items_by r s table unit first

  pub items-here : (x : Sections) (u : Unit') → PassInput x u r s table unit parents ends marks first → first ≡ u.header.first.0 → items ≡ items_in x u
  items-here x u p f = ap (λ (n : ℕ). items_by r s table unit n) f ∙ items-are x u r s table unit p.read p.found

  -- what is known of one
  abbrev Answered : (Lists → Option (List ℕ)) → List ℕ → Option ℕ → List ℕ → Type 0
  Answered field list c after = (x : Sections) (u : Unit') → PassInput x u r s table unit parents ends marks first → first ≡ u.header.first.0
      → list ≡ zeros (length list) → ListAnswer (field (lists_of x u t (kept_from marks 0 [] (items_in x u)))) list c after

  -- it is absent with type units
  module _ (h : t ≡ true) (list : List ℕ) where
    absent : (o : Option (List ℕ)) → o ≡ None → ListAnswer o list None list
    unfolding ListAnswer
    absent o e = subst (λ (o : Option (List ℕ)). ListAnswer o list None list) (sym e) refl

    pub type-ranges : Answered ranges_in list None list
    type-ranges x u p f z = absent _ (no-ranges x u t _ h)

    pub type-locations : Answered locations_in list None list
    type-locations x u p f z = absent _ (no-locations x u t _ h)

    pub type-strings : Answered strings_in list None list
    type-strings x u p f z = absent _ (no-strings x u t _ h)

  -- it was gathered and settled
  module _ (h : t ≡ false) (list : List ℕ) (n : ℕ) (mid : List ℕ) (l : length mid ≡ length list) (c : Option ℕ) (after : List ℕ) where
    settled : (k name : ℕ) → Listing k r s table unit parents ends marks first list n mid → Settles r s table unit first name n mid c after
        → (x : Sections) (u : Unit') → PassInput x u r s table unit parents ends marks first → first ≡ u.header.first.0 → list ≡ zeros (length list)
        → ListAnswer (list_of x u (is_absent x u name (items_in x u)) k (kept_from marks 0 [] (items_in x u))) list c after
    unfolding list_of
    settled k name g s x u p f z =
        subst (λ (is : List Item). ListAnswer (list_of x u (is_absent x u name is) k (kept_from marks 0 [] is)) list c after) (items-here x u p f)
        (s x u _ list p.read p.found (z ∙ ap zeros (sym l)) (g x u p (subst (ListHeld []) (sym z) (list-none (length list)))))

    pub settled-ranges : Listing 0 r s table unit parents ends marks first list n mid → Settles r s table unit first 0x55 n mid c after → Answered ranges_in list c after
    settled-ranges g s x u p f z = subst (λ (o : Option (List ℕ)). ListAnswer o list c after) (ranges-are x u t _ h) (settled 0 0x55 g s x u p f z)

    pub settled-locations : Listing 1 r s table unit parents ends marks first list n mid → Settles r s table unit first 0x02 n mid c after → Answered locations_in list c after
    settled-locations g s x u p f z = subst (λ (o : Option (List ℕ)). ListAnswer o list c after) (locations-are x u t _ h) (settled 1 0x02 g s x u p f z)

    pub settled-strings : Listing 2 r s table unit parents ends marks first list n mid → Settles r s table unit first 0 n mid c after → Answered strings_in list c after
    settled-strings g s x u p f z = subst (λ (o : Option (List ℕ)). ListAnswer o list c after) (strings-are x u t _ h) (settled 2 0 g s x u p f z)

  abbrev Wanted : List ℕ → List ℕ → List ℕ → Option Listed → List ℕ → List ℕ → List ℕ → Type 0
  Wanted ranges locations strings c ranges' locations' strings' = (x : Sections) (u : Unit') → PassInput x u r s table unit parents ends marks first → first ≡ u.header.first.0
      → ranges ≡ zeros (length ranges) → locations ≡ zeros (length locations) → strings ≡ zeros (length strings)
      → ListsAnswer (lists_of x u t (kept_from marks 0 [] (items_in x u))) (length ranges) (length locations) (length strings) c ranges' locations' strings'

  short-lists : (l : Lists) (ranges locations strings : ℕ) (ranges' locations' strings' : List ℕ) → lists_fit (list_room ranges locations strings) l ≡ false → ListsAnswer l ranges locations strings None ranges' locations' strings'
  short-lists l ranges locations strings ranges' locations' strings' q =
      let no : lists_fit (list_room ranges locations strings) l ≡ true → ⊥ = (λ e. false≢true (sym q ∙ e)) in
      record { short = λ _. refl; made = λ e. absurd (no e); lent = λ e. absurd (no e); ranges_left = λ e. absurd (no e); locations_left = λ e. absurd (no e); strings_left = λ e. absurd (no e) }

  abbrev lists : (x : Sections) (u : Unit') → Lists
  lists x u = lists_of x u t (kept_from marks 0 [] (items_in x u))

  module _ (ranges locations strings ranges' locations' strings' : List ℕ) where
    pub ranges-short : (c : Option ℕ) → Answered ranges_in ranges c ranges' → length ranges' ≡ length ranges → (b : Bool) → b ≡ is_short c (length ranges' / 8) → b ≡ true
        → Wanted ranges locations strings None ranges' locations' strings'
    unfolding lists_fit
    ranges-short c k l b q e x u p f z y w =
        short-lists (lists x u) (length ranges) (length locations) (length strings) ranges' locations' strings'
        (no-first _ _ _ (too_short (lists x u).ranges ranges c ranges' (k x u p f z) l b q e))

    pub locations-short : (c : Option ℕ) → Answered locations_in locations c locations' → length locations' ≡ length locations → (b : Bool) → b ≡ is_short c (length locations' / 8) → b ≡ true
        → Wanted ranges locations strings None ranges' locations' strings'
    unfolding lists_fit
    locations-short c k l b q e x u p f z y w =
        short-lists (lists x u) (length ranges) (length locations) (length strings) ranges' locations' strings'
        (no_second _ _ _ (too_short (lists x u).locations locations c locations' (k x u p f y) l b q e))

    pub strings-short : (c : Option ℕ) → Answered strings_in strings c strings' → length strings' ≡ length strings → (b : Bool) → b ≡ is_short c (length strings' / 8) → b ≡ true
        → Wanted ranges locations strings None ranges' locations' strings'
    unfolding lists_fit
    strings-short c k l b q e x u p f z y w =
        short-lists (lists x u) (length ranges) (length locations) (length strings) ranges' locations' strings'
        (no_third _ _ _ (too_short (lists x u).strings strings c strings' (k x u p f w) l b q e))

    pub lists-made : (c₁ c₂ c₃ : Option ℕ)
        → Answered ranges_in ranges c₁ ranges' → Answered locations_in locations c₂ locations' → Answered strings_in strings c₃ strings'
        → length ranges' ≡ length ranges → length locations' ≡ length locations → length strings' ≡ length strings
        → false ≡ is_short c₁ (length ranges' / 8) → false ≡ is_short c₂ (length locations' / 8) → false ≡ is_short c₃ (length strings' / 8)
        → Wanted ranges locations strings (lists_counted c₁ c₂ c₃) ranges' locations' strings'
    unfolding lists_fit ◌and◌
    lists-made c₁ c₂ c₃ k₁ k₂ k₃ l₁ l₂ l₃ q₁ q₂ q₃ x u p f z y w =
        let l : Lists = lists x u in
        let a₁ = k₁ x u p f z in
        let a₂ = k₂ x u p f y in
        let a₃ = k₃ x u p f w in
        let h₁ = has_room l.ranges ranges c₁ ranges' a₁ l₁ false q₁ refl in
        let h₂ = has_room l.locations locations c₂ locations' a₂ l₂ false q₂ refl in
        let h₃ = has_room l.strings strings c₃ strings' a₃ l₃ false q₃ refl in
        let m₁ = made_list l.ranges ranges c₁ ranges' a₁ l₁ z h₁ in
        let m₂ = made_list l.locations locations c₂ locations' a₂ l₂ y h₂ in
        let m₃ = made_list l.strings strings c₃ strings' a₃ l₃ w h₃ in
        let yes : lists_fit (list_room (length ranges) (length locations) (length strings)) l ≡ true = all_three _ _ _ h₁ h₂ h₃ in
        record {
          short = λ e. absurd (false≢true (sym e ∙ yes));
          made = λ _. ap (λ (c : Option ℕ). lists_counted c c₂ c₃) m₁.counted ∙ ap (λ (c : Option ℕ). lists_counted (list_count l.ranges) c c₃) m₂.counted ∙ ap (λ (c : Option ℕ). lists_counted (list_count l.ranges) (list_count l.locations) c) m₃.counted;
          lent = λ _. record { those_ranges = m₁.lent; those_locations = m₂.lent; those_strings = m₃.lent };
          ranges_left = λ _. m₁.left;
          locations_left = λ _. m₂.left;
          strings_left = λ _. m₃.left;
        }
      where
        all_three : (a b c : Bool) → a ≡ true → b ≡ true → c ≡ true → (a and b and c) ≡ true
        all_three true true c p q r = r
        all_three true false c p q r = absurd (false≢true q)
        all_three false b c p q r = absurd (false≢true p)

  -- with type units
  pub type-lists : t ≡ true → (ranges locations strings : List ℕ) → Wanted ranges locations strings (lists_counted None None None) ranges locations strings
  unfolding is_short
  type-lists h ranges locations strings =
      lists-made ranges locations strings ranges locations strings None None None
      (type-ranges h ranges) (type-locations h locations) (type-strings h strings) refl refl refl refl refl refl
