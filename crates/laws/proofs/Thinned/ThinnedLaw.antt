-- EVERY REWRITTEN UNIT IS THINNED as specs/Thinned.antt claims. Assumes nothing but the answer.
use mathlib.Core.Path.{◌≡◌, refl, ap, sym, ◌∙◌, subst}
use Prim.Native.Nat.{ℕ, zero, suc, ◌+◌, ◌<◌}
use native.Mathlib.Omega.{arith}
use mathlib.Core.Bool.{Bool, true}
use mathlib.Core.List.{List, [], ◌∷◌}
use mathlib.Core.Logic.{◌⊎◌, inl, inr, ◌↔◌}
use Rattle.std.specs.Prelude.{None, Option, Some}
use lib.ListN.{length, drop, get_or}
use Rattle.readers.specs.Layout.{Encoded, Role, reference, type_reference, sibling, index, absolute, Piece, verbatim, patchable, Read, RunOf, Patch, patch_piece, patch_pieces, patch_read, patch_all}
use Rattle.readers.specs.Abbreviations.{Placed, declared_in}
use Rattle.readers.specs.declared.header.UnitHeader.{UnitHeader}
use Rattle.readers.specs.Stream.{Item, Items}
use Rattle.marking.specs.Analysis.{Sections}
use Rattle.marking.specs.Resolution.{graph_of, marks_in}
use Rattle.marking.specs.Survivors.{Survivor}
use Rattle.rewriting.specs.Places.{NestedItem, offset_of, size_of, Place, places_from, new_of, first_from, sibling_of, or_else}
use Rattle.rewriting.specs.Indices.{rank_in, rank_or}
use Rattle.laws.specs.LeftOut.{survivors_in, left_from}
use Rattle.marking.specs.Members.{Member, here, there, Nth, now, later}
use Rattle.laws.specs.Ancestors.{ancestors_from}
use Rattle.laws.specs.Inner.Ancestors.{kept_ancestors, MapTo, AllMapTo}
use Rattle.laws.specs.Moved.{moved_item, depths_from}
use Rattle.laws.specs.Inner.Moved.{moved_from}
use Rattle.rewriting.specs.Rewriting.{Unit as Unit', unit_of, items_in, reads_or, reads_at, Lists, list_at, new_value, is_some, refusal_from, Room, Rewrite, untouched, rewritten, collect_of}
use Rattle.laws.specs.Thinned.{Pairwise, Beside, LandsOn, FirstFrom, Becomes, PieceAgain, ReadAgain, read_at, SideBySide, IndexKept, IndexList, thinned_of, Thinned, UntouchedLists, Untouched}
use Rattle.laws.specs.SameReferences.{UnitReferences}
use Rattle.readers.proofs.HeaderLaws.{HeaderLaw}
use Rattle.laws.proofs.Survivors.UnitLaws.{unit-survivors}
use Rattle.marking.proofs.UnitMarkings.{marks-each}
use Rattle.laws.proofs.Survivors.ClosedMarks.{accepted-kept}
use Rattle.rewriting.proofs.KeptPass.ReadableItems.{accepted-readable}
use Rattle.laws.proofs.References.SameReferences.{accepted-references, each-references}
use Rattle.laws.proofs.References.SameRoles.{accepted-roles}
use Rattle.laws.proofs.Thinned.HeaderBytes.{header-bytes-law}
use Rattle.laws.proofs.Thinned.AbsentLists.{absent-law}
use Rattle.laws.proofs.Again.Accepted.{accepted-header, WasRewritten, WasUntouched, was-empty}
use Rattle.marking.proofs.Members.{nothing-in}
use Rattle.laws.proofs.Thinned.Roles.{index-kind}
use Rattle.laws.proofs.Again.Maps.{has_new}
use Rattle.laws.proofs.Thinned.Landing.{item-reference, item-type, item-sibling, no-type}
use Rattle.rewriting.proofs.KeptPass.ItemDepths.{Every, deep_at, Readable}
use Rattle.laws.proofs.Again.ReadsAgain.{with_bytes, patched}
use Rattle.laws.proofs.Again.Depths.{depths_of, depths-placed}
use Rattle.laws.proofs.Thinned.ThinnedItems.{nth-member, nth-map, parted, moved-offset, place_of, Stands, stands, deep-at, ItemFound, found-by, FirstFound, first_by, AncestorsOf, ancestors-by, Led, led}
use Rattle.laws.proofs.Again.IndexMembers.{IndexKept as IndexHeld}
use Rattle.laws.proofs.Again.CollectLaws.{it, unit, marks, kept, start, again, count_law, dead-law, kept-law, again-law, readable-law, bytes-law, again-header, map-law, nesting-law, ListLaw, list_law, whole, alive-law, whole-list-law}

-- ---- a number by its place in a list

nth-get_or : (xs : List ℕ) (v n : ℕ) → n < length xs → get_or xs n 0 ≡ v → Nth v n xs
nth-get_or [] v n h q = absurd (omega arith)
nth-get_or (x ∷ xs) v zero h q = now (sym q)
nth-get_or (x ∷ xs) v (suc n) h q = later (nth-get_or xs v n (omega arith) q)

moved_length : (n : ℕ) (kept : List NestedItem) → length (moved_from n kept) ≡ length kept
unfolding moved_from
moved_length n [] = refl
moved_length n (s ∷ kept) = ap suc (moved_length (n + size_of s.item) kept)

every-member : (P : NestedItem → Type 0) (ss : List NestedItem) (s : NestedItem) → Every P ss → Member s ss → P s
unfolding Every
every-member P [] s h m = absurd (nothing-in s m)
every-member P (t ∷ ss) s h (here q) = subst P (sym q) h.0
every-member P (t ∷ ss) s h (there m) = every-member P ss s h.1 m

-- ---- the index lists of a unit whose kept items can be read

module _ (x : Sections) (u : Unit') where
  reads_of : (at : ℕ) (run : RunOf) → read_at x u at ≡ Some run → reads_at x u at ≡ run.0
  unfolding reads_at reads_or
  reads_of at run q = ap (reads_or x u) q

  module _ (items : List NestedItem) (readable : Every (Readable x u) items) where
    index-held : (k v : ℕ) → IndexHeld x u k v items ↔ IndexKept x u items k v
    index-held k v = (
      λ h.
          let old : Readable x u h.standing = every-member (Readable x u) items h.standing readable h.among in
          record {
            s = h.standing;
            e = h.operand.operand.encoded;
            r = h.operand.read;
            run = old.run;
            in_kept = h.among;
            reads = old.is;
            among = subst (Member h.operand.read) (reads_of (offset_of h.standing.item) old.run old.is) h.operand.among;
            operand = h.operand.operand.within;
          },
      λ h. record {
        standing = h.s;
        among = h.in_kept;
        operand = record {
          read = h.r;
          among = subst (Member h.r) (sym (reads_of (offset_of h.s.item) h.run h.reads)) h.among;
          operand = record { encoded = h.e; within = h.operand };
        };
      },
    )

    index-list : (k : ℕ) (xs : List ℕ) → ListLaw x u items k xs → IndexList x u items k xs
    index-list k xs l =
        record {
          ascending = l.ascending;
          members = (λ v. (λ m. (index-held k v).0 ((l.members v).0 m), λ m. (l.members v).1 ((index-held k v).1 m)));
        }

-- ---- the new unit, by positions

module _ (x : Sections) (room : Room) (type_units : Bool) (section : List ℕ) (w : Rewrite) (answer : collect_of x room type_units section ≡ rewritten w) where
  abbrev was : Unit'
  was = unit x room type_units section w answer

  abbrev items : List NestedItem
  items = kept x room type_units section w answer

  abbrev first : ℕ
  first = start x room type_units section w answer

  abbrev new : Unit'
  new = thinned_of (it x room type_units section w answer).header w.output (it x room type_units section w answer).declared

  map_is : w.map ≡ places_from first items
  map_is = (it x room type_units section w answer).map_is

  same-items : items_in x (again x room type_units section w answer) ≡ items_in x new
  unfolding items_in
  same-items = refl

  new_items : items_in x new ≡ moved_from first items
  unfolding items_in
  new_items = ap (λ (z : Items). z.0) (again-law x room type_units section w answer).items

  abbrev Next : ℕ → NestedItem → Place → Item → Type 0
  Next = Beside x was new w.lists w.map items

  abbrev Lands : ℕ → ℕ → Type 0
  Lands = LandsOn x was new w.lists w.map items

  beside : (m : ℕ) (s : NestedItem) (t : Stands first items m s) → Next m s (place_of t.new s) (moved_item t.new s.item)
  beside m s t =
      record {
        kept_there = t.kept_there;
        mapped = subst (Nth (place_of t.new s) m) (sym map_is) t.place;
        again_there = subst (Nth (moved_item t.new s.item) m) (sym new_items) t.moved;
        old_is = refl;
        new_is = sym (moved-offset t.new s.item);
      }

  -- where the map leads a reference
  lands : (v n : ℕ) → new_of w.map v ≡ Some n → Lands v n
  lands v n q =
      let r : ItemFound first items v n = found-by first items v n (sym (ap (λ (z : List Place). new_of z v) map_is) ∙ q) in
      record {
        m = r.m;
        s = r.s;
        p = place_of r.there.new r.s;
        i = moved_item r.there.new r.s.item;
        beside = beside r.m r.s r.there;
        named = r.named;
        lands = moved-offset r.there.new r.s.item ∙ r.new_is;
      }

  first-from : (depth v n : ℕ) → new_of w.map v ≡ None → first_from w.map depth v ≡ Some n → FirstFrom x was new w.lists w.map items depth v n
  unfolding is_some
  first-from depth v n o q =
      let r : FirstFound first items depth v n = first_by first items depth v n (sym (ap (λ (z : List Place). first_from z depth v) map_is) ∙ q) in
      record {
        m = r.m;
        s = r.s;
        p = place_of r.there.new r.s;
        i = moved_item r.there.new r.s.item;
        beside = beside r.m r.s r.there;
        after = r.after;
        no_deeper = r.no_deeper;
        lands = moved-offset r.there.new r.s.item ∙ r.new_is;
        unmapped = (λ t m e.
            let y : is_some (new_of (places_from first items) v) ≡ true = subst (λ (k : ℕ). is_some (new_of (places_from first items) k) ≡ true) e (has_new first items t m) in
            let z : is_some None ≡ true = subst (λ (k : Option ℕ). is_some k ≡ true) (sym (ap (λ (k : List Place). new_of k v) map_is) ∙ o) y in
            let z' : ◌≡◌ {A = ℕ} 0 1 = cc in absurd (omega arith));
        first = r.first_one;
      }

  sibling-by : (depth v n : ℕ) (o : Option ℕ) → new_of w.map v ≡ o → or_else o (first_from w.map depth v) ≡ Some n
      → Lands v n ⊎ FirstFrom x was new w.lists w.map items depth v n
  unfolding or_else
  sibling-by depth v n None h q = inr (first-from depth v n h q)
  sibling-by depth v n (Some k) h q = inl (lands v n (h ∙ q))

  sibling-lands : (depth v n : ℕ) → sibling_of w.map depth v ≡ Some n → Lands v n ⊎ FirstFrom x was new w.lists w.map items depth v n
  unfolding sibling_of
  sibling-lands depth v n q = sibling-by depth v n (new_of w.map v) refl q

  -- ---- what a number becomes

  -- what was read of a kept item
  was_read : (s : NestedItem) → Member s items → Readable x was s
  was_read s m = every-member (Readable x was) items s (readable-law x room type_units section w answer) m

  abbrev Rule : ℕ → Role → ℕ → ℕ → Type 0
  Rule = Becomes x was new w.lists w.map items

  clean : refusal_from x was w.lists w.map items ≡ 0
  clean = (it x room type_units section w answer).none-refused

  module _ (s : NestedItem) (m : Member s items) (r : Read) (i : Member r (reads_at x was (offset_of s.item))) (e : Encoded) where
    abbrev value : Role → ℕ → ℕ
    value = new_value w.lists w.map s.depth

    type-becomes : (v : ℕ) → Member (patchable e type_reference v) r.pieces → Rule s.depth type_reference v (value type_reference v)
    unfolding Becomes
    type-becomes v p = (
      λ z. ap (value type_reference) z ∙ no-type w.lists w.map s.depth,
      λ n. lands v (value type_reference v) (item-type x was w.lists w.map items clean s m r i e v n p),
    )

    kind : (k v : ℕ) → Member (patchable e (index k) v) r.pieces → k < 3
    kind k v p =
        let o : Readable x was s = was_read s m in
        index-kind was.header.encoding x.abbreviations (declared_in was.declared) (drop (offset_of s.item) was.bytes) o.run o.is r
        (subst (Member r) (reads_of x was (offset_of s.item) o.run o.is) i) e k v p

    index-becomes : (k v : ℕ) → Member (patchable e (index k) v) r.pieces → Rule s.depth (index k) v (value (index k) v)
    unfolding Becomes new_value rank_or
    index-becomes k v p = (
      λ q. ap (λ (o : Option (List ℕ)). rank_or o v) q,
      λ xs q.
          let l : ListLaw x was items k xs = list_law x room type_units section w answer k (kind k v p) xs q in
          let n : Member v xs = (l.members v).1 (record { standing = s; among = m; operand = record { read = r; among = i; operand = record { encoded = e; within = p } } }) in
          subst (λ (j : ℕ). Nth v j xs) (sym (ap (λ (o : Option (List ℕ)). rank_or o v) q)) (nth-get_or xs v (rank_in xs v) (l.ranks v n).inside (l.ranks v n).placed),
    )

    pub becomes : (role : Role) (v : ℕ) → Member (patchable e role v) r.pieces → Rule s.depth role v (value role v)
    unfolding Becomes new_value
    becomes reference v p = lands v (value reference v) (item-reference x was w.lists w.map items clean s m r i e v p)
    becomes type_reference v p = type-becomes v p
    becomes sibling v p = sibling-lands s.depth v (value sibling v) (item-sibling x was w.lists w.map items clean s m r i e v p)
    becomes (index k) v p = index-becomes k v p
    becomes absolute v p = refl

  -- ---- what is read again

  module _ (depth : ℕ) where
    abbrev f : Patch
    f = new_value w.lists w.map depth

    abbrev Known : List Piece → Type 0
    Known ps = (e : Encoded) (role : Role) (v : ℕ) → Member (patchable e role v) ps → Rule depth role v (f role v)

    piece-again : (p : Piece) → ((e : Encoded) (role : Role) (v : ℕ) → patchable e role v ≡ p → Rule depth role v (f role v))
        → PieceAgain x was new w.lists w.map items depth p (patch_piece f p)
    unfolding PieceAgain patch_piece
    piece-again (verbatim l) h = refl
    piece-again (patchable e role v) h = (refl, refl, h e role v refl)

    pieces-again : (ps : List Piece) → Known ps → Pairwise (PieceAgain x was new w.lists w.map items depth) ps (patch_pieces f ps)
    unfolding Pairwise patch_pieces
    pieces-again [] h = tt
    pieces-again (p ∷ ps) h = (piece-again p (λ e role v q. h e role v (here q)), pieces-again ps (λ e role v n. h e role v (there n)))

    reads-again : (rs : List Read) → ((r : Read) → Member r rs → Known r.pieces) → Pairwise (ReadAgain x was new w.lists w.map items depth) rs (patch_all f rs)
    unfolding Pairwise patch_all patch_read
    reads-again [] h = tt
    reads-again (r ∷ rs) h = (
      record { seen_is = refl; start_is = refl; pieces_are = pieces-again r.pieces (h r (here refl)) },
      reads-again rs (λ q n. h q (there n)),
    )

  -- ---- side by side

  all-land : (vs ns : List ℕ) → MapTo w.map vs ns → Pairwise Lands vs ns
  unfolding MapTo Pairwise
  all-land [] [] h = tt
  all-land [] (n ∷ ns) h = h
  all-land (v ∷ vs) [] h = h
  all-land (v ∷ vs) (n ∷ ns) h = (lands v n h.0, all-land vs ns h.1)

  new-depths : depths_from 0 [] (items_in x new) ≡ depths_of items
  new-depths = ap (depths_from 0 []) new_items ∙ (again-law x room type_units section w answer).depths ∙ depths-placed first items

  each-law : (m : ℕ) (s : NestedItem) → Nth s m items → SideBySide x was new w.lists w.map items m s
  each-law m s n =
      let t : Stands first items m s = stands first items m s n in
      let i : Item = moved_item t.new s.item in
      let o : offset_of i ≡ t.new = moved-offset t.new s.item in
      let old : Readable x was s = was_read s (nth-member s m items n) in
      let rs : reads_at x was (offset_of s.item) ≡ old.run.0 = reads_of x was (offset_of s.item) old.run old.is in
      let olds : List (List ℕ) = kept_ancestors (marks x room type_units section w answer) 0 [] [] (items_in x was) in
      let a : AncestorsOf (items_in x was) [] olds m s =
      ancestors-by (marks x room type_units section w answer) 0 [] [] (items_in x was) m s n in
      let l : Led w.map a.opens m (ancestors_from [] (items_in x new)) =
      led w.map olds (ancestors_from [] (items_in x new)) (subst (λ (z : List Item). AllMapTo w.map olds (ancestors_from [] z)) same-items (nesting-law x room type_units section w answer)) a.opens m a.listed in
      record {
        place = place_of t.new s;
        item = i;
        beside = beside m s t;
        same = ap (λ (k : ℕ). moved_item k s.item) (sym o);
        depth_is = refl;
        depth_again = subst (Nth s.depth m) (sym new-depths) (nth-map (λ (z : NestedItem). z.depth) s m items n);
        values = old.run;
        values_again = (patched x was w.lists w.map s, drop (t.new + size_of s.item) w.output);
        were = old.is;
        are = ap (λ (k : ℕ). deep_at x (with_bytes was w.output) k) o ∙ deep-at x was w.lists w.map w.output first items m s (again-law x room type_units section w answer).reads n;
        again = subst (λ (z : List Read). Pairwise (ReadAgain x was new w.lists w.map items s.depth) z (patched x was w.lists w.map s)) rs
            (reads-again s.depth (reads_at x was (offset_of s.item)) (λ r i e role v p. becomes s (nth-member s m items n) r i e role v p));
        at = a.at;
        was_at = a.was_at;
        ancestors = a.opens;
        ancestors_again = l.opens-again;
        were_open = a.were_open;
        are_open = l.there;
        same_open = all-land a.opens l.opens-again l.leading;
      }

  lists-law : (k : ℕ) → k < 3 → (xs : List ℕ) → list_at w.lists k ≡ Some xs → IndexList x was items k xs
  lists-law k h xs q = index-list x was items (readable-law x room type_units section w answer) k xs (list_law x room type_units section w answer k h xs q)

  header-law : HeaderLaw x.setting.big_endian was.bytes (it x room type_units section w answer).header
  header-law = accepted-header x room section (it x room type_units section w answer).header (it x room type_units section w answer).declared (it x room type_units section w answer).rows (it x room type_units section w answer).accepted

  same_references : UnitReferences x section (it x room type_units section w answer).rows
  same_references =
      let o : WasRewritten x room type_units section w = it x room type_units section w answer in
      record {
        header = o.header;
        declared = o.declared;
        header_is = o.accepted.header;
        declared_is = o.accepted.declared;
        rows_are = accepted-references x room section o.header o.declared o.rows o.accepted;
        each = each-references x room section o.header o.declared o.rows o.accepted;
      }

  -- THE LAW OF THINNED UNITS
  pub thinned-law : Thinned x type_units section w
  thinned-law =
      record {
        header = (it x room type_units section w answer).header;
        declared = (it x room type_units section w answer).declared;
        rows = (it x room type_units section w answer).rows;
        kept = items;
        left = left_from (marks x room type_units section w answer) 0 [] (items_in x was);
        survivors = unit-survivors x section room.tables (it x room type_units section w answer).rows (it x room type_units section w answer).accepted.analysis;
        references = same_references;
        roles = accepted-roles x room section (it x room type_units section w answer).header (it x room type_units section w answer).declared (it x room type_units section w answer).rows (it x room type_units section w answer).accepted;
        header_is = (it x room type_units section w answer).accepted.header;
        declared_are = (it x room type_units section w answer).accepted.declared;
        parted = parted (Survivor (graph_of (it x room type_units section w answer).rows)) (marks x room type_units section w answer) (kept-law x room type_units section w answer) 0 [] (items_in x was);
        entries_are = (it x room type_units section w answer).entries-is ∙ marks-each (it x room type_units section w answer).rows;
        count = count_law x room type_units section w answer;
        dead = dead-law x room type_units section w answer;
        header_again = again-header x room type_units section w answer _ (it x room type_units section w answer).accepted.header;
        header_written = header-bytes-law x room type_units section w answer;
        whole = ap (λ (z : Items). z.1) (again-law x room type_units section w answer).items;
        as_many = ap length new_items ∙ moved_length first items;
        places = (map-law x room type_units section w answer).each;
        olds = (map-law x room type_units section w answer).olds;
        news = (map-law x room type_units section w answer).news;
        each = each-law;
        bytes = header-law.end_is ∙ bytes-law x room type_units section w answer;
        lists_are = (it x room type_units section w answer).lists-is;
        absent = absent-law x was type_units items w.lists (it x room type_units section w answer).lists-is;
        lists = lists-law;
      }

  -- what holds of the unit and the kept items that collect found holds of those that it names
  pub of-thinned : (P : UnitHeader → List Placed → List NestedItem → Type 0) → P (it x room type_units section w answer).header (it x room type_units section w answer).declared items
      → P thinned-law.header thinned-law.declared thinned-law.kept
  unfolding thinned-law
  of-thinned P h = h

-- ---- an untouched unit

module _ (x : Sections) (room : Room) (type_units : Bool) (section : List ℕ) where
  module _ (n : ℕ) (lists : Lists) (answer : collect_of x room type_units section ≡ untouched n lists) (some-entry : 0 < n) where
    abbrev o : WasUntouched x room type_units section n lists
    o = whole x room type_units section n lists answer some-entry

    abbrev whole-unit : Unit'
    whole-unit = unit_of o.header section o.declared

    abbrev all-kept : List NestedItem
    all-kept = survivors_in x whole-unit o.rows

    untouched-lists : UntouchedLists x type_units section o.rows lists
    untouched-lists =
        record {
          header = o.header;
          declared = o.declared;
          kept = all-kept;
          left = left_from (marks_in o.rows) 0 [] (items_in x whole-unit);
          header_is = o.accepted.header;
          declared_are = o.accepted.declared;
          parted = parted (Survivor (graph_of o.rows)) (marks_in o.rows) (accepted-kept x room section o.header o.declared o.rows o.accepted) 0 [] (items_in x whole-unit);
          lists_are = o.lists-is;
          absent = absent-law x whole-unit type_units all-kept lists o.lists-is;
          each = (λ k h xs q. index-list x whole-unit all-kept
              (accepted-readable x room section o.header o.declared o.rows o.accepted (marks_in o.rows)) k xs
              (whole-list-law x room type_units section n lists answer some-entry k h xs q));
        }

    with_entries : Untouched x type_units section n lists
    with_entries =
        record {
          rows = o.rows;
          survivors = unit-survivors x section room.tables o.rows o.accepted.analysis;
          entries_are = o.entries-is ∙ marks-each o.rows;
          alive = alive-law x room type_units section n lists answer some-entry;
          without_lists = (λ z. absurd (omega arith));
          with_lists = (λ _. untouched-lists);
        }

  -- THE LAW OF UNTOUCHED UNITS
  pub untouched-law : (n : ℕ) (lists : Lists) → collect_of x room type_units section ≡ untouched n lists → Untouched x type_units section n lists
  untouched-law zero lists answer =
      record {
        rows = [];
        survivors = unit-survivors x section room.tables [] (was-empty x room type_units section lists answer).0;
        entries_are = refl;
        alive = (λ i h. absurd (omega arith));
        without_lists = (λ _. (was-empty x room type_units section lists answer).1);
        with_lists = (λ h. absurd (omega arith));
      }
  untouched-law (suc n) lists answer = with_entries (suc n) lists answer (omega arith)
