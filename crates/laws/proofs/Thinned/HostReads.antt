-- The lent bytes of an accepted unit, read back: the map's places, the lists' numbers, the output. Assumes nothing but the answer; of the lists that the section is bytes, as a slice of
-- u8 is.
use mathlib.Core.Path.{◌≡◌, refl, ap, sym, ◌∙◌, subst}
use Prim.Native.Nat.{ℕ, zero, suc, ◌+◌, ◌*◌, ◌-◌, ◌^◌, ◌/◌, ◌≤◌, ◌<◌}
use native.Mathlib.Omega.{arith}
use mathlib.Core.Bool.{Bool, true, false}
use mathlib.Core.List.{List, [], ◌∷◌, ◌++◌}
use Rattle.std.specs.Prelude.{Err, None, Ok, Option, Result, Some}
use mathlib.Core.Logic.{◌⊎◌, inr, ⊎_elim}
use lib.ListN.{length, get_or, take, drop, length-append, length-replicate}
use lib.Seq.{take_at, drop_at}
use lib.Dec.{T, leb, eqb}
use lib.Pow.{are_bytes}
use mir.Facts.{leb_yes, yes_leb}
use Rattle.readers.specs.Choice.{pick, ◌and◌, zeros}
use Rattle.readers.proofs.Choice.{pick-either, All, all_map}
use Rattle.readers.specs.Layout.{Encoded, infixed, inleb, Role, index, Token, nothing, number, bounded, forms, signed, link, string, run, block, expression, unknown, Layout, done, fail, field, Piece, verbatim, patchable, Read, RunOf, Fit}
use Rattle.readers.proofs.LayoutLaws.{fixed-fit, leb-fit}
use Rattle.readers.specs.Expression.{expression_in}
use Rattle.readers.specs.Entries.{entry_layout}
use Rattle.readers.specs.Abbreviations.{Placed, declared_in, abbreviations_of}
use Rattle.readers.specs.Stream.{Item, entry, terminator}
use Rattle.readers.specs.declared.cursor.Encoding.{Encoding}
use Rattle.readers.specs.declared.header.UnitHeader.{UnitHeader}
use Rattle.readers.proofs.Nesting.{length-opened, length-closed}
use Rattle.readers.specs.Nesting.{opened, closed}
use Rattle.marking.specs.Marks.{is_kept, kept_count}
use Rattle.marking.specs.Analysis.{Sections, Rooms, EntryRow, Analysed, analysed, refused as not_analysed, analysis_of, header_by}
use Rattle.marking.specs.Resolution.{marks_in, Ascending as From}
use Rattle.marking.specs.Columns.{pad_to}
use Rattle.rewriting.specs.Places.{NestedItem, innermost, with_if, kept_from, offset_of, size_of, Place, places_from, size_from, old_offsets}
use Rattle.rewriting.specs.Indices.{count_of}
use Rattle.rewriting.specs.Ascending.{Ascending}
use Rattle.marking.specs.Members.{Member, here, there, Nth, now, later}
use Rattle.rewriting.specs.Written.{number_size, place_size, number_at, run_bytes, list_bytes, columns, map_bytes}
use Rattle.rewriting.specs.Inner.Written.{place, MapHeld}
use Rattle.rewriting.specs.Rewriting.{Unit as Unit', items_in, reads_or, reads_at, Lists, no_lists, list_at, lists_of, lists_fit, Room, Rewrite, Collected, untouched, rewritten, refused, or_refused, rewrite_of, marks_collected, rows_collected, analysed_collected, declared_collected, header_collected, collect_of, unit_of}
use Rattle.rewriting.specs.Outputs.{room_by, map_for, output_for, list_or, list_for}
use Rattle.laws.specs.HostReads.{place_at, list_number_at, MapReads, ListReads, PresentReads, OutputReads, RewrittenReads, UntouchedReads, RefusedReads, AnswerReads}
use Rattle.marking.proofs.Members.{nothing-in, in-cases}
use Rattle.laws.proofs.Again.Maps.{places-length, kept-member}
use Rattle.rewriting.proofs.MapPass.Ascending.{items-ascending, offsets_of}
use Rattle.laws.proofs.Again.Sizes.{items-inside}
use Rattle.rewriting.proofs.ListPass.Tables.{Small, length_run, run_at}
use Rattle.rewriting.proofs.MapPass.Places.{nowhere, length-columns, old-held, new-held, depth-held}
use Rattle.rewriting.proofs.MapPass.Exact.{are-take, are-drop, token_ok, LayoutOk, Right, Rights, AllRights, Exactly, ExactReader, RunExact, read-exact, in_expression, expression-exactly}
use Rattle.readers.proofs.HeaderLaws.{HeaderLaw}
use Rattle.rewriting.proofs.Whole.AcceptedUnits.{Accepted}
use Rattle.laws.specs.LeftOut.{survivors_in}
use Rattle.laws.proofs.Again.Accepted.{accepted-header, WasRewritten}
use Rattle.marking.proofs.UnitMarkings.{marks-each}
use Rattle.laws.proofs.Again.IndexMembers.{IndexKept}
use Rattle.laws.proofs.Again.CollectLaws.{it, unit, marks, kept, start, again-law, bytes-law, map-law, list_law, whole, whole-list-law}
use Rattle.marking.proofs.ListedHeaders.{analysed-listed}

-- ---- what is at a place of a list

module _ {A : Type 0} where
  nth_inside : (a : A) (n : ℕ) (xs : List A) → Nth a n xs → n < length xs
  nth_inside a n [] m = elim m [ ]
  nth_inside a n (x ∷ xs) (now e) = omega arith
  nth_inside a n (x ∷ xs) (later {n = j} m) = let h : j < length xs = nth_inside a j xs m in omega arith

  nth-is : (d a : A) (n : ℕ) (xs : List A) → Nth a n xs → get_or xs n d ≡ a
  nth-is d a n [] m = elim m [ ]
  nth-is d a n (x ∷ xs) (now e) = sym e
  nth-is d a n (x ∷ xs) (later {n = j} m) = nth-is d a j xs m

-- ---- bytes and zeros after them

module _ (size : ℕ) (bytes : List ℕ) (n : ℕ) (l : length bytes ≡ n) where
  padded-size : n ≤ size → length (pad_to size bytes) ≡ size
  unfolding pad_to
  padded-size h = length-append bytes (zeros (size - length bytes)) ∙ (let z : length (zeros (size - length bytes)) ≡ size - length bytes = length-replicate (size - length bytes) 0 in omega arith)

  padded-take : take n (pad_to size bytes) ≡ bytes
  unfolding pad_to
  padded-take = take_at bytes (zeros (size - length bytes)) n l

  padded-after : drop n (pad_to size bytes) ≡ zeros (size - n)
  unfolding pad_to
  padded-after = drop_at bytes (zeros (size - length bytes)) n l ∙ ap (λ (k : ℕ). zeros (size - k)) l

-- ---- a map

module _ (ps : List Place) (h : (p : Place) → Member p ps → (p.old < 2 ^ 64) × (p.new < 2 ^ 64) × (p.depth < 2 ^ 64)) where
  length-map : length (map_bytes ps) ≡ place_size * length ps
  unfolding map_bytes
  length-map = length_run number_size (columns ps) ∙ (let c : length (columns ps) ≡ 3 * length ps = length-columns ps in let g : number_size * length (columns ps) ≡ place_size * length ps = omega arith in g)

columns-small : (ps : List Place) → ((p : Place) → Member p ps → (p.old < 2 ^ 64) × (p.new < 2 ^ 64) × (p.depth < 2 ^ 64)) → Small (256 ^ number_size) (columns ps)
unfolding columns
columns-small [] h v m = absurd (nothing-in v m)
columns-small (p ∷ ps) h v (here e) = let s : p.old < 2 ^ 64 = (h p (here refl)).0 in omega arith
columns-small (p ∷ ps) h v (there (here e)) = let s : p.new < 2 ^ 64 = (h p (here refl)).1 in omega arith
columns-small (p ∷ ps) h v (there (there (here e))) = let s : p.depth < 2 ^ 64 = (h p (here refl)).2 in omega arith
columns-small (p ∷ ps) h v (there (there (there m))) = columns-small ps (λ q n. h q (there n)) v m

module _ (size : ℕ) (ps : List Place) (r : length ps ≤ size / place_size) (asc : Ascending (old_offsets ps)) (h : (p : Place) → Member p ps → (p.old < 2 ^ 64) × (p.new < 2 ^ 64) × (p.depth < 2 ^ 64)) where
  map-sized : length (pad_to size (map_bytes ps)) ≡ size
  map-sized = padded-size size (map_bytes ps) (place_size * length ps) (length-map ps h) (omega arith)

  map-held : MapHeld ps (pad_to size (map_bytes ps))
  unfolding pad_to map_bytes
  map-held =
      let c : length (columns ps) ≡ 3 * length ps = length-columns ps in
      let s : length (pad_to size (map_bytes ps)) ≡ size = map-sized in
      let l : length (map_bytes ps) ≡ place_size * length ps = length-map ps h in
      record {
        held = record {
          are = ap (λ (n : ℕ). run_bytes number_size (columns ps) ++ zeros n) (let e : size - length (map_bytes ps) ≡ length (pad_to size (map_bytes ps)) - number_size * length (columns ps) = omega arith in e);
          room = (let e : number_size * length (columns ps) ≤ length (pad_to size (map_bytes ps)) = omega arith in e);
          small = columns-small ps h;
        };
        ascending = asc;
      }

  place_read : (k : ℕ) (p : Place) → Nth p k ps → place_at (pad_to size (map_bytes ps)) k ≡ p
  unfolding place_at
  place_read k p m =
      let l : k < length ps = nth_inside p k ps m in
      let map : List ℕ = pad_to size (map_bytes ps) in
      let g : Place = get_or ps k nowhere in
      ap (λ (z : ℕ). place z (number_at number_size map (place_size * k + number_size)) (number_at number_size map (place_size * k + 2 * number_size))) (old-held ps map map-held k l (number_at number_size map (place_size * k)) (λ _. refl))
      ∙ ap (λ (z : ℕ). place g.old z (number_at number_size map (place_size * k + 2 * number_size))) (new-held ps map map-held k l (number_at number_size map (place_size * k + number_size)) (λ _. refl))
      ∙ ap (λ (z : ℕ). place g.old g.new z) (depth-held ps map map-held k l (number_at number_size map (place_size * k + 2 * number_size)) (λ _. refl))
      ∙ nth-is nowhere p k ps m

  map-reads : MapReads size ps (pad_to size (map_bytes ps))
  map-reads =
      record {
        sized = map-sized;
        room = omega arith;
        small = h;
        each = place_read;
        after = padded-after size (map_bytes ps) (place_size * length ps) (length-map ps h);
      }

-- ---- an index list

module _ (size : ℕ) (xs : List ℕ) (r : length xs ≤ size / number_size) (h : (v : ℕ) → Member v xs → v < 2 ^ 64) where
  list-reads : ListReads size xs (pad_to size (list_bytes xs))
  unfolding list_number_at pad_to
  list-reads =
      let f : 8 * length xs ≤ size = omega arith in
      record {
        sized = padded-size size (list_bytes xs) (8 * length xs) (length_run 8 xs) f;
        room = f;
        small = h;
        each = (λ k v m.
            run_at 8 xs (zeros (size - length (list_bytes xs))) k (λ n i. let s : n < 2 ^ 64 = h n i in omega arith) (nth_inside v k xs m) ∙ nth-is 0 v k xs m);
        after = padded-after size (list_bytes xs) (8 * length xs) (length_run 8 xs);
      }

present-reads : (size : ℕ) (o : Option (List ℕ)) → count_of o ≤ size / number_size → ((xs : List ℕ) → o ≡ Some xs → (v : ℕ) → Member v xs → v < 2 ^ 64) → PresentReads size o (list_or size o)
unfolding PresentReads list_or count_of
present-reads size None r h = refl
present-reads size (Some xs) r h = list-reads size xs r (h xs refl)

-- ---- the numbers of a map are small

with_cases : (b : Bool) (s x : NestedItem) (xs : List NestedItem) → Member s (with_if b x xs) → (s ≡ x) ⊎ Member s xs
unfolding with_if
with_cases true s x xs m = in-cases m
with_cases false s x xs m = inr m

-- an item is no deeper than its offset: each entry around it takes a byte before it
depth_below : (marks : List ℕ) (k low : ℕ) (stack : List Bool) (items : List Item) → From low (offsets_of items) → length stack ≤ low
    → (s : NestedItem) → Member s (kept_from marks k stack items) → s.depth ≤ offset_of s.item
unfolding kept_from offsets_of From
depth_below marks k low stack [] f h s m = absurd (nothing-in s m)
depth_below marks k low stack (entry x ∷ rest) f h s m =
    let a : low ≤ offset_of (entry x) = f.0 in
    ⊎_elim
    (λ (e : s ≡ record { item = entry x; depth = length stack }). subst (λ (t : NestedItem). t.depth ≤ offset_of t.item) (sym e) (let z : length stack ≤ offset_of (entry x) = omega arith in z))
    (λ (n : Member s (kept_from marks (suc k) (opened x.declaration.children (is_kept marks k) stack) rest)).
    depth_below marks (suc k) (suc (offset_of (entry x))) (opened x.declaration.children (is_kept marks k) stack) rest f.1
    (omega (arith, length-opened x.declaration.children (is_kept marks k) stack)) s n)
    (with_cases (is_kept marks k) s _ _ m)
depth_below marks k low stack (terminator a b ∷ rest) f h s m =
    let l : low ≤ offset_of (terminator a b) = f.0 in
    ⊎_elim
    (λ (e : s ≡ record { item = terminator a b; depth = length stack }). subst (λ (t : NestedItem). t.depth ≤ offset_of t.item) (sym e) (let z : length stack ≤ offset_of (terminator a b) = omega arith in z))
    (λ (n : Member s (kept_from marks k (closed stack) rest)).
    depth_below marks k (suc (offset_of (terminator a b))) (closed stack) rest f.1 (omega (arith, length-closed stack)) s n)
    (with_cases (innermost stack) s _ _ m)

place-below : (b n : ℕ) (kept : List NestedItem) → ((s : NestedItem) → Member s kept → (offset_of s.item < b) × (s.depth ≤ offset_of s.item) × (0 < size_of s.item))
    → (p : Place) → Member p (places_from n kept) → (p.old < b) × (p.depth ≤ p.old) × (p.new < n + size_from kept)
unfolding places_from size_from
place-below b n [] h p m = absurd (nothing-in p m)
place-below b n (s ∷ kept) h p (here e) =
    let z : 0 < size_of s.item = (h s (here refl)).2 in
    subst (λ (q : Place). (q.old < b) × (q.depth ≤ q.old) × (q.new < n + (size_of s.item + size_from kept))) (sym e)
    ((h s (here refl)).0, (h s (here refl)).1, let y : n < n + (size_of s.item + size_from kept) = omega arith in y)
place-below b n (s ∷ kept) h p (there m) =
    let r : (p.old < b) × (p.depth ≤ p.old) × (p.new < n + size_of s.item + size_from kept) = place-below b (n + size_of s.item) kept (λ t i. h t (there i)) p m in
    let y : p.new < n + size_of s.item + size_from kept = r.2 in
    (r.0, r.1, let z : p.new < n + (size_of s.item + size_from kept) = omega arith in z)

-- ---- the numbers of a list are small: of bytes, a number that was read fits its width

width-below : (d w v : ℕ) → v < 256 ^ w → v < 256 ^ (w + d)
width-below zero w v h = subst (λ (n : ℕ). v < 256 ^ n) (let e : w ≡ w + 0 = omega arith in e) h
width-below (suc d) w v h =
    subst (λ (n : ℕ). v < 256 ^ n) (let e : suc (w + d) ≡ w + suc d = omega arith in e)
    (let z : v < 256 ^ (w + d) = width-below d w v h in let y : v < 256 ^ suc (w + d) = omega arith in y)

fit_small : (e : Encoded) (v : ℕ) → Fit e v → v < 2 ^ 64
fit_small (infixed w) v h =
    let p = fixed-fit w v h in
    let l : w ≤ 8 = p.0 in
    let z : v < 256 ^ 8 = subst (λ (n : ℕ). v < 256 ^ n) (let e : w + (8 - w) ≡ 8 = omega arith in e) (width-below (8 - w) w v p.1) in omega arith
fit_small (inleb n) v h = (leb-fit n v h).2

abbrev any_role : Role → Bool
any_role r = true

token-any : (t : Token) → T (token_ok any_role t)
unfolding token_ok
token-any nothing = tt
token-any (number k) = tt
token-any (bounded n) = tt
token-any forms = tt
token-any signed = tt
token-any (link k r) = tt
token-any string = tt
token-any (run n) = tt
token-any (block k) = tt
token-any expression = tt
token-any unknown = tt

layout-any : (g : Layout) → LayoutOk any_role g
unfolding LayoutOk
layout-any done = tt
layout-any fail = tt
layout-any (field t k) = (token-any t, λ n. layout-any (k n))

rights-any : (ps : List Piece) → Rights in_expression ps → Rights any_role ps
unfolding Rights Right
rights-any [] h = tt
rights-any (verbatim l ∷ ps) h = (tt, rights-any ps h.1)
rights-any (patchable e r v ∷ ps) h = ((h.0.0, tt), rights-any ps h.1)

expression-any : (e : Encoding) → ExactReader e.big_endian any_role (expression_in e)
expression-any e s h =
    all_map (Exactly e.big_endian in_expression s) (Exactly e.big_endian any_role s) (expression_in e s) (λ ps q. (q.0, rights-any ps q.1)) (expression-exactly e s h)

piece-fits : (e : Encoded) (r : Role) (v : ℕ) (ps : List Piece) → Rights any_role ps → Member (patchable e r v) ps → Fit e v
unfolding Rights Right
piece-fits e r v [] h m = absurd (nothing-in (patchable e r v) m)
piece-fits e r v (p ∷ ps) h (here q) = (subst (Right any_role) (sym q) h.0).0
piece-fits e r v (p ∷ ps) h (there m) = piece-fits e r v ps h.1 m

read-rights : (r : Read) (rs : List Read) → AllRights any_role rs → Member r rs → Rights any_role r.pieces
unfolding AllRights
read-rights r [] h m = absurd (nothing-in r m)
read-rights r (q ∷ rs) h (here e) = subst (λ (z : Read). Rights any_role z.pieces) (sym e) h.0
read-rights r (q ∷ rs) h (there m) = read-rights r rs h.1 m

module _ (x : Sections) (u : Unit') (b : T (are_bytes u.bytes)) where
  reads-or : (s : List ℕ) (o : Option RunOf) → All (RunExact u.header.encoding.big_endian any_role s) o → AllRights any_role (reads_or x u o)
  unfolding reads_or All AllRights
  reads-or s None h = tt
  reads-or s (Some r) h = h.1

  reads-right : (at : ℕ) → AllRights any_role (reads_at x u at)
  unfolding reads_at
  reads-right at =
      reads-or (drop at u.bytes) _
      (read-exact u.header.encoding.big_endian any_role (expression_in u.header.encoding) (expression-any u.header.encoding)
      (entry_layout u.header.encoding x.abbreviations (declared_in u.declared)) (layout-any (entry_layout u.header.encoding x.abbreviations (declared_in u.declared)))
      (drop at u.bytes) (are-drop at u.bytes b))

  index-small : (k v : ℕ) (kept : List NestedItem) → IndexKept x u k v kept → v < 2 ^ 64
  index-small k v kept i =
      fit_small i.operand.operand.encoded v
      (piece-fits i.operand.operand.encoded (index k) v i.operand.read.pieces
      (read-rights i.operand.read _ (reads-right (offset_of i.standing.item)) i.operand.among) i.operand.operand.within)

-- ---- what an answer has room for

first_fits : (a b c : Bool) → T (a and b and c) → T a × T b × T c
unfolding ◌and◌
first_fits true true c h = (tt, tt, h)
first_fits true false c h = absurd h
first_fits false b c h = absurd h

all_fit : (a b c : Bool) → T a → T b → T c → T (a and b and c)
unfolding ◌and◌
all_fit true true c p q r = r
all_fit true false c p q r = absurd q
all_fit false b c p q r = absurd p

-- room for the list of a kind
unfoldable pub room_at : Room → ℕ → ℕ
room_at room k = pick (eqb k 0) room.ranges (pick (eqb k 1) room.locations room.strings)

by_kind : (room : Room) (l : Lists) (b c : Bool) → count_of l.ranges ≤ room.ranges → count_of l.locations ≤ room.locations → count_of l.strings ≤ room.strings
    → count_of (pick b l.ranges (pick c l.locations l.strings)) ≤ pick b room.ranges (pick c room.locations room.strings)
unfolding pick
by_kind room l true c p q r = p
by_kind room l false true p q r = q
by_kind room l false false p q r = r

lists-fit : (room : Room) (l : Lists) → T (lists_fit room l) → (k : ℕ) → count_of (list_at l k) ≤ room_at room k
unfolding lists_fit list_at room_at
lists-fit room l t k =
    let f : T (leb (count_of l.ranges) room.ranges) × T (leb (count_of l.locations) room.locations) × T (leb (count_of l.strings) room.strings) =
    first_fits (leb (count_of l.ranges) room.ranges) (leb (count_of l.locations) room.locations) (leb (count_of l.strings) room.strings) t in
    by_kind room l (eqb k 0) (eqb k 1) (leb_yes {a = count_of l.ranges} {b = room.ranges} f.0) (leb_yes {a = count_of l.locations} {b = room.locations} f.1)
    (leb_yes {a = count_of l.strings} {b = room.strings} f.2)

module _ (x : Sections) (room : Room) (type_units : Bool) (section : List ℕ) where
  unfoldable Roomed : Collected → Type 0
  Roomed (untouched n l) = T (lists_fit room l) × (n ≡ 0 → l ≡ no_lists)
  Roomed (rewritten w) = T (lists_fit room w.lists)
  Roomed (refused n) = Unit {0}

  none-fit : T (lists_fit room no_lists)
  unfolding lists_fit count_of
  none-fit =
      all_fit (leb 0 room.ranges) (leb 0 room.locations) (leb 0 room.strings)
      (yes_leb {a = 0} {b = room.ranges} (omega arith)) (yes_leb {a = 0} {b = room.locations} (omega arith)) (yes_leb {a = 0} {b = room.strings} (omega arith))

  or-roomed : (n : ℕ) (w : Rewrite) → T (lists_fit room w.lists) → Roomed (or_refused x room n (rewritten w))
  unfolding or_refused Roomed
  or-roomed n w t = pick-either Roomed (eqb n 0) (rewritten w) (refused n) (λ _. t) (λ _. tt)

  rewrite-roomed : (u : Unit') (entries count : ℕ) (l : Lists) (items : List NestedItem) → T (lists_fit room l) → Roomed (rewrite_of x room u entries count l items)
  unfolding rewrite_of Roomed
  rewrite-roomed u entries count l items t =
      pick-either Roomed (leb (length items) room.places) _ (refused 13)
      (λ _. pick-either Roomed (leb (u.header.first.0 + size_from items) room.bytes) _ (refused 14) (λ _. or-roomed _ _ t) (λ _. tt))
      (λ _. tt)

  marks-roomed : (u : Unit') (marks : List ℕ) (items : List NestedItem) → 0 < length marks → Roomed (marks_collected x room type_units u marks items)
  unfolding marks_collected Roomed
  marks-roomed u marks items m =
      pick-either Roomed (lists_fit room (lists_of x u type_units items)) _ (refused 12)
      (λ t. pick-either Roomed (eqb (kept_count marks) (length marks)) (untouched (length marks) (lists_of x u type_units items)) _
      (λ _. (t, λ z. absurd (omega arith)))
      (λ _. rewrite-roomed u (length marks) (kept_count marks) (lists_of x u type_units items) items t))
      (λ _. tt)

  rows-roomed : (u : Unit') (rows : List EntryRow) → Roomed (rows_collected x room type_units u rows)
  unfolding rows_collected Roomed
  rows-roomed u [] = (none-fit, λ _. refl)
  rows-roomed u (r ∷ rows) = marks-roomed u (marks_in (r ∷ rows)) _ (omega (arith, marks-each (r ∷ rows)))

  analysed-roomed : (u : Unit') (o : Analysed) → Roomed (analysed_collected x room type_units u o)
  unfolding analysed_collected Roomed
  analysed-roomed u (analysed rows) = rows-roomed u rows
  analysed-roomed u (not_analysed n) = tt

  declared-roomed : (h : UnitHeader) (o : Option (List Placed)) → Roomed (declared_collected x room type_units section h o)
  unfolding declared_collected Roomed
  declared-roomed h None = tt
  declared-roomed h (Some ds) = analysed-roomed _ (analysis_of x section room.tables)

  header-roomed : (o : Result (Option UnitHeader) ℕ) → Roomed (header_collected x room type_units section o)
  unfolding header_collected Roomed
  header-roomed (Ok None) = (none-fit, λ _. refl)
  header-roomed (Err n) = tt
  header-roomed (Ok (Some h)) = declared-roomed h (abbreviations_of x.abbreviations h.abbreviations)

  roomed : Roomed (collect_of x room type_units section)
  unfolding collect_of
  roomed = header-roomed (header_by x section)

  rewritten-fit : (w : Rewrite) → collect_of x room type_units section ≡ rewritten w → T (lists_fit room w.lists)
  unfolding Roomed
  rewritten-fit w q = subst Roomed q roomed

  untouched-fit : (n : ℕ) (l : Lists) → collect_of x room type_units section ≡ untouched n l → T (lists_fit room l) × (n ≡ 0 → l ≡ no_lists)
  unfolding Roomed
  untouched-fit n l q = subst Roomed q roomed

  -- the answer, by what is kept
  rows_are : (u : Unit') (rows : List EntryRow) → 0 < length rows → rows_collected x room type_units u rows ≡ marks_collected x room type_units u (marks_in rows) (survivors_in x u rows)
  unfolding rows_collected
  rows_are u [] h = absurd (omega arith)
  rows_are u (r ∷ rows) h = refl

  collect-is : (h : UnitHeader) (ds : List Placed) (rows : List EntryRow) → Accepted x room section h ds rows → 0 < length rows
      → collect_of x room type_units section ≡ marks_collected x room type_units (unit_of h section ds) (marks_in rows) (survivors_in x (unit_of h section ds) rows)
  unfolding collect_of header_collected declared_collected analysed_collected
  collect-is h ds rows a n =
      ap (header_collected x room type_units section) (analysed-listed x section room.tables rows a.analysis ∙ a.header)
      ∙ ap (declared_collected x room type_units section h) a.declared
      ∙ ap (analysed_collected x room type_units (unit_of h section ds)) a.analysis
      ∙ rows_are (unit_of h section ds) rows n

  module _ (w : Rewrite) where
    abbrev HasRoom : Unit' → List NestedItem → Type 0
    HasRoom u items = (length items ≤ room.places) × (u.header.first.0 + size_from items ≤ room.bytes)

    rewrite-held : (u : Unit') (entries count : ℕ) (l : Lists) (items : List NestedItem) → rewrite_of x room u entries count l items ≡ rewritten w → HasRoom u items
    unfolding rewrite_of
    rewrite-held u entries count l items =
        pick-either (λ (c : Collected). c ≡ rewritten w → HasRoom u items) (leb (length items) room.places) _ (refused 13)
        (λ t. pick-either (λ (c : Collected). c ≡ rewritten w → HasRoom u items) (leb (u.header.first.0 + size_from items) room.bytes) _ (refused 14)
        (λ t' _. (leb_yes {a = length items} {b = room.places} t, leb_yes {a = u.header.first.0 + size_from items} {b = room.bytes} t'))
        (λ _ q. let z : ◌≡◌ {A = ℕ} 0 1 = cc in absurd (omega arith)))
        (λ _ q. let z : ◌≡◌ {A = ℕ} 0 1 = cc in absurd (omega arith))

    marks-held : (u : Unit') (marks : List ℕ) (items : List NestedItem) → marks_collected x room type_units u marks items ≡ rewritten w → HasRoom u items
    unfolding marks_collected
    marks-held u marks items =
        pick-either (λ (c : Collected). c ≡ rewritten w → HasRoom u items) (lists_fit room (lists_of x u type_units items)) _ (refused 12)
        (λ _. pick-either (λ (c : Collected). c ≡ rewritten w → HasRoom u items) (eqb (kept_count marks) (length marks)) (untouched (length marks) (lists_of x u type_units items)) _
        (λ _ q. let z : ◌≡◌ {A = ℕ} 0 1 = cc in absurd (omega arith))
        (λ _. rewrite-held u (length marks) (kept_count marks) (lists_of x u type_units items) items))
        (λ _ q. let z : ◌≡◌ {A = ℕ} 0 1 = cc in absurd (omega arith))

-- ---- a rewritten unit

module _ (x : Sections) (room : Room) (type_units : Bool) (section : List ℕ) (w : Rewrite) (answer : collect_of x room type_units section ≡ rewritten w) where
  abbrev o : WasRewritten x room type_units section w
  o = it x room type_units section w answer

  abbrev u : Unit'
  u = unit x room type_units section w answer

  abbrev n : ℕ
  n = start x room type_units section w answer

  abbrev ks : List NestedItem
  ks = kept x room type_units section w answer

  fitting : (length ks ≤ room.places) × (n + size_from ks ≤ room.bytes)
  fitting =
      let l : 0 < length o.rows = omega (arith, o.dead, marks-each o.rows) in
      marks-held x room type_units section w u (marks_in o.rows) ks (sym (collect-is x room type_units section o.header o.declared o.rows o.accepted l) ∙ answer)

  header_is : HeaderLaw x.setting.big_endian u.bytes o.header
  header_is = accepted-header x room section o.header o.declared o.rows o.accepted

  kept-below : (s : NestedItem) → Member s ks → (offset_of s.item < length u.bytes) × (s.depth ≤ offset_of s.item) × (0 < size_of s.item)
  unfolding items_in
  kept-below s m =
      let i = items-inside o.header.encoding x.abbreviations (declared_in o.declared) u.bytes n s.item (kept-member (marks_in o.rows) 0 [] (items_in x u) s m) in
      let a : offset_of s.item + size_of s.item ≤ length u.bytes = i.within in
      let b : 0 < size_of s.item = i.sized in (
        let z : offset_of s.item < length u.bytes = omega arith in z,
        depth_below (marks_in o.rows) 0 0 [] (items_in x u) (items-ascending o.header.encoding x.abbreviations (declared_in o.declared) u.bytes n) (omega arith) s m,
        b,
      )

  places-small : (p : Place) → Member p w.map → (p.old < 2 ^ 64) × (p.new < 2 ^ 64) × (p.depth < 2 ^ 64)
  places-small p m =
      let r : (p.old < length u.bytes) × (p.depth ≤ p.old) × (p.new < n + size_from ks) = place-below (length u.bytes) n ks kept-below p (subst (Member p) o.map_is m) in
      let r0 : p.old < length u.bytes = r.0 in
      let r1 : p.depth ≤ p.old = r.1 in
      let r2 : p.new < n + size_from ks = r.2 in
      let z : length u.bytes < 2 ^ 64 = header_is.below in
      let y : length w.output ≡ n + size_from ks = (again-law x room type_units section w answer).size in
      let v : length w.output ≤ length u.bytes = omega (arith, bytes-law x room type_units section w answer) in
      (omega arith, omega arith, omega arith)

  -- the map, of a slice of so many bytes
  pub map-bytes-law : (size : ℕ) → room.places ≡ size / place_size → MapReads size w.map (map_for size (rewritten w))
  unfolding map_for
  map-bytes-law size r =
      map-reads size w.map (omega (arith, fitting.0, ap length o.map_is ∙ places-length n ks)) (map-law x room type_units section w answer).olds places-small

  -- the output
  pub output-bytes-law : OutputReads room.bytes w.output (output_for room.bytes (rewritten w))
  unfolding output_for
  output-bytes-law =
      record {
        sized = padded-size room.bytes w.output (length w.output) refl (omega (arith, fitting.1, (again-law x room type_units section w answer).size));
        starts = padded-take room.bytes w.output (length w.output) refl;
        after = padded-after room.bytes w.output (length w.output) refl;
      }

  -- the list of a kind: ranges 0, locations 1, strings 2
  pub list-bytes-law : T (are_bytes section) → (k size : ℕ) → k < 3 → room_at room k ≡ size / number_size → PresentReads size (list_at w.lists k) (list_for (λ (l : Lists). list_at l k) size (rewritten w))
  unfolding list_for
  list-bytes-law b k size h r =
      present-reads size (list_at w.lists k) (omega (arith, lists-fit room w.lists (rewritten-fit x room type_units section w answer) k))
      (λ xs q v m. index-small x u (are-take o.header.end section b) k v ks (((list_law x room type_units section w answer k h xs q).members v).0 m))

-- ---- an untouched unit

none-listed : (b c : Bool) (xs : List ℕ) → pick b None (pick c None None) ≡ Some xs → ⊥
unfolding pick
none-listed true c xs h = let z : ◌≡◌ {A = ℕ} 0 1 = cc in absurd (omega arith)
none-listed false true xs h = let z : ◌≡◌ {A = ℕ} 0 1 = cc in absurd (omega arith)
none-listed false false xs h = let z : ◌≡◌ {A = ℕ} 0 1 = cc in absurd (omega arith)

module _ (x : Sections) (room : Room) (type_units : Bool) (section : List ℕ) (l : Lists) where
  -- map and output are zeros
  pub untouched-map-law : (n size : ℕ) → map_for size (untouched n l) ≡ zeros size
  unfolding map_for
  untouched-map-law n size = refl

  pub untouched-output-law : (n size : ℕ) → output_for size (untouched n l) ≡ zeros size
  unfolding output_for
  untouched-output-law n size = refl

  none-there : (k : ℕ) (xs : List ℕ) → l ≡ no_lists → list_at l k ≡ Some xs → ⊥
  unfolding list_at
  none-there k xs e q = none-listed (eqb k 0) (eqb k 1) xs (sym (ap (λ (z : Lists). list_at z k) e) ∙ q)

  untouched-small : (n : ℕ) → collect_of x room type_units section ≡ untouched n l → T (are_bytes section) → (k : ℕ) → k < 3 → (xs : List ℕ) → list_at l k ≡ Some xs
      → (v : ℕ) → Member v xs → v < 2 ^ 64
  untouched-small zero answer b k h xs q v m = absurd (none-there k xs ((untouched-fit x room type_units section zero l answer).1 refl) q)
  untouched-small (suc n) answer b k h xs q v m =
      let z : 0 < suc n = omega arith in
      let o = whole x room type_units section (suc n) l answer z in
      index-small x (unit_of o.header section o.declared) (are-take o.header.end section b) k v _ (((whole-list-law x room type_units section (suc n) l answer z k h xs q).members v).0 m)

  pub untouched-list-law : (n : ℕ) → collect_of x room type_units section ≡ untouched n l → T (are_bytes section) → (k size : ℕ) → k < 3 → room_at room k ≡ size / number_size
      → PresentReads size (list_at l k) (list_for (λ (z : Lists). list_at z k) size (untouched n l))
  unfolding list_for
  untouched-list-law n answer b k size h r =
      present-reads size (list_at l k) (omega (arith, lists-fit room l (untouched-fit x room type_units section n l answer).0 k)) (λ xs q. untouched-small n answer b k h xs q)

-- ---- every answer, by the lengths of the slices

module _ (x : Sections) (tables : Rooms) (type_units : Bool) (section : List ℕ) (b : T (are_bytes section)) (map ranges locations strings out : ℕ) where
  abbrev lent : Room
  lent = room_by tables map ranges locations strings out

  rewritten-reads : (w : Rewrite) → collect_of x lent type_units section ≡ rewritten w → RewrittenReads map ranges locations strings out w
  unfolding list_at room_at pick
  rewritten-reads w q =
      record {
        map_read = map-bytes-law x lent type_units section w q map refl;
        ranges_read = list-bytes-law x lent type_units section w q b 0 ranges (omega arith) refl;
        locations_read = list-bytes-law x lent type_units section w q b 1 locations (omega arith) refl;
        strings_read = list-bytes-law x lent type_units section w q b 2 strings (omega arith) refl;
        output_read = output-bytes-law x lent type_units section w q;
      }

  untouched-reads : (n : ℕ) (l : Lists) → collect_of x lent type_units section ≡ untouched n l → UntouchedReads map ranges locations strings out n l
  unfolding list_at room_at pick
  untouched-reads n l q =
      record {
        map_read = untouched-map-law x lent type_units section l n map;
        ranges_read = untouched-list-law x lent type_units section l n q b 0 ranges (omega arith) refl;
        locations_read = untouched-list-law x lent type_units section l n q b 1 locations (omega arith) refl;
        strings_read = untouched-list-law x lent type_units section l n q b 2 strings (omega arith) refl;
        output_read = untouched-output-law x lent type_units section l n out;
      }

  refused-reads : (n : ℕ) → RefusedReads map ranges locations strings out n
  unfolding map_for output_for list_for
  refused-reads n = record { map_read = refl; ranges_read = refl; locations_read = refl; strings_read = refl; output_read = refl }

  by_answer : (c : Collected) → collect_of x lent type_units section ≡ c → AnswerReads map ranges locations strings out c
  unfolding AnswerReads
  by_answer (rewritten w) q = rewritten-reads w q
  by_answer (untouched n l) q = untouched-reads n l q
  by_answer (refused n) q = refused-reads n

  -- "Output, map and index lists hold the answer, and zeros everywhere else, for every input": as a host reads them
  pub host-law : AnswerReads map ranges locations strings out (collect_of x (room_by tables map ranges locations strings out) type_units section)
  host-law = by_answer (collect_of x lent type_units section) refl
