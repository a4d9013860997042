-- Map and output of a unit where something is dead: no room, a refusal, or both written. Assumes nothing.
use mathlib.Core.Path.{◌≡◌, refl, ap, ap₂, sym, ◌∙◌, subst}
use Prim.Native.Nat.{ℕ, ◌+◌, ◌-◌, ◌*◌, ◌/◌, ◌^◌, ◌≤◌, ◌<◌}
use native.Mathlib.Omega.{arith}
use mathlib.Core.Bool.{true}
use mathlib.Core.List.{List, [], ◌∷◌, ◌++◌, append_assoc}
use Rattle.std.specs.Prelude.{None, Option, Some, Err, Ok, Result}
use mathlib.Core.Logic.{⊎_elim}
use lib.ListN.{length, take, drop, length-append}
use lib.Seq.{take_at, drop-append-add}
use lib.Dec.{eqb, leb}
use mir.Facts.{eqb_yes, eqb_no}
use borrow.Author.Tests.{le-leb, lt-leb, eq-eqb, ne_eqb}
use Rattle.readers.specs.Choice.{pick, zeros, put}
use Rattle.readers.proofs.Choice.{either}
use Rattle.readers.specs.Layout.{Read, write_all, Patch, patch_all}
use Rattle.readers.specs.Expression.{expression_in}
use Rattle.readers.proofs.Expression.{expression-law}
use Rattle.readers.specs.Abbreviations.{declared_in}
use Rattle.readers.specs.Stream.{Item}
use Rattle.readers.specs.declared.cursor.Encoding.{Encoding}
use Rattle.marking.specs.Analysis.{Sections}
use Rattle.marking.specs.Columns.{pad_to}
use Rattle.rewriting.specs.Places.{NestedItem, kept_from, offset_of, size_of, Place, places_from, size_from}
use Rattle.rewriting.specs.Rewriting.{Unit as Unit', Lists, Room, Collected, rewritten, refused, items_in, reads_or, reads_at, new_value, refusal_from, bytes_from, unit_bytes, or_refused, rewrite_of}
use Rattle.rewriting.specs.Inner.NextKept.{items_by}
use Rattle.rewriting.specs.Written.{number_size, place_size, run_bytes, columns, map_bytes}
use Rattle.rewriting.specs.Inner.Written.{MapHeld}
use Rattle.rewriting.specs.Inner.Bounds.{Bounds}
use Rattle.rewriting.specs.Inner.IndexLists.{ReadDeep, AllRead, PassInput}
use Rattle.rewriting.specs.Inner.Measures.{Measures}
use Rattle.rewriting.specs.Inner.MapFilled.{Fills}
use Rattle.readers.specs.Header.{length_bytes}
use Rattle.rewriting.specs.Emission.{header_bytes, header_fits}
use Rattle.rewriting.specs.Inner.Emission.{Lent, ListsLent}
use Rattle.rewriting.specs.Outputs.{Answer, list_count, answer_for, map_for, output_for}
use Rattle.rewriting.specs.Inner.Leaving.{Accepts, Writable, WriteAnswer}
use Rattle.rewriting.specs.declared.kept_items.Reading.{Reading}
use Rattle.rewriting.specs.declared.offset_pass.Size.{Size}
use Rattle.rewriting.specs.declared.collect.Collected.TheVariants.{Rewritten}
use Rattle.rewriting.proofs.WritePass.Emissions.{EmitsAt}
use Rattle.rewriting.proofs.KeptPass.DeepReads.{like-width, like-patched, deep-ends}
use Rattle.rewriting.proofs.KeptPass.ItemDepths.{Every, every-kept, Stands, items-stand, StandsThere, deep_at, size-of}
use Rattle.rewriting.proofs.WritePass.HeaderEmits.{length-wide, length-header, header-fits}
use Rattle.rewriting.proofs.WritePass.Putting.{drop-zeros}
use Rattle.rewriting.proofs.ListPass.Tables.{length_run}
use Rattle.rewriting.proofs.MapPass.Places.{length-columns}
use Rattle.rewriting.proofs.MapPass.MapFills.{length-places}
use Rattle.rewriting.proofs.KeptPass.UnitKept.{map-held}
use Rattle.rewriting.proofs.ListPass.Listings.{items-here}
use Rattle.rewriting.proofs.Whole.UnitAnswers.{pick_is, pick-else}

-- ---- widths: what is written anew is as wide as it was, whether its values fit or not

module _ (x : Sections) (u : Unit') (lists : Lists) (places : List Place) where
  abbrev e : Encoding
  e = u.header.encoding

  reads_of : (at : ℕ) (d : ReadDeep x u at) → reads_at x u at ≡ d.run.0
  unfolding reads_at reads_or
  reads_of at d = ap (reads_or x u) d.is

  item-width : (s : NestedItem) → StandsThere x u s → ReadDeep x u (offset_of s.item)
      → length (write_all e.big_endian (patch_all (new_value lists places s.depth) (reads_at x u (offset_of s.item)))) ≡ size_of s.item
  item-width s t d =
      let at : ℕ = offset_of s.item in
      let rs : List Read = reads_at x u at in
      let f : Patch = new_value lists places s.depth in
      let q : deep_at x u at ≡ Some (rs, d.run.1) = d.is ∙ ap (λ (ys : List Read). Some (ys, d.run.1)) (sym (reads_of at d)) in
      like-width e.big_endian (patch_all f rs) rs (like-patched e.big_endian f rs)
      ∙ size-of e x.abbreviations (declared_in u.declared) u.bytes s.item _ t
      (deep-ends e x.abbreviations (declared_in u.declared) (expression_in e) (expression-law e) u.bytes at rs d.run.1 q)

  pub all-width : (kept : List NestedItem) → Every (StandsThere x u) kept → AllRead x u kept → length (bytes_from x u lists places kept) ≡ size_from kept
  unfolding Every AllRead bytes_from size_from
  all-width [] h d = refl
  all-width (s ∷ kept) h d =
      length-append (write_all e.big_endian (patch_all (new_value lists places s.depth) (reads_at x u (offset_of s.item)))) (bytes_from x u lists places kept)
      ∙ ap₂ ◌+◌ (item-width s h.0 d.0) (all-width kept h.1 d.1)

-- ---- the output, put together

pub out-is : (front body out out₁ out₂ : List ℕ) (first : ℕ) → length front ≡ first → out ≡ zeros (length out) → out₁ ≡ put out 0 front → out₂ ≡ put out₁ first body
    → out₂ ≡ pad_to (length out) (front ++ body)
unfolding put pad_to
out-is front body out out₁ out₂ first l z p q =
    let n : ℕ = length out in
    let o₁ : out₁ ≡ front ++ zeros (n - first) =
    p ∙ ap (λ (v : List ℕ). front ++ drop (0 + length front) v) z
    ∙ ap (λ (v : List ℕ). front ++ v) (drop-zeros n (0 + length front))
    ∙ ap (λ (k : ℕ). front ++ zeros k) (let w : n - (0 + length front) ≡ n - first = omega arith in w) in
    let rest : List ℕ = zeros (n - first) in
    q
    ∙ ap (λ (v : List ℕ). take first v ++ (body ++ drop (first + length body) v)) o₁
    ∙ ap (λ (v : List ℕ). v ++ (body ++ drop (first + length body) (front ++ rest))) (take_at front rest first l)
    ∙ ap (λ (k : ℕ). front ++ (body ++ drop (k + length body) (front ++ rest))) (sym l)
    ∙ ap (λ (v : List ℕ). front ++ (body ++ v)) (drop-append-add front rest (length body) ∙ drop-zeros (n - first) (length body))
    ∙ ap (λ (k : ℕ). front ++ (body ++ zeros k)) (let w : n - first - length body ≡ n - length (front ++ body) = omega (arith, length-append front body) in w)
    ∙ sym (append_assoc front body (zeros (n - length (front ++ body))))

-- ---- lists as they are lent, and a refusal

lent-count : (o : Option (List ℕ)) (list : List ℕ) (c : Option ℕ) → Lent o list c → c ≡ list_count o
unfolding Lent list_count
lent-count None list None h = refl
lent-count None list (Some n) h = absurd h
lent-count (Some xs) list None h = absurd h
lent-count (Some xs) list (Some n) h = ap (λ (k : ℕ). Some k) h.1

write-refused : (c : Collected) (k map out : ℕ) (map' out' : List ℕ) → c ≡ refused k → WriteAnswer c (Err k) map out map' out'
unfolding answer_for Accepts
write-refused c k map out map' out' h =
    record { told = sym (ap answer_for h); map_left = λ a. absurd (subst Accepts h a); out_left = λ a. absurd (subst Accepts h a) }

-- ---- the cases of the answer

module _ (x : Sections) (u : Unit') (lists : Lists) (room : Room) (entries kept : ℕ) (items : List NestedItem) where
  abbrev with' : ℕ → Collected
  with' f = rewritten (record { entries = entries; kept = kept; lists = lists; map = places_from f items; output = unit_bytes x u lists (places_from f items) items })

  abbrev answer : Collected
  answer = rewrite_of x room u entries kept lists items

  module _ (first : ℕ) (h : first ≡ u.header.first.0) where
    by_first : answer ≡ pick (leb (length items) room.places)
        (pick (leb (first + size_from items) room.bytes) (or_refused x room (refusal_from x u lists (places_from first items) items) (with' first)) (refused 14)) (refused 13)
    unfolding rewrite_of
    by_first = ap (λ (f : ℕ). pick (leb (length items) room.places)
        (pick (leb (f + size_from items) room.bytes) (or_refused x room (refusal_from x u lists (places_from f items) items) (with' f)) (refused 14)) (refused 13)) (sym h)

    case-map : room.places < length items → answer ≡ refused 13
    case-map l = by_first ∙ pick-else _ _ _ (lt-leb (length items) room.places l)

    case-out : length items ≤ room.places → room.bytes < first + size_from items → answer ≡ refused 14
    case-out l m = by_first ∙ pick_is _ _ _ (le-leb (length items) room.places l) ∙ pick-else _ _ _ (lt-leb (first + size_from items) room.bytes m)

    case-no : length items ≤ room.places → first + size_from items ≤ room.bytes → (refusal_from x u lists (places_from first items) items ≡ 0 → ⊥)
        → answer ≡ refused (refusal_from x u lists (places_from first items) items)
    unfolding or_refused
    case-no l m n = by_first ∙ pick_is _ _ _ (le-leb (length items) room.places l) ∙ pick_is _ _ _ (le-leb (first + size_from items) room.bytes m) ∙ pick-else _ _ _ (ne_eqb _ 0 n)

    case-yes : length items ≤ room.places → first + size_from items ≤ room.bytes → refusal_from x u lists (places_from first items) items ≡ 0 → answer ≡ with' first
    unfolding or_refused
    case-yes l m n = by_first ∙ pick_is _ _ _ (le-leb (length items) room.places l) ∙ pick_is _ _ _ (le-leb (first + size_from items) room.bytes m) ∙ pick_is _ _ _ (eq-eqb _ 0 n)

-- ---- the returns

module _ (r : Reading) (s table unit parents ends marks : List ℕ) (first entries kept : ℕ) (rl : List ℕ) (rc : Option ℕ) (ll : List ℕ) (lc : Option ℕ) (sl : List ℕ) (sc : Option ℕ) (map out : List ℕ)
    (z : Size) (m : Measures (items_by r s table unit) unit parents ends marks first z) (map' : List ℕ) (fills : Fills (items_by r s table unit) unit parents ends marks first map map') (as_long : length map' ≡ length map) where
  abbrev Goal : Answer → List ℕ → Type 0
  Goal a out' = (x : Sections) (u : Unit') (lists : Lists) (room : Room) → PassInput x u r s table unit parents ends marks first → ListsLent lists rl rc ll lc sl sc → Writable u room unit first map out
      → WriteAnswer (rewrite_of x room u entries kept lists (kept_from marks 0 [] (items_in x u))) a (length map) (length out) map' out'

  abbrev items : List NestedItem
  items = kept_from marks 0 [] (items_by r s table unit first)

  module _ (x : Sections) (u : Unit') (lists : Lists) (room : Room) (p : PassInput x u r s table unit parents ends marks first) (l : ListsLent lists rl rc ll lc sl sc) (w : Writable u room unit first map out) where
    places_are : z.places ≡ length items
    places_are = (m.found (p.holds, p.ends_hold)).0

    bytes_are : z.bytes ≡ first + size_from items
    bytes_are = (m.found (p.holds, p.ends_hold)).1

    -- of the unit's own items
    by-items : (a : Answer) (out' : List ℕ) → WriteAnswer (rewrite_of x room u entries kept lists items) a (length map) (length out) map' out'
        → WriteAnswer (rewrite_of x room u entries kept lists (kept_from marks 0 [] (items_in x u))) a (length map) (length out) map' out'
    by-items a out' h =
        subst (λ (is : List Item). WriteAnswer (rewrite_of x room u entries kept lists (kept_from marks 0 [] is)) a (length map) (length out) map' out')
        (items-here true r s table unit parents ends marks first x u p w.first_is) h

    no-map : length map' / place_size < z.places → WriteAnswer (rewrite_of x room u entries kept lists items) (Err 13) (length map) (length out) map' out
    no-map k =
        write-refused _ 13 (length map) (length out) map' out
        (case-map x u lists room entries kept items first w.first_is (let q : room.places < length items = omega (arith, w.places_are, places_are, as_long) in q))

    no-out : z.places ≤ length map' / place_size → length out < z.bytes → WriteAnswer (rewrite_of x room u entries kept lists items) (Err 14) (length map) (length out) map' out
    no-out k b =
        write-refused _ 14 (length map) (length out) map' out
        (case-out x u lists room entries kept items first w.first_is (let q : length items ≤ room.places = omega (arith, w.places_are, places_are, as_long) in q)
        (let q : room.bytes < first + size_from items = omega (arith, w.bytes_are, bytes_are) in q))

    module _ (few : z.places ≤ length map' / place_size) (less : z.bytes ≤ length out) (out₁ out₂ : List ℕ)
        (bounds : List ℕ) (bounded : (ps : List Place) → MapHeld ps map' → z.places ≡ length ps → Bounds ps bounds)
        (same : length out₁ ≡ length out)
        (at : ℕ) (headed : header_fits r.encoding unit first z.bytes out ≡ true → (at ≡ first) × (out₁ ≡ put out 0 (header_bytes r.encoding unit first z.bytes)))
        (emitted : Result ℕ ℕ)
        (emits : (x : Sections) (u : Unit') (lists : Lists) (ps : List Place) → PassInput x u r s table unit parents ends marks first → first ≡ u.header.first.0
        → MapHeld ps map' → z.places ≡ length ps → Bounds ps bounds → ListsLent lists rl rc ll lc sl sc
        → EmitsAt (refusal_from x u lists ps (kept_from marks 0 [] (items_in x u))) (bytes_from x u lists ps (kept_from marks 0 [] (items_in x u))) out₁ at emitted out₂) where
      abbrev ps : List Place
      ps = places_from first items

      abbrev body : List ℕ
      body = bytes_from x u lists ps items

      abbrev front : List ℕ
      front = header_bytes r.encoding unit first z.bytes

      room-map : place_size * length items ≤ length map
      room-map = omega (arith, places_are, as_long)

      held : MapHeld ps map'
      held = map-held r s table unit parents ends marks first map map' fills (p.holds, p.ends_hold) room-map w.map_blank

      places : z.places ≡ length ps
      places = places_are ∙ sym (length-places first items)

      abbrev width : ℕ
      width = r.encoding.offset_size

      same_width : u.header.encoding.offset_size ≡ width
      same_width = ap (λ (y : Encoding). y.offset_size) p.read.encoding_is

      narrow : width ≤ length_bytes width
      narrow = subst (λ (n : ℕ). n ≤ length_bytes n) same_width (length-wide u.header.encoding.offset_size w.wide)

      behind : length_bytes width ≤ first
      behind = let a : length_bytes width + 7 ≤ first = subst (λ (n : ℕ). length_bytes n + 7 ≤ first) same_width w.after in omega arith

      fits : header_fits r.encoding unit first z.bytes out ≡ true
      fits =
          let a : first + z.places ≤ z.bytes = m.room in
          let b : z.bytes ≤ length unit = m.inside w.inside in
          let c : length unit < length_bytes width + 256 ^ width = subst (λ (n : ℕ). length unit < length_bytes n + 256 ^ n) same_width w.short in
          let d : length_bytes width ≤ first = behind in
          header-fits r.encoding unit first z.bytes out behind w.inside (omega arith) (omega arith) narrow (omega arith)

      header-there : (at ≡ first) × (out₁ ≡ put out 0 front)
      header-there = headed fits

      it : EmitsAt (refusal_from x u lists ps items) body out₁ first emitted out₂
      it =
          subst (λ (is : List Item). EmitsAt (refusal_from x u lists ps (kept_from marks 0 [] is)) (bytes_from x u lists ps (kept_from marks 0 [] is)) out₁ first emitted out₂)
          (sym (items-here true r s table unit parents ends marks first x u p w.first_is))
          (subst (λ (n : ℕ). EmitsAt (refusal_from x u lists ps (kept_from marks 0 [] (items_in x u))) (bytes_from x u lists ps (kept_from marks 0 [] (items_in x u))) out₁ n emitted out₂) header-there.0
          (emits x u lists ps p w.first_is held places (bounded ps held places) l))

      stand : Every (StandsThere x u) items
      unfolding items_in
      stand =
          subst (λ (is : List Item). Every (StandsThere x u) (kept_from marks 0 [] is)) (sym (items-here true r s table unit parents ends marks first x u p w.first_is))
          (every-kept (Stands u.header.encoding x.abbreviations (declared_in u.declared) u.bytes) marks 0 [] (items_in x u)
          (items-stand u.header.encoding x.abbreviations (declared_in u.declared) u.bytes u.header.first.0))

      wide : length body ≡ size_from items
      wide = all-width x u lists ps items stand p.deep

      room_out : first + length body ≤ length out₁
      room_out = omega (arith, wide, bytes_are, same)

      enough : length items ≤ room.places
      enough = omega (arith, w.places_are, places_are, as_long)

      enough-bytes : first + size_from items ≤ room.bytes
      enough-bytes = omega (arith, w.bytes_are, bytes_are)

      -- refused
      not_written : (k : ℕ) → emitted ≡ Err k → WriteAnswer (rewrite_of x room u entries kept lists items) (Err k) (length map) (length out) map' out₂
      not_written k q =
          ⊎_elim
          (λ t. let y : Err k ≡ Ok (first + length body) = sym q ∙ (it.fine room_out (eqb_yes {a = refusal_from x u lists ps items} {b = 0} t)).0 in
          let v : ◌≡◌ {A = ℕ} 0 1 = cc in absurd (omega arith))
          (λ t.
          let n : refusal_from x u lists ps items ≡ 0 → ⊥ = eqb_no {a = refusal_from x u lists ps items} {b = 0} t in
          let y : Err k ≡ Err (refusal_from x u lists ps items) = sym q ∙ it.no room_out n in
          let v : k ≡ refusal_from x u lists ps items = cc in
          write-refused _ k (length map) (length out) map' out₂
          (case-no x u lists room entries kept items first w.first_is enough enough-bytes n ∙ ap (λ (j : ℕ). refused j) (sym v)))
          (either (eqb (refusal_from x u lists ps items) 0))

      -- written
      length_front : length front ≡ first
      length_front = length-header r.encoding unit first z.bytes behind w.inside narrow

      unit-bytes-are : unit_bytes x u lists ps items ≡ front ++ body
      unfolding unit_bytes header_bytes
      unit-bytes-are =
          ap (λ (y : Encoding). header_bytes y u.bytes u.header.first.0 (u.header.first.0 + size_from items) ++ body) p.read.encoding_is
          ∙ ap (λ (f : ℕ). header_bytes r.encoding u.bytes f (f + size_from items) ++ body) (sym w.first_is)
          ∙ ap (λ (n : ℕ). header_bytes r.encoding u.bytes first n ++ body) (sym bytes_are)
          ∙ ap (λ (b : List ℕ). header_bytes r.encoding b first z.bytes ++ body) p.read.bytes_are

      map-there : map' ≡ map_bytes ps ++ zeros (length map - length (map_bytes ps))
      unfolding map_bytes
      map-there =
          fills.bytes (p.holds, p.ends_hold) room-map w.map_blank
          ∙ ap (λ (n : ℕ). map_bytes ps ++ zeros n)
          (let q : length map - place_size * length items ≡ length map - length (run_bytes number_size (columns ps)) = omega (arith, length_run number_size (columns ps), length-columns ps, length-places first items) in q)

      is-written : (to : ℕ) → emitted ≡ Ok to → refusal_from x u lists ps items ≡ 0
      is-written to q =
          ⊎_elim (λ t. eqb_yes {a = refusal_from x u lists ps items} {b = 0} t)
          (λ t. let y : Ok to ≡ Err (refusal_from x u lists ps items) = sym q ∙ it.no room_out (eqb_no {a = refusal_from x u lists ps items} {b = 0} t) in
          let v : ◌≡◌ {A = ℕ} 0 1 = cc in absurd (omega arith))
          (either (eqb (refusal_from x u lists ps items) 0))

      was-written : (to : ℕ) → emitted ≡ Ok to
          → WriteAnswer (rewrite_of x room u entries kept lists items)
          (Ok (Rewritten (record { entries = entries; kept = kept; places = z.places; bytes = z.bytes; ranges = rc; locations = lc; strings = sc }))) (length map) (length out) map' out₂
      unfolding answer_for map_for output_for pad_to
      was-written to q =
          let n : refusal_from x u lists ps items ≡ 0 = is-written to q in
          let c : rewrite_of x room u entries kept lists items ≡ with' x u lists room entries kept items first = case-yes x u lists room entries kept items first w.first_is enough enough-bytes n in
          let ub : length (unit_bytes x u lists ps items) ≡ z.bytes =
          ap length unit-bytes-are ∙ length-append front body ∙ (let y : length front + length body ≡ z.bytes = omega (arith, length_front, wide, bytes_are) in y) in
          let pl : length ps ≡ z.places = length-places first items ∙ sym places_are in
          record {
            told =
                ap (λ (v : ℕ). Ok (Rewritten (record { entries = entries; kept = kept; places = v; bytes = z.bytes; ranges = rc; locations = lc; strings = sc }))) (sym pl)
                ∙ ap (λ (v : ℕ). Ok (Rewritten (record { entries = entries; kept = kept; places = length ps; bytes = v; ranges = rc; locations = lc; strings = sc }))) (sym ub)
                ∙ ap (λ (v : Option ℕ). Ok (Rewritten (record { entries = entries; kept = kept; places = length ps; bytes = length (unit_bytes x u lists ps items); ranges = v; locations = lc; strings = sc }))) (lent-count lists.ranges rl rc l.those_ranges)
                ∙ ap (λ (v : Option ℕ). Ok (Rewritten (record { entries = entries; kept = kept; places = length ps; bytes = length (unit_bytes x u lists ps items); ranges = list_count lists.ranges; locations = v; strings = sc }))) (lent-count lists.locations ll lc l.those_locations)
                ∙ ap (λ (v : Option ℕ). Ok (Rewritten (record { entries = entries; kept = kept; places = length ps; bytes = length (unit_bytes x u lists ps items); ranges = list_count lists.ranges; locations = list_count lists.locations; strings = v }))) (lent-count lists.strings sl sc l.those_strings)
                ∙ sym (ap answer_for c);
            map_left = λ _. map-there ∙ sym (ap (map_for (length map)) c);
            out_left = λ _. out-is front body out out₁ out₂ first length_front w.out_blank header-there.1 (it.fine room_out n).1 ∙ ap (pad_to (length out)) (sym unit-bytes-are) ∙ sym (ap (output_for (length out)) c);
          }

  pub map-short : length map' / place_size < z.places → Goal (Err 13) out
  map-short k x u lists room p l w = by-items x u lists room p l w (Err 13) out (no-map x u lists room p l w k)

  pub out-short : z.places ≤ length map' / place_size → length out < z.bytes → Goal (Err 14) out
  out-short k b x u lists room p l w = by-items x u lists room p l w (Err 14) out (no-out x u lists room p l w k b)

  module _ (few : z.places ≤ length map' / place_size) (less : z.bytes ≤ length out) (out₁ out₂ : List ℕ)
      (bounds : List ℕ) (bounded : (ps : List Place) → MapHeld ps map' → z.places ≡ length ps → Bounds ps bounds)
      (same : length out₁ ≡ length out)
      (at : ℕ) (headed : header_fits r.encoding unit first z.bytes out ≡ true → (at ≡ first) × (out₁ ≡ put out 0 (header_bytes r.encoding unit first z.bytes)))
      (emitted : Result ℕ ℕ)
      (emits : (x : Sections) (u : Unit') (lists : Lists) (ps : List Place) → PassInput x u r s table unit parents ends marks first → first ≡ u.header.first.0
      → MapHeld ps map' → z.places ≡ length ps → Bounds ps bounds → ListsLent lists rl rc ll lc sl sc
      → EmitsAt (refusal_from x u lists ps (kept_from marks 0 [] (items_in x u))) (bytes_from x u lists ps (kept_from marks 0 [] (items_in x u))) out₁ at emitted out₂) where
    pub unit-written : (to : ℕ) → emitted ≡ Ok to → Goal (Ok (Rewritten (record { entries = entries; kept = kept; places = z.places; bytes = z.bytes; ranges = rc; locations = lc; strings = sc }))) out₂
    unit-written to q x u lists room p l w = by-items x u lists room p l w _ out₂ (was-written x u lists room p l w few less out₁ out₂ bounds bounded same at headed emitted emits to q)

    pub unit-refused : (k : ℕ) → emitted ≡ Err k → Goal (Err k) out₂
    unit-refused k q x u lists room p l w = by-items x u lists room p l w _ out₂ (not_written x u lists room p l w few less out₁ out₂ bounds bounded same at headed emitted emits k q)
