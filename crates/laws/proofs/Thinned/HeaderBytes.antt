-- The header of a rewritten unit, byte by byte. Assumes nothing but the answer.
use mathlib.Core.Path.{◌≡◌, ap, sym, ◌∙◌, subst}
use mathlib.Core.Logic.{⊎_elim}
use mathlib.Core.Bool.{Bool}
use mathlib.Core.List.{List, ◌++◌, append_assoc}
use Prim.Native.Nat.{ℕ, ◌+◌, ◌-◌, ◌≤◌}
use native.Mathlib.Omega.{arith}
use lib.ListN.{length, take, drop, length-append, take-append-drop}
use lib.Seq.{length-take-le, take_at, drop_at, take-add, drop-drop}
use Rattle.readers.specs.Numbers.{fixed_bytes, fixed_value}
use Rattle.readers.proofs.Numbers.{length-fixed, fixed-value}
use Rattle.readers.specs.Cursors.{cursor, fixed_at}
use Rattle.std.specs.Prelude.{Some}
use Rattle.readers.proofs.Widths.{fixed-is}
use Rattle.readers.specs.Header.{length_size}
use Rattle.readers.specs.declared.header.UnitHeader.{UnitHeader}
use Rattle.marking.specs.Analysis.{Sections}
use Rattle.rewriting.specs.Places.{size_from}
use Rattle.rewriting.specs.Emission.{header_bytes}
use Rattle.rewriting.specs.Rewriting.{Unit as Unit', Room, Rewrite, rewritten, collect_of, bytes_from, unit_bytes}
use Rattle.rewriting.proofs.WritePass.HeaderEmits.{length-header}
use Rattle.laws.specs.HeaderBytes.{HeaderBytes}
use Rattle.readers.proofs.HeaderLaws.{HeaderLaw}
use Rattle.laws.proofs.Again.Accepted.{accepted-header, accepted-wide}
use Rattle.laws.proofs.Again.CollectLaws.{it, unit, kept, start, again-law, bytes-law}

-- ---- a part of what is taken

drop-taken : (k n : ℕ) (s : List ℕ) → k ≤ length s → drop k (take (k + n) s) ≡ take n (drop k s)
drop-taken k n s h = ap (drop k) (take-add k n s) ∙ drop_at (take k s) (take n (drop k s)) k (length-take-le k s h)

-- k bytes behind n others, of two lists that are the same from an earlier place on
same-part : (old new : List ℕ) (l n k : ℕ) → l ≤ n → n ≤ length old → n ≤ length new → drop l (take (n + k) new) ≡ drop l (take (n + k) old)
    → take k (drop n new) ≡ take k (drop n old)
same-part old new l n k le o s h =
    let d : (z : List ℕ) → drop n z ≡ drop (n - l) (drop l z) =
    (λ z. ap (λ (m : ℕ). drop m z) (let q : n ≡ l + (n - l) = omega arith in q) ∙ sym (drop-drop (n - l) l z)) in
    sym (drop-taken n k new s)
    ∙ d (take (n + k) new)
    ∙ ap (drop (n - l)) h
    ∙ sym (d (take (n + k) old))
    ∙ drop-taken n k old o

-- ---- a rewritten unit

module _ (x : Sections) (room : Room) (type_units : Bool) (section : List ℕ) (w : Rewrite) (answer : collect_of x room type_units section ≡ rewritten w) where
  abbrev h : UnitHeader
  h = (it x room type_units section w answer).header

  abbrev u : Unit'
  u = unit x room type_units section w answer

  abbrev n : ℕ
  n = start x room type_units section w answer

  law : HeaderLaw x.setting.big_endian u.bytes h
  law = accepted-header x room section _ _ _ (it x room type_units section w answer).accepted

  abbrev offset : ℕ
  offset = h.encoding.offset_size

  abbrev front : ℕ
  front = length_size h.encoding

  -- its length field, the rest of its header, its entries
  abbrev field : List ℕ
  field = take (front - offset) u.bytes ++ fixed_bytes h.encoding.big_endian offset (n + size_from (kept x room type_units section w answer) - front)

  abbrev middle : List ℕ
  middle = drop front (take n u.bytes)

  abbrev entries : List ℕ
  entries = bytes_from x u w.lists w.map (kept x room type_units section w answer)

  abbrev pub header-part : List ℕ
  header-part = field ++ middle

  pub output-is : w.output ≡ header-part ++ entries
  unfolding unit_bytes header_bytes
  output-is = (it x room type_units section w answer).output-is

  size_is : length w.output ≡ n + size_from (kept x room type_units section w answer)
  size_is = (again-law x room type_units section w answer).size

  -- the number of the length is no wider than the length field
  wide : offset ≤ front
  wide = accepted-wide x room section _ _ _ (it x room type_units section w answer).accepted

  field-size : length field ≡ front
  field-size =
      length-append (take (front - offset) u.bytes) (fixed_bytes h.encoding.big_endian offset (n + size_from (kept x room type_units section w answer) - front))
      ∙ (let q : length (take (front - offset) u.bytes) + length (fixed_bytes h.encoding.big_endian offset (n + size_from (kept x room type_units section w answer) - front)) ≡ front =
      omega (
        arith,
        wide,
        law.after,
        law.inside,
        length-take-le (front - offset) u.bytes (omega (arith, law.after, law.inside)),
        length-fixed h.encoding.big_endian offset (n + size_from (kept x room type_units section w answer) - front),
      ) in q)

  length-is : take front w.output ≡ take (front - offset) u.bytes ++ fixed_bytes h.encoding.big_endian offset (length w.output - front)
  length-is =
      ap (take front) (output-is ∙ append_assoc field middle entries)
      ∙ take_at field (middle ++ entries) front field-size
      ∙ ap (λ (k : ℕ). take (front - offset) u.bytes ++ fixed_bytes h.encoding.big_endian offset (k - front)) (sym size_is)

  -- the number of the length is read: the size less the length field
  pub length-law : fixed_at h.encoding.big_endian offset w.output (front - offset) ≡ Some (length w.output - front, cursor front)
  length-law =
      let a : List ℕ = take (front - offset) u.bytes in
      let m : List ℕ = fixed_bytes h.encoding.big_endian offset (length w.output - front) in
      let r : List ℕ = drop front w.output in
      let la : length a ≡ front - offset = length-take-le (front - offset) u.bytes (omega (arith, law.after, law.inside)) in
      let lm : length m ≡ offset = length-fixed h.encoding.big_endian offset (length w.output - front) in
      let few : offset ≤ 8 = ⊎_elim (λ y. omega (arith, y)) (λ y. omega (arith, y)) law.known.offset_is in
      let there : front + 7 ≤ length w.output = omega (arith, size_is, law.after) in
      let less : length w.output ≤ length u.bytes = omega (arith, bytes-law x room type_units section w answer) in
      let whole : w.output ≡ a ++ (m ++ r) =
      sym (take-append-drop front w.output) ∙ ap (λ (z : List ℕ). z ++ r) length-is ∙ append_assoc a m r in
      let part : take offset (drop (front - offset) w.output) ≡ m =
      ap (λ (z : List ℕ). take offset (drop (front - offset) z)) whole ∙ ap (take offset) (drop_at a (m ++ r) (front - offset) la) ∙ take_at m r offset lm in
      fixed-is h.encoding.big_endian offset w.output (front - offset) few (omega (arith, wide))
      ∙ ap (λ (z : ℕ). Some (z, cursor (front - offset + offset)))
      (ap (fixed_value h.encoding.big_endian) part ∙ fixed-value h.encoding.big_endian offset (length w.output - front) (omega (arith, law.short)))
      ∙ ap (λ (k : ℕ). Some (length w.output - front, cursor k)) (let q : front - offset + offset ≡ front = omega (arith, wide) in q)

  pub header-size : length header-part ≡ n
  unfolding header_bytes
  header-size =
      length-header h.encoding u.bytes n (n + size_from (kept x room type_units section w answer))
      (omega (arith, law.after)) law.inside wide

  others-are : drop front (take n w.output) ≡ middle
  others-are =
      ap (λ (z : List ℕ). drop front (take n z)) output-is ∙ ap (drop front) (take_at header-part entries n header-size) ∙ drop_at field middle front field-size

  -- "The length field is the new size less 4.", or "less 12" in the 64-bit format, and all else of the header is the old one's, the unit id of unit type 0x05 included
  pub header-bytes-law : HeaderBytes h u.bytes w.output
  header-bytes-law =
      record {
        length_field = length-is;
        length_read = length-law;
        others = others-are;
        unit_id = (λ t.
            let f : n ≡ front + 4 + offset + 8 =
            ⊎_elim (λ y. absurd (omega (arith, y.1.0, t))) (λ y. ⊎_elim (λ y. absurd (omega (arith, y.1.0, t))) (λ y. omega (arith, y.1.1)) y) law.headed in (
              f,
              same-part u.bytes w.output front (front + 4 + offset) 8 (omega arith) (omega (arith, law.inside, f)) (omega (arith, size_is, f))
                  (subst (λ (z : ℕ). drop front (take z w.output) ≡ drop front (take z u.bytes)) f others-are),
            ));
      }
