-- The number of each refusal, as callers see it (documents 01 and 02).
use Rattle.std.specs.Prelude.{ℕ, Bool, true, false, eqb, ◌≡◌, refl}
use Rattle.readers.specs.declared.refusal.Cause.{Cause}
use Rattle.readers.specs.declared.refusal.Cause.TheVariants.{ShortHeader, OutsideDomain, Abbreviations, Entry, ListOrExpression, AddressFlag, AbsoluteReference}
use Rattle.readers.specs.declared.refusal.Cause.TheVariants.{TargetNotKept, TooWide, EntryTableFull, ReferenceTableFull, IndexListShort, MapShort, OutputShort}
use Rattle.readers.specs.declared.refusal.Cause.TheVariants.{PaddedWidth, Graph, AddressTableShort, Treatment, TagOrder}

abbrev pub number_of : Cause → ℕ
number_of ShortHeader = 1
number_of OutsideDomain = 2
number_of Abbreviations = 3
number_of Entry = 4
number_of ListOrExpression = 5
number_of AddressFlag = 6
number_of AbsoluteReference = 7
number_of TargetNotKept = 8
number_of TooWide = 9
number_of EntryTableFull = 10
number_of ReferenceTableFull = 11
number_of IndexListShort = 12
number_of MapShort = 13
number_of OutputShort = 14
number_of PaddedWidth = 15
number_of Graph = 16
number_of AddressTableShort = 17
number_of Treatment = 19
number_of TagOrder = 20

abbrev either : Bool → Cause → Cause → Cause
either true a b = a
either false a b = b

-- back from the number
abbrev pub cause_of : ℕ → Cause
cause_of n =
    either (eqb n 1) ShortHeader (
    either (eqb n 2) OutsideDomain (
    either (eqb n 3) Abbreviations (
    either (eqb n 4) Entry (
    either (eqb n 5) ListOrExpression (
    either (eqb n 6) AddressFlag (
    either (eqb n 7) AbsoluteReference (
    either (eqb n 8) TargetNotKept (
    either (eqb n 9) TooWide (
    either (eqb n 10) EntryTableFull (
    either (eqb n 11) ReferenceTableFull (
    either (eqb n 12) IndexListShort (
    either (eqb n 13) MapShort (
    either (eqb n 14) OutputShort (
    either (eqb n 15) PaddedWidth (
    either (eqb n 16) Graph (
    either (eqb n 17) AddressTableShort (
    either (eqb n 19) Treatment (
    TagOrder))))))))))))))))))

pub cause_of-number_of : (c : Cause) → cause_of (number_of c) ≡ c
cause_of-number_of ShortHeader = refl
cause_of-number_of OutsideDomain = refl
cause_of-number_of Abbreviations = refl
cause_of-number_of Entry = refl
cause_of-number_of ListOrExpression = refl
cause_of-number_of AddressFlag = refl
cause_of-number_of AbsoluteReference = refl
cause_of-number_of TargetNotKept = refl
cause_of-number_of TooWide = refl
cause_of-number_of EntryTableFull = refl
cause_of-number_of ReferenceTableFull = refl
cause_of-number_of IndexListShort = refl
cause_of-number_of MapShort = refl
cause_of-number_of OutputShort = refl
cause_of-number_of PaddedWidth = refl
cause_of-number_of Graph = refl
cause_of-number_of AddressTableShort = refl
cause_of-number_of Treatment = refl
cause_of-number_of TagOrder = refl
