-- "A refusal carries a number of document 01": that of the references of an entry is 5 or 7. Assumes nothing.
use mathlib.Core.Path.{◌≡◌, subst}
use Prim.Native.Nat.{ℕ}
use mathlib.Core.Bool.{true, false}
use mathlib.Core.List.{List, [], ◌∷◌}
use Rattle.readers.specs.Choice.{◌or◌}
use Rattle.readers.proofs.Choice.{pick-either}
use Rattle.laws.specs.RefusalNumbers.{ScanRefusal}
use Rattle.readers.specs.declared.cursor.Encoding.{Encoding}
use Rattle.std.specs.Prelude.{Bool, None, Option, Some}
use Rattle.readers.specs.declared.cursor.Cursor.{Cursor}
use Rattle.readers.specs.declared.operations.ListStep.{ListStep}
use Rattle.readers.specs.declared.operations.ListEntry.{ListEntry}
use Rattle.readers.specs.declared.operations.ListStep.TheVariants.{Entry, End}
use Rattle.laws.proofs.Refusals.ReaderRefusals.{is_one_of, one_of}
use Rattle.readers.specs.EntryAttributes.{Valued}
use Rattle.marking.specs.EntryReferences.{ReferencesFound, found, refused as refused_after, after, and_then, walk_found, expression_found, ListReached, location_found, on_location, location_step, list_found, Locations, attribute_found, attributes_found}
use Rattle.laws.proofs.Refusals.WalkRefusals.{NextNumbered, walk-numbered}

unfoldable pub FoundNumbered : ReferencesFound → Type 0
FoundNumbered (found xs) = Unit {0}
FoundNumbered (refused_after xs n) = ScanRefusal n

found-numbered : (xs : List ℕ) → FoundNumbered (found xs)
unfolding FoundNumbered
found-numbered xs = tt

no-numbered : (xs : List ℕ) (n : ℕ) → ScanRefusal n → FoundNumbered (refused_after xs n)
unfolding FoundNumbered
no-numbered xs n q = q

no-five : ScanRefusal 5
unfolding is_one_of ◌or◌
no-five = one_of _ 5 tt

no_seven : ScanRefusal 7
unfolding is_one_of ◌or◌
no_seven = one_of _ 7 tt

after-numbered : (xs : List ℕ) (f : ReferencesFound) → FoundNumbered f → FoundNumbered (after xs f)
unfolding after FoundNumbered
after-numbered xs (found ys) q = tt
after-numbered xs (refused_after ys n) q = q

then-numbered : (f g : ReferencesFound) → FoundNumbered f → FoundNumbered g → FoundNumbered (and_then f g)
unfolding and_then FoundNumbered
then-numbered (found xs) g p q = after-numbered xs g q
then-numbered (refused_after xs n) g p q = p

walk-found-numbered : (xs : List ℕ) (w : Option (ℕ × Bool)) → FoundNumbered (walk_found xs w)
unfolding walk_found FoundNumbered
walk-found-numbered xs None = no-five
walk-found-numbered xs (Some (n, true)) = no_seven
walk-found-numbered xs (Some (n, false)) = tt

expression-numbered : (e : Encoding) (s : List ℕ) → FoundNumbered (expression_found e s)
unfolding expression_found
expression-numbered e s = walk-found-numbered _ _

located-numbered : (e : Encoding) (s : List ℕ) (x : ListEntry) → FoundNumbered (location_found e s x)
unfolding location_found
located-numbered e s x = pick-either FoundNumbered _ _ _ (λ _. found-numbered _) (λ _. expression-numbered e _)

on-numbered : (sofar : List ℕ) (x : ListEntry) (f : ReferencesFound) → FoundNumbered f → NextNumbered {S = ListReached} FoundNumbered (on_location sofar x f)
unfolding on_location NextNumbered FoundNumbered
on-numbered sofar x (found ys) q = tt
on-numbered sofar x (refused_after ys n) q = q

location-step-numbered : (e : Encoding) (s sofar : List ℕ) (t : Option ListStep) → NextNumbered {S = ListReached} FoundNumbered (location_step e s sofar t)
unfolding location_step NextNumbered FoundNumbered
location-step-numbered e s sofar (Some (Entry x)) = on-numbered sofar x _ (located-numbered e s x)
location-step-numbered e s sofar (Some End) = tt
location-step-numbered e s sofar None = no-five

list-numbered : (e : Encoding) (s : List ℕ) (o : Option Cursor) → FoundNumbered (list_found e s o)
unfolding list_found
list-numbered e s (Some c) = walk-numbered {S = ListReached} FoundNumbered _ _ (λ p. location-step-numbered e s _ _) (found-numbered []) _ _ _
list-numbered e s None = no-numbered [] 5 no-five

attribute-numbered : (e : Encoding) (x : Locations) (a : Valued) → FoundNumbered (attribute_found e x a)
unfolding attribute_found
attribute-numbered e x a =
    pick-either FoundNumbered _ _ _ (λ _. found-numbered _)
    (λ _. pick-either FoundNumbered _ _ _ (λ _. no-numbered [] 7 no_seven)
    (λ _. pick-either FoundNumbered _ _ _ (λ _. found-numbered _)
    (λ _. pick-either FoundNumbered _ _ _ (λ _. expression-numbered e _)
    (λ _. pick-either FoundNumbered _ _ _ (λ _. found-numbered _)
    (λ _. pick-either FoundNumbered _ _ _ (λ _. list-numbered e _ _)
    (λ _. pick-either FoundNumbered _ _ _ (λ _. list-numbered e _ _) (λ _. found-numbered _)))))))

pub attributes-numbered : (e : Encoding) (x : Locations) (vs : List Valued) → FoundNumbered (attributes_found e x vs)
unfolding attributes_found
attributes-numbered e x [] = found-numbered []
attributes-numbered e x (a ∷ vs) = then-numbered _ _ (attribute-numbered e x a) (attributes-numbered e x vs)

pub scan-refusal : (e : Encoding) (x : Locations) (vs : List Valued) (xs : List ℕ) (n : ℕ) → attributes_found e x vs ≡ refused_after xs n → ScanRefusal n
unfolding FoundNumbered
scan-refusal e x vs xs n q = subst FoundNumbered q (attributes-numbered e x vs)
