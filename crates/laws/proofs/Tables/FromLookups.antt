-- Root tests and analyses of one unit by several address tables: what holds of the tables' answers, and is carried on from
-- each step to what follows it, holds of the whole. Assumes nothing.
use mathlib.Core.Path.{◌≡◌, refl, sym, subst}
use Prim.Native.Nat.{ℕ, zero, suc}
use native.Mathlib.Omega.{arith}
use mathlib.Core.Bool.{Bool, true, false}
use mathlib.Core.List.{List, [], ◌∷◌}
use lib.ListN.{length}
use lib.Dec.{ltb}
use Rattle.readers.specs.Choice.{pick, ◌and◌, ◌or◌}
use Rattle.readers.specs.Operations.{row_address_address}
use Rattle.readers.specs.Fields.{row_at}
use Rattle.readers.specs.Steps.{operation_at, list_entry_at}
use Rattle.readers.specs.declared.cursor.Encoding.{Encoding}
use Rattle.std.specs.Prelude.{None, Option, Some, Err, Ok, Result}
use Rattle.readers.specs.declared.cursor.Cursor.{Cursor}
use Rattle.readers.specs.declared.operations.ListStep.{ListStep}
use Rattle.readers.specs.declared.fields.Operands.{Operands}
use Rattle.readers.specs.declared.operations.ListEntry.{ListEntry}
use Rattle.readers.specs.declared.operations.ListStep.TheVariants.{Entry, End}
use Rattle.readers.specs.declared.operations.Operation.{Operation}
use Rattle.readers.specs.declared.attributes.Attribute.{Attribute}
use Rattle.readers.specs.Stream.{Item}
use Rattle.marking.specs.Addresses.{lookup_at}
use Rattle.marking.specs.declared.addresses.Verdict.{Verdict}
use Rattle.marking.specs.declared.addresses.Verdict.TheVariants.{Live, Dead}
use Rattle.marking.specs.Walking.{go, stop, on_next, walk_within, walk}
use Rattle.marking.specs.Roots.{Flagged, place, RootTurn, or_else, on_lookup, range_entry, range_step, ranges_live}
use Rattle.marking.specs.Roots.{operation_live, operation_step, location_live, older_step, older_live, range_pair, pair_step, pairs_live, offset_live, low_pc}
use Rattle.marking.specs.Analysis.{Sections, Rooms, EntryRow, Analysed, analysed, refused as not_analysed, onto, on_verdict}
use Rattle.marking.specs.Analysis.{Reached, analyse_items, analysis_of}
use Rattle.laws.specs.AddressTables.{with_table}
use Rattle.laws.specs.RefusalNumbers.{OneOf}
use Rattle.laws.proofs.Refusals.ReaderRefusals.{is_one_of, are_of, one_of, wider}
use Rattle.laws.proofs.Tables.BySeveralTables.{pick-of, entry_numbers_but_table, Verdicts, Analyses, items-by, analysis-by}
use Rattle.marking.specs.KeepList.{treatment_of, treated}
use Rattle.laws.proofs.Keep.Treatments.{live-decided, dead-decided, was-refused}

-- a value that is no refusal
abbrev pub NoRefusal : {X : Type 0} → (ℕ → X) → X → Type 0
NoRefusal refuse c = (n : ℕ) → c ≡ refuse n → ⊥

-- values, one by each table; `refuse` makes a refusal of its number, and others are the numbers that are not the table's
pub record Carried {I : Type 0} (table : I → List ℕ) (others : List ℕ) (Holds : (X : Type 0) → (ℕ → X) → (I → X) → Type 0) : Type 1 where
  pub of-value : {X : Type 0} (refuse : ℕ → X) (c : X) → NoRefusal refuse c → Holds X refuse (λ i. c)
  pub of-refusal : {X : Type 0} (refuse : ℕ → X) (n : ℕ) → OneOf others n → Holds X refuse (λ i. refuse n)
  pub of-then : {X Y : Type 0} (refuse : ℕ → X) (refuse' : ℕ → Y) (f : I → X) (g : I → X → Y) → Holds X refuse f
      → ((i : I) (n : ℕ) → g i (refuse n) ≡ refuse' n) → ((c : X) → NoRefusal refuse c → Holds Y refuse' (λ i. g i c))
      → Holds Y refuse' (λ i. g i (f i))
  pub of-lookup : (index : ℕ) → Holds (Result Verdict ℕ) Err (λ i. lookup_at (table i) index)

alive-no-failure : NoRefusal Err (Ok Live)
alive-no-failure n q = let z : ◌≡◌ {A = ℕ} 0 1 = cc in omega arith

not-alive-no-failure : NoRefusal Err (Ok Dead)
not-alive-no-failure n q = let z : ◌≡◌ {A = ℕ} 0 1 = cc in omega arith

pub live-no-refusal : NoRefusal Err (Ok Live)
live-no-refusal = live-decided

pub dead-no-refusal : NoRefusal Err (Ok Dead)
dead-no-refusal = dead-decided

pub rows-no-refusal : (rows : List EntryRow) → NoRefusal not_analysed (analysed rows)
rows-no-refusal rows n q = let z : ◌≡◌ {A = ℕ} 0 1 = cc in omega arith

abbrev ends : ℕ → RootTurn
ends n = stop (Err n)

go-no-refusal : (p : Flagged) → NoRefusal ends (go p)
go-no-refusal p n q = let z : ◌≡◌ {A = ℕ} 0 1 = cc in omega arith

live-no-end : NoRefusal ends (stop (Ok Live))
live-no-end n q = let z : ◌≡◌ {A = ℕ} 0 1 = cc in omega arith

dead-no-end : NoRefusal ends (stop (Ok Dead))
dead-no-end n q = let z : ◌≡◌ {A = ℕ} 0 1 = cc in omega arith

module _ {I : Type 0} {table : I → List ℕ} {others : List ℕ} {Holds : (X : Type 0) → (ℕ → X) → (I → X) → Type 0}
    (c : Carried table others Holds) where
  abbrev Told : (I → Result Verdict ℕ) → Type 0
  Told v = Holds (Result Verdict ℕ) Err v

  abbrev TurnTold : (I → RootTurn) → Type 0
  TurnTold t = Holds RootTurn ends t

  live-told : Told (λ i. (Ok Live))
  live-told = c.of-value Err (Ok Live) live-no-refusal

  dead-told : Told (λ i. (Ok Dead))
  dead-told = c.of-value Err (Ok Dead) dead-no-refusal

  go-told : (p : Flagged) → TurnTold (λ i. go p)
  go-told p = c.of-value ends (go p) (go-no-refusal p)

  stop-live : TurnTold (λ i. stop (Ok Live))
  stop-live = c.of-value ends (stop (Ok Live)) live-no-end

  stop-dead : TurnTold (λ i. stop (Ok Dead))
  stop-dead = c.of-value ends (stop (Ok Dead)) dead-no-end

  -- an index that is asked, and what follows if it is live, if it is dead
  module _ {X : Type 0} (refuse : Result Verdict ℕ → X) (a b : X) (p : Holds X (λ n. refuse (Err n)) (λ i. a))
      (q : Holds X (λ n. refuse (Err n)) (λ i. b)) where
    by_answer : (l : Result Verdict ℕ) → NoRefusal Err l → Holds X (λ n. refuse (Err n)) (λ i. on_lookup l refuse a b)
    unfolding on_lookup
    by_answer (Ok Live) never = p
    by_answer (Ok Dead) never = q
    by_answer (Err n) never = absurd (never n refl)

    looked : (l : I → Result Verdict ℕ) → Holds (Result Verdict ℕ) Err l → Holds X (λ n. refuse (Err n)) (λ i. on_lookup (l i) refuse a b)
    unfolding on_lookup
    looked l h = c.of-then Err (λ n. refuse (Err n)) l (λ i l. on_lookup l refuse a b) h (λ i n. refl) by_answer

    asked : (index : ℕ) → Holds X (λ n. refuse (Err n)) (λ i. on_lookup (lookup_at (table i) index) refuse a b)
    asked index = looked (λ i. lookup_at (table i) index) (c.of-lookup index)

  -- ---- walks

  by_turn : (k : I → Flagged → Result Verdict ℕ) → ((p : Flagged) → Told (λ i. k i p)) → (t : RootTurn) → NoRefusal ends t
      → Told (λ i. on_next t (k i))
  unfolding on_next
  by_turn k on (go p) never = on p
  by_turn k on (stop (Ok Live)) never = live-told
  by_turn k on (stop (Ok Dead)) never = dead-told
  by_turn k on (stop (Err n)) never = absurd (never n refl)

  module _ (f : I → Flagged → RootTurn) (each : (p : Flagged) → TurnTold (λ i. f i p)) where
    within-told : (k : ℕ) (p : Flagged) → Told (λ i. walk_within k (f i) (Ok Dead) p)
    unfolding walk_within on_next
    within-told zero p = dead-told
    within-told (suc k) p =
        c.of-then ends Err (λ i. f i p) (λ i t. on_next t (λ q. walk_within k (f i) (Ok Dead) q)) (each p) (λ i n. refl)
        (by_turn (λ i q. walk_within k (f i) (Ok Dead) q) (λ q. within-told k q))

    walk-told : (end : ℕ) (p : Flagged) → Told (λ i. walk place end (f i) (Ok Dead) p)
    unfolding walk
    walk-told end p = within-told _ p

  -- ---- the root test: 5 where something cannot be read, and what the table says

  module _ (five : OneOf others 5) (e : Encoding) where
    abbrev turn-pick : (b : Bool) (f g : I → RootTurn) → TurnTold f → TurnTold g → TurnTold (λ i. pick b (f i) (g i))
    turn-pick b f g p q = pick-of TurnTold b f g p q

    older-turn : (t : Option ListStep) → TurnTold (λ i. older_step t)
    unfolding older_step
    older-turn (Some (Entry x)) = turn-pick _ _ _ (go-told _) stop-live
    older-turn (Some End) = stop-dead
    older-turn None = c.of-refusal ends 5 five

    older-told : (s : List ℕ) (o : Option Cursor) → Told (λ i. older_live e s o)
    unfolding older_live
    older-told s (Some d) = walk-told (λ i p. older_step (list_entry_at e false s p.at)) (λ p. older-turn _) (length s) _
    older-told s None = live-told

    pair_turn_lem : (dead : Bool) (t : Option Operands) → TurnTold (λ i. pair_step e dead t)
    unfolding pair_step range_pair
    pair_turn_lem dead (Some r) = turn-pick _ _ _ stop-dead (turn-pick _ _ _ (go-told _) (turn-pick _ _ _ (go-told _) stop-live))
    pair_turn_lem dead None = c.of-refusal ends 5 five

    pairs-told : (s : List ℕ) (o : Option Cursor) → Told (λ i. pairs_live e s o)
    unfolding pairs_live
    pairs-told s (Some d) =
        walk-told (λ i p. pick (ltb p.at (length s)) (pair_step e p.flag (row_at e s p.at row_address_address)) (stop (Ok Dead)))
        (λ p. turn-pick _ _ _ (pair_turn_lem _ _) stop-dead) (length s) _
    pairs-told s None = live-told

    offset-told : (s : List ℕ) (o : Option Cursor) → Told (λ i. offset_live e s o)
    unfolding offset_live
    offset-told s o = pick-of Told _ _ _ (pairs-told s o) (older-told s o)

    entry-turn : (dead : Bool) (x : ListEntry) → TurnTold (λ i. range_entry e (table i) dead x)
    unfolding range_entry
    entry-turn dead x =
        turn-pick _ _ _ (asked stop _ _ (go-told _) (go-told _) _)
        (turn-pick _ _ _ (asked stop _ _ stop-live (go-told _) _)
        (turn-pick _ _ _ (turn-pick _ _ _ (go-told _) stop-live)
        (turn-pick _ _ _ (go-told _)
        (turn-pick _ _ _ (go-told _) stop-live))))

    range-turn : (dead : Bool) (t : Option ListStep) → TurnTold (λ i. range_step e (table i) dead t)
    unfolding range_step
    range-turn dead (Some (Entry x)) = entry-turn dead x
    range-turn dead (Some End) = stop-dead
    range-turn dead None = c.of-refusal ends 5 five

    ranges-told : (s : List ℕ) (o : Option Cursor) → Told (λ i. ranges_live e (table i) s o)
    unfolding ranges_live
    ranges-told s (Some d) =
        walk-told (λ i p. range_step e (table i) p.flag (list_entry_at e false s p.at)) (λ p. range-turn p.flag _) (length s) _
    ranges-told s None = live-told

    operation-told : (counted : Bool) (op : Operation) → Holds (Result Verdict ℕ) Err (λ i. operation_live e counted (table i) op)
    unfolding operation_live
    operation-told counted op =
        pick-of (Holds (Result Verdict ℕ) Err) _ _ _ (c.of-lookup _)
        (pick-of (Holds (Result Verdict ℕ) Err) _ _ _ (c.of-value Err (Ok Live) alive-no-failure) (c.of-value Err (Ok Dead) not-alive-no-failure))

    operation-turn : (counted live : Bool) (o : Option Operation) → TurnTold (λ i. operation_step e counted (table i) live o)
    unfolding operation_step
    operation-turn counted live (Some op) =
        looked stop _ _ (go-told _) (go-told _) (λ i. operation_live e counted (table i) op) (operation-told counted op)
    operation-turn counted live None = c.of-refusal ends 5 five

    end-turn : (live : Bool) → TurnTold (λ i. stop (pick live (Ok Live) (Ok Dead)))
    unfolding pick
    end-turn true = stop-live
    end-turn false = stop-dead

    location-told : (counted : Bool) (s : List ℕ) → Told (λ i. location_live e counted (table i) s)
    unfolding location_live
    location-told counted s =
        walk-told
        (λ i p. pick (ltb p.at (length s)) (operation_step e counted (table i) p.flag (operation_at e s p.at)) (stop (pick p.flag (Ok Live) (Ok Dead))))
        (λ p. turn-pick _ _ _ (operation-turn counted p.flag _) (end-turn p.flag)) (length s) _

    low_told : (v : Attribute) → Told (λ i. low_pc e (table i) v)
    unfolding low_pc
    low_told v =
        pick-of Told _ _ _ (asked (λ r. r) (Ok Live) (Ok Dead) live-told dead-told _)
        (pick-of Told _ _ _ (pick-of Told _ _ _ dead-told live-told) live-told)

  or-else : (w : I → Result Verdict ℕ) → Told w → (u : Result Verdict ℕ) → NoRefusal Err u → Told (λ i. or_else u (w i))
  unfolding or_else
  or-else w q (Ok Live) never = live-told
  or-else w q (Ok Dead) never = q
  or-else w q (Err n) never = absurd (never n refl)

  else-told : (v w : I → Result Verdict ℕ) → Told v → Told w → Told (λ i. or_else (v i) (w i))
  unfolding or_else
  else-told v w p q = c.of-then Err Err v (λ i u. or_else u (w i)) p (λ i n. refl) (or-else w q)

  pub verdicts-told : (counted : Bool) → OneOf others 5 → Verdicts (λ i. counted) table (λ v. Holds (Result Verdict ℕ) Err v)
  verdicts-told counted five =
      record {
        of_live = live-told;
        of-dead = dead-told;
        of-else = else-told;
        of-low-pc = λ e a. low_told five e a;
        of-location = λ e s. location-told five e counted s;
        of-ranges = λ e s o. ranges-told five e s o;
        of-offset = λ e s o. offset-told five e s o;
      }

  -- a verdict that is treated
  by-treatment : (k : ℕ) (v : Result Verdict ℕ) → NoRefusal Err v → Holds (Result Verdict ℕ) Err (λ i. treated k v)
  by-treatment k v never = c.of-value Err (treated k v) (λ n q. never n (was-refused k v n q))

  treatment-told : (k : ℕ) (v : I → Result Verdict ℕ) → Holds (Result Verdict ℕ) Err v → Holds (Result Verdict ℕ) Err (λ i. treated k (v i))
  unfolding treated
  treatment-told k v p = c.of-then Err Err v (λ i w. treated k w) p (λ i n. refl) (by-treatment k)

  -- ---- the analysis: an entry is a root by each of the tables, or by none

  record Constant (root : I → ℕ) : Type 0 where
    pub is : ℕ
    pub by : root ≡ (λ i. is)

  by-verdict : (k : I → ℕ → Analysed) → ((root : I → ℕ) → Constant root → Holds Analysed not_analysed (λ i. k i (root i)))
      → (v : Result Verdict ℕ) → NoRefusal Err v → Holds Analysed not_analysed (λ i. on_verdict v (k i))
  unfolding on_verdict
  by-verdict k each (Ok Live) never = each (λ i. 1) (record { is = 1; by = refl })
  by-verdict k each (Ok Dead) never = each (λ i. 0) (record { is = 0; by = refl })
  by-verdict k each (Err n) never = absurd (never n refl)

  one-onto : (r : EntryRow) (a : Analysed) → NoRefusal not_analysed a → Holds Analysed not_analysed (λ i. onto r a)
  unfolding onto
  one-onto r (analysed rows) never = c.of-value not_analysed _ (rows-no-refusal _)
  one-onto r (not_analysed n) never = absurd (never n refl)

  rows_told : ((n : ℕ) → OneOf entry_numbers_but_table n → OneOf others n)
      → Analyses (λ v. Holds (Result Verdict ℕ) Err v) Constant (λ a. Holds Analysed not_analysed a)
  unfolding on_verdict onto
  rows_told among =
      record {
        of_end = c.of-value not_analysed (analysed []) (rows-no-refusal []);
        of-refused = λ n o. c.of-refusal not_analysed n (among n o);
        of-verdict = λ v p k each. c.of-then Err not_analysed v (λ i u. on_verdict u (k i)) p (λ i n. refl) (by-verdict k each);
        of-onto = λ offset parent names root r a q.
            subst
            (λ (f : I → ℕ). Holds Analysed not_analysed (λ i. onto (record { offset = offset; parent = parent; root = f i; names = names }) (a i)))
            (sym r.by)
            (c.of-then not_analysed not_analysed a
            (λ i b. onto (record { offset = offset; parent = parent; root = r.is; names = names }) b) q (λ i n. refl) (one-onto _));
      }

  pub items-told : ((n : ℕ) → OneOf entry_numbers_but_table n → OneOf others n) → (x : Sections) (e : Encoding) (unit : List ℕ) (room : Rooms) (p : Reached)
      (is : List Item) (whole : Bool) → Holds Analysed not_analysed (λ i. analyse_items e (with_table x (table i)) unit room p is whole)
  unfolding is_one_of ◌or◌
  items-told among x =
      let counted : Bool = x.setting.fixed_addresses in
      items-by (λ i. counted) table (verdicts-told counted (among 5 (one_of entry_numbers_but_table 5 tt))) (rows_told among) (λ i. x.keep)
      (λ tag. treatment-told (treatment_of x.keep tag)) x

  -- 19, 20, 1 to 3, and those of the entries
  pub analysis-told : ((n : ℕ) → OneOf (19 ∷ 20 ∷ 1 ∷ 2 ∷ 3 ∷ entry_numbers_but_table) n → OneOf others n) → (x : Sections) (section : List ℕ) (room : Rooms)
      → Holds Analysed not_analysed (λ i. analysis_of (with_table x (table i)) section room)
  unfolding is_one_of are_of ◌or◌ ◌and◌
  analysis-told among x section room =
      let counted : Bool = x.setting.fixed_addresses in
      analysis-by (λ i. counted) table (verdicts-told counted (among 5 (one_of _ 5 tt))) (rows_told (λ n o. among n (wider entry_numbers_but_table _ n tt o)))
      treatment-told x (λ n o. c.of-refusal not_analysed n (among n (wider (19 ∷ 20 ∷ 1 ∷ 2 ∷ 3 ∷ []) _ n tt o))) section room
