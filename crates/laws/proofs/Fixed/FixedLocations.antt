-- The locations of a variable where fixed addresses count, beside the same where they do not (document 02, Point 7). Assumes nothing.
use mathlib.Core.Path.{◌≡◌, refl, ap, sym, ◌∙◌, subst}
use Prim.Native.Nat.{ℕ, zero, suc, ◌-◌, ◌≤◌, ◌<◌}
use native.Mathlib.Omega.{arith}
use mathlib.Core.Bool.{Bool, true, false}
use mathlib.Core.List.{List, [], ◌∷◌}
use mathlib.Core.Logic.{◌⊎◌, inl, inr, ⊎_elim}
use lib.ListN.{length}
use lib.Dec.{eqb}
use borrow.Author.Tests.{eqb-true, eq-eqb}
use Rattle.readers.specs.Choice.{pick, ◌and◌}
use Rattle.readers.specs.Codes.{DW_AT_location, DW_FORM_exprloc}
use Rattle.readers.specs.EntryAttributes.{Valued}
use Rattle.readers.specs.Fields.{part_of}
use Rattle.readers.specs.Steps.{operation_at}
use Rattle.readers.proofs.Steps.{operation-stepped}
use Rattle.readers.specs.declared.cursor.Encoding.{Encoding}
use Rattle.readers.specs.declared.operations.Operation.{Operation}
use Rattle.std.specs.Prelude.{None, Option, Some, Err, Ok, Result}
use Rattle.marking.specs.declared.addresses.Verdict.{Verdict}
use Rattle.marking.specs.declared.addresses.Verdict.TheVariants.{Live, Dead}
use Rattle.marking.specs.Members.{Member, here, there}
use Rattle.marking.specs.Roots.{or_else, operation_live, location_live, locations}
use Rattle.marking.proofs.Lists.{location_from, location-start, location-live, location-dead, location-none, location-less}
use Rattle.marking.proofs.Lists.{operation-met, operation-passed, operation-refused}
use Rattle.marking.proofs.Tests.{split, and_in, and-out}
use Rattle.laws.specs.FixedAddresses.{Outermost, start, past, FixedAddress, FixedLocation}
use Rattle.laws.proofs.Fixed.FixedOperations.{address-code, code-address, IsFixed, Said, same, more, operation-said, fixed-live}

-- a verdict where fixed addresses count is that where they do not, or live by one of them
abbrev pub Counted : Result Verdict ℕ → Result Verdict ℕ → Type 0 → Type 0
Counted off on F = (on ≡ off) ⊎ ((on ≡ Ok Live) × F)

-- ---- one expression

module _ (e : Encoding) (table s : List ℕ) where
  abbrev test : Bool → Result Verdict ℕ
  test fixed = location_live e fixed table s

  -- the test is what follows from a place on, where something live was met or not
  abbrev From : Bool → ℕ → Bool → Type 0
  From fixed at live = test fixed ≡ location_from e fixed table s at live

  at-end : (fixed : Bool) (at : ℕ) → length s ≤ at → (live : Bool) → From fixed at live → test fixed ≡ pick live (Ok Live) (Ok Dead)
  unfolding pick
  at-end fixed at n true h = sym (location-live e fixed table s at true h n refl)
  at-end fixed at n false h = sym (location-dead e fixed table s at false h n refl)

  fixed-here : (at : ℕ) → Outermost e s at → (op : Operation) → operation_at e s at ≡ Some op → IsFixed e op → FixedAddress e s
  fixed-here at o op q f =
      record {
        at = at;
        outermost = o;
        code = address-code _ (sym (operation-stepped e s at op q).code ∙ f.0);
        op = op;
        read = q;
        live = f.1;
      }

  -- what was met so far, off and on
  abbrev Flags : Bool → Bool → Type 0
  Flags a b = (b ≡ a) ⊎ ((b ≡ true) × FixedAddress e s)

  abbrev Both : Type 0
  Both = Counted (test false) (test true) (FixedAddress e s)

  ended : (at : ℕ) → length s ≤ at → (a b : Bool) → Flags a b → From false at a → From true at b → Both
  unfolding pick
  ended at n a b (inl q) f g = inl (at-end true at n b g ∙ ap (λ (c : Bool). pick c (Ok Live) (Ok Dead)) q ∙ sym (at-end false at n a f))
  ended at n a b (inr q) f g = inr (at-end true at n b g ∙ ap (λ (c : Bool). pick c (Ok Live) (Ok Dead)) q.0, q.1)

  module _ (at : ℕ) (i : at < length s) (o : Outermost e s at) (a b : Bool) (flags : Flags a b) (f : From false at a) (g : From true at b) where
    unread : operation_at e s at ≡ None → Both
    unread q = inl (sym (location-none e true table s at b g i _ refl q) ∙ location-none e false table s at a f i _ refl q)

    module _ (op : Operation) (q : operation_at e s at ≡ Some op)
        (next : (a b : Bool) → Flags a b → From false op.next.at a → From true op.next.at b → Both) where
      by-same : (l : Result Verdict ℕ) → l ≡ operation_live e true table op → l ≡ operation_live e false table op → Both
      by-same (Ok Live) u v =
          next true true (inl refl) (operation-met e false table s at a f i _ refl op q (Ok Live) v refl)
          (operation-met e true table s at b g i _ refl op q (Ok Live) u refl)
      by-same (Ok Dead) u v =
          next a b flags (operation-passed e false table s at a f i _ refl op q (Ok Dead) v refl)
          (operation-passed e true table s at b g i _ refl op q (Ok Dead) u refl)
      by-same (Err n) u v =
          inl (sym (operation-refused e true table s at b g i _ refl op q (Err n) u n refl)
          ∙ operation-refused e false table s at a f i _ refl op q (Err n) v n refl)

      by_said : Said (operation_live e false table op) (operation_live e true table op) (IsFixed e op) → Both
      by_said (same r) = by-same (operation_live e true table op) refl r
      by_said (more u v w) =
          next a true (inr (refl, fixed-here at o op q w)) (operation-passed e false table s at a f i _ refl op q (Ok Dead) (sym u) refl)
          (operation-met e true table s at b g i _ refl op q (Ok Live) (sym v) refl)

    by_read : (r : Option Operation) → operation_at e s at ≡ r
        → ((op : Operation) → operation_at e s at ≡ Some op → (c d : Bool) → Flags c d → From false op.next.at c
        → From true op.next.at d → Both)
        → Both
    by_read None q next = unread q
    by_read (Some op) q next = by_said op q (next op q) (operation-said e table op)

  both-from : (k at : ℕ) → length s - at < k → Outermost e s at → (a b : Bool) → Flags a b → From false at a → From true at b → Both
  both-from zero at l o a b flags f g = absurd (omega arith)
  both-from (suc k) at l o a b flags f g =
      ⊎_elim
      (λ i. by_read at i o a b flags f g (operation_at e s at) refl
      (λ op q c d h f' g'. both-from k op.next.at (omega (arith, location-less e true table s at b g i _ refl op q)) (past o q) c d h f' g'))
      (λ n. ended at n a b flags f g) (split at (length s))

  -- the test off and on
  pub location-counted : Counted (location_live e false table s) (location_live e true table s) (FixedAddress e s)
  location-counted =
      both-from (suc (length s)) 0 (omega arith) start false false (inl refl) (location-start e false table s) (location-start e true table s)

  -- ---- a fixed address that it has is met

  -- refused, or as said
  pub data RefusedOr (P : Type 0) : Type 0 where
    refuses : (n : ℕ) → test true ≡ Err n → RefusedOr P
    goes : P → RefusedOr P

  then : {P Q : Type 0} → RefusedOr P → (P → RefusedOr Q) → RefusedOr Q
  then (refuses n r) f = refuses n r
  then (goes p) f = f p

  -- the test comes to a place, with a flag that has P
  record Comes (P : Bool → Type 0) (at : ℕ) : Type 0 where
    pub live : Bool
    pub holds : P live
    pub from : From true at live

  past-operation : (P : Bool → Type 0) → P true → (at : ℕ) (op : Operation) → operation_at e s at ≡ Some op → Comes P at → (l : Result Verdict ℕ)
      → l ≡ operation_live e true table op → RefusedOr (Comes P op.next.at)
  past-operation P t at op q h (Ok Live) u =
      let i : at < length s = (operation-stepped e s at op q).here in
      goes (record { live = true; holds = t; from = operation-met e true table s at h.live h.from i _ refl op q (Ok Live) u refl })
  past-operation P t at op q h (Ok Dead) u =
      let i : at < length s = (operation-stepped e s at op q).here in
      goes (record { live = h.live; holds = h.holds; from = operation-passed e true table s at h.live h.from i _ refl op q (Ok Dead) u refl })
  past-operation P t at op q h (Err n) u =
      let i : at < length s = (operation-stepped e s at op q).here in
      refuses n (sym (operation-refused e true table s at h.live h.from i _ refl op q (Err n) u n refl))

  -- to every place of the outermost level, unless it is refused before
  abbrev Any : Bool → Type 0
  Any live = Unit {0}

  reached : {at : ℕ} → Outermost e s at → RefusedOr (Comes Any at)
  reached start = goes (record { live = false; holds = tt; from = location-start e true table s })
  reached (past {at = at} {op = op} o q) = then (reached o) (λ h. past-operation Any tt at op q h (operation_live e true table op) refl)

  -- from something live on it is live, or refused
  abbrev Met : Bool → Type 0
  Met live = live ≡ true

  live-read : (at : ℕ) → at < length s → Comes Met at → (r : Option Operation) → operation_at e s at ≡ r
      → ((op : Operation) → operation_at e s at ≡ Some op → Comes Met op.next.at → RefusedOr (test true ≡ Ok Live)) → RefusedOr (test true ≡ Ok Live)
  live-read at i h None q on = refuses 5 (sym (location-none e true table s at h.live h.from i _ refl q))
  live-read at i h (Some op) q on = then (past-operation Met refl at op q h (operation_live e true table op) refl) (on op q)

  live-from : (k at : ℕ) → length s - at < k → Comes Met at → RefusedOr (test true ≡ Ok Live)
  live-from zero at l h = absurd (omega arith)
  live-from (suc k) at l h =
      ⊎_elim
      (λ i. live-read at i h (operation_at e s at) refl
      (λ op q g. live-from k op.next.at (omega (arith, location-less e true table s at h.live h.from i _ refl op q)) g))
      (λ n. goes (sym (location-live e true table s at h.live h.from n h.holds))) (split at (length s))

  met : (f : FixedAddress e s) → Comes Any f.at → RefusedOr (test true ≡ Ok Live)
  met f h =
      let o : Operation = f.op in
      let p = operation-stepped e s f.at o f.read in
      let is : IsFixed e o = (p.code ∙ code-address _ f.code, f.live) in
      live-from (suc (length s)) o.next.at (omega arith)
      (record {
        live = true;
        holds = refl;
        from = operation-met e true table s f.at h.live h.from p.here _ refl o f.read (Ok Live) (sym (fixed-live e table o is)) refl;
      })

  not_dead : RefusedOr (test true ≡ Ok Live) → test true ≡ Ok Dead → ⊥
  not_dead (refuses n r) q = let z : ◌≡◌ {A = ℕ} 0 1 = cc in omega arith
  not_dead (goes r) q = let z : ◌≡◌ {A = ℕ} 0 1 = cc in omega arith

  pub location-found : FixedAddress e s → location_live e true table s ≡ Ok Dead → ⊥
  location-found f = not_dead (then (reached f.outermost) (met f))

-- ---- the locations of an entry

else-counted : (v v' w w' : Result Verdict ℕ) (F G H : Type 0) → Counted v v' F → Counted w w' G → (F → H) → (G → H) → Counted (or_else v w) (or_else v' w') H
unfolding or_else
else-counted (Ok Live) v' w w' F G H (inl q) r f g = inl (ap (λ (z : Result Verdict ℕ). or_else z w') q)
else-counted (Ok Dead) v' w w' F G H (inl q) r f g =
    let t : or_else v' w' ≡ w' = ap (λ (z : Result Verdict ℕ). or_else z w') q in ⊎_elim (λ p. inl (t ∙ p)) (λ p. inr (t ∙ p.0, g p.1)) r
else-counted (Err n) v' w w' F G H (inl q) r f g = inl (ap (λ (z : Result Verdict ℕ). or_else z w') q)
else-counted v v' w w' F G H (inr q) r f g = inr (ap (λ (z : Result Verdict ℕ). or_else z w') q.0, f q.1)

else-dead : (v w : Result Verdict ℕ) → or_else v w ≡ Ok Dead → (v ≡ Ok Dead) × (w ≡ Ok Dead)
unfolding or_else
else-dead (Ok Live) w q = let z : ◌≡◌ {A = ℕ} 0 1 = cc in absurd (omega arith)
else-dead (Ok Dead) w q = (refl, q)
else-dead (Err n) w q = let z : ◌≡◌ {A = ℕ} 0 1 = cc in absurd (omega arith)

abbrev is_location : Valued → Bool
is_location a = eqb a.name DW_AT_location and eqb a.value.form DW_FORM_exprloc

module _ (e : Encoding) (table unit : List ℕ) where
  further : {a : Valued} {vs : List Valued} → FixedLocation e unit vs → FixedLocation e unit (a ∷ vs)
  further f = record { location = f.location; among = there f.among; name = f.name; form = f.form; has = f.has }

  this : (a : Valued) (vs : List Valued) → is_location a ≡ true → FixedAddress e (part_of unit a.value.field) → FixedLocation e unit (a ∷ vs)
  this a vs q f =
      let t = and-out _ _ q in
      record { location = a; among = here refl; name = eqb-true _ _ t.0; form = eqb-true _ _ t.1; has = f }

  -- the verdict over a location and what stands behind it, and over what stands behind it alone
  abbrev over : Bool → Valued → List Valued → Result Verdict ℕ
  over fixed a vs = or_else (location_live e fixed table (part_of unit a.value.field)) (locations e fixed table unit vs)

  abbrev rest : Bool → List Valued → Result Verdict ℕ
  rest fixed vs = locations e fixed table unit vs

  by-location : (a : Valued) (vs : List Valued) (c : Bool) → is_location a ≡ c → Counted (rest false vs) (rest true vs) (FixedLocation e unit vs)
      → Counted (pick c (over false a vs) (rest false vs)) (pick c (over true a vs) (rest true vs)) (FixedLocation e unit (a ∷ vs))
  unfolding pick
  by-location a vs true q r = else-counted _ _ _ _ _ _ _ (location-counted e table (part_of unit a.value.field)) r (this a vs q) further
  by-location a vs false q r = ⊎_elim (λ p. inl p) (λ p. inr (p.0, further p.1)) r

  -- the test off and on
  pub locations-counted : (vs : List Valued) → Counted (locations e false table unit vs) (locations e true table unit vs) (FixedLocation e unit vs)
  unfolding locations
  locations-counted [] = inl refl
  locations-counted (a ∷ vs) = by-location a vs (is_location a) refl (locations-counted vs)

  behind : (a : Valued) (vs : List Valued) (c : Bool) → pick c (over true a vs) (rest true vs) ≡ Ok Dead → rest true vs ≡ Ok Dead
  unfolding pick
  behind a vs true q = (else-dead _ _ q).1
  behind a vs false q = q

  among-found : (f : Valued) → is_location f ≡ true → FixedAddress e (part_of unit f.value.field) → (vs : List Valued) → Member f vs
      → rest true vs ≡ Ok Dead → ⊥
  unfolding locations pick
  among-found f t h [] m q = elim m [ ]
  among-found f t h (a ∷ vs) (here s) q =
      let r : over true f vs ≡ Ok Dead =
      subst (λ (c : Bool). pick c (over true f vs) (rest true vs) ≡ Ok Dead) t
      (subst (λ (b : Valued). locations e true table unit (b ∷ vs) ≡ Ok Dead) (sym s) q) in
      location-found e table (part_of unit f.value.field) h (else-dead _ _ r).0
  among-found f t h (a ∷ vs) (there m) q = among-found f t h vs m (behind a vs (is_location a) q)

  pub locations-found : (vs : List Valued) → FixedLocation e unit vs → locations e true table unit vs ≡ Ok Dead → ⊥
  locations-found vs f =
      among-found f.location (and_in (eq-eqb _ _ f.name) (eq-eqb _ _ f.form)) f.has vs f.among
