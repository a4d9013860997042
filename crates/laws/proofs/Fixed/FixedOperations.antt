-- What an operation of a location says where fixed addresses count, beside what it says where they do not (document 02, Point 7).
-- Assumes nothing.
use mathlib.Core.Path.{◌≡◌, refl, ap, ap₂, sym, ◌∙◌, subst}
use Prim.Native.Nat.{ℕ}
use native.Mathlib.Omega.{arith}
use mathlib.Core.Bool.{Bool, true, false, not, false≢true}
use mathlib.Core.List.{List, [], ◌∷◌}
use mathlib.Core.Logic.{⊎_elim}
use lib.Dec.{leb, eqb}
use borrow.Author.Tests.{leb-true, eqb-true, eq-eqb}
use Rattle.readers.specs.Choice.{pick, ◌and◌, ◌or◌}
use Rattle.readers.specs.Codes.{DW_OP_addr, DW_OP_addrx, DW_OP_GNU_addr_index}
use Rattle.readers.specs.Operations.{Codes, row_unreadable, row_address, row_address_index, operations, row_among, operation_row}
use Rattle.readers.specs.declared.cursor.Encoding.{Encoding}
use Rattle.readers.specs.declared.cursor.Cursor.{Cursor}
use Rattle.readers.specs.declared.operations.Operation.{Operation}
use Rattle.std.specs.Prelude.{Some, Ok, Result}
use Rattle.marking.specs.Addresses.{is_tombstone, lookup_at}
use Rattle.marking.specs.Members.{Member, here, there}
use Rattle.marking.specs.Walking.{go, stop}
use Rattle.marking.specs.Roots.{RootTurn, on_lookup, operation_live, operation_step}
use Rattle.marking.specs.declared.addresses.Verdict.TheVariants.{Dead}
use Rattle.marking.specs.declared.addresses.Verdict.TheVariants.{Live}
use Rattle.marking.specs.declared.addresses.Verdict.{Verdict}
use Rattle.marking.proofs.Lists.{index_live, address-live}
use Rattle.marking.proofs.Tests.{and-out, or-out}
use Rattle.laws.specs.FixedAddresses.{NoTombstone}

-- ---- the codes of a row

unfoldable is_in : ℕ → List ℕ → Bool
is_in c [] = false
is_in c (k ∷ ks) = eqb c k or is_in c ks

in-member : (c : ℕ) (ks : List ℕ) → is_in c ks ≡ true → Member c ks
unfolding is_in
in-member c [] q = absurd (false≢true q)
in-member c (k ∷ ks) q = ⊎_elim (λ t. here (eqb-true c k t)) (λ t. there (in-member c ks t)) (or-out _ _ q)

-- whatever has row r among these is a single code, one of ks
unfoldable are_all : ℕ → List ℕ → List Codes → Bool
are_all r ks [] = true
are_all r ks (x ∷ xs) = (not (eqb x.row r) or (eqb x.from x.upto and is_in x.from ks)) and are_all r ks xs

where-row : (b c : Bool) → (not b or c) ≡ true → b ≡ true → c ≡ true
unfolding ◌or◌
where-row true c q t = q
where-row false c q t = absurd (false≢true t)

module _ (r : ℕ) (ks : List ℕ) (readable : row_unreadable ≡ r → ⊥) (c : ℕ) where
  code_in : (x : Codes) → (not (eqb x.row r) or (eqb x.from x.upto and is_in x.from ks)) ≡ true → x.row ≡ r
      → (leb x.from c and leb c x.upto) ≡ true → Member c ks
  code_in x a w h =
      let s = and-out _ _ (where-row _ _ a (eq-eqb x.row r w)) in
      let i = and-out _ _ h in
      let k : x.from ≡ c = omega (arith, eqb-true x.from x.upto s.0, leb-true x.from c i.0, leb-true c x.upto i.1) in
      subst (λ (n : ℕ). Member n ks) k (in-member x.from ks s.1)

  by-test : (b : Bool) (x : Codes) (m : ℕ) → (leb x.from c and leb c x.upto) ≡ b
      → (not (eqb x.row r) or (eqb x.from x.upto and is_in x.from ks)) ≡ true → (m ≡ r → Member c ks) → pick b x.row m ≡ r
      → Member c ks
  unfolding pick
  by-test true x m h a k w = code_in x a w h
  by-test false x m h a k w = k w

  -- a code with this row is one of ks
  codes-of : (l : List Codes) → are_all r ks l ≡ true → row_among l c ≡ r → Member c ks
  unfolding are_all row_among
  codes-of [] a q = absurd (readable q)
  codes-of (x ∷ xs) a q =
      let s = and-out _ _ a in by-test (leb x.from c and leb c x.upto) x (row_among xs c) refl s.0 (codes-of xs s.1) q

only_one : (c k : ℕ) → Member c (k ∷ []) → c ≡ k
only_one c k (here q) = q
only_one c k (there m) = elim m [ ]

-- the row of DW_OP_addr is its alone
pub address-code : (c : ℕ) → operation_row c ≡ row_address → c ≡ DW_OP_addr
unfolding operation_row operations are_all is_in ◌and◌ ◌or◌
address-code c q = only_one c DW_OP_addr (codes-of row_address (DW_OP_addr ∷ []) (λ z. omega arith) c operations refl q)

pub code-address : (c : ℕ) → c ≡ DW_OP_addr → operation_row c ≡ row_address
unfolding operation_row operations row_among pick ◌and◌
code-address c q = ap operation_row q

-- that of the indices of the address table is theirs alone
pub index-code : (c : ℕ) → operation_row c ≡ row_address_index → Member c (DW_OP_addrx ∷ DW_OP_GNU_addr_index ∷ [])
unfolding operation_row operations are_all is_in ◌and◌ ◌or◌
index-code c q = codes-of row_address_index (DW_OP_addrx ∷ DW_OP_GNU_addr_index ∷ []) (λ z. omega arith) c operations refl q

pub code-index : (c : ℕ) → Member c (DW_OP_addrx ∷ DW_OP_GNU_addr_index ∷ []) → operation_row c ≡ row_address_index
unfolding operation_row operations row_among pick ◌and◌
code-index c (here q) = ap operation_row q
code-index c (there (here q)) = ap operation_row q
code-index c (there (there m)) = elim m [ ]

-- ---- an operation

-- DW_OP_addr, which alone has its row, with an address that is no tombstone
abbrev pub IsFixed : Encoding → Operation → Type 0
IsFixed e op = (op.row ≡ row_address) × NoTombstone e op

-- what is said where fixed addresses do not count, and where they do
pub data Said (off on : Result Verdict ℕ) (F : Type 0) : Type 0 where
  same : on ≡ off → Said off on F
  more : off ≡ Ok Dead → on ≡ Ok Live → F → Said off on F

module _ (e : Encoding) (table : List ℕ) where
  -- THE judgement with the choice off: document 01's, an index of the table is asked and nothing else says anything
  pub fixed_off : (op : Operation) → operation_live e false table op ≡ pick (eqb op.row row_address_index) (lookup_at table op.first.value) (Ok Dead)
  unfolding operation_live pick ◌and◌
  fixed_off op = refl

  looked : (i : Bool) (l : Result Verdict ℕ) (t u : RootTurn) → on_lookup (pick i l (Ok Dead)) stop t u ≡ pick i (on_lookup l stop t u) u
  unfolding pick on_lookup
  looked true l t u = refl
  looked false l t u = refl

  -- so the step past an operation of a location is the one that was there without the choice
  pub off-step : (live : Bool) (op : Operation)
      → operation_step e false table live (Some op)
      ≡ pick (eqb op.row row_address_index)
      (on_lookup (lookup_at table op.first.value) stop (go (record { at = op.next.at; flag = true }))
      (go (record { at = op.next.at; flag = live })))
      (go (record { at = op.next.at; flag = live }))
  unfolding operation_step
  off-step live op =
      ap (λ (l : Result Verdict ℕ). on_lookup l stop (go (record { at = op.next.at; flag = true })) (go (record { at = op.next.at; flag = live })))
      (fixed_off op)
      ∙ looked (eqb op.row row_address_index) _ _ _

  said : (op : Operation) (i a t : Bool) → eqb op.row row_address_index ≡ i → eqb op.row row_address ≡ a
      → is_tombstone op.first.value e.address_size ≡ t
      → Said (operation_live e false table op) (operation_live e true table op) (IsFixed e op)
  unfolding operation_live pick ◌and◌
  said op true a t p q r = same (rw p)
  said op false false t p q r = same (rw (p, q))
  said op false true true p q r = same (rw (p, q, r))
  said op false true false p q r = more (rw p) (rw (p, q, r)) (eqb-true _ _ q, r)

  -- on it says the same, or live of a fixed address
  pub operation-said : (op : Operation) → Said (operation_live e false table op) (operation_live e true table op) (IsFixed e op)
  operation-said op =
      said op (eqb op.row row_address_index) (eqb op.row row_address) (is_tombstone op.first.value e.address_size) refl refl refl

  pub fixed-live : (op : Operation) → IsFixed e op → operation_live e true table op ≡ Ok Live
  fixed-live op f = sym (address-live e true table op (λ z. omega (arith, f.0)) refl f.0 false (sym f.1) refl)

  -- "as a live addrx does": wherever it stands, what follows is what follows a live index that ends at the same place
  pub as-live-index : (op index : Operation) → op.row ≡ row_address → NoTombstone e op → index.row ≡ row_address_index
      → lookup_at table index.first.value ≡ Ok Live → op.next ≡ index.next → (live : Bool)
      → operation_step e true table live (Some op) ≡ operation_step e true table live (Some index)
  unfolding operation_step on_lookup
  as-live-index op index a f r l n live =
      let t : operation_live e true table index ≡ Ok Live = sym (index_live e true table index r (Ok Live) (sym l)) in
      ap₂ (λ (a : Result Verdict ℕ) (m : Cursor). on_lookup a stop (go (record { at = m.at; flag = true })) (go (record { at = m.at; flag = live })))
      (fixed-live op (a, f) ∙ sym t) n
